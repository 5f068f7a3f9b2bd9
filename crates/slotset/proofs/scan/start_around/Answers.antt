-- `slotset::scan::start_around` meets its contract. Assumes nothing.
use mathlib.Core.Path.{◌≡◌, sym, ap, ◌∙◌}
use native.Mathlib.Omega.{arith}
use Prim.Native.Nat.{◌+◌, ◌-◌, ◌*◌, ◌/◌}
use Rattle.slotset.specs.Runs.{start_of}
use Rattle.slotset.proofs.Scans.{word-before, word-last}
use Rattle.slotset.proofs.scan.start_around.Goals as goal

pub returns-then-k-eq0 : goal.returns-then-k-eq0
returns-then-k-eq0 c =
    let b = c in
    c.start_in_words.ensures
    ∙ ap start_of (sym (word-before _ _ _ _ _ _ (omega arith) b.last_bit-k.ensures _ (omega arith) c.if-k-eq0.true))

pub returns : goal.returns
returns c =
    let b = c in
    let j = b.args.i / 64 in
    let k = b.last_bit-k.result in
    let q : j * 64 + k ≡ j * 64 + k - 1 + 1 = omega (arith, c.if-k-eq0.false) in
    q ∙ ap start_of (sym (word-last _ _ _ _ _ _ (omega arith) b.last_bit-k.ensures _ (omega arith) c.if-k-eq0.false))
