-- `slotset::scan::count` meets its contract. Assumes nothing.
use mathlib.Core.Path.{◌≡◌, ap, ◌∙◌}
use Prim.Native.Nat.{◌+◌, ◌*◌, ◌/◌, ◌%◌}
use native.Mathlib.Omega.{arith}
use Rattle.slotset.specs.Slots.{slot, size}
use Rattle.slotset.proofs.Counts.{count_add}
use Rattle.slotset.proofs.scan.count.Goals as goal

pub returns-then-len-eq-SLOTS_MOST : goal.returns-then-len-eq-SLOTS_MOST
returns-then-len-eq-SLOTS_MOST c =
    let a = c.args in
    let e : 16 * 64 ≡ a.len = omega (arith, c.if-len-eq-SLOTS_MOST.true) in
    c.count_words.ensures.0 ∙ ap (size (slot a.words.now a.base)) e

pub returns-then-rest-gt0 : goal.returns-then-rest-gt0
returns-then-rest-gt0 c =
    let b = c in
    let a = b.args in
    let len = a.len in
    let f = slot a.words.now a.base in
    let e : len / 64 * 64 + len % 64 ≡ len = omega arith in
    let more = count_add a.words.now a.base (len / 64) (len % 64) (omega arith) in
    omega (arith, b.count_words-n.ensures.0, c.ones_below.ensures.0, more, ap (size f) e)

pub returns : goal.returns
returns c =
    let e : c.args.len / 64 * 64 ≡ c.args.len = omega arith in
    c.count_words-n.ensures.0 ∙ ap (size _) e
