-- `slotset::scan::last_below` meets its contract. Assumes nothing.
use mathlib.Core.Path.{◌≡◌, sym, ap, ◌∙◌}
use native.Mathlib.Omega.{arith}
use Rattle.slotset.specs.Search.{down, last_below}
use Rattle.slotset.proofs.Scans.{word-before, word-last}
use Rattle.slotset.proofs.scan.last_below.Goals as goal

pub returns-then-k-eq0 : goal.returns-then-k-eq0
unfolding last_below
returns-then-k-eq0 c =
    let b = c in
    let end = b.least-end in
    c.last_in_words.ensures
    ∙ sym (ap (down _ _) (sym end.ensures)
    ∙ word-before _ _ _ _ _ _ (omega arith) b.last_bit-k.ensures end.result (omega arith) c.if-k-eq0.true)

pub returns-then-end-gt0 : goal.returns-then-end-gt0
unfolding last_below
returns-then-end-gt0 c =
    let b = c in
    let end = b.least-end in
    sym (ap (down _ _) (sym end.ensures)
    ∙ word-last _ _ _ _ _ _ (omega arith) b.last_bit-k.ensures end.result (omega arith) c.if-k-eq0.false)

pub returns : goal.returns
unfolding last_below down
returns c =
    let e : c.least-end.result ≡ 0 = omega arith in
    sym (ap (down _ _) (sym c.least-end.ensures ∙ e))
