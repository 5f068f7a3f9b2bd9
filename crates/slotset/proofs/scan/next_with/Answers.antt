-- `slotset::scan::next_with` meets its contract. Assumes nothing.
use mathlib.Core.Path.{sym, ◌∙◌}
use native.Mathlib.Omega.{arith}
use Rattle.slotset.proofs.Scans.{next-end, word_next, word-found}
use Rattle.slotset.proofs.scan.next_with.Goals as goal

pub returns-then-k-eq64 : goal.returns-then-k-eq64
returns-then-k-eq64 c =
    let b = c in
    c.next_in_words.ensures ∙ sym (word_next _ _ _ _ _ _ _ b.first_bit-k.ensures _ (omega arith) c.if-k-eq64.true)

pub returns-then-from-len : goal.returns-then-from-len
returns-then-from-len c =
    let b = c in
    c.found_below.ensures ∙ sym (word-found _ _ _ _ _ _ _ b.first_bit-k.ensures _ (omega arith) c.if-k-eq64.false)

pub returns : goal.returns
returns c = sym (next-end _ _ _ _ c.if-from-len.false)
