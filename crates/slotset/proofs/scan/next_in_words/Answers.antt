-- `slotset::scan::next_in_words` meets its contract. The invariant: the answer from word `first` on is the answer from word j on.
-- Assumes nothing.
use mathlib.Core.Path.{refl, sym, ◌∙◌}
use native.Mathlib.Omega.{arith}
use Rattle.slotset.proofs.Scans.{next-end, word_next, word-found}
use Rattle.slotset.proofs.scan.next_in_words.Goals as goal

pub loop-j-init : goal.loop-j-init
loop-j-init c = refl

pub loop-j-preserved : goal.loop-j-preserved
loop-j-preserved c = c.loop-j.invariant ∙ word_next _ _ _ _ _ _ _ c.first_bit-k.ensures _ (omega arith) c.if-k-ne64.false

pub returns-then-k-ne64 : goal.returns-then-k-ne64
returns-then-k-ne64 c =
    c.found_below.ensures
    ∙ sym (c.loop-j.invariant ∙ word-found _ _ _ _ _ _ _ c.first_bit-k.ensures _ (omega arith) c.if-k-ne64.true)

pub returns : goal.returns
returns c = sym (c.loop-j.invariant ∙ next-end _ _ _ _ (omega (arith, c.loop-j-test.false)))
