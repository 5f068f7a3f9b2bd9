-- `slotset::row::row_refusal` meets its contract. Assumes nothing.
use mathlib.Core.Path.{refl, sym, ◌∙◌}
use Rattle.paper.proofs.Logic.{four}
use Rattle.paper.proofs.Rows.{next-pass, link, ends, checked, checked-more}
use Rattle.slotset.specs.Answers.{sets_row, person_row}
use Rattle.slotset.proofs.row.row_refusal.Goals as goal

pub returns-then-row_ok : goal.returns-then-row_ok
unfolding person_row sets_row
returns-then-row_ok c =
    let h = four _ _ _ _ (sym c.row_ok.ensures ∙ c.if-row_ok.true) in
    checked _ refl c.accepted.ensures
    (link (sym (next-pass _ _ h.0)) (link (sym (next-pass _ _ h.2)) (link (sym (next-pass _ _ h.1))
    (link (sym (next-pass _ _ h.3)) ends))))

pub returns : goal.returns
unfolding person_row sets_row
returns c = checked-more _ _ refl c.sets_refusal.ensures (link c.check.ensures ends)
