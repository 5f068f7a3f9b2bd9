-- `slotset::one::set_refusal` meets its contract. Assumes nothing.
use mathlib.Core.Path.{refl, sym, ◌∙◌}
use Rattle.paper.proofs.Logic.{both}
use Rattle.paper.proofs.Rows.{next-pass, link, ends, checked}
use Rattle.slotset.specs.Answers.{set_row}
use Rattle.slotset.proofs.one.set_refusal.Goals as goal

pub returns-then-set_ok : goal.returns-then-set_ok
unfolding set_row
returns-then-set_ok c =
    let h = both _ _ (sym c.set_ok.ensures ∙ c.if-set_ok.true) in
    checked _ refl c.accepted.ensures (link (sym (next-pass _ _ h.0)) (link (sym (next-pass _ _ h.1)) ends))

pub returns : goal.returns
unfolding set_row
returns c = checked _ refl c.accepted-2.ensures (link c.check-f.ensures (link c.check.ensures ends))
