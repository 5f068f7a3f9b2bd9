-- `units::days::target_run` meets its contract. Assumes nothing.
use mathlib.Core.Path.{sym, ◌∙◌}
use Rattle.units.specs.Days.{target_run_is}
use Rattle.units.proofs.Covered.{target-says}
use Rattle.paper.proofs.Rows.{said}
use Rattle.slotset.proofs.Refusals.{answer-is, answer-refused}
use Rattle.units.proofs.days.target_run.Goals as goal

pub run_minutes-requires : goal.run_minutes-requires
run_minutes-requires c = target-says _ _ _ _ (sym (said _ c.target_run_refusal-n.ensures) ∙ c.if-n-eq0.true)

pub returns-then-n-eq0 : goal.returns-then-n-eq0
unfolding target_run_is
returns-then-n-eq0 c = answer-is _ _ (said _ c.target_run_refusal-n.ensures) c.if-n-eq0.true _ _ c.run_minutes.ensures

pub returns-else-n-eq0 : goal.returns-else-n-eq0
unfolding target_run_is
returns-else-n-eq0 c = answer-refused _ _ (said _ c.target_run_refusal-n.ensures) c.if-n-eq0.false _
