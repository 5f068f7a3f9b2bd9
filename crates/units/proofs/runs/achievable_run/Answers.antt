-- `units::runs::achievable_run` meets its contract. Assumes nothing.
use mathlib.Core.Path.{sym, ◌∙◌}
use Rattle.units.specs.Achievable.{achievable_run_is}
use Rattle.units.proofs.Reach.{run-says, target-some, reach-at}
use Rattle.paper.proofs.Rows.{said}
use Rattle.slotset.proofs.Refusals.{answer-is, answer-refused}
use Rattle.units.proofs.runs.achievable_run.Goals as goal

pub run_minutes-target-requires : goal.run_minutes-target-requires
run_minutes-target-requires c =
    let r = run-says _ _ _ _ _ _ _ (sym (said _ c.achievable_run_refusal-n.ensures) ∙ c.if-n-eq0.true) in
    (r.0.some, r.0.lent)

pub longest_run-requires : goal.longest_run-requires
longest_run-requires c =
    let r = run-says _ _ _ _ _ _ _ (sym (said _ c.achievable_run_refusal-n.ensures) ∙ c.if-n-eq0.true) in
    record { runs_sound = r.0; person_lt_people = (r.1, target-some _ _ _ _ _ c.run_minutes-target.ensures) }

pub returns-then-n-eq0 : goal.returns-then-n-eq0
unfolding achievable_run_is
returns-then-n-eq0 c =
    let m = reach-at _ _ _ _ _ _ _ _ c.run_minutes-target.ensures c.longest_run.ensures in
    answer-is _ _ (said _ c.achievable_run_refusal-n.ensures) c.if-n-eq0.true _ _ m

pub returns-else-n-eq0 : goal.returns-else-n-eq0
unfolding achievable_run_is
returns-else-n-eq0 c = answer-refused _ _ (said _ c.achievable_run_refusal-n.ensures) c.if-n-eq0.false _
