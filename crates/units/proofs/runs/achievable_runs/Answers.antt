-- `units::runs::achievable_runs` meets its contract. Assumes nothing.
use mathlib.Core.Path.{sym, ◌∙◌}
use Rattle.paper.proofs.Rows.{said}
use Rattle.units.proofs.Reach.{runs-say, target-some, runs-answered, runs-refused}
use Rattle.units.proofs.runs.achievable_runs.Goals as goal

pub run_minutes-target-requires : goal.run_minutes-target-requires
run_minutes-target-requires c =
    let r = runs-say _ _ _ _ _ _ _ (sym (said _ c.achievable_runs_refusal-n.ensures) ∙ c.if-n-eq0.true) in
    (r.0.some, r.0.lent)

pub write_runs-requires : goal.write_runs-requires
write_runs-requires c =
    let r = runs-say _ _ _ _ _ _ _ (sym (said _ c.achievable_runs_refusal-n.ensures) ∙ c.if-n-eq0.true) in
    record { runs_sound = r.0; people_in_bounds = (r.1, target-some _ _ _ _ _ c.run_minutes-target.ensures) }

pub returns-then-n-eq0 : goal.returns-then-n-eq0
returns-then-n-eq0 c =
    let whole = runs-answered _ _ _ _ _ _ _ _ (said _ c.achievable_runs_refusal-n.ensures) _ _ c.if-n-eq0.true
    c.run_minutes-target.ensures c.write_runs.ensures in
    record { value = whole.0; runs_after = whole.1 }

pub returns : goal.returns
returns c =
    let whole = runs-refused _ _ _ _ _ _ _ _ (said _ c.achievable_runs_refusal-n.ensures) c.if-n-eq0.false in
    record { value = whole.0; runs_after = whole.1 }
