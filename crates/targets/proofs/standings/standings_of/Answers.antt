-- `targets::standings::standings_of` meets its contract: the standings of the people passed stand in front, and the rest takes no part.
-- Assumes nothing.
use Rattle.std.proofs.Common.{ℕ, cond, eqb, ap, ◌∙◌, arith, rules}
use Rattle.targets.specs.Figures.{person_at, standing_of, pad, available_minutes}
use Rattle.targets.specs.Outcome.{given, standing_in}
use Rattle.targets.proofs.Loops.{fill}
use Rattle.targets.proofs.standings.standings_of.Goals as goal

pub loop-i-preserved : goal.loop-i-preserved
loop-i-preserved c =
    let a = c.args in
    let g = given a.people a.slots a.starts.now a.ends.now a.avail.now a.capacities.now a.priors.now a.fairness 0 in
    let m = available_minutes g.slots g.starts g.ends g.avail c.loop-i.i in
    let b = c.base_of-base.ensures ∙ ap (λ (d : ℕ). cond (eqb g.fairness 1) d m) c.requires.1 in
    let l = c.standing_of.ensures ∙ ap (standing_of (person_at g.capacities g.priors c.loop-i.i)) b in
    let n = c.requires.0.few in
    (search rules, fill (standing_in g) 32 c.loop-i.i pad c.loop-i.invariant.1 l (omega arith))
