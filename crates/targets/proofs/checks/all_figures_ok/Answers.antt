-- `targets::checks::all_figures_ok` meets its contract: everybody passed so far has figures that pass. Assumes nothing.
use Rattle.std.proofs.Common.{◌≡◌, ℕ, Bool, false, List, length, get_or, sym, ap, ◌∙◌, le_refl, arith, rules}
use lib.Ieee.{Float, nan, le, lt, eq}
use lib.ListN.{get_or-eq_default}
use Rattle.paper.proofs.Count.{all_none, all_more, all-fails, all_done}
use Rattle.targets.specs.Figures.{figures_ok, figures_ok_at, all_figures_ok}
use Rattle.targets.proofs.checks.all_figures_ok.Goals as goal

-- past the column of capacities nobody passes
past-fails : (capacities : List Float) (priors : List ℕ) → figures_ok_at capacities priors (length capacities) ≡ false
unfolding figures_ok le lt eq
past-fails capacities priors =
    let k = length capacities in
    ap (λ (x : Float). figures_ok (record { capacity = x; prior = get_or priors k 0 })) (get_or-eq_default capacities nan (le_refl k))

-- the test of person i, whose prior minutes were read as n
test_at : (capacities : List Float) (priors : List ℕ) (i n : ℕ) {b : Bool} → n ≡ get_or priors i 0
    → b ≡ figures_ok (record { capacity = get_or capacities i nan; prior = n }) → b ≡ figures_ok_at capacities priors i
test_at capacities priors i n e q =
    q ∙ ap (λ (m : ℕ). figures_ok (record { capacity = get_or capacities i nan; prior = m })) e

pub returns-then-capacities-people : goal.returns-then-capacities-people
unfolding all_figures_ok
returns-then-capacities-people c =
    let a = c.args in
    sym (all-fails a.people (length a.capacities.now) (figures_ok_at a.capacities.now a.priors.now) (omega arith)
    (past-fails a.capacities.now a.priors.now))

pub loop-i-init : goal.loop-i-init
loop-i-init c =
    let a = c.args in
    (search rules, omega arith, all_none (figures_ok_at a.capacities.now a.priors.now))

pub loop-i-preserved : goal.loop-i-preserved
loop-i-preserved c =
    let a = c.args in
    let e = test_at a.capacities.now a.priors.now c.loop-i.i _ c.entry_of.ensures c.figures_ok.ensures in (
      search rules,
      c.loop-i.invariant.1,
      all_more c.loop-i.i (figures_ok_at a.capacities.now a.priors.now) c.loop-i.invariant.2
          (sym e ∙ c.if-not-figures_ok.false),
    )

pub returns-then-not-figures_ok : goal.returns-then-not-figures_ok
unfolding all_figures_ok
returns-then-not-figures_ok c =
    let a = c.args in
    let e = test_at a.capacities.now a.priors.now c.loop-i.i _ c.entry_of.ensures c.figures_ok.ensures in
    sym (all-fails a.people c.loop-i.i (figures_ok_at a.capacities.now a.priors.now) (omega arith) (sym e ∙ c.if-not-figures_ok.true))

pub returns : goal.returns
unfolding all_figures_ok
returns c =
    let a = c.args in
    all_done a.people c.loop-i.i (figures_ok_at a.capacities.now a.priors.now) (omega arith) (omega arith) c.loop-i.invariant.2
