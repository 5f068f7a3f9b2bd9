-- `job::run::counts_ok` meets its contract. Assumes nothing.
use mathlib.Core.Path.{sym, ◌∙◌}
use Rattle.job.proofs.Prepares.{counts-draws, counts-ranges, counts-people, counts-base}
use Rattle.job.proofs.run.counts_ok.Goals as goal

pub returns-then-ranges-le-RANGES_MOST : goal.returns-then-ranges-le-RANGES_MOST
returns-then-ranges-le-RANGES_MOST c =
    counts-draws _ _ _ _ (sym c.slot_count_ok.ensures ∙ c.if-slot_count_ok.true)
    (sym c.people_ok.ensures ∙ c.if-people_ok.true) c.if-ranges-le-RANGES_MOST.true

pub returns-then-people_ok : goal.returns-then-people_ok
returns-then-people_ok c =
    counts-ranges _ _ _ _ (sym c.slot_count_ok.ensures ∙ c.if-slot_count_ok.true)
    (sym c.people_ok.ensures ∙ c.if-people_ok.true) c.if-ranges-le-RANGES_MOST.false

pub returns-then-slot_count_ok : goal.returns-then-slot_count_ok
returns-then-slot_count_ok c =
    counts-people _ _ _ _ (sym c.slot_count_ok.ensures ∙ c.if-slot_count_ok.true)
    (sym c.people_ok.ensures ∙ c.if-people_ok.false)

pub returns : goal.returns
returns c = counts-base _ _ _ _ (sym c.slot_count_ok.ensures ∙ c.if-slot_count_ok.false)
