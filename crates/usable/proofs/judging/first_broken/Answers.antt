-- `usable::judging::first_broken` meets its contract. Assumes nothing.
use mathlib.Core.Path.{refl, sym, ◌∙◌}
use Rattle.usable.specs.Answers.{judged}
use Rattle.usable.proofs.Judged.{breaks, holds}
use Rattle.usable.proofs.judging.first_broken.Goals as goal

pub returns-in-Some : goal.returns-in-Some
unfolding judged
returns-in-Some c =
    breaks _ 1 _ _ _ (sym c.in-Some.is ∙ c.first_barred.ensures)

pub returns-in-Some-first_moved : goal.returns-in-Some-first_moved
unfolding judged
returns-in-Some-first_moved c =
    holds _ 1 _ _ (sym c.in_default.is ∙ c.first_barred.ensures)
    (breaks _ 2 _ _ _ (sym c.in-Some-first_moved.is ∙ c.first_moved.ensures))

pub returns-in-Some-first_uneven : goal.returns-in-Some-first_uneven
unfolding judged
returns-in-Some-first_uneven c =
    holds _ 1 _ _ (sym c.in_default.is ∙ c.first_barred.ensures)
    (holds _ 2 _ _ (sym c.in_default-first_moved.is ∙ c.first_moved.ensures)
    (breaks _ 3 _ _ _ (sym c.in-Some-first_uneven.is ∙ c.first_uneven.ensures)))

pub returns-in-Some-first_long : goal.returns-in-Some-first_long
unfolding judged
returns-in-Some-first_long c =
    holds _ 1 _ _ (sym c.in_default.is ∙ c.first_barred.ensures)
    (holds _ 2 _ _ (sym c.in_default-first_moved.is ∙ c.first_moved.ensures)
    (holds _ 3 _ _ (sym c.in_default-first_uneven.is ∙ c.first_uneven.ensures)
    (breaks _ 4 _ _ _ (sym c.in-Some-first_long.is ∙ c.first_long.ensures))))

pub returns-in-Some-first_close : goal.returns-in-Some-first_close
unfolding judged
returns-in-Some-first_close c =
    holds _ 1 _ _ (sym c.in_default.is ∙ c.first_barred.ensures)
    (holds _ 2 _ _ (sym c.in_default-first_moved.is ∙ c.first_moved.ensures)
    (holds _ 3 _ _ (sym c.in_default-first_uneven.is ∙ c.first_uneven.ensures)
    (holds _ 4 _ _ (sym c.in_default-first_long.is ∙ c.first_long.ensures)
    (breaks _ 5 _ _ _ (sym c.in-Some-first_close.is ∙ c.first_close.ensures)))))

pub returns : goal.returns
unfolding judged
returns c =
    holds _ 1 _ _ (sym c.in_default.is ∙ c.first_barred.ensures)
    (holds _ 2 _ _ (sym c.in_default-first_moved.is ∙ c.first_moved.ensures)
    (holds _ 3 _ _ (sym c.in_default-first_uneven.is ∙ c.first_uneven.ensures)
    (holds _ 4 _ _ (sym c.in_default-first_long.is ∙ c.first_long.ensures)
    (holds _ 5 _ _ (sym c.in_default-first_close.is ∙ c.first_close.ensures) refl))))
