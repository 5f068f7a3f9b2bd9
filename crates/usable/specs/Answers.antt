-- What a caller is answered of a rota made elsewhere, refused or not. Assumes nothing.
use Rattle.std.specs.Prelude.{Bool, cond, ◌&&◌, List, [], ◌∷◌, ℕ, ◌*◌, leb, length, Result}
use Rattle.paper.specs.Limits.{set_words, last_minute, people_ok, slot_count_ok, Test, test, number_of}
use Rattle.paper.specs.Rows.{answer_as}
use Rattle.paper.specs.Count.{all}
use Rattle.slots.specs.Lent.{slot_room_ok, slots_ok}
use Rattle.units.specs.Units.{units_ok}
use Rattle.owners.specs.Recount.{first_fail}
use Rattle.usable.specs.declared.Verdict.{Verdict}
use Rattle.usable.specs.declared.Verdict.TheVariants as verdict
use Rattle.usable.specs.Rules.{allowed_at, published_at, uniform_at, capped_at, rested_at}
use Rattle.usable.specs.Broken.{Brought, slots_of}

-- rule 7: a cap of at least one minute, and neither figure past the last minute
unfoldable pub figures_ok : ℕ → ℕ → Bool
figures_ok cap rest = leb 1 cap && (leb cap last_minute && leb rest last_minute)

-- 1, 2, 7, 9
unfoldable pub usable_row : Brought → List Test
usable_row B =
    test 1 (people_ok B.plan.people) ∷ test 1 (slot_count_ok (slots_of B))
    ∷ test 2 (slot_room_ok (slots_of B) B.plan.starts B.plan.ends) ∷ test 2 (leb (set_words * B.plan.people) (length B.avail))
    ∷ test 2 (leb B.units (length B.begins)) ∷ test 2 (leb set_words (length B.frozen))
    ∷ test 2 (leb (slots_of B) (length B.published)) ∷ test 2 (leb (slots_of B) (length B.owners))
    ∷ test 7 (figures_ok B.cap B.rest) ∷ test 9 (slots_ok (slots_of B) B.plan.starts B.plan.ends)
    ∷ test 9 (units_ok (slots_of B) B.units B.begins) ∷ []

-- rule n, by its test of each slot: broken at the first that fails, else what comes after it
unfoldable pub or_broken : ℕ → ℕ → (ℕ → Bool) → Verdict → Verdict
or_broken slots n passes next = cond (all slots passes) next (verdict.Broken n (first_fail slots passes))

-- the five rules in their order
unfoldable pub judged : Brought → Verdict
judged B =
    or_broken (slots_of B) 1 (allowed_at B.plan.people B.avail B.owners)
    (or_broken (slots_of B) 2 (published_at B.frozen B.published B.owners)
    (or_broken (slots_of B) 3 (uniform_at B.units B.begins B.owners)
    (or_broken (slots_of B) 4 (capped_at (slots_of B) B.cap B.plan.starts B.plan.ends B.owners)
    (or_broken (slots_of B) 5 (rested_at (slots_of B) B.rest B.plan.starts B.plan.ends B.owners) verdict.Usable))))

-- the answer: the number of the refusal, or the verdict
unfoldable pub verdict_is : Brought → Result Verdict ℕ
verdict_is B = answer_as (number_of (usable_row B)) (judged B)
