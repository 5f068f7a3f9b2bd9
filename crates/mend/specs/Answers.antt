-- What a caller of mend is answered, and what the lent columns and the list hold then. Assumes nothing.
use Rattle.std.specs.Prelude.{◌≡◌, List, [], ◌∷◌, ◌++◌, ℕ, ◌*◌, leb, length, Result}
use Rattle.paper.specs.Limits.{set_words, people_ok, slot_count_ok, Test, test, number_of}
use Rattle.paper.specs.Rows.{unless, answer_as}
use Rattle.paper.specs.Count.{onto}
use Rattle.slots.specs.Lent.{slot_room_ok, slots_ok}
use Rattle.units.specs.Units.{units_ok}
use Rattle.owners.specs.Derived.{Plan, afresh}
use Rattle.mend.specs.Mended.{mended}
use Rattle.mend.specs.Repairs.{Rota, rota, Repair, repairs, numbers}

-- ---- what was found, mended: the owners, and what is derived from them worked out anew

unfoldable pub mended_rota : Plan → List ℕ → ℕ → List ℕ → Rota → Rota
mended_rota P avail units begins R =
    let o = mended P avail units begins R.owners in rota o (afresh P o R.derived)

unfoldable pub repairs_due : Plan → List ℕ → ℕ → List ℕ → List ℕ → Rota → List Repair
repairs_due P avail units begins frozen R = repairs P.people P.slots frozen R (mended_rota P avail units begins R)

-- ---- the tests: 1, 2, 9 of what is lent; then 2 of the list, which has room for the repairs that come out

unfoldable pub found_row : Plan → List ℕ → ℕ → List ℕ → List ℕ → Rota → List Test
found_row P avail units begins frozen R =
    test 1 (people_ok P.people) ∷ test 1 (slot_count_ok P.slots) ∷ test 2 (slot_room_ok P.slots P.starts P.ends)
    ∷ test 2 (leb (set_words * P.people) (length avail)) ∷ test 2 (leb units (length begins)) ∷ test 2 (leb set_words (length frozen))
    ∷ test 2 (leb P.slots (length R.owners)) ∷ test 2 (leb (set_words * P.people) (length R.derived.sets))
    ∷ test 2 (leb P.people (length R.derived.minutes)) ∷ test 2 (leb 2 (length R.derived.totals))
    ∷ test 9 (slots_ok P.slots P.starts P.ends) ∷ test 9 (units_ok P.slots units begins) ∷ []

unfoldable pub mend_row : Plan → List ℕ → ℕ → List ℕ → List ℕ → Rota → List ℕ → List Test
mend_row P avail units begins frozen R list =
    found_row P avail units begins frozen R
    ++ (test 2 (leb (5 * length (repairs_due P avail units begins frozen R)) (length list)) ∷ [])

-- ---- the outcome: how many repairs; a refusal changes nothing, the list too

pub record Outcome : Type 0 where
  pub answer : Result ℕ ℕ
  pub rota : Rota
  pub list : List ℕ

unfoldable pub mending : Plan → List ℕ → ℕ → List ℕ → List ℕ → Rota → List ℕ → Outcome
mending P avail units begins frozen R list =
    let n = number_of (mend_row P avail units begins frozen R list) in
    let rs = repairs_due P avail units begins frozen R in
    record {
      answer = answer_as n (length rs);
      rota = unless n R (mended_rota P avail units begins R);
      list = unless n list (onto (numbers rs) list);
    }

-- what is answered and what is left are those of the outcome
pub record Ended (y : Outcome) (r : Result ℕ ℕ) (R : Rota) (l : List ℕ) : Type 0 where
  pub said : r ≡ y.answer
  pub left : R ≡ y.rota
  pub list : l ≡ y.list
