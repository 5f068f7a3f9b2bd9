-- The outcome of each question to a store, refused or not. Assumes nothing.
use Rattle.std.specs.Prelude.{◌≡◌, Bool, true, false, ◌&&◌, ◌||◌, cond, List, [], ◌∷◌, ◌++◌, ℕ, ◌+◌, leb, ltb, length, take, Result, Ok, Err}
use Rattle.paper.specs.Limits.{Test, test, number_of}
use Rattle.paper.specs.Rows.{unless, answer_as}
use Rattle.units.specs.declared.Settings.{Settings}
use Rattle.units.specs.Settings.{settings_ok}
use Rattle.records.specs.Records.{bytes_of}
use Rattle.records.specs.Puts.{put}
use Rattle.store.specs.declared.Kept.{Kept}
use Rattle.store.specs.declared.Kept.TheVariants as kept
use Rattle.store.specs.declared.Asked.{Asked}
use Rattle.store.specs.declared.Asked.TheVariants as asked
use Rattle.store.specs.declared.Saved.{Saved}
use Rattle.store.specs.Layout.{records_most, count_in, is_store}
use Rattle.store.specs.Figures.{kept_in, settings_record}

-- ---- the tests

-- 13: the used bytes are laid out as they must be. Where the area hasn't got them all this isn't judged
unfoldable pub layout_ok : List ℕ → ℕ → Bool
layout_ok area used = ltb (length area) used || is_store (take used area)

-- 5: fewer than 128 records, and the twelve bytes of one more after the used ones
unfoldable pub room_ok : ℕ → ℕ → ℕ → Bool
room_ok count used len = leb (used + 12) len && ltb count records_most

-- 7: the figures of the record asked for; a newer one and an unknown number have none
abbrev pub figures_ok : Kept → Bool
figures_ok (kept.Figures s) = settings_ok s
figures_ok kept.Newer = true
figures_ok kept.Unknown = true

-- 11: the number stands for a record
abbrev pub known_ok : Kept → Bool
known_ok (kept.Figures s) = true
known_ok kept.Newer = true
known_ok kept.Unknown = false

-- ---- the rows of them: of every question 13, 2; of saving then 5, 7; of asking then 7, 11

abbrev pub store_tests : Bool → Bool → List Test
store_tests laid held = test 13 laid ∷ test 2 held ∷ []

abbrev pub save_tests : Bool → Bool → Bool → Bool → List Test
save_tests laid held room good = store_tests laid held ++ (test 5 room ∷ test 7 good ∷ [])

abbrev pub ask_tests : Bool → Bool → Kept → List Test
ask_tests laid held k = store_tests laid held ++ (test 7 (figures_ok k) ∷ test 11 (known_ok k) ∷ [])

unfoldable pub store_row : List ℕ → ℕ → List Test
store_row area used = store_tests (layout_ok area used) (leb used (length area))

unfoldable pub save_row : List ℕ → ℕ → Settings → List Test
save_row area used s =
    save_tests (layout_ok area used) (leb used (length area)) (room_ok (count_in (take used area)) used (length area)) (settings_ok s)

unfoldable pub ask_row : List ℕ → ℕ → ℕ → List Test
ask_row area used n = ask_tests (layout_ok area used) (leb used (length area)) (kept_in (take used area) n)

-- ---- the outcomes

-- how many records
unfoldable pub count_is : List ℕ → ℕ → Result ℕ ℕ
count_is area used = answer_as (number_of (store_row area used)) (count_in (take used area))

-- saving: the number of the record and the used length with it, and the area at exit
pub record Saving : Type 0 where
  pub answer : Result Saved ℕ
  pub area : List ℕ

unfoldable pub save_is : List ℕ → ℕ → Settings → Saving
save_is area used s =
    let n = number_of (save_row area used s) in
    record {
      answer = answer_as n (record { number = count_in (take used area) + 1; used = used + 12 });
      area = unless n area (put (bytes_of (settings_record s)) used area);
    }

-- an answer and an area at exit are those of w
pub record SavesAs (w : Saving) (answer : Result Saved ℕ) (area : List ℕ) : Type 0 where
  pub said : answer ≡ w.answer
  pub left : area ≡ w.area

-- asking, where the number stands for something
abbrev pub answer_of : Kept → Result Asked ℕ
answer_of (kept.Figures s) = Ok (asked.Is s)
answer_of kept.Newer = Ok asked.Newer
answer_of kept.Unknown = Err 11

unfoldable pub ask_is : List ℕ → ℕ → ℕ → Result Asked ℕ
ask_is area used n =
    let number = number_of (ask_row area used n) in
    unless number (Err number) (answer_of (kept_in (take used area) n))

-- of a store that is laid out right: a record's figures where they pass rule 7, else 7; newer; or 11
abbrev pub judged : Kept → Result Asked ℕ
judged (kept.Figures s) = cond (settings_ok s) (Ok (asked.Is s)) (Err 7)
judged kept.Newer = Ok asked.Newer
judged kept.Unknown = Err 11
