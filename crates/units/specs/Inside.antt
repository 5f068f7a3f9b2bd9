-- What contracts of private functions cite, and no public one. Assumes nothing.
use Rattle.std.specs.Prelude.{◌≡◌, Bool, true, false, ◌&&◌, ◌||◌, not, List, ℕ, zero, suc, ◌+◌, ◌*◌, ◌≤◌, eqb, ltb, length, Result, Ok, Err, Option, Some, None}
use Rattle.paper.specs.Limits.{people_ok, number_of}
use Rattle.paper.specs.Count.{among}
use Rattle.slotset.specs.Answers.{row_refusal}
use Rattle.slots.specs.Lent.{slots_ok}
use Rattle.units.specs.Units.{unit_start, unit_end, units_ok}
use Rattle.units.specs.Dates.{date_of}
use Rattle.units.specs.declared.Settings.{Settings}
use Rattle.units.specs.Answers.{Written, written_as}
use Rattle.units.specs.Starts.{start_date, unit_begins, starts_row}
use Rattle.units.specs.Domains.{able, clear, mask_of}

-- ---- days

-- slot k is the first of its date: slot 0, or its date differs from the previous slot's. In ordered slots a date's slots are neighbours
unfoldable pub date_begins : List ℕ → ℕ → Bool
date_begins starts zero = true
date_begins starts (suc j) = not (eqb (start_date starts (suc j)) (start_date starts j))

-- the starts of units under a lock, or a refusal
unfoldable pub starts_under_is : ℕ → Settings → ℕ → List ℕ → List ℕ → List ℕ → Written
starts_under_is lock s slots starts ends begins =
    written_as (number_of (starts_row s slots starts ends begins)) (among (unit_begins lock s.boundary s.value starts) slots) begins

-- the first date that begins at a minute or after it
unfoldable pub next_date : ℕ → ℕ
next_date minute = date_of (minute + 1439)

-- ---- answers of a set

-- it is yes
abbrev pub is_yes : Result Bool ℕ → Bool
is_yes (Ok true) = true
is_yes (Ok false) = false
is_yes (Err n) = false

-- a search found nothing
abbrev pub is_nothing : Result (Option ℕ) ℕ → Bool
is_nothing (Ok (Some i)) = false
is_nothing (Ok None) = true
is_nothing (Err n) = false

-- the slot found, or a number that stands for none
abbrev pub found_or : ℕ → Result (Option ℕ) ℕ → ℕ
found_or none (Ok (Some i)) = i
found_or none (Ok None) = none
found_or none (Err n) = none

-- a person is available for each slot from a up to e; no where the words are too short or the person is unknown
unfoldable pub able_in : List ℕ → ℕ → ℕ → ℕ → ℕ → Bool
able_in avail people p a e = eqb (row_refusal avail people p e) 0 && able avail a e p

-- no slot from a up to e is frozen; no where the words are too short
unfoldable pub clear_in : List ℕ → ℕ → ℕ → Bool
clear_in frozen a e = eqb (row_refusal frozen 1 0 e) 0 && clear frozen a e

-- ---- what the checks, passed, leave known

-- to the writing of a domain
pub record DomainRoom (avail : List ℕ) (people e : ℕ) (list : List ℕ) : Type 0 where
  pub counted : people_ok people ≡ true
  pub words : 16 * people ≤ length avail
  pub short : e ≤ 1024
  pub room : people ≤ length list

-- to achievable runs
pub record RunsSound (avail : List ℕ) (people slots : ℕ) (starts ends : List ℕ) : Type 0 where
  pub counted : people_ok people ≡ true
  pub some : 1 ≤ slots
  pub short : slots ≤ 1024
  pub words : 16 * people ≤ length avail
  pub lent : slots_ok slots starts ends ≡ true

-- to the writing of masks
pub record MaskRoom (avail : List ℕ) (people slots units : ℕ) (begins masks : List ℕ) : Type 0 where
  pub counted : people_ok people ≡ true
  pub words : 16 * people ≤ length avail
  pub short : slots ≤ 1024
  pub right : units_ok slots units begins ≡ true
  pub room : units ≤ length masks

-- ---- everybody at once: they stand in each unit's mask, and who lacks a slot of it is struck

-- person q has been judged for unit v: all people before p have been, for every unit, and p for the units before u
unfoldable pub judged : ℕ → ℕ → ℕ → ℕ → Bool
judged p u v q = ltb q p || (eqb q p && ltb v u)

-- the mask of unit v then: who was not judged yet still stands in it
unfoldable pub mask_then : List ℕ → ℕ → ℕ → ℕ → List ℕ → ℕ → ℕ → ℕ → ℕ
mask_then avail people slots units begins p u v =
    mask_of (λ q. not (judged p u v q) || able avail (unit_start begins v) (unit_end slots units begins v) q) people
