-- The whole of retiring: the tests, what every lent column holds then, and what is answered. Assumes nothing.
use Rattle.std.specs.Prelude.{◌≡◌, Bool, ◌&&◌, ◌||◌, not, cond, List, [], ◌∷◌, ◌++◌, ℕ, ◌+◌, ◌-◌, ◌*◌, eqb, leb, length, Result, Ok, Err}
use Rattle.paper.specs.Limits.{people_ok, slot_count_ok, slots_most, set_words, last_minute, nobody, Test, test}
use Rattle.paper.specs.declared.Refusal.{Refusal}
use Rattle.paper.specs.Rows.{refusal_of}
use Rattle.paper.specs.Count.{all, over}
use Rattle.slotset.specs.Slots.{slot, put_slots}
use Rattle.slots.specs.Lent.{slot_room_ok, slots_ok}
use Rattle.slots.specs.Ranges.{range_count_ok, range_room_ok, ranges_ok}
use Rattle.slots.specs.Availability.{rows}
use Rattle.units.specs.Settings.{settings_ok}
use Rattle.units.specs.Units.{units_ok}
use Rattle.owners.specs.Derived.{Plan, plan, Derived, afresh}
use Rattle.owners.specs.Recount.{recounts, recount_tests}
use Rattle.retire.specs.declared.Retiring.{Retiring}
use Rattle.retire.specs.declared.Retiring.TheVariants as retiring
use Rattle.retire.specs.Rolled.{entry, rolled, rolled_column, begin_then}
use Rattle.retire.specs.Going.{gone_units, gone_slots, prior_then, retired_then, priors_then, retired_column}
use Rattle.retire.specs.New.{New, new_starts, new_ends, new_count, new_bit, new_units}

-- ---- what is lent and rewritten

-- slots, availability, unit starts, frozen flags, owners and what is derived from them, prior minutes, the retired total
pub record Columns : Type 0 where
  pub starts : List ℕ
  pub ends : List ℕ
  pub avail : List ℕ
  pub begins : List ℕ
  pub frozen : List ℕ
  pub owners : List ℕ
  pub derived : Derived
  pub priors : List ℕ
  pub retired : List ℕ

abbrev pub columns : List ℕ → List ℕ → List ℕ → List ℕ → List ℕ → List ℕ → Derived → List ℕ → List ℕ → Columns
columns s e a b f o D p r = record {
  starts = s;
  ends = e;
  avail = a;
  begins = b;
  frozen = f;
  owners = o;
  derived = D;
  priors = p;
  retired = r;
}

-- the same with its three counts: a rota that is held
pub record Held : Type 0 where
  pub people : ℕ
  pub slots : ℕ
  pub units : ℕ
  pub lent : Columns

abbrev pub held : ℕ → ℕ → ℕ → Columns → Held
held people slots units C = record { people = people; slots = slots; units = units; lent = C }

abbrev pub plan_of : Held → Plan
plan_of H = plan H.people H.slots H.lent.starts H.lent.ends

-- ---- the counts: of units and slots that go, that are left, and that there are then

abbrev pub units_gone : Held → ℕ
units_gone H = gone_units H.slots H.units H.lent.begins H.lent.frozen

abbrev pub slots_gone : Held → ℕ
slots_gone H = gone_slots H.slots H.units H.lent.begins H.lent.frozen

abbrev pub units_kept : Held → ℕ
units_kept H = H.units - units_gone H

abbrev pub slots_kept : Held → ℕ
slots_kept H = H.slots - slots_gone H

abbrev pub units_then : Held → New → ℕ
units_then H N = units_kept H + length (new_units H.people N)

abbrev pub slots_then : Held → New → ℕ
slots_then H N = slots_kept H + new_count H.people N

-- ---- what every column holds then

abbrev pub starts_then : Held → New → List ℕ
starts_then H N = rolled_column (slots_gone H) (slots_kept H) (slots_then H N) (entry (new_starts H.people N)) H.lent.starts

abbrev pub ends_then : Held → New → List ℕ
ends_then H N = rolled_column (slots_gone H) (slots_kept H) (slots_then H N) (entry (new_ends H.people N)) H.lent.ends

-- nobody owns what is new
abbrev pub owners_then : Held → New → List ℕ
owners_then H N = rolled_column (slots_gone H) (slots_kept H) (slots_then H N) (λ _. nobody) H.lent.owners

abbrev pub begins_then : Held → New → List ℕ
begins_then H N =
    over (begin_then (units_gone H) (units_kept H) (slots_gone H) (slots_kept H) H.lent.begins (new_units H.people N)) (units_then H N)
    H.lent.begins

-- each person's set; bits at or past the new count stay
abbrev pub avail_then : Held → New → List ℕ
avail_then H N =
    rows (λ p. rolled (slots_gone H) (slots_kept H) (slot H.lent.avail (16 * p)) (new_bit H.people N p)) (slots_then H N) H.people
    H.lent.avail

-- what is new is not frozen
abbrev pub frozen_after : Held → New → List ℕ
frozen_after H N =
    put_slots (rolled (slots_gone H) (slots_kept H) (slot H.lent.frozen 0) (λ _. 0)) 0 0 (slots_then H N) H.lent.frozen

abbrev pub plan_then : Held → New → Plan
plan_then H N = plan H.people (slots_then H N) (starts_then H N) (ends_then H N)

-- all of it: what is derived is worked out afresh over the slots now held
unfoldable pub held_then : Held → New → Held
held_then H N =
    held H.people (slots_then H N) (units_then H N)
    (columns (starts_then H N) (ends_then H N) (avail_then H N) (begins_then H N) (frozen_after H N) (owners_then H N)
    (afresh (plan_then H N) (owners_then H N) H.lent.derived) (priors_then (plan_of H) H.lent.owners H.lent.priors (slots_gone H))
    (retired_column (plan_of H) H.lent.owners H.lent.retired (slots_gone H)))

-- ---- the tests

-- 1: people, slots, new base slots, ranges; 2: the columns that may grow need room for 1,024 entries
unfoldable pub asked_row : Held → New → List Test
asked_row H N =
    let C = H.lent in
    test 1 (people_ok H.people) ∷ test 1 (slot_count_ok H.slots) ∷ test 1 (leb N.count slots_most)
    ∷ test 1 (range_count_ok N.ranges.count) ∷ test 2 (slot_room_ok slots_most C.starts C.ends)
    ∷ test 2 (leb (set_words * H.people) (length C.avail)) ∷ test 2 (leb slots_most (length C.begins))
    ∷ test 2 (leb H.units (length C.begins)) ∷ test 2 (leb set_words (length C.frozen))
    ∷ test 2 (leb slots_most (length C.owners)) ∷ test 2 (leb (set_words * H.people) (length C.derived.sets))
    ∷ test 2 (leb H.people (length C.derived.minutes)) ∷ test 2 (leb 2 (length C.derived.totals))
    ∷ test 2 (leb H.people (length C.priors)) ∷ test 2 (leb 1 (length C.retired))
    ∷ test 2 (slot_room_ok N.count N.starts N.ends) ∷ test 2 (range_room_ok N.ranges) ∷ []

-- rule 9 applies to nothing: slots and units are what they should be
unfoldable pub sound : Held → Bool
sound H = slots_ok H.slots H.lent.starts H.lent.ends && units_ok H.slots H.units H.lent.begins

-- and the recount passes
unfoldable pub whole : Held → Bool
whole H =
    sound H && recounts (plan_of H) H.lent.avail H.units H.lent.begins H.lent.owners H.lent.derived

-- no new slot, nothing left, or the first new slot starts at or after the last end that is left
unfoldable pub comes_after : Held → New → Bool
comes_after H N = leb N.count 0 || (leb (slots_kept H) 0 || leb (entry H.lent.ends (H.slots - 1)) (entry N.starts 0))

-- prior minutes and the retired total as they are lent, and as they would be then
unfoldable pub figures_ok : Held → Bool
figures_ok H = all H.people (λ p. leb (entry H.lent.priors p) last_minute) && leb (entry H.lent.retired 0) last_minute

unfoldable pub figures_then_ok : Held → Bool
figures_then_ok H =
    all H.people (λ p. leb (prior_then (plan_of H) H.lent.owners H.lent.priors (slots_gone H) p) last_minute)
    && leb (retired_then (plan_of H) H.lent.owners H.lent.retired (slots_gone H)) last_minute

-- 3 to 7. What can only be asked of sound slots and units, or of a rota that recounts, passes where these aren't
unfoldable pub new_row : Held → New → List Test
new_row H N =
    test 3 (slots_ok N.count N.starts N.ends) ∷ test 3 (not (sound H) || comes_after H N)
    ∷ test 4 (ranges_ok H.people N.ranges) ∷ test 5 (not (sound H) || leb (slots_then H N) slots_most) ∷ test 6 (figures_ok H)
    ∷ test 6 (not (whole H) || figures_then_ok H) ∷ test 7 (settings_ok N.settings) ∷ []

-- 9 and 10, by part and place
unfoldable pub held_row : Held → List Test
held_row H =
    test 9 (slots_ok H.slots H.lent.starts H.lent.ends) ∷ test 9 (units_ok H.slots H.units H.lent.begins)
    ∷ recount_tests (plan_of H) H.lent.avail H.units H.lent.begins H.lent.owners H.lent.derived

unfoldable pub retire_row : Held → New → List Test
retire_row H N = (asked_row H N ++ new_row H N) ++ held_row H

-- ---- the outcome

pub record Outcome : Type 0 where
  pub answer : Result Retiring Refusal
  pub lent : Columns

abbrev pub leaves : Result Retiring Refusal → Columns → Outcome
leaves r C = record { answer = r; lent = C }

-- nothing goes, everything goes, or those that go are answered with the counts then; only the last changes anything
unfoldable pub retire_of : Held → New → Outcome
retire_of H N =
    let f = refusal_of (retire_row H N) in
    cond (eqb f.number 0)
    (cond (eqb (units_gone H) 0) (leaves (Ok retiring.Nothing) H.lent)
    (cond (eqb (units_gone H) H.units) (leaves (Ok retiring.Everything) H.lent)
    (leaves (Ok (retiring.Retired (slots_gone H) (slots_then H N) (units_then H N))) (held_then H N).lent)))
    (leaves (Err f) H.lent)

-- what is answered and what is left are those of the outcome
pub record Ended (y : Outcome) (r : Result Retiring Refusal) (C : Columns) : Type 0 where
  pub said : r ≡ y.answer
  pub left : C ≡ y.lent
