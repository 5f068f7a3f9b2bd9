-- What private functions of retire alone cite. Assumes nothing.
use Rattle.std.specs.Prelude.{◌≡◌, true, ◌⊎◌, List, [], ℕ, ◌-◌, ◌*◌, ◌≤◌, ◌<◌, length, Option, Some, None}
use Rattle.paper.specs.Limits.{people_ok, ranges_most}
use Rattle.paper.specs.Count.{onto}
use Rattle.slotset.specs.Slots.{slot}
use Rattle.slots.specs.Lent.{slots_ok}
use Rattle.slots.specs.Ranges.{Ranges, ranges_ok}
use Rattle.slots.specs.Availability.{available_bit}
use Rattle.units.specs.Settings.{settings_ok}
use Rattle.units.specs.Units.{units_ok}
use Rattle.owners.specs.Derived.{derived}
use Rattle.retire.specs.declared.fresh.FreshSlots.{FreshSlots}
use Rattle.retire.specs.Rolled.{entry}
use Rattle.retire.specs.New.{New}
use Rattle.retire.specs.Outcome.{Held, held, columns, units_gone, slots_then, units_then, starts_then, ends_then, avail_then, begins_then}
use Rattle.retire.specs.Outcome.{frozen_after}

-- base slots and ranges that pass
pub record NewRight (people base : ℕ) (starts ends : List ℕ) (R : Ranges) : Type 0 where
  pub people-ok : people_ok people ≡ true
  pub base-few : base ≤ 1024
  pub ranges-few : R.count ≤ ranges_most
  pub base_ok : slots_ok base starts ends ≡ true
  pub ranges-ok : ranges_ok people R ≡ true

-- a list of at most 1,024 entries at the front of a column of 1,024, with its count
pub record Written (l column : List ℕ) (count : ℕ) : Type 0 where
  pub few : length l ≤ 1024
  pub number : count ≡ length l
  pub before : List ℕ
  pub long : length before ≡ 1024
  pub entries : column ≡ onto l before

-- starts and ends of new slots at the front of two columns; None where they are more than 1,024
abbrev pub FreshAre : List ℕ → List ℕ → Option FreshSlots → Type 0
FreshAre starts ends (Some f) = Written starts f.starts f.count × Written ends f.ends f.count
FreshAre starts ends None = 1024 < length starts

-- slots of everybody's sets in 512 words: who is available for the first n slots
abbrev pub WordsAre : ℕ → ℕ → Ranges → List ℕ → List ℕ → List ℕ → Type 0
WordsAre people n R starts ends ws =
    (p k : ℕ) → p < people → k < n → slot ws (16 * p) k ≡ available_bit R starts ends p k

-- ---- the part of a rota that moves before its owners do

-- slots, units, availability and flags; the rest is not asked
abbrev pub plan_held : ℕ → ℕ → ℕ → List ℕ → List ℕ → List ℕ → List ℕ → List ℕ → Held
plan_held people slots units s e a b f = held people slots units (columns s e a b f [] (derived [] [] []) [] [])

-- what the tests leave known of it, where some units go and some stay
pub record PlanRight (H : Held) (N : New) : Type 0 where
  pub people-ok : people_ok H.people ≡ true
  pub slots-few : H.slots ≤ 1024
  pub starts-room : 1024 ≤ length H.lent.starts
  pub ends-room : 1024 ≤ length H.lent.ends
  pub avail-room : 16 * H.people ≤ length H.lent.avail
  pub begins-room : 1024 ≤ length H.lent.begins
  pub frozen-room : 16 ≤ length H.lent.frozen
  pub right : NewRight H.people N.count N.starts N.ends N.ranges
  pub settings-ok : settings_ok N.settings ≡ true
  pub slots-ok : slots_ok H.slots H.lent.starts H.lent.ends ≡ true
  pub units-ok : units_ok H.slots H.units H.lent.begins ≡ true
  pub fits : slots_then H N ≤ 1024
  pub after : (N.count ≡ 0) ⊎ (entry H.lent.ends (H.slots - 1) ≤ entry N.starts 0)
  pub some : 0 < units_gone H
  pub rest : units_gone H < H.units

-- it has moved
pub record PlanMoved (H : Held) (N : New) (slots units : ℕ) (s e a b f : List ℕ) : Type 0 where
  pub slots-are : slots ≡ slots_then H N
  pub units-are : units ≡ units_then H N
  pub starts-are : s ≡ starts_then H N
  pub ends-are : e ≡ ends_then H N
  pub avail-are : a ≡ avail_then H N
  pub begins-are : b ≡ begins_then H N
  pub frozen-are : f ≡ frozen_after H N
