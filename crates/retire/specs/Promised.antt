-- What retiring promises, said apart from how it is worked out. Assumes nothing.
use Rattle.std.specs.Prelude.{◌≡◌, true, List, [], ◌∷◌, ℕ, ◌+◌, ◌-◌, ◌*◌, ◌≤◌, ◌<◌, length, Ok, Err}
use Rattle.paper.specs.Limits.{nobody, number_of}
use Rattle.paper.specs.Count.{sum}
use Rattle.slotset.specs.Slots.{slot}
use Rattle.slots.specs.Lent.{demand_of, slots_ok}
use Rattle.units.specs.Units.{unit_start, units_ok}
use Rattle.owners.specs.Derived.{worked, uncovered}
use Rattle.owners.specs.Recount.{recounts}
use Rattle.paper.specs.Rows.{refusal_of}
use Rattle.retire.specs.declared.Retiring.TheVariants as retiring
use Rattle.retire.specs.Rolled.{entry}
use Rattle.retire.specs.Column.{column_row}
use Rattle.retire.specs.Going.{LongestStretch, going_plan}
use Rattle.retire.specs.New.{New, new_starts, new_ends, new_count, new_bit, new_units}
use Rattle.retire.specs.Outcome.{Held, plan_of, units_gone, slots_gone, slots_kept, units_kept, slots_then, units_then, held_then, retire_row}
use Rattle.retire.specs.Outcome.{leaves, retire_of}

-- a retiring in which something goes and something stays
pub record Retires (H : Held) (N : New) : Type 0 where
  pub accepted : number_of (retire_row H N) ≡ 0
  pub some : units_gone H ≡ 0 → ⊥
  pub rest : units_gone H ≡ H.units → ⊥

-- ---- no minute is lost

-- everybody's prior minutes, the retired total, and the demand of the slots that are held
unfoldable pub standing : Held → ℕ
standing H = sum H.people (entry H.lent.priors) + entry H.lent.retired 0 + demand_of H.slots H.lent.starts H.lent.ends

pub record NoMinuteLost (H : Held) (N : New) : Type 0 where
  -- each person's increase is what they owned of the slots that went, the total's is what nobody owned of them
  pub each : (p : ℕ) → p < H.people
      → entry (held_then H N).lent.priors p ≡ entry H.lent.priors p + worked (going_plan (plan_of H) (slots_gone H)) H.lent.owners p
  pub total : entry (held_then H N).lent.retired 0 ≡ entry H.lent.retired 0 + uncovered (going_plan (plan_of H) (slots_gone H)) H.lent.owners
  -- with the slots that are left, new ones not counted, they come to what they came to before
  pub adds-up : sum H.people (entry (held_then H N).lent.priors) + entry (held_then H N).lent.retired 0
      + demand_of (slots_kept H) (held_then H N).lent.starts (held_then H N).lent.ends ≡ standing H
  -- and with the new ones, to that and the new base slots
  pub grows : standing (held_then H N) ≡ standing H + demand_of N.count N.starts N.ends

-- a list of retirings, one after the other
abbrev pub Retirings : Held → List New → Type 0
Retirings H [] = Unit
Retirings H (N ∷ Ns) = Retires H N × Retirings (held_then H N) Ns

unfoldable pub after_all : Held → List New → Held
after_all H [] = H
after_all H (N ∷ Ns) = after_all (held_then H N) Ns

-- what was new in all of them
unfoldable pub new_demand : List New → ℕ
new_demand [] = 0
new_demand (N ∷ Ns) = demand_of N.count N.starts N.ends + new_demand Ns

-- ---- what goes, what stays, what is new

pub record StaysAndComes (H : Held) (N : New) : Type 0 where
  -- whole units: the longest such stretch, and the slots before the first unit that stays
  pub longest : LongestStretch H.slots H.units H.lent.begins H.lent.frozen (units_gone H)
  pub uncut : slots_gone H ≡ unit_start H.lent.begins (units_gone H)
  -- what stays is the old from there on
  pub starts : (k : ℕ) → k < slots_kept H → entry (held_then H N).lent.starts k ≡ entry H.lent.starts (slots_gone H + k)
  pub ends : (k : ℕ) → k < slots_kept H → entry (held_then H N).lent.ends k ≡ entry H.lent.ends (slots_gone H + k)
  pub owners : (k : ℕ) → k < slots_kept H → entry (held_then H N).lent.owners k ≡ entry H.lent.owners (slots_gone H + k)
  pub avail : (p k : ℕ) → p < H.people → k < slots_kept H
      → slot (held_then H N).lent.avail (16 * p) k ≡ slot H.lent.avail (16 * p) (slots_gone H + k)
  pub frozen : (k : ℕ) → k < slots_kept H → slot (held_then H N).lent.frozen 0 k ≡ slot H.lent.frozen 0 (slots_gone H + k)
  pub units : (u : ℕ) → u < units_kept H
      → unit_start (held_then H N).lent.begins u ≡ unit_start H.lent.begins (units_gone H + u) - slots_gone H
  -- what is new comes behind: split, availability over minutes, units of its own, unowned, not frozen
  pub new-starts : (k : ℕ) → k < new_count H.people N → entry (held_then H N).lent.starts (slots_kept H + k) ≡ entry (new_starts H.people N) k
  pub new-ends : (k : ℕ) → k < new_count H.people N → entry (held_then H N).lent.ends (slots_kept H + k) ≡ entry (new_ends H.people N) k
  pub new-avail : (p k : ℕ) → p < H.people → k < new_count H.people N
      → slot (held_then H N).lent.avail (16 * p) (slots_kept H + k) ≡ new_bit H.people N p k
  pub new-units : (u : ℕ) → u < length (new_units H.people N)
      → unit_start (held_then H N).lent.begins (units_kept H + u) ≡ slots_kept H + entry (new_units H.people N) u
  pub unowned : (k : ℕ) → k < new_count H.people N → entry (held_then H N).lent.owners (slots_kept H + k) ≡ nobody
  pub unfrozen : (k : ℕ) → k < new_count H.people N → slot (held_then H N).lent.frozen 0 (slots_kept H + k) ≡ 0

-- ---- a play follows: rule 9 and the recount pass

pub record PlayFollows (H : Held) : Type 0 where
  pub slots : slots_ok H.slots H.lent.starts H.lent.ends ≡ true
  pub units : units_ok H.slots H.units H.lent.begins ≡ true
  pub recount : recounts (plan_of H) H.lent.avail H.units H.lent.begins H.lent.owners H.lent.derived ≡ true

-- ---- a published column follows by the three numbers that are answered

abbrev pub ColumnFollows : Held → New → Type 0
ColumnFollows H N = (column : List ℕ) → 1024 ≤ length column → number_of (column_row H.slots (slots_gone H) (slots_then H N) column) ≡ 0

-- ---- nothing, everything, and a refusal: exactly when; and then every lent byte is as it was

pub record ExactlyWhen (H : Held) (N : New) : Type 0 where
  pub nothing : number_of (retire_row H N) ≡ 0 → units_gone H ≡ 0 → retire_of H N ≡ leaves (Ok retiring.Nothing) H.lent
  pub everything : number_of (retire_row H N) ≡ 0 → (units_gone H ≡ 0 → ⊥) → units_gone H ≡ H.units
      → retire_of H N ≡ leaves (Ok retiring.Everything) H.lent
  pub retired : Retires H N
      → retire_of H N ≡ leaves (Ok (retiring.Retired (slots_gone H) (slots_then H N) (units_then H N))) (held_then H N).lent
  pub refused : (number_of (retire_row H N) ≡ 0 → ⊥) → retire_of H N ≡ leaves (Err (refusal_of (retire_row H N))) H.lent
