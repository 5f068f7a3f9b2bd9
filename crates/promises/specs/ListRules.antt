-- The rules of what is listed, said of any component: where rotations and units start, domains, and runs. So one that always lists the same
-- falls, whatever it lists. Assumes nothing.
use Rattle.std.specs.Prelude.{◌≡◌, true, List, ◌↔◌, ℕ, ◌≤◌, ◌<◌, length, get_or, Result, Ok, Option}
use Rattle.paper.specs.Bits.{bit_of}
use Rattle.paper.specs.Limits.{number_of}
use Rattle.slotset.specs.declared.SlotSet.{SlotSet}
use Rattle.slotset.specs.declared.NextRun.{NextRun}
use Rattle.slotset.specs.declared.Run.{Run}
use Rattle.slotset.specs.declared.Run.TheVariants.{Span}
use Rattle.slotset.specs.Runs.{Around, Ends, AreRuns}
use Rattle.slotset.specs.Answers.{length_row, slots_of, row_slots}
use Rattle.runs.specs.Listed.{runs_row}
use Rattle.units.specs.declared.Settings.{Settings}
use Rattle.units.specs.Units.{unit_start, unit_end}
use Rattle.units.specs.Starts.{rotation_begins, unit_begins, starts_row}
use Rattle.units.specs.Domains.{available, able, slot_domain_row, unit_domain_row, unit_domains_row}
use Rattle.promises.specs.Entries.{Component}
use Rattle.promises.specs.SetRules.{first_ahead, FrontOf}
use Rattle.promises.specs.UnitRules.{Lists}

-- an accepted call lists all that pass, ascending, and nothing else
pub record ListsByRule (C : Component) : Type 0 where
  pub rotations : (s : Settings) (slots : ℕ) (starts ends list : List ℕ) → number_of (starts_row s slots starts ends list) ≡ 0
      → (l : List ℕ) × Lists (rotation_begins s.boundary s.value starts) slots l list (C.rotations s slots starts ends list)
  pub units : (s : Settings) (slots : ℕ) (starts ends list : List ℕ) → number_of (starts_row s slots starts ends list) ≡ 0
      → (l : List ℕ) × Lists (unit_begins s.lock s.boundary s.value starts) slots l list (C.unit_starts s slots starts ends list)
  pub slot-domain : (avail : List ℕ) (people slots k : ℕ) (list : List ℕ) → number_of (slot_domain_row avail people slots k list) ≡ 0
      → (l : List ℕ) × Lists (λ p. available avail p k) people l list (C.slot_domain avail people slots k list)
  pub unit-domain : (avail : List ℕ) (people slots units : ℕ) (begins : List ℕ) (u : ℕ) (list : List ℕ)
      → number_of (unit_domain_row avail people slots units begins u list) ≡ 0
      → (l : List ℕ) × Lists (able avail (unit_start begins u) (unit_end slots units begins u)) people l list
      (C.unit_domain avail people slots units begins u list)
  -- as masks: bit p of mask u
  pub unit-domains : (avail : List ℕ) (people slots units : ℕ) (begins masks : List ℕ)
      → number_of (unit_domains_row avail people slots units begins masks) ≡ 0
      → let out = C.unit_domains avail people slots units begins masks in
      ((u p : ℕ) → u < units
      → (bit_of (get_or out u 0) p ≡ 1) ↔ ((p < people) × (able avail (unit_start begins u) (unit_end slots units begins u) p ≡ true)))
      × ((u : ℕ) → units ≤ u → get_or out u 0 ≡ get_or masks u 0)
  -- the run around a slot; the first of those ahead; all of them in two columns
  pub run : (s : SlotSet) (i first last : ℕ) → number_of (length_row s.len) ≡ 0 → Around 1 (slots_of s) s.len i first last
      → C.run s i ≡ Ok (Span first last)
  pub next-run : (s : SlotSet) (at : ℕ) (l : List Ends) → number_of (length_row s.len) ≡ 0 → AreRuns (slots_of s) s.len at l
      → C.next_run s at ≡ Ok (first_ahead l)
  pub all_runs : (ws : List ℕ) (people person len : ℕ) (firsts lasts : List ℕ)
      → number_of (runs_row ws people person len (length firsts) (length lasts)) ≡ 0 → (l : List Ends) → AreRuns (row_slots ws person) len 0 l
      → let x = C.all_runs ws people person len firsts lasts in
      (x.answer ≡ Ok (length l)) × FrontOf (λ r. r.first) l firsts x.firsts × FrontOf (λ r. r.last) l lasts x.lasts

-- one of these entries tells the same number, or lists the same, of every call that is accepted
pub data FixedList (C : Component) : Type 0 where
  fixed-rotations : (n : Result ℕ ℕ)
      → ((s : Settings) (slots : ℕ) (starts ends list : List ℕ) → number_of (starts_row s slots starts ends list) ≡ 0
      → (C.rotations s slots starts ends list).answer ≡ n) → FixedList C
  fixed-units : (n : Result ℕ ℕ)
      → ((s : Settings) (slots : ℕ) (starts ends list : List ℕ) → number_of (starts_row s slots starts ends list) ≡ 0
      → (C.unit_starts s slots starts ends list).answer ≡ n) → FixedList C
  fixed-slot-domain : (n : Result ℕ ℕ)
      → ((avail : List ℕ) (people slots k : ℕ) (list : List ℕ) → number_of (slot_domain_row avail people slots k list) ≡ 0
      → (C.slot_domain avail people slots k list).answer ≡ n) → FixedList C
  fixed-unit-domain : (n : Result ℕ ℕ)
      → ((avail : List ℕ) (people slots units : ℕ) (begins : List ℕ) (u : ℕ) (list : List ℕ)
      → number_of (unit_domain_row avail people slots units begins u list) ≡ 0
      → (C.unit_domain avail people slots units begins u list).answer ≡ n) → FixedList C
  fixed-masks : (m : ℕ)
      → ((avail : List ℕ) (people slots units : ℕ) (begins masks : List ℕ)
      → number_of (unit_domains_row avail people slots units begins masks) ≡ 0
      → get_or (C.unit_domains avail people slots units begins masks) 0 0 ≡ m) → FixedList C
  fixed-run : (x : Result Run ℕ) → ((s : SlotSet) (i : ℕ) → number_of (length_row s.len) ≡ 0 → C.run s i ≡ x) → FixedList C
  fixed-next-run : (x : Result (Option NextRun) ℕ) → ((s : SlotSet) (at : ℕ) → number_of (length_row s.len) ≡ 0 → C.next_run s at ≡ x) → FixedList C
  fixed-all-runs : (n : Result ℕ ℕ)
      → ((ws : List ℕ) (people person len : ℕ) (firsts lasts : List ℕ)
      → number_of (runs_row ws people person len (length firsts) (length lasts)) ≡ 0
      → (C.all_runs ws people person len firsts lasts).answer ≡ n) → FixedList C
