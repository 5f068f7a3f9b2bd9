-- The twelve marked cases of the paper, as one table under one statement, each in the paper's words above its line. Where an entry is lent
-- room, the line is for every buffer that has it: what lies past the answer stays. Assumes nothing.
use Rattle.std.specs.Prelude.{◌≡◌, false, List, [], ◌∷◌, ◌++◌, ℕ, ◌-◌, ◌*◌, ◌^◌, ◌≤◌, ℤ, pos, negsuc, Float, length, drop, replicate, Ok, true, Some, None}
use Rattle.std.specs.Float.{fin}
use Rattle.paper.specs.Rows.{accepted}
use Rattle.slotset.specs.declared.SlotSet.{SlotSet}
use Rattle.slotset.specs.declared.Run.TheVariants as run
use Rattle.slots.specs.Ranges.{ranges}
use Rattle.slots.specs.Atomic.{Base, base, Atoms}
use Rattle.units.specs.declared.Settings.{Settings}
use Rattle.targets.specs.Outcome.{given}
use Rattle.owners.specs.Derived.{plan, derived}
use Rattle.promises.specs.Entries.{Call, Component}

-- ---- what the cases give

-- a set of len slots in these words
abbrev pub in_words : ℕ → List ℕ → SlotSet
in_words len ws = record { words = ws; len = len }

-- base slots, and one person with a number of ranges, from opens to shuts
abbrev pub one_person : ℕ → List ℕ → List ℕ → ℕ → List ℕ → List ℕ → List ℕ → List ℕ → Base
one_person slots starts ends count opens shuts a b = base slots starts ends 1 (ranges count (replicate count 0) opens shuts) a b

-- that many atomic slots, from starts to ends, at the front of two columns
abbrev pub atoms : ℕ → List ℕ → List ℕ → List ℕ → List ℕ → Atoms
atoms n starts ends a b = record { answer = Ok n; starts = starts ++ drop n a; ends = ends ++ drop n b }

-- capacity 1, capacity 0
abbrev pub one : Float
one = fin false 1 (pos 0)

abbrev pub none : Float
none = fin false 0 (pos 0)

-- fairness 1, edition 1, and one slot as long as demand: these targets, whatever the availability
abbrev pub Shared : Component → ℕ → List Float → List ℕ → List ℤ → Type 0
Shared C demand capacities priors zs =
    (avail : List ℕ) (out : List ℤ) → 16 * length capacities ≤ length avail → length capacities ≤ length out
    → C.targets (given (length capacities) 1 (0 ∷ []) (demand ∷ []) avail capacities priors 1 0) out
    ≡ record { number = 0; out = zs ++ drop (length capacities) out }

-- rotations on Mondays, with any other settings that rule 7 allows
abbrev pub mondays : ℕ → ℕ → ℕ → ℕ → Settings
mondays fairness lock edition days =
    record { fairness = fairness; lock = lock; boundary = 1; edition = edition; value = 1; days = days }

-- who owns two slots of an hour, and each person's first word and minutes
pub record Owned : Type 0 where
  pub first : ℕ
  pub second : ℕ
  pub words0 : ℕ
  pub words1 : ℕ
  pub minutes0 : ℕ
  pub minutes1 : ℕ
  pub uncovered : ℕ
  pub unassigned : ℕ

-- owners 0 and 1
abbrev pub apart : Owned
apart = record { first = 0; second = 1; words0 = 1; words1 = 2; minutes0 = 60; minutes1 = 60; uncovered = 0; unassigned = 0 }

-- what is lent past what is needed, and the answers' buffer: anything
pub record Spare : Type 0 where
  pub owners : List ℕ
  pub sets : List ℕ
  pub minutes : List ℕ
  pub totals : List ℕ
  pub answers : List ℕ

abbrev pub words : ℕ → List ℕ
words w = w ∷ replicate 15 0

-- these two slots, each a unit, and two people who are available for both; with these flags and these draws
abbrev pub two_units : Owned → ℕ → ℕ → List ℕ → List ℕ → List ℕ → Spare → Call
two_units r frozen count draws firsts seconds more = record {
  plan = plan 2 2 (0 ∷ 60 ∷ []) (60 ∷ 120 ∷ []);
  avail = words 3 ++ words 3;
  units = 2;
  begins = 0 ∷ 1 ∷ [];
  frozen = words frozen;
  count = count;
  draws = draws;
  firsts = firsts;
  seconds = seconds;
  owners = r.first ∷ r.second ∷ more.owners;
  derived = derived (words r.words0 ++ (words r.words1 ++ more.sets)) (r.minutes0 ∷ r.minutes1 ∷ more.minutes)
      (r.uncovered ∷ r.unassigned ∷ more.totals);
  answers = more.answers;
}

-- ---- the table

pub record MarkedCases (C : Component) : Type 0 where
  -- 1. Length 64, {63}: next from 0 is 63, from 64 nothing
  pub case-1 : (rest : List ℕ)
      → (C.next (in_words 64 (2 ^ 63 ∷ rest)) 0 ≡ Ok (Some 63)) × (C.next (in_words 64 (2 ^ 63 ∷ rest)) 64 ≡ Ok None)
  -- 2. Length 65, {0, 64}: prev from 1000 is 64, from 63 is 0
  pub case-2 : (rest : List ℕ)
      → (C.prev (in_words 65 (1 ∷ 1 ∷ rest)) 1000 ≡ Ok (Some 64)) × (C.prev (in_words 65 (1 ∷ 1 ∷ rest)) 63 ≡ Ok (Some 0))
  -- 3. Length 70, 60 to 69 set: run at 64 is 60 to 69
  pub case-3 : (rest : List ℕ) → C.run (in_words 70 ((2 ^ 64 - 2 ^ 60) ∷ (2 ^ 6 - 1) ∷ rest)) 64 ≡ Ok (run.Span 60 69)
  -- 4. Base 0-120, range 60-180: 0-60, 60-120
  pub case-4 : (a b : List ℕ) → 1024 ≤ length a → 1024 ≤ length b
      → C.atomise (one_person 1 (0 ∷ []) (120 ∷ []) 1 (60 ∷ []) (180 ∷ []) a b) ≡ atoms 2 (0 ∷ 60 ∷ []) (60 ∷ 120 ∷ []) a b
  -- 5. Base 0-120, one person's 0-60 and 60-120: no cut
  pub case-5 : (a b : List ℕ) → 1024 ≤ length a → 1024 ≤ length b
      → C.atomise (one_person 1 (0 ∷ []) (120 ∷ []) 2 (0 ∷ 60 ∷ []) (60 ∷ 120 ∷ []) a b) ≡ atoms 1 (0 ∷ []) (120 ∷ []) a b
  -- 6. Base 0-60, 60-120, range 30-90: four slots, the middle two available
  pub case-6 : (a b : List ℕ) → 1024 ≤ length a → 1024 ≤ length b
      → C.atomise (one_person 2 (0 ∷ 60 ∷ []) (60 ∷ 120 ∷ []) 1 (30 ∷ []) (90 ∷ []) a b)
      ≡ atoms 4 (0 ∷ 30 ∷ 60 ∷ 90 ∷ []) (30 ∷ 60 ∷ 90 ∷ 120 ∷ []) a b
  pub case-6-available : (ws : List ℕ) → 16 ≤ length ws
      → let at = C.availability 1 4 (0 ∷ 30 ∷ 60 ∷ 90 ∷ []) (30 ∷ 60 ∷ 90 ∷ 120 ∷ []) (ranges 1 (0 ∷ []) (30 ∷ []) (90 ∷ [])) ws in
      (C.available 1 4 at 0 0 ≡ (Ok false)) × (C.available 1 4 at 0 1 ≡ (Ok true)) × (C.available 1 4 at 0 2 ≡ (Ok true)) × (C.available 1 4 at 0 3 ≡ (Ok false))
  -- 7. Fairness 1, demand 100, three equal: 33, 33, 34
  pub case-7 : Shared C 100 (one ∷ one ∷ one ∷ []) (0 ∷ 0 ∷ 0 ∷ []) (pos 33 ∷ pos 33 ∷ pos 34 ∷ [])
  -- 8. Demand 2, four equal: 1, 1, 1, -1
  pub case-8 : Shared C 2 (one ∷ one ∷ one ∷ one ∷ []) (0 ∷ 0 ∷ 0 ∷ 0 ∷ []) (pos 1 ∷ pos 1 ∷ pos 1 ∷ negsuc 0 ∷ [])
  -- 9. Demand 100, two equal, priors 300, 0: 0, 100
  pub case-9 : Shared C 100 (one ∷ one ∷ []) (300 ∷ 0 ∷ []) (pos 0 ∷ pos 100 ∷ [])
  -- 10. Demand 100, two of capacity 0: 0, 100
  pub case-10 : Shared C 100 (none ∷ none ∷ []) (0 ∷ 0 ∷ []) (pos 0 ∷ pos 100 ∷ [])
  -- 11. Slots from 4320, 5040, 5760, 6480, 720 long, Monday: starts 0, 2
  pub case-11 : (fairness lock edition days : ℕ) (list : List ℕ) → fairness ≤ 1 → lock ≤ 1 → edition ≤ 1 → days ≤ 366 → 4 ≤ length list
      → C.rotations (mondays fairness lock edition days) 4 (4320 ∷ 5040 ∷ 5760 ∷ 6480 ∷ []) (5040 ∷ 5760 ∷ 6480 ∷ 7200 ∷ []) list
      ≡ record { answer = Ok 2; buffer = 0 ∷ 2 ∷ drop 2 list }
  -- 12. Two units, owners 0 and 1, unit 1 frozen: (35, 0, 1) answers 1
  pub case-12 : (more : Spare) → 1 ≤ length more.answers
      → let c = two_units apart 2 1 (35 ∷ []) (0 ∷ []) (1 ∷ []) more in
      C.play c ≡ record { refusal = accepted; owners = c.owners; derived = c.derived; answers = 1 ∷ drop 1 more.answers }
