-- A rota made elsewhere: whether it may be used, by document 02's five rules, which of them is named and where, what is refused, and that a
-- rota that may be used can be taken over. The rules stand in `usable/specs/Broken`. Assumes nothing.
use Rattle.std.specs.Prelude.{◌≡◌, true, cond, List, [], ◌∷◌, ◌↔◌, ℕ, ◌-◌, ◌*◌, ◌≤◌, ◌<◌, eqb, ltb, length, Result, Ok, Err}
use Rattle.paper.specs.Limits.{nobody, number_of}
use Rattle.paper.specs.Rows.{answer_refusal}
use Rattle.owners.specs.Derived.{Derived}
use Rattle.owners.specs.Entries.{from_slots}
use Rattle.usable.specs.declared.Verdict.{Verdict}
use Rattle.usable.specs.declared.Verdict.TheVariants as verdict
use Rattle.usable.specs.Broken.{Brought, brought, slots_of, owner_of, Shift, TooClose, AllHold, FirstBroken, Means}
use Rattle.usable.specs.Answers.{figures_ok, usable_row, verdict_is}
use Rattle.boltraven_c.specs.Usable.{verdict_number, verdict_slot}
use Rattle.promises.specs.Marked.{words}
use Rattle.promises.specs.Table.{Rule, GivenBy, GivenByTests}
use Rattle.promises.specs.Tests.{SlotsRight, UnitsRight}
use Rattle.promises.specs.SetRules.{TheOne}
use Rattle.promises.specs.Tables.{outside, short, broken}
use Rattle.promises.specs.RotaRules.{PassesRecount}

-- ---- what is refused

-- 7: not "cap 0, or cap or rest above 100,000,000"
pub record CapAndRest (c r : ℕ) : Type 0 where
  pub some : 1 ≤ c
  pub cap : c ≤ 100000000
  pub rest : r ≤ 100000000

abbrev pub usable_table : Brought → List Rule
usable_table B =
    outside 1 32 B.plan.people ∷ outside 1 1024 (slots_of B) ∷ short (slots_of B) (length B.plan.starts)
    ∷ short (slots_of B) (length B.plan.ends) ∷ short (16 * B.plan.people) (length B.avail)
    ∷ short B.units (length B.begins) ∷ short 16 (length B.frozen) ∷ short (slots_of B) (length B.published)
    ∷ short (slots_of B) (length B.owners) ∷ broken 7 (CapAndRest B.cap B.rest)
    ∷ broken 9 (SlotsRight (slots_of B) B.plan.starts B.plan.ends) ∷ broken 9 (UnitsRight (slots_of B) B.units B.begins) ∷ []

-- ---- shifts

-- w owns each slot from a to b
abbrev pub Owns : Brought → ℕ → ℕ → ℕ → Type 0
Owns B w a b = (k : ℕ) → a ≤ k → k ≤ b → owner_of B k ≡ w

-- a shift: somebody's slots, and no longer stretch of theirs holds it
pub record IsShift (B : Brought) (w first last : ℕ) : Type 0 where
  pub somebody : w ≡ nobody → ⊥
  pub some : first ≤ last
  pub below : last < slots_of B
  pub owns : Owns B w first last
  pub whole : (a b : ℕ) → a ≤ first → last ≤ b → b < slots_of B → Owns B w a b → (a ≡ first) × (b ≡ last)

-- a break of the rest by a shift and the one of its owner that comes just before it
pub record NextTooClose (B : Brought) (k : ℕ) : Type 0 where
  pub close : TooClose B k
  pub next : (j : ℕ) → close.last < j → j < k → owner_of B j ≡ close.who → ⊥

-- ---- the answer as a C caller reads it: a number, and the slot beside it

abbrev pub read_verdict : ℕ → ℕ → Result Verdict ℕ
read_verdict v k = cond (eqb v 0) (Ok verdict.Usable) (cond (ltb v 65536) (Ok (verdict.Broken v k)) (Err (v - 65536)))

-- ---- a call: two slots 0-60 and 60-120 of one unit, one person who is free for both and has both, slot 0 frozen and as published

abbrev pub both_hers : ℕ → ℕ → Brought
both_hers cap rest =
    brought 1 2 1 cap rest (0 ∷ 60 ∷ []) (60 ∷ 120 ∷ []) (words 3) (0 ∷ []) (words 1) (0 ∷ 0 ∷ []) (0 ∷ 0 ∷ [])

pub record UsableByRule : Type 0 where
  -- demand 1: a number is given exactly when its row says so and no lower one does, by the tests and in the words of the paper
  pub refuses : (B : Brought) → GivenByTests (usable_row B) (answer_refusal (verdict_is B))
  pub by-table : (B : Brought) → GivenBy (usable_table B) (answer_refusal (verdict_is B))
  pub figures : (cap rest : ℕ) → (figures_ok cap rest ≡ true) ↔ CapAndRest cap rest
  -- not refused: the verdict is the one that means what it says of the rota ..
  pub judged : (B : Brought) → number_of (usable_row B) ≡ 0
      → (v : Verdict) × (verdict_is B ≡ Ok v) × TheOne (Means B) v
  -- .. "Yes exactly when all five hold"
  pub usable : (B : Brought) → number_of (usable_row B) ≡ 0 → (verdict_is B ≡ Ok verdict.Usable) ↔ AllHold B
  -- .. "otherwise name the first broken rule in that order and the lowest slot at which it shows"
  pub broken : (B : Brought) → number_of (usable_row B) ≡ 0
      → (n k : ℕ) → (verdict_is B ≡ Ok (verdict.Broken n k)) ↔ FirstBroken B n k
  -- "A shift is a run of slots of one owner": the longest stretch; each slot that somebody owns is in just one
  pub shift : (B : Brought) (w first last : ℕ) → Shift B w first last ↔ IsShift B w first last
  pub in_shift : (B : Brought) (k : ℕ) → k < slots_of B → (owner_of B k ≡ nobody → ⊥)
      → (a b : ℕ) × Shift B (owner_of B k) a b × (a ≤ k) × (k ≤ b)
      × ((c d : ℕ) → Shift B (owner_of B k) c d → c ≤ k → k ≤ d → (c ≡ a) × (d ≡ b))
  -- rest is asked of all pairs of a person's shifts, and those that follow each other suffice
  pub neighbours : (B : Brought) → number_of (usable_row B) ≡ 0 → (k : ℕ) → TooClose B k → NextTooClose B k
  -- a rota that may be used can be taken over: from_slots accepts it, and what it makes passes the recount, units too
  pub taken-over : (B : Brought) (D : Derived) → number_of (usable_row B) ≡ 0 → verdict_is B ≡ Ok verdict.Usable
      → 16 * B.plan.people ≤ length D.sets → B.plan.people ≤ length D.minutes → 2 ≤ length D.totals
      → let y = from_slots B.plan B.avail B.owners D in
      (y.refusal.number ≡ 0) × PassesRecount B.plan B.avail B.units B.begins y.owners y.derived
  -- in C: the number and what stands beside it are read as the verdict that was meant
  pub reads : (B : Brought) (was : ℕ) → read_verdict (verdict_number (verdict_is B)) (verdict_slot was (verdict_is B)) ≡ verdict_is B
  -- no promise is empty: a call that is accepted, where a length equal to the cap passes, and a cap one minute shorter
  pub passes : verdict_is (both_hers 120 1) ≡ Ok verdict.Usable
  pub too_long : verdict_is (both_hers 119 1) ≡ Ok (verdict.Broken 4 0)
