-- How empty answers are shut out: each way to answer nothing, said of any component. That each breaks a promise is in proofs/Empty.antt.
-- Assumes nothing.
use Rattle.std.specs.Prelude.{◌≡◌, List, ℕ, ◌≤◌, ◌<◌, ℤ, Ok}
use Rattle.slotset.specs.declared.SlotSet.{SlotSet}
use Rattle.slotset.specs.declared.Run.TheVariants.{Span}
use Rattle.slots.specs.Atomic.{Base}
use Rattle.units.specs.declared.Settings.{Settings}
use Rattle.targets.specs.Outcome as targets
use Rattle.owners.specs.Derived.{Plan}
use Rattle.paper.specs.Rows.{answer_refusal}
use Rattle.promises.specs.Entries.{Call, Component, no_of, owners_in, row_of}
use Rattle.promises.specs.Table.{GivenByTests}
use Rattle.promises.specs.Rota.{first_call}

-- "A component that always refuses breaks demand 2: refusals come exactly by the table."
abbrev pub RefusesByTable : Component → Type 0
RefusesByTable C = (c : Call) → GivenByTests (row_of c) (C.play c).refusal.number

-- one of its entries does
pub data AlwaysRefuses (C : Component) : Type 0 where
  refuses-next : ((s : SlotSet) (i : ℕ) → answer_refusal (C.next s i) ≡ 0 → ⊥) → AlwaysRefuses C
  refuses-prev : ((s : SlotSet) (i : ℕ) → answer_refusal (C.prev s i) ≡ 0 → ⊥) → AlwaysRefuses C
  refuses-run : ((s : SlotSet) (i : ℕ) → answer_refusal (C.run s i) ≡ 0 → ⊥) → AlwaysRefuses C
  refuses-size : ((s : SlotSet) → answer_refusal (C.size s) ≡ 0 → ⊥) → AlwaysRefuses C
  refuses-atomise : ((B : Base) → answer_refusal (C.atomise B).answer ≡ 0 → ⊥) → AlwaysRefuses C
  refuses-available : ((p n : ℕ) (ws : List ℕ) (i k : ℕ) → answer_refusal (C.available p n ws i k) ≡ 0 → ⊥) → AlwaysRefuses C
  refuses-targets : ((g : targets.Given) (out : List ℤ) → (C.targets g out).number ≡ 0 → ⊥) → AlwaysRefuses C
  refuses-rotations : ((s : Settings) (n : ℕ) (starts ends list : List ℕ) → answer_refusal
      (C.rotations s n starts ends list).answer ≡ 0 → ⊥)
      → AlwaysRefuses C
  refuses-play : ((c : Call) → (C.play c).refusal.number ≡ 0 → ⊥) → AlwaysRefuses C
  refuses-uncovered : ((P : Plan) (o : List ℕ) → answer_refusal (C.uncovered P o) ≡ 0 → ⊥) → AlwaysRefuses C

-- "One fixed answer breaks it by cases 1 to 12": one of its entries gives it, whatever it is asked
pub data FixedAnswer (C : Component) : Type 0 where
  fixed-next : ((s t : SlotSet) (i j : ℕ) → C.next s i ≡ C.next t j) → FixedAnswer C
  fixed-prev : ((s t : SlotSet) (i j : ℕ) → C.prev s i ≡ C.prev t j) → FixedAnswer C
  fixed-run : ((s t : SlotSet) (i j : ℕ) → C.run s i ≡ C.run t j) → FixedAnswer C
  fixed-atomise : ((A B : Base) → C.atomise A ≡ C.atomise B) → FixedAnswer C
  fixed-available : ((p n : ℕ) (ws : List ℕ) (i j k l : ℕ) → C.available p n ws i j ≡ C.available p n ws k l) → FixedAnswer C
  fixed-targets : ((g h : targets.Given) (out : List ℤ) → C.targets g out ≡ C.targets h out) → FixedAnswer C
  fixed-rotations : ((s : Settings) (n : ℕ) (starts ends list other : List ℕ)
      → C.rotations s n starts ends list ≡ C.rotations s n starts ends other) → FixedAnswer C
  fixed-play : ((c d : Call) → C.play c ≡ C.play d) → FixedAnswer C

-- case 3 alone asks for a run; beside it: a run that is answered holds the slot that was asked for
abbrev pub RunsHold : Component → Type 0
RunsHold C = (s : SlotSet) (i first last : ℕ) → C.run s i ≡ Ok (Span first last) → (first ≤ i) × (i ≤ last)

-- "Doing nothing keeps the frozen, availability and total parts of demand 3, so those rest on demand 2's rule for when a draw acts."
pub record DoesNothing (C : Component) : Type 0 where
  pub owners : (c : Call) → (C.play c).owners ≡ c.owners
  pub derived : (c : Call) → (C.play c).derived ≡ c.derived

-- demand 2's rule, of a whole list: its owners are those that the rules of the draws give
abbrev pub ActsByRule : Component → Type 0
ActsByRule C = (c : Call) → no_of c ≡ 0 → (C.play c).owners ≡ owners_in c

-- "Playing only the first draw falls to the rota worked out afresh."
abbrev pub FirstDrawOnly : Component → Type 0
FirstDrawOnly C = (c : Call) → no_of c ≡ 0 → 0 < c.count → (C.play c).owners ≡ owners_in (first_call c 1)

-- "A set's count or uncovered total that is invented falls to the recount": it doesn't look at the members, or at the owners
abbrev pub InventedCount : Component → Type 0
InventedCount C = (s t : SlotSet) → s.len ≡ t.len → C.size s ≡ C.size t

abbrev pub InventedUncovered : Component → Type 0
InventedUncovered C = (P : Plan) (o w : List ℕ) → C.uncovered P o ≡ C.uncovered P w
