-- The list of repairs: every place at which what was found and what is mended differ, with both. Assumes nothing.
use Rattle.std.specs.Prelude.{◌≡◌, ◌⊎◌, Bool, not, List, [], ◌∷◌, ◌++◌, map, ℕ, zero, suc, ◌*◌, ◌<◌, eqb, get_or, set}
use Rattle.paper.specs.Count.{among}
use Rattle.slotset.specs.Slots.{slot}
use Rattle.owners.specs.Derived.{Derived, derived}

-- a rota: owners, and what is derived from them
pub record Rota : Type 0 where
  pub owners : List ℕ
  pub derived : Derived

abbrev pub rota : List ℕ → Derived → Rota
rota o D = record { owners = o; derived = D }

-- its parts: 0 slots, 1 words of the sets, 2 minutes, 3 totals
unfoldable pub column : Rota → ℕ → List ℕ
column R zero = R.owners
column R (suc zero) = R.derived.sets
column R (suc (suc zero)) = R.derived.minutes
column R (suc (suc (suc p))) = R.derived.totals

unfoldable pub entries : ℕ → ℕ → ℕ → ℕ
entries people slots zero = slots
entries people slots (suc zero) = 16 * people
entries people slots (suc (suc zero)) = people
entries people slots (suc (suc (suc p))) = 2

-- 1 for a slot that is frozen; other parts have no flag
unfoldable pub flag_of : List ℕ → ℕ → ℕ → ℕ
flag_of frozen zero k = slot frozen 0 k
flag_of frozen (suc p) k = 0

-- ---- what differs

pub record Repair : Type 0 where
  pub part : ℕ
  pub place : ℕ
  pub old : ℕ
  pub new : ℕ
  pub frozen : ℕ

unfoldable pub differs_at : List ℕ → List ℕ → ℕ → Bool
differs_at old new k = not (eqb (get_or old k 0) (get_or new k 0))

abbrev pub repair_at : ℕ → (ℕ → ℕ) → List ℕ → List ℕ → ℕ → Repair
repair_at part flag old new k =
    record { part = part; place = k; old = get_or old k 0; new = get_or new k 0; frozen = flag k }

-- of one column: its places below n that differ, ascending
unfoldable pub repairs_of : ℕ → (ℕ → ℕ) → ℕ → List ℕ → List ℕ → List Repair
repairs_of part flag n old new = map (repair_at part flag old new) (among (differs_at old new) n)

-- of a rota: part by part
abbrev pub repairs_in : ℕ → ℕ → List ℕ → Rota → Rota → ℕ → List Repair
repairs_in people slots frozen found new part =
    repairs_of part (flag_of frozen part) (entries people slots part) (column found part) (column new part)

unfoldable pub repairs : ℕ → ℕ → List ℕ → Rota → Rota → List Repair
repairs people slots frozen found new =
    let of = repairs_in people slots frozen found new in of 0 ++ (of 1 ++ (of 2 ++ of 3))

-- as it is lent: five numbers each
unfoldable pub numbers : List Repair → List ℕ
numbers [] = []
numbers (r ∷ rs) = r.part ∷ r.place ∷ r.old ∷ r.new ∷ r.frozen ∷ numbers rs

-- ---- the same in words: what a list of repairs says of a rota that was found and of a new one

pub record Says (people slots : ℕ) (flags : List ℕ) (found after : Rota) (r : Repair) : Type 0 where
  pub part : r.part < 4
  pub place : r.place < entries people slots r.part
  pub old : r.old ≡ get_or (column found r.part) r.place 0
  pub new : r.new ≡ get_or (column after r.part) r.place 0
  pub differ : r.old ≡ r.new → ⊥
  pub frozen : r.frozen ≡ flag_of flags r.part r.place

-- a comes before b
abbrev pub Before : Repair → Repair → Type 0
Before a b = (a.part < b.part) ⊎ ((a.part ≡ b.part) × (a.place < b.place))

-- each repair of a list; some repair of it; each comes before all that follow
abbrev pub Each : (Repair → Type 0) → List Repair → Type 0
Each X [] = Unit
Each X (r ∷ rs) = X r × Each X rs

abbrev pub Some : (Repair → Type 0) → List Repair → Type 0
Some X [] = ⊥
Some X (r ∷ rs) = X r ⊎ Some X rs

abbrev pub Rises : List Repair → Type 0
Rises [] = Unit
Rises (r ∷ rs) = Each (Before r) rs × Rises rs

-- exactly what differs: nothing else, all of it, in order
pub record Tells (people slots : ℕ) (flags : List ℕ) (found after : Rota) (rs : List Repair) : Type 0 where
  pub only : Each (Says people slots flags found after) rs
  pub every : (p k : ℕ) → p < 4 → k < entries people slots p → (get_or (column found p) k 0 ≡ get_or (column after p) k 0 → ⊥)
      → Some (λ r. (r.part ≡ p) × (r.place ≡ k)) rs
  pub rises : Rises rs

-- ---- repairs carried out one after the other, and taken back

unfoldable pub with_column : Rota → ℕ → List ℕ → Rota
with_column R zero l = rota l R.derived
with_column R (suc zero) l = rota R.owners (derived l R.derived.minutes R.derived.totals)
with_column R (suc (suc zero)) l = rota R.owners (derived R.derived.sets l R.derived.totals)
with_column R (suc (suc (suc p))) l = rota R.owners (derived R.derived.sets R.derived.minutes l)

abbrev pub put : Rota → ℕ → ℕ → ℕ → Rota
put R part place v = with_column R part (set (column R part) place v)

unfoldable pub carried : (Repair → ℕ) → List Repair → Rota → Rota
carried value [] R = R
carried value (r ∷ rs) R = carried value rs (put R r.part r.place (value r))

abbrev pub applied : List Repair → Rota → Rota
applied = carried (λ r. r.new)

abbrev pub undone : List Repair → Rota → Rota
undone = carried (λ r. r.old)
