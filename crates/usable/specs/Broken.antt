-- What it means that a rota made elsewhere breaks a rule at a slot, over slots and minutes; and which break is named. Assumes nothing.
use Rattle.std.specs.Prelude.{◌≡◌, List, ℕ, zero, suc, ◌-◌, ◌*◌, ◌<◌, get_or}
use Rattle.paper.specs.Limits.{nobody}
use Rattle.slotset.specs.Slots.{slot}
use Rattle.slotset.specs.Runs.{Around}
use Rattle.units.specs.Units.{unit_start, InUnit}
use Rattle.owners.specs.Derived.{Plan, plan, held}
use Rattle.usable.specs.declared.Verdict.{Verdict}
use Rattle.usable.specs.declared.Verdict.TheVariants as verdict

-- what is brought, and what it is judged by
pub record Brought : Type 0 where
  pub plan : Plan
  pub units : ℕ
  pub cap : ℕ
  pub rest : ℕ
  pub avail : List ℕ
  pub begins : List ℕ
  pub frozen : List ℕ
  pub published : List ℕ
  pub owners : List ℕ

abbrev pub brought : ℕ → ℕ → ℕ → ℕ → ℕ → List ℕ → List ℕ → List ℕ → List ℕ → List ℕ → List ℕ → List ℕ → Brought
brought people slots units cap rest starts ends avail begins frozen published owners =
    record {
      plan = plan people slots starts ends;
      units = units;
      cap = cap;
      rest = rest;
      avail = avail;
      begins = begins;
      frozen = frozen;
      published = published;
      owners = owners;
    }

abbrev pub slots_of : Brought → ℕ
slots_of B = B.plan.slots

-- the owner of slot k, and when it starts and ends
abbrev pub owner_of : Brought → ℕ → ℕ
owner_of B k = get_or B.owners k 0

abbrev pub start_of : Brought → ℕ → ℕ
start_of B k = get_or B.plan.starts k 0

abbrev pub end_of : Brought → ℕ → ℕ
end_of B k = get_or B.plan.ends k 0

-- a shift of w: the whole run of w's slots from `first` to `last`; nobody has none
pub record Shift (B : Brought) (w first last : ℕ) : Type 0 where
  pub somebody : w ≡ nobody → ⊥
  pub run : Around 1 (held B.owners w) (slots_of B) first first last

-- rule 1: slot k is somebody's who is unknown, or not available for it
pub record Barred (B : Brought) (k : ℕ) : Type 0 where
  pub below : k < slots_of B
  pub somebody : owner_of B k ≡ nobody → ⊥
  pub barred : owner_of B k < B.plan.people → slot B.avail (16 * owner_of B k) k ≡ 1 → ⊥

-- rule 2: slot k is frozen, and its owner is not the published one
pub record Moved (B : Brought) (k : ℕ) : Type 0 where
  pub below : k < slots_of B
  pub frozen : slot B.frozen 0 k ≡ 1
  pub moved : owner_of B k ≡ get_or B.published k 0 → ⊥

-- rule 3: slot k has another owner than the first slot of its unit
pub record Uneven (B : Brought) (k : ℕ) : Type 0 where
  pub unit : ℕ
  pub inside : InUnit (slots_of B) B.units B.begins k unit
  pub differs : owner_of B k ≡ owner_of B (unit_start B.begins unit) → ⊥

-- rule 4: a shift from slot k on is longer than the cap, from its first start to its last end
pub record TooLong (B : Brought) (k : ℕ) : Type 0 where
  pub who : ℕ
  pub last : ℕ
  pub shift : Shift B who k last
  pub longer : B.cap < end_of B last - start_of B k

-- rule 5: of some two shifts of one person, the later one is from slot k on, and starts before the rest since the earlier one has passed
pub record TooClose (B : Brought) (k : ℕ) : Type 0 where
  pub who : ℕ
  pub first : ℕ
  pub last : ℕ
  pub end : ℕ
  pub earlier : Shift B who first last
  pub later : Shift B who k end
  pub before : last < k
  pub closer : start_of B k - end_of B last < B.rest

-- rule n is broken at slot k; there are five
abbrev pub Breaks : Brought → ℕ → ℕ → Type 0
Breaks B zero k = ⊥
Breaks B (suc zero) k = Barred B k
Breaks B (suc (suc zero)) k = Moved B k
Breaks B (suc (suc (suc zero))) k = Uneven B k
Breaks B (suc (suc (suc (suc zero)))) k = TooLong B k
Breaks B (suc (suc (suc (suc (suc zero))))) k = TooClose B k
Breaks B (suc (suc (suc (suc (suc (suc n)))))) k = ⊥

-- no rule is broken anywhere
abbrev pub AllHold : Brought → Type 0
AllHold B = (n k : ℕ) → Breaks B n k → ⊥

-- the first rule that is broken anywhere, and the lowest slot at which it shows
pub record FirstBroken (B : Brought) (rule at : ℕ) : Type 0 where
  pub breaks : Breaks B rule at
  pub lowest : (k : ℕ) → k < at → Breaks B rule k → ⊥
  pub first : (n k : ℕ) → n < rule → Breaks B n k → ⊥

-- what each verdict means
abbrev pub Means : Brought → Verdict → Type 0
Means B verdict.Usable = AllHold B
Means B (verdict.Broken rule at) = FirstBroken B rule at
