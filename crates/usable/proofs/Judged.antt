-- The five rules in their order: what the code's walks come to. And what the refusals' row leaves known. Assumes nothing.
use mathlib.Core.Path.{◌≡◌, refl, sym, ap, ◌∙◌}
use mathlib.Core.Bool.{Bool, true, cond}
use Prim.Native.Nat.{ℕ, ◌*◌}
use native.Mathlib.Omega.{arith}
use Rattle.std.proofs.Common.{None, Some, Ok, Err}
use lib.Dec.{leb}
use lib.ListN.{length}
use Rattle.paper.specs.Limits.{people_ok, slot_count_ok, number_of}
use Rattle.paper.specs.Count.{all}
use Rattle.paper.proofs.Logic.{by-test}
use Rattle.paper.proofs.Rows.{passed}
use Rattle.slotset.proofs.Refusals.{answer-is, answer-refused}
use Rattle.slots.specs.Lent.{SlotsSound, slots_ok, slot_room_ok}
use Rattle.slots.proofs.LentLaws.{slots-sound}
use Rattle.units.specs.Units.{units_ok}
use Rattle.owners.specs.Recount.{first_fail}
use Rattle.usable.specs.declared.Verdict.{Verdict}
use Rattle.usable.specs.declared.Verdict.TheVariants as verdict
use Rattle.usable.specs.Rules.{allowed_at, uniform_at}
use Rattle.usable.specs.Broken.{Brought, slots_of}
use Rattle.usable.specs.Answers.{figures_ok, usable_row, or_broken, judged, verdict_is}
use Rattle.usable.specs.Inside.{ByUnit, fault}
use Rattle.usable.proofs.Walks.{unit-start}

-- a rule that is broken ends it, one that holds leaves what comes after it
module _ (slots n : ℕ) (p : ℕ → Bool) (v : Verdict) where
  pub breaks : (k : ℕ) → Some k ≡ fault slots p → verdict.Broken n k ≡ or_broken slots n p v
  unfolding or_broken fault
  breaks k e =
      by-test (all slots p) _ (λ t. let z : Some k ≡ None = simp t at e in cc)
      (λ f. let q : Some k ≡ Some (first_fail slots p) = simp f at e in simp f cc)

  pub holds : None ≡ fault slots p → {x : Verdict} → x ≡ v → x ≡ or_broken slots n p v
  unfolding or_broken fault
  holds e q =
      by-test (all slots p) _ (λ t. simp t q)
      (λ f. let z : None ≡ Some (first_fail slots p) = simp f at e in cc)

-- where it may be used, each rule holds of every slot
pub usable-holds : (slots n : ℕ) (p : ℕ → Bool) (v : Verdict) → or_broken slots n p v ≡ verdict.Usable
    → (all slots p ≡ true) × (v ≡ verdict.Usable)
unfolding or_broken
usable-holds slots n p v e =
    by-test (all slots p) _
    (λ t. (t, sym (ap (λ (b : Bool). cond b v (verdict.Broken n (first_fail slots p))) t) ∙ e))
    (λ f.
    let q : verdict.Broken n (first_fail slots p) ≡ verdict.Usable
    = sym (ap (λ (b : Bool). cond b v (verdict.Broken n (first_fail slots p))) f) ∙ e in
    let z : ◌≡◌ {A = ℕ} 0 1 = cc in
    absurd (omega arith))

pub judged-holds : (B : Brought) → judged B ≡ verdict.Usable
    → (all (slots_of B) (allowed_at B.plan.people B.avail B.owners) ≡ true)
    × (all (slots_of B) (uniform_at B.units B.begins B.owners) ≡ true)
unfolding judged
judged-holds B e =
    let a = usable-holds (slots_of B) _ _ _ e in
    let b = usable-holds (slots_of B) _ _ _ a.1 in
    let c = usable-holds (slots_of B) _ _ _ b.1 in
    (a.0, c.0)

-- what the row leaves known
pub record Right (B : Brought) : Type 0 where
  pub people : people_ok B.plan.people ≡ true
  pub count : slot_count_ok (slots_of B) ≡ true
  pub room : slot_room_ok (slots_of B) B.plan.starts B.plan.ends ≡ true
  pub avail-room : leb (16 * B.plan.people) (length B.avail) ≡ true
  pub begins-room : leb B.units (length B.begins) ≡ true
  pub owners-room : leb (slots_of B) (length B.owners) ≡ true
  pub figures : figures_ok B.cap B.rest ≡ true
  pub lent : slots_ok (slots_of B) B.plan.starts B.plan.ends ≡ true
  pub units : units_ok (slots_of B) B.units B.begins ≡ true

pub row-right : (B : Brought) → number_of (usable_row B) ≡ 0 → Right B
unfolding usable_row
row-right B z =
    let h = passed (usable_row B) refl z in
    record {
      people = h 0;
      count = h 1;
      room = h 2;
      avail-room = h 3;
      begins-room = h 4;
      owners-room = h 7;
      figures = h 8;
      lent = h 9;
      units = h 10;
    }

-- what the walks ask
pub row-asks : (B : Brought) → number_of (usable_row B) ≡ 0 → SlotsSound (slots_of B) B.plan.starts B.plan.ends
    × ByUnit (slots_of B) B.units B.begins 0 0
row-asks B z =
    let R = row-right B z in
    (slots-sound (slots_of B) B.plan.starts B.plan.ends R.lent, unit-start (slots_of B) B.units B.begins R.units)

-- the answer, by the number
module _ (B : Brought) (n : ℕ) (e : n ≡ number_of (usable_row B)) where
  pub judged-when : n ≡ 0 → Ok (judged B) ≡ verdict_is B
  unfolding verdict_is
  judged-when z = answer-is n _ e z (judged B) (judged B) refl

  pub refused-when : (n ≡ 0 → ⊥) → Err n ≡ verdict_is B
  unfolding verdict_is
  refused-when h = answer-refused n _ e h (judged B)
