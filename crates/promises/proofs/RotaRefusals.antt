-- Demand 1 of targets and rota: given by the table, and a refusal leaves what was lent as it was. Assumes nothing.
use mathlib.Core.Path.{◌≡◌, refl, sym, ap, subst, ◌∙◌}
use mathlib.Core.Bool.{Bool, true, ◌&&◌, cond, and-false}
use mathlib.Core.List.{List, [], ◌∷◌}
use Prim.Native.Nat.{ℕ, ◌*◌}
use borrow.Author.Tests.{ne_eqb, le-leb}
use lib.Dec.{leb, ltb}
use lib.IntN.{ℤ}
use lib.ListN.{length, get_or, set, replicate}
use Rattle.paper.proofs.Rows.{said}
use Rattle.paper.specs.declared.Refusal.{Refusal}
use Rattle.paper.specs.Limits.{people_ok, slot_count_ok, or_else, Test, test, number_of, nobody, counts_ok}
use Rattle.paper.specs.Count.{fill}
use Rattle.paper.proofs.Logic.{by-test, slot-count-says}
use Rattle.paper.specs.Rows.{unless, refusal_of, answer_refusal}
use Rattle.slotset.specs.declared.Changed.{Changed}
use Rattle.slotset.specs.Answers.{sets_row, person_row, changed_as, load_of}
use Rattle.slotset.proofs.Refusals.{answer-said}
use Rattle.targets.specs.Outcome as targets
use Rattle.targets.proofs.Promises.{number-row, refused-keeps}
use Rattle.owners.specs.Derived.{Plan, Derived, afresh, unassigned, uncovered}
use Rattle.rota.specs.Entries as rota
use Rattle.rota.specs.declared.draws.Draw.{Draw}
use Rattle.rota.proofs.Alike.{played-same}
use Rattle.promises.specs.Entries.{Call, play_of, of_draws, play_draws_of, afresh_in, row_of}
use Rattle.promises.specs.Table.{rules, GivenByTests, Refuses}
use Rattle.promises.specs.Refusals.{TargetsRefuse, Lent, left, RotaRefuses}
use Rattle.promises.proofs.Table.{rising, tests-give, given-as}
use Rattle.promises.proofs.TargetGuard.{eight-says}
use Rattle.owners.specs.Recount.{recount_tests}
use Rattle.owners.specs.Entries as state

-- ---- targets

targets-number : (g : targets.Given) (out : List ℤ)
    → let x = targets.compute_targets g out in Refuses (rules (targets.targets_row g (length out))) x.number out x.out
unfolding targets.targets_row targets.room_row
targets-number g out = record {
  given = given-as (targets.targets_row g (length out)) _ refl (number-row g out);
  kept = refused-keeps g out;
}

pub targets-refuse : TargetsRefuse
targets-refuse = record { compute-targets = targets-number; guard = eight-says }

-- ---- rota

-- an outcome with the number of a row of tests
outcome-refuses : (t : List Test) (f : Refusal) (o : List ℕ) (D : Derived) (x o' : List ℕ) (D' : Derived) (x' : List ℕ)
    → f.number ≡ number_of t → rising 1 t ≡ true
    → let y = state.outcome f o D x o' D' x' in Refuses {A = Lent} (rules t) y.refusal.number (o, D, x) (left y)
unfolding state.outcome unless
outcome-refuses t f o D x o' D' x' e r = record {
  given = given-as t f.number r e;
  kept = λ h. ap {B = Lent} (λ (b : Bool). (cond b o' o, cond b D' D, cond b x' x)) (ne_eqb f.number 0 h);
}

from-slots-refuses : (P : Plan) (avail o : List ℕ) (D : Derived)
    → let y = state.from_slots P avail o D in
    Refuses {A = Lent} (rules (state.from_slots_row P avail o D)) y.refusal.number (o, D, []) (left y)
unfolding state.from_slots state.from_slots_row state.lent_row
from-slots-refuses P avail o D =
    let t = state.from_slots_row P avail o D in outcome-refuses t (state.placeless (number_of t)) o D [] o (afresh P o D) [] refl refl

assign-refuses : (P : Plan) (avail o : List ℕ) (D : Derived) (k w : ℕ)
    → let y = rota.assigned P avail o D k w in
    Refuses {A = Lent} (rules (rota.assign_row P avail o D k w)) y.refusal.number (o, D, []) (left y)
unfolding rota.assigned rota.assign_row state.recount_slots_row state.lent_row recount_tests
assign-refuses P avail o D k w =
    let t = rota.assign_row P avail o D k w in
    outcome-refuses t (refusal_of t) o D [] (set o k w) (afresh P (set o k w) D) [] (said t refl) refl

recount-number : (counts room : Bool) (P : Plan) (avail : List ℕ) (units : ℕ) (begins o : List ℕ) (D : Derived)
    → GivenByTests (state.recount_row counts room P avail units begins o D)
    (number_of (state.recount_row counts room P avail units begins o D))
unfolding state.recount_row state.lent_row recount_tests
recount-number counts room P avail units begins o D = tests-give (state.recount_row counts room P avail units begins o D) refl

recount-slots-number : (P : Plan) (avail o : List ℕ) (D : Derived)
    → GivenByTests (state.recount_slots_row P avail o D) (number_of (state.recount_slots_row P avail o D))
unfolding state.recount_slots_row state.lent_row recount_tests
recount-slots-number P avail o D = tests-give (state.recount_slots_row P avail o D) refl

play-refuses : (c : Call)
    → let y = play_of c in Refuses {A = Lent} (rules (row_of c)) y.refusal.number (c.owners, c.derived, c.answers) (left y)
unfolding rota.played_list state.recount_row state.lent_row recount_tests
play-refuses c =
    let y = afresh_in c in
    outcome-refuses (row_of c) (refusal_of (row_of c)) c.owners c.derived c.answers y.owners y.derived y.answers
    (said (row_of c) refl) refl

play-draws-refuses : (c : Call) (ds : List Draw)
    → let y = play_draws_of c ds in
    Refuses {A = Lent} (rules (row_of (of_draws c ds))) y.refusal.number (c.owners, c.derived, c.answers) (left y)
play-draws-refuses c ds =
    let same = played-same c.plan c.avail c.units c.begins c.frozen c.count c.owners c.derived c.answers ds in
    subst (λ (y : state.Outcome). Refuses {A = Lent} (rules (row_of (of_draws c ds))) y.refusal.number (
      c.owners,
      c.derived,
      c.answers,
    ) (left y))
    (sym same) (play-refuses (of_draws c ds))

empty-refuses : (P : Plan) (o : List ℕ) (D : Derived)
    → let y = state.emptied P o D in
    Refuses {A = Lent} (rules (state.empty_row P o D)) y.refusal.number (o, D, []) (left y)
unfolding state.emptied state.empty_row
empty-refuses P o D =
    let t = state.empty_row P o D in
    let none = fill nobody 0 P.slots o in
    outcome-refuses t (state.placeless (number_of t)) o D [] none (afresh P none D) [] refl refl

owner-number : (people slots : ℕ) (o : List ℕ) (k : ℕ)
    → GivenByTests (state.owner_row people slots o k) (answer_refusal (state.owner_is people slots o k))
unfolding state.owner_is state.owner_row
owner-number people slots o k = given-as (state.owner_row people slots o k) _ refl (answer-said _ (get_or o k 0))

minutes-number : (people : ℕ) (m : List ℕ) (p : ℕ) → GivenByTests (state.minutes_row people m p)
    (answer_refusal (state.minutes_is people m p))
unfolding state.minutes_is state.minutes_row
minutes-number people m p = given-as (state.minutes_row people m p) _ refl (answer-said _ (get_or m p 0))

unassigned-number : (people slots : ℕ) (o : List ℕ)
    → GivenByTests (state.unassigned_row people slots o) (answer_refusal (state.unassigned_is people slots o))
unfolding state.unassigned_is state.unassigned_row
unassigned-number people slots o = given-as (state.unassigned_row people slots o) _ refl (answer-said _ (unassigned slots o))

uncovered-number : (P : Plan) (o : List ℕ) → GivenByTests (state.uncovered_row P o) (answer_refusal (state.uncovered_is P o))
unfolding state.uncovered_is state.uncovered_row
uncovered-number P o = given-as (state.uncovered_row P o) _ refl (answer-said _ (uncovered P o))

-- the empty set of no slots, refused by 1
abbrev pub refused-set : Changed
refused-set = record { set = record { words = replicate 16 0; len = 0 }; number = 1 }

module _ (people slots : ℕ) (ws : List ℕ) (p : ℕ) where
  abbrev row_table : List Test
  row_table = test 1 (counts_ok people slots) ∷ test 2 (leb (16 * people) (length ws)) ∷ test 11 (ltb p people) ∷ []

  abbrev after : ℕ
  after = number_of (test 2 (leb (16 * people) (length ws)) ∷ test 11 (ltb p people) ∷ [])

  -- a count of slots that passes is a length that does
  row_number : slot_count_ok slots ≡ true → number_of (person_row ws people p slots) ≡ number_of row_table
  unfolding person_row sets_row counts_ok number_of
  row_number t =
      by-test (people_ok people) _ (λ e. simp (e, le-leb slots 1024 (slot-count-says slots t).1, t)) (λ e. simp e)

  slots-of-number : (state.slots_of_is people slots ws p).number ≡ number_of row_table
  unfolding state.slots_of_is load_of changed_as counts_ok number_of
  slots-of-number =
      by-test (slot_count_ok slots) _
      (λ t.
      ap (λ (b : Bool). (cond b (load_of ws people p slots) refused-set).number) t
      ∙ row_number t)
      (λ f.
      ap (λ (b : Bool). (cond b (load_of ws people p slots) refused-set).number) f
      ∙ sym (ap (λ (b : Bool). or_else b 1 after) (ap (λ (b : Bool). people_ok people && b) f ∙ and-false (people_ok people))))

  slots-of-given : GivenByTests row_table (state.slots_of_is people slots ws p).number
  slots-of-given = given-as row_table _ refl slots-of-number

pub rota-refuses : RotaRefuses
rota-refuses = record {
  from-slots = from-slots-refuses;
  assign = assign-refuses;
  recount = recount-number;
  recount-slots = recount-slots-number;
  play = play-refuses;
  play-draws = play-draws-refuses;
  empty = empty-refuses;
  owner-of-slot = owner-number;
  minutes-of = minutes-number;
  slots-of = slots-of-given;
  unassigned-count = unassigned-number;
  uncovered-minutes = uncovered-number;
}
