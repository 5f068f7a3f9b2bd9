-- How empty answers are shut out: each breaks a promise, by a witness. Assumes nothing.
use Rattle.std.specs.Prelude.{Bool, Option, Some, None, Result, Ok, Err, IsOkAnd, true, false}
use mathlib.Core.Path.{◌≡◌, refl, sym, ap, ◌∙◌, subst}
use mathlib.Core.List.{List, [], ◌∷◌}
use Prim.Native.Nat.{ℕ, ◌+◌, ◌≤◌, ◌<◌}
use native.Mathlib.Decide.{ℕ_discrete}
use native.Mathlib.Omega.{arith}
use lib.Dec.{eqb}
use lib.IntN.{ℤ, pos}
use lib.ListN.{length, get_or, replicate, length-replicate}
use native.Mathlib.Nat.{le_of_eq}
use Rattle.paper.specs.Bits.{bit_of}
use Rattle.paper.proofs.Rows.{worked as done, kept}
use Rattle.paper.specs.Count.{all, all_in, sum, count, over, fill, among}
use Rattle.slotset.specs.declared.Run.{Run}
use Rattle.slotset.specs.declared.Run.TheVariants as run
use Rattle.paper.specs.Limits.{people_ok, slot_count_ok, number_of}
use Rattle.paper.specs.Rows.{unless, answer_as, answer_refusal}
use Rattle.slotset.specs.declared.SlotSet.{SlotSet}
use Rattle.slotset.specs.Slots.{Bits, slot, with_bit, put_slot, put_slots}
use Rattle.slotset.specs.Runs.{Around}
use Rattle.slotset.specs.Answers.{length_row, sets_row, person_row, slots_of, run_at, run_as, Holds, changed_as, load_of}
use Rattle.slotset.proofs.Puts.{slot_lt}
use Rattle.slotset.proofs.Runs.{lookup-is}
use Rattle.slots.specs.Atomic.{Atoms}
use Rattle.slots.specs.Lent.{minutes_at, demand_of}
use Rattle.units.specs.Units.{unit_end}
use Rattle.units.specs.Domains.{available, able, unfrozen, clear, unit_frozen}
use Rattle.units.specs.Answers.{Written}
use Rattle.targets.specs.Outcome as targets
use Rattle.rota.specs.Board.{owner_of, unowned}
use Rattle.rota.specs.Lent.{fits_unit, frozen_unit}
use Rattle.rota.specs.Moves.{any_of, decided, swapped, reassigned, picked, domain_of}
use Rattle.rota.specs.Plays.{step, owners_after, draws_of}
use Rattle.owners.specs.Derived.{Plan, Derived, known_by, portion, worked, held, sets_from, afresh, uncovered, unassigned, total_of}
use Rattle.owners.specs.Recount.{known_at, available_for, available_at, even_at, set_slot_at, set_at, minutes_ok_at, recounts, total_ok_at}
use Rattle.owners.specs.Entries as state
use Rattle.owners.proofs.Entered.{recount-says}
use Rattle.promises.specs.Entries.{Call, Component, built, no_of, afresh_in, owners_in}
use Rattle.promises.specs.Marked.{MarkedCases, in_words, Owned, apart, Spare, two_units}
use Rattle.promises.specs.Rota.{EndsAfresh, FrozenKeep, OwnersAvailable, CoveredStays, AddsUp, SizesRecount, after, first_call}
use Rattle.promises.specs.Empty.{RefusesByTable, AlwaysRefuses, refuses-next, refuses-prev, refuses-run, refuses-size}
use Rattle.promises.specs.Empty.{refuses-atomise, refuses-available, refuses-targets, refuses-rotations, refuses-play}
use Rattle.promises.specs.Empty.{refuses-uncovered, FixedAnswer, fixed-next, fixed-prev, fixed-run, fixed-atomise, fixed-available}
use Rattle.promises.specs.Empty.{fixed-targets, fixed-rotations, fixed-play, RunsHold, DoesNothing, ActsByRule, FirstDrawOnly}
use Rattle.promises.specs.Empty.{InventedCount, InventedUncovered}
use Rattle.promises.proofs.Table.{one-given}
use Rattle.promises.proofs.Calls.{accepted-is, accepted-says}
use Rattle.promises.proofs.TwoUnits.{accepted, apart-recounts}
use Rattle.promises.proofs.RotaRefusals.{rota-refuses}
use Rattle.promises.proofs.Rota.{asks, answered-total}

-- nothing past what is needed, and these answers
abbrev spare : List ℕ → Spare
spare x = record { owners = []; sets = []; minutes = []; totals = []; answers = x }

-- owners 0 and 1, no draw
abbrev still : Call
still = two_units apart 0 0 [] [] [] (spare [])

still-accepted : no_of still ≡ 0
still-accepted = accepted apart 0 0 [] [] [] (spare []) refl refl refl refl (omega arith) (apart-recounts 0 0 [] [] [] (spare []))

-- ---- always refusing

abbrev zeros : ℕ → List ℕ
zeros n = replicate n 0

room : (n : ℕ) → n ≤ length (zeros n)
room n = le_of_eq (sym (length-replicate n 0))

pub refuses-by-table : RefusesByTable built
refuses-by-table c = (rota-refuses.play c).given

module _ (C : Component) (M : MarkedCases C) (T : RefusesByTable C) (S : SizesRecount C) (U : AddsUp C) where
  pub always-refusing-falls : AlwaysRefuses C → ⊥
  always-refusing-falls (refuses-next f) = f _ _ (ap answer_refusal (M.case-1 []).0)
  always-refusing-falls (refuses-prev f) = f _ _ (ap answer_refusal (M.case-2 []).0)
  always-refusing-falls (refuses-run f) = f _ _ (ap answer_refusal (M.case-3 []))
  always-refusing-falls (refuses-size f) = f _ (ap answer_refusal (S still still-accepted 0 (omega arith)))
  always-refusing-falls (refuses-atomise f) =
      f _ (ap (λ (x : Atoms). answer_refusal x.answer) (M.case-4 (zeros 1024) (zeros 1024) (room 1024) (room 1024)))
  always-refusing-falls (refuses-available f) = f _ _ _ _ _ (ap answer_refusal (M.case-6-available (zeros 16) (room 16)).0)
  always-refusing-falls (refuses-targets f) =
      f _ _ (ap (λ (y : targets.Outcome). y.number) (M.case-9 (zeros 32) (pos 0 ∷ pos 0 ∷ []) (room 32) (omega arith)))
  always-refusing-falls (refuses-rotations f) =
      f _ _ _ _ _ (ap (λ (w : Written). answer_refusal w.answer)
      (M.case-11 0 0 0 0 (0 ∷ 0 ∷ 0 ∷ 0 ∷ []) (omega arith) (omega arith) (omega arith) (omega arith) (omega arith)))
  always-refusing-falls (refuses-play f) =
      f still (one-given _ _ _ (T still) (rota-refuses.play still).given
      ∙ ap (λ (y : state.Outcome). y.refusal.number) (accepted-is still still-accepted))
  always-refusing-falls (refuses-uncovered f) = f _ _ (ap answer_refusal (U still still-accepted).0)

-- ---- one fixed answer

-- a run that is answered holds the slot
run-answered : (f : ℕ → ℕ) → Bits f → (n len i first last : ℕ) → run_as n f len i ≡ Ok (run.Span first last) → (first ≤ i) × (i ≤ last)
unfolding answer_as
run-answered f bits n len i first last e = elim (ℕ_discrete n 0) [
  | yes z ↦
      let x : Around 1 f len i first last =
      subst (λ (r : Result Run ℕ). IsOkAnd r (Holds f len i)) (sym (done n (Err n) (Ok (run_at f len i)) z) ∙ e) (lookup-is f len i bits) in
      (x.from, x.to)
  | no m ↦
      let q : ◌≡◌ {A = Result Run ℕ} (Err n) (Ok (run.Span first last)) = sym (kept n (Err n) _ m) ∙ e in
      let z : ◌≡◌ {A = ℕ} 0 1 = cc in
      absurd (omega arith)
]

pub runs-hold : RunsHold built
runs-hold s i first last e = run-answered (slots_of s) (slot_lt s.words 0) (number_of (length_row s.len)) s.len i first last e

pub fixed-answer-falls : (C : Component) → FixedAnswer C → MarkedCases C → RunsHold C → ⊥
fixed-answer-falls C (fixed-next f) M H =
    let q : ◌≡◌ {A = Result (Option ℕ) ℕ} (Ok (Some 63)) (Ok None) = sym (M.case-1 []).0 ∙ f _ _ _ _ ∙ (M.case-1 []).1 in
    let z : ◌≡◌ {A = ℕ} 0 1 = cc in omega arith
fixed-answer-falls C (fixed-prev f) M H =
    let q : ◌≡◌ {A = Result (Option ℕ) ℕ} (Ok (Some 64)) (Ok (Some 0)) = sym (M.case-2 []).0 ∙ f _ _ _ _ ∙ (M.case-2 []).1 in
    let z : ◌≡◌ {A = ℕ} 64 0 = cc in omega arith
fixed-answer-falls C (fixed-run f) M H =
    let s = in_words 1 [] in
    omega (arith, (H s 0 60 69 (f s _ 0 64 ∙ M.case-3 [])).0)
fixed-answer-falls C (fixed-atomise f) M H =
    let l = zeros 1024 in
    let q : ◌≡◌ {A = Result ℕ ℕ} (Ok 2) (Ok 1) =
    sym (ap (λ (x : Atoms). x.answer) (M.case-4 l l (room 1024) (room 1024))) ∙ ap (λ (x : Atoms). x.answer) (f _ _)
    ∙ ap (λ (x : Atoms). x.answer) (M.case-5 l l (room 1024) (room 1024)) in
    let z : ◌≡◌ {A = ℕ} 2 1 = cc in omega arith
fixed-answer-falls C (fixed-available f) M H =
    let x = M.case-6-available (zeros 16) (room 16) in
    let q : ◌≡◌ {A = Result Bool ℕ} (Ok false) (Ok true) = sym x.0 ∙ f _ _ _ _ _ _ _ ∙ x.1 in
    let z : ◌≡◌ {A = ℕ} 0 1 = cc in omega arith
fixed-answer-falls C (fixed-targets f) M H =
    let out = pos 0 ∷ pos 0 ∷ pos 0 ∷ pos 0 ∷ [] in
    let first : targets.Outcome → ℤ = λ y. get_or y.out 0 (pos 0) in
    let q : pos 33 ≡ pos 1 =
    sym (ap first (M.case-7 (zeros 48) out (room 48) (omega arith))) ∙ ap first (f _ _ out)
    ∙ ap first (M.case-8 (zeros 64) out (room 64) (omega arith)) in
    let z : ◌≡◌ {A = ℕ} 33 1 = cc in omega arith
fixed-answer-falls C (fixed-rotations f) M H =
    let a = M.case-11 0 0 0 0 (0 ∷ 0 ∷ 0 ∷ 0 ∷ []) (omega arith) (omega arith) (omega arith) (omega arith) (omega arith) in
    let b = M.case-11 0 0 0 0 (0 ∷ 0 ∷ 1 ∷ 0 ∷ []) (omega arith) (omega arith) (omega arith) (omega arith) (omega arith) in
    let third : Written → ℕ = λ w. get_or w.buffer 2 0 in
    let z : ◌≡◌ {A = ℕ} 0 1 = sym (ap third a) ∙ ap third (f _ _ _ _ _ _) ∙ ap third b in omega arith
fixed-answer-falls C (fixed-play f) M H =
    let a = M.case-12 (spare (0 ∷ 0 ∷ [])) (omega arith) in
    let b = M.case-12 (spare (0 ∷ 1 ∷ [])) (omega arith) in
    let second : state.Outcome → ℕ = λ y. get_or y.answers 1 0 in
    let z : ◌≡◌ {A = ℕ} 0 1 = sym (ap second a) ∙ ap second (f _ _) ∙ ap second b in omega arith

-- ---- doing nothing

-- the total too, where the uncovered minutes are answered as they are
pub doing-nothing-keeps : (C : Component) → DoesNothing C
    → FrozenKeep C × OwnersAvailable C × CoveredStays C × (((P : Plan) (o : List ℕ) → C.uncovered P o ≡ built.uncovered P o) → AddsUp C)
doing-nothing-keeps C f =
    let same : (c : Call) (k : ℕ) → after C c k ≡ get_or c.owners k 0 = λ c k. ap (λ (o : List ℕ). get_or o k 0) (f.owners c) in (
      λ c e k h z. same c k,
      λ c e k h.
          let r = recount-says c.plan c.avail c.units c.begins c.owners c.derived (accepted-says c e).recount in (
            ap (known_by c.plan.people) (same c k) ∙ r.known k h,
            ap (λ (w : ℕ). available_for c.avail w k) (same c k) ∙ r.available k h,
          ),
      λ c e k h owned now. owned (sym (same c k) ∙ now),
      λ tells c e.
          let t = answered-total c e c.owners c.derived (asks c e).right.on.room.owners-room (accepted-says c e).recount in (
            tells c.plan (C.play c).owners ∙ ap (built.uncovered c.plan) (f.owners c) ∙ t.0
                ∙ ap (λ (D : Derived). Ok (get_or D.totals 0 0)) (sym (f.derived c)),
            ap (λ (D : Derived). sum c.plan.people (λ p. get_or D.minutes p 0) + get_or D.totals 0 0) (f.derived c) ∙ t.1,
          ),
    )

-- owners 0 and 1, nothing frozen, the swap of both units: it acts
abbrev swap : Call
swap = two_units apart 0 1 (35 ∷ []) (0 ∷ []) (1 ∷ []) (spare (0 ∷ []))

swap-accepted : no_of swap ≡ 0
swap-accepted =
    accepted apart 0 1 (35 ∷ []) (0 ∷ []) (1 ∷ []) (spare (0 ∷ [])) refl refl refl refl (omega arith)
    (apart-recounts 0 1 (35 ∷ []) (0 ∷ []) (1 ∷ []) (spare (0 ∷ [])))

pub swap-acts : owners_in swap ≡ 1 ∷ 0 ∷ []
unfolding draws_of owners_after step decided any_of swapped unowned owner_of frozen_unit unit_frozen clear unfrozen all_in all slot bit_of unit_end
    fits_unit able available fill
swap-acts = refl

pub doing-nothing-falls : (C : Component) → DoesNothing C → ActsByRule C → ⊥
doing-nothing-falls C f g =
    let first : List ℕ → ℕ = λ o. get_or o 0 0 in
    let z : ◌≡◌ {A = ℕ} 0 1 = ap first (sym (f.owners swap) ∙ g swap swap-accepted ∙ swap-acts) in omega arith

-- ---- playing only the first draw

-- owners 0 and 1: unit 0 to person 1, then unit 1 to person 0
abbrev twice : Call
twice = two_units apart 0 2 (0 ∷ 0 ∷ []) (0 ∷ 1 ∷ []) (1 ∷ 0 ∷ []) (spare (0 ∷ 0 ∷ []))

twice-accepted : no_of twice ≡ 0
twice-accepted =
    accepted apart 0 2 (0 ∷ 0 ∷ []) (0 ∷ 1 ∷ []) (1 ∷ 0 ∷ []) (spare (0 ∷ 0 ∷ [])) refl refl refl refl (omega arith)
    (apart-recounts 0 2 (0 ∷ 0 ∷ []) (0 ∷ 1 ∷ []) (1 ∷ 0 ∷ []) (spare (0 ∷ 0 ∷ [])))

pub both-draws : (owners_in twice ≡ 1 ∷ 0 ∷ []) × (owners_in (first_call twice 1) ≡ 1 ∷ 1 ∷ [])
unfolding draws_of owners_after step decided any_of reassigned picked domain_of among owner_of frozen_unit unit_frozen clear unfrozen all_in all
    slot bit_of unit_end fits_unit able available fill
both-draws = (refl, refl)

pub first-draw-only-falls : (C : Component) → FirstDrawOnly C → EndsAfresh C → ⊥
first-draw-only-falls C f g =
    let second : List ℕ → ℕ = λ o. get_or o 1 0 in
    let z : ◌≡◌ {A = ℕ} 1 0 =
    ap second (sym both-draws.1 ∙ sym (f twice twice-accepted (omega arith))
    ∙ ap (λ (y : state.Outcome). y.owners) (g twice twice-accepted) ∙ both-draws.0) in
    omega arith

-- ---- an invented count, or uncovered total

-- both slots are person 0's; the second is nobody's
abbrev both-his : Owned
both-his = record { first = 0; second = 0; words0 = 3; words1 = 0; minutes0 = 120; minutes1 = 0; uncovered = 0; unassigned = 0 }

abbrev half : Owned
half = record { first = 0; second = 255; words0 = 1; words1 = 0; minutes0 = 60; minutes1 = 0; uncovered = 60; unassigned = 1 }

abbrev at_rest : Owned → Call
at_rest r = two_units r 0 0 [] [] [] (spare [])

rest-accepted : (no_of (at_rest both-his) ≡ 0) × (no_of (at_rest half) ≡ 0)
unfolding recounts all all_in known_at known_by available_at available_for available even_at unit_end set_at set_slot_at held minutes_ok_at worked
    portion sum minutes_at slot bit_of total_ok_at total_of uncovered unassigned count
rest-accepted = (
  accepted both-his 0 0 [] [] [] (spare []) refl refl refl refl (omega arith) refl,
  accepted half 0 0 [] [] [] (spare []) refl refl refl refl (omega arith) refl,
)

-- of owners 0 and 0 person 0 has two slots, person 1 none
counts-differ : (count 2 (λ k. eqb (get_or (0 ∷ 0 ∷ []) k 0) 0) ≡ 2) × (count 2 (λ k. eqb (get_or (0 ∷ 0 ∷ []) k 0) 1) ≡ 0)
unfolding count sum
counts-differ = (refl, refl)

module _ (C : Component) (g : EndsAfresh C) where
  abbrev c : Call
  c = at_rest both-his

  owners-rest : (C.play c).owners ≡ 0 ∷ 0 ∷ []
  unfolding draws_of owners_after
  owners-rest = ap (λ (y : state.Outcome). y.owners) (g c rest-accepted.0)

  abbrev set_of : state.Outcome → ℕ → SlotSet
  set_of y p = (state.slots_of_is 2 2 y.derived.sets p).set

  afresh-lengths : (set_of (afresh_in c) 0).len ≡ (set_of (afresh_in c) 1).len
  unfolding state.slots_of_is load_of changed_as unless person_row sets_row number_of
      slot_count_ok people_ok draws_of owners_after afresh sets_from put_slots put_slot with_bit held slot bit_of
  afresh-lengths = refl

  same-lengths : (set_of (C.play c) 0).len ≡ (set_of (C.play c) 1).len
  same-lengths =
      let q = g c rest-accepted.0 in
      ap (λ (y : state.Outcome). (set_of y 0).len) q ∙ afresh-lengths ∙ sym (ap (λ (y : state.Outcome). (set_of y 1).len) q)

  count_of : SizesRecount C → (p n : ℕ) → p < 2 → count 2 (λ k. eqb (get_or (0 ∷ 0 ∷ []) k 0) p) ≡ n
      → C.size (set_of (C.play c) p) ≡ Ok n
  count_of f p n h e =
      f c rest-accepted.0 p h ∙ ap (λ (o : List ℕ). Ok (count 2 (λ k. eqb (get_or o k 0) p))) owners-rest ∙ ap Ok e

  pub invented-count-falls : InventedCount C → SizesRecount C → ⊥
  invented-count-falls i f =
      let q : ◌≡◌ {A = Result ℕ ℕ} (Ok 2) (Ok 0) =
      sym (count_of f 0 2 (omega arith) counts-differ.0) ∙ i _ _ same-lengths ∙ count_of f 1 0 (omega arith) counts-differ.1 in
      let z : ◌≡◌ {A = ℕ} 2 0 = cc in
      omega arith

  -- minutes after no draw: all covered, and half of it
  covered-sum : sum 2 (λ p. get_or (afresh_in (at_rest apart)).derived.minutes p 0) ≡ 120
  unfolding draws_of owners_after afresh over worked portion sum minutes_at
  covered-sum = refl

  half-sum : sum 2 (λ p. get_or (afresh_in (at_rest half)).derived.minutes p 0) ≡ 60
  unfolding draws_of owners_after afresh over worked portion sum minutes_at
  half-sum = refl

  both-hours : demand_of 2 (0 ∷ 60 ∷ []) (60 ∷ 120 ∷ []) ≡ 120
  unfolding demand_of sum minutes_at
  both-hours = refl

  abbrev minutes-in : state.Outcome → ℕ
  minutes-in y = sum 2 (λ p. get_or y.derived.minutes p 0)

  pub invented-uncovered-falls : InventedUncovered C → AddsUp C → ⊥
  invented-uncovered-falls i f =
      let a = f (at_rest apart) still-accepted in
      let b = f (at_rest half) rest-accepted.1 in
      let u = get_or (C.play (at_rest apart)).derived.totals 0 0 in
      let v = get_or (C.play (at_rest half)).derived.totals 0 0 in
      let q : ◌≡◌ {A = Result ℕ ℕ} (Ok u) (Ok v) = sym a.0 ∙ i _ _ _ ∙ b.0 in
      let z : u ≡ v = cc in
      let s : 120 + u ≡ 120 =
      ap (λ (n : ℕ). n + u) (sym (ap minutes-in (g (at_rest apart) still-accepted) ∙ covered-sum)) ∙ a.1 ∙ both-hours in
      let t : 60 + v ≡ 120 =
      ap (λ (n : ℕ). n + v) (sym (ap minutes-in (g (at_rest half) rest-accepted.1) ∙ half-sum)) ∙ b.1 ∙ both-hours in
      omega arith
