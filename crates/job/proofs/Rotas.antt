-- The rota of a job whose owners are known: 12 is the one refusal left, and the play is never refused. Assumes nothing.
use mathlib.Core.Path.{◌≡◌, refl, sym, ap, ◌∙◌}
use mathlib.Core.Bool.{Bool, true, cond}
use mathlib.Core.List.{List}
use Prim.Native.Nat.{ℕ, ◌+◌, ◌*◌, ◌≤◌, ◌<◌}
use native.Mathlib.Omega.{arith}
use borrow.Author.Tests.{le-leb}
use lib.ListN.{length, get_or, replicate, length-replicate}
use Rattle.paper.specs.Limits.{people_ok, slot_count_ok, or_else, number_of}
use Rattle.paper.specs.Rows.{unless}
use Rattle.paper.specs.Count.{sum, all}
use Rattle.paper.proofs.Rows.{said}
use Rattle.paper.proofs.Logic.{and-true, people-says, slot-count-says}
use Rattle.paper.proofs.Count.{each_all, all-each}
use Rattle.slots.specs.Lent.{slots_ok, demand_of}
use Rattle.units.specs.Units.{unit_start, unit_end, units_ok}
use Rattle.owners.specs.Derived.{Plan, Derived, derived, known_by, afresh}
use Rattle.owners.specs.Inside.{InStep}
use Rattle.owners.specs.Recount.{known_at, available_at, recounts}
use Rattle.owners.specs.Entries as state
use Rattle.rota.specs.Entries as rota
use Rattle.owners.proofs.Steps.{afresh-step}
use Rattle.owners.proofs.Entered.{plan-sound, says-recount, recount-number}
use Rattle.rota.proofs.Promises.{minutes-and-uncovered}
use Rattle.job.specs.Stages.{Ready, Draws, plan_of, start_of, play_of}
use Rattle.job.proofs.Prepares.{when-none}
use Rattle.job.proofs.Passing.{lent-room}

-- what is known of a job before its owners are judged by availability
pub record RotaSound (R : Ready) (d : Draws) (o : List ℕ) : Type 0 where
  pub people-ok : people_ok R.people ≡ true
  pub count-ok : slot_count_ok R.slots ≡ true
  pub lent : slots_ok R.slots R.starts R.ends ≡ true
  pub avail-room : 16 * R.people ≤ length R.avail
  pub owners-room : R.slots ≤ length o
  pub units-ok : units_ok R.slots R.units R.begins ≡ true
  pub units-room : R.units ≤ length R.begins
  pub flags-room : 16 ≤ length R.frozen
  pub draws-few : d.count ≤ 1024
  pub draws-room : d.count ≤ length d.draws
  pub firsts-room : d.count ≤ length d.firsts
  pub seconds-room : d.count ≤ length d.seconds
  pub known : (k : ℕ) → k < R.slots → known_by R.people (get_or o k 0) ≡ true
  pub even : (u k : ℕ) → u < R.units → unit_start R.begins u ≤ k → k < unit_end R.slots R.units R.begins u
      → get_or o k 0 ≡ get_or o (unit_start R.begins u) 0

-- sets, minutes and totals before they are made
abbrev none : Derived
none = derived (replicate 512 0) (replicate 32 0) (replicate 2 0)

module _ (R : Ready) (d : Draws) (o : List ℕ) (H : RotaSound R d o) where
  abbrev P : Plan
  P = plan_of R

  few : R.people ≤ 32
  few = (people-says R.people H.people-ok).1

  slots-few : R.slots ≤ 1024
  slots-few = (slot-count-says R.slots H.count-ok).1

  -- ---- the tests that come before 12

  all_known : all R.slots (known_at R.people o) ≡ true
  unfolding known_at
  all_known = each_all R.slots (λ k. known_by R.people (get_or o k 0)) H.known

  -- ---- the number is 12 or none

  pub start-number : (start_of R o).refusal.number ≡ or_else (all R.slots (available_at R.avail o)) 12 0
  unfolding start_of state.from_slots state.outcome state.from_slots_row state.lent_row number_of
  start-number =
      simp (
        H.people-ok,
        H.count-ok,
        lent-room R.slots R.starts R.ends H.lent,
        le-leb (16 * R.people) (length R.avail) H.avail-room,
        le-leb R.slots (length o) H.owners-room,
        le-leb (16 * R.people) (length (replicate {A = ℕ} 512 0)) (omega (arith, few, length-replicate {A = ℕ} 512 0)),
        le-leb R.people (length (replicate {A = ℕ} 32 0)) (omega (arith, few, length-replicate {A = ℕ} 32 0)),
        le-leb 2 (length (replicate {A = ℕ} 2 0)) (omega (arith, length-replicate {A = ℕ} 2 0)),
        H.lent,
        all_known,
      )

  module _ (free : all R.slots (available_at R.avail o) ≡ true) where
    pub started : (start_of R o).derived ≡ afresh P o none
    unfolding start_of state.from_slots state.outcome unless
    started =
        sym (when-none (start_of R o).refusal.number (afresh P o none) none (start-number ∙ ap (λ (b : Bool). or_else b 12 0) free))

    in_step : InStep P o (afresh P o none)
    in_step =
        afresh-step P o none slots-few H.owners-room (omega (arith, few, length-replicate {A = ℕ} 512 0))
        (omega (arith, few, length-replicate {A = ℕ} 32 0)) (omega (arith, length-replicate {A = ℕ} 2 0)) H.known

    recounted : recounts P R.avail R.units R.begins o (afresh P o none) ≡ true
    unfolding available_at
    recounted =
        says-recount P R.avail R.units R.begins o (afresh P o none)
        record {
          known = H.known;
          available = all-each R.slots (available_at R.avail o) free;
          even = H.even;
          sets = in_step.sets;
          minutes = in_step.minutes;
          totals = in_step.totals;
        }

    -- ---- the play is never refused

    abbrev enough : Bool
    enough = rota.columns_enough d.count d.draws d.firsts d.seconds

    abbrev no : ℕ
    no =
        number_of (rota.play_row P R.avail R.units R.begins R.frozen d.count enough o (afresh P o none) (replicate 1024 0))

    play-room : rota.play_room_ok R.units R.begins R.frozen d.count enough (replicate 1024 0) ≡ true
    unfolding rota.play_room_ok rota.columns_enough
    play-room =
        and-true _ _ (le-leb _ _ H.units-room) (and-true _ _ (le-leb _ _ H.flags-room)
        (and-true _ _ (and-true _ _ (le-leb _ _ H.draws-room)
        (and-true _ _ (le-leb _ _ H.firsts-room) (le-leb _ _ H.seconds-room)))
        (le-leb d.count (length (replicate {A = ℕ} 1024 0)) (omega (arith, H.draws-few, length-replicate {A = ℕ} 1024 0)))))

    play-none : no ≡ 0
    unfolding state.recount_row state.lent_row number_of
    play-none =
        let E = afresh P o none in
        simp (
          H.people-ok,
          H.count-ok,
          le-leb d.count 1024 H.draws-few,
          lent-room R.slots R.starts R.ends H.lent,
          le-leb (16 * R.people) (length R.avail) H.avail-room,
          le-leb R.slots (length o) H.owners-room,
          le-leb (16 * R.people) (length E.sets) in_step.sets-room,
          le-leb R.people (length E.minutes) in_step.minutes-room,
          le-leb 2 (length E.totals) in_step.totals-room,
          play-room,
          H.lent,
          H.units-ok,
        )
        (recount-number P R.avail R.units R.begins o E ∙ ap (λ (b : Bool). cond b 0 10) recounted)

    pub play-refusal : (play_of R d o (start_of R o).derived).refusal.number ≡ 0
    unfolding play_of rota.played_list state.outcome
    play-refusal = ap (λ (E : Derived). (play_of R d o E).refusal.number) started ∙ said _ refl ∙ play-none

    -- all persons' minutes and the stored uncovered ones are the total of the slots
    pub total-before : sum R.people (λ p. get_or (start_of R o).derived.minutes p 0) + get_or (start_of R o).derived.totals 0 0
        ≡ demand_of R.slots R.starts R.ends
    total-before =
        ap (λ (E : Derived). sum R.people (λ p. get_or E.minutes p 0) + get_or E.totals 0 0) started
        ∙ minutes-and-uncovered P (plan-sound P H.people-ok H.count-ok H.lent) R.avail R.units R.begins o (afresh P
        o none) recounted
