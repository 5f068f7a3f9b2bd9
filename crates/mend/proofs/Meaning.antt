-- What mending comes to: the result passes the recount, what passed is left alone, and twice is once. Assumes nothing.
use mathlib.Core.Path.{◌≡◌, refl, sym, ap, ◌∙◌}
use mathlib.Core.Bool.{Bool, true, cond}
use mathlib.Core.List.{List, [], ◌∷◌, ◌++◌}
use Prim.Native.Nat.{ℕ, zero, suc, ◌*◌, ◌≤◌}
use native.Mathlib.Omega.{arith}
use borrow.Author.Tests.{eq-eqb}
use lib.Dec.{eqb, leb}
use lib.ListN.{length, get_or}
use Rattle.paper.specs.Limits.{Test, test, number_of}
use Rattle.paper.specs.declared.Refusal.{Refusal}
use Rattle.paper.proofs.Count.{each_in, get_d-over-out}
use Rattle.paper.proofs.Rows.{said, passed, all_pass}
use Rattle.slotset.proofs.Puts.{Fit}
use Rattle.units.specs.Units.{unit_start, unit_end, units_ok}
use Rattle.owners.specs.Derived.{Plan, Derived, derived, sets_from, total_of, afresh}
use Rattle.owners.specs.Derived as figures
use Rattle.owners.specs.Recount.{even_at, recount_tests, recounts}
use Rattle.owners.specs.Entries.{lent_row, recount_row}
use Rattle.owners.specs.Inside.{InStep}
use Rattle.owners.proofs.Steps.{afresh-same, afresh-step, afresh-fit, afresh-lengths}
use Rattle.owners.proofs.RecountRefusals.{first_on}
use Rattle.owners.proofs.Entered.{Recounted, recount-says, says-recount, recount-number}
use Rattle.mend.specs.Mended.{mended}
use Rattle.mend.specs.Repairs.{Rota, rota, column, entries, repairs, Tells, applied, undone}
use Rattle.mend.specs.Answers.{mended_rota, repairs_due, found_row}
use Rattle.mend.proofs.Kept.{mended-length, mended-past, mended-known, mended-available, mended-even, mended-none}
use Rattle.mend.proofs.Made.{sets-past}
use Rattle.mend.proofs.Told.{Beside, tells, repairs-applied, repairs-undone, repairs-idle}
use Rattle.mend.proofs.Ending.{mendable, found-room, slots-few}

module _ (P : Plan) (avail : List ℕ) (units : ℕ) (begins frozen : List ℕ) (R : Rota)
    (z : number_of (found_row P avail units begins frozen R) ≡ 0) where
  abbrev after : Rota
  after = mended_rota P avail units begins R

  abbrev o' : List ℕ
  o' = mended P avail units begins R.owners

  -- ---- the result

  in_step : InStep P o' (afresh P o' R.derived)
  in_step =
      let room = found-room P avail units begins frozen R z in
      let M = mendable P avail units begins frozen R z in
      afresh-step P o' R.derived (slots-few P avail units begins frozen R z)
      (omega (arith, mended-length P avail units begins R.owners, room.owners)) room.sets room.minutes room.totals
      (mended-known P avail units begins R.owners M.units-ok room.owners)

  pub result_says : Recounted P avail units begins after.owners after.derived
  unfolding mended_rota
  result_says =
      let M = mendable P avail units begins frozen R z in
      let J = in_step in
      record {
        known = J.known;
        available = mended-available P avail units begins R.owners M.units-ok M.owners-room;
        even = mended-even P avail units begins R.owners M.units-ok M.owners-room;
        sets = J.sets;
        minutes = J.minutes;
        totals = J.totals;
      }

  pub result-recounts : recounts P avail units begins after.owners after.derived ≡ true
  result-recounts = says-recount P avail units begins after.owners after.derived result_says

  -- its columns are as long as they were
  lengths : (length after.owners ≡ length R.owners) × (length after.derived.sets ≡ length R.derived.sets)
      × (length after.derived.minutes ≡ length R.derived.minutes) × (length after.derived.totals ≡ length R.derived.totals)
  unfolding mended_rota
  lengths =
      let x = afresh-lengths P o' R.derived in (mended-length P avail units begins R.owners, x.0, x.1, x.2)

  -- so it can be mended again, and a recount of it refuses nothing
  pub result-found : number_of (found_row P avail units begins frozen after) ≡ 0
  unfolding found_row
  result-found =
      let h = passed (found_row P avail units begins frozen R) refl z in
      let n = lengths in
      all_pass (found_row P avail units begins frozen after) (
        h 0,
        (
          h 1,
          (
            h 2,
            (
              h 3,
              (
                h 4,
                (
                  h 5,
                  (
                    ap (leb P.slots) n.0 ∙ h 6,
                    (
                      ap (leb (16 * P.people)) n.1 ∙ h 7,
                      (ap (leb P.people) n.2 ∙ h 8, (ap (leb 2) n.3 ∙ h 9, (h 10, (h 11, tt)))),
                    ),
                  ),
                ),
              ),
            ),
          ),
        ),
      )

  abbrev front : List Test
  front =
      lent_row true (leb units (length begins)) P avail after.owners after.derived ++ (test 9 (units_ok P.slots units begins) ∷ [])

  front-passes : number_of front ≡ 0
  unfolding lent_row found_row
  front-passes =
      let h = passed (found_row P avail units begins frozen after) refl result-found in
      all_pass front
      (h 0, (h 1, (refl, (h 2, (h 3, (h 6, (h 7, (h 8, (h 9, (h 4, (h 10, (h 11, tt))))))))))))

  pub result-passes : number_of (recount_row true (leb units (length begins)) P avail units begins after.owners after.derived) ≡ 0
  unfolding recount_row lent_row
  result-passes =
      let us = recount_tests P avail units begins after.owners after.derived in
      sym (said (front ++ us) refl) ∙ ap (λ (f : Refusal). f.number) (first_on front us refl front-passes) ∙ said us refl
      ∙ recount-number P avail units begins after.owners after.derived ∙ ap (λ (b : Bool). cond b 0 10) result-recounts

  -- ---- a rota that passed

  module _ (f : Fit R.derived.sets) (passes : recounts P avail units begins R.owners R.derived ≡ true) where
    says : Recounted P avail units begins R.owners R.derived
    says = recount-says P avail units begins R.owners R.derived passes

    owners-stay : R.owners ≡ o'
    unfolding even_at
    owners-stay =
        let C = says in
        mended-none P avail units begins R.owners C.known C.available
        (λ u h.
        each_in (unit_start begins u) (unit_end P.slots units begins u) (λ k. eqb (get_or R.owners k 0) (get_or R.owners (unit_start
        begins u) 0))
        (λ k a b. eq-eqb _ _ (C.even u k h a b)))

    derived-stays : R.derived ≡ afresh P R.owners R.derived
    derived-stays =
        let C = says in
        let room = found-room P avail units begins frozen R z in
        afresh-same P R.owners R.derived (slots-few P avail units begins frozen R z) f
        record {
          owners-room = room.owners;
          sets-room = room.sets;
          minutes-room = room.minutes;
          totals-room = room.totals;
          known = C.known;
          sets = C.sets;
          minutes = C.minutes;
          totals = C.totals;
        }

    pub passed-stays : after ≡ R
    unfolding mended_rota
    passed-stays =
        ap {B = Rota} (λ (o : List ℕ). rota o (afresh P o R.derived)) (sym owners-stay)
        ∙ ap {B = Rota} (λ (D : Derived). rota R.owners D) (sym derived-stays)

    pub passed-idle : repairs_due P avail units begins frozen R ≡ []
    unfolding repairs_due
    passed-idle =
        ap (λ (Q : Rota). repairs P.people P.slots frozen R Q) passed-stays ∙ repairs-idle P.people P.slots frozen R

  -- ---- the list

  beside : Beside P.people P.slots R after
  unfolding column entries mended_rota afresh
  beside =
      record { long = long-at; room = room_at; past = past-at }
    where
      long-at : (p : ℕ) → length (column R p) ≡ length (column after p)
      long-at zero = sym (mended-length P avail units begins R.owners)
      long-at (suc zero) = sym (afresh-lengths P o' R.derived).0
      long-at (suc (suc zero)) = sym (afresh-lengths P o' R.derived).1
      long-at (suc (suc (suc p))) = sym (afresh-lengths P o' R.derived).2

      room_at : (p : ℕ) → entries P.people P.slots p ≤ length (column R p)
      room_at zero = (found-room P avail units begins frozen R z).owners
      room_at (suc zero) = (found-room P avail units begins frozen R z).sets
      room_at (suc (suc zero)) = (found-room P avail units begins frozen R z).minutes
      room_at (suc (suc (suc p))) = (found-room P avail units begins frozen R z).totals

      past-at : (p k : ℕ) → entries P.people P.slots p ≤ k → get_or (column R p) k 0 ≡ get_or (column after p) k 0
      past-at zero k h = sym (mended-past P avail units begins R.owners (mendable P avail units begins frozen R z).units-ok k h)
      past-at (suc zero) k h =
          sym (sets-past P.people P.slots o' R.derived.sets (slots-few P avail units begins frozen R z) k h)
      past-at (suc (suc zero)) k h = sym (get_d-over-out (figures.worked P o') P.people R.derived.minutes k h)
      past-at (suc (suc (suc p))) k h = sym (get_d-over-out (total_of P o') 2 R.derived.totals k h)

  pub due-applied : applied (repairs_due P avail units begins frozen R) R ≡ after
  unfolding repairs_due
  due-applied = repairs-applied P.people P.slots frozen R after beside

  pub due-undone : undone (repairs_due P avail units begins frozen R) after ≡ R
  unfolding repairs_due
  due-undone = repairs-undone P.people P.slots frozen R after beside

  pub due-tells : Tells P.people P.slots frozen R after (repairs_due P avail units begins frozen R)
  unfolding repairs_due
  due-tells = tells P.people P.slots frozen R after

  -- ---- twice is once

  pub result-fit : Fit R.derived.sets → Fit after.derived.sets
  unfolding mended_rota
  result-fit f = afresh-fit P o' R.derived f

-- mended again: nothing more, and nothing listed
module _ (P : Plan) (avail : List ℕ) (units : ℕ) (begins frozen : List ℕ) (R : Rota)
    (z : number_of (found_row P avail units begins frozen R) ≡ 0) (f : Fit R.derived.sets) where
  pub twice-once : mended_rota P avail units begins (mended_rota P avail units begins R) ≡ mended_rota P avail units begins R
  twice-once =
      passed-stays P avail units begins frozen (mended_rota P avail units begins R) (result-found P avail units begins frozen R z)
      (result-fit P avail units begins frozen R z f) (result-recounts P avail units begins frozen R z)

  pub twice-idle : repairs_due P avail units begins frozen (mended_rota P avail units begins R) ≡ []
  twice-idle =
      passed-idle P avail units begins frozen (mended_rota P avail units begins R) (result-found P avail units begins frozen R z)
      (result-fit P avail units begins frozen R z f) (result-recounts P avail units begins frozen R z)
