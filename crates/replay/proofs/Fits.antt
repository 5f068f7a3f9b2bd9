-- A rota on which a block is never refused: one that a job begins with, and one that a block left. Assumes nothing.
use mathlib.Core.Path.{◌≡◌, refl, ap, ◌∙◌}
use mathlib.Core.Bool.{Bool, true, cond}
use mathlib.Core.List.{List, []}
use Prim.Native.Nat.{ℕ, ◌*◌, ◌≤◌}
use native.Mathlib.Omega.{arith}
use borrow.Author.Tests.{le-leb, leb-true}
use lib.Dec.{leb}
use lib.ListN.{length}
use Rattle.paper.specs.Limits.{number_of}
use Rattle.paper.proofs.Logic.{both, and-true}
use Rattle.units.specs.Units.{units_ok}
use Rattle.owners.specs.Derived.{Plan, Derived, afresh}
use Rattle.owners.specs.Recount.{recounts}
use Rattle.owners.specs.Entries as state
use Rattle.owners.proofs.Entered.{LentRight, lent-right, recount-says, recount-asks, recount-number}
use Rattle.owners.proofs.Steps.{afresh-lengths}
use Rattle.rota.specs.Board.{Board}
use Rattle.rota.specs.Lent.{board_of}
use Rattle.rota.specs.Moves.{Draw}
use Rattle.rota.specs.Plays.{owners_after}
use Rattle.rota.specs.Entries.{play_room_ok, play_row, columns_enough}
use Rattle.rota.proofs.Entered.{PlayAsks}
use Rattle.rota.proofs.Plays.{play-length}
use Rattle.rota.proofs.Promises.{played-recounts}
use Rattle.job.specs.Stages.{Ready, plan_of}
use Rattle.job.proofs.Passing.{lent-room}

pub record Fit (R : Ready) (o : List ℕ) (D : Derived) : Type 0 where
  pub on : LentRight (plan_of R) R.avail o D
  pub units-ok : units_ok R.slots R.units R.begins ≡ true
  pub units-room : R.units ≤ length R.begins
  pub flags : 16 ≤ length R.frozen
  pub recounted : recounts (plan_of R) R.avail R.units R.begins o D ≡ true

-- where a play is not refused
pub fit-played : (R : Ready) (o : List ℕ) (D : Derived) (n : ℕ) (enough : Bool) (x : List ℕ)
    → number_of (play_row (plan_of R) R.avail R.units R.begins R.frozen n enough o D x) ≡ 0 → Fit R o D
unfolding play_room_ok
fit-played R o D n enough x e =
    let A = recount-asks (plan_of R) R.avail R.units R.begins o D (leb n 1024)
    (play_room_ok R.units R.begins R.frozen n enough x) e in
    let u = both (leb R.units (length R.begins)) _ A.room-ok in
    let f = both (leb 16 (length R.frozen)) _ u.1 in
    record {
      on = A.on;
      units-ok = A.units-ok;
      units-room = leb-true _ _ u.0;
      flags = leb-true _ _ f.0;
      recounted = A.passes;
    }

module _ (R : Ready) (o : List ℕ) (D : Derived) (F : Fit R o D) where
  abbrev P : Plan
  P = plan_of R

  abbrev B : Board
  B = board_of R.people R.slots R.units R.avail R.begins R.frozen

  play-room : (n : ℕ) (ks fs ss x : List ℕ) → n ≤ length ks → n ≤ length fs → n ≤ length ss → n ≤ length x
      → play_room_ok R.units R.begins R.frozen n (columns_enough n ks fs ss) x ≡ true
  unfolding play_room_ok columns_enough
  play-room n ks fs ss x k f s l =
      and-true _ _ (le-leb _ _ F.units-room) (and-true _ _ (le-leb _ _ F.flags)
      (and-true _ _ (and-true _ _ (le-leb _ _ k) (and-true _ _ (le-leb _ _ f) (le-leb _ _ s))) (le-leb _ _ l)))

  -- no draws in columns that are lent are refused
  pub fit_row : (n : ℕ) (ks fs ss x : List ℕ) → n ≤ 1024 → n ≤ length ks → n ≤ length fs → n ≤ length ss → n ≤ length x
      → number_of (play_row P R.avail R.units R.begins R.frozen n (columns_enough n ks fs ss) o D x) ≡ 0
  unfolding state.recount_row state.lent_row number_of
  fit_row n ks fs ss x few k f s l =
      let on = F.on in
      let room = on.room in
      simp (
        on.people,
        on.count,
        le-leb n 1024 few,
        lent-room R.slots R.starts R.ends on.lent,
        le-leb (16 * R.people) (length R.avail) room.avail-room,
        le-leb R.slots (length o) room.owners-room,
        le-leb (16 * R.people) (length D.sets) room.sets-room,
        le-leb R.people (length D.minutes) room.minutes-room,
        le-leb 2 (length D.totals) room.totals-room,
        play-room n ks fs ss x k f s l,
        on.lent,
        F.units-ok,
      )
      (recount-number P R.avail R.units R.begins o D ∙ ap (λ (b : Bool). cond b 0 10) F.recounted)

  asks : PlayAsks P R.avail R.units R.begins R.frozen 0 true o D []
  asks = record {
    right = record { on = F.on; units-ok = F.units-ok; flags = F.flags; draws = refl; answers = omega arith };
    recount = recount-says P R.avail R.units R.begins o D F.recounted;
    few = omega arith;
  }

  -- what draws of any number leave is such a rota again
  pub fit-after : (ds : List Draw) → Fit R (owners_after B o ds) (afresh P (owners_after B o ds) D)
  fit-after ds =
      let on = F.on in
      let room = on.room in
      let o' = owners_after B o ds in
      let l = afresh-lengths P o' D in
      record {
        on =
            lent-right P R.avail o' (afresh P o' D) on.people on.count (le-leb _ _ room.avail-room)
            (le-leb R.slots (length o') (omega (arith, play-length B o ds, room.owners-room)))
            (le-leb (16 * R.people) (length (afresh P o' D).sets) (omega (arith, l.0, room.sets-room)))
            (le-leb R.people (length (afresh P o' D).minutes) (omega (arith, l.1, room.minutes-room)))
            (le-leb 2 (length (afresh P o' D).totals) (omega (arith, l.2, room.totals-room))) on.lent;
        units-ok = F.units-ok;
        units-room = F.units-room;
        flags = F.flags;
        recounted = played-recounts P R.avail R.units R.begins R.frozen 0 true o D [] asks ds;
      }
