-- A play that has begun: what is known of it, and how it ends. Assumes nothing.
use mathlib.Core.Path.{◌≡◌, sym, ◌∙◌}
use mathlib.Core.Bool.{Bool}
use mathlib.Core.List.{List}
use Prim.Native.Nat.{ℕ, ◌≤◌}
use native.Mathlib.Omega.{arith}
use lib.ListN.{length}
use Rattle.paper.proofs.Rows.{said}
use Rattle.units.proofs.Units.{units-room}
use Rattle.owners.specs.Derived.{Plan, Derived}
use Rattle.owners.specs.Entries.{Ended}
use Rattle.rota.specs.declared.play.Begun.{Begun}
use Rattle.rota.specs.Board.{Board, BoardSound, Even}
use Rattle.rota.specs.Moves.{Draw}
use Rattle.rota.specs.Ready.{ready}
use Rattle.rota.specs.Stepped.{Ran}
use Rattle.rota.specs.Entries.{played_list}
use Rattle.rota.specs.Begins.{Begins}
use Rattle.rota.proofs.Entered.{PlayAsks, play-asks, asks-few, ready-sound, ready-even, played-yes, played-refused}

module _ (P : Plan) (avail : List ℕ) (units : ℕ) (begins frozen : List ℕ) (n : ℕ) (enough : Bool) (o : List ℕ) (D : Derived) (x :
    List ℕ) (b : Begun) (w : Begins P avail units begins frozen n enough o D x b) where
  abbrev B : Board
  B = ready P.people P.slots units begins b.fits b.flags

  module _ (z : b.refusal.number ≡ 0) where
    pub begun-asks : PlayAsks P avail units begins frozen n enough o D x
    begun-asks = play-asks P avail units begins frozen n enough o D x (sym (said _ w.refusal) ∙ z)

    pub begun-board : BoardSound B
    begun-board = ready-sound _ _ _ _ _ _ _ _ _ _ begun-asks b.fits b.flags (w.fits z) (w.flags z)

    pub begun-even : Even B o
    begun-even = ready-even _ _ _ _ _ _ _ _ _ _ begun-asks b.fits b.flags (w.fits z) (w.flags z)

    pub begun-room : (units ≤ length begins) × (units ≤ length b.fits) × (units ≤ length b.flags)
    begun-room =
        let few = asks-few _ _ _ _ _ _ _ _ _ _ begun-asks in
        (units-room _ _ _ begun-asks.right.units-ok, omega (arith, few, w.room.0), omega (arith, few, w.room.1))

    pub begun-yes : (ds : List Draw) (o' : List ℕ) (D' : Derived) (x' : List ℕ) → Ran P B o D x ds o' D' x'
        → Ended (played_list P avail units begins frozen n enough ds o D x) b.refusal o' D' x'
    begun-yes ds o' D' x' R =
        played-yes _ _ _ _ _ _ _ _ _ _ begun-asks b.fits b.flags (w.fits z) (w.flags z) ds b.refusal w.refusal z o' D' x' R

  pub begun-refused : (b.refusal.number ≡ 0 → ⊥) → (ds : List Draw) → Ended (played_list P avail units begins frozen n enough ds o D x)
      b.refusal o D x
  begun-refused z ds = played-refused P avail units begins frozen n enough o D x ds b.refusal w.refusal z
