-- What a play begins with: its refusal, how many draws are to be played, and what it works out once. Assumes nothing.
use Rattle.std.specs.Prelude.{◌≡◌, Bool, List, ℕ, ◌<◌, ◌^◌, length, get_or}
use Rattle.paper.specs.Rows.{unless, refusal_of}
use Rattle.owners.specs.Derived.{Plan, Derived}
use Rattle.rota.specs.declared.play.Begun.{Begun}
use Rattle.rota.specs.Lent.{FitsRight, FrozenRight}
use Rattle.rota.specs.Entries.{play_row}

-- a refused play has no draws to play; masks and marks are those of the definitions where it isn't
pub record Begins (P : Plan) (avail : List ℕ) (units : ℕ) (begins frozen : List ℕ) (n : ℕ) (enough : Bool) (o : List ℕ) (D : Derived)
    (x : List ℕ) (b : Begun) : Type 0 where
  pub refusal : b.refusal ≡ refusal_of (play_row P avail units begins frozen n enough o D x)
  pub todo : b.todo ≡ unless b.refusal.number 0 n
  pub fits : b.refusal.number ≡ 0 → FitsRight P.people P.slots units avail begins b.fits
  pub flags : b.refusal.number ≡ 0 → FrozenRight P.slots units begins frozen b.flags
  pub room : (length b.fits ≡ 1024) × (length b.flags ≡ 1024)
  pub words : (j : ℕ) → get_or D.sets j 0 < 2 ^ 64
