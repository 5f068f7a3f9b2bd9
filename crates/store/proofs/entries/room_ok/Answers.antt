-- `store::entries::room_ok` meets its contract. Assumes nothing.
use native.Mathlib.Omega.{arith}
use Rattle.store.proofs.Outcomes.{room-low, room-is}
use Rattle.store.proofs.entries.room_ok.Goals as goal

pub returns-then-area-lt12 : goal.returns-then-area-lt12
returns-then-area-lt12 c = room-low _ _ _ (omega arith)

pub returns-then-area-used : goal.returns-then-area-used
returns-then-area-used c = room-low _ _ _ (omega arith)

pub returns : goal.returns
returns c = room-is _ _ _ (omega arith)
