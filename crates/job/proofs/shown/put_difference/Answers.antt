-- `job::shown::put_difference` meets its contract. Assumes nothing.
use borrow.Author.Rules.{rules}
use native.Mathlib.Omega.{arith}
use mathlib.Core.List.{[], ◌∷◌, ◌++◌}
use Prim.Native.Nat.{ℕ, ◌+◌, ◌≤◌}
use Rattle.job.specs.Listing.{digits, head_text}
use Rattle.job.specs.Shown.{differ_line}
use Rattle.records.proofs.Puts.{room-first, room_next, wrote-both}
use Rattle.job.proofs.shown.put_difference.Goals as goal

from_front : {n m : ℕ} → n ≤ m → 0 + n ≤ m
from_front h = omega arith

pub put_head-next-requires : goal.put_head-next-requires
unfolding differ_line
put_head-next-requires c =
    room-first (head_text 88 c.args.block 32) (digits c.args.place ++ (10 ∷ [])) 0 (from_front c.requires)

pub put_number_then-requires : goal.put_number_then-requires
unfolding differ_line
put_number_then-requires c =
    room_next (digits c.args.place ++ (10 ∷ [])) c.put_head-next.ensures (from_front c.requires)

pub shape_of-out : goal.shape_of-out
shape_of-out c = search rules

pub returns : goal.returns
unfolding differ_line
returns c =
    wrote-both c.put_head-next.ensures c.put_number_then.ensures (from_front c.requires)
