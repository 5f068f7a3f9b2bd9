-- `job::listing::put_person` meets its contract. Assumes nothing.
use mathlib.Core.List.{List, [], ◌∷◌, ◌++◌}
use Prim.Native.Nat.{ℕ}
use native.Mathlib.Omega.{arith}
use lib.ListN.{length}
use lib.IntN.{ℤ}
use mathlib.Core.Path.{ap}
use mir.Syntax.{w64}
use mir.ValLaws.{to_z-of_z}
use Rattle.records.proofs.Puts.{room-first, room_next, wrote-both, wrote-same}
use Rattle.job.specs.Listing.{digits, signed, head_text, person_line}
use Rattle.job.proofs.listing.put_person.Goals as goal

-- what follows the person's number in the line, and their minutes
abbrev from-target : ℤ → List ℕ
from-target target = signed target ++ (10 ∷ [])

abbrev from-minutes : ℕ → ℤ → List ℕ
from-minutes minutes target = digits minutes ++ (32 ∷ []) ++ from-target target

pub put_head-first-requires : goal.put_head-first-requires
unfolding person_line
put_head-first-requires c =
    room-first (head_text 80 c.args.p 32) (from-minutes c.args.minutes c.args.target) _ c.requires

pub put_number_then-second-requires : goal.put_number_then-second-requires
unfolding person_line
put_number_then-second-requires c =
    let first = room_next (from-minutes c.args.minutes c.args.target) c.put_head-first.ensures c.requires in
    room-first (digits c.args.minutes ++ (32 ∷ [])) (from-target c.args.target) _ first

pub put_signed-requires : goal.put_signed-requires
unfolding person_line
put_signed-requires c =
    let first = room_next (from-minutes c.args.minutes c.args.target) c.put_head-first.ensures c.requires in
    omega (
      arith,
      room_next (from-target c.args.target) c.put_number_then-second.ensures first,
      ap (λ (z : ℤ). length (from-target z)) (to_z-of_z w64 c.args.target c.ranges.target),
    )

pub returns : goal.returns
unfolding person_line
returns c =
    let first = room_next (from-minutes c.args.minutes c.args.target) c.put_head-first.ensures c.requires in
    let last = wrote-same (ap from-target (to_z-of_z w64 c.args.target c.ranges.target)) c.put_signed.ensures in
    wrote-both c.put_head-first.ensures (wrote-both c.put_number_then-second.ensures last first) c.requires
