-- `job::listing::put_number_then` meets its contract. Assumes nothing.
use mathlib.Core.List.{[], ◌∷◌}
use native.Mathlib.Omega.{arith}
use Rattle.job.specs.Listing.{digits}
use Rattle.records.proofs.Puts.{room-first, room_next, wrote-both, wrote-length}
use Rattle.job.proofs.listing.put_number_then.Goals as goal

pub put_number-next-requires : goal.put_number-next-requires
put_number-next-requires c = room-first (digits c.args.n) (c.args.last ∷ []) _ c.requires

pub put_byte-requires : goal.put_byte-requires
put_byte-requires c =
    omega (arith, room_next (c.args.last ∷ []) c.put_number-next.ensures c.requires)

pub returns : goal.returns
returns c =
    wrote-both c.put_number-next.ensures c.put_byte.ensures c.requires

pub shape_of-out : goal.shape_of-out
shape_of-out c = wrote-length (returns c) c.requires
