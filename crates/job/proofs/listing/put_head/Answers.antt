-- `job::listing::put_head` meets its contract. Assumes nothing.
use mathlib.Core.List.{[], ◌∷◌, ◌++◌}
use native.Mathlib.Omega.{arith}
use Rattle.job.specs.Listing.{digits, head_text}
use Rattle.records.proofs.Puts.{room_next, wrote-both, wrote-length}
use Rattle.job.proofs.listing.put_head.Goals as goal

pub put_byte-second-requires : goal.put_byte-second-requires
unfolding head_text
put_byte-second-requires c = omega (arith, c.requires)

pub put_byte-third-requires : goal.put_byte-third-requires
unfolding head_text
put_byte-third-requires c =
    omega (arith, room_next (32 ∷ (digits c.args.n ++ (c.args.last ∷ []))) c.put_byte-second.ensures c.requires)

pub put_number_then-requires : goal.put_number_then-requires
unfolding head_text
put_number_then-requires c =
    let n = digits c.args.n ++ (c.args.last ∷ []) in
    room_next n c.put_byte-third.ensures (room_next (32 ∷ n) c.put_byte-second.ensures c.requires)

pub returns : goal.returns
unfolding head_text
returns c =
    let n = digits c.args.n ++ (c.args.last ∷ []) in
    wrote-both c.put_byte-second.ensures (wrote-both c.put_byte-third.ensures c.put_number_then.ensures
    (room_next (32 ∷ n) c.put_byte-second.ensures c.requires)) c.requires

pub shape_of-out : goal.shape_of-out
shape_of-out c =
    wrote-length (returns c) c.requires
