-- `job::listing::put_part` meets its contract. Below, c_n is what is known N places before c. Assumes nothing.
use mathlib.Core.List.{[], ◌∷◌, ◌++◌}
use Rattle.records.proofs.Puts.{room-first, room_next, wrote-both, wrote-length}
use Rattle.job.specs.Listing.{digits, place_text, part_text}
use Rattle.job.proofs.listing.put_part.Goals as goal

pub put_number_then-next-requires : goal.put_number_then-next-requires
unfolding part_text
put_number_then-next-requires c =
    let a = c.args in
    room-first (digits a.part ++ (32 ∷ [])) (place_text a.part a.place a.second) _ c.requires

pub put_place-requires : goal.put_place-requires
unfolding part_text
put_place-requires c =
    let a = c.args in
    room_next (place_text a.part a.place a.second) c.put_number_then-next.ensures c.requires

pub returns : goal.returns
unfolding part_text
returns c =
    wrote-both c.put_number_then-next.ensures c.put_place.ensures c.requires

pub shape_of-out : goal.shape_of-out
unfolding part_text
shape_of-out c = wrote-length (returns c) c.requires
