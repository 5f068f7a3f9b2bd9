-- `mend::listing::list_repairs` meets its contract. Assumes nothing.
use mathlib.Core.Path.{◌∙◌}
use Rattle.mend.proofs.ListLaws.{room_0, room-1, room-2, room-3, all_listed}
use Rattle.mend.proofs.listing.list_repairs.Goals as goal

pub list_owners-n-requires : goal.list_owners-n-requires
list_owners-n-requires c = room_0 _ _ _ _ _ _ _ _ _ _ _ c.requires.2

pub list_words-n-requires : goal.list_words-n-requires
list_words-n-requires c =
    let a = c.list_owners-n in
    room-1 _ _ _ _ _ _ _ _ _ _ _ c.requires.2 _ a.ensures.number _ a.auto.list

pub list_words-n-requires-2 : goal.list_words-n-requires-2
list_words-n-requires-2 c =
    let b = c.list_words-n in
    let a = c.list_owners-n in
    room-2 _ _ _ _ _ _ _ _ _ _ _ c.requires.2 _ a.ensures.number _ (b.auto.list ∙ a.auto.list) _ b.ensures.number

pub list_words-requires : goal.list_words-requires
list_words-requires c =
    let d = c.list_words-n-2 in
    let b = c.list_words-n in
    let a = c.list_owners-n in
    room-3 _ _ _ _ _ _ _ _ _ _ _ c.requires.2 _ a.ensures.number _ (d.auto.list ∙ b.auto.list ∙ a.auto.list) _ b.ensures.number _
    d.ensures.number

pub returns : goal.returns
returns c =
    let e = c.list_words in
    let d = c.list_words-n-2 in
    let b = c.list_words-n in
    let a = c.list_owners-n in
    all_listed _ _ _ _ _ _ _ _ _ _ _ _ _ _ _ _ _ _ _ _ a.ensures b.ensures d.ensures e.ensures
