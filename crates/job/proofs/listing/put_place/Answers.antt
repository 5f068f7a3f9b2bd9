-- `job::listing::put_place` meets its contract. Below, c_n is what is known N places before c. Assumes nothing.
use mathlib.Core.Path.{sym, subst}
use mathlib.Core.List.{List, [], ◌∷◌, ◌++◌}
use Prim.Native.Nat.{ℕ, ◌+◌, ◌≤◌}
use lib.ListN.{length}
use Rattle.records.proofs.Puts.{room-first, room_next, wrote-both, wrote-length, wrote-same}
use Rattle.job.specs.Listing.{digits}
use Rattle.job.proofs.Texts.{place-two, place-one}
use Rattle.job.proofs.listing.put_place.Goals as goal

pub put_number_then-next-requires : goal.put_number_then-next-requires
put_number_then-next-requires c =
    let a = c.args in
    let r = subst (λ (l : List ℕ). a.at + length l ≤ length a.out.now) (sym (place-two a.part a.place a.second
    c.if-part-eq4.true)) c.requires in
    room-first (digits a.place ++ (32 ∷ [])) (digits a.second ++ (10 ∷ [])) _ r

pub put_number_then-requires : goal.put_number_then-requires
put_number_then-requires c =
    let a = c.args in
    let r = subst (λ (l : List ℕ). a.at + length l ≤ length a.out.now) (sym (place-two a.part a.place a.second
    c.if-part-eq4.true)) c.requires in
    room_next (digits a.second ++ (10 ∷ [])) c.put_number_then-next.ensures r

pub returns-then-part-eq4 : goal.returns-then-part-eq4
returns-then-part-eq4 c =
    let a = c.args in
    let e = place-two a.part a.place a.second c.if-part-eq4.true in
    let r = subst (λ (l : List ℕ). a.at + length l ≤ length a.out.now) (sym e) c.requires in
    wrote-same e (wrote-both c.put_number_then-next.ensures c.put_number_then.ensures r)

pub shape_of-out-then-part-eq4 : goal.shape_of-out-then-part-eq4
shape_of-out-then-part-eq4 c =
    wrote-length (returns-then-part-eq4 c) c.requires

pub put_number_then-requires-2 : goal.put_number_then-requires-2
put_number_then-requires-2 c =
    let a = c.args in
    subst (λ (l : List ℕ). a.at + length l ≤ length a.out.now) (sym (place-one a.part a.place a.second c.if-part-eq4.false))
    c.requires

pub returns : goal.returns
returns c =
    let a = c.args in
    wrote-same (place-one a.part a.place a.second c.if-part-eq4.false) c.put_number_then-2.ensures
