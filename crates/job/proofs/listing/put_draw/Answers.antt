-- `job::listing::put_draw` meets its contract. Assumes nothing.
use mathlib.Core.List.{[], ◌∷◌, ◌++◌}
use native.Mathlib.Omega.{arith}
use lib.ListN.{length}
use Rattle.records.proofs.Puts.{room-first, room_next, wrote-both, wrote-same}
use mathlib.Core.Path.{sym, ap, subst}
use Prim.Native.Nat.{ℕ, ◌+◌, ◌≤◌}
use Rattle.job.specs.Listing.{answer_letter, head_text, draw_line}
use Rattle.job.proofs.listing.put_draw.Goals as goal

pub put_head-first-requires : goal.put_head-first-requires
unfolding draw_line
put_head-first-requires c =
    room-first (head_text 68 c.args.d 32) (answer_letter c.args.answer ∷ [] ++ (10 ∷ [])) _ c.requires

pub put_byte-second-requires : goal.put_byte-second-requires
unfolding draw_line
put_byte-second-requires c =
    omega (arith, room_next (answer_letter c.args.answer ∷ [] ++ (10 ∷ [])) c.put_head-first.ensures c.requires)

pub put_byte-requires : goal.put_byte-requires
unfolding draw_line
put_byte-requires c =
    let first = room_next (answer_letter c.args.answer ∷ [] ++ (10 ∷ [])) c.put_head-first.ensures c.requires in
    omega (arith, room_next (10 ∷ []) c.put_byte-second.ensures first)

pub returns : goal.returns
unfolding draw_line
returns c =
    let e = c.letter_of-letter.ensures in
    let letter = c.letter_of-letter.result in
    let r = subst (λ (x : ℕ). c.args.at + length (head_text 68 c.args.d 32 ++ (x ∷ [] ++ (10 ∷ []))) ≤ length c.args.out.now)
    (sym e) c.requires in
    wrote-same (ap (λ (x : ℕ). head_text 68 c.args.d 32 ++ (x ∷ [] ++ (10 ∷ []))) e)
    (wrote-both c.put_head-first.ensures (wrote-both c.put_byte-second.ensures c.put_byte.ensures
    (room_next (letter ∷ [] ++ (10 ∷ [])) c.put_head-first.ensures r)) r)
