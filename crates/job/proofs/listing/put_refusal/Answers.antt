-- `job::listing::put_refusal` meets its contract. Below, c_n is what is known N places before c. Assumes nothing.
use mathlib.Core.Path.{sym, ap, subst}
use mathlib.Core.List.{List}
use Prim.Native.Nat.{ℕ, ◌+◌, ◌≤◌}
use native.Mathlib.Omega.{arith}
use lib.ListN.{length}
use Rattle.records.proofs.Puts.{room-first, room_next, wrote-both, wrote-length, wrote-same}
use Rattle.job.specs.Listing.{head_text, part_text}
use Rattle.job.proofs.Texts.{line_plain, line-part}
use Rattle.job.proofs.listing.put_refusal.Goals as goal

pub put_head-requires : goal.put_head-requires
put_head-requires c =
    let a = c.args in
    omega (arith, ap length (line_plain a.part a.place a.second a.number c.if-part-eq0.true), c.requires)

pub returns-then-part-eq0 : goal.returns-then-part-eq0
returns-then-part-eq0 c =
    let a = c.args in
    wrote-same (line_plain a.part a.place a.second a.number c.if-part-eq0.true) c.put_head.ensures

pub put_head-next-requires : goal.put_head-next-requires
put_head-next-requires c =
    let a = c.args in
    let e = line-part a.part a.place a.second a.number c.if-part-eq0.false in
    room-first (head_text 82 a.number 46) (part_text a.part a.place a.second) 0
    (subst (λ (l : List ℕ). 0 + length l ≤ length a.out.now) (sym e) (omega (arith, c.requires)))

pub put_part-requires : goal.put_part-requires
put_part-requires c =
    let a = c.args in
    let e = line-part a.part a.place a.second a.number c.if-part-eq0.false in
    room_next (part_text a.part a.place a.second) c.put_head-next.ensures
    (subst (λ (l : List ℕ). 0 + length l ≤ length a.out.now) (sym e) (omega (arith, c.requires)))

pub returns : goal.returns
returns c =
    let a = c.args in
    let e = line-part a.part a.place a.second a.number c.if-part-eq0.false in
    wrote-same e (wrote-both c.put_head-next.ensures c.put_part.ensures
    (subst (λ (l : List ℕ). 0 + length l ≤ length a.out.now) (sym e) (omega (arith, c.requires))))

pub shape_of-out : goal.shape_of-out
shape_of-out c =
    wrote-length (returns c) (omega (arith, c.requires))
