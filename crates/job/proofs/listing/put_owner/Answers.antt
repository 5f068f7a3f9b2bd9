-- `job::listing::put_owner` meets its contract. Assumes nothing.
use mathlib.Core.Path.{sym, ap, subst}
use mathlib.Core.List.{List, [], ◌∷◌, ◌++◌}
use Prim.Native.Nat.{ℕ, ◌+◌, ◌≤◌}
use native.Mathlib.Omega.{arith}
use lib.ListN.{length}
use Rattle.records.proofs.Puts.{room_next, wrote-both, wrote-length, wrote-same}
use Rattle.job.proofs.Texts.{owner-none, owner-some}
use Rattle.job.proofs.listing.put_owner.Goals as goal

pub put_byte-next-requires : goal.put_byte-next-requires
put_byte-next-requires c =
    omega (arith, c.requires, ap (λ (l : List ℕ). length (l ++ (10 ∷ []))) (owner-none _ c.if-owner-eq-NOBODY.true))

pub put_byte-requires : goal.put_byte-requires
put_byte-requires c =
    let r = subst (λ (l : List ℕ). c.args.at + length (l ++ (10 ∷ [])) ≤ length c.args.out.now) (owner-none _ c.if-owner-eq-NOBODY.true)
    c.requires in
    omega (arith, room_next (10 ∷ []) c.put_byte-next.ensures r)

pub returns-then-owner-eq-NOBODY : goal.returns-then-owner-eq-NOBODY
returns-then-owner-eq-NOBODY c =
    let e = owner-none _ c.if-owner-eq-NOBODY.true in
    let r = subst (λ (l : List ℕ). c.args.at + length (l ++ (10 ∷ [])) ≤ length c.args.out.now) e c.requires in
    wrote-same (ap (λ (l : List ℕ). l ++ (10 ∷ [])) (sym e)) (wrote-both c.put_byte-next.ensures c.put_byte.ensures r)

pub shape_of-out-then-owner-eq-NOBODY : goal.shape_of-out-then-owner-eq-NOBODY
shape_of-out-then-owner-eq-NOBODY c =
    wrote-length (returns-then-owner-eq-NOBODY c) c.requires

pub put_number_then-requires : goal.put_number_then-requires
put_number_then-requires c =
    subst (λ (l : List ℕ). c.args.at + length (l ++ (10 ∷ [])) ≤ length c.args.out.now) (owner-some _ c.if-owner-eq-NOBODY.false)
    c.requires

pub returns : goal.returns
returns c =
    wrote-same (ap (λ (l : List ℕ). l ++ (10 ∷ [])) (sym (owner-some _ c.if-owner-eq-NOBODY.false))) c.put_number_then.ensures
