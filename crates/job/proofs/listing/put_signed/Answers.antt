-- `job::listing::put_signed` meets its contract. Assumes nothing.
use mathlib.Core.Path.{sym, ap, subst}
use mathlib.Core.List.{List, [], ◌∷◌, ◌++◌}
use Prim.Native.Nat.{ℕ, ◌+◌, ◌≤◌}
use native.Mathlib.Omega.{arith}
use lib.ListN.{length}
use Rattle.job.specs.Listing.{digits}
use Rattle.records.proofs.Puts.{room_next, wrote-both, wrote-length, wrote-same}
use Rattle.job.proofs.Signs.{signed_below, signed_above}
use Rattle.job.proofs.listing.put_signed.Goals as goal

pub put_byte-next-requires : goal.put_byte-next-requires
put_byte-next-requires c =
    omega (
      arith,
      c.requires,
      ap (λ (l : List ℕ). length (l ++ (10 ∷ [])))
          (signed_below c.args.t c.ranges.t c.if-t-lt0.true c.unsigned_abs-size.result
          c.unsigned_abs-size.ensures.value),
    )

pub put_number_then-requires : goal.put_number_then-requires
put_number_then-requires c =
    let r = subst (λ (l : List ℕ). c.args.at + length (l ++ (10 ∷ [])) ≤ length c.args.out.now)
    (signed_below c.args.t c.ranges.t c.if-t-lt0.true c.unsigned_abs-size.result c.unsigned_abs-size.ensures.value) c.requires in
    room_next (digits c.unsigned_abs-size.result ++ (10 ∷ [])) c.put_byte-next.ensures r

pub returns-then-t-lt0 : goal.returns-then-t-lt0
returns-then-t-lt0 c =
    let e = signed_below c.args.t c.ranges.t c.if-t-lt0.true c.unsigned_abs-size.result c.unsigned_abs-size.ensures.value in
    let r = subst (λ (l : List ℕ). c.args.at + length (l ++ (10 ∷ [])) ≤ length c.args.out.now) e c.requires in
    wrote-same (ap (λ (l : List ℕ). l ++ (10 ∷ [])) (sym e)) (wrote-both c.put_byte-next.ensures
    c.put_number_then.ensures r)

pub shape_of-out-then-t-lt0 : goal.shape_of-out-then-t-lt0
shape_of-out-then-t-lt0 c =
    wrote-length (returns-then-t-lt0 c) c.requires

pub put_number_then-requires-2 : goal.put_number_then-requires-2
put_number_then-requires-2 c =
    subst (λ (l : List ℕ). c.args.at + length (l ++ (10 ∷ [])) ≤ length c.args.out.now)
    (signed_above c.args.t c.ranges.t c.if-t-lt0.false c.unsigned_abs-size.result
    c.unsigned_abs-size.ensures.value) c.requires

pub returns : goal.returns
returns c =
    wrote-same (ap (λ (l : List ℕ). l ++ (10 ∷ [])) (sym (signed_above c.args.t c.ranges.t c.if-t-lt0.false c.unsigned_abs-size.result
    c.unsigned_abs-size.ensures.value))) c.put_number_then-2.ensures
