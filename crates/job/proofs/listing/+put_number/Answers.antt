-- `job::listing::put_number` meets its contract: the digits of a tenth, then the last digit. Assumes nothing.
use Rattle.std.proofs.Common.{arith, sym, ap, subst, ℕ, ◌+◌, ◌/◌, ◌%◌, ◌≤◌, List, [], ◌∷◌, length}
use lib.ListN.{length-append}
use Rattle.records.proofs.Puts.{wrote-same, wrote-both, room_next}
use Rattle.job.specs.Listing.{digits}
use Rattle.job.proofs.Texts.{digits-small, digits_more}
use Rattle.job.proofs.listing.+put_number.Goals as goal

pub put_byte-requires : goal.put_byte-requires
put_byte-requires t c = omega (arith, ap length (digits-small _ c.if-n-lt10.true))

pub returns-then-n-lt10 : goal.returns-then-n-lt10
returns-then-n-lt10 t c = wrote-same (sym (digits-small _ c.if-n-lt10.true)) c.put_byte.ensures

pub put_number-next-requires : goal.put_number-next-requires
put_number-next-requires t c =
    let n = c.args.n in (
      omega arith,
      omega (arith, ap length (digits_more n c.if-n-lt10.false (omega arith)), length-append (digits (n / 10)) ((48 + n % 10) ∷ [])),
    )

pub put_byte-requires-2 : goal.put_byte-requires-2
put_byte-requires-2 t c =
    let n = c.args.n in
    let e = digits_more n c.if-n-lt10.false (omega arith) in
    let r = subst (λ (l : List ℕ). c.args.at + length l ≤ length c.args.out.now) e c.requires in
    omega (arith, room_next ((48 + n % 10) ∷ []) c.put_number-next.ensures r)

pub returns : goal.returns
returns t c =
    let n = c.args.n in
    let e = digits_more n c.if-n-lt10.false (omega arith) in
    let r = subst (λ (l : List ℕ). c.args.at + length l ≤ length c.args.out.now) e c.requires in
    wrote-same (sym e) (wrote-both c.put_number-next.ensures c.put_byte-2.ensures r)
