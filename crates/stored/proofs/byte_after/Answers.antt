-- `stored::byte_after` meets its contract. Assumes nothing.
use Rattle.std.proofs.Common.{◌+◌, ◌≤◌, length, sym, arith}
use lib.ListN.{get_or-eq_default}
use Rattle.stored.proofs.byte_after.Goals.{else-at-b-via-then-at-b+else-k-b, else-at-b-via-else-at-b}
use Rattle.stored.proofs.byte_after.Goals as goal

pub returns-then-k-b : goal.returns-then-k-b
returns-then-k-b c = (c.from.ensures, omega (arith, c.from.ensures, c.type_inv.b (c.args.at + c.args.k)))

pub returns : goal.returns
returns c =
    let past : length c.args.b.now ≤ c.args.at + c.args.k = elim c.else-at-b.branch [
      | else-at-b-via-then-at-b+else-k-b w ↦ omega arith
      | else-at-b-via-else-at-b w ↦ omega arith
    ] in
    (sym (get_or-eq_default c.args.b.now 0 past), omega arith)
