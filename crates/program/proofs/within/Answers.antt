-- `program::within` meets its contract. Assumes nothing.
use Rattle.std.proofs.Common.{◌≤◌, length, sym, arith}
use lib.Seq.{length-take-le}
use Rattle.program.proofs.within.Goals as goal

pub returns : goal.returns
returns c =
    let h : c.min.result ≤ length c.args.buf.now = omega arith in
    (h, sym (length-take-le _ _ h))
