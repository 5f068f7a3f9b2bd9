-- `owners::scan::enough_people` meets its contract. Assumes nothing.
use Rattle.std.proofs.Common.{◌<◌, get_or, refl, arith}
use Rattle.owners.proofs.Scans.{enough-more}
use Rattle.owners.proofs.scan.enough_people.Goals as goal

pub loop-k-preserved : goal.loop-k-preserved
loop-k-preserved c =
    let at = c.loop-k.k in
    let byte : get_or c.args.owners.now at 0 < 256 = omega (arith, c.type_inv.owners at) in
    enough-more c.args.owners.now _ _ _ _ c.loop-k.invariant byte refl c.max-most.ensures
