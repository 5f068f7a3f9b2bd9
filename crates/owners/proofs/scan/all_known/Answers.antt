-- `owners::scan::all_known` meets its contract. Assumes nothing.
use Rattle.std.proofs.Common.{arith, leb-true}
use Rattle.owners.proofs.Scans.{enough-known}
use Rattle.owners.proofs.scan.all_known.Goals as goal

pub returns-then-slots-owners : goal.returns-then-slots-owners
returns-then-slots-owners c = λ t. enough-known _ _ _ _ c.enough_people.ensures (omega (arith, leb-true _ _ t, c.from.ensures))
