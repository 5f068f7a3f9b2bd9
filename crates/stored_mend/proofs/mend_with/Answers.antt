-- `stored_mend::mend_with` meets its contract: it is safe and ends. Assumes nothing.
use native.Mathlib.Omega.{arith}
use lib.ListN.{length-take}
use Rattle.stored_mend.proofs.mend_with.Goals as goal

pub slice_bounds-mend_into-end-2 : goal.slice_bounds-mend_into-end-2
slice_bounds-mend_into-end-2 c = simp length-take (omega arith)
