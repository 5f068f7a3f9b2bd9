-- `mend::mending::mend` meets its contract. Assumes nothing.
use mathlib.Core.Path.{refl, sym, ◌∙◌}
use Rattle.paper.proofs.Rows.{said}
use Rattle.mend.proofs.Ending.{ends-refused}
use Rattle.mend.proofs.mending.mend.Goals as goal

pub mend_found-requires : goal.mend_found-requires
mend_found-requires c =
    sym (said _ c.found_refusal-n.ensures) ∙ c.if-n-eq0.true

pub returns : goal.returns
returns c = ends-refused _ _ _ _ _ _ _ _ c.found_refusal-n.ensures refl c.if-n-eq0.false _
