-- `store::figures::body_of` meets its contract. Assumes nothing.
use mathlib.Core.Path.{refl}
use Rattle.records.specs.Fields.{le_bytes}
use Rattle.store.specs.Figures.{body_of}
use Rattle.store.proofs.figures.body_of.Goals as goal

pub returns : goal.returns
unfolding body_of le_bytes
returns c = refl
