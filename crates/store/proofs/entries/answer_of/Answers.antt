-- `store::entries::answer_of` meets its contract. Assumes nothing.
use mathlib.Core.Path.{sym, ap}
use Rattle.store.specs.Outcome.{answer_of}
use Rattle.store.proofs.entries.answer_of.Goals as goal

pub returns-in-Figures : goal.returns-in-Figures
returns-in-Figures c = sym (ap answer_of c.in-Figures.is)
