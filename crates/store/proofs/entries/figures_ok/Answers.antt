-- `store::entries::figures_ok` meets its contract. Assumes nothing.
use mathlib.Core.Path.{sym, ap, ◌∙◌}
use Rattle.store.specs.Outcome.{figures_ok}
use Rattle.store.proofs.entries.figures_ok.Goals as goal

pub returns-in-Figures : goal.returns-in-Figures
returns-in-Figures c = c.settings_ok.ensures ∙ sym (ap figures_ok c.in-Figures.is)
