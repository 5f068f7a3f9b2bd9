-- `store::entries::ask_refusal` meets its contract. Assumes nothing.
use mathlib.Core.Path.{refl}
use Rattle.paper.specs.Rows.{refusal_of}
use Rattle.paper.proofs.Rows.{link, ends, checked, renamed}
use Rattle.store.proofs.entries.ask_refusal.Goals as goal

pub returns : goal.returns
unfolding refusal_of
returns c =
    checked _ refl c.accepted.ensures
    (link c.check-f.ensures
    (link (renamed _ 7 c.check-f-2.ensures c.figures_ok.ensures)
    (link (renamed _ 11 c.check.ensures c.known_ok.ensures) ends)))
