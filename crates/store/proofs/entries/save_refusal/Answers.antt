-- `store::entries::save_refusal` meets its contract. Assumes nothing.
use mathlib.Core.Path.{refl}
use Rattle.paper.specs.Rows.{refusal_of}
use Rattle.paper.proofs.Rows.{link, ends, checked, renamed}
use Rattle.store.proofs.entries.save_refusal.Goals as goal

pub returns : goal.returns
unfolding refusal_of
returns c =
    checked _ refl c.accepted.ensures
    (link c.check-f.ensures (link c.check-f-2.ensures (link (renamed _ 7 c.check.ensures c.settings_ok.ensures) ends)))
