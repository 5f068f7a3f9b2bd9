-- `owners::entries::from_slots_refusal` meets its contract. Assumes nothing.
use Rattle.paper.proofs.Rows.{link, ends}
use Rattle.owners.proofs.Entered.{from-number}
use Rattle.owners.proofs.entries.from_slots_refusal.Goals as goal

pub returns : goal.returns
returns c =
    from-number _ _ _ _ c.lent_refusal-f.ensures
    (link c.check_known-f.ensures (link c.check_available.ensures ends))
