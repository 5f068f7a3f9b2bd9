-- `rota::assignment::assign_refusal` meets its contract. Assumes nothing.
use Rattle.paper.proofs.Rows.{link, ends, renamed}
use Rattle.rota.proofs.Asked.{assign-number}
use Rattle.rota.proofs.assignment.assign_refusal.Goals as goal

pub returns : goal.returns
returns c =
    assign-number _ _ _ _ _ _ c.recount_slots-f.ensures
    (link c.check-f.ensures
    (link (renamed _ _ c.check-f-2.ensures c.known_by.ensures)
    (link (renamed _ _ c.check.ensures c.available_for.ensures) ends)))
