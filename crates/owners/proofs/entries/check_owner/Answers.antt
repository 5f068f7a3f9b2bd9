-- `owners::entries::check_owner` meets its contract. Assumes nothing.
use Rattle.std.proofs.Common.{ap, ◌∙◌}
use Rattle.paper.proofs.Rows.{renamed}
use Rattle.owners.specs.Derived.{known_by}
use Rattle.owners.proofs.entries.check_owner.Goals as goal

pub returns : goal.returns
returns c =
    renamed _ _ c.check.ensures (c.known_by.ensures ∙ ap (known_by _) c.owner_at.ensures)
