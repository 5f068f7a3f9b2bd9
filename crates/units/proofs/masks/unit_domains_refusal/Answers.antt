-- `units::masks::unit_domains_refusal` meets its contract. Assumes nothing.
use mathlib.Core.Path.{refl}
use Rattle.paper.proofs.Rows.{link, ends, checked}
use Rattle.units.specs.Domains.{unit_domains_row}
use Rattle.units.proofs.masks.unit_domains_refusal.Goals as goal

pub returns : goal.returns
unfolding unit_domains_row
returns c =
    checked _ refl c.accepted.ensures
    (link c.check_people-f.ensures (link c.check_slots-f.ensures (link c.check_words-f.ensures
    (link c.check-f.ensures (link c.check-f-2.ensures (link c.check_units.ensures ends))))))
