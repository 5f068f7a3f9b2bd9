-- `units::masks::unit_domains` meets its contract. Assumes nothing.
use mathlib.Core.Path.{sym, ◌∙◌}
use Rattle.paper.proofs.Rows.{said}
use Rattle.units.proofs.Sets.{unit-domains-say, domains-answered, domains-refused}
use Rattle.units.proofs.masks.unit_domains.Goals as goal

pub write_masks-requires : goal.write_masks-requires
write_masks-requires c = unit-domains-say _ _ _ _ _ _ (sym (said _ c.unit_domains_refusal-n.ensures) ∙ c.if-n-eq0.true)

pub returns-then-n-eq0 : goal.returns-then-n-eq0
returns-then-n-eq0 c =
    let whole = domains-answered _ _ _ _ _ _ _ (said _ c.unit_domains_refusal-n.ensures) _ c.if-n-eq0.true
    c.write_masks.ensures in
    record { value = whole.0; masks_after = whole.1 }

pub returns : goal.returns
returns c =
    let whole = domains-refused _ _ _ _ _ _ _ (said _ c.unit_domains_refusal-n.ensures) c.if-n-eq0.false in
    record { value = whole.0; masks_after = whole.1 }
