-- `units::domains::unit_domain` meets its contract. Assumes nothing.
use mathlib.Core.Path.{refl, sym, ◌∙◌}
use Rattle.units.specs.Domains.{unit_domain_is}
use Rattle.units.proofs.Sets.{unit-domain-says, domain-at}
use Rattle.units.proofs.Answers.{written-answered, written-refused}
use Rattle.paper.proofs.Rows.{said}
use Rattle.units.proofs.domains.unit_domain.Goals as goal

pub write_domain-requires : goal.write_domain-requires
write_domain-requires c =
    let n = said _ c.unit_domain_refusal-n.ensures in
    unit-domain-says _ _ _ _ _ _ _ _ (sym n ∙ c.if-n-eq0.true) c.unit_end-to.ensures

pub returns-then-n-eq0 : goal.returns-then-n-eq0
unfolding unit_domain_is
returns-then-n-eq0 c =
    let w = c.write_domain.ensures in
    let n = said _ c.unit_domain_refusal-n.ensures in
    let s = domain-at _ _ _ _ _ _ _ _ c.start_of-from.ensures c.unit_end-to.ensures in
    written-answered _ _ _ _ _ _ _ n c.if-n-eq0.true w.value w.list_after s

pub returns-else-n-eq0 : goal.returns-else-n-eq0
unfolding unit_domain_is
returns-else-n-eq0 c = written-refused _ _ _ _ _ (said _ c.unit_domain_refusal-n.ensures) c.if-n-eq0.false refl
