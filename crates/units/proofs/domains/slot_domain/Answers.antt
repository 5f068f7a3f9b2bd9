-- `units::domains::slot_domain` meets its contract. Assumes nothing.
use mathlib.Core.Path.{refl, sym, ◌∙◌}
use Rattle.units.specs.Domains.{slot_domain_is}
use Rattle.units.proofs.Sets.{slot-domain-same, slot-domain-says}
use native.Mathlib.Omega.{arith}
use Rattle.units.proofs.Answers.{written-answered, written-refused}
use Rattle.paper.proofs.Rows.{said}
use Rattle.units.proofs.domains.slot_domain.Goals as goal

pub overflow_add-slot : goal.overflow_add-slot
overflow_add-slot c =
    omega (
      arith,
      (slot-domain-says _ _ _ _ _ (sym (said _ c.slot_domain_refusal-n.ensures) ∙
          c.if-n-eq0.true)).short,
    )

pub write_domain-requires : goal.write_domain-requires
write_domain-requires c = slot-domain-says _ _ _ _ _ (sym (said _ c.slot_domain_refusal-n.ensures) ∙
    c.if-n-eq0.true)

pub returns-then-n-eq0 : goal.returns-then-n-eq0
unfolding slot_domain_is
returns-then-n-eq0 c =
    let w = c.write_domain.ensures in
    written-answered _ _ _ _ _ _ _ (said _ c.slot_domain_refusal-n.ensures) c.if-n-eq0.true w.value w.list_after
    (slot-domain-same _ _ _)

pub returns-else-n-eq0 : goal.returns-else-n-eq0
unfolding slot_domain_is
returns-else-n-eq0 c = written-refused _ _ _ _ _ (said _ c.slot_domain_refusal-n.ensures) c.if-n-eq0.false refl
