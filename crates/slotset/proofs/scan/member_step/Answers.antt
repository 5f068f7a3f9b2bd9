-- `slotset::scan::member_step` meets its contract. Assumes nothing.
use mathlib.Core.Path.{sym, ap, subst}
use native.Mathlib.Omega.{arith}
use Rattle.slotset.specs.Inside.{Below}
use Rattle.slotset.specs.Answers.{member_step}
use Rattle.slotset.proofs.scan.member_step.Goals as goal

pub overflow_add-result : goal.overflow_add-result
overflow_add-result c = omega (arith, subst (Below 1024) c.in-Some.is c.requires)

pub returns-in-Some : goal.returns-in-Some
returns-in-Some c = sym (ap member_step c.in-Some.is)

pub returns-in-None : goal.returns-in-None
returns-in-None c = sym (ap member_step c.in-None.is)
