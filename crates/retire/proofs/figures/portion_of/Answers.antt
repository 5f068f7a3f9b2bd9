-- `retire::figures::portion_of` meets its contract. Assumes nothing.
use native.Mathlib.Omega.{arith}
use borrow.Author.Tests.{eq-eqb, ne_eqb}
use Rattle.owners.specs.Derived.{portion}
use Rattle.retire.proofs.figures.portion_of.Goals as goal

pub returns-then-owner-person : goal.returns-then-owner-person
unfolding portion
returns-then-owner-person c = (simp (eq-eqb _ _ c.if-owner-person.true) c.from.ensures, omega (arith, c.from.ensures))

pub returns-else-owner-person : goal.returns-else-owner-person
unfolding portion
returns-else-owner-person c = (simp (ne_eqb _ _ c.if-owner-person.false), omega arith)
