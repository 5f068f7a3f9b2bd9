-- `slotset::scan::end_of` meets its contract. Assumes nothing.
use mathlib.Core.Path.{sym, ap, subst}
use native.Mathlib.Omega.{arith}
use Rattle.slotset.specs.Runs.{end_of}
use Rattle.slotset.specs.Inside.{Above}
use Rattle.slotset.proofs.scan.end_of.Goals as goal

pub overflow_sub-result : goal.overflow_sub-result
overflow_sub-result c = omega (arith, subst (Above 0) c.in-Some.is c.requires.1)

pub returns-in-Some : goal.returns-in-Some
returns-in-Some c = let s = c.args in sym (ap (end_of s.len) c.in-Some.is)

pub returns-in-None : goal.returns-in-None
returns-in-None c = let s = c.args in sym (ap (end_of s.len) c.in-None.is)
