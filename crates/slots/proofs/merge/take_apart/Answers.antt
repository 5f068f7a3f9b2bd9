-- `slots::merge::take_apart` meets its contract. Assumes nothing.
use mathlib.Core.Path.{◌≡◌, sym}
use native.Mathlib.Omega.{arith}
use lib.ListN.{get_or}
use Rattle.paper.proofs.Count.{over_none}
use Rattle.slots.proofs.Keys.{start-lt, end_lt}
use Rattle.slots.proofs.MergedLaws.{column-more}
use Rattle.slots.proofs.merge.take_apart.Goals as goal

pub loop-i-init : goal.loop-i-init
loop-i-init c = record { persons = sym (over_none _ _); starts = sym (over_none _ _); ends = sym (over_none _ _) }

pub overflow_cast-froms : goal.overflow_cast-froms
overflow_cast-froms c = omega (arith, c.start_of.ensures, start-lt (get_or c.args.keys.now c.loop-i.i 0))

pub overflow_cast-tos : goal.overflow_cast-tos
overflow_cast-tos c = omega (arith, c.end_of.ensures, end_lt (get_or c.args.keys.now c.loop-i.i 0))

pub loop-i-preserved : goal.loop-i-preserved
loop-i-preserved c =
    let inv = c.loop-i.invariant in
    record {
      persons = column-more _ _ _ _ _ inv.persons c.person_of.ensures;
      starts = column-more _ _ _ _ _ inv.starts c.start_of.ensures;
      ends = column-more _ _ _ _ _ inv.ends c.end_of.ensures;
    }

pub returns : goal.returns
returns c = let e : c.loop-i.i ≡ c.args.n = omega arith in rw e at c.loop-i.invariant
