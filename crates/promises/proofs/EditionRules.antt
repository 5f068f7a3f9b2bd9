-- Edition 2 of the rule on the remainder, by the laws of targets; its marked cases stand in TargetCases. Assumes nothing.
use mathlib.Core.Path.{◌≡◌, ap}
use mathlib.Core.Bool.{Bool, true, false, cond}
use mathlib.Core.List.{List, map}
use Prim.Native.Nat.{ℕ, ◌-◌, ◌≤◌, ◌<◌}
use borrow.Author.Tests.{le-leb, lt-leb}
use Rattle.targets.specs.declared.Standing.{Standing}
use Rattle.targets.specs.Passes.{some}
use Rattle.targets.specs.Remainder.{total_of}
use Rattle.targets.specs.SecondEdition.{unpinned, unpin, taking_part, give_minute, take_minute, times, handed_out}
use Rattle.targets.proofs.Promises.{first-edition}
use Rattle.targets.proofs.EditionPromises.{minute-given, minute-taken, second-edition, none_below, pinned-keeps, level-reached}
use Rattle.promises.specs.EditionRules.{EditionsByRule}

part-is : (ls : List Standing) (b : Bool) → some unpinned ls ≡ b → taking_part ls ≡ cond b ls (map unpin ls)
unfolding taking_part
part-is ls b e = ap (λ (x : Bool). cond x ls (map unpin ls)) e

missing-is : (demand : ℕ) (ls : List Standing) → total_of ls ≤ demand → handed_out demand ls ≡ times (demand - total_of ls) give_minute ls
unfolding handed_out
missing-is demand ls h = rw (le-leb (total_of ls) demand h)

extra-is : (demand : ℕ) (ls : List Standing) → demand < total_of ls → handed_out demand ls ≡ times (total_of ls - demand) take_minute ls
unfolding handed_out
extra-is demand ls h = rw (lt-leb (total_of ls) demand h)

pub editions-by-rule : EditionsByRule
editions-by-rule = record {
  first = first-edition;
  second = second-edition;
  unpinned-part = λ ls e. part-is ls true e;
  all-part = λ ls e. part-is ls false e;
  gives = minute-given;
  takes = minute-taken;
  missing = missing-is;
  extra = extra-is;
  not-below = none_below;
  pinned = pinned-keeps;
  level = level-reached;
}
