-- `retire::fresh::fresh_slots` meets its contract. Assumes nothing.
use borrow.Author.Rules.{rules}
use Rattle.retire.proofs.News.{none_written, no-starts, no-ends, slots-full, starts-are, ends-are}
use Rattle.retire.proofs.fresh.fresh_slots.Goals as goal

pub returns-then-base-eq0 : goal.returns-then-base-eq0
returns-then-base-eq0 c = (
  none_written _ _ (no-starts _ _ _ _ c.if-base-eq0.true) (search rules),
  none_written _ _ (no-ends _ _ _ _ c.if-base-eq0.true) (search rules),
)

pub returns : goal.returns
returns c =
    let pre = c.requires in
    let zero = c.if-base-eq0.false in
    let done = c.atomise.ensures in (
      starts-are _ _ _ _ _ pre _ _ (search rules) (search rules) zero _ _ _ done _ c.in-Ok.is,
      ends-are _ _ _ _ _ pre _ _ (search rules) (search rules) zero _ _ _ done _ c.in-Ok.is,
    )

pub returns-in_default : goal.returns-in_default
returns-in_default c =
    let pre = c.requires in
    slots-full _ _ _ _ _ pre _ _ (search rules) (search rules) c.if-base-eq0.false _ _ _ c.atomise.ensures _ c.in_default.is
