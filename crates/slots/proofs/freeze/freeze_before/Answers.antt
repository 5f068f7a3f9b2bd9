-- `slots::freeze::freeze_before` meets its contract. Assumes nothing.
use mathlib.Core.Path.{sym, ◌∙◌}
use Rattle.paper.proofs.Rows.{said}
use Rattle.slots.proofs.FreezeLaws.{freeze-says, ends-rise, freeze-done, freeze-refused}
use Rattle.slots.proofs.freeze.freeze_before.Goals as goal

pub ended_by-n-requires : goal.ended_by-n-requires
ended_by-n-requires c =
    let args = c.args in
    let k = freeze-says _ args.starts.now args.ends.now args.frozen.now (sym (said _ c.freeze_refusal-number.ensures)
    ∙ c.if-number-eq0.true) in
    (k.0, k.2.ends-room, ends-rise _ args.starts.now args.ends.now k.2)

pub returns-then-number-eq0 : goal.returns-then-number-eq0
returns-then-number-eq0 c =
    let freeze-refusal = c.freeze_refusal-number in
    let if1 = c.if-number-eq0 in
    let Ended-by = c.ended_by-n in
    let put-stretch = c.put_stretch in
    freeze-done _ _ _ _ _ _ (said _ freeze-refusal.ensures) if1.true _ Ended-by.ensures _ put-stretch.ensures.1

pub returns : goal.returns
returns c = freeze-refused _ _ _ _ _ _ (said _ c.freeze_refusal-number.ensures) c.if-number-eq0.false
