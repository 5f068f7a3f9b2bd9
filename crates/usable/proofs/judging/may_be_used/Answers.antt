-- `usable::judging::may_be_used` meets its contract. Assumes nothing.
use Rattle.std.specs.Prelude.{Ok}
use mathlib.Core.Path.{sym, ap, ◌∙◌}
use Rattle.paper.proofs.Rows.{said}
use Rattle.usable.proofs.Judged.{row-asks, judged-when, refused-when}
use Rattle.usable.proofs.judging.may_be_used.Goals as goal

pub first_broken-requires : goal.first_broken-requires
first_broken-requires c =
    let whole = row-asks _ (sym (said _ c.usable_refusal-n.ensures) ∙ c.if-n-eq0.true) in
    record { slots_sound = whole.0; by_unit = whole.1 }

pub returns-then-n-eq0 : goal.returns-then-n-eq0
returns-then-n-eq0 c =
    ap Ok c.first_broken.ensures ∙ judged-when _ _ (said _ c.usable_refusal-n.ensures) c.if-n-eq0.true

pub returns : goal.returns
returns c = refused-when _ _ (said _ c.usable_refusal-n.ensures) c.if-n-eq0.false
