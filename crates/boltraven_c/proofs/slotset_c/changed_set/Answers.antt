-- `boltraven_c::slotset_c::changed_set` meets its contract. Assumes nothing.
use mathlib.Core.Path.{◌∙◌, ap, sym}
use mathlib.Core.Bool.{Bool}
use Rattle.slotset.specs.Slots.{value_of}
use Rattle.slotset.specs.Answers.{put_of}
use Rattle.boltraven_c.proofs.slotset_c.changed_set.Goals as goal

pub returns-then-want : goal.returns-then-want
returns-then-want c =
    let a = c.args in
    c.insert.ensures ∙ sym (ap (λ (w : Bool). put_of (value_of w) a.set a.i) c.if-want.true)

pub returns-else-want : goal.returns-else-want
returns-else-want c =
    let a = c.args in
    c.remove.ensures ∙ sym (ap (λ (w : Bool). put_of (value_of w) a.set a.i) c.if-want.false)
