-- `replay::reading::draw_at` meets its contract. Assumes nothing.
use borrow.Author.Rules.{rules}
use native.Mathlib.Omega.{arith}
use mathlib.Core.Path.{sym, ◌∙◌}
use Rattle.replay.proofs.Records.{head-room, draw-is, draw-kind, draw-size, draw-none}
use Rattle.replay.proofs.reading.draw_at.Goals as goal

pub head_at-h-requires : goal.head_at-h-requires
head_at-h-requires c = search rules

pub enum_known-h : goal.enum_known-h
enum_known-h c = search rules

pub overflow_add-at : goal.overflow_add-at
overflow_add-at c = omega (arith, head-room _ _ _ _ (sym c.head_at-h.ensures ∙ c.in-Whole.is))

pub field-requires : goal.field-requires
field-requires c = search rules

pub returns-then-kind-eq8 : goal.returns-then-kind-eq8
returns-then-kind-eq8 c =
    draw-is _ _ _ _ (sym c.head_at-h.ensures ∙ c.in-Whole.is) c.if-size-eq8.true
    c.if-kind-eq8.true _ c.field.ensures.0

pub returns-then-size-eq8 : goal.returns-then-size-eq8
returns-then-size-eq8 c = draw-kind _ _ _ _ (sym c.head_at-h.ensures ∙ c.in-Whole.is) c.if-kind-eq8.false

pub enum_told-1 : goal.enum_told-1
enum_told-1 c = search rules

pub returns-else-size-eq8 : goal.returns-else-size-eq8
returns-else-size-eq8 c = draw-size _ _ _ _ (sym c.head_at-h.ensures ∙ c.in-Whole.is) c.if-size-eq8.false

pub returns-in-Nothing : goal.returns-in-Nothing
returns-in-Nothing c = draw-none _ _ (sym c.head_at-h.ensures ∙ c.in-Nothing.is)
