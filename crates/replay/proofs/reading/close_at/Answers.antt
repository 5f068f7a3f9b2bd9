-- `replay::reading::close_at` meets its contract. Assumes nothing.
use borrow.Author.Rules.{rules}
use mathlib.Core.Path.{sym, ◌∙◌}
use Rattle.replay.proofs.Records.{close-is, close-size, close-none}
use Rattle.replay.proofs.reading.close_at.Goals as goal

pub head_at-h-requires : goal.head_at-h-requires
head_at-h-requires c = search rules

pub enum_known-h : goal.enum_known-h
enum_known-h c = search rules

pub returns-then-size-eq0 : goal.returns-then-size-eq0
returns-then-size-eq0 c = close-is _ _ _ _ (sym c.head_at-h.ensures ∙ c.in-Whole.is) c.if-size-eq0.true

pub enum_told-1 : goal.enum_told-1
enum_told-1 c = search rules

pub returns-else-size-eq0 : goal.returns-else-size-eq0
returns-else-size-eq0 c = close-size _ _ _ _ (sym c.head_at-h.ensures ∙ c.in-Whole.is) c.if-size-eq0.false

pub returns-in-Nothing : goal.returns-in-Nothing
returns-in-Nothing c = close-none _ _ (sym c.head_at-h.ensures ∙ c.in-Nothing.is)
