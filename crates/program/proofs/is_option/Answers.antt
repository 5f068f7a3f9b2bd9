-- `program::is_option` meets its contract. Assumes nothing.
use borrow.Author.Rules.{rules}
use mathlib.Core.Path.{refl}
use Rattle.program.proofs.Asks.{option-empty, option-first}
use Rattle.program.proofs.is_option.Goals as goal

pub returns-then-word-eq0 : goal.returns-then-word-eq0
returns-then-word-eq0 c = option-empty _ c.if-word-eq0.true

pub bounds-word-0 : goal.bounds-word-0
bounds-word-0 c = search rules

pub returns : goal.returns
returns c = option-first _ _ c.if-word-eq0.false refl
