-- `program::asked` meets its contract. Assumes nothing.
use mathlib.Core.Path.{sym, ◌∙◌}
use mathlib.Core.Bool.{true, false}
use Rattle.program.proofs.Asks.{asks-help, asks-version, asks_rest}
use Rattle.program.proofs.asked.Goals as goal

pub returns-then-same_raws : goal.returns-then-same_raws
returns-then-same_raws c = asks-help _ (sym c.same_raws.ensures ∙ c.if-same_raws.true)

pub returns-then-same_raws-2 : goal.returns-then-same_raws-2
returns-then-same_raws-2 c =
    asks-version _ (sym c.same_raws.ensures ∙ c.if-same_raws.false)
    (sym c.same_raws-2.ensures ∙ c.if-same_raws-2.true)

pub returns-then-is_option : goal.returns-then-is_option
returns-then-is_option c =
    asks_rest _ (sym c.same_raws.ensures ∙ c.if-same_raws.false)
    true (sym c.same_raws-2.ensures ∙ c.if-same_raws-2.false) (sym c.is_option.ensures ∙ c.if-is_option.true)

pub returns : goal.returns
returns c =
    asks_rest _ (sym c.same_raws.ensures ∙ c.if-same_raws.false)
    false (sym c.same_raws-2.ensures ∙ c.if-same_raws-2.false) (sym c.is_option.ensures ∙ c.if-is_option.false)
