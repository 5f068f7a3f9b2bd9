-- `job::parts::targets_of` meets its contract. Assumes nothing.
use borrow.Author.Rules.{rules}
use mathlib.Core.Path.{ap, sym, ◌∙◌}
use Rattle.owners.specs.Entries.{placeless}
use Rattle.job.proofs.parts.targets_of.Goals as goal

pub returns-then-number-ne0 : goal.returns-then-number-ne0
returns-then-number-ne0 c =
    let n = c.compute_targets-number.ensures.0 in
    record { said = c.placeless.ensures ∙ ap placeless n; some = λ z. c.if-number-ne0.true (n ∙ z) }

pub returns : goal.returns
returns c =
    let e = c.compute_targets-number.ensures in
    record { number = sym e.0 ∙ c.if-number-ne0.false; targets = e.1; room = search rules }
