-- `job::play::start_rota` meets its contract. Assumes nothing.
use mathlib.Core.Path.{ap, sym, ◌∙◌}
use Rattle.paper.specs.declared.Refusal.{Refusal}
use Rattle.owners.specs.Entries.{placeless}
use Rattle.job.proofs.play.start_rota.Goals as goal

pub returns-then-number-ne0 : goal.returns-then-number-ne0
returns-then-number-ne0 c =
    let n = ap (λ (f : Refusal). f.number) c.from_slots-number.ensures.refusal in
    record { said = c.placeless.ensures ∙ ap placeless n; some = λ z. c.if-number-ne0.true (n ∙ z) }

pub returns : goal.returns
returns c =
    let e = c.from_slots-number.ensures in
    record { number = sym (ap (λ (f : Refusal). f.number) e.refusal) ∙ c.if-number-ne0.false; derived = e.derived }
