-- `job::parts::atoms_of` meets its contract. Assumes nothing.
use borrow.Author.Rules.{rules}
use mathlib.Core.Path.{sym, ap, ◌∙◌}
use Rattle.paper.specs.Rows.{answer_refusal}
use Rattle.owners.specs.Entries.{placeless}
use Rattle.job.proofs.Passing.{atoms-some}
use Rattle.job.proofs.parts.atoms_of.Goals as goal

pub returns-in-Ok : goal.returns-in-Ok
returns-in-Ok c =
    let w = c.atomise-answer.ensures in
    let e = sym w.said ∙ c.in-Ok.is in
    record { answer = e; starts = w.starts; ends = w.ends; starts-room = search rules; ends-room = search rules }

pub returns-in-Err : goal.returns-in-Err
returns-in-Err c =
    let w = c.atomise-answer.ensures in
    let e = sym w.said ∙ c.in-Err.is in
    record { said = c.placeless.ensures ∙ ap placeless (sym (ap answer_refusal e)); some = λ z. atoms-some _ e (sym (ap answer_refusal e) ∙ z) }
