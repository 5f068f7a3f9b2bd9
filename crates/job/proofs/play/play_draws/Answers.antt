-- `job::play::play_draws` meets its contract. Assumes nothing.
use borrow.Author.Rules.{rules}
use mathlib.Core.Path.{ap, sym, ◌∙◌}
use Rattle.paper.specs.declared.Refusal.{Refusal}
use Rattle.owners.specs.Derived.{Derived}
use Rattle.job.proofs.play.play_draws.Goals as goal

pub returns-then-refusal-ne0 : goal.returns-then-refusal-ne0
returns-then-refusal-ne0 c = (c.play-refusal.ensures.refusal, c.if-refusal-ne0.true)

pub returns : goal.returns
returns c =
    let e = c.play-refusal.ensures in
    record {
      number = sym (ap (λ (f : Refusal). f.number) e.refusal) ∙ c.if-refusal-ne0.false;
      owners = e.owners;
      minutes = ap (λ (D : Derived). D.minutes) e.derived;
      totals = ap (λ (D : Derived). D.totals) e.derived;
      answers = e.answers;
      owners-room = search rules;
      minutes-room = search rules;
      totals-room = search rules;
      answers-room = search rules;
    }
