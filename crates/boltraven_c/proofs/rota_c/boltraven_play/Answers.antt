-- `boltraven_c::rota_c::boltraven_play` meets its contract. Assumes nothing.
use mathlib.Core.Path.{ap, ◌∙◌}
use Rattle.boltraven_c.specs.Numbers.{refusal_number}
use Rattle.boltraven_c.proofs.rota_c.boltraven_play.Goals as goal

pub returns : goal.returns
returns c =
    let e = c.play.ensures in
    record {
      refusal = c.refusal_number.ensures ∙ ap refusal_number e.refusal;
      owners = e.owners;
      derived = e.derived;
      answers = e.answers;
    }
