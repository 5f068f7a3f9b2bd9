-- `boltraven_c::draws_c::boltraven_play_draws` meets its contract. Assumes nothing.
use Rattle.std.proofs.Common.{ap, ◌∙◌}
use Rattle.boltraven_c.specs.Numbers.{refusal_number}
use Rattle.boltraven_c.proofs.draws_c.boltraven_play_draws.Goals as goal

pub returns : goal.returns
returns c =
    let e = c.play.ensures in
    record {
      refusal = c.refusal_number.ensures ∙ ap refusal_number e.refusal;
      owners = e.owners;
      derived = e.derived;
      answers = e.answers;
    }
