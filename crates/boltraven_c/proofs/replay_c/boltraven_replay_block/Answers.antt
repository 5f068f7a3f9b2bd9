-- `boltraven_c::replay_c::boltraven_replay_block` meets its contract. Assumes nothing.
use Rattle.std.specs.Prelude.{Ok}
use mathlib.Core.Path.{sym, ap, ◌∙◌}
use Rattle.boltraven_c.specs.Replay.{replay_number, replay_place}
use Rattle.boltraven_c.proofs.replay_c.boltraven_replay_block.Goals as goal

pub returns-in-Ok-Agrees : goal.returns-in-Ok-Agrees
returns-in-Ok-Agrees c =
    let E = c.replay_block.ensures in
    let e = sym E.answer ∙ c.in-Ok-Agrees.is ∙ ap Ok c.in-Ok-Agrees.field-0-is in
    record { number = sym (ap replay_number e); owners = E.owners; derived = E.derived; place = sym (ap (replay_place _) e) }

pub returns-in-Ok-Differs : goal.returns-in-Ok-Differs
returns-in-Ok-Differs c =
    let E = c.replay_block.ensures in
    let e = sym E.answer ∙ c.in-Ok-Differs.is ∙ ap Ok c.in-Ok-Differs.field-0-is in
    record { number = sym (ap replay_number e); owners = E.owners; derived = E.derived; place = sym (ap (replay_place _) e) }

pub returns-in-Err : goal.returns-in-Err
returns-in-Err c =
    let E = c.replay_block.ensures in
    let e = sym E.answer ∙ c.in-Err.is in
    record {
      number = c.refusal_number.ensures ∙ sym (ap replay_number e);
      owners = E.owners;
      derived = E.derived;
      place = sym (ap (replay_place _) e);
    }
