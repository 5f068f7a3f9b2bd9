-- `replay::stage::show` meets its contract. Assumes nothing.
use borrow.Author.Rules.{rules}
use Rattle.replay.proofs.Stages.{show-wrote, show-not}
use Rattle.replay.proofs.stage.show.Goals as goal

pub put_block-answer-requires : goal.put_block-answer-requires
put_block-answer-requires c = search rules

pub enum_known-answer : goal.enum_known-answer
enum_known-answer c = search rules

pub enum_told-1 : goal.enum_told-1
enum_told-1 c = search rules

pub shape_of-out-in-Ok : goal.shape_of-out-in-Ok
shape_of-out-in-Ok c = search rules

pub returns-in-Ok : goal.returns-in-Ok
returns-in-Ok c =
    let a = c.args in
    show-wrote a.block a.people a.slots a.starts.now a.ends.now a.owners.now a.minutes.now a.targets.now a.out.now
    c.requires _ _ c.put_block-answer.ensures _ c.in-Ok.is

pub shape_of-out-in-Err : goal.shape_of-out-in-Err
shape_of-out-in-Err c = search rules

pub returns-in-Err : goal.returns-in-Err
returns-in-Err c =
    let a = c.args in
    absurd (show-not a.block a.people a.slots a.starts.now a.ends.now a.owners.now a.minutes.now a.targets.now a.out.now
    c.requires _ _ c.put_block-answer.ensures _ c.in-Err.is)
