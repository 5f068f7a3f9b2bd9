-- `replay::stage::play_block` meets its contract. Assumes nothing.
use Rattle.std.specs.Prelude.{Ok}
use mathlib.Core.Path.{ap, ◌∙◌}
use Rattle.owners.specs.Derived.{derived}
use Rattle.job.specs.Stages.{ready}
use Rattle.replay.proofs.Stages.{staged-block, staged-end, staged-faulty}
use Rattle.replay.proofs.stage.play_block.Goals as goal

pub returns-in-Ok-Block : goal.returns-in-Ok-Block
returns-in-Ok-Block c =
    let a = c.args in
    let R = ready a.people a.slots a.starts.now a.ends.now a.avail.now a.units a.begins.now a.frozen.now
    a.targets.now in
    let D = derived a.sets.now a.minutes.now a.totals.now in
    staged-block a.t.now a.block R a.owners.now D a.out.now _ _ _ _ _ c.read_block.ensures
    _ _ (c.in-Ok-Block.is ∙ ap Ok c.in-Ok-Block.field-0-is) _ _ _ _ c.play_read.ensures

pub returns-in-Ok-End : goal.returns-in-Ok-End
returns-in-Ok-End c =
    let a = c.args in
    let R = ready a.people a.slots a.starts.now a.ends.now a.avail.now a.units a.begins.now a.frozen.now
    a.targets.now in
    let D = derived a.sets.now a.minutes.now a.totals.now in
    staged-end a.t.now a.block R a.owners.now D a.out.now _ _ _ _ _ c.read_block.ensures
    (c.in-Ok-End.is ∙ ap Ok c.in-Ok-End.field-0-is)

pub returns-in-Err : goal.returns-in-Err
returns-in-Err c =
    let a = c.args in
    let R = ready a.people a.slots a.starts.now a.ends.now a.avail.now a.units a.begins.now a.frozen.now
    a.targets.now in
    let D = derived a.sets.now a.minutes.now a.totals.now in
    staged-faulty a.t.now a.block R a.owners.now D a.out.now _ _ _ _ _ c.read_block.ensures
    _ c.in-Err.is
