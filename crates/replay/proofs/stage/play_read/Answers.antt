-- `replay::stage::play_read` meets its contract. Assumes nothing.
use Rattle.std.specs.Prelude.{Ok}
use mathlib.Core.Path.{ap, ◌∙◌}
use Rattle.owners.specs.Derived.{derived}
use Rattle.job.specs.Stages.{ready}
use Rattle.replay.proofs.Stages.{stage-short, stage-room, stage-agreed, stage-differed, stage-refused}
use Rattle.replay.proofs.stage.play_read.Goals as goal

pub show-length-requires : goal.show-length-requires
show-length-requires c =
    let a = c.args in
    let R = ready a.people a.slots a.starts.now a.ends.now a.avail.now a.units a.begins.now a.frozen.now
    a.targets.now in
    let D = derived a.sets.now a.minutes.now a.totals.now in
    stage-room a.block a.next a.count a.draws.now a.firsts.now a.seconds.now a.recorded.now R a.owners.now D
    a.out.now _ c.block_refusal-short.ensures c.if-short-eq0.true
    _ _ _ c.replay_block.ensures

pub show-length-requires-in-Ok-Differs : goal.show-length-requires-in-Ok-Differs
show-length-requires-in-Ok-Differs c =
    let a = c.args in
    let R = ready a.people a.slots a.starts.now a.ends.now a.avail.now a.units a.begins.now a.frozen.now
    a.targets.now in
    let D = derived a.sets.now a.minutes.now a.totals.now in
    stage-room a.block a.next a.count a.draws.now a.firsts.now a.seconds.now a.recorded.now R a.owners.now D
    a.out.now _ c.block_refusal-short.ensures c.if-short-eq0.true
    _ _ _ c.replay_block.ensures

pub returns-in-Ok-Agrees : goal.returns-in-Ok-Agrees
returns-in-Ok-Agrees c =
    let a = c.args in
    let R = ready a.people a.slots a.starts.now a.ends.now a.avail.now a.units a.begins.now a.frozen.now
    a.targets.now in
    let D = derived a.sets.now a.minutes.now a.totals.now in
    stage-agreed a.block a.next a.count a.draws.now a.firsts.now a.seconds.now a.recorded.now R a.owners.now D
    a.out.now _ c.block_refusal-short.ensures c.if-short-eq0.true
    _ _ _ c.replay_block.ensures (c.in-Ok-Agrees.is ∙ ap Ok c.in-Ok-Agrees.field-0-is) _ _ c.show-length.ensures

pub returns-in-Ok-Differs : goal.returns-in-Ok-Differs
returns-in-Ok-Differs c =
    let a = c.args in
    let R = ready a.people a.slots a.starts.now a.ends.now a.avail.now a.units a.begins.now a.frozen.now
    a.targets.now in
    let D = derived a.sets.now a.minutes.now a.totals.now in
    stage-differed a.block a.next a.count a.draws.now a.firsts.now a.seconds.now a.recorded.now R a.owners.now D
    a.out.now _ c.block_refusal-short.ensures c.if-short-eq0.true _ _ _ c.replay_block.ensures
    _ (c.in-Ok-Differs.is ∙ ap Ok c.in-Ok-Differs.field-0-is) _ _ c.show-length-in-Ok-Differs.ensures

pub returns-in-Err : goal.returns-in-Err
returns-in-Err c =
    let a = c.args in
    let R = ready a.people a.slots a.starts.now a.ends.now a.avail.now a.units a.begins.now a.frozen.now
    a.targets.now in
    let D = derived a.sets.now a.minutes.now a.totals.now in
    stage-refused a.block a.next a.count a.draws.now a.firsts.now a.seconds.now a.recorded.now R a.owners.now D
    a.out.now _ c.block_refusal-short.ensures c.if-short-eq0.true _ _ _ c.replay_block.ensures _ c.in-Err.is

pub returns-else-short-eq0 : goal.returns-else-short-eq0
returns-else-short-eq0 c =
    let a = c.args in
    let R = ready a.people a.slots a.starts.now a.ends.now a.avail.now a.units a.begins.now a.frozen.now
    a.targets.now in
    let D = derived a.sets.now a.minutes.now a.totals.now in
    stage-short a.block a.next a.count a.draws.now a.firsts.now a.seconds.now a.recorded.now R a.owners.now D
    a.out.now _ c.block_refusal-short.ensures c.if-short-eq0.false
