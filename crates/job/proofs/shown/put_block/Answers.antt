-- `job::shown::put_block` meets its contract. Assumes nothing.
use borrow.Author.Rules.{rules}
use native.Mathlib.Omega.{arith}
use mir.Syntax.{w64}
use mir.Val.{Fits}
use Rattle.job.proofs.Shows.{Columns, block-fits, block-rooms, block_refused, block_written}
use Rattle.job.proofs.shown.put_block.Goals as goal

pub block_refusal-f-requires : goal.block_refusal-f-requires
block_refusal-f-requires c = search rules

pub see_targets-requires : goal.see_targets-requires
see_targets-requires c =
    let a = c.args in
    (block-rooms a.block a.people a.slots a.starts.now a.ends.now a.owners.now a.minutes.now a.targets.now a.out.now
    _ c.block_refusal-f.ensures c.if-f-ne0.false).targets-room

pub put_block_lines-requires : goal.put_block_lines-requires
put_block_lines-requires c =
    let a = c.args in
    let R = block-rooms a.block a.people a.slots a.starts.now a.ends.now a.owners.now a.minutes.now a.targets.now a.out.now
    _ c.block_refusal-f.ensures c.if-f-ne0.false in
    let b : Fits w64 a.block = search rules in
    let F : Columns a.people a.starts.now a.ends.now a.owners.now a.minutes.now a.targets.now = record {
      starts = λ i. omega (arith, c.shared_slice_known-1.given i);
      ends = λ i. omega (arith, c.shared_slice_known-2-1.given i);
      owners = λ i. omega (arith, c.shared_slice_known-3-1.given i);
      minutes = λ i. omega (arith, c.shared_slice_known-4-1.given i);
      targets = c.see_targets.ensures;
    } in record {
      slots_in_bounds = (R.starts-room, R.ends-room, R.owners-room);
      people_in_bounds = (R.minutes-room, R.targets-room);
      targets_in_bounds = omega (
        arith,
        R.out-room,
        block-fits a.block a.people a.slots a.starts.now a.ends.now a.owners.now a.minutes.now a.targets.now
            (omega (arith, b.fits)) R.people-few R.slots-few F,
      );
    }

pub shape_of-out : goal.shape_of-out
shape_of-out c = search rules

pub returns : goal.returns
returns c =
    let a = c.args in
    block_written a.block a.people a.slots a.starts.now a.ends.now a.owners.now a.minutes.now a.targets.now a.out.now
    _ c.block_refusal-f.ensures _ _ c.if-f-ne0.false c.put_block_lines.ensures

pub returns-then-f-ne0 : goal.returns-then-f-ne0
returns-then-f-ne0 c =
    let a = c.args in
    block_refused a.block a.people a.slots a.starts.now a.ends.now a.owners.now a.minutes.now a.targets.now a.out.now
    _ c.block_refusal-f.ensures c.if-f-ne0.true
