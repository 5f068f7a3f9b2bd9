-- `job::recorded::begin` meets its contract. Assumes nothing.
use borrow.Author.Rules.{rules}
use Rattle.job.proofs.Begins.{reads_ok, begun-unread, begun-unfit, begun-right}
use Rattle.job.proofs.recorded.begin.Goals as goal

pub read_file-w-requires : goal.read_file-w-requires
read_file-w-requires c = search rules

pub bounds-counts-6 : goal.bounds-counts-6
bounds-counts-6 c = search rules

pub both-right-requires : goal.both-right-requires
both-right-requires c = search rules

pub bounds-counts-1 : goal.bounds-counts-1
bounds-counts-1 c = search rules

pub bounds-counts-2 : goal.bounds-counts-2
bounds-counts-2 c = search rules

pub bounds-counts-3 : goal.bounds-counts-3
bounds-counts-3 c = search rules

pub bounds-counts-6-2 : goal.bounds-counts-6-2
bounds-counts-6-2 c = search rules

pub read_refusal-refusal-requires : goal.read_refusal-refusal-requires
read_refusal-refusal-requires c = search rules

pub prepare-requires : goal.prepare-requires
prepare-requires c =
    let w = c.read_file-w.ensures in
    reads_ok _ _ _ _ _ _ _ w.ok_value c.both-right.ensures w.counts_value.0 w.counts_value.1 c.read_refusal-refusal.ensures c.if-refusal-ne0.false

pub begun_of-requires : goal.begun_of-requires
begun_of-requires c = search rules

pub returns-in-Ok : goal.returns-in-Ok
returns-in-Ok c =
    let w = c.read_file-w.ensures in
    begun-right _ _ _ _ _ _ _ w.ok_value c.both-right.ensures w.counts_value.0 w.counts_value.1 c.read_refusal-refusal.ensures c.if-refusal-ne0.false
    _ (rw c.in-Ok.is at c.prepare.ensures) _ c.begun_of.ensures

pub not_begun-requires : goal.not_begun-requires
not_begun-requires c = search rules

pub returns-in-Err : goal.returns-in-Err
returns-in-Err c =
    let w = c.read_file-w.ensures in
    let p = rw c.in-Err.is at c.prepare.ensures in
    begun-unfit _ _ _ _ _ _ _ w.ok_value c.both-right.ensures w.counts_value.0 w.counts_value.1 c.read_refusal-refusal.ensures c.if-refusal-ne0.false _ _ p.0 p.1
    c.not_begun-in-Err.ensures

pub not_begun-requires-in-Err : goal.not_begun-requires-in-Err
not_begun-requires-in-Err c = search rules

pub returns-then-refusal-ne0 : goal.returns-then-refusal-ne0
returns-then-refusal-ne0 c =
    let w = c.read_file-w.ensures in
    begun-unread _ _ _ _ _ _ _ w.ok_value c.both-right.ensures w.counts_value.0 w.counts_value.1 c.read_refusal-refusal.ensures _ c.if-refusal-ne0.true c.not_begun.ensures
