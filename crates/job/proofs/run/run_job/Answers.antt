-- `job::run::run_job` meets its contract. Assumes nothing.
use borrow.Author.Rules.{rules}
use borrow.Author.Tests.{leb-true}
use Rattle.std.specs.Prelude.{Err}
use mathlib.Core.Path.{◌≡◌, sym, ◌∙◌}
use Rattle.paper.proofs.Rows.{said}
use Rattle.job.proofs.Readings.{read-few, read_count, read_number, read-refusal, read_ok}
use Rattle.job.proofs.Results.{read-refused, prepare-refused, targets-fit, play-fits, job-listed}
use Rattle.job.proofs.run.run_job.Goals as goal

pub prepare-requires : goal.prepare-requires
prepare-requires c =
    let r = c.read_file-w.ensures in
    (read_ok _ _ _ _ _ r.ok_value r.counts_value.0 r.counts_value.1 (sym (said _ c.read_refusal-refusal.ensures) ∙ c.if-refusal-ne0.false)).0

pub play-requires : goal.play-requires
play-requires c =
    let r = c.read_file-w.ensures in
    let P = rw c.in_ok-p.was at c.prepare.ensures in
    let K = (read_ok _ _ _ _ _ r.ok_value r.counts_value.0 r.counts_value.1 (sym (said _ c.read_refusal-refusal.ensures) ∙ c.if-refusal-ne0.false)).0 in
    record { read_ok = K; begins_len = (P.begins-room, P.frozen-room) }

pub list-requires : goal.list-requires
list-requires c =
    let r = c.read_file-w.ensures in
    let P = rw c.in_ok-p.was at c.prepare.ensures in
    let Y = rw c.in_ok-y.was at c.play.ensures in
    let z = sym (said _ c.read_refusal-refusal.ensures) ∙ c.if-refusal-ne0.false in
    let K = read_ok _ _ _ _ _ r.ok_value r.counts_value.0 r.counts_value.1 z in record { slots_bound = (P.slots-few, P.people-few, (read-few K.0).4, leb-true _ _ K.1); starts_len = (P.starts-room, P.ends-room, P.targets-room); owners_len = (Y.owners-room, Y.minutes-room, Y.totals-room, Y.answers-room); by_index = targets-fit _ c.args.out.now _ (sym (read_number _ _ _ _ r.ok_value r.counts_value.0) ∙ z) P }

pub returns : goal.returns
returns c =
    let r = c.read_file-w.ensures in
    let z = sym (said _ c.read_refusal-refusal.ensures) ∙ c.if-refusal-ne0.false in
    let K = read_ok _ _ _ _ _ r.ok_value r.counts_value.0 r.counts_value.1 z in
    job-listed _ _ _ (sym (read_number _ _ _ _ r.ok_value r.counts_value.0) ∙ z) (rw c.in_ok-p.was at c.prepare.ensures) _ (rw c.in_ok-y.was at c.play.ensures) _ _ _
    (read_count K.0 6) c.list.ensures

pub returns-in_err-y : goal.returns-in_err-y
returns-in_err-y c =
    let r = c.read_file-w.ensures in
    let z = sym (said _ c.read_refusal-refusal.ensures) ∙ c.if-refusal-ne0.false in
    absurd (play-fits _ c.args.out.now _ (sym (read_number _ _ _ _ r.ok_value r.counts_value.0) ∙ z)
    (rw c.in_ok-p.was at c.prepare.ensures) _ (rw c.in_err-y.was at c.play.ensures))

pub returns-in_err-p : goal.returns-in_err-p
returns-in_err-p c =
    let r = c.read_file-w.ensures in
    let z = sym (said _ c.read_refusal-refusal.ensures) ∙ c.if-refusal-ne0.false in
    let P = rw c.in_err-p.was at c.prepare.ensures in
    let q : c.from_residual.result ≡ Err c.in_err-p.field-0.0 = search rules in
    rw q (prepare-refused _ _ _ (sym (read_number _ _ _ _ r.ok_value r.counts_value.0) ∙ z) P.0 P.1)

pub returns-then-refusal-ne0 : goal.returns-then-refusal-ne0
returns-then-refusal-ne0 c =
    let r = c.read_file-w.ensures in
    read-refused _ _ _ (c.read_refusal-refusal.ensures ∙ read-refusal _ _ _ _ r.ok_value r.counts_value.0) c.if-refusal-ne0.true
