-- `job::play::play` meets its contract. Assumes nothing.
use mathlib.Core.Path.{sym, ap, ◌∙◌, subst}
use native.Mathlib.Omega.{arith}
use lib.Dec.{lit<, lit≤}
use lib.ListN.{length}
use Rattle.owners.specs.Derived.{derived}
use Rattle.job.specs.Stages.{Draws, play_of}
use Rattle.job.specs.Inside.{PlayedAs, ready_by}
use Rattle.job.proofs.Files.{length-column}
use Rattle.job.proofs.Readings.{read-block, read-room, read-few, read-column, draws-is}
use Rattle.job.proofs.play.play.Goals as goal

pub overflow_add-at : goal.overflow_add-at
overflow_add-at c = omega (arith, read-block c.requires.read_ok 6 (lit< tt), c.well_formed.0)

pub column16-draws-requires : goal.column16-draws-requires
column16-draws-requires c =
    ((read-few c.requires.read_ok).4, read-room c.requires.read_ok 6 0 2 (lit< tt) (lit≤ tt))

pub overflow_add-at-2 : goal.overflow_add-at-2
overflow_add-at-2 c = omega (arith, read-block c.requires.read_ok 6 (lit< tt), c.well_formed.0)

pub column16-firsts-requires : goal.column16-firsts-requires
column16-firsts-requires c =
    let K = c.requires.read_ok in
    ((read-few K).4, read-room K 6 2 2 (lit< tt) (lit≤ tt))

pub overflow_add-at-3 : goal.overflow_add-at-3
overflow_add-at-3 c = omega (arith, read-block c.requires.read_ok 6 (lit< tt), c.well_formed.0)

pub column16-seconds-requires : goal.column16-seconds-requires
column16-seconds-requires c =
    let K = c.requires.read_ok in
    ((read-few K).4, read-room K 6 4 2 (lit< tt) (lit≤ tt))

pub slice_bounds-play_draws-end-4 : goal.slice_bounds-play_draws-end-4
slice_bounds-play_draws-end-4 c =
    sym c.requires.begins_len.0

pub slice_bounds-play_draws-end-5 : goal.slice_bounds-play_draws-end-5
slice_bounds-play_draws-end-5 c =
    sym c.requires.begins_len.1

pub slice_bounds-play_draws-end-6 : goal.slice_bounds-play_draws-end-6
slice_bounds-play_draws-end-6 c =
    sym (ap length c.column16-draws.ensures ∙ length-column 2 _ _ _ _)

pub slice_bounds-play_draws-end-7 : goal.slice_bounds-play_draws-end-7
slice_bounds-play_draws-end-7 c =
    sym (ap length c.column16-firsts.ensures ∙ length-column 2 _ _ _ _)

pub slice_bounds-play_draws-end-8 : goal.slice_bounds-play_draws-end-8
slice_bounds-play_draws-end-8 c =
    sym (ap length c.column16-seconds.ensures ∙ length-column 2 _ _ _ _)

pub returns : goal.returns
unfolding play_of
returns c =
    let K = c.requires.read_ok in
    let p = c.args.p in
    let draws = c.column16-draws.ensures in
    let firsts = c.column16-firsts.ensures in
    let seconds = c.column16-seconds.ensures in
    subst (λ (d : Draws). PlayedAs (play_of (ready_by p) d p.owners (derived p.sets p.minutes p.totals)) c.play_draws.result)
    (draws-is K (draws ∙ read-column K 6 0 2) (firsts ∙ read-column K 6 2 2) (seconds ∙ read-column K 6 4 2)) c.play_draws.ensures
