-- `rota::replay::replay_block` meets its contract. Assumes nothing.
use mathlib.Core.Path.{sym, ◌∙◌}
use Prim.Native.Nat.{ℕ}
use lib.ListN.{length-replicate}
use Rattle.owners.specs.Derived.{plan, derived}
use Rattle.rota.proofs.Entered.{asks-step, columns-room}
use Rattle.rota.proofs.Beginning.{begun-asks, begun-board, begun-even, begun-room}
use Rattle.rota.proofs.Replays.{begun-columns, outcome-thirteen, block_refused, block-differs, block-agrees}
use Rattle.rota.proofs.replay.replay_block.Goals as goal

pub run_on-place-requires : goal.run_on-place-requires
run_on-place-requires c =
    let a = c.args in
    let b = c.begin-b in
    let many = c.columns_enough.ensures in
    let w = begun-columns (plan a.people a.slots a.starts.now a.ends.now) a.avail.now a.units a.begins.now
    a.frozen.now a.count _ a.owners.now (derived a.sets.now a.minutes.now a.totals.now) _ a.recorded.now
    (length-replicate {A = ℕ} 1024 0) a.draws.now a.firsts.now a.seconds.now many b.result _ b.ensures
    c.both.ensures in
    let z = c.if-refusal-eq0.true in
    let A = begun-asks _ _ _ _ _ _ _ _ _ _ _ w z in
    record {
      plan_sound = A.right.on.sound;
      in_step = asks-step _ _ _ _ _ _ _ _ _ _ A;
      board_sound = begun-board _ _ _ _ _ _ _ _ _ _ _ w z;
      even = begun-even _ _ _ _ _ _ _ _ _ _ _ w z;
      draw_room = columns-room _ _ _ _ _ A.right.draws A.right.answers;
      units_in_bounds = begun-room _ _ _ _ _ _ _ _ _ _ _ w z;
    }

pub returns-then-place-count : goal.returns-then-place-count
returns-then-place-count c =
    let a = c.args in
    let b = c.begin-b in
    let many = c.columns_enough.ensures in
    let w = begun-columns (plan a.people a.slots a.starts.now a.ends.now) a.avail.now a.units a.begins.now
    a.frozen.now a.count _ a.owners.now (derived a.sets.now a.minutes.now a.totals.now) _ a.recorded.now
    (length-replicate {A = ℕ} 1024 0) a.draws.now a.firsts.now a.seconds.now many b.result _ b.ensures
    c.both.ensures in
    let fine = c.answers_ok.ensures in
    let k = sym fine ∙ c.if-answers_ok.true in
    let z = c.if-refusal-eq0.true in
    block-differs _ _ _ _ _ _ _ _ _ _ _ k w _ z _ _ _ c.run_on-place.ensures c.if-place-count.true

pub returns-then-refusal-eq0 : goal.returns-then-refusal-eq0
returns-then-refusal-eq0 c =
    let a = c.args in
    let b = c.begin-b in
    let many = c.columns_enough.ensures in
    let w = begun-columns (plan a.people a.slots a.starts.now a.ends.now) a.avail.now a.units a.begins.now
    a.frozen.now a.count _ a.owners.now (derived a.sets.now a.minutes.now a.totals.now) _ a.recorded.now
    (length-replicate {A = ℕ} 1024 0) a.draws.now a.firsts.now a.seconds.now many b.result _ b.ensures
    c.both.ensures in
    let fine = c.answers_ok.ensures in
    let k = sym fine ∙ c.if-answers_ok.true in
    let z = c.if-refusal-eq0.true in
    block-agrees _ _ _ _ _ _ _ _ _ _ _ k w _ z _ _ _ c.run_on-place.ensures c.if-place-count.false

pub returns-then-answers_ok : goal.returns-then-answers_ok
returns-then-answers_ok c =
    let a = c.args in
    let b = c.begin-b in
    let many = c.columns_enough.ensures in
    let w = begun-columns (plan a.people a.slots a.starts.now a.ends.now) a.avail.now a.units a.begins.now
    a.frozen.now a.count _ a.owners.now (derived a.sets.now a.minutes.now a.totals.now) _ a.recorded.now
    (length-replicate {A = ℕ} 1024 0) a.draws.now a.firsts.now a.seconds.now many b.result _ b.ensures
    c.both.ensures in
    let fine = c.answers_ok.ensures in
    let k = sym fine ∙ c.if-answers_ok.true in
    block_refused _ _ _ _ _ _ _ _ _ _ _ k w _ c.if-refusal-eq0.false

pub returns : goal.returns
returns c =
    outcome-thirteen _ _ _ _ _ _ _ _ _ _ _ (sym c.answers_ok.ensures ∙ c.if-answers_ok.false)
