-- `rota::play::play` meets its contract. Assumes nothing.
use mathlib.Core.Path.{◌≡◌, sym, ◌∙◌}
use Prim.Native.Nat.{ℕ}
use native.Mathlib.Omega.{arith}
use borrow.Author.Rules.{rules}
use lib.ListN.{length, length-replicate}
use Rattle.paper.proofs.Rows.{said}
use Rattle.units.proofs.Units.{units-room}
use Rattle.owners.specs.Derived.{plan, derived}
use Rattle.rota.specs.Entries.{columns_enough}
use Rattle.rota.proofs.Entered.{unit-room, columns-room, enough-number, play-asks, asks-few, asks-fits, asks-step}
use Rattle.rota.proofs.Entered.{ready-sound, ready-even, played-yes, played-refused}
use Rattle.rota.proofs.play.play.Goals as goal

pub frozen_of-flags-requires : goal.frozen_of-flags-requires
frozen_of-flags-requires c =
    let a = c.args in
    let no = enough-number (plan a.people a.slots a.starts.now a.ends.now) a.avail.now a.units a.begins.now a.frozen.now a.count (columns_enough a.count a.draws.now a.firsts.now a.seconds.now) a.owners.now (derived
    a.sets.now a.minutes.now a.totals.now) a.answers.now _ _ c.play_refusal-refusal.ensures
    c.columns_enough.ensures in
    let A = play-asks (plan a.people a.slots a.starts.now a.ends.now) a.avail.now a.units a.begins.now a.frozen.now a.count (columns_enough a.count a.draws.now a.firsts.now a.seconds.now) a.owners.now (derived
    a.sets.now a.minutes.now a.totals.now) a.answers.now (sym (said _ no) ∙ c.if-refusal-eq0.true) in
    let G = A.right in
    record { slots_bound = (G.on.sound.slots-few, asks-few _ _ _ _ _ _ _ _ _ _ A, G.flags); unit_room = unit-room _ _ _ G.units-ok }

pub run-requires : goal.run-requires
run-requires c =
    let a = c.args in
    let no = enough-number (plan a.people a.slots a.starts.now a.ends.now) a.avail.now a.units a.begins.now a.frozen.now a.count (columns_enough a.count a.draws.now a.firsts.now a.seconds.now) a.owners.now (derived
    a.sets.now a.minutes.now a.totals.now) a.answers.now _ _ c.play_refusal-refusal.ensures
    c.columns_enough.ensures in
    let A = play-asks (plan a.people a.slots a.starts.now a.ends.now) a.avail.now a.units a.begins.now a.frozen.now a.count (columns_enough a.count a.draws.now a.firsts.now a.seconds.now) a.owners.now (derived
    a.sets.now a.minutes.now a.totals.now) a.answers.now (sym (said _ no) ∙ c.if-refusal-eq0.true) in
    let G = A.right in
    let few = asks-few _ _ _ _ _ _ _ _ _ _ A in
    let F = asks-fits _ _ _ _ _ _ _ _ _ _ A _ c.unit_domains.ensures.masks_after in
    let M = c.frozen_of-flags in
    let masks = c.unit_domains.auto.masks ∙ length-replicate {A = ℕ} 1024 0 in
    let marks : length M.result ≡ 1024 = search (rules, M.type_inv) in
    record {
      plan_sound = G.on.sound;
      in_step = asks-step _ _ _ _ _ _ _ _ _ _ A;
      board_sound = ready-sound _ _ _ _ _ _ _ _ _ _ A _ _ F M.ensures;
      even = ready-even _ _ _ _ _ _ _ _ _ _ A _ _ F M.ensures;
      draw_room = columns-room _ _ _ _ _ G.draws G.answers;
      units_in_bounds = (units-room _ _ _ G.units-ok, omega (arith, few, masks), omega (arith, few, marks));
    }

pub returns-then-refusal-eq0 : goal.returns-then-refusal-eq0
returns-then-refusal-eq0 c =
    let a = c.args in
    let no = enough-number (plan a.people a.slots a.starts.now a.ends.now) a.avail.now a.units a.begins.now a.frozen.now a.count (columns_enough a.count a.draws.now a.firsts.now a.seconds.now) a.owners.now (derived
    a.sets.now a.minutes.now a.totals.now) a.answers.now _ _ c.play_refusal-refusal.ensures c.columns_enough.ensures in
    let A = play-asks (plan a.people a.slots a.starts.now a.ends.now) a.avail.now a.units a.begins.now a.frozen.now a.count (columns_enough a.count a.draws.now a.firsts.now a.seconds.now) a.owners.now (derived
    a.sets.now a.minutes.now a.totals.now) a.answers.now (sym (said _ no) ∙ c.if-refusal-eq0.true) in
    let F = asks-fits _ _ _ _ _ _ _ _ _ _ A _ c.unit_domains.ensures.masks_after in
    played-yes _ _ _ _ _ _ _ _ _ _ A _ _ F c.frozen_of-flags.ensures _ _ no c.if-refusal-eq0.true _ _ _ c.run.ensures

pub returns : goal.returns
returns c =
    let a = c.args in
    let no = enough-number (plan a.people a.slots a.starts.now a.ends.now) a.avail.now a.units a.begins.now a.frozen.now a.count (columns_enough a.count a.draws.now a.firsts.now a.seconds.now) a.owners.now (derived
    a.sets.now a.minutes.now a.totals.now) a.answers.now _ _ c.play_refusal-refusal.ensures
    c.columns_enough.ensures in
    played-refused _ _ _ _ _ _ _ _ _ _ _ _ no c.if-refusal-eq0.false
