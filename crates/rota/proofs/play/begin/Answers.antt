-- `rota::play::begin` meets its contract. Assumes nothing.
use mathlib.Core.Path.{◌≡◌, sym, ap, ◌∙◌}
use mathlib.Core.Bool.{Bool, cond}
use Prim.Native.Nat.{ℕ}
use lib.ListN.{length, length-replicate}
use native.Mathlib.Omega.{arith}
use borrow.Author.Rules.{rules}
use borrow.Author.Tests.{eq-eqb, ne_eqb}
use Rattle.paper.specs.Rows.{unless}
use Rattle.paper.proofs.Rows.{said}
use Rattle.owners.specs.Derived.{plan, derived}
use Rattle.rota.proofs.Entered.{unit-room, play-asks, asks-few, asks-fits}
use Rattle.rota.proofs.play.begin.Goals as goal

pub frozen_of-flags-requires : goal.frozen_of-flags-requires
frozen_of-flags-requires c =
    let a = c.args in
    let A = play-asks (plan a.people a.slots a.starts.now a.ends.now) a.avail.now a.units a.begins.now
    a.frozen.now a.count a.enough a.owners.now (derived a.sets.now a.minutes.now a.totals.now) a.answers.now
    (sym (said _ c.play_refusal-refusal.ensures) ∙ c.if-refusal-eq0.true) in
    let G = A.right in
    record { slots_bound = (G.on.sound.slots-few, asks-few _ _ _ _ _ _ _ _ _ _ A, G.flags); unit_room = unit-room _ _ _ G.units-ok }

pub returns-then-refusal-eq0 : goal.returns-then-refusal-eq0
unfolding unless
returns-then-refusal-eq0 c =
    let marks : length c.frozen_of-flags.result ≡ 1024 = search rules in
    let a = c.args in
    let no = c.play_refusal-refusal.ensures in
    let e = c.if-refusal-eq0.true in
    let A = play-asks (plan a.people a.slots a.starts.now a.ends.now) a.avail.now a.units a.begins.now
    a.frozen.now a.count a.enough a.owners.now (derived a.sets.now a.minutes.now a.totals.now) a.answers.now
    (sym (said _ no) ∙ e) in
    record {
      refusal = no;
      todo = sym (ap (λ (t : Bool). cond t a.count 0) (eq-eqb _ 0 e));
      fits = λ _. asks-fits _ _ _ _ _ _ _ _ _ _ A _ c.unit_domains.ensures.masks_after;
      flags = λ _. c.frozen_of-flags.ensures;
      room = (c.unit_domains.auto.masks ∙ length-replicate {A = ℕ} 1024 0, marks);
      words = λ j. omega (arith, c.shared_slice_known-7-1.given j);
    }

pub returns : goal.returns
unfolding unless
returns c =
    let a = c.args in
    let e = c.if-refusal-eq0.false in
    record {
      refusal = c.play_refusal-refusal.ensures;
      todo = sym (ap (λ (t : Bool). cond t a.count 0) (ne_eqb _ 0 e));
      fits = λ z. absurd (e z);
      flags = λ z. absurd (e z);
      room = (length-replicate {A = ℕ} 1024 0, length-replicate {A = ℕ} 1024 0);
      words = λ j. omega (arith, c.shared_slice_known-7-1.given j);
    }
