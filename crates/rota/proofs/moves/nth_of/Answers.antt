-- `rota::moves::nth_of` meets its contract. Assumes nothing.
use mathlib.Core.Path.{sym, ap, ◌∙◌}
use Prim.Native.Nat.{ℕ, ◌+◌, ◌≤◌}
use native.Mathlib.Omega.{arith}
use lib.ListN.{length}
use Rattle.paper.proofs.Count.{among-out}
use Rattle.rota.proofs.Judged.{picked-start, picked-found, picked_more, picked-nobody, picked-beyond}
use Rattle.rota.proofs.moves.nth_of.Goals as goal
use Rattle.rota.proofs.moves.nth_of.Goals.{then-is_other+else-seen-nth, else-is_other}

pub loop-p-init : goal.loop-p-init
loop-p-init c =
    let r = c.all_first-from.ensures in
    let low = c.min.ensures in
    (picked-start _ _ _ (omega (arith, r.1, low)) r.2, omega (arith, r.1, low))

pub is_other-requires : goal.is_other-requires
is_other-requires c = omega (arith, c.loop-p-test.true, c.requires)

pub returns-then-seen-nth : goal.returns-then-seen-nth
returns-then-seen-nth c =
    picked-found _ _ _ _ _ c.loop-p-test.true (sym c.is_other.ensures ∙ c.if-is_other.true) c.loop-p.invariant.0 c.if-seen-nth.true

pub loop-p-preserved : goal.loop-p-preserved
loop-p-preserved c =
    let so = c.loop-p.invariant in
    elim c.if-is_other.branch [
      | then-is_other+else-seen-nth w ↦
          rw w.seen-is (
            ap (λ (n : ℕ). n + 1) so.0 ∙ picked_more _ _ (sym c.is_other.ensures ∙ w.if-is_other.true),
            omega arith,
          )
      | else-is_other w ↦
          rw w.seen-is (so.0 ∙ sym (ap length (among-out _ _ (sym c.is_other.ensures ∙ w.if-is_other.false))), so.1)
    ]

pub returns-then-seen-eq0 : goal.returns-then-seen-eq0
returns-then-seen-eq0 c =
    let so = c.loop-p.invariant in
    let within : c.loop-p.p ≤ c.args.people = omega (arith, c.all_first-from.ensures.0) in
    picked-nobody _ _ _ _ _ within c.loop-p-test.false so.0 so.1 c.if-seen-eq0.true

pub returns : goal.returns
returns c =
    let so = c.loop-p.invariant in
    let within : c.loop-p.p ≤ c.args.people = omega (arith, c.all_first-from.ensures.0) in
    picked-beyond _ _ _ _ _ within c.loop-p-test.false so.0 so.1 c.if-seen-eq0.false
