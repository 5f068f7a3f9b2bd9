-- `slotset::scan::put_slots` meets its contract. The invariant: the slots from `from` up to `at` are written. Assumes nothing.
use borrow.Author.Rules.{rules}
use mathlib.Core.Path.{◌≡◌, refl, sym, ap, ◌∙◌}
use Prim.Native.Nat.{ℕ, ◌+◌, ◌-◌, ◌/◌, ◌^◌, ◌≤◌, ◌<◌}
use native.Mathlib.Omega.{arith}
use lib.ListN.{get_or, length-set}
use Rattle.slotset.specs.Slots.{value_of, put_slots}
use Rattle.slotset.proofs.Puts.{value-lt, puts_none, turn-puts}
use mathlib.Core.Logic.{⊎_elim}
use Rattle.paper.proofs.Logic.{lt-or-ge}
use Rattle.slotset.proofs.scan.put_slots.Goals as goal

pub loop-at-init : goal.loop-at-init
loop-at-init c =
    let a = c.args in
    let z : a.from - a.from ≡ 0 = omega arith in (
      sym (ap (λ (n : ℕ). put_slots (λ _. value_of a.want) a.base a.from n a.words.now) z ∙ puts_none _ _ _ _),
      search rules,
      search rules,
      λ h. refl,
      refl,
    )

pub bounds-words-base : goal.bounds-words-base
bounds-words-base c =
    let l = c in
    omega (arith, l.requires.1 (omega arith), l.loop-at.invariant.4)

pub bounds-words-base-in-loop-at : goal.bounds-words-base-in-loop-at
bounds-words-base-in-loop-at c =
    let l = c in
    omega (arith, l.requires.1 (omega arith), l.loop-at.invariant.4)

pub loop-at-preserved : goal.loop-at-preserved
loop-at-preserved c =
    let l = c in
    let a = l.args in
    let at = l.loop-at.at in
    let e = c.least-e.ensures in
    let r : c.merge.result < 2 ^ 64 = search rules in
    let ends = l.requires.1 (omega arith) in
    let w : get_or l.loop-at.words (a.base + at / 64) 0 < 2 ^ 64 = omega (arith, c.slice_known-in-loop-at-1.given (a.base + at / 64)) in (
      turn-puts (λ _. value_of a.want) a.base a.from (at / 64) at _ _ _ a.words.now l.loop-at.words l.loop-at.invariant.1 refl
          (omega (arith, e)) (omega (arith, e)) (omega (arith, ends, l.loop-at.invariant.4)) (λ k. value-lt a.want) w r
          (λ k x y. sym (l.every-x.ensures k (omega (arith, e)))) c.merge.ensures l.loop-at.invariant.0,
      omega (arith, e),
      λ h. omega (arith, e),
      λ h. omega (arith, e),
      simp length-set l.loop-at.invariant.4,
    )

pub shape_of-words : goal.shape_of-words
shape_of-words c = c.loop-at.invariant.4

pub returns : goal.returns
returns c =
    let a = c.args in
    let l = c.loop-at in
    let same : l.at - a.from ≡ a.to - a.from =
    ⊎_elim (λ (h : a.from < a.to). omega (arith, l.invariant.2 h)) (λ (h : a.to ≤ a.from). omega (arith, l.invariant.3 h))
    (lt-or-ge a.from a.to) in
    l.invariant.0 ∙ ap (λ (n : ℕ). put_slots (λ _. value_of a.want) a.base a.from n a.words.now) same
