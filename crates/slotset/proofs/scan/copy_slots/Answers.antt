-- `slotset::scan::copy_slots` meets its contract. The invariant: the slots below `at` are copied. Assumes nothing.
use borrow.Author.Rules.{rules}
use mathlib.Core.Path.{◌≡◌, refl, sym, ap, ap₂, ◌∙◌}
use Prim.Native.Nat.{ℕ, ◌+◌, ◌-◌, ◌*◌, ◌/◌, ◌%◌, ◌^◌, ◌<◌}
use native.Mathlib.Omega.{arith}
use lib.ListN.{get_or, length-set}
use Rattle.paper.specs.Bits.{bit_of}
use Rattle.slotset.specs.Slots.{slot, put_slots}
use Rattle.slotset.proofs.Puts.{slot_lt, puts_none, turn-puts}
use Rattle.slotset.proofs.scan.copy_slots.Goals as goal

pub loop-at-init : goal.loop-at-init
loop-at-init c = (sym (puts_none _ _ _ _), search rules, refl)

pub bounds-words-base : goal.bounds-words-base
bounds-words-base c = let l = c in omega (arith, l.requires, l.loop-at.invariant.2)

pub bounds-src-j : goal.bounds-src-j
bounds-src-j c = let l = c in omega (arith, l.requires)

pub bounds-words-base-in-loop-at : goal.bounds-words-base-in-loop-at
bounds-words-base-in-loop-at c = let l = c in omega (arith, l.requires, l.loop-at.invariant.2)

pub loop-at-preserved : goal.loop-at-preserved
unfolding slot
loop-at-preserved c =
    let l = c in
    let a = l.args in
    let at = l.loop-at.at in
    let e = c.least-e.ensures in
    let r : c.merge.result < 2 ^ 64 = search rules in
    let w : get_or l.loop-at.words (a.base + at / 64) 0 < 2 ^ 64 =
    omega (arith, c.slice_known-in-loop-at-1.given (a.base + at / 64)) in
    let room = l.requires in (
      turn-puts (slot a.src.now 0) a.base 0 (at / 64) at _ _ (get_or a.src.now (at / 64) 0) a.words.now l.loop-at.words
          (omega arith) refl
          (omega (arith, e)) (omega (arith, e)) (omega (arith, room, l.loop-at.invariant.2)) (slot_lt a.src.now 0) w r
          (λ k x y.
          let q : 0 + (at / 64 * 64 + k) / 64 ≡ at / 64 = omega (arith, e) in
          let m : (at / 64 * 64 + k) % 64 ≡ k = omega (arith, e) in
          ap₂ (λ (i j : ℕ). bit_of (get_or a.src.now i 0) j) q m)
          c.merge.ensures l.loop-at.invariant.0,
      omega (arith, e),
      simp length-set l.loop-at.invariant.2,
    )

pub shape_of-words : goal.shape_of-words
shape_of-words c = c.loop-at.invariant.2

pub returns : goal.returns
returns c =
    let a = c.args in
    let e : c.loop-at.at - 0 ≡ a.len = omega arith in
    c.loop-at.invariant.0 ∙ ap (λ (n : ℕ). put_slots (slot a.src.now 0) a.base 0 n a.words.now) e
