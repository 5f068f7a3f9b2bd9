-- `slotset::scan::clear_words` meets its contract. The invariant: the first j words are 0. Assumes nothing.
use mathlib.Core.Path.{◌≡◌, refl, sym, ap, ◌∙◌}
use borrow.Author.Rules.{rules}
use Prim.Native.Nat.{ℕ, ◌+◌, ◌*◌, ◌^◌, ◌≤◌, ◌<◌}
use native.Mathlib.Omega.{arith}
use lib.ListN.{length, length-set}
use Rattle.slotset.specs.Slots.{put_slots}
use Rattle.slotset.proofs.Puts.{puts_none, words-cleared}
use Rattle.slotset.proofs.scan.clear_words.Goals as goal

pub loop-j-init : goal.loop-j-init
loop-j-init c =
    let a = c.args in
    let z : 0 * 64 ≡ 0 = omega arith in
    (omega arith, sym (ap (λ (n : ℕ). put_slots (λ _. 0) a.base 0 n a.words.now) z ∙ puts_none _ _ _ _), refl)

pub bounds-words-base : goal.bounds-words-base
bounds-words-base c =
    let l = c in
    omega (arith, l.requires.0, l.loop-j.invariant.2, c.loop-j-test.true, l.requires.1)

pub bounds-words-base-in-loop-j : goal.bounds-words-base-in-loop-j
bounds-words-base-in-loop-j c =
    let l = c in
    omega (arith, l.requires.0, l.loop-j.invariant.2, c.loop-j-test.true, l.requires.1)

pub loop-j-preserved : goal.loop-j-preserved
loop-j-preserved c =
    let l = c in
    let a = l.args in
    let pre = l.requires in
    let j = l.loop-j.j in
    let t = c.loop-j-test.true in
    let room : a.base + j < length a.words.now = omega (arith, pre.0, pre.1, t) in
    let few : 64 ≤ 64 = omega arith in
    let split : j * 64 + 64 ≡ (j + 1) * 64 = omega arith in
    let small : c.merge.result < 2 ^ 64 = search rules in (
      omega (arith, t),
      words-cleared a.base a.words.now l.loop-j.words j 64 ((j + 1) * 64) _ few split room small c.merge.ensures
          l.loop-j.invariant.1
          (omega (arith, c.slice_known-in-loop-j-1.given (a.base + j))),
      simp length-set l.loop-j.invariant.2,
    )

pub shape_of-words : goal.shape_of-words
shape_of-words c = c.loop-j.invariant.2

pub returns : goal.returns
returns c =
    let l = c in
    let a = l.args in
    let q : l.loop-j.j * 64 ≡ a.whole * 64 = omega (arith, l.loop-j.invariant.0, c.loop-j-test.false) in
    l.loop-j.invariant.1 ∙ ap (λ (n : ℕ). put_slots (λ _. 0) a.base 0 n a.words.now) q
