-- `slotset::scan::clear` meets its contract. Assumes nothing.
use borrow.Author.Rules.{rules}
use mathlib.Core.Path.{◌≡◌, ap, ◌∙◌}
use Prim.Native.Nat.{ℕ, ◌+◌, ◌*◌, ◌/◌, ◌%◌, ◌^◌, ◌≤◌, ◌<◌}
use native.Mathlib.Omega.{arith}
use lib.ListN.{length}
use Rattle.slotset.specs.Slots.{put_slots}
use Rattle.slotset.proofs.Puts.{words-cleared}
use Rattle.slotset.proofs.scan.clear.Goals as goal

pub returns-then-rest-gt0 : goal.returns-then-rest-gt0
returns-then-rest-gt0 c =
    let b4 = c in
    let s = b4 in
    let a = s.args in
    let cleared = b4.clear_words.ensures in
    let few : a.len % 64 ≤ 64 = omega arith in
    let split : a.len / 64 * 64 + a.len % 64 ≡ a.len = omega arith in
    let some : 0 < a.len % 64 = c.if-rest-gt0.true in
    let room : a.base + a.len / 64 < length a.words.now = omega (arith, s.requires.0, s.requires.1) in
    let small : c.merge.result < 2 ^ 64 = search rules in
    words-cleared a.base a.words.now _ (a.len / 64) (a.len % 64) a.len _ few split room small c.merge.ensures cleared
    (omega (arith, c.slice_known-then-rest-gt0-1.given (a.base + a.len / 64)))

pub returns-else-rest-gt0 : goal.returns-else-rest-gt0
returns-else-rest-gt0 c =
    let a = c.args in
    let whole : a.len / 64 * 64 ≡ a.len = omega (arith, c.if-rest-gt0.false) in
    c.clear_words.ensures ∙ ap (λ (n : ℕ). put_slots (λ _. 0) a.base 0 n a.words.now) whole
