-- `slotset::scan::start_in_words` meets its contract. Assumes nothing.
use borrow.Author.Rules.{rules}
use native.Mathlib.Omega.{arith}
use lib.ListN.{get_or}
use Prim.Native.Nat.{◌+◌, ◌-◌, ◌^◌, ◌<◌}
use Rattle.slotset.proofs.Skips.{down-none, down-hit-word, down-empty}
use Rattle.slotset.proofs.scan.start_in_words.Goals as goal

pub returns-then-k-eq0 : goal.returns-then-k-eq0
returns-then-k-eq0 c =
    let n = c in
    let u = n in
    let v = u in
    let a = v.args in
    let w : get_or a.words.now (a.base + (u.skip_down-end.result - 1)) 0 < 2 ^ 64 =
    omega (arith, c.shared_slice_known-then-end-gt0-1.given (a.base + (u.skip_down-end.result - 1))) in
    let x : v.every.result < 2 ^ 64 = search rules in
    down-none a.want a.words.now a.base v.every.result v.every.ensures a.before _ u.skip_down-end.ensures n.if-end-gt0.true _
    c.last_bit-k.ensures c.if-k-eq0.true w x

pub returns-then-end-gt0 : goal.returns-then-end-gt0
returns-then-end-gt0 c =
    let n = c in
    let u = n in
    let v = u in
    let a = v.args in
    down-hit-word a.want a.words.now a.base v.every.result v.every.ensures a.before _ u.skip_down-end.ensures
    n.if-end-gt0.true _ c.last_bit-k.ensures c.if-k-eq0.false

pub returns : goal.returns
returns c =
    let u = c in
    let v = u in
    let a = v.args in
    down-empty a.want a.words.now a.base v.every.result v.every.ensures a.before _ u.skip_down-end.ensures
    (omega (arith, c.if-end-gt0.false))
