-- `slotset::scan::end_in_words` meets its contract. Assumes nothing.
use borrow.Author.Rules.{rules}
use mathlib.Core.Path.{sym, ap, ◌∙◌}
use native.Mathlib.Omega.{arith}
use lib.ListN.{get_or}
use Prim.Native.Nat.{◌+◌, ◌^◌, ◌<◌}
use Rattle.slotset.specs.Runs.{end_of}
use Rattle.slotset.proofs.Scans.{next-end}
use Rattle.slotset.proofs.Skips.{up-skip, up-hit}
use Rattle.slotset.proofs.scan.end_in_words.Goals as goal

pub last_of-requires : goal.last_of-requires
last_of-requires c =
    let u = c in
    (search rules, omega (arith, u.skip_up-j.ensures.from))

pub returns-then-j-end : goal.returns-then-j-end
returns-then-j-end c =
    let u = c in
    let v = u in
    let a = v.args in
    let w : get_or a.words.now (a.base + u.skip_up-j.result) 0 < 2 ^ 64 =
    omega (arith, c.shared_slice_known-then-j-end-1.given (a.base + u.skip_up-j.result)) in
    let x : v.every.result < 2 ^ 64 = search rules in
    c.last_of.ensures
    ∙ ap (end_of a.len) (sym (up-hit a.want a.words.now a.base v.every.result v.every.ensures a.len a.first _ _
    u.skip_up-j.ensures _ c.if-j-end.true w x c.first_bit.ensures))

pub returns : goal.returns
returns c =
    let u = c in
    let v = u in
    let a = v.args in
    sym (ap (end_of a.len) (up-skip a.want a.words.now a.base v.every.result v.every.ensures a.len a.first _ _
    u.skip_up-j.ensures ∙ next-end _ _ _ _ (omega (arith, c.if-j-end.false))))
