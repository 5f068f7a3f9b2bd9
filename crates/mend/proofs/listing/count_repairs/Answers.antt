-- `mend::listing::count_repairs` meets its contract. Assumes nothing.
use mathlib.Core.Path.{sym, ap₂, ◌∙◌}
use Prim.Native.Nat.{◌+◌}
use native.Mathlib.Omega.{arith}
use Rattle.mend.proofs.ListLaws.{count-few, many_is}
use Rattle.mend.proofs.listing.count_repairs.Goals as goal

pub overflow_add-result : goal.overflow_add-result
overflow_add-result c =
    let a = count-few _ _ _ _ c.count_owners.ensures in
    let b = count-few _ _ _ _ c.count_words.ensures in
    omega arith

pub overflow_add-result-2 : goal.overflow_add-result-2
overflow_add-result-2 c =
    let a = count-few _ _ _ _ c.count_owners.ensures in
    let b = count-few _ _ _ _ c.count_words.ensures in
    let d = count-few _ _ _ _ c.count_words-2.ensures in
    omega arith

pub overflow_add-result-3 : goal.overflow_add-result-3
overflow_add-result-3 c =
    let a = count-few _ _ _ _ c.count_owners.ensures in
    let b = count-few _ _ _ _ c.count_words.ensures in
    let d = count-few _ _ _ _ c.count_words-2.ensures in
    let e = count-few _ _ _ _ c.count_words-3.ensures in
    omega arith

pub returns : goal.returns
returns c =
    ap₂ ◌+◌ (ap₂ ◌+◌ (ap₂ ◌+◌ c.count_owners.ensures c.count_words.ensures)
    c.count_words-2.ensures) c.count_words-3.ensures
    ∙ sym (many_is _ _ _ _ _ _ _ _ _ _)
