-- `slots::merge::merged_ranges` meets its contract. Assumes nothing.
use mathlib.Core.Path.{sym, ◌∙◌}
use Rattle.paper.proofs.Rows.{said}
use Rattle.slots.proofs.MergedLaws.{merged-says, merged-work, merged-done, merged-refused}
use Rattle.slots.proofs.merge.merged_ranges.Goals as goal

pub merged_keys-list-requires : goal.merged_keys-list-requires
merged_keys-list-requires c = (merged-says _ _ _ (sym (said _ c.merged_refusal-number.ensures) ∙ c.if-number-eq0.true)).0

pub take_apart-requires : goal.take_apart-requires
take_apart-requires c =
    let none = sym (said _ c.merged_refusal-number.ensures) ∙ c.if-number-eq0.true in
    let whole = merged-work _ _ _ none c.merged_keys-list.result.keys _ c.merged_keys-list.ensures in
    record { n_bound = whole.0; n_in_bounds = whole.1 }

pub returns-then-number-eq0 : goal.returns-then-number-eq0
returns-then-number-eq0 c =
    merged-done _ _ _ _ (said _ c.merged_refusal-number.ensures) c.if-number-eq0.true c.merged_keys-list.result.keys _
    c.merged_keys-list.ensures _ _ _ c.take_apart.ensures

pub returns : goal.returns
returns c = merged-refused _ _ _ _ (said _ c.merged_refusal-number.ensures) c.if-number-eq0.false
