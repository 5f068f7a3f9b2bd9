-- `slots::split::atomise` meets its contract. Assumes nothing.
use mathlib.Core.Path.{◌≡◌, sym, ◌∙◌}
use native.Mathlib.Omega.{arith}
use lib.ListN.{length}
use Rattle.paper.proofs.Rows.{said}
use Rattle.slots.proofs.EdgeLaws.{held-merged}
use Rattle.slots.proofs.AtomLaws.{base-says, after-some, atoms-refused, atoms-full, atoms-done, room-for-atoms}
use borrow.Author.Rules.{rules}
use Rattle.slots.proofs.split.atomise.Goals as goal

pub merged_keys-list-requires : goal.merged_keys-list-requires
merged_keys-list-requires c = (base-says _ (sym (said _ c.base_refusal-number.ensures) ∙ c.if-number-eq0.true)).ranges

pub split_all-requires : goal.split_all-requires
split_all-requires c =
    let S = base-says _ (sym (said _ c.base_refusal-number.ensures) ∙ c.if-number-eq0.true) in
    let s : length c.blank_column-s.result ≡ 1024 = search rules in
    let e : length c.blank_column-e.result ≡ 1024 = search rules in
    record {
      held_merged = (held-merged _ S.ranges _ _ c.merged_keys-list.ensures, S.slots);
      slots_bound = (S.few, omega (arith, s), omega (arith, e));
    }

pub copy_column-requires : goal.copy_column-requires
copy_column-requires c =
    let b = c.base_refusal-number.ensures in
    let z = c.if-number-eq0.true in
    let room = (base-says _ (sym (said _ b) ∙ z)).room in
    let few = room-for-atoms _ _ b z c.merged_keys-list.result.keys _ c.merged_keys-list.ensures
    _ _ _ _ _ c.split_all.ensures _ c.in-Some.is in
    let s : length c.blank_column-s.result ≡ 1024 = search rules in
    (omega (arith, s, few, c.split_all.auto.froms), omega (arith, few, room.0))

pub copy_column-requires-then-number-eq0 : goal.copy_column-requires-then-number-eq0
copy_column-requires-then-number-eq0 c =
    let b = c.base_refusal-number.ensures in
    let z = c.if-number-eq0.true in
    let room = (base-says _ (sym (said _ b) ∙ z)).room in
    let few = room-for-atoms _ _ b z c.merged_keys-list.result.keys _ c.merged_keys-list.ensures
    _ _ _ _ _ c.split_all.ensures _ c.in-Some.is in
    let e : length c.blank_column-e.result ≡ 1024 = search rules in
    (omega (arith, e, few, c.split_all.auto.tos), omega (arith, few, room.1))

pub returns-then-number-eq0 : goal.returns-then-number-eq0
returns-then-number-eq0 c =
    let s : length c.blank_column-s.result ≡ 1024 = search rules in
    let e : length c.blank_column-e.result ≡ 1024 = search rules in
    atoms-done _ _ c.base_refusal-number.ensures c.if-number-eq0.true c.merged_keys-list.result.keys _ c.merged_keys-list.ensures _ _ _ _ _
    c.split_all.ensures _ c.in-Some.is (omega (arith, s, c.split_all.auto.froms)) (omega (arith, e, c.split_all.auto.tos)) _ _
    c.copy_column.ensures c.copy_column-then-number-eq0.ensures

pub returns-in_default : goal.returns-in_default
returns-in_default c =
    atoms-full _ _ c.base_refusal-number.ensures c.if-number-eq0.true c.merged_keys-list.result.keys _ c.merged_keys-list.ensures _ _ _ _ _
    c.split_all.ensures c.in_default.is

pub returns : goal.returns
returns c = atoms-refused _ _ (after-some _ _ c.base_refusal-number.ensures c.if-number-eq0.false) c.if-number-eq0.false
