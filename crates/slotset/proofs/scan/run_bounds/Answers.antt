-- `slotset::scan::run_bounds` meets its contract. Assumes nothing.
use mathlib.Core.Path.{sym, ap, ◌∙◌}
use Rattle.slotset.specs.Slots.{slot, value_of}
use Rattle.slotset.proofs.Puts.{slot_lt}
use Rattle.slotset.proofs.Runs.{has_value, answers-outside}
use Rattle.slotset.proofs.Skips.{held-is}
use Rattle.slotset.proofs.scan.run_bounds.Goals as goal

pub end_around-requires : goal.end_around-requires
end_around-requires c =
    let k = c in
    let a = k.args in
    let p = k.requires in
    let h = k.if-i-len.true in (
      p.0,
      p.1,
      h,
      sym (ap value_of k.contains-want.ensures ∙ has_value (slot a.words.now a.base) (slot_lt a.words.now a.base) a.len a.i h),
    )

pub returns-then-i-len : goal.returns-then-i-len
returns-then-i-len c =
    let e = c in
    let s = e in
    let k = s in
    let a = k.args in
    c.held_by.ensures
    ∙ held-is (slot a.words.now a.base) (slot_lt a.words.now a.base) a.len a.i _ _ _ k.if-i-len.true
    k.contains-want.ensures s.start_around-first.ensures e.end_around.ensures

pub returns : goal.returns
returns c = sym (answers-outside _ _ _ c.if-i-len.false)
