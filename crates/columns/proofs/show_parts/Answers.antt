-- `columns::show_parts` meets its contract. Assumes nothing.
use mathlib.Core.Path.{◌≡◌, sym, ap, ◌∙◌}
use Prim.Native.Nat.{ℕ, ◌+◌, ◌≤◌, ◌<◌}
use native.Mathlib.Omega.{arith}
use lib.ListN.{length, length-take, length-drop}
use Rattle.paper.specs.Count.{over}
use Rattle.paper.proofs.Count.{over_none}
use Rattle.columns.specs.Publishing.{owner_read}
use Rattle.columns.proofs.Walk.{part-ends, part-more}
use borrow.Author.Rules.{rules}
use Rattle.columns.proofs.show_parts.Goals as goal
use Rattle.columns.proofs.show_parts.Goals.{After-part_at-part}

-- the part found starts where the loop stands and ends within the slots
ends : (c : After-part_at-part) → (c.loop-at.at < c.loop-at.at + length c.part_at-part.result.now) × (c.loop-at.at + length c.part_at-part.result.now ≤ c.args.slots)
ends c = part-ends _ _ _ _ c.requires.sound _ c.loop-at-test.true _ c.part_at-part.ensures.entries

pub slice_bounds-put_part-end : goal.slice_bounds-put_part-end
slice_bounds-put_part-end c =
    omega (arith, (ends (goal.at.slice_bounds-put_part-end c).After-part_at-part).1, c.requires.slots_in_bounds, c.loop-at.auto.shown)

pub loop-at-init : goal.loop-at-init
loop-at-init c = (search rules, sym (over_none _ _))

pub part_at-part-requires : goal.part_at-part-requires
part_at-part-requires c = record { sound = c.requires.sound; slot_lt_slots = c.loop-at-test.true }

pub put_part-requires : goal.put_part-requires
put_part-requires c =
    let e = ends (goal.at.put_part-requires c).After-part_at-part in
    simp (length-take, length-drop) (omega (arith, c.requires.slots_in_bounds, c.loop-at.auto.shown))

pub loop-at-smaller : goal.loop-at-smaller
loop-at-smaller c = let e = ends (goal.at.loop-at-smaller c).After-part_at-part in omega arith

pub loop-at-preserved : goal.loop-at-preserved
loop-at-preserved c =
    let e = ends (goal.at.loop-at-preserved c).After-part_at-part in
    let room = c.requires.slots_in_bounds in (
      e.1,
      part-more _ _ _ _ c.requires.sound _ c.loop-at-test.true _ c.part_at-part.ensures.entries _ _ _ _ (omega arith) c.put_part.ensures c.loop-at.invariant.1 room,
    )

pub returns : goal.returns
returns c =
    let q : c.loop-at.at ≡ c.args.slots = omega arith in
    c.loop-at.invariant.1
    ∙ ap (λ (n : ℕ). over (owner_read c.args.published.now c.args.draft.now c.args.frozen.now) n c.args.shown.now) q
