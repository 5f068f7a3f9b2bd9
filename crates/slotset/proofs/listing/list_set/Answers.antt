-- `slotset::listing::list_set` meets its contract. Assumes nothing.
use mathlib.Core.Path.{sym, ap, ◌∙◌, subst}
use Prim.Native.Nat.{◌+◌}
use native.Mathlib.Omega.{arith}
use Rattle.slotset.specs.Slots.{slot}
use Rattle.slotset.specs.Search.{next_with, First}
use Rattle.slotset.specs.Runs.{end_of}
use Rattle.slotset.proofs.Meaning.{next-is}
use Rattle.slotset.proofs.Puts.{slot_lt}
use Rattle.slotset.proofs.Scans.{next-end}
use Rattle.slotset.proofs.Runs.{first_above, next-after}
use Rattle.slotset.proofs.Columns.{given, none_left, filling-starts, filling-more, filling-whole}
use Rattle.slotset.proofs.listing.list_set.Goals as goal

pub loop-at-init : goal.loop-at-init
loop-at-init c =
    let s = c in
    let a = s.args in (
      s.requires.base_in_bounds,
      (
        s.requires.len_in_bounds,
        filling-starts (slot a.words.now a.base) (slot_lt a.words.now a.base) a.len a.from a.firsts.now a.lasts.now,
      ),
    )

pub next_with-requires : goal.next_with-requires
next_with-requires c = c.loop-at.invariant.0

pub overflow_add-first : goal.overflow_add-first
overflow_add-first c =
    let n = c in
    let l = n in
    let w = subst (First 1 _ _ _) (sym n.next_with.ensures ∙ c.in-Some.is) (next-is 1 _ _ _) in
    omega (arith, w.1, l.loop-at.invariant.0.1)

pub next_with-requires-in-Some : goal.next_with-requires-in-Some
next_with-requires-in-Some c = c.loop-at.invariant.0

pub end_of-last-requires : goal.end_of-last-requires
end_of-last-requires c =
    let k = c in
    let n = k in
    let a = n.args in
    let f = slot a.words.now a.base in
    let i = k.in-Some.first in
    let w = subst (First 1 _ _ _) (sym n.next_with.ensures ∙ k.in-Some.is) (next-is 1 _ _ _) in (
      omega (arith, w.1),
      rw c.next_with-in-Some.ensures
          (first_above 0 f a.len (i + 1) (next_with 0 f a.len (i + 1)) (next-is 0 f a.len (i + 1)) (omega arith)),
    )

pub overflow_cast-firsts : goal.overflow_cast-firsts
overflow_cast-firsts c =
    let k = c in
    let n = k in
    let l = n in
    let g = given _ (slot_lt _ _) _ _ _ _ (sym n.next_with.ensures ∙ k.in-Some.is)
    (c.end_of-last.ensures ∙ ap (end_of _) (c.next_with-in-Some.ensures ∙ next-after 0 _ _ _)) in
    record { fits = omega (arith, g.to, g.fits, l.loop-at.invariant.0.1) }

pub overflow_cast-lasts : goal.overflow_cast-lasts
overflow_cast-lasts c =
    let k = c in
    let n = k in
    let l = n in
    let g = given _ (slot_lt _ _) _ _ _ _ (sym n.next_with.ensures ∙ k.in-Some.is)
    (c.end_of-last.ensures ∙ ap (end_of _) (c.next_with-in-Some.ensures ∙ next-after 0 _ _ _)) in
    record { fits = omega (arith, g.fits, l.loop-at.invariant.0.1) }

pub overflow_add-at : goal.overflow_add-at
overflow_add-at c =
    let k = c in
    let n = k in
    let l = n in
    let g = given _ (slot_lt _ _) _ _ _ _ (sym n.next_with.ensures ∙ k.in-Some.is)
    (c.end_of-last.ensures ∙ ap (end_of _) (c.next_with-in-Some.ensures ∙ next-after 0 _ _ _)) in
    omega (arith, g.fits, l.loop-at.invariant.0.1)

pub loop-at-smaller : goal.loop-at-smaller
loop-at-smaller c =
    let k = c in
    let n = k in
    let g = given _ (slot_lt _ _) _ _ _ _ (sym n.next_with.ensures ∙ k.in-Some.is)
    (c.end_of-last.ensures ∙ ap (end_of _) (c.next_with-in-Some.ensures ∙ next-after 0 _ _ _)) in
    omega (arith, g.from, g.to, n.loop-at-test.true)

pub loop-at-preserved : goal.loop-at-preserved
loop-at-preserved c =
    let k = c in
    let n = k in
    let i = n.loop-at.invariant in
    let g = given _ (slot_lt _ _) _ _ _ _ (sym n.next_with.ensures ∙ k.in-Some.is)
    (c.end_of-last.ensures ∙ ap (end_of _) (c.next_with-in-Some.ensures ∙ next-after 0 _ _ _)) in
    (i.0, (i.1.0, filling-more _ (slot_lt _ _) _ _ _ _ _ _ _ _ i.1.1 n.loop-at-test.true _ _ g))

pub returns-in-None : goal.returns-in-None
returns-in-None c =
    let n = c in
    let i = n.loop-at.invariant in
    filling-whole _ (slot_lt _ _) _ _ _ _ _ _ _ _ i.1.1
    (λ m. none_left _ (slot_lt _ _) _ _ m (sym n.next_with.ensures ∙ c.in-None.is))

pub returns : goal.returns
returns c =
    let i = c.loop-at.invariant in
    filling-whole _ (slot_lt _ _) _ _ _ _ _ _ _ _ i.1.1
    (λ m. none_left _ (slot_lt _ _) _ _ m (next-end 1 _ _ _ c.loop-at-test.false))
