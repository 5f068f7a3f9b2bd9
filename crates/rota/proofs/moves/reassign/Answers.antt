-- `rota::moves::reassign` meets its contract. Assumes nothing.
use mathlib.Core.Path.{sym, ap, ◌∙◌}
use Prim.Native.Nat.{ℕ}
use Rattle.paper.specs.Count.{among}
use Rattle.rota.specs.Board.{owner_of}
use Rattle.units.specs.Domains.{in_mask}
use Rattle.rota.specs.Ready.{fits_by}
use Rattle.rota.specs.Moves.{picked, domain_of}
use Rattle.rota.proofs.Moved.{pick_all, reassign-frozen, reassign-nobody, reassign-beyond, reassign-kept, reassign-given}
use Rattle.rota.proofs.moves.reassign.Goals as goal

pub returns-then-is_frozen : goal.returns-then-is_frozen
returns-then-is_frozen c = reassign-frozen _ _ _ _ (sym c.is_frozen.ensures ∙ c.if-is_frozen.true)

pub returns-in-Nobody : goal.returns-in-Nobody
unfolding domain_of fits_by
returns-in-Nobody c =
    let at-is-frozen = c.is_frozen in
    let at-if1 = c.if-is_frozen in
    let at_pre = c.requires in
    let at-nth-of = c.nth_of in
    let at-args = c.args in
    let at-mask-of = c.mask_of in
    reassign-nobody _ _ _ _ _ (sym at-is-frozen.ensures ∙ at-if1.false) (pick_all _ _ _ _ at_pre at-nth-of.ensures ∙ ap
    (λ (m : ℕ). picked (among (in_mask m) at-args.people) at-args.second) at-mask-of.ensures) c.in-Nobody.is

pub returns-in-Beyond : goal.returns-in-Beyond
unfolding domain_of fits_by
returns-in-Beyond c =
    let at-is-frozen = c.is_frozen in
    let at-if1 = c.if-is_frozen in
    let at_pre = c.requires in
    let at-nth-of = c.nth_of in
    let at-args = c.args in
    let at-mask-of = c.mask_of in
    reassign-beyond _ _ _ _ _ (sym at-is-frozen.ensures ∙ at-if1.false) (pick_all _ _ _ _ at_pre at-nth-of.ensures ∙ ap
    (λ (m : ℕ). picked (among (in_mask m) at-args.people) at-args.second) at-mask-of.ensures) c.in-Beyond.is

pub returns-then-p-owner_of : goal.returns-then-p-owner_of
unfolding domain_of fits_by owner_of
returns-then-p-owner_of c =
    let at-is-frozen = c.is_frozen in
    let at-if1 = c.if-is_frozen in
    let at_pre = c.requires
    in
    let at-nth-of = c.nth_of in
    let at-args = c.args in
    let at-mask-of = c.mask_of in
    let at-owner-of = c.owner_of in
    reassign-kept _ _ _ _ _ (sym at-is-frozen.ensures ∙ at-if1.false) (pick_all _ _ _ _ at_pre at-nth-of.ensures ∙ ap (λ
    (m : ℕ). picked (among (in_mask m) at-args.people) at-args.second) at-mask-of.ensures) _ _ c.in-Person.is
    at-owner-of.ensures c.if-p-owner_of.true

pub returns-else-p-owner_of : goal.returns-else-p-owner_of
unfolding domain_of fits_by owner_of
returns-else-p-owner_of c =
    let at-is-frozen = c.is_frozen in
    let at-if1 = c.if-is_frozen in
    let at_pre = c.requires in
    let at-nth-of = c.nth_of in
    let at-args = c.args in
    let at-mask-of = c.mask_of in
    let at-owner-of = c.owner_of in
    let at-if2 = c.if-p-owner_of in
    reassign-given _ _ _ _ _ (sym at-is-frozen.ensures ∙ at-if1.false) (pick_all _ _ _ _ at_pre at-nth-of.ensures ∙ ap
    (λ (m : ℕ). picked (among (in_mask m) at-args.people) at-args.second) at-mask-of.ensures) _ _ c.in-Person.is
    at-owner-of.ensures _ at-if2.false c.give.ensures
