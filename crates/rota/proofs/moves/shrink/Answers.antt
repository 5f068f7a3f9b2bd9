-- `rota::moves::shrink` meets its contract. Assumes nothing.
use mathlib.Core.Path.{sym, ◌∙◌}
use Rattle.rota.specs.Board.{owner_of}
use Rattle.rota.proofs.Moved.{shrink-none, shrink-one, shrink-unowned, shrink-unfit, shrink-acts, shrink-frozen}
use Rattle.rota.proofs.moves.shrink.Goals as goal

pub returns-then-a-eq0 : goal.returns-then-a-eq0
returns-then-a-eq0 c = shrink-none _ _ _ _ c.if-a-eq0.true

pub returns-then-a-b : goal.returns-then-a-b
returns-then-a-b c = shrink-one _ _ _ _ c.if-a-b.true

pub returns-then-owner : goal.returns-then-owner
unfolding owner_of
returns-then-owner c = shrink-unowned _ _ _ _ _ c.owner_of-owner.ensures c.if-owner.true

pub returns-then-is_frozen : goal.returns-then-is_frozen
returns-then-is_frozen c = shrink-frozen _ _ _ _ (sym c.is_frozen.ensures ∙ c.if-is_frozen.true)

pub returns-then-fits_unit : goal.returns-then-fits_unit
unfolding owner_of
returns-then-fits_unit c =
    let at-owner-of = c.owner_of-owner in
    let at-if1 = c.if-a-eq0 in
    let at-if2 = c.if-a-b in
    let at-if3 = c.if-owner in
    let at-is-frozen = c.is_frozen in
    let at-if4 = c.if-is_frozen in
    let at-fits-unit = c.fits_unit in
    let at-if5 = c.if-fits_unit in
    shrink-acts _ _ _ _ _ at-owner-of.ensures _ at-if1.false at-if2.false at-if3.false (sym at-is-frozen.ensures ∙
    at-if4.false) (sym at-fits-unit.ensures ∙ at-if5.true) c.give.ensures

pub returns : goal.returns
unfolding owner_of
returns c =
    let at-owner-of = c.owner_of-owner in
    let at-fits-unit = c.fits_unit in
    shrink-unfit _ _ _ _ _ at-owner-of.ensures (sym at-fits-unit.ensures ∙ c.if-fits_unit.false)
