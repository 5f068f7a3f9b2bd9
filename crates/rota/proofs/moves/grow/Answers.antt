-- `rota::moves::grow` meets its contract. Assumes nothing.
use mathlib.Core.Path.{sym, ◌∙◌}
use Rattle.rota.proofs.Moved.{grow-none, grow-frozen, grow-unfit, grow-acts}
use Rattle.rota.proofs.moves.grow.Goals as goal

pub returns-then-a-eq0 : goal.returns-then-a-eq0
returns-then-a-eq0 c = grow-none _ _ _ c.if-a-eq0.true

pub returns-then-is_frozen : goal.returns-then-is_frozen
returns-then-is_frozen c = grow-frozen _ _ _ (sym c.is_frozen.ensures ∙ c.if-is_frozen.true)

pub returns-then-fits_unit : goal.returns-then-fits_unit
returns-then-fits_unit c =
    let at-if1 = c.if-a-eq0 in
    let at-is-frozen = c.is_frozen in
    let at-if2 = c.if-is_frozen in
    let at-fits-unit = c.fits_unit in
    let at-if3 = c.if-fits_unit in
    grow-acts _ _ _ _ at-if1.false (sym at-is-frozen.ensures ∙ at-if2.false) (sym at-fits-unit.ensures ∙ at-if3.true) c.give.ensures

pub returns : goal.returns
returns c = grow-unfit _ _ _ (sym c.fits_unit.ensures ∙ c.if-fits_unit.false)
