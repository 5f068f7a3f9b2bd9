-- `rota::moves::swap_units` meets its contract. Assumes nothing.
use mathlib.Core.Path.{sym, ◌∙◌}
use Rattle.rota.specs.Board.{owner_of}
use Rattle.rota.proofs.Moved.{swap-stays, swap-acts}
use Rattle.rota.proofs.moves.swap_units.Goals as goal

pub returns-then-swap_stays : goal.returns-then-swap_stays
returns-then-swap_stays c = swap-stays _ _ _ _ (sym c.swap_stays.ensures ∙ c.if-swap_stays.true)

pub returns : goal.returns
unfolding owner_of
returns c =
    let at_test = c.swap_stays in
    let at-owner-of = c.owner_of-left in
    let at-owner-of2 = c.owner_of-right in
    swap-acts _ _ _ _ _ _ _ at-owner-of.ensures at-owner-of2.ensures (sym at_test.ensures ∙ c.if-swap_stays.false)
    c.trade.ensures
