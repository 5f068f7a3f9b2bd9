-- `wayback::search::stands_in_way` meets its contract. Assumes nothing.
use Rattle.wayback.proofs.Searched.{stands_same, stands-unowned, stands-frozen}
use Rattle.wayback.proofs.search.stands_in_way.Goals as goal

pub returns-then-was-owner_of : goal.returns-then-was-owner_of
returns-then-was-owner_of c =
    stands_same _ _ _ _ _ _ _ _ c.owner_of-was.ensures c.owner_of.ensures c.if-was-owner_of.true

pub returns-then-was : goal.returns-then-was
returns-then-was c =
    stands-unowned _ _ _ _ _ _ _ _ c.owner_of-was.ensures c.owner_of.ensures c.if-was-owner_of.false
    c.if-was.true

pub returns : goal.returns
returns c =
    stands-frozen _ _ _ _ _ _ _ _ c.owner_of-was.ensures c.owner_of.ensures
    c.if-was-owner_of.false c.if-was.false _ c.is_frozen.ensures
