-- `wayback::ways::way_refusal` meets its contract. Assumes nothing.
use Rattle.wayback.proofs.Searched.{way_on, way-stops}
use Rattle.wayback.proofs.ways.way_refusal.Goals as goal

pub returns-then-f-eq0 : goal.returns-then-f-eq0
returns-then-f-eq0 c =
    way_on _ _ _ _ _ _ _ _ _ _ _ _ _ c.recounted-f.ensures c.room_ok.ensures _
    c.if-f-eq0.true c.remembered_refusal.ensures

pub returns : goal.returns
returns c =
    way-stops _ _ _ _ _ _ _ _ _ _ _ _ _ c.recounted-f.ensures c.room_ok.ensures c.if-f-eq0.false
