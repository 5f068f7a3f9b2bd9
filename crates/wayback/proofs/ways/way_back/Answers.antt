-- `wayback::ways::way_back` meets its contract. Assumes nothing.
use Prim.Native.Nat.{ℕ}
use native.Mathlib.Omega.{arith}
use lib.ListN.{length-replicate}
use Rattle.rota.proofs.Entered.{unit-room}
use Rattle.wayback.proofs.Searched.{way-asks}
use Rattle.wayback.proofs.Written.{way-refused, way-none, way-written, way-fits}
use Rattle.wayback.proofs.ways.way_back.Goals as goal

pub first_in_way-u-requires : goal.first_in_way-u-requires
first_in_way-u-requires c =
    let A = way-asks _ _ _ _ _ _ _ _ _ _ _ c.way_refusal-f.ensures c.if-f-eq0.true in
    record { slots_bound = (A.asks.on.sound.slots-few, A.flags); unit_room = unit-room _ _ _ A.asks.units-ok }

pub returns-then-u-units : goal.returns-then-u-units
returns-then-u-units c =
    way-none _ _ _ _ _ _ _ _ _ _ _ _ c.way_refusal-f.ensures c.if-f-eq0.true _ c.first_in_way-u.ensures
    c.if-u-units.true

pub write_draws-requires : goal.write_draws-requires
write_draws-requires c =
    let A = way-asks _ _ _ _ _ _ _ _ _ _ _ c.way_refusal-f.ensures
    c.if-f-eq0.true in
    record {
      few = A.units-few;
      masks =
          omega (arith, c.unit_domains.auto.masks, length-replicate {A = ℕ} 1024 0, A.units-few);
      draws = omega (arith, A.units-within, A.draws);
      firsts = omega (arith, A.units-within, A.firsts);
      seconds = omega (arith, A.units-within, A.seconds);
    }

pub returns-then-f-eq0 : goal.returns-then-f-eq0
returns-then-f-eq0 c =
    let e = c.way_refusal-f.ensures in
    let z = c.if-f-eq0.true in
    let A = way-asks _ _ _ _ _ _ _ _ _ _ _ e z in
    way-written _ _ _ _ _ _ _ _ _ _ _ _ e z _ c.first_in_way-u.ensures c.if-u-units.false _
    (way-fits _ _ _ _ _ _ _ _ _ _ _ A _ 1024 (omega arith) c.unit_domains.ensures.masks_after) _ _ _ _ c.write_draws.ensures

pub returns : goal.returns
returns c = way-refused _ _ _ _ _ _ _ _ _ _ _ _ c.way_refusal-f.ensures c.if-f-eq0.false
