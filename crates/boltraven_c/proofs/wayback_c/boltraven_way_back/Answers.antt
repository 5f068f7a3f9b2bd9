-- `boltraven_c::wayback_c::boltraven_way_back` meets its contract. Assumes nothing.
use Rattle.std.specs.Prelude.{Result, Ok}
use mathlib.Core.Path.{◌≡◌, sym, ap, ◌∙◌}
use Rattle.paper.specs.declared.Refusal.{Refusal}
use Rattle.wayback.specs.declared.Way.{Way}
use Rattle.wayback.specs.declared.Way.TheVariants as way
use Rattle.boltraven_c.specs.Ways.{way_number, way_told}
use Rattle.boltraven_c.proofs.wayback_c.boltraven_way_back.Goals as goal

pub returns-in-Ok-Draws : goal.returns-in-Ok-Draws
returns-in-Ok-Draws c =
    let E = c.way_back-way.ensures in
    let x : c.in-Ok-Draws.field-0 ≡ way.Draws c.in-Ok-Draws.n = rw c.in-Ok-Draws.is at c.in-Ok-Draws.field-0-is in
    let e = sym E.said ∙ c.in-Ok-Draws.is ∙ ap {B = Result Way Refusal} Ok x in
    record { number = sym (ap way_number e); draws = E.draws; firsts = E.firsts; seconds = E.seconds; told = sym (ap (way_told _) e) }

pub returns-in-Ok-NoWay : goal.returns-in-Ok-NoWay
returns-in-Ok-NoWay c =
    let E = c.way_back-way.ensures in
    let x : c.in-Ok-NoWay.field-0 ≡ way.NoWay c.in-Ok-NoWay.unit = rw c.in-Ok-NoWay.is at c.in-Ok-NoWay.field-0-is in
    let e = sym E.said ∙ c.in-Ok-NoWay.is ∙ ap {B = Result Way Refusal} Ok x in
    record { number = sym (ap way_number e); draws = E.draws; firsts = E.firsts; seconds = E.seconds; told = sym (ap (way_told _) e) }

pub returns-in-Err : goal.returns-in-Err
returns-in-Err c =
    let E = c.way_back-way.ensures in
    let e = sym E.said ∙ c.in-Err.is in
    record {
      number = c.refusal_number.ensures ∙ sym (ap way_number e);
      draws = E.draws;
      firsts = E.firsts;
      seconds = E.seconds;
      told = sym (ap (way_told _) e);
    }
