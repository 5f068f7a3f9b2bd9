-- `targets::spread::handed_out` meets its contract. Assumes nothing.
use Rattle.std.proofs.Common.{arith}
use Rattle.targets.proofs.SpreadLaws.{handed-given, handed-taken, taken-small, shown-unpinned, shown-small}
use Rattle.targets.proofs.spread.handed_out.Goals as goal

pub returns-then-total-wanted : goal.returns-then-total-wanted
returns-then-total-wanted c =
    let a = c.args in
    handed-given a.demand a.standings c.total_of-total.ensures.0 c.if-total-wanted.true c.lifted_by.ensures

pub lifted_by-lifted-requires : goal.lifted_by-lifted-requires
lifted_by-lifted-requires c =
    let m = c.mirrored_standings-shown.ensures in
    (omega arith, shown-small c.args.standings m, shown-unpinned c.args.standings c.requires.2 m)

pub mirrored_standings-requires : goal.mirrored_standings-requires
mirrored_standings-requires c =
    taken-small c.args.demand c.args.standings c.requires.0 c.requires.1 c.total_of-total.ensures.0 c.if-total-wanted.false
    c.mirrored_standings-shown.ensures c.lifted_by-lifted.ensures

pub returns : goal.returns
returns c =
    handed-taken c.args.demand c.args.standings c.requires.0 c.requires.1 c.total_of-total.ensures.0
    c.if-total-wanted.false
    c.mirrored_standings-shown.ensures c.lifted_by-lifted.ensures c.mirrored_standings.ensures
