-- `targets::spread::spread_of` meets its contract. Assumes nothing.
use Rattle.std.proofs.Common.{◌≡◌, length, arith, rules}
use Rattle.targets.proofs.SpreadLaws.{part-ready, after_small}
use Rattle.targets.proofs.spread.spread_of.Goals as goal

pub handed_out-after-requires : goal.handed_out-after-requires
handed_out-after-requires c =
    let n : length c.args.standings ≡ 32 = search rules in
    part-ready c.args.people c.args.standings c.requires.0 (omega arith) c.requires.2 c.requires.3 c.taking_part-part.ensures

pub signed_of-requires : goal.signed_of-requires
signed_of-requires c =
    let n : length c.args.standings ≡ 32 = search rules in
    after_small c.args.people c.args.standings c.requires.0 (omega arith) c.requires.2 c.requires.3 c.taking_part-part.ensures
    c.args.demand (omega arith) c.handed_out-after.ensures
