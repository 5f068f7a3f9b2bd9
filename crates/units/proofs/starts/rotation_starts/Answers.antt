-- `units::starts::rotation_starts` meets its contract. Assumes nothing.
use Rattle.units.specs.Inside.{starts_under_is}
use Rattle.units.specs.Starts.{rotation_starts, rotation_starts_is}
use Rattle.units.proofs.Begins.{locked-same}
use Rattle.units.proofs.starts.rotation_starts.Goals as goal

pub returns : goal.returns
unfolding rotation_starts_is rotation_starts starts_under_is
returns c =
    let s = c.args.s in
    rw (← locked-same s.boundary s.value c.args.slots c.args.starts.now) c.starts_under.ensures
