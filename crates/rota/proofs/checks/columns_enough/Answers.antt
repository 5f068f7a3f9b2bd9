-- `rota::checks::columns_enough` meets its contract. Assumes nothing.
use mathlib.Core.Path.{ap, ◌∙◌}
use mathlib.Core.Bool.{Bool, ◌&&◌}
use lib.Dec.{leb}
use lib.ListN.{length}
use Rattle.rota.specs.Entries.{columns_enough}
use Rattle.rota.proofs.checks.columns_enough.Goals as goal

pub returns : goal.returns
unfolding columns_enough
returns c =
    let a = c.args in
    c.both-2.ensures ∙ ap (λ (b : Bool). leb a.count (length a.draws.now) && b) c.both.ensures
