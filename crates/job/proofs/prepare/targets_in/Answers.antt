-- `job::prepare::targets_in` meets its contract. Assumes nothing.
use mathlib.Core.Path.{◌∙◌}
use native.Mathlib.Omega.{arith}
use lib.Dec.{lit<, lit≤}
use Rattle.job.proofs.Readings.{read-block, read-room, read-few, read-settings, read-column, read-floats, targets-are}
use Rattle.job.proofs.prepare.targets_in.Goals as goal

pub overflow_add-at : goal.overflow_add-at
overflow_add-at c = omega (arith, read-block c.requires 2 (lit< tt), c.well_formed.0)

pub column_f64-capacities-requires : goal.column_f64-capacities-requires
column_f64-capacities-requires c =
    (omega (arith, (read-few c.requires).2), read-room c.requires 2 0 8 (lit< tt) (lit≤ tt))

pub overflow_add-at-2 : goal.overflow_add-at-2
overflow_add-at-2 c = omega (arith, read-block c.requires 2 (lit< tt), c.well_formed.0)

pub column32-priors-requires : goal.column32-priors-requires
column32-priors-requires c =
    (omega (arith, (read-few c.requires).2), read-room c.requires 2 8 4 (lit< tt) (lit≤ tt))

pub settings_in-settings-requires : goal.settings_in-settings-requires
settings_in-settings-requires c = read-settings c.requires

pub returns : goal.returns
returns c =
    let K = c.requires in
    targets-are K _ _ _ _ _ _ _ _ (c.column_f64-capacities.ensures ∙ read-floats K) (c.column32-priors.ensures ∙ read-column K 2 8 4)
    c.settings_in-settings.ensures c.targets_of.ensures
