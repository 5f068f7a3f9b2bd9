-- `boltraven_c::runs_c::boltraven_all_runs` meets its contract. Assumes nothing.
use mathlib.Core.Path.{ap, ◌∙◌}
use Rattle.boltraven_c.specs.Numbers.{plain_number}
use Rattle.boltraven_c.proofs.runs_c.boltraven_all_runs.Goals as goal

pub returns : goal.returns
returns c =
    let e = c.all_runs.ensures in
    record { value = c.plain_number.ensures ∙ ap plain_number e.0; firsts_after = e.1.0; lasts_after = e.1.1 }
