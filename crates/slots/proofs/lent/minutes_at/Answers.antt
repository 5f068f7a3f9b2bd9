-- `slots::lent::minutes_at` meets its contract. Assumes nothing.
use mathlib.Core.Path.{ap₂, ◌∙◌}
use Prim.Native.Nat.{◌-◌}
use Rattle.slots.specs.Lent.{minutes_at}
use Rattle.slots.proofs.lent.minutes_at.Goals as goal

pub returns : goal.returns
unfolding minutes_at
returns c = c.saturating_sub.ensures ∙ ap₂ ◌-◌ c.entry_of.ensures c.entry_of-start.ensures
