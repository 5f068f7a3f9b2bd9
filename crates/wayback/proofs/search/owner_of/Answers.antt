-- `wayback::search::owner_of` meets its contract. Assumes nothing.
use mathlib.Core.Path.{ap, ◌∙◌}
use Prim.Native.Nat.{ℕ}
use lib.ListN.{get_or}
use Rattle.wayback.proofs.search.owner_of.Goals as goal

pub returns : goal.returns
returns c =
    c.owner_at.ensures ∙ ap (λ (k : ℕ). get_or c.args.owners.now k 0) c.start_of.ensures
