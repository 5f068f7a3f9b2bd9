-- `retire::going::frozen_whole` meets its contract. Assumes nothing.
use mathlib.Core.Path.{ap₂, ◌∙◌}
use Prim.Native.Nat.{ℕ}
use Rattle.paper.specs.Count.{all_in}
use Rattle.retire.specs.Going.{is_frozen, frozen_whole}
use Rattle.retire.proofs.going.frozen_whole.Goals as goal

pub returns : goal.returns
unfolding frozen_whole
returns c =
    c.all_frozen.ensures
    ∙ ap₂ (λ (a e : ℕ). all_in a e (is_frozen c.args.frozen.now)) c.start_of-a.ensures c.unit_end-e.ensures
