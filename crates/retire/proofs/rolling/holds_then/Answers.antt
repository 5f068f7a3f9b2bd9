-- `retire::rolling::holds_then` meets its contract. Assumes nothing.
use mathlib.Core.Path.{sym, ap, ◌∙◌}
use Prim.Native.Nat.{ℕ}
use lib.Dec.{eqb}
use Rattle.retire.proofs.Rolls.{rolled-old, rolled-new}
use Rattle.retire.proofs.rolling.holds_then.Goals as goal

pub returns-then-k-kept : goal.returns-then-k-kept
returns-then-k-kept c = c.holds.ensures ∙ ap (λ (x : ℕ). eqb x 1) (sym (rolled-old _ _ _ _ _ c.if-k-kept.true))

pub returns-else-k-kept : goal.returns-else-k-kept
returns-else-k-kept c = c.holds-else-k-kept.ensures ∙ ap (λ (x : ℕ). eqb x 1) (sym (rolled-new _ _ _ _ _ c.if-k-kept.false))
