-- `retire::asking::or_later` meets its contract. Assumes nothing.
use mathlib.Core.Path.{refl}
use Rattle.retire.proofs.asking.or_later.Goals as goal

pub returns-then-first-eq0 : goal.returns-then-first-eq0
returns-then-first-eq0 c = (λ _. refl, λ h. absurd (h c.if-first-eq0.true))

pub returns-else-first-eq0 : goal.returns-else-first-eq0
returns-else-first-eq0 c = (λ z. absurd (c.if-first-eq0.false z), λ _. refl)
