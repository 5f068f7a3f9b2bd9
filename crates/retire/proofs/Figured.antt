-- The minutes that go, person by person. Assumes nothing.
use mathlib.Core.Path.{◌≡◌, sym, ap, ap₂, ◌∙◌}
use mathlib.Core.List.{List}
use Prim.Native.Nat.{ℕ, ◌+◌, ◌≤◌}
use native.Mathlib.Omega.{arith}
use lib.ListN.{length, get_or, set}
use Rattle.paper.specs.Limits.{nobody}
use Rattle.paper.specs.Count.{over}
use Rattle.paper.proofs.Count.{over_none, over-more, length_over, get_d-over-out}
use Rattle.owners.specs.Derived.{plan, worked, uncovered}
use Rattle.retire.specs.Rolled.{entry}
use Rattle.retire.specs.Going.{prior_then, retired_then, priors_then, retired_column}

module _ (people gone : ℕ) (starts ends o : List ℕ) where
  -- what is worked doesn't ask how many people there are
  pub prior-by : (priors : List ℕ) (p x m : ℕ) → x ≡ entry priors p → m ≡ worked (plan 0 gone starts ends) o p
      → x + m ≡ prior_then (plan people gone starts ends) o priors gone p
  unfolding prior_then worked
  prior-by priors p x m a b = ap₂ ◌+◌ a b

  pub retired-by : (retired : List ℕ) (x m : ℕ) → x ≡ entry retired 0 → m ≡ worked (plan 0 gone starts ends) o nobody
      → x + m ≡ retired_then (plan people gone starts ends) o retired gone
  unfolding retired_then uncovered worked
  retired-by retired x m a b = ap₂ ◌+◌ a b

  -- person after person
  module _ (l : List ℕ) where
    abbrev pub written_to : ℕ → List ℕ
    written_to p = over (prior_then (plan people gone starts ends) o l gone) p l

    pub priors-none : l ≡ over (prior_then (plan people gone starts ends) o l gone) 0 l
    priors-none = sym (over_none _ l)

    pub priors-length : (p : ℕ) (m : List ℕ) → m ≡ over (prior_then (plan people gone starts ends) o l gone) p l → length m ≡ length l
    priors-length p m e = ap length e ∙ length_over _ p l

    -- a prior not yet written is as lent
    pub prior-read : (p x : ℕ) (m : List ℕ) → m ≡ over (prior_then (plan people gone starts ends) o l gone) p l → x ≡ get_or m p 0 → x ≡ entry l p
    prior-read p x m e q = q ∙ ap (λ (y : List ℕ). get_or y p 0) e ∙ get_d-over-out _ p l p (omega arith)

    pub priors-more : (p v : ℕ) (m : List ℕ) → m ≡ over (prior_then (plan people gone starts ends) o l gone) p l
        → v ≡ prior_then (plan people gone starts ends) o l gone p → set m p v ≡ over (prior_then (plan people gone starts ends) o l gone) (p + 1) l
    priors-more p v m e q =
        ap (λ (x : List ℕ). set x p v) e ∙ ap (set (over (prior_then (plan people gone starts ends) o l gone) p l) p) q
        ∙ sym (over-more (prior_then (plan people gone starts ends) o l gone) p l)

    pub priors-done : (p : ℕ) (m : List ℕ) → m ≡ over (prior_then (plan people gone starts ends) o l gone) p l → p ≤ people → people ≤ p
        → m ≡ priors_then (plan people gone starts ends) o l gone
    unfolding priors_then
    priors-done p m e a b =
        let q : p ≡ people = omega arith in e ∙ ap (λ (x : ℕ). over (prior_then (plan people gone starts ends) o l gone) x l) q

    pub retired-done : (v : ℕ) → v ≡ retired_then (plan people gone starts ends) o l gone → set l 0 v ≡ retired_column (plan people gone starts ends) o l gone
    unfolding retired_column over
    retired-done v e = ap (set l 0) e
