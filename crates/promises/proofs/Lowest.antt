-- A test at every number below n, and the lowest at which it fails, as right or wrong at each. Assumes nothing.
use mathlib.Core.Path.{◌≡◌, sym, ◌∙◌}
use mathlib.Core.Bool.{Bool, true, false, true≢false}
use mathlib.Core.Logic.{◌↔◌, ⊎_elim}
use Prim.Native.Nat.{ℕ, ◌≤◌, ◌<◌}
use native.Mathlib.Omega.{arith}
use Rattle.paper.specs.Count.{all}
use Rattle.paper.proofs.Logic.{by-test, lt-or-ge}
use Rattle.paper.proofs.Count.{all-each, each_all}
use Rattle.owners.specs.Recount.{first_fail}
use Rattle.owners.proofs.Scans.{first-is, first-only, first_passes, scan-no}
use Rattle.promises.specs.JobTests.{AllRight, LowestFault}

module _ (n : ℕ) (p : ℕ → Bool) (Right : ℕ → Type 0) (tells : (k : ℕ) → k < n → (p k ≡ true) ↔ Right k) where
  pub right-exactly : (all n p ≡ true) ↔ AllRight n Right
  right-exactly = (λ t k h. (tells k h).0 (all-each n p t k h), λ R. each_all n p (λ k h. (tells k h).1 (R k h)))

  -- the first that fails is the lowest at fault
  pub lowest-fault : all n p ≡ false → LowestFault n Right (first_fail n p)
  lowest-fault f =
      let F = first-is n p in
      let l : first_fail n p < n = ⊎_elim (λ (x : first_fail n p < n). x)
      (λ (x : n ≤ first_fail n p). absurd (true≢false (sym (first_passes n p x) ∙ f))) (lt-or-ge (first_fail n p) n) in
      record {
        below = l;
        wrong = λ R. true≢false (sym ((tells (first_fail n p) l).1 R) ∙ F.fails l);
        lower = λ j h. (tells j (omega arith)).0 (F.before j h);
      }

  -- and the lowest at fault is the first that fails
  pub fault-first : (k : ℕ) → LowestFault n Right k → (k ≡ first_fail n p) × (all n p ≡ false)
  fault-first k L =
      let b = L.below in
      let e = first-only n p k (record {
        within = omega arith;
        before = λ j h. (tells j (omega arith)).1 (L.lower j h);
        fails = λ h. by-test (p k) _ (λ t. absurd (L.wrong ((tells k h).0 t))) (λ f. f);
      }) in
      (e, scan-no n k p e b)
