-- The run of a unit is the one maximal stretch of units with its owner: it is one, and only that one is. Assumes nothing.
use mathlib.Core.Path.{◌≡◌, sym, ap, ◌∙◌}
use mathlib.Core.Logic.{⊎_elim}
use Prim.Native.Nat.{ℕ, zero, suc, ◌+◌, ◌-◌, ◌≤◌, ◌<◌, zero-le}
use native.Mathlib.Omega.{arith}
use borrow.Author.Tests.{eqb-true, eqb-false}
use lib.Dec.{eqb}
use Rattle.paper.proofs.Logic.{by-test, lt-or-ge}
use Rattle.rota.specs.Board.{run_start, run_to, run_end, RunOf}

module _ (w : ℕ → ℕ) where
  record Left (u a : ℕ) : Type 0 where
    pub le : a ≤ u
    pub one : (v : ℕ) → a ≤ v → v ≤ u → w v ≡ w u
    pub end : (v : ℕ) → suc v ≡ a → w v ≡ w u → ⊥

  left_here : (u : ℕ) → (w u ≡ w (suc u) → ⊥) → Left (suc u) (suc u)
  left_here u n =
      record {
        le = omega arith;
        one = λ v h g. ap w (omega arith);
        end = λ v e q. n (ap w (omega arith) ∙ q);
      }

  left-more : (u a : ℕ) → w u ≡ w (suc u) → Left u a → Left (suc u) a
  left-more u a q L =
      record {
        le = omega (arith, L.le);
        one = λ v h g. ⊎_elim (λ (b : v < suc u). L.one v h (omega arith) ∙ q) (λ (b : suc u ≤ v). ap w (omega arith)) (lt-or-ge v
            (suc u));
        end = λ v e r. L.end v e (r ∙ sym q);
      }

  left_is : (u : ℕ) → Left u (run_start w u)
  unfolding run_start
  left_is zero = record { le = zero-le; one = λ v h g. ap w (omega arith); end = λ v e q. absurd (omega arith) }
  left_is (suc u) =
      by-test (eqb (w u) (w (suc u))) _ (λ t. simp t (left-more u (run_start w u) (eqb-true _ _ t) (left_is u)))
      (λ f. simp f (left_here u (eqb-false _ _ f)))

  record Right (k u b : ℕ) : Type 0 where
    pub ge : u ≤ b
    pub le : b ≤ u + k
    pub one : (v : ℕ) → u ≤ v → v ≤ b → w v ≡ w u
    pub end : b < u + k → w (suc b) ≡ w u → ⊥

  right-here : (k u : ℕ) → (w (suc u) ≡ w u → ⊥) → Right (suc k) u u
  right-here k u n =
      record { ge = omega arith; le = omega arith; one = λ v h g. ap w (omega arith); end = λ h q. n q }

  right-more : (k u b : ℕ) → w (suc u) ≡ w u → Right k (suc u) b → Right (suc k) u b
  right-more k u b q R =
      record {
        ge = omega (arith, R.ge);
        le = omega (arith, R.le);
        one = λ v h g. ⊎_elim (λ (l : u < v). R.one v l g ∙ q) (λ (l : v ≤ u). ap w (omega arith)) (lt-or-ge u v);
        end = λ h r. R.end (omega arith) (r ∙ sym q);
      }

  right_is : (k u : ℕ) → Right k u (run_to w k u)
  unfolding run_to
  right_is zero u = record { ge = omega arith; le = omega arith; one = λ v h g. ap w (omega arith); end = λ h q. omega arith }
  right_is (suc k) u =
      by-test (eqb (w (suc u)) (w u)) _ (λ t. simp t (right-more k u (run_to w k (suc u)) (eqb-true _ _ t) (right_is k (suc u))))
      (λ f. simp f (right-here k u (eqb-false _ _ f)))

  -- the two ends are those of a run
  pub run_is : (units u : ℕ) → u < units → RunOf units w u (run_start w u) (run_end units w u)
  unfolding run_end
  run_is units u h =
      let L = left_is u in
      let R = right_is (units - 1 - u) u in
      record {
        from = L.le;
        to = R.ge;
        fits = omega (arith, R.le);
        one = λ v a b. ⊎_elim (λ (l : u < v). R.one v (omega arith) b) (λ (l : v ≤ u). L.one v a l) (lt-or-ge u v);
        left = L.end;
        right = λ l q. R.end (omega arith) q;
      }

  -- no longer one exists: any stretch around u with the owner of u lies in its run
  pub run-longest : (units u a b c d : ℕ) → RunOf units w u a b → c ≤ u → u ≤ d → d < units
      → ((v : ℕ) → c ≤ v → v ≤ d → w v ≡ w u) → (a ≤ c) × (d ≤ b)
  run-longest units u a b c d R h g l one = (
    ⊎_elim (λ (x : c < a). absurd (R.left (a - 1) (omega arith) (one (a - 1) (omega arith) (omega (arith, R.from)))))
        (λ (x : a ≤ c). x) (lt-or-ge c a),
    ⊎_elim (λ (x : b < d). absurd (R.right (omega arith) (one (suc b) (omega (arith, R.to)) (omega arith))))
        (λ (x : d ≤ b). x) (lt-or-ge b d),
  )

  -- no other stretch is one
  pub run_only : (units u a b : ℕ) → u < units → RunOf units w u a b → (a ≡ run_start w u) × (b ≡ run_end units w u)
  run_only units u a b h P =
      let Q = run_is units u h in
      let x = run-longest units u a b (run_start w u) (run_end units w u) P Q.from Q.to Q.fits Q.one in
      let y = run-longest units u (run_start w u) (run_end units w u) a b Q P.from P.to P.fits P.one in
      (omega (arith, x.0, y.0), omega (arith, x.1, y.1))
