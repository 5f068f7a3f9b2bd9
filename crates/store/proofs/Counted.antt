-- Laws of the records that the walk counts. Assumes nothing.
use mathlib.Core.Path.{◌≡◌, refl, sym, ap, ◌∙◌}
use mathlib.Core.Bool.{true, false}
use mathlib.Core.List.{List}
use Prim.Native.Nat.{ℕ, ◌+◌, ◌≤◌, ◌<◌}
use native.Mathlib.Omega.{arith}
use lib.ListN.{length}
use Rattle.paper.specs.Count.{all}
use Rattle.paper.proofs.Count.{all_none, all_more, all-each, each_all}
use Rattle.records.specs.Fields.{le}
use Rattle.records.specs.Heads.{place_of}
use Rattle.records.proofs.Walks.{lead_is, lead-all, lead-full, lead-most}
use Rattle.records.proofs.Mixed.{place_none, place-more, whole_says}
use Rattle.store.specs.Layout.{right_at, count_up_to}
use Rattle.store.proofs.Right.{right-whole}

pub counted-right : (s : List ℕ) (most k : ℕ) → k < count_up_to s most → right_at s (place_of s k) ≡ true
unfolding count_up_to
counted-right s most k h = all-each _ (λ i. right_at s (place_of s i)) (lead-all (λ i. right_at s (place_of s i)) most) k h

pub counted-most : (s : List ℕ) (most : ℕ) → count_up_to s most ≤ most
unfolding count_up_to
counted-most s most = lead-most (λ i. right_at s (place_of s i)) most

pub counted-few : (s : List ℕ) (most n : ℕ) → n ≡ count_up_to s most → n ≤ most
counted-few s most n e = omega (arith, counted-most s most)

pub counted-full : (s : List ℕ) (n : ℕ) → ((k : ℕ) → k < n → right_at s (place_of s k) ≡ true) → count_up_to s n ≡ n
unfolding count_up_to
counted-full s n f = lead-full (λ i. right_at s (place_of s i)) n (each_all n (λ i. right_at s (place_of s i)) f)

pub counted_is : (s : List ℕ) (n most : ℕ) → n ≤ most → ((k : ℕ) → k < n → right_at s (place_of s k) ≡ true)
    → right_at s (place_of s n) ≡ false → count_up_to s most ≡ n
unfolding count_up_to
counted_is s n most h f e =
    lead_is (λ i. right_at s (place_of s i)) n most h (each_all n (λ i. right_at s (place_of s i)) f) e

-- a walk up to fewer records than there are counts them all
pub counted-fewer : (s : List ℕ) (most n : ℕ) → n ≤ count_up_to s most → count_up_to s n ≡ n
counted-fewer s most n h = counted-full s n (λ k l. counted-right s most k (omega arith))

-- ---- what the walk's loop knows: `count` right records stand between the first byte and `at`

pub record Walking (s : List ℕ) (most count at : ℕ) : Type 0 where
  pub place : at ≡ place_of s count
  pub within : at ≤ length s
  pub few : count ≤ most
  pub right : all count (λ k. right_at s (place_of s k)) ≡ true

pub walking-none : (s : List ℕ) (most : ℕ) → Walking s most 0 0
walking-none s most = record { place = sym (place_none s); within = omega arith; few = omega arith; right = all_none _ }

module _ (s : List ℕ) (most count at : ℕ) (W : Walking s most count at) where
  pub walking-more : (step : ℕ) → right_at s at ≡ true → step ≡ 4 + le 2 s at → count < most → Walking s most (count + 1) (at + step)
  walking-more step t e h =
      let room = whole_says s at (right-whole s at t).0 in
      record {
        place = ap (λ (n : ℕ). at + n) e ∙ place-more s count at (le 2 s at) W.place refl;
        within = omega arith;
        few = omega arith;
        right = all_more count (λ k. right_at s (place_of s k)) W.right (ap (right_at s) (sym W.place) ∙ t);
      }

  pub walking-stops : right_at s at ≡ false → count ≡ count_up_to s most
  unfolding count_up_to
  walking-stops f =
      sym (lead_is (λ k. right_at s (place_of s k)) count most W.few W.right (ap (right_at s) (sym W.place) ∙ f))

  pub walking-done : most ≤ count → (most ≡ count_up_to s most) × (at ≡ place_of s most)
  unfolding count_up_to
  walking-done h =
      let e : count ≡ most = omega (arith, W.few) in (
        sym (lead-full (λ k. right_at s (place_of s k)) most (rw e at W.right)),
        rw e at W.place,
      )
