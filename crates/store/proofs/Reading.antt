-- Laws of what a number stands for. Assumes nothing.
use mathlib.Core.Path.{◌≡◌, refl, sym, ap, ap₂, ◌∙◌}
use mathlib.Core.Bool.{Bool, true, cond}
use mathlib.Core.List.{List}
use Prim.Native.Nat.{ℕ, ◌+◌, ◌-◌, ◌≤◌, ◌<◌}
use native.Mathlib.Omega.{arith}
use borrow.Author.Tests.{le-leb, lt-leb, lt-ltb, le-ltb, eqb-true}
use lib.Dec.{eqb}
use lib.ListN.{length, get_or}
use Rattle.paper.proofs.Logic.{by-test, and-true, and-stops, and_last}
use Rattle.records.specs.Fields.{le, field_at}
use Rattle.records.specs.Records.{Rec}
use Rattle.records.specs.Heads.{found_at, place_of}
use Rattle.records.proofs.Numbers.{field_is}
use Rattle.records.proofs.Mixed.{found-length, found-field, found-byte, whole_says}
use Rattle.units.specs.declared.Settings.{Settings}
use Rattle.store.specs.declared.Kept.TheVariants as kept
use Rattle.store.specs.Layout.{right_at, count_up_to, count_in}
use Rattle.store.specs.Figures.{figures_of, kept_of, number_known, kept_in}
use Rattle.store.specs.Inside.{figures_at}
use Rattle.store.proofs.Right.{right-whole, right-eight, right_zero}
use Rattle.store.proofs.Counted.{counted-right, counted-fewer}

-- ---- a record

pub kept-newer : (r : Rec) → 33 < r.kind → kept.Newer ≡ kept_of r
unfolding kept_of
kept-newer r h = sym (ap (λ (b : Bool). cond b kept.Newer (kept.Figures (figures_of r))) (lt-ltb 33 r.kind h))

pub kept-figures : (r : Rec) → r.kind ≤ 33 → kept.Figures (figures_of r) ≡ kept_of r
unfolding kept_of
kept-figures r h = sym (ap (λ (b : Bool). cond b kept.Newer (kept.Figures (figures_of r))) (le-ltb 33 r.kind h))

settings : (a b c d v e a' b' c' d' v' e' : ℕ) → a ≡ a' → b ≡ b' → c ≡ c' → d ≡ d' → v ≡ v' → e ≡ e'
    → ◌≡◌ {A = Settings} (record { fairness = a; lock = b; boundary = c; edition = d; value = v; days = e })
    (record { fairness = a'; lock = b'; boundary = c'; edition = d'; value = v'; days = e' })
settings a b c d v e a' b' c' d' v' e' p q r s t u = rw (p, q, r, s, t, u)

pub figures-read : (s : List ℕ) (at v d : ℕ) → at + 12 ≤ length s → v ≡ field_at 2 s (at + 8) → d ≡ field_at 2 s (at + 10)
    → ◌≡◌ {A = Settings} (record {
      fairness = get_or s (at + 4) 0;
      lock = get_or s (at + 5) 0;
      boundary = get_or s (at + 6) 0;
      edition = get_or s (at + 7) 0;
      value = v;
      days = d;
    }) (figures_at s at)
unfolding figures_at
figures-read s at v d h p q =
    settings _ _ _ _ _ _ _ _ _ _ _ _ refl refl refl refl (p ∙ field_is 2 s (at + 8) (omega arith) (omega arith))
    (q ∙ field_is 2 s (at + 10) (omega arith) (omega arith))

-- at a place where a right record stands
module _ (s : List ℕ) (at : ℕ) (t : right_at s at ≡ true) where
  kind_at : (found_at s at).kind ≡ le 2 s (at + 2)
  unfolding found_at
  kind_at = refl

  pub head-room : at + 4 ≤ length s
  head-room = omega (arith, whole_says s at (right-whole s at t).0)

  -- the kind, as it is read
  pub kind-read : (v : ℕ) → v ≡ field_at 2 s (at + 2) → v ≡ le 2 s (at + 2)
  kind-read v e = e ∙ field_is 2 s (at + 2) (omega arith) (omega (arith, head-room))

  pub newer-at : 33 < le 2 s (at + 2) → kept.Newer ≡ kept_of (found_at s at)
  newer-at h = kept-newer (found_at s at) (omega (arith, kind_at))

  module _ (h : le 2 s (at + 2) ≤ 33) where
    eight : le 2 s at ≡ 8
    eight =
        sym (found-length s at (right-whole s at t).0)
        ∙ right-eight (found_at s at) (right-whole s at t).1 (omega (arith, kind_at))

    pub figures-room : at + 12 ≤ length s
    figures-room = omega (arith, whole_says s at (right-whole s at t).0, eight)

    byte_at : (k i : ℕ) → k < 8 → at + (4 + k) ≡ i → get_or s i 0 ≡ get_or (found_at s at).body k 0
    byte_at k i l e =
        sym (found-byte s at k (right-whole s at t).0 (omega (arith, eight)) ∙ ap (λ (j : ℕ). get_or s j 0) e)

    word_at : (k i : ℕ) → k + 2 ≤ 8 → at + (4 + k) ≡ i → le 2 s i ≡ le 2 (found_at s at).body k
    word_at k i l e = sym (found-field s at k 2 (right-whole s at t).0 (omega (arith, eight)) ∙ ap (le 2 s) e)

    edition-at : get_or s (at + 7) 0 ≡ cond (eqb (found_at s at).kind 32) 0 (get_or (found_at s at).body 3 0)
    edition-at =
        let b = byte_at 3 (at + 7) (omega arith) (omega arith) in
        by-test (eqb (found_at s at).kind 32) _
        (λ e.
        b ∙ right_zero (found_at s at) (right-whole s at t).1 (eqb-true _ _ e)
        ∙ sym (ap (λ (x : Bool). cond x 0 (get_or (found_at s at).body 3 0)) e))
        (λ e. b ∙ sym (ap (λ (x : Bool). cond x 0 (get_or (found_at s at).body 3 0)) e))

    pub figures-at : kept.Figures (figures_at s at) ≡ kept_of (found_at s at)
    unfolding figures_at figures_of
    figures-at =
        ap kept.Figures
        (settings _ _ _ _ _ _ _ _ _ _ _ _ (byte_at 0 (at + 4) (omega arith) (omega arith)) (byte_at 1 (at + 5) (omega arith) (omega arith))
        (byte_at 2 (at + 6) (omega arith) (omega arith)) edition-at (word_at 4 (at + 8) (omega arith) (omega arith))
        (word_at 6 (at + 10) (omega arith) (omega arith)))
        ∙ kept-figures (found_at s at) (omega (arith, kind_at))

-- ---- a number

pub number-low : (s : List ℕ) (n : ℕ) → n < 1 → kept.Unknown ≡ kept_in s n
unfolding kept_in number_known
number-low s n h =
    sym (ap (λ (b : Bool). cond b (kept_of (found_at s (place_of s (n - 1)))) kept.Unknown) (and-stops _ _ (lt-leb 1 n h)))

pub number-high : (s : List ℕ) (n : ℕ) → 1 ≤ n → count_in s < n → kept.Unknown ≡ kept_in s n
unfolding kept_in number_known
number-high s n g h =
    sym (ap (λ (b : Bool). cond b (kept_of (found_at s (place_of s (n - 1)))) kept.Unknown)
    (and_last _ _ (le-leb 1 n g) (lt-leb n (count_in s) h)))

pub number-kept : (s : List ℕ) (n : ℕ) → 1 ≤ n → n ≤ count_in s → kept_in s n ≡ kept_of (found_at s (place_of s (n - 1)))
unfolding kept_in number_known
number-kept s n g h =
    ap (λ (b : Bool). cond b (kept_of (found_at s (place_of s (n - 1)))) kept.Unknown) (and-true _ _ (le-leb 1 n g) (le-leb n (count_in s) h))

-- the walk over the used bytes x up to the record before it ends where it begins
pub number-found : (x s : List ℕ) (n count end : ℕ) → x ≡ s → 1 ≤ n → n ≤ count_in s → count ≡ count_up_to x (n - 1) → end ≡ place_of x count
    → (right_at x end ≡ true) × (kept_of (found_at x end) ≡ kept_in s n)
number-found x s n count end q g h e p =
    let z : end ≡ place_of s (n - 1) =
    p ∙ ap₂ place_of q (e ∙ ap (λ (y : List ℕ). count_up_to y (n - 1)) q ∙ counted-fewer s 128 (n - 1) (omega arith)) in (
      ap₂ right_at q z ∙ counted-right s 128 (n - 1) (omega arith),
      ap₂ (λ (y : List ℕ) (i : ℕ). kept_of (found_at y i)) q z ∙ sym (number-kept s n g h),
    )
