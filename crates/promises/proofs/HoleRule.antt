-- A set is its runs and its holes. Assumes nothing.
use Rattle.std.specs.Prelude.{Ok}
use mathlib.Core.Path.{◌≡◌, refl, sym, ap, ap₂, ◌∙◌}
use mathlib.Core.List.{List, [], ◌∷◌, ◌++◌}
use mathlib.Core.Logic.{⊎_elim}
use Prim.Native.Nat.{ℕ, zero, suc, ◌+◌, ◌-◌, ◌≤◌, ◌<◌}
use native.Mathlib.Omega.{arith}
use Rattle.paper.proofs.Logic.{lt-or-ge}
use Rattle.paper.specs.Rows.{unless, answer_as}
use Rattle.slotset.specs.declared.Run.{Run}
use Rattle.slotset.specs.declared.Run.TheVariants as run
use Rattle.slotset.specs.Slots.{Bits}
use Rattle.slotset.specs.Runs.{Around, Ends, AreRuns, ends_of_runs}
use Rattle.slotset.specs.Answers.{run_at, Holds}
use Rattle.slotset.proofs.Runs.{lookup-is, runs-are, runs-unique}
use Rattle.promises.specs.HoleRule.{then_behind, stretches, all_stretches, slots_from, slots_in, runs_in, holes_in, unset, RunsAndHoles}

-- slots in two parts
pub slots-join : (m n at : ℕ) → slots_from at (m + n) ≡ slots_from at m ++ slots_from (at + m) n
unfolding slots_from
slots-join zero n at = let z : 0 + n ≡ n = omega arith in let w : at ≡ at + 0 = omega arith in ap₂ slots_from w z
slots-join (suc m) n at =
    let z : suc m + n ≡ suc (m + n) = omega arith in
    let w : suc at + m ≡ at + suc m = omega arith in
    ap (slots_from at) z
    ∙ ap (λ (l : List ℕ). at ∷ l) (slots-join m n (suc at) ∙ ap (λ (k : ℕ). slots_from (suc at) m ++ slots_from k n) w)

pub slots-none : (at : ℕ) → slots_from at 0 ≡ []
unfolding slots_from
slots-none at = refl

-- ---- one stretch more at the front of a list of runs

module _ (g : ℕ → ℕ) (len at b : ℕ) (l : List Ends) (rest : AreRuns g len (b + 1) l) where
  -- it is a run
  taken : (a : ℕ) → a ≡ at → a ≤ b → b < len → ((k : ℕ) → a ≤ k → k ≤ b → g k ≡ 1) → (b + 1 < len → g (b + 1) ≡ 1 → ⊥)
      → AreRuns g len at (record { first = a; last = b } ∷ l)
  taken a e h fits all right =
      (omega arith, h, fits, λ k p q. let z : ⊥ = omega arith in absurd z, all, right, rest)

  -- it has no member
  passed_over : at ≤ b + 1 → ((k : ℕ) → at ≤ k → k ≤ b → g k ≡ 1 → ⊥) → AreRuns g len at l
  passed_over h none = further l rest
    where
      further : (m : List Ends) → AreRuns g len (b + 1) m → AreRuns g len at m
      further [] x = λ k p q e. ⊎_elim (λ (s : k < b + 1). none k p (omega arith) e) (λ (s : b + 1 ≤ k). x k s q e) (lt-or-ge k (b + 1))
      further (r ∷ m) x = (
        omega (arith, x.0),
        x.1,
        x.2,
        λ k p q e. ⊎_elim (λ (s : k < b + 1). none k p (omega arith) e) (λ (s : b + 1 ≤ k). x.3 k s q e) (lt-or-ge k (b + 1)),
        x.4,
        x.5,
        x.6,
      )

-- ---- the stretches from a slot on at which one begins

module _ (f : ℕ → ℕ) (bits : Bits f) (len : ℕ) where
  abbrev Begins : ℕ → Type 0
  Begins at = 0 < at → at < len → f (at - 1) ≡ 1 - f at

  abbrev Tiles : ℕ → List Run → Type 0
  Tiles at l = (slots_in l ≡ slots_from at (len - at)) × AreRuns f len at (runs_in l) × AreRuns (unset f) len at (holes_in l)

  module _ (v at a b : ℕ) (x : Around v f len at a b) (begins : Begins at) where
    -- the stretch that holds the slot begins there
    from-here : a ≡ at
    from-here =
        ⊎_elim
        (λ (h : a < at).
        let p : f (at - 1) ≡ v = x.all (at - 1) (omega arith) (omega (arith, x.to)) in
        let q : f at ≡ v = x.all at x.from x.to in
        let s : f (at - 1) ≡ 1 - f at = begins (omega arith) (omega (arith, x.to, x.fits)) in
        omega arith)
        (λ (h : at ≤ a). omega (arith, x.from))
        (lt-or-ge a at)

    -- and another one behind it
    next-begins : v < 2 → Begins (b + 1)
    next-begins small p h =
        let e : b + 1 - 1 ≡ b = omega arith in
        let q : f b ≡ v = x.all b (omega (arith, x.from, x.to)) (omega arith) in
        let s : f (b + 1) ≡ 1 - v = x.right h in
        let t : v ≡ 1 - f (b + 1) = omega arith in
        ap f e ∙ q ∙ t

    slots-here : (l : List ℕ) → l ≡ slots_from (b + 1) (len - (b + 1)) → slots_from a (b + 1 - a) ++ l ≡ slots_from at (len - at)
    slots-here l e =
        let h = from-here in
        let s : at + (b + 1 - at) ≡ b + 1 = omega (arith, x.to) in
        let t : b + 1 - at + (len - (b + 1)) ≡ len - at = omega (arith, x.to, x.fits) in
        ap₂ (λ (k : ℕ) (m : List ℕ). slots_from k (b + 1 - k) ++ m) h (e ∙ ap (λ (k : ℕ). slots_from k (len - (b + 1))) (sym s))
        ∙ sym (slots-join (b + 1 - at) (len - (b + 1)) at) ∙ ap (slots_from at) t

  tile : (n at : ℕ) (r : Run) → Holds f len at r → Begins at → len < suc n + at + 1
      → ((k : ℕ) → Begins k → len < n + k + 1 → Tiles k (stretches n f len k)) → Tiles at (then_behind (Ok r) (stretches n f len))
  tile n at (run.Span a b) x begins h more =
      let e = from-here 1 at a b x begins in
      let l = stretches n f len (b + 1) in
      let m = more (b + 1) (next-begins 1 at a b x begins (omega arith)) (omega (arith, x.to)) in (
        slots-here 1 at a b x begins (slots_in l) m.0,
        taken f len at b (runs_in l) m.1 a e (omega (arith, x.from, x.to)) x.fits x.all
            (λ p q. let z : ◌≡◌ {A = ℕ} 0 1 = sym (x.right p) ∙ q in omega arith),
        passed_over (unset f) len at b (holes_in l) m.2 (omega (arith, x.to))
            (λ k p q z. let s : f k ≡ 1 = x.all k (omega arith) q in omega arith),
      )
  tile n at (run.Hole a b) x begins h more =
      let e = from-here 0 at a b x begins in
      let l = stretches n f len (b + 1) in
      let m = more (b + 1) (next-begins 0 at a b x begins (omega arith)) (omega (arith, x.to)) in (
        slots-here 0 at a b x begins (slots_in l) m.0,
        passed_over f len at b (runs_in l) m.1 (omega (arith, x.to))
            (λ k p q z. let s : f k ≡ 0 = x.all k (omega arith) q in omega arith),
        taken (unset f) len at b (holes_in l) m.2 a e (omega (arith, x.from, x.to)) x.fits
            (λ k p q. let s : f k ≡ 0 = x.all k p q in omega arith)
            (λ p q. let s : f (b + 1) ≡ 1 - 0 = x.right p in omega arith),
      )
  tile n at run.Outside x begins h more =
      let e : 0 ≡ len - at = omega arith in (
        sym (slots-none at) ∙ ap (slots_from at) e,
        λ k p q z. let s : ⊥ = omega arith in s,
        λ k p q z. let s : ⊥ = omega arith in s,
      )

  tiles : (n at : ℕ) → Begins at → len < n + at + 1 → Tiles at (stretches n f len at)
  unfolding stretches answer_as unless
  tiles zero at begins h =
      let e : 0 ≡ len - at = omega arith in (
        sym (slots-none at) ∙ ap (slots_from at) e,
        λ k p q z. let s : ⊥ = omega arith in s,
        λ k p q z. let s : ⊥ = omega arith in s,
      )
  tiles (suc n) at begins h = tile n at (run_at f len at) (lookup-is f len at bits) begins h (tiles n)

  pub runs-and-holes : RunsAndHoles f len
  runs-and-holes =
      let t = tiles len 0 (λ p q. let z : ⊥ = omega arith in absurd z) (omega arith) in
      let l = all_stretches f len in
      let e : len - 0 ≡ len = omega arith in
      let small : Bits (unset f) = λ k. omega arith in
      record {
        slots = t.0 ∙ ap (slots_from 0) e;
        runs = runs-unique f bits len 0 (runs_in l) (ends_of_runs f len) t.1 (runs-are f bits len len 0 (omega arith));
        holes =
            runs-unique (unset f) small len 0 (holes_in l) (ends_of_runs (unset f) len) t.2
            (runs-are (unset f) small len len 0 (omega arith));
      }
