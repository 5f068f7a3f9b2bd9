-- Laws of a row of tests: the first that fails, and the lowest number. Assumes nothing.
use mathlib.Core.Path.{◌≡◌, refl, sym, ap, ◌∙◌, subst}
use mathlib.Core.Logic.{◌↔◌}
use mathlib.Core.Bool.{Bool, true, false, cond, true≢false}
use mathlib.Core.List.{List, [], ◌∷◌, ◌++◌}
use Prim.Native.Nat.{ℕ, zero, suc, ◌≤◌, ◌<◌}
use native.Mathlib.Omega.{arith}
use borrow.Author.Tests.{eq-eqb, ne_eqb, eqb-true}
use lib.Dec.{eqb}
use lib.ListN.{length}
use Rattle.paper.specs.Limits.{Test, number_of}
use Rattle.paper.specs.declared.Refusal.{Refusal}
use Rattle.paper.specs.Rows.{unless, accepted, test_refusal, refusal_of}
use Rattle.paper.proofs.Logic.{by-test}
use Rattle.paper.proofs.Refusals.{number-pass, number-fail}
use Rattle.job.specs.Outcome.{rank, test_at, Lowest, AllPass}

-- ---- numbers that are not 0, and rise in rank

abbrev pub Numbered : List Test → Type 0
Numbered [] = Unit {0}
Numbered (t ∷ ts) = (0 < t.number) × Numbered ts

-- above r, and rising
abbrev pub Rising : ℕ → List Test → Type 0
Rising r [] = Unit {0}
Rising r (t ∷ ts) = (r ≤ rank t.number) × Rising (suc (rank t.number)) ts

rising-above : (r : ℕ) (ts : List Test) → Rising r ts → (k : ℕ) → k < length ts → r ≤ rank (test_at ts k).number
rising-above r [] R k h = absurd (omega arith)
rising-above r (t ∷ ts) R zero h = R.0
rising-above r (t ∷ ts) R (suc k) h =
    let a = R.0 in
    omega (arith, rising-above (suc (rank t.number)) ts R.1 k (omega arith))

-- nothing is refused exactly where all pass
pub number-none : (ts : List Test) → Numbered ts → (number_of ts ≡ 0) ↔ AllPass ts
unfolding number_of
number-none ts N = (there ts N, back ts)
  where
    there : (ts : List Test) → Numbered ts → number_of ts ≡ 0 → AllPass ts
    there [] N e k h = absurd (omega arith)
    there (t ∷ ts) N e zero h =
        by-test t.passes _ (λ p. p) (λ f. let n = N.0 in absurd (omega (arith, number-fail t ts f)))
    there (t ∷ ts) N e (suc k) h =
        by-test t.passes _ (λ p. there ts N.1 (sym (number-pass t ts p) ∙ e) k (omega arith))
        (λ f. let n = N.0 in absurd (omega (arith, number-fail t ts f)))

    back : (ts : List Test) → AllPass ts → number_of ts ≡ 0
    back [] A = refl
    back (t ∷ ts) A = number-pass t ts (A 0 (omega arith)) ∙ back ts (λ k h. A (suc k) (omega arith))

-- n is given exactly where it is the lowest of those that fail
number-there : (r : ℕ) (ts : List Test) → Rising r ts → (n : ℕ) → 0 < n → number_of ts ≡ n → Lowest ts n
unfolding number_of
number-there r [] R n z e = absurd (omega arith)
number-there r (t ∷ ts) R n z e =
    by-test t.passes _
    (λ p.
    let L = number-there (suc (rank t.number)) ts R.1 n z (sym (number-pass t ts p) ∙ e) in
    record {
      place = suc L.place;
      within = omega (arith, L.within);
      number = L.number;
      fails = L.fails;
      least = later t ts n p L.least;
    })
    (λ f.
    let q : t.number ≡ n = sym (number-fail t ts f) ∙ e in
    record {
      place = 0;
      within = omega arith;
      number = q;
      fails = f;
      least = subst (λ (m : ℕ). (k : ℕ) → k < suc (length ts) → (test_at (t ∷ ts) k).passes ≡ false
          → rank m ≤ rank (test_at (t ∷ ts) k).number)
          q (λ k h g. first t ts R.1 k h);
    })
  where
    later : (t : Test) (ts : List Test) (n : ℕ) → t.passes ≡ true
        → ((k : ℕ) → k < length ts → (test_at ts k).passes ≡ false → rank n ≤ rank (test_at ts k).number)
        → (k : ℕ) → k < suc (length ts) → (test_at (t ∷ ts) k).passes ≡ false → rank n ≤ rank (test_at (t ∷ ts) k).number
    later t ts n p f zero h g = absurd (true≢false (sym p ∙ g))
    later t ts n p f (suc k) h g = f k (omega arith) g

    first : (t : Test) (ts : List Test) → Rising (suc (rank t.number)) ts → (k : ℕ) → k < suc (length ts)
        → rank t.number ≤ rank (test_at (t ∷ ts) k).number
    first t ts R zero h = omega arith
    first t ts R (suc k) h = omega (arith, rising-above (suc (rank t.number)) ts R k (omega arith))

number-back : (r : ℕ) (ts : List Test) → Rising r ts → (n : ℕ) → Lowest ts n → number_of ts ≡ n
number-back r [] R n L = absurd (omega (arith, L.within))
number-back r (t ∷ ts) R n L =
    by-test t.passes _
    (λ p. number-pass t ts p ∙ number-back (suc (rank t.number)) ts R.1 n (rest t ts n p L L.place refl))
    (λ f. number-fail t ts f ∙ here t ts R.1 n f L L.place refl)
  where
    rest : (t : Test) (ts : List Test) (n : ℕ) → t.passes ≡ true → (L : Lowest (t ∷ ts) n) (k : ℕ) → L.place ≡ k → Lowest ts n
    rest t ts n p L zero e =
        absurd (true≢false (sym p ∙ sym (ap (λ (k : ℕ). (test_at (t ∷ ts) k).passes) e) ∙ L.fails))
    rest t ts n p L (suc k) e =
        record {
          place = k;
          within = omega (arith, L.within);
          number = sym (ap (λ (j : ℕ). (test_at (t ∷ ts) j).number) e) ∙ L.number;
          fails = sym (ap (λ (j : ℕ). (test_at (t ∷ ts) j).passes) e) ∙ L.fails;
          least = λ j h g. L.least (suc j) (omega arith) g;
        }

    here : (t : Test) (ts : List Test) → Rising (suc (rank t.number)) ts → (n : ℕ) → t.passes ≡ false → (L : Lowest (t ∷ ts) n) (k : ℕ)
        → L.place ≡ k → t.number ≡ n
    here t ts R n f L zero e = sym (ap (λ (j : ℕ). (test_at (t ∷ ts) j).number) e) ∙ L.number
    here t ts R n f L (suc k) e =
        let q : (test_at ts k).number ≡ n = sym (ap (λ (j : ℕ). (test_at (t ∷ ts) j).number) e) ∙ L.number in
        let a = L.least 0 (omega arith) f in
        absurd (omega (arith, rising-above (suc (rank t.number)) ts R k (omega (arith, L.within)), ap rank q))

numbered-at : (ts : List Test) → Numbered ts → (k : ℕ) → k < length ts → 0 < (test_at ts k).number
numbered-at [] N k h = absurd (omega arith)
numbered-at (t ∷ ts) N zero h = N.0
numbered-at (t ∷ ts) N (suc k) h = numbered-at ts N.1 k (omega arith)

pub number-lowest : (r : ℕ) (ts : List Test) → Rising r ts → Numbered ts → (n : ℕ) → ((number_of ts ≡ n) × (0 < n)) ↔ Lowest ts n
number-lowest r ts R N n = (
  λ e. number-there r ts R n e.1 e.0,
  λ L. (number-back r ts R n L, omega (arith, numbered-at ts N L.place L.within, L.number)),
)

-- ---- the refusal of a row, where each test gives it by its number

abbrev pub ByNumber : (ℕ → Refusal) → List Test → Type 0
ByNumber f [] = Unit {0}
ByNumber f (t ∷ ts) = (test_refusal t ≡ f t.number) × ByNumber f ts

pub refusal-by : (f : ℕ → Refusal) → accepted ≡ f 0 → (ts : List Test) → ByNumber f ts → refusal_of ts ≡ f (number_of ts)
unfolding refusal_of number_of
refusal-by f z [] b = z
refusal-by f z (t ∷ ts) b = by-test t.passes _ (λ p. simp p (refusal-by f z ts b.1)) (λ q. simp q b.0)

-- ---- the first tests of a row, and then the others

pub number_append : (ts us : List Test) → Numbered ts → number_of (ts ++ us) ≡ cond (eqb (number_of ts) 0) (number_of us) (number_of ts)
unfolding number_of
number_append [] us N = refl
number_append (t ∷ ts) us N =
    by-test t.passes _
    (λ p. simp p (number_append ts us N.1))
    (λ f. let n = N.0 in simp (f, ne_eqb t.number 0 (λ e. omega arith)))

pub step : (ts us : List Test) → Numbered ts → (k m : ℕ) → k ≡ number_of ts → (number_of ts ≡ 0 → m ≡ number_of us)
    → unless k k m ≡ number_of (ts ++ us)
unfolding unless
step ts us N k m e f =
    let h = number_of ts in
    by-test (eqb h 0) _
    (λ t.
    let z = eqb-true h 0 t in
    ap (λ (b : Bool). cond b m k) (eq-eqb k 0 (e ∙ z)) ∙ f z
    ∙ sym (number_append ts us N ∙ ap (λ (b : Bool). cond b (number_of us) h) t))
    (λ t.
    ap (λ (j : ℕ). cond (eqb j 0) m j) e ∙ ap (λ (b : Bool). cond b m h) t
    ∙ sym (number_append ts us N ∙ ap (λ (b : Bool). cond b (number_of us) h) t))

-- the others give the number of a row whose first tests pass
pub rest-number : (ts us : List Test) → Numbered ts → number_of ts ≡ 0 → number_of us ≡ number_of (ts ++ us)
rest-number ts us N h = sym (number_append ts us N ∙ ap (λ (b : Bool). cond b (number_of us) (number_of ts)) (eq-eqb (number_of ts) 0 h))
