-- A choice among people listed ascending, and moves that follow a rule: when they act, and when the choice lies outside. Assumes nothing.
use mathlib.Core.Path.{◌≡◌, refl, sym, ap, ◌∙◌}
use mathlib.Core.Bool.{Bool, true, false, cond}
use mathlib.Core.List.{List, [], ◌∷◌}
use mathlib.Core.Logic.{⊎_elim}
use Prim.Native.Nat.{ℕ, zero, suc, ◌≤◌, ◌<◌}
use native.Mathlib.Omega.{arith}
use borrow.Author.Tests.{eqb-true, eqb-false, leb-true, leb-false}
use lib.Dec.{eqb, leb}
use lib.ListN.{length, get_or}
use Rattle.paper.specs.Count.{among}
use Rattle.paper.proofs.Logic.{by-test, lt-or-ge, neither}
use Rattle.paper.proofs.Count.{among-each, among-at, among-count, rises-far}
use Rattle.rota.specs.declared.Move.{Move}
use Rattle.rota.specs.declared.Move.TheVariants.{Stay}
use Rattle.rota.specs.Moves.{any_of, stay_if, picked, on_pick, answer_of}
use Rattle.rota.specs.Acts.{GivenBy, Chosen, Outside}

-- ---- chains of tests

-- none of the tests holds
pub none_of : (ts : List Bool) → any_of ts ≡ false → (k : ℕ) → get_or ts k false ≡ false
unfolding any_of
none_of [] e k = refl
none_of (t ∷ ts) e zero = (neither t (any_of ts) e).0
none_of (t ∷ ts) e (suc k) = none_of ts (neither t (any_of ts) e).1 k

-- ---- choices

module _ (q : ℕ → Bool) (n k : ℕ) where
  abbrev l : List ℕ
  l = among q n

  -- the person chosen is entry k of the list
  pub chosen_at : (p : ℕ) → Chosen q n k p → (k < length l) × (get_or l k 0 ≡ p)
  chosen_at p C =
      let r = among-at q n p C.known C.passes in
      let e : length (among q p) ≡ k = among-count q p ∙ C.place in
      (omega (arith, r.0, e), ap (λ (j : ℕ). get_or l j 0) (sym e) ∙ r.1)

  pub chosen-one : (p r : ℕ) → Chosen q n k p → Chosen q n k r → p ≡ r
  chosen-one p r C D = sym (chosen_at p C).1 ∙ (chosen_at r D).1

  -- entry k of the list is the person chosen
  pub listed : k < length l → Chosen q n k (get_or l k 0)
  listed h =
      let p = get_or l k 0 in
      let r = among-each q n k h in
      let a = among-at q n p r.0 r.1 in
      let m = length (among q p) in
      let e : m ≡ k = ⊎_elim (λ (b : m < k). absurd (omega (arith, a.1, rises-far q n m k b h)))
      (λ (b : k ≤ m). ⊎_elim (λ (c : k < m). absurd (omega (arith, a.1, rises-far q n k m c a.0))) (λ (c : m ≤ k). omega arith)
      (lt-or-ge k m)) (lt-or-ge m k) in
      record { known = r.0; passes = r.1; place = sym (among-count q p) ∙ e }

-- ---- a ruled move: A its conditions, C those of a choice outside, and what it does where A holds

pub record Ruled (A C : Type 0) (does : A → Move) (m : Move) : Type 0 where
  pub acts : (a : A) → m ≡ does a
  pub acted : answer_of m ≡ 0 → A
  pub beyond : C → answer_of m ≡ 2
  pub outside : answer_of m ≡ 2 → C
  pub three : answer_of m < 3

module _ (A C : Type 0) (does : A → Move) where
  pub said : (m : Move) → ((a : A) → answer_of (does a) ≡ 0) → Ruled A C does m → GivenBy (answer_of m) A C
  said m z J =
      let acts : A → answer_of m ≡ 0 = λ a. ap answer_of (J.acts a) ∙ z a in
      record {
        acts = (J.acted, acts);
        outside = (J.outside, J.beyond);
        no_move = (
          λ e. (λ a. omega (arith, acts a), λ c. omega (arith, J.beyond c)),
          λ n. by-test (eqb (answer_of m) 0) _ (λ t. absurd (n.0 (J.acted (eqb-true _ _ t))))
              (λ f. by-test (eqb (answer_of m) 2) _ (λ t. absurd (n.1 (J.outside (eqb-true _ _ t))))
              (λ g. low (answer_of m) J.three (eqb-false _ _ f) (eqb-false _ _ g))),
        );
      }
    where
      low : (r : ℕ) → r < 3 → (r ≡ 0 → ⊥) → (r ≡ 2 → ⊥) → r ≡ 1
      low r h a b = omega arith

  -- neither acts nor chooses outside; chooses outside
  still : (A → ⊥) → (C → ⊥) → Ruled A C does (Stay 1)
  still a c =
      record {
        acts = λ x. absurd (a x);
        acted = λ e. absurd (omega arith);
        beyond = λ x. absurd (c x);
        outside = λ e. absurd (omega arith);
        three = omega arith;
      }

  away : (A → ⊥) → C → Ruled A C does (Stay 2)
  away a c =
      record {
        acts = λ x. absurd (a x);
        acted = λ e. absurd (omega arith);
        beyond = λ _. refl;
        outside = λ _. c;
        three = omega arith;
      }

  -- acts
  pub moves : (m : Move) → answer_of m ≡ 0 → A → ((a : A) → m ≡ does a) → (C → ⊥) → Ruled A C does m
  moves m z a e c =
      record {
        acts = e;
        acted = λ _. a;
        beyond = λ x. absurd (c x);
        outside = λ x. absurd (omega (arith, x, z));
        three = omega (arith, z);
      }

  -- one of two, by a test
  pub either : (b : Bool) (m n : Move) → (b ≡ true → Ruled A C does m) → (b ≡ false → Ruled A C does n) → Ruled A C does (cond b m n)
  either b m n f g = by-test b _ (λ t. simp t (f t)) (λ t. simp t (g t))

  -- reasons to stay, each against the conditions
  pub no-move-if : (ts : List Bool) (m : Move) → (A → any_of ts ≡ false) → (C → any_of ts ≡ false) → (any_of ts ≡ false → Ruled A C does m)
      → Ruled A C does (stay_if ts 1 m)
  no-move-if ts m a c k =
      either (any_of ts) (Stay 1) m
      (λ t. still (λ x. mathlib.Core.Bool.true≢false (sym t ∙ a x)) (λ x. mathlib.Core.Bool.true≢false (sym t ∙ c x))) k

  pub outside-if : (ts : List Bool) (m : Move) → (A → any_of ts ≡ false) → (any_of ts ≡ true → C) → (any_of ts ≡ false → Ruled A C does m)
      → Ruled A C does (stay_if ts 2 m)
  outside-if ts m a c k =
      either (any_of ts) (Stay 2) m (λ t. away (λ x. mathlib.Core.Bool.true≢false (sym t ∙ a x)) (c t)) k

  -- a choice of one of the people who pass q
  pub picks : (g : ℕ → Move) (q : ℕ → Bool) (n k : ℕ) → (A → (p : ℕ) × Chosen q n k p) → (C → Outside q n k) → (Outside q n k → C)
      → ((p : ℕ) → Chosen q n k p → Ruled A C does (g p)) → Ruled A C does (on_pick g (picked (among q n) k))
  unfolding picked
  picks g q n k a c d f =
      let l = among q n in
      let e = among-count q n in
      let none : A → k < length l = λ x. let y = a x in (chosen_at q n k y.0 y.1).0 in
      by-test (eqb (length l) 0) _
      (λ t.
      let z = eqb-true (length l) 0 t in
      simp t (still (λ x. omega (arith, none x)) (λ x. omega (arith, e, (c x).some))))
      (λ u. by-test (leb (length l) k) _
      (λ t.
      let z = eqb-false (length l) 0 u in
      let b = leb-true (length l) k t in
      simp (u, t) (away (λ x. omega (arith, none x)) (d record { some = omega (arith, e); beyond = omega (arith, e) })))
      (λ t. simp (u, t) (f (get_or l k 0) (listed q n k (leb-false (length l) k t)))))

-- the same judgement, with conditions said in another way
pub said-as : (A C A' C' : Type 0) (does : A → Move) (does' : A' → Move) (m : Move) → (A → A') → (from : A' → A)
    → ((a : A') → does (from a) ≡ does' a) → (C → C') → (C' → C) → Ruled A C does m → Ruled A' C' does' m
said-as A C A' C' does does' m to from e c d J =
    record {
      acts = λ a. J.acts (from a) ∙ e a;
      acted = λ z. to (J.acted z);
      beyond = λ x. J.beyond (d x);
      outside = λ z. c (J.outside z);
      three = J.three;
    }
