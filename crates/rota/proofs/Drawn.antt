-- A draw acts exactly when the conditions of its move hold, and answers 2 exactly when its choice lies outside. Assumes nothing.
use mathlib.Core.Path.{◌≡◌, refl, sym, ap, ap₂, ◌∙◌}
use mathlib.Core.Bool.{Bool, true, false, ◌||◌}
use mathlib.Core.List.{List}
use mathlib.Core.Logic.{◌⊎◌, inl, inr, ⊎_elim, ◌↔◌}
use Prim.Native.Nat.{ℕ, suc, ◌≤◌, ◌<◌}
use native.Mathlib.Omega.{arith}
use borrow.Author.Tests.{eq-eqb, ne_eqb, eqb-true, lt-ltb, le-ltb, le-leb, lt-leb, leb-true}
use lib.Dec.{eqb, leb}
use Rattle.paper.proofs.Logic.{lt-or-ge, both, and-true}
use Rattle.rota.specs.declared.Move.{Move}
use Rattle.rota.specs.declared.Move.TheVariants.{Stay}
use Rattle.rota.specs.Board.{Board}
use Rattle.rota.specs.Moves.{any_of, give, reassigned, swapped, run_reassigned, runs_swapped, shifted, Draw, answer_of, decided}
use Rattle.rota.specs.Moves.{run_first, between, handed}
use Rattle.rota.specs.Plays.{answer}
use Rattle.rota.specs.Acts.{GivenBy, GrowActs, ShrinkActs, Acts, reassigns, swaps, reassigns-run, swaps-runs, grows, shrinks}
use Rattle.rota.specs.Acts.{HandsOver, ChoiceOutside, number, first-unit, swap-unit, swap-run-unit, person, run-person, side}
use Rattle.rota.proofs.Choices.{Ruled, said}
use Rattle.rota.proofs.Acts.{reassign-ruled, swap-ruled, reassign-run-ruled, swap-runs-ruled, shift-ruled, swap-does, shift-does}
use Rattle.rota.proofs.Acts.{same_ends, boundary-at}

-- ---- a draw

-- what a draw does that acts
abbrev pub draw-does : (B : Board) (o : List ℕ) (d : Draw) → Acts B o d → Move
draw-does B o d (reassigns k f A) = give B d.first d.first A.to
draw-does B o d (swaps k l f s A) = swap-does B o d.first d.second d.first d.first d.second d.second
draw-does B o d (reassigns-run k l f A) = give B A.first A.last A.to
draw-does B o d (swaps-runs k l f s A) = swap-does B o d.first d.second A.first A.last A.first2 A.last2
draw-does B o d (grows k l f A) = shift-does B o d.first d.second (inl A)
draw-does B o d (shrinks k l f A) = shift-does B o d.first d.second (inr A)

draw-moves : (B : Board) (o : List ℕ) (d : Draw) (A : Acts B o d) → answer_of (draw-does B o d A) ≡ 0
draw-moves B o d (reassigns k f A) = refl
draw-moves B o d (swaps k l f s A) = refl
draw-moves B o d (reassigns-run k l f A) = refl
draw-moves B o d (swaps-runs k l f s A) = refl
draw-moves B o d (grows k l f A) = refl
draw-moves B o d (shrinks k l f A) = refl

module _ (B : Board) (o : List ℕ) (d : Draw) where
  abbrev k : ℕ
  k = d.kind

  abbrev f : ℕ
  f = d.first

  abbrev s : ℕ
  s = d.second

  -- a draw is 2 by its number, or by its first unit
  pub out-number : 100 ≤ k → decided B o d ≡ Stay 2
  unfolding decided any_of
  out-number h = simp (le-leb 100 k h)

  pub out_first : B.units ≤ f → decided B o d ≡ Stay 2
  unfolding decided any_of
  out_first h = simp (le-leb B.units f h, mathlib.Core.Bool.or-true (leb 100 k))

  -- else its number says which move it is; either swap is 2 by its second unit
  module _ (hf : f < B.units) where
    pub is-reassign : k < 35 → decided B o d ≡ reassigned B o f s
    unfolding decided any_of
    is-reassign h = simp (lt-leb 100 k (omega arith), lt-leb B.units f hf, lt-ltb k 35 h)

    pub is-swap : 35 ≤ k → k < 60 → s < B.units → decided B o d ≡ swapped B o f s
    unfolding decided any_of
    is-swap h g i =
        simp (lt-leb 100 k (omega arith), lt-leb B.units f hf, le-ltb k 35 h, lt-ltb k 60 g, lt-leb B.units s i)

    pub out-swap : 35 ≤ k → k < 60 → B.units ≤ s → decided B o d ≡ Stay 2
    unfolding decided any_of
    out-swap h g i =
        simp (lt-leb 100 k (omega arith), lt-leb B.units f hf, le-ltb k 35 h, lt-ltb k 60 g, le-leb B.units s i)

    pub is-reassign-run : 60 ≤ k → k < 75 → decided B o d ≡ run_reassigned B o f s
    unfolding decided any_of
    is-reassign-run h g =
        simp (lt-leb 100 k (omega arith), lt-leb B.units f hf, le-ltb k 35 (omega arith), le-ltb k 60 h, lt-ltb k 75 g)

    pub is-swap-runs : 75 ≤ k → k < 90 → s < B.units → decided B o d ≡ runs_swapped B o f s
    unfolding decided any_of
    is-swap-runs h g i =
        simp (
          lt-leb 100 k (omega arith),
          lt-leb B.units f hf,
          le-ltb k 35 (omega arith),
          le-ltb k 60 (omega arith),
          le-ltb k 75 h,
          lt-ltb k 90 g,
          lt-leb B.units s i,
        )

    pub out-swap-runs : 75 ≤ k → k < 90 → B.units ≤ s → decided B o d ≡ Stay 2
    unfolding decided any_of
    out-swap-runs h g i =
        simp (
          lt-leb 100 k (omega arith),
          lt-leb B.units f hf,
          le-ltb k 35 (omega arith),
          le-ltb k 60 (omega arith),
          le-ltb k 75 h,
          lt-ltb k 90 g,
          le-leb B.units s i,
        )

    pub is-shift : 90 ≤ k → k < 100 → decided B o d ≡ shifted B o f s
    unfolding decided any_of
    is-shift h g =
        simp (
          lt-leb 100 k g,
          lt-leb B.units f hf,
          le-ltb k 35 (omega arith),
          le-ltb k 60 (omega arith),
          le-ltb k 75 (omega arith),
          le-ltb k 90 h,
        )

  -- a draw that meets the conditions of its move does what they say
  pub draw-acts : (A : Acts B o d) → decided B o d ≡ draw-does B o d A
  draw-acts (reassigns h hf A) = is-reassign hf h ∙ (reassign-ruled B o f s).acts A
  draw-acts (swaps h g hf hs A) = is-swap hf h g hs ∙ (swap-ruled B o f s).acts A
  draw-acts (reassigns-run h g hf A) = is-reassign-run hf h g ∙ (reassign-run-ruled B o f s hf).acts A
  draw-acts (swaps-runs h g hf hs A) = is-swap-runs hf h g hs ∙ (swap-runs-ruled B o f s hf hs).acts A
  draw-acts (grows h g hf A) = is-shift hf h g ∙ (shift-ruled B o f s hf).acts (inl A)
  draw-acts (shrinks h g hf A) = is-shift hf h g ∙ (shift-ruled B o f s hf).acts (inr A)

  -- one whose choice lies outside answers 2
  by_first : (f < B.units → answer_of (decided B o d) ≡ 2) → answer_of (decided B o d) ≡ 2
  by_first g = ⊎_elim g (λ (h : B.units ≤ f). ap answer_of (out_first h)) (lt-or-ge f B.units)

  draw-outside : ChoiceOutside B o d → answer_of (decided B o d) ≡ 2
  draw-outside (number h) = ap answer_of (out-number h)
  draw-outside (first-unit h) = ap answer_of (out_first h)
  draw-outside (swap-unit h g hs) = by_first (λ hf. ap answer_of (out-swap hf h g hs))
  draw-outside (swap-run-unit h g hs) = by_first (λ hf. ap answer_of (out-swap-runs hf h g hs))
  draw-outside (person h C) = by_first (λ hf. ap answer_of (is-reassign hf h) ∙ (reassign-ruled B o f s).beyond C)
  draw-outside (run-person h g C) = by_first (λ hf. ap answer_of (is-reassign-run hf h g) ∙ (reassign-run-ruled B o f s hf).beyond C)
  draw-outside (side h g C) = by_first (λ hf. ap answer_of (is-shift hf h g) ∙ (shift-ruled B o f s hf).beyond C)

  -- and the answer tells them apart: a draw follows the rule of its move
  abbrev DrawRuled : Type 0
  DrawRuled = Ruled (Acts B o d) (ChoiceOutside B o d) (draw-does B o d) (decided B o d)

  ruled-as : (A C : Type 0) (does : A → Move) (m : Move) → decided B o d ≡ m → (A → Acts B o d) → (C → ChoiceOutside B o d)
      → Ruled A C does m → DrawRuled
  ruled-as A C does m e a c J =
      record {
        acts = draw-acts;
        acted = λ z. a (J.acted (sym (ap answer_of e) ∙ z));
        beyond = draw-outside;
        outside = λ z. c (J.outside (sym (ap answer_of e) ∙ z));
        three = omega (arith, ap answer_of e, J.three);
      }

  ruled-outside : decided B o d ≡ Stay 2 → ChoiceOutside B o d → DrawRuled
  ruled-outside e c =
      record {
        acts = draw-acts;
        acted = λ z. absurd (omega (arith, ap answer_of e));
        beyond = draw-outside;
        outside = λ _. c;
        three = omega (arith, ap answer_of e);
      }

  sides : 90 ≤ k → k < 100 → f < B.units → GrowActs B o f s ⊎ ShrinkActs B o f s → Acts B o d
  sides h g hf (inl A) = grows h g hf A
  sides h g hf (inr A) = shrinks h g hf A

  pub draw-ruled : DrawRuled
  draw-ruled =
      ⊎_elim
      (λ (top : k < 100). ⊎_elim
      (λ (hf : f < B.units). ⊎_elim
      (λ (h : k < 35). ruled-as _ _ _ _ (is-reassign hf h) (reassigns h hf) (person h) (reassign-ruled B o f s))
      (λ (a : 35 ≤ k). ⊎_elim
      (λ (h : k < 60). ⊎_elim
      (λ (hs : s < B.units). ruled-as _ _ _ _ (is-swap hf a h hs) (swaps a h hf hs) (λ c. absurd c) (swap-ruled B o f s))
      (λ (hs : B.units ≤ s). ruled-outside (out-swap hf a h hs) (swap-unit a h hs)) (lt-or-ge s B.units))
      (λ (b : 60 ≤ k). ⊎_elim
      (λ (h : k < 75).
      ruled-as _ _ _ _ (is-reassign-run hf b h) (reassigns-run b h hf) (run-person b h) (reassign-run-ruled B o f s hf))
      (λ (c : 75 ≤ k). ⊎_elim
      (λ (h : k < 90). ⊎_elim
      (λ (hs : s < B.units).
      ruled-as _ _ _ _ (is-swap-runs hf c h hs) (swaps-runs c h hf hs) (λ x. absurd x) (swap-runs-ruled B o f s hf hs))
      (λ (hs : B.units ≤ s). ruled-outside (out-swap-runs hf c h hs) (swap-run-unit c h hs)) (lt-or-ge s B.units))
      (λ (e : 90 ≤ k). ruled-as _ _ _ _ (is-shift hf e top) (sides e top hf) (side e top) (shift-ruled B o f s hf))
      (lt-or-ge k 90)) (lt-or-ge k 75)) (lt-or-ge k 60)) (lt-or-ge k 35))
      (λ (hf : B.units ≤ f). ruled-outside (out_first hf) (first-unit hf)) (lt-or-ge f B.units))
      (λ (h : 100 ≤ k). ruled-outside (out-number h) (number h)) (lt-or-ge k 100)

  -- a draw acts exactly when the conditions of its move hold, answers 2 exactly when its choice lies outside, and else 1
  pub draw-acts-exactly : GivenBy (answer B o d) (Acts B o d) (ChoiceOutside B o d)
  unfolding answer
  draw-acts-exactly = said _ _ _ (decided B o d) (draw-moves B o d) draw-ruled

-- ---- the units that it hands over

-- tests and what they say
eqb-says : (x y : ℕ) → (eqb x y ≡ true) ↔ (x ≡ y)
eqb-says x y = (eqb-true x y, eq-eqb x y)

pub between-says : (x y u : ℕ) → (between x y u ≡ true) ↔ ((x ≤ u) × (u ≤ y))
between-says x y u = (
  λ e. let r = both (leb x u) (leb u y) e in (leb-true x u r.0, leb-true u y r.1),
  λ h. and-true (leb x u) (leb u y) (le-leb x u h.0) (le-leb u y h.1),
)

or-says : (p q : Bool) (P Q : Type 0) → (p ≡ true) ↔ P → (q ≡ true) ↔ Q → (p || q ≡ true) ↔ (P ⊎ Q)
or-says true q P Q x y = (λ _. inl (x.0 refl), λ _. refl)
or-says false q P Q x y = (
  λ e. inr (y.0 e),
  λ h. ⊎_elim (λ (a : P). absurd (mathlib.Core.Bool.false≢true (x.1 a))) (λ (b : Q). y.1 b) h,
)

test-is : (p q : Bool) (P : Type 0) → p ≡ q → (q ≡ true) ↔ P → (p ≡ true) ↔ P
test-is p q P e x = (λ h. x.0 (sym e ∙ h), λ h. e ∙ x.1 h)

pub not-says : (p : Bool) (P : Type 0) → (p ≡ true) ↔ P → (P → ⊥) → p ≡ false
not-says true P x n = absurd (n (x.0 refl))
not-says false P x n = refl

module _ (B : Board) (o : List ℕ) (d : Draw) where
  -- the units that an acting draw hands over are those that its kind and the runs name
  pub handed-exactly : (A : Acts B o d) (u : ℕ) → (handed B o d u ≡ true) ↔ HandsOver B o d A u
  unfolding handed
  handed-exactly (reassigns h hf A) u = test-is _ (eqb u d.first) _ (simp (lt-ltb d.kind 35 h)) (eqb-says u d.first)
  handed-exactly (swaps h g hf hs A) u =
      test-is _ (eqb u d.first || eqb u d.second) _ (simp (le-ltb d.kind 35 h, lt-ltb d.kind 60 g))
      (or-says _ _ _ _ (eqb-says u d.first) (eqb-says u d.second))
  handed-exactly (reassigns-run h g hf A) u =
      let e = same_ends B o d.first A.first A.last A.moves.run in
      test-is _ (between A.first A.last u) _
      (simp (le-ltb d.kind 35 (omega arith), le-ltb d.kind 60 h, lt-ltb d.kind 75 g)
      (ap₂ (λ (x y : ℕ). between x y u) (sym e.0) (sym e.1))) (between-says A.first A.last u)
  handed-exactly (swaps-runs h g hf hs A) u =
      let e = same_ends B o d.first A.first A.last A.moves.run in
      let i = same_ends B o d.second A.first2 A.last2 A.moves2.run in
      test-is _ (between A.first A.last u || between A.first2 A.last2 u) _
      (simp (le-ltb d.kind 35 (omega arith), le-ltb d.kind 60 (omega arith), le-ltb d.kind 75 h, lt-ltb d.kind 90 g)
      (ap₂ ◌||◌ (ap₂ (λ (x y : ℕ). between x y u) (sym e.0) (sym e.1)) (ap₂ (λ (x y : ℕ). between x y u) (sym i.0) (sym i.1))))
      (or-says _ _ _ _ (between-says A.first A.last u) (between-says A.first2 A.last2 u))
  handed-exactly (grows h g hf A) u =
      let e = boundary-at B o d.first A.before A.last A.boundary in
      test-is _ (eqb (suc u) (run_first B o d.first)) _
      (simp (
        le-ltb d.kind 35 (omega arith),
        le-ltb d.kind 60 (omega arith),
        le-ltb d.kind 75 (omega arith),
        le-ltb d.kind 90 h,
        eq-eqb d.second 1 A.choice,
      ))
      (λ t. omega (arith, eqb-true (suc u) (run_first B o d.first) t, e), λ q. eq-eqb _ _ (ap suc q ∙ e))
  handed-exactly (shrinks h g hf A) u =
      let e = boundary-at B o d.first A.before A.last A.boundary in
      test-is _ (eqb u (run_first B o d.first)) _
      (simp (
        le-ltb d.kind 35 (omega arith),
        le-ltb d.kind 60 (omega arith),
        le-ltb d.kind 75 (omega arith),
        le-ltb d.kind 90 h,
        ne_eqb d.second 1 (λ q. omega (arith, A.choice)),
      ))
      (λ t. eqb-true _ _ t ∙ sym e, λ q. eq-eqb _ _ (q ∙ e))
