-- A swap of units that acts, played at once again, acts and undoes itself: over owners. Assumes nothing.
use mathlib.Core.Path.{◌≡◌, refl, sym, ap, ◌∙◌}
use mathlib.Core.Bool.{Bool, cond}
use mathlib.Core.List.{List, [], ◌∷◌}
use mathlib.Core.Logic.{⊎_elim}
use Prim.Native.Nat.{ℕ, ◌≤◌, ◌<◌}
use native.Mathlib.Omega.{arith}
use borrow.Author.Tests.{eq-eqb, ne_eqb, eqb-true}
use lib.Dec.{eqb}
use lib.ListN.{length, get_or}
use lib.Seq.{ext_get_or}
use Rattle.paper.proofs.Logic.{by-test, lt-or-ge}
use Rattle.rota.specs.Board.{Board, BoardSound, InUnit, Even, owner_of}
use Rattle.rota.specs.Moves.{Draw}
use Rattle.rota.specs.Plays.{step, answer, owners_after}
use Rattle.rota.specs.Acts.{SwapActs, Acts, reassigns, swaps, reassigns-run, swaps-runs, grows, shrinks, owner_then}
use Rattle.rota.proofs.Plays.{play-even, play-length, play-past}
use Rattle.rota.proofs.Drawn.{draw-acts-exactly}
use Rattle.rota.proofs.HandsOver.{draw-hands-over}

-- the conditions of a swap of units, of a draw with its number that acts
pub swap-acts : (B : Board) (o : List ℕ) (d : Draw) → 35 ≤ d.kind → d.kind < 60 → Acts B o d
    → (d.first < B.units) × (d.second < B.units) × SwapActs B o d.first d.second
swap-acts B o d h g (reassigns k f A) = absurd (omega arith)
swap-acts B o d h g (swaps k l f s A) = (f, s, A)
swap-acts B o d h g (reassigns-run k l f A) = absurd (omega arith)
swap-acts B o d h g (swaps-runs k l f s A) = absurd (omega arith)
swap-acts B o d h g (grows k l f A) = absurd (omega arith)
swap-acts B o d h g (shrinks k l f A) = absurd (omega arith)

-- what one draw keeps of the owners
module _ (B : Board) (T : BoardSound B) (o : List ℕ) (E : Even B o) (d : Draw) where
  pub even-then : Even B (step B o d)
  unfolding owners_after
  even-then = play-even B T o (d ∷ []) E

  pub long-then : length (step B o d) ≡ length o
  unfolding owners_after
  long-then = play-length B o (d ∷ [])

  pub past-then : (k : ℕ) → B.slots ≤ k → get_or (step B o d) k 0 ≡ get_or o k 0
  unfolding owners_after
  past-then k h = play-past B T k h o (d ∷ []) E

  -- the owner of a unit after a draw that acts
  pub owner-then : (A : Acts B o d) (u : ℕ) → u < B.units → owner_of B (step B o d) u ≡ owner_then B o d A u
  unfolding owner_of
  owner-then A u h =
      draw-hands-over B T o E u (B.from u) record { below = h; from = omega arith; upto = T.rising u h } d A

-- two lists of owners with the same owner of each unit, and the same past the slots, are the same
pub same-owners : (B : Board) → BoardSound B → (a o : List ℕ) → Even B a → Even B o → length o ≡ length a
    → ((k : ℕ) → B.slots ≤ k → get_or o k 0 ≡ get_or a k 0) → ((u : ℕ) → u < B.units → owner_of B o u ≡ owner_of B a u) → o ≡ a
same-owners B T a o F E l past same =
    ext_get_or 0 o a l
    (λ k r.
    ⊎_elim
    (λ (h : k < B.slots).
    let w = T.whole k h in
    let I : InUnit B w.0 k = record { below = w.1; from = w.2; upto = w.3 } in
    E.same w.0 k I ∙ same w.0 w.1 ∙ sym (F.same w.0 k I))
    (λ (h : B.slots ≤ k). past k h) (lt-or-ge k B.slots))

module _ (B : Board) (T : BoardSound B) (o : List ℕ) (E : Even B o) (d : Draw) (h : 35 ≤ d.kind) (g : d.kind < 60) (f : d.first < B.units)
    (s : d.second < B.units) (A : SwapActs B o d.first d.second) where
  abbrev now : List ℕ
  now = step B o d

  abbrev w : ℕ → ℕ
  w = owner_of B o

  first_then : owner_of B now d.first ≡ w d.second
  unfolding owner_then
  first_then =
      owner-then B T o E d (swaps h g f s A) d.first f
      ∙ ap (λ (b : Bool). cond b (w d.second) (cond (eqb d.first d.second) (w d.first) (w d.first)))
      (eq-eqb d.first d.first refl)

  second-then : owner_of B now d.second ≡ w d.first
  unfolding owner_then
  second-then =
      owner-then B T o E d (swaps h g f s A) d.second s
      ∙ simp (ne_eqb d.second d.first (λ q. A.two-units (sym q)), eq-eqb d.second d.second refl)

  -- the owners have changed places, and each fits the unit that they had
  acts-again : SwapActs B now d.first d.second
  acts-again = record {
    first-unfrozen = A.first-unfrozen;
    second-unfrozen = A.second-unfrozen;
    two-units = A.two-units;
    first-owned = λ q. A.second-owned (sym first_then ∙ q);
    second-owned = λ q. A.first-owned (sym second-then ∙ q);
    two-owners = λ q. A.two-owners (sym second-then ∙ sym q ∙ first_then);
    first_fits = ap (λ (p : ℕ). B.fits p d.first) second-then ∙ (E.manned d.first f A.first-owned).1;
    second_fits = ap (λ (p : ℕ). B.fits p d.second) first_then ∙ (E.manned d.second s A.second-owned).1;
  }

  owner-again : (u : ℕ) → u < B.units → owner_of B (step B now d) u ≡ w u
  unfolding owner_then
  owner-again u hu =
      let e = owner-then B T now (even-then B T o E d) d (swaps h g f s acts-again) u hu in
      let e1 = owner-then B T o E d (swaps h g f s A) u hu in
      by-test (eqb u d.first) _
      (λ t. e ∙ simp t (second-then ∙ ap w (sym (eqb-true u d.first t))))
      (λ n.
      by-test (eqb u d.second) _
      (λ t. e ∙ simp (n, t) (first_then ∙ ap w (sym (eqb-true u d.second t))))
      (λ m. e ∙ simp (n, m) (e1 ∙ simp (n, m))))

  pub swaps-back : (answer B now d ≡ 0) × (step B now d ≡ o)
  swaps-back = (
    (draw-acts-exactly B now d).acts.1 (swaps h g f s acts-again),
    same-owners B T o (step B now d) E (even-then B T now (even-then B T o E d) d)
        (long-then B T now (even-then B T o E d) d ∙ long-then B T o E d)
        (λ k r. past-then B T now (even-then B T o E d) d k r ∙ past-then B T o E d k r) owner-again,
  )

-- of a swap of units that answers 0
pub swap-again : (B : Board) → BoardSound B → (o : List ℕ) → Even B o → (d : Draw) → 35 ≤ d.kind → d.kind < 60 → answer B o d ≡ 0
    → (answer B (step B o d) d ≡ 0) × (step B (step B o d) d ≡ o)
swap-again B T o E d h g z =
    let A = swap-acts B o d h g ((draw-acts-exactly B o d).acts.0 z) in swaps-back B T o E d h g A.0 A.1 A.2
