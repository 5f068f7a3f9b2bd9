-- What an acting draw hands over: which units, and who owns each of them then. Assumes nothing.
use mathlib.Core.Path.{◌≡◌, refl, sym, ap, ap₂, ◌∙◌}
use mathlib.Core.Bool.{Bool, false, cond}
use mathlib.Core.List.{List}
use Prim.Native.Nat.{ℕ, suc, ◌-◌, ◌≤◌, ◌<◌}
use native.Mathlib.Omega.{arith}
use borrow.Author.Tests.{eq-eqb, eqb-true}
use lib.Dec.{eqb}
use lib.ListN.{length, get_or}
use Rattle.paper.specs.Count.{fill}
use Rattle.paper.proofs.Logic.{by-test, same_test}
use Rattle.paper.proofs.Count.{length-fill}
use Rattle.rota.specs.declared.Move.{Move}
use Rattle.rota.specs.declared.Move.TheVariants.{Stay, Give, Trade}
use Rattle.rota.specs.Board.{Board, BoardSound, InUnit, Even, owner_of}
use Rattle.rota.specs.Moves.{give, Draw, answer_of, decided, act, between}
use Rattle.rota.specs.Plays.{step, answer}
use Rattle.rota.specs.Acts.{Acts, reassigns, swaps, reassigns-run, swaps-runs, grows, shrinks, owner_then}
use Rattle.rota.proofs.Kept.{given-in, given_out}
use Rattle.rota.proofs.Drawn.{draw-acts, draw-does, between-says, not-says}

module _ (B : Board) (T : BoardSound B) (o : List ℕ) (E : Even B o) (u k : ℕ) (I : InUnit B u k) where
  there : k < length o
  there = omega (arith, E.room, T.within u I.below, I.upto)

  -- units x to y go to p
  give-then : (x y p : ℕ) → x ≤ y → y < B.units → get_or (act (give B x y p) o) k 0 ≡ cond (between x y u) p (owner_of B o u)
  give-then x y p r l =
      by-test (between x y u) _
      (λ t. let h = (between-says x y u).0 t in simp t (given-in B T x y p r l o u k I there h.0 h.1))
      (λ n. simp n (given_out B T x y p r l o u k I (λ a b. off x y n a b) ∙ E.same u k I))
    where
      off : (x y : ℕ) → between x y u ≡ false → x ≤ u → u ≤ y → ⊥
      off x y n a b = mathlib.Core.Bool.true≢false (sym ((between-says x y u).1 (a, b)) ∙ n)

  -- units x to y go to p and units z to v, none of them the same, to q
  trade-then : (x y p z v q : ℕ) → x ≤ y → y < B.units → z ≤ v → v < B.units → (x ≤ u → u ≤ y → z ≤ u → u ≤ v → ⊥)
      → get_or (act (Trade (B.from x) (B.upto y) p (B.from z) (B.upto v) q) o) k 0
      ≡ cond (between x y u) p (cond (between z v u) q (owner_of B o u))
  trade-then x y p z v q r l r2 l2 apart =
      let o' = fill p (B.from x) (B.upto y - B.from x) o in
      by-test (between z v u) _
      (λ t.
      let h = (between-says z v u).0 t in
      let n = not-says (between x y u) _ (between-says x y u) (λ w. apart w.0 w.1 h.0 h.1) in
      simp (n, t) (given-in B T z v q r2 l2 o' u k I (omega (arith, there, length-fill p (B.from x) (B.upto y - B.from x) o)) h.0
      h.1))
      (λ n. simp n (given_out B T z v q r2 l2 o' u k I
      (λ a b. mathlib.Core.Bool.true≢false (sym ((between-says z v u).1 (a, b)) ∙ n)) ∙ give-then x y p r l))

  one_unit : (x : ℕ) → between x x u ≡ eqb u x
  one_unit x =
      same_test _ _ (λ t. let h = (between-says x x u).0 t in eq-eqb u x (omega (arith, h.0, h.1)))
      (λ t. let e = eqb-true u x t in (between-says x x u).1 (omega arith, omega arith))

  does-then : (d : Draw) (A : Acts B o d) → get_or (act (draw-does B o d A) o) k 0 ≡ owner_then B o d A u
  unfolding owner_then
  does-then d (reassigns h hf A) =
      give-then d.first d.first A.to (omega arith) hf
      ∙ ap (λ (b : Bool). cond b A.to (owner_of B o u)) (one_unit d.first)
  does-then d (swaps h g hf hs A) =
      trade-then d.first d.first (owner_of B o d.second) d.second d.second (owner_of B o d.first) (omega arith) hf
      (omega arith) hs (λ a b c e. A.two-units (omega arith))
      ∙ ap₂ (λ (b c : Bool). cond b (owner_of B o d.second) (cond c (owner_of B o d.first) (owner_of B o u))) (one_unit d.first)
      (one_unit d.second)
  does-then d (reassigns-run h g hf A) =
      let R = A.moves.run in
      give-then A.first A.last A.to (omega (arith, R.from, R.to)) R.fits
  does-then d (swaps-runs h g hf hs A) =
      let R = A.moves.run in
      let S = A.moves2.run in
      trade-then A.first A.last (owner_of B o d.second) A.first2 A.last2 (owner_of B o d.first)
      (omega (arith, R.from, R.to)) R.fits (omega (arith, S.from, S.to)) S.fits
      (λ a b c e. A.two-owners (sym (R.one u a b) ∙ S.one u c e))
  does-then d (grows h g hf A) =
      give-then A.before A.before (owner_of B o d.first) (omega arith) (omega (arith, A.boundary.run.from, hf))
      ∙ ap (λ (b : Bool). cond b (owner_of B o d.first) (owner_of B o u)) (one_unit A.before)
  does-then d (shrinks h g hf A) =
      give-then (suc A.before) (suc A.before) (owner_of B o A.before) (omega arith) (omega (arith, A.boundary.run.from, hf))
      ∙ ap (λ (b : Bool). cond b (owner_of B o A.before) (owner_of B o u)) (one_unit (suc A.before))

  -- a draw that acts: each slot of unit u has the owner that the unit is handed to, or the one it had
  pub draw-hands-over : (d : Draw) (A : Acts B o d) → get_or (step B o d) k 0 ≡ owner_then B o d A u
  unfolding step
  draw-hands-over d A = ap (λ (m : Move). get_or (act m o) k 0) (draw-acts B o d A) ∙ does-then d A

-- a draw that doesn't act hands nothing over
pub draw-keeps : (B : Board) (o : List ℕ) (d : Draw) → (answer B o d ≡ 0 → ⊥) → step B o d ≡ o
unfolding answer step
draw-keeps B o d n = still (decided B o d) n
  where
    still : (m : Move) → (answer_of m ≡ 0 → ⊥) → act m o ≡ o
    still (Stay r) n = refl
    still (Give a e p) n = absurd (n refl)
    still (Trade a e p c g q) n = absurd (n refl)
