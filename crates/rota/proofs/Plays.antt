-- Demand 3 of a play of any length, over owners alone; and a list played in two parts. Assumes nothing.
use mathlib.Core.Path.{◌≡◌, refl, sym, ap, ◌∙◌}
use mathlib.Core.Bool.{Bool, true, false, ◌&&◌}
use mathlib.Core.List.{List, [], ◌∷◌, ◌++◌}
use Prim.Native.Nat.{ℕ, zero, suc, ◌+◌, ◌-◌, ◌≤◌}
use native.Mathlib.Numerals.{add-one}
use native.Mathlib.Omega.{arith}
use borrow.Author.Tests.{eq-eqb}
use lib.Dec.{eqb}
use lib.ListN.{length, get_or, length-append}
use Rattle.paper.proofs.Logic.{neither}
use Rattle.paper.specs.Limits.{nobody}
use Rattle.paper.specs.Count.{fill}
use Rattle.paper.proofs.Count.{length-fill}
use Rattle.rota.specs.declared.Move.{Move}
use Rattle.rota.specs.declared.Move.TheVariants.{Stay, Give, Trade}
use Rattle.rota.specs.Board.{Board, BoardSound, InUnit, Even}
use Rattle.rota.specs.Moves.{Draw, draw, decided, answer_of, act, handed}
use Rattle.rota.specs.Plays.{step, owners_after, answer, answers, touched, draws_of}
use Rattle.rota.proofs.Lawful.{decided-lawful}
use Rattle.rota.proofs.Kept.{act-even, act-covered, act-frozen, act-only, act-past}

-- ---- a list in two parts

pub owners-append : (B : Board) (o : List ℕ) (xs ys : List Draw) → owners_after B o (xs ++ ys) ≡ owners_after B (owners_after B o xs) ys
unfolding owners_after
owners-append B o [] ys = refl
owners-append B o (d ∷ xs) ys = owners-append B (step B o d) xs ys

pub answers-append : (B : Board) (o : List ℕ) (xs ys : List Draw) → answers B o (xs ++ ys) ≡ answers B o xs ++ answers B
    (owners_after B o xs) ys
unfolding answers owners_after
answers-append B o [] ys = refl
answers-append B o (d ∷ xs) ys = ap (λ (l : List ℕ). answer B o d ∷ l) (answers-append B (step B o d) xs ys)

-- one answer a draw
pub answers-length : (B : Board) (o : List ℕ) (ds : List Draw) → length (answers B o ds) ≡ length ds
unfolding answers
answers-length B o [] = refl
answers-length B o (d ∷ ds) = ap suc (answers-length B (step B o d) ds)

pub draws-length : (ks fs ss : List ℕ) (n : ℕ) → length (draws_of ks fs ss n) ≡ n
unfolding draws_of
draws-length ks fs ss zero = refl
draws-length ks fs ss (suc n) = length-append (draws_of ks fs ss n) _ ∙ omega (arith, draws-length ks fs ss n)

pub draws-next : (ks fs ss : List ℕ) (i : ℕ) → draws_of ks fs ss (i + 1) ≡ draws_of ks fs ss i ++ (draw (get_or ks i 0) (get_or fs i 0)
    (get_or ss i 0) ∷ [])
unfolding draws_of
draws-next ks fs ss i = ap (draws_of ks fs ss) (add-one i)

-- ---- what a play keeps

act-length : (m : Move) (o : List ℕ) → length (act m o) ≡ length o
act-length (Stay n) o = refl
act-length (Give a e p) o = length-fill p a (e - a) o
act-length (Trade a e p c g q) o = length-fill q c (g - c) (fill p a (e - a) o) ∙ length-fill p a (e - a) o

pub play-length : (B : Board) (o : List ℕ) (ds : List Draw) → length (owners_after B o ds) ≡ length o
unfolding owners_after step
play-length B o [] = refl
play-length B o (d ∷ ds) = play-length B (step B o d) ds ∙ act-length (decided B o d) o

module _ (B : Board) (T : BoardSound B) where
  -- units stay even, and each owner fits
  step-even : (o : List ℕ) (d : Draw) → Even B o → Even B (step B o d)
  unfolding step
  step-even o d E = act-even B T (handed B o d) o E (decided B o d) (decided-lawful B o d E)

  -- what every draw keeps a play keeps
  play-keeps : (Q : List ℕ → Type 0) → ((o : List ℕ) (d : Draw) → Even B o → Q o → Q (step B o d)) → (o : List ℕ) (ds : List Draw)
      → Even B o → Q o → Q (owners_after B o ds)
  unfolding owners_after
  play-keeps Q f o [] E q = q
  play-keeps Q f o (d ∷ ds) E q = play-keeps Q f (step B o d) ds (step-even o d E) (f o d E q)

  pub play-even : (o : List ℕ) (ds : List Draw) → Even B o → Even B (owners_after B o ds)
  play-even o ds E = play-keeps (Even B) (λ l d e _. step-even l d e) o ds E E

  play-owner : (k : ℕ) → ((o : List ℕ) (d : Draw) → Even B o → get_or (step B o d) k 0 ≡ get_or o k 0) → (o : List ℕ) (ds : List Draw)
      → Even B o → get_or (owners_after B o ds) k 0 ≡ get_or o k 0
  play-owner k f o ds E = play-keeps (λ l. get_or l k 0 ≡ get_or o k 0) (λ l d e q. f l d e ∙ q) o ds E refl

  module _ (u k : ℕ) (I : InUnit B u k) where
    -- slots of frozen units keep their owners
    step-frozen : B.frozen u ≡ true → (o : List ℕ) (d : Draw) → Even B o → get_or (step B o d) k 0 ≡ get_or o k 0
    unfolding step
    step-frozen z o d E = act-frozen B T (handed B o d) o E (decided B o d) (decided-lawful B o d E) u k I z

    pub play-frozen : B.frozen u ≡ true → (o : List ℕ) (ds : List Draw) → Even B o → get_or (owners_after B o ds) k 0 ≡ get_or o k 0
    play-frozen z = play-owner k (step-frozen z)

    -- no covered slot becomes uncovered
    step-covered : (o : List ℕ) (d : Draw) → Even B o → (get_or o k 0 ≡ nobody → ⊥) → get_or (step B o d) k 0 ≡ nobody → ⊥
    unfolding step
    step-covered o d E = act-covered B T (handed B o d) o E (decided B o d) (decided-lawful B o d E) u k I

    pub play-covered : (o : List ℕ) (ds : List Draw) → Even B o → (get_or o k 0 ≡ nobody → ⊥) → get_or (owners_after B o ds) k 0 ≡ nobody → ⊥
    play-covered = play-keeps (λ l. get_or l k 0 ≡ nobody → ⊥) step-covered

    -- only units that an acting draw hands over change owner
    step-only : (o : List ℕ) (d : Draw) → Even B o → eqb (answer B o d) 0 && handed B o d u ≡ false → get_or (step B o d) k 0 ≡ get_or o k 0
    unfolding step answer
    step-only o d E z =
        act-only B T (handed B o d) o E (decided B o d) (decided-lawful B o d E) u k I
        (λ e. ap (λ (b : Bool). b && handed B o d u) (sym (eq-eqb (answer_of (decided B o d)) 0 e)) ∙ z)

    pub play-only : (o : List ℕ) (ds : List Draw) → Even B o → touched B o ds u ≡ false → get_or (owners_after B o ds) k 0 ≡ get_or o k 0
    unfolding owners_after touched
    play-only o [] E z = refl
    play-only o (d ∷ ds) E z =
        let x = neither (eqb (answer B o d) 0 && handed B o d u) (touched B (step B o d) ds u) z in
        play-only (step B o d) ds (step-even o d E) x.1 ∙ step-only o d E x.0

  -- owners past the slots stay
  step_past : (k : ℕ) → B.slots ≤ k → (o : List ℕ) (d : Draw) → Even B o → get_or (step B o d) k 0 ≡ get_or o k 0
  unfolding step
  step_past k h o d E = act-past B T (handed B o d) o E (decided B o d) (decided-lawful B o d E) k h

  pub play-past : (k : ℕ) → B.slots ≤ k → (o : List ℕ) (ds : List Draw) → Even B o → get_or (owners_after B o ds) k 0 ≡ get_or o k 0
  play-past k h = play-owner k (step_past k h)
