-- What one draw keeps: each move it decides hands whole units, none frozen, to a person who fits them all. Assumes nothing.
use mathlib.Core.Path.{◌≡◌, refl, sym, ap, ◌∙◌, subst}
use mathlib.Core.Bool.{Bool, true, false}
use mathlib.Core.List.{List}
use mathlib.Core.Logic.{inl, inr}
use Prim.Native.Nat.{ℕ, suc, ◌≤◌, ◌<◌}
use native.Mathlib.Omega.{arith}
use borrow.Author.Tests.{eqb-true, eqb-false}
use lib.Dec.{eqb}
use Rattle.paper.proofs.Logic.{by-test}
use Rattle.rota.specs.declared.Move.{Move}
use Rattle.rota.specs.declared.Move.TheVariants.{Stay, Give, Trade}
use Rattle.rota.specs.Board.{Board, Even, owner_of}
use Rattle.rota.specs.Moves.{Draw, decided, answer_of, handed}
use Rattle.rota.specs.Acts.{RunMoves, Acts, reassigns, swaps, reassigns-run, swaps-runs, grows, shrinks}
use Rattle.rota.proofs.Acts.{another-says}
use Rattle.rota.proofs.Drawn.{draw-does, draw-acts, draw-ruled, handed-exactly}

-- ---- what a decided move hands over

-- slots a up to e are whole units of one owner, none frozen, each one of H, and go to person p, who fits them all
pub record Stretch (B : Board) (o : List ℕ) (H : ℕ → Bool) (a e p : ℕ) : Type 0 where
  pub first : ℕ
  pub last : ℕ
  pub starts : a ≡ B.from first
  pub ends : e ≡ B.upto last
  pub rise : first ≤ last
  pub below : last < B.units
  pub person : p < B.people
  pub clear : (u : ℕ) → first ≤ u → u ≤ last → B.frozen u ≡ false
  pub able : (u : ℕ) → first ≤ u → u ≤ last → B.fits p u ≡ true
  pub named : (u : ℕ) → first ≤ u → u ≤ last → H u ≡ true
  pub one : (u : ℕ) → first ≤ u → u ≤ last → owner_of B o u ≡ owner_of B o first

-- two stretches have no unit in common
abbrev pub Apart : {B : Board} {o : List ℕ} {H : ℕ → Bool} {a e p c g q : ℕ} → Stretch B o H a e p → Stretch B o H c g q → Type 0
Apart S T = (u : ℕ) → S.first ≤ u → u ≤ S.last → T.first ≤ u → u ≤ T.last → ⊥

pub record Traded (B : Board) (o : List ℕ) (H : ℕ → Bool) (a e p c g q : ℕ) : Type 0 where
  pub left : Stretch B o H a e p
  pub right : Stretch B o H c g q
  pub apart : Apart left right

abbrev pub Lawful : Board → List ℕ → (ℕ → Bool) → Move → Type 0
Lawful B o H (Stay n) = Unit {0}
Lawful B o H (Give a e p) = Stretch B o H a e p
Lawful B o H (Trade a e p c g q) = Traded B o H a e p c g q

module _ (B : Board) (o : List ℕ) (H : ℕ → Bool) where
  -- one unit
  abbrev single : (f p : ℕ) → f < B.units → p < B.people → B.frozen f ≡ false → B.fits p f ≡ true → H f ≡ true
      → Stretch B o H (B.from f) (B.upto f) p
  single f p h b c a n =
      record {
        first = f;
        last = f;
        starts = refl;
        ends = refl;
        rise = omega arith;
        below = h;
        person = b;
        clear = λ u x y. let e : u ≡ f = omega arith in ap B.frozen e ∙ c;
        able = λ u x y. let e : u ≡ f = omega arith in ap (B.fits p) e ∙ a;
        named = λ u x y. let e : u ≡ f = omega arith in ap H e ∙ n;
        one = λ u x y. let e : u ≡ f = omega arith in ap (owner_of B o) e;
      }

  -- a run of units
  abbrev span : (f a b p : ℕ) → RunMoves B o f a b → p < B.people → ((u : ℕ) → a ≤ u → u ≤ b → B.fits p u ≡ true)
      → ((u : ℕ) → a ≤ u → u ≤ b → H u ≡ true) → Stretch B o H (B.from a) (B.upto b) p
  span f a b p M r c n =
      let R = M.run in
      record {
        first = a;
        last = b;
        starts = refl;
        ends = refl;
        rise = omega (arith, R.from, R.to);
        below = R.fits;
        person = r;
        clear = M.clear;
        able = c;
        named = n;
        one = λ u x y. R.one u x y ∙ sym (R.one a (omega arith) (omega (arith, R.from, R.to)));
      }

module _ (B : Board) (o : List ℕ) (d : Draw) (E : Even B o) where
  abbrev H : ℕ → Bool
  H = handed B o d

  -- a draw that acts does so lawfully
  does-lawful : (A : Acts B o d) → Lawful B o (handed B o d) (draw-does B o d A)
  does-lawful (reassigns k hf A) =
      single B o H d.first A.to hf A.chosen.known A.unfrozen A.chosen.passes
      ((handed-exactly B o d (reassigns k hf A) d.first).1 refl)
  does-lawful (swaps k l hf hs A) =
      let f = d.first in
      let s = d.second in
      let n = handed-exactly B o d (swaps k l hf hs A) in
      record {
        left = single B o H f (owner_of B o s) hf (E.manned s hs A.second-owned).0 A.first-unfrozen A.first_fits
            ((n f).1 (inl refl));
        right = single B o H s (owner_of B o f) hs (E.manned f hf A.first-owned).0 A.second-unfrozen A.second_fits
            ((n s).1 (inr refl));
        apart = λ u a b c e. A.two-units (omega arith);
      }
  does-lawful (reassigns-run k l hf A) =
      span B o H d.first A.first A.last A.to A.moves A.chosen.known
      ((another-says B (owner_of B o d.first) A.first A.last A.to).0 A.chosen.passes).1
      (λ u x y. (handed-exactly B o d (reassigns-run k l hf A) u).1 (x, y))
  does-lawful (swaps-runs k l hf hs A) =
      let f = d.first in
      let s = d.second in
      let n = handed-exactly B o d (swaps-runs k l hf hs A) in
      record {
        left = span B o H f A.first A.last (owner_of B o s) A.moves (E.manned s hs A.moves2.owned).0 A.fits
            (λ u x y. (n u).1 (inl (x, y)));
        right = span B o H s A.first2 A.last2 (owner_of B o f) A.moves2 (E.manned f hf A.moves.owned).0 A.fits2
            (λ u x y. (n u).1 (inr (x, y)));
        apart = λ u a b c e. A.two-owners (sym (A.moves.run.one u a b) ∙ A.moves2.run.one u c e);
      }
  does-lawful (grows k l hf A) =
      single B o H A.before (owner_of B o d.first) (omega (arith, A.boundary.run.from)) (E.manned d.first hf A.boundary.owned).0 A.before-unfrozen A.fits ((handed-exactly B o d (grows k l hf A) A.before).1 refl)
  does-lawful (shrinks k l hf A) =
      let b : A.before < B.units = omega (arith, A.boundary.run.from) in
      single B o H (suc A.before) (owner_of B o A.before) (omega (arith, A.boundary.run.from)) (E.manned A.before b A.before-owned).0 A.first-unfrozen A.fits ((handed-exactly B o d (shrinks k l hf A) (suc A.before)).1 refl)

-- one that doesn't hands nothing over
still-lawful : (B : Board) (o : List ℕ) (H : ℕ → Bool) (m : Move) → (answer_of m ≡ 0 → ⊥) → Lawful B o H m
still-lawful B o H (Stay n) z = tt
still-lawful B o H (Give a e p) z = absurd (z refl)
still-lawful B o H (Trade a e p c g q) z = absurd (z refl)

-- what any draw decides is lawful: whole units of those it names, none frozen, to a person who fits them all
pub decided-lawful : (B : Board) (o : List ℕ) (d : Draw) → Even B o → Lawful B o (handed B o d) (decided B o d)
decided-lawful B o d E =
    by-test (eqb (answer_of (decided B o d)) 0) _
    (λ t.
    let A = (draw-ruled B o d).acted (eqb-true _ _ t) in
    subst (Lawful B o (handed B o d)) (sym (draw-acts B o d A)) (does-lawful B o d E A))
    (λ f. still-lawful B o (handed B o d) (decided B o d) (eqb-false _ _ f))
