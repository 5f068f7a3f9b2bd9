-- Each move acts exactly when the paper says, and answers 2 exactly when its choice lies outside. Assumes nothing.
use mathlib.Core.Path.{◌≡◌, refl, sym, ap, ap₂, ◌∙◌, subst}
use mathlib.Core.Bool.{Bool, true, false, cond, not}
use mathlib.Core.List.{List, [], ◌∷◌}
use mathlib.Core.Logic.{◌⊎◌, inl, inr, ◌↔◌}
use Prim.Native.Nat.{ℕ, suc, ◌-◌, ◌≤◌, ◌<◌}
use native.Mathlib.Omega.{arith}
use borrow.Author.Tests.{ne_eqb, eqb-true, eqb-false, le-ltb, ltb-true, ltb-false, not-true, not-false}
use lib.Dec.{eqb, ltb}
use Rattle.paper.specs.Limits.{nobody}
use Rattle.paper.proofs.Logic.{both, and-true}
use Rattle.paper.proofs.Count.{in-each, each_in, among-count}
use Rattle.rota.specs.declared.Move.{Move}
use Rattle.rota.specs.declared.Move.TheVariants.{Trade}
use Rattle.rota.specs.Board.{Board, owner_of, unowned, RunOf}
use Rattle.rota.specs.Moves.{any_of, give, movable, covers, run_first, run_last, domain_of, reassigned, swap_stays, swapped, others}
use Rattle.rota.specs.Moves.{run_reassigned, runs_stay, runs_swapped, grown, shrunk, shifted, answer_of}
use Rattle.rota.specs.Acts.{GivenBy, Chosen, Outside, ReassignActs, ReassignOutside, SwapActs, RunMoves, another, ReassignRunActs}
use Rattle.rota.specs.Acts.{ReassignRunOutside, SwapRunsActs, Boundary, GrowActs, ShrinkActs, ShiftOutside}
use Rattle.rota.proofs.Runs.{run_is, run_only}
use Rattle.rota.proofs.Choices.{none_of, chosen_at, chosen-one}
use Rattle.rota.proofs.Choices.{Ruled, said, moves, either, no-move-if, outside-if, picks, said-as}

-- ---- the five moves

-- units x to y go to the owner of s, and units z to v to the owner of f
abbrev pub swap-does : Board → List ℕ → ℕ → ℕ → ℕ → ℕ → ℕ → ℕ → Move
swap-does B o f s x y z v = Trade (B.from x) (B.upto y) (owner_of B o s) (B.from z) (B.upto v) (owner_of B o f)

pub has-owner : (B : Board) (o : List ℕ) (u : ℕ) → (owner_of B o u ≡ nobody → ⊥) → unowned B o u ≡ false
unfolding unowned
has-owner B o u n = ne_eqb (owner_of B o u) nobody n

owned : (B : Board) (o : List ℕ) (u : ℕ) → unowned B o u ≡ false → owner_of B o u ≡ nobody → ⊥
unfolding unowned
owned B o u f = eqb-false _ _ f

-- a run that may move, unit by unit; one that a person can cover
span-clear : (B : Board) (a b : ℕ) → movable B a b ≡ true → (u : ℕ) → a ≤ u → u ≤ b → B.frozen u ≡ false
unfolding movable
span-clear B a b m u x y = not-true _ (in-each a (suc b) (λ v. not (B.frozen v)) m u x (omega arith))

span-able : (B : Board) (a b p : ℕ) → covers B a b p ≡ true → (u : ℕ) → a ≤ u → u ≤ b → B.fits p u ≡ true
unfolding covers
span-able B a b p c u x y = in-each a (suc b) (B.fits p) c u x (omega arith)

clear-span : (B : Board) (a b : ℕ) → ((u : ℕ) → a ≤ u → u ≤ b → B.frozen u ≡ false) → movable B a b ≡ true
unfolding movable
clear-span B a b c = each_in a (suc b) (λ u. not (B.frozen u)) (λ u x y. ap not (c u x (omega arith)))

abbrev Able : Board → ℕ → ℕ → ℕ → Type 0
Able B p a b = (u : ℕ) → a ≤ u → u ≤ b → B.fits p u ≡ true

able-span : (B : Board) (a b p : ℕ) → Able B p a b → covers B a b p ≡ true
unfolding covers
able-span B a b p c = each_in a (suc b) (B.fits p) (λ u x y. c u x (omega arith))

-- another is somebody else who fits each unit
pub another-says : (B : Board) (w a b p : ℕ)
    → (another B w a b p ≡ true) ↔ ((p ≡ w → ⊥) × ((u : ℕ) → a ≤ u → u ≤ b → B.fits p u ≡ true))
another-says B w a b p = (
  λ e.
      let r = both (not (eqb p w)) (covers B a b p) e in
      (eqb-false p w (not-true _ r.0), span-able B a b p r.1),
  λ h. and-true _ _ (ap not (ne_eqb p w h.0)) (able-span B a b p h.1),
)

-- the run of a unit
pub run_of : (B : Board) (o : List ℕ) (u : ℕ) → u < B.units → RunOf B.units (owner_of B o) u (run_first B o u) (run_last B o u)
unfolding run_first run_last
run_of B o u h = run_is (owner_of B o) B.units u h

module _ (B : Board) (o : List ℕ) (f s : ℕ) where
  pub reassign-ruled : Ruled (ReassignActs B o f s) (ReassignOutside B f s) (λ A. give B f f A.to) (reassigned B o f s)
  unfolding reassigned domain_of any_of
  reassign-ruled =
      let q : ℕ → Bool = λ p. B.fits p f in
      no-move-if _ _ _ (B.frozen f ∷ []) _ (λ A. simp A.unfrozen) (λ C. simp C.unfrozen)
      (λ t.
      let unfrozen = none_of (B.frozen f ∷ []) t 0 in
      picks _ _ _ _ q B.people s (λ A. (A.to, A.chosen)) (λ C. C.outside) (λ c. record { unfrozen = unfrozen; outside = c })
      (λ p c.
      let same : (A : ReassignActs B o f s) → A.to ≡ p = λ A. chosen-one q B.people s A.to p A.chosen c in
      let within = chosen_at q B.people s p c in
      let count = among-count q B.people in
      no-move-if _ _ _ (eqb p (owner_of B o f) ∷ []) _ (λ A. simp (ne_eqb p (owner_of B o f) (λ e. A.other (same A ∙ e))))
      (λ C. absurd (omega (arith, C.outside.beyond, within.0, count)))
      (λ n. moves _ _ _ _ refl
      record { to = p; unfrozen = unfrozen; chosen = c; other = eqb-false _ _ (none_of (eqb p (owner_of B o f) ∷ []) n 0) }
      (λ A. ap (give B f f) (sym (same A)))
      (λ C. omega (arith, C.outside.beyond, within.0, count)))))

  pub swap-ruled : Ruled (SwapActs B o f s) ⊥
      (λ _. swap-does B o f s f f s s) (swapped B o f s)
  unfolding swapped any_of
  swap-ruled =
      no-move-if _ _ _ (swap_stays B o f s) _
      (λ A. simp (
        A.first-unfrozen,
        A.second-unfrozen,
        ne_eqb f s A.two-units,
        has-owner B o f A.first-owned,
        has-owner B o s A.second-owned,
        ne_eqb (owner_of B o f) (owner_of B o s) A.two-owners,
        A.first_fits,
        A.second_fits,
      ))
      (λ c. absurd c)
      (λ n.
      let t = none_of (swap_stays B o f s) n in
      moves _ _ _ _ refl
      record {
        first-unfrozen = t 0;
        second-unfrozen = t 1;
        two-units = eqb-false _ _ (t 2);
        first-owned = owned B o f (t 3);
        second-owned = owned B o s (t 4);
        two-owners = eqb-false _ _ (t 5);
        first_fits = not-false _ (t 6);
        second_fits = not-false _ (t 7);
      } (λ _. refl) (λ c. c))

-- the ends of a run are those that the move works out, so what is said of one run is said of the other
module _ (B : Board) (o : List ℕ) (f x y : ℕ) (R : RunOf B.units (owner_of B o) f x y) where
  pub same_ends : (x ≡ run_first B o f) × (y ≡ run_last B o f)
  unfolding run_first run_last
  same_ends = run_only (owner_of B o) B.units f x y (omega (arith, R.to, R.fits)) R

  at-ends {ℓ} : (Q : ℕ → ℕ → Type ℓ) → Q x y → Q (run_first B o f) (run_last B o f)
  at-ends Q h = subst (Q (run_first B o f)) same_ends.1 (subst (λ (v : ℕ). Q v y) same_ends.0 h)

module _ (B : Board) (o : List ℕ) (f : ℕ) where
  -- the run of unit f as it is worked out
  abbrev a : ℕ
  a = run_first B o f

  abbrev b : ℕ
  b = run_last B o f

  moves-here : (x y : ℕ) → RunMoves B o f x y → RunMoves B o f a b
  moves-here x y M = at-ends B o f x y M.run (RunMoves B o f) M

  may-move : (x y : ℕ) → RunMoves B o f x y → movable B a b ≡ true
  may-move x y M = clear-span B a b (moves-here x y M).clear

  moves-said : f < B.units → B.frozen f ≡ false → unowned B o f ≡ false → not (movable B a b) ≡ false → RunMoves B o f a b
  moves-said h z n m =
      record { unfrozen = z; owned = owned B o f n; run = run_of B o f h; clear = span-clear B a b (not-false _ m) }

  module _ (s : ℕ) (hf : f < B.units) where
    pub reassign-run-ruled : Ruled (ReassignRunActs B o f s) (ReassignRunOutside B o f s) (λ A. give B A.first A.last A.to)
        (run_reassigned B o f s)
    unfolding run_reassigned others any_of
    reassign-run-ruled =
        let w = owner_of B o f in
        let q = another B w a b in
        let ts : List Bool = B.frozen f ∷ unowned B o f ∷ not (movable B a b) ∷ [] in
        let may : (x y : ℕ) → RunMoves B o f x y → any_of ts ≡ false = λ x y M. simp (
          M.unfrozen,
          has-owner B o f
              M.owned,
          may-move x y M,
        ) in
        let n = among-count q B.people in
        let there : ReassignRunOutside B o f s → Outside q B.people s = λ C.
        at-ends B o f C.first C.last C.moves.run (λ x y. Outside (another B w x y) B.people s) C.outside in
        let chosen : (A : ReassignRunActs B o f s) → Chosen q B.people s A.to = λ A.
        at-ends B o f A.first A.last A.moves.run (λ x y. Chosen (another B w x y) B.people s A.to) A.chosen in
        no-move-if _ _ _ ts _ (λ A. may A.first A.last A.moves) (λ C. may C.first C.last C.moves)
        (λ e.
        let t = none_of ts e in
        let M = moves-said hf (t 0) (t 1) (t 2) in
        picks _ _ _ _ q B.people s (λ A. (A.to, chosen A)) there
        (λ c. record { first = a; last = b; moves = M; outside = c })
        (λ p c. moves _ _ _ _ refl record { first = a; last = b; to = p; moves = M; chosen = c }
        (λ A.
        let e = same_ends B o f A.first A.last A.moves.run in
        ap₂ (λ (x y : ℕ). give B x y p) (sym e.0) (sym e.1)
        ∙ ap (give B A.first A.last) (chosen-one q B.people s p A.to c (chosen A)))
        (λ C. omega (arith, (there C).beyond, (chosen_at q B.people s p c).0, n))))

  -- ---- the boundary before the run of unit f

  pub boundary-at : (x y : ℕ) → Boundary B o f x y → suc x ≡ a
  boundary-at x y W = (same_ends B o f (suc x) y W.run).0

  boundary-said : f < B.units → (a ≡ 0 → ⊥) → B.frozen f ≡ false → (owner_of B o f ≡ nobody → ⊥) → Boundary B o f (a - 1) b
  boundary-said h z c n =
      let e : a ≡ suc (a - 1) = omega arith in
      record { unfrozen = c; owned = n; run = subst (λ (v : ℕ). RunOf B.units (owner_of B o) f v b) e (run_of B o f h) }

  module _ (s : ℕ) (hf : f < B.units) (unfrozen : B.frozen f ≡ false) (own : owner_of B o f ≡ nobody → ⊥) where
    grow-ruled : s ≡ 1 → Ruled (GrowActs B o f s) ⊥ (λ G. give B G.before G.before (owner_of B o f)) (grown B (owner_of B o f) a)
    unfolding grown any_of
    grow-ruled c =
        let w = owner_of B o f in
        let ts : List Bool = eqb a 0 ∷ B.frozen (a - 1) ∷ not (B.fits w (a - 1)) ∷ [] in
        let same : (G : GrowActs B o f s) → a - 1 ≡ G.before = λ G. omega (arith, boundary-at G.before G.last G.boundary) in
        no-move-if _ _ _ ts _
        (λ G. simp (
          ne_eqb a 0 (λ z. omega (arith, boundary-at G.before G.last G.boundary)),
          ap B.frozen (same G) ∙ G.before-unfrozen,
          ap (B.fits w) (same G) ∙ G.fits,
        )) (λ x. absurd x)
        (λ e.
        let t = none_of ts e in
        moves _ _ _ _ refl
        record {
          choice = c;
          before = a - 1;
          last = b;
          boundary = boundary-said hf (eqb-false _ _ (t 0)) unfrozen own;
          before-unfrozen = t 1;
          fits = not-false _ (t 2);
        } (λ G. ap (λ (v : ℕ). give B v v w) (same G)) (λ x. x))

    shrink-ruled : s ≡ 0 → Ruled (ShrinkActs B o f s) ⊥
        (λ G. give B (suc G.before) (suc G.before) (owner_of B o G.before)) (shrunk B o a b)
    unfolding shrunk any_of
    shrink-ruled c =
        let w = owner_of B o (a - 1) in
        let ts : List Bool = eqb a 0 ∷ eqb a b ∷ unowned B o (a - 1) ∷ B.frozen a ∷ not (B.fits w a) ∷ [] in
        let R = run_of B o f hf in
        let at : (G : ShrinkActs B o f s) → suc G.before ≡ a = λ G. boundary-at G.before G.last G.boundary in
        let end : (G : ShrinkActs B o f s) → G.last ≡ b = λ G. (same_ends B o f (suc G.before) G.last G.boundary.run).1 in
        let same : (G : ShrinkActs B o f s) → a - 1 ≡ G.before = λ G. omega (arith, at G) in
        let who : (G : ShrinkActs B o f s) → w ≡ owner_of B o G.before = λ G. ap (owner_of B o) (same G) in
        no-move-if _ _ _ ts _
        (λ G. simp (
          ne_eqb a 0 (λ z. omega (arith, at G)),
          ne_eqb a b (λ z. omega (arith, at G, end G, G.more)),
          has-owner B o (a - 1) (λ z. G.before-owned (sym (who G) ∙ z)),
          ap B.frozen (sym (at G)) ∙ G.first-unfrozen,
          ap₂ B.fits (who G) (sym (at G)) ∙ G.fits,
        )) (λ x. absurd x)
        (λ e.
        let t = none_of ts e in
        let z = eqb-false a 0 (t 0) in
        let first : suc (a - 1) ≡ a = omega arith in
        moves _ _ _ _ refl
        record {
          choice = c;
          before = a - 1;
          last = b;
          boundary = boundary-said hf z unfrozen own;
          more = omega (arith, R.from, R.to, eqb-false a b (t 1));
          before-owned = owned B o (a - 1) (t 2);
          first-unfrozen = ap B.frozen first ∙ t 3;
          fits = ap (B.fits w) first ∙ not-false _ (t 4);
        }
        (λ G. ap₂ (λ (x y : ℕ). give B x x (owner_of B o y)) (sym (at G)) (same G)) (λ x. x))

-- what the shift of a boundary does, on either side
abbrev pub shift-does : (B : Board) (o : List ℕ) (f s : ℕ) → GrowActs B o f s ⊎ ShrinkActs B o f s → Move
shift-does B o f s (inl G) = give B G.before G.before (owner_of B o f)
shift-does B o f s (inr G) = give B (suc G.before) (suc G.before) (owner_of B o G.before)

shift-moves : (B : Board) (o : List ℕ) (f s : ℕ) (A : GrowActs B o f s ⊎ ShrinkActs B o f s) → answer_of (shift-does B o f s A) ≡ 0
shift-moves B o f s (inl G) = refl
shift-moves B o f s (inr G) = refl

module _ (B : Board) (o : List ℕ) (f s : ℕ) (hf : f < B.units) where
  abbrev Sides : Type 0
  Sides = GrowActs B o f s ⊎ ShrinkActs B o f s

  ruled-by-second : B.frozen f ≡ false → (owner_of B o f ≡ nobody → ⊥) → s ≤ 1
      → Ruled Sides (ShiftOutside B o f s) (shift-does B o f s)
      (cond (eqb s 1) (grown B (owner_of B o f) (run_first B o f)) (shrunk B o (run_first B o f) (run_last B o f)))
  ruled-by-second unfrozen own low =
      either _ _ _ (eqb s 1) _ _
      (λ t.
      let c = eqb-true s 1 t in
      said-as _ _ _ _ _ _ _ inl (as-grow c) (as-grow-same c) (λ x. absurd x) (λ C. omega (arith, C.beyond))
      (grow-ruled B o f s hf unfrozen own c))
      (λ t.
      let n = eqb-false s 1 t in
      let c : s ≡ 0 = omega arith in
      said-as _ _ _ _ _ _ _ inr (as-shrink c) (as-shrink-same c) (λ x. absurd x) (λ C. omega (arith, C.beyond))
      (shrink-ruled B o f s hf unfrozen own c))
    where
      as-grow : s ≡ 1 → Sides → GrowActs B o f s
      as-grow c (inl G) = G
      as-grow c (inr G) = absurd (omega (arith, G.choice))

      as-grow-same : (c : s ≡ 1) (x : Sides) → give B (as-grow c x).before (as-grow c x).before (owner_of B o f) ≡ shift-does B o f s x
      as-grow-same c (inl G) = refl
      as-grow-same c (inr G) = absurd (omega (arith, G.choice))

      as-shrink : s ≡ 0 → Sides → ShrinkActs B o f s
      as-shrink c (inl G) = absurd (omega (arith, G.choice))
      as-shrink c (inr G) = G

      as-shrink-same : (c : s ≡ 0) (x : Sides)
          → give B (suc (as-shrink c x).before) (suc (as-shrink c x).before) (owner_of B o (as-shrink c x).before) ≡ shift-does B o f s x
      as-shrink-same c (inl G) = absurd (omega (arith, G.choice))
      as-shrink-same c (inr G) = refl

  pub shift-ruled : Ruled Sides (ShiftOutside B o f s) (shift-does B o f s) (shifted B o f s)
  unfolding shifted any_of
  shift-ruled =
      let ts : List Bool = B.frozen f ∷ unowned B o f ∷ [] in
      no-move-if _ _ _ ts _ (λ x. may (unfrozen-of x) (owned-of x)) (λ C. may C.unfrozen C.owned)
      (λ e.
      let t = none_of ts e in
      let own = owned B o f (t 1) in
      outside-if _ _ _ (ltb 1 s ∷ []) _ (λ x. simp (low x))
      (λ u. record { unfrozen = t 0; owned = own; beyond = ltb-true 1 s (sym (mathlib.Core.Bool.or-false (ltb 1 s)) ∙ u) })
      (λ n. ruled-by-second (t 0) own (ltb-false 1 s (none_of (ltb 1 s ∷ []) n 0))))
    where
      may : B.frozen f ≡ false → (owner_of B o f ≡ nobody → ⊥) → any_of (B.frozen f ∷ unowned B o f ∷ []) ≡ false
      may c n = simp (c, has-owner B o f n)

      unfrozen-of : Sides → B.frozen f ≡ false
      unfrozen-of (inl G) = G.boundary.unfrozen
      unfrozen-of (inr G) = G.boundary.unfrozen

      owned-of : Sides → owner_of B o f ≡ nobody → ⊥
      owned-of (inl G) = G.boundary.owned
      owned-of (inr G) = G.boundary.owned

      low : Sides → ltb 1 s ≡ false
      low (inl G) = le-ltb 1 s (omega (arith, G.choice))
      low (inr G) = le-ltb 1 s (omega (arith, G.choice))

  -- ---- swap runs

  module _ (hs : s < B.units) where
    pub swap-runs-ruled : Ruled (SwapRunsActs B o f s) ⊥
        (λ A. swap-does B o f s A.first A.last A.first2 A.last2) (runs_swapped B o f s)
    unfolding runs_swapped any_of
    swap-runs-ruled =
        let a = run_first B o f in
        let b = run_last B o f in
        let c = run_first B o s in
        let d = run_last B o s in
        let left = owner_of B o f in
        let right = owner_of B o s in
        let ts = runs_stay B o f s a b c d in
        let one : (A : SwapRunsActs B o f s) → (A.first ≡ a) × (A.last ≡ b) = λ A.
        same_ends B o f A.first A.last A.moves.run in
        let two : (A : SwapRunsActs B o f s) → (A.first2 ≡ c) × (A.last2 ≡ d) = λ A.
        same_ends B o s A.first2 A.last2 A.moves2.run in
        no-move-if _ _ _ ts _
        (λ A. simp (
          A.moves.unfrozen,
          A.moves2.unfrozen,
          has-owner B o f A.moves.owned,
          has-owner B o s A.moves2.owned,
          ne_eqb a c (λ e. A.two_runs ((one A).0 ∙ e ∙ sym (two A).0)),
          ne_eqb left right A.two-owners,
          may-move B o f A.first A.last A.moves,
          may-move B o s A.first2 A.last2 A.moves2,
          able-span B a b right (at-ends B o f A.first A.last A.moves.run (Able B right) A.fits),
          able-span B c d left (at-ends B o s A.first2 A.last2 A.moves2.run (Able B left) A.fits2),
        )) (λ x. absurd x)
        (λ e.
        let t = none_of ts e in
        moves _ _ _ _ refl
        record {
          first = a;
          last = b;
          first2 = c;
          last2 = d;
          moves = moves-said B o f hf (t 0) (t 2) (t 6);
          moves2 = moves-said B o s hs (t 1) (t 3) (t 7);
          two_runs = eqb-false a c (t 4);
          two-owners = eqb-false left right (t 5);
          fits = span-able B a b right (not-false _ (t 8));
          fits2 = span-able B c d left (not-false _ (t 9));
        }
        (λ A.
        ap₂ (λ (x y : ℕ). swap-does B o f s x y c d) (sym (one A).0) (sym (one A).1)
        ∙ ap₂ (swap-does B o f s A.first A.last) (sym (two A).0) (sym (two A).1))
        (λ x. x))

-- ---- each move acts exactly when the paper says, and answers 2 exactly when its choice lies outside

module _ (B : Board) (o : List ℕ) (f s : ℕ) where
  pub reassign-acts-exactly : GivenBy (answer_of (reassigned B o f s)) (ReassignActs B o f s) (ReassignOutside B f s)
  reassign-acts-exactly = said _ _ _ _ (λ _. refl) (reassign-ruled B o f s)

  pub swap-acts-exactly : GivenBy (answer_of (swapped B o f s)) (SwapActs B o f s) ⊥
  swap-acts-exactly = said _ _ _ _ (λ _. refl) (swap-ruled B o f s)

  module _ (hf : f < B.units) where
    pub reassign-run-acts-exactly : GivenBy (answer_of (run_reassigned B o f s)) (ReassignRunActs B o f s) (ReassignRunOutside B o f s)
    reassign-run-acts-exactly = said _ _ _ _ (λ _. refl) (reassign-run-ruled B o f s hf)

    pub swap-runs-acts-exactly : s < B.units → GivenBy (answer_of (runs_swapped B o f s)) (SwapRunsActs B o f s) ⊥
    swap-runs-acts-exactly hs = said _ _ _ _ (λ _. refl) (swap-runs-ruled B o f s hf hs)

    pub shift-acts-exactly : GivenBy (answer_of (shifted B o f s)) (GrowActs B o f s ⊎ ShrinkActs B o f s) (ShiftOutside B o f s)
    shift-acts-exactly = said _ _ _ _ (shift-moves B o f s) (shift-ruled B o f s hf)
