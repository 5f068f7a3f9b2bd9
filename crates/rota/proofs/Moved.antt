-- What each test of a move comes to, over plain values: the answers of the functions that judge a draw. Assumes nothing.
use mathlib.Core.Path.{◌≡◌, refl, sym, ap, ap₂, ◌∙◌}
use mathlib.Core.Bool.{Bool, true, false, cond, not, ◌&&◌}
use mathlib.Core.List.{List, [], ◌∷◌}
use Prim.Native.Nat.{ℕ, ◌+◌, ◌-◌, ◌≤◌, ◌<◌}
use native.Mathlib.Numerals.{add-one}
use native.Mathlib.Omega.{arith}
use borrow.Author.Tests.{eq-eqb, ne_eqb, lt-ltb, le-ltb}
use lib.Dec.{eqb, ltb}
use lib.ListN.{get_or}
use Rattle.paper.specs.Limits.{nobody}
use Rattle.paper.specs.Count.{all_in, among}
use Rattle.paper.proofs.Logic.{four}
use Rattle.paper.proofs.Count.{among_same}
use Rattle.rota.specs.declared.Pick.{Pick}
use Rattle.rota.specs.declared.Pick.TheVariants.{Nobody, Beyond, Person}
use Rattle.rota.specs.declared.Move.{Move}
use Rattle.rota.specs.declared.Move.TheVariants.{Stay, Trade}
use Rattle.rota.specs.Board.{Board, owner_of, unowned, run_start, run_end}
use Rattle.units.specs.Domains.{in_mask}
use Rattle.rota.specs.Ready.{fits_by}
use Rattle.rota.specs.Moves.{any_of, stay_if, give, movable, covers, run_first, run_last, picked, on_pick, domain_of, reassigned, swap_stays}
use Rattle.rota.specs.Moves.{swapped}
use Rattle.rota.specs.Moves.{others, run_reassigned, runs_stay, runs_swapped, grown, shrunk, shifted}
use Rattle.rota.proofs.Runs.{run_is}
use Rattle.rota.proofs.Acts.{has-owner}
use Rattle.rota.proofs.Judged.{stays, stays_by, goes}

nobody-owns : (B : Board) (o : List ℕ) (u w : ℕ) → w ≡ owner_of B o u → w ≡ nobody → unowned B o u ≡ true
unfolding unowned
nobody-owns B o u w e q = eq-eqb _ _ (sym e ∙ q)

somebody-owns : (B : Board) (o : List ℕ) (u w : ℕ) → w ≡ owner_of B o u → (w ≡ nobody → ⊥) → unowned B o u ≡ false
somebody-owns B o u w e n = has-owner B o u (λ q. n (e ∙ q))

-- ---- reassign

-- the pick from a mask with nobody left out
pub pick_all : (q : ℕ → Bool) (people k : ℕ) (r : Pick) → people ≤ 32 → r ≡ picked (among (λ p. not (eqb p nobody) && q p) people) k
    → r ≡ picked (among q people) k
pick_all q people k r few e =
    e ∙ ap (λ (l : List ℕ). picked l k)
    (among_same (λ p. not (eqb p nobody) && q p) q people (λ p h. ap (λ (b : Bool). not b && q p) (ne_eqb p nobody (λ z. omega arith))))

module _ (B : Board) (o : List ℕ) (f s : ℕ) where
  pub reassign-frozen : B.frozen f ≡ true → Stay 1 ≡ reassigned B o f s
  unfolding reassigned
  reassign-frozen e = stays (B.frozen f ∷ []) 1 _ 0 e

  module _ (r v : Pick) (z : B.frozen f ≡ false) (d : r ≡ picked (domain_of B f) s) (q : r ≡ v) where
    reassign-as : on_pick (λ p. stay_if (eqb p (owner_of B o f) ∷ []) 1 (give B f f p)) v ≡ reassigned B o f s
    unfolding reassigned any_of
    reassign-as =
        goes (B.frozen f ∷ []) 1 _ _ (simp z)
        (ap (on_pick (λ p. stay_if (eqb p (owner_of B o f) ∷ []) 1 (give B f f p))) (sym q ∙ d))

  module _ (r : Pick) (z : B.frozen f ≡ false) (d : r ≡ picked (domain_of B f) s) where
    pub reassign-nobody : r ≡ Nobody → Stay 1 ≡ reassigned B o f s
    reassign-nobody q = reassign-as r Nobody z d q

    pub reassign-beyond : r ≡ Beyond → Stay 2 ≡ reassigned B o f s
    reassign-beyond q = reassign-as r Beyond z d q

    module _ (p w : ℕ) (q : r ≡ Person p) (ew : w ≡ owner_of B o f) where
      pub reassign-kept : p ≡ w → Stay 1 ≡ reassigned B o f s
      reassign-kept h =
          stays (eqb p (owner_of B o f) ∷ []) 1 (give B f f p) 0 (eq-eqb _ _ (h ∙ ew)) ∙ reassign-as r (Person p) z d q

      pub reassign-given : (m : Move) → (p ≡ w → ⊥) → m ≡ give B f f p → m ≡ reassigned B o f s
      unfolding any_of
      reassign-given m h e =
          goes (eqb p (owner_of B o f) ∷ []) 1 (give B f f p) m (simp (ne_eqb p (owner_of B o f) (λ x. h (x ∙ sym ew)))) e
          ∙ reassign-as r (Person p) z d q

-- a person who is somebody by another name doesn't fit
pub unfit : (fits : List ℕ) (u w v : ℕ) {r : Bool} → r ≡ fits_by fits w u → w ≡ v → not r ≡ not (fits_by fits v u)
unfit fits u w v e q = ap not (e ∙ ap (λ (x : ℕ). fits_by fits x u) q)

-- ---- swap units

module _ (B : Board) (o : List ℕ) (f s : ℕ) where
  pub swap-stays : any_of (swap_stays B o f s) ≡ true → Stay 1 ≡ swapped B o f s
  unfolding swapped
  swap-stays e = stays_by (swap_stays B o f s) 1 _ e

  pub swap-acts : (m : Move) (w v : ℕ) → w ≡ owner_of B o f → v ≡ owner_of B o s → any_of (swap_stays B o f s) ≡ false
      → m ≡ Trade (B.from f) (B.upto f) v (B.from s) (B.upto s) w → m ≡ swapped B o f s
  unfolding swapped
  swap-acts m w v ew ev e t =
      goes (swap_stays B o f s) 1 _ m e
      (t ∙ ap₂ (λ (x y : ℕ). Trade (B.from f) (B.upto f) x (B.from s) (B.upto s) y) ev ew)

-- ---- runs

-- a run from a to b has a unit, and none past the unit count
pub run_room : (w : ℕ → ℕ) (units u a b : ℕ) → u < units → a ≡ run_start w u → b ≡ run_end units w u → (a < b + 1) × (b + 1 ≤ units)
run_room w units u a b h p q =
    let R = run_is w units u h in
    (omega (arith, p, q, R.from, R.to), omega (arith, q, R.fits))

movable-one : (B : Board) (a b : ℕ) → all_in a (b + 1) (λ u. not (B.frozen u)) ≡ movable B a b
unfolding movable
movable-one B a b = ap (λ (e : ℕ). all_in a e (λ u. not (B.frozen u))) (add-one b)

covers_one : (B : Board) (a b p : ℕ) → all_in a (b + 1) (B.fits p) ≡ covers B a b p
unfolding covers
covers_one B a b p = ap (λ (e : ℕ). all_in a e (B.fits p)) (add-one b)

-- ---- reassign run

module _ (B : Board) (o : List ℕ) (f s w : ℕ) (ew : w ≡ owner_of B o f) where
  abbrev run-tests : ℕ → ℕ → List Bool
  run-tests a b = B.frozen f ∷ unowned B o f ∷ not (movable B a b) ∷ []

  pub run-frozen : B.frozen f ≡ true → Stay 1 ≡ run_reassigned B o f s
  unfolding run_reassigned
  run-frozen e = stays (run-tests (run_first B o f) (run_last B o f)) 1 _ 0 e

  pub run-unowned : w ≡ nobody → Stay 1 ≡ run_reassigned B o f s
  unfolding run_reassigned
  run-unowned e = stays (run-tests (run_first B o f) (run_last B o f)) 1 _ 1 (nobody-owns B o f w ew e)

  module _ (a b : ℕ) (ea : a ≡ run_first B o f) (eb : b ≡ run_last B o f) where
    pub run-stuck : all_in a (b + 1) (λ u. not (B.frozen u)) ≡ false → Stay 1 ≡ run_reassigned B o f s
    unfolding run_reassigned
    run-stuck e =
        stays (run-tests (run_first B o f) (run_last B o f)) 1 _ 2
        (ap not (sym (ap₂ (movable B) ea eb) ∙ sym (movable-one B a b) ∙ e))

    module _ (r : Pick) (mask : ℕ) (fr : B.frozen f ≡ false) (nw : w ≡ nobody → ⊥) (mv : all_in a (b + 1) (λ u. not (B.frozen u)) ≡ true)
        (few : B.people ≤ 32) (cover : (p : ℕ) → p < 32 → in_mask mask p ≡ all_in a (b + 1) (B.fits p))
        (d : r ≡ picked (among (λ p. not (eqb p w) && in_mask mask p) B.people) s) where
      others-as : r ≡ picked (others B (owner_of B o f) (run_first B o f) (run_last B o f)) s
      unfolding others
      others-as =
          d ∙ ap (λ (l : List ℕ). picked l s)
          (among_same _ _ B.people
          (λ p h. ap₂ (λ (x : ℕ) (t : Bool). not (eqb p x) && t) ew
          (cover p (omega arith) ∙ covers_one B a b p ∙ ap₂ (λ (x y : ℕ). covers B x y p) ea eb)))

      run-as : (v : Pick) → r ≡ v → on_pick (give B (run_first B o f) (run_last B o f)) v ≡ run_reassigned B o f s
      unfolding run_reassigned any_of
      run-as v q =
          goes (run-tests (run_first B o f) (run_last B o f)) 1 _ _
          (simp (fr, somebody-owns B o f w ew nw, sym (ap₂ (movable B) ea eb) ∙ sym (movable-one B a b) ∙ mv))
          (ap (on_pick (give B (run_first B o f) (run_last B o f))) (sym q ∙ others-as))

      pub run-nobody : r ≡ Nobody → Stay 1 ≡ run_reassigned B o f s
      run-nobody q = run-as Nobody q

      pub run-beyond : r ≡ Beyond → Stay 2 ≡ run_reassigned B o f s
      run-beyond q = run-as Beyond q

      pub run-given : (p : ℕ) (m : Move) → r ≡ Person p → m ≡ give B a b p → m ≡ run_reassigned B o f s
      run-given p m q e = e ∙ ap₂ (λ (x y : ℕ). give B x y p) ea eb ∙ run-as (Person p) q

-- ---- swap runs

-- one of four tests fails
some-fails : (p q r t : Bool) (X : Type 0) → p && (q && (r && t)) ≡ false → (p ≡ false → X) → (q ≡ false → X) → (r ≡ false → X)
    → (t ≡ false → X) → X
some-fails false q r t X e g h i j = g refl
some-fails true false r t X e g h i j = h refl
some-fails true true false t X e g h i j = i refl
some-fails true true true t X e g h i j = j e

module _ (B : Board) (o : List ℕ) (f s : ℕ) where
  runs-stay : (k : ℕ) → get_or (runs_stay B o f s (run_first B o f) (run_last B o f) (run_first B o s) (run_last B o s)) k false ≡ true
      → Stay 1 ≡ runs_swapped B o f s
  unfolding runs_swapped
  runs-stay k e = stays (runs_stay B o f s (run_first B o f) (run_last B o f) (run_first B o s) (run_last B o s)) 1 _ k e

  pub runs-first-frozen : B.frozen f ≡ true → Stay 1 ≡ runs_swapped B o f s
  runs-first-frozen e = runs-stay 0 e

  pub runs-second-frozen : B.frozen s ≡ true → Stay 1 ≡ runs_swapped B o f s
  runs-second-frozen e = runs-stay 1 e

  module _ (w v : ℕ) (ew : w ≡ owner_of B o f) (ev : v ≡ owner_of B o s) where
    pub runs-first-unowned : w ≡ nobody → Stay 1 ≡ runs_swapped B o f s
    runs-first-unowned e = runs-stay 2 (nobody-owns B o f w ew e)

    pub runs-second-unowned : v ≡ nobody → Stay 1 ≡ runs_swapped B o f s
    runs-second-unowned e = runs-stay 3 (nobody-owns B o s v ev e)

    pub runs-owner : w ≡ v → Stay 1 ≡ runs_swapped B o f s
    runs-owner e = runs-stay 5 (eq-eqb _ _ (sym ew ∙ e ∙ ev))

    module _ (a b c d : ℕ) (ea : a ≡ run_first B o f) (eb : b ≡ run_last B o f) (ec : c ≡ run_first B o s) (ed : d ≡ run_last B o s) where
      pub runs_same : a ≡ c → Stay 1 ≡ runs_swapped B o f s
      runs_same e = runs-stay 4 (eq-eqb _ _ (sym ea ∙ e ∙ ec))

      abbrev first-moves : Bool
      first-moves = all_in a (b + 1) (λ u. not (B.frozen u))

      abbrev second-moves : Bool
      second-moves = all_in c (d + 1) (λ u. not (B.frozen u))

      abbrev first_fits : Bool
      first_fits = all_in a (b + 1) (B.fits v)

      abbrev second_fits : Bool
      second_fits = all_in c (d + 1) (B.fits w)

      first-moves-is : first-moves ≡ movable B (run_first B o f) (run_last B o f)
      first-moves-is = movable-one B a b ∙ ap₂ (movable B) ea eb

      second-moves-is : second-moves ≡ movable B (run_first B o s) (run_last B o s)
      second-moves-is = movable-one B c d ∙ ap₂ (movable B) ec ed

      first-fits-is : first_fits ≡ covers B (run_first B o f) (run_last B o f) (owner_of B o s)
      first-fits-is = covers_one B a b v ∙ ap₂ (λ (x y : ℕ). covers B x y v) ea eb ∙ ap (covers B (run_first B o f) (run_last B o f)) ev

      second-fits-is : second_fits ≡ covers B (run_first B o s) (run_last B o s) (owner_of B o f)
      second-fits-is = covers_one B c d w ∙ ap₂ (λ (x y : ℕ). covers B x y w) ec ed ∙ ap (covers B (run_first B o s) (run_last B o s)) ew

      pub runs-unfit : first-moves && (second-moves && (first_fits && second_fits)) ≡ false → Stay 1 ≡ runs_swapped B o f s
      runs-unfit e =
          some-fails first-moves second-moves first_fits second_fits _ e
          (λ x. runs-stay 6 (ap not (sym first-moves-is ∙ x)))
          (λ x. runs-stay 7 (ap not (sym second-moves-is ∙ x)))
          (λ x. runs-stay 8 (ap not (sym first-fits-is ∙ x)))
          (λ x. runs-stay 9 (ap not (sym second-fits-is ∙ x)))

      pub runs-act : (m : Move) → B.frozen f ≡ false → B.frozen s ≡ false → (w ≡ nobody → ⊥) → (v ≡ nobody → ⊥) → (a ≡ c → ⊥) → (w
          ≡ v → ⊥)
          → first-moves && (second-moves && (first_fits && second_fits)) ≡ true
          → m ≡ Trade (B.from a) (B.upto b) v (B.from c) (B.upto d) w → m ≡ runs_swapped B o f s
      unfolding runs_swapped any_of
      runs-act m x y h i j k e t =
          let z = four first-moves second-moves first_fits second_fits e in
          goes (runs_stay B o f s (run_first B o f) (run_last B o f) (run_first B o s) (run_last B o s)) 1 _ m
          (simp (
            x,
            y,
            somebody-owns B o f w ew h,
            somebody-owns B o s v ev i,
            ne_eqb (run_first B o f) (run_first B o s) (λ q. j (ea ∙ q ∙ sym ec)),
            ne_eqb (owner_of B o f) (owner_of B o s) (λ q. k (ew ∙ q ∙ sym ev)),
            sym first-moves-is ∙ z.0,
            sym second-moves-is ∙ z.1,
            sym first-fits-is ∙ z.2,
            sym second-fits-is ∙ z.3,
          ))
          (t ∙ ap₂ (λ (p q : ℕ). Trade (B.from p) (B.upto q) v (B.from c) (B.upto d) w) ea eb
          ∙ ap₂ (λ (p q : ℕ). Trade (B.from (run_first B o f)) (B.upto (run_last B o f)) v (B.from p) (B.upto q) w) ec ed
          ∙ ap₂ (λ (p q : ℕ). Trade (B.from (run_first B o f)) (B.upto (run_last B o f)) p (B.from (run_first B o s)) (B.upto (run_last
          B o s)) q) ev ew)

-- ---- shift

module _ (B : Board) (w a : ℕ) where
  abbrev grow-tests : List Bool
  grow-tests = eqb a 0 ∷ B.frozen (a - 1) ∷ not (B.fits w (a - 1)) ∷ []

  pub grow-none : a ≡ 0 → Stay 1 ≡ grown B w a
  unfolding grown
  grow-none e = stays grow-tests 1 _ 0 (eq-eqb a 0 e)

  pub grow-frozen : B.frozen (a - 1) ≡ true → Stay 1 ≡ grown B w a
  unfolding grown
  grow-frozen e = stays grow-tests 1 _ 1 e

  pub grow-unfit : B.fits w (a - 1) ≡ false → Stay 1 ≡ grown B w a
  unfolding grown
  grow-unfit e = stays grow-tests 1 _ 2 (ap not e)

  pub grow-acts : (m : Move) → (a ≡ 0 → ⊥) → B.frozen (a - 1) ≡ false → B.fits w (a - 1) ≡ true → m ≡ give B (a - 1) (a - 1) w → m
      ≡ grown B w a
  unfolding grown any_of
  grow-acts m x y z e = goes grow-tests 1 _ m (simp (ne_eqb a 0 x, y, z)) e

module _ (B : Board) (o : List ℕ) (a b : ℕ) where
  abbrev shrink-tests : List Bool
  shrink-tests = eqb a 0 ∷ eqb a b ∷ unowned B o (a - 1) ∷ B.frozen a ∷ not (B.fits (owner_of B o (a - 1)) a) ∷ []

  pub shrink-none : a ≡ 0 → Stay 1 ≡ shrunk B o a b
  unfolding shrunk
  shrink-none e = stays shrink-tests 1 _ 0 (eq-eqb a 0 e)

  pub shrink-one : a ≡ b → Stay 1 ≡ shrunk B o a b
  unfolding shrunk
  shrink-one e = stays shrink-tests 1 _ 1 (eq-eqb a b e)

  module _ (w : ℕ) (ew : w ≡ owner_of B o (a - 1)) where
    pub shrink-unowned : w ≡ nobody → Stay 1 ≡ shrunk B o a b
    unfolding shrunk
    shrink-unowned e = stays shrink-tests 1 _ 2 (nobody-owns B o (a - 1) w ew e)

    pub shrink-unfit : B.fits w a ≡ false → Stay 1 ≡ shrunk B o a b
    unfolding shrunk
    shrink-unfit e = stays shrink-tests 1 _ 4 (ap not (ap (λ (x : ℕ). B.fits x a) (sym ew) ∙ e))

    pub shrink-acts : (m : Move) → (a ≡ 0 → ⊥) → (a ≡ b → ⊥) → (w ≡ nobody → ⊥) → B.frozen a ≡ false → B.fits w a ≡ true
        → m ≡ give B a a w → m ≡ shrunk B o a b
    unfolding shrunk any_of
    shrink-acts m x y n z h e =
        goes shrink-tests 1 _ m
        (simp (ne_eqb a 0 x, ne_eqb a b y, somebody-owns B o (a - 1) w ew n, z, ap (λ (v : ℕ). B.fits v a) (sym ew) ∙ h))
        (e ∙ ap (give B a a) ew)

  pub shrink-frozen : B.frozen a ≡ true → Stay 1 ≡ shrunk B o a b
  unfolding shrunk
  shrink-frozen e = stays shrink-tests 1 _ 3 e

module _ (B : Board) (o : List ℕ) (f s w : ℕ) (ew : w ≡ owner_of B o f) where
  abbrev shift-tests : List Bool
  shift-tests = B.frozen f ∷ unowned B o f ∷ []

  pub shift-frozen : B.frozen f ≡ true → Stay 1 ≡ shifted B o f s
  unfolding shifted
  shift-frozen e = stays shift-tests 1 _ 0 e

  pub shift-unowned : w ≡ nobody → Stay 1 ≡ shifted B o f s
  unfolding shifted
  shift-unowned e = stays shift-tests 1 _ 1 (nobody-owns B o f w ew e)

  module _ (x : B.frozen f ≡ false) (n : w ≡ nobody → ⊥) where
    shift-on : (m : Move) → m ≡ stay_if (ltb 1 s ∷ []) 2 (cond (eqb s 1) (grown B (owner_of B o f) (run_first B o f)) (shrunk B o
        (run_first B o f) (run_last B o f)))
        → m ≡ shifted B o f s
    unfolding shifted any_of
    shift-on m e = goes shift-tests 1 _ m (simp (x, somebody-owns B o f w ew n)) e

    pub shift-beyond : 1 < s → Stay 2 ≡ shifted B o f s
    shift-beyond h = shift-on (Stay 2) (stays (ltb 1 s ∷ []) 2 _ 0 (lt-ltb 1 s h))

    module _ (m : Move) (a : ℕ) (l : s ≤ 1) (ea : a ≡ run_first B o f) where
      pub shift-grows : s ≡ 1 → m ≡ grown B w a → m ≡ shifted B o f s
      unfolding any_of
      shift-grows q e =
          shift-on m
          (goes (ltb 1 s ∷ []) 2 _ m (simp (le-ltb 1 s l))
          (e ∙ ap₂ (grown B) ew ea ∙ sym (ap (λ (t : Bool). cond t (grown B (owner_of B o f) (run_first B o f)) (shrunk B o (run_first B
          o f) (run_last B o f))) (eq-eqb s 1 q))))

      pub shift-shrinks : (b : ℕ) → b ≡ run_last B o f → (s ≡ 1 → ⊥) → m ≡ shrunk B o a b → m ≡ shifted B o f s
      unfolding any_of
      shift-shrinks b eb q e =
          shift-on m
          (goes (ltb 1 s ∷ []) 2 _ m (simp (le-ltb 1 s l))
          (e ∙ ap₂ (shrunk B o) ea eb ∙ sym (ap (λ (t : Bool). cond t (grown B (owner_of B o f) (run_first B o f)) (shrunk B o (run_first
          B o f) (run_last B o f))) (ne_eqb s 1 q))))
