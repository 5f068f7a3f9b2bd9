-- Reassigns, one for each unit whose owner differs, bring the old owners back: over owners, in any order. Assumes nothing.
use mathlib.Core.Path.{◌≡◌, refl, sym, ap, ap₂, ◌∙◌}
use mathlib.Core.Bool.{Bool, true, false, cond, not}
use mathlib.Core.List.{List, [], ◌∷◌, map}
use Prim.Native.Nat.{ℕ, zero, suc, ◌≤◌, ◌<◌}
use native.Mathlib.Omega.{arith}
use borrow.Author.Tests.{eq-eqb, ne_eqb, eqb-true, eqb-false}
use lib.Dec.{eqb}
use lib.ListN.{length, get_or, replicate, length-map}
use Rattle.paper.specs.Limits.{nobody}
use Rattle.paper.specs.Count.{some, among, count}
use Rattle.paper.proofs.Logic.{by-test, same_test}
use Rattle.paper.proofs.Count.{some-here, some-none, some_more, some_one, count-change, count-opening, among-at, among-count, among-each, among-le}
use Rattle.paper.proofs.Count.{among_same, rises-far}
use Rattle.rota.specs.Board.{Board, BoardSound, Even, owner_of}
use Rattle.rota.specs.Moves.{Draw, draw, domain_of}
use Rattle.rota.specs.Plays.{step, answer, owners_after, answers}
use Rattle.rota.specs.Acts.{Chosen, ReassignActs, Acts, reassigns, owner_then}
use Rattle.rota.proofs.Plays.{play-even, play-frozen, play-length, play-past}
use Rattle.rota.proofs.Choices.{chosen_at}
use Rattle.rota.proofs.Drawn.{draw-acts-exactly}
use Rattle.wayback.specs.Back.{differs, differing, place_in, back_draw, back, draw_at, Differ, TakesBack}
use Rattle.wayback.proofs.SwapAgain.{even-then, long-then, past-then, owner-then, same-owners}

-- what a way back from o to a asks: both even, alike past the slots, and each unit whose owner differs not frozen and owned in a
pub record CanReturn (B : Board) (a o : List ℕ) : Type 0 where
  pub start : Even B a
  pub now : Even B o
  pub long : length o ≡ length a
  pub past : (k : ℕ) → B.slots ≤ k → get_or o k 0 ≡ get_or a k 0
  pub unfrozen : (u : ℕ) → Differ B a o u → B.frozen u ≡ false
  pub owned : (u : ℕ) → Differ B a o u → owner_of B a u ≡ nobody → ⊥

-- the person who fits a unit is the one at their place
module _ (B : Board) (u p : ℕ) (h : p < B.people) (f : B.fits p u ≡ true) where
  pub chosen-back : Chosen (λ q. B.fits q u) B.people (place_in B u p) p
  unfolding place_in
  chosen-back = record { known = h; passes = f; place = refl }

  pub place_is : (place_in B u p < length (domain_of B u)) × (get_or (domain_of B u) (place_in B u p) 0 ≡ p)
  unfolding domain_of
  place_is = chosen_at (λ q. B.fits q u) B.people (place_in B u p) p chosen-back

-- ---- one draw of it

module _ (B : Board) (T : BoardSound B) (a o : List ℕ) (R : CanReturn B a o) (d : Draw) (ds : List Draw) (K : TakesBack B a o (d ∷ ds)) where
  abbrev f : ℕ
  f = d.first

  differ : Differ B a o f
  differ = K.differ 0 (omega arith)

  unfoldable acts : ReassignActs B o f d.second
  unfolding place_in
  acts =
      let m = R.start.manned f differ.known (R.owned f differ) in
      record {
        to = owner_of B a f;
        unfrozen = R.unfrozen f differ;
        chosen = record { known = m.0; passes = m.1; place = sym (K.to 0 (omega arith)) };
        other = differ.other;
      }

  unfoldable acting : Acts B o d
  acting = reassigns (K.reassigns 0 (omega arith)) differ.known acts

  pub answers-zero : answer B o d ≡ 0
  answers-zero = (draw-acts-exactly B o d).acts.1 acting

  -- its unit has its old owner, and every other the owner that it had
  given_back : owner_of B (step B o d) f ≡ owner_of B a f
  unfolding owner_then acting acts
  given_back = owner-then B T o R.now d acting f differ.known ∙ simp (eq-eqb f f refl)

  stays : (u : ℕ) → u < B.units → (u ≡ f → ⊥) → owner_of B (step B o d) u ≡ owner_of B o u
  unfolding owner_then acting acts
  stays u h n = owner-then B T o R.now d acting u h ∙ simp (ne_eqb u f n)

  -- so that the units that differ then are those that differ now, without it
  was-differ : (u : ℕ) → Differ B a (step B o d) u → (u ≡ f → ⊥) × Differ B a o u
  was-differ u D =
      let n : u ≡ f → ⊥ = λ q. D.other (ap (owner_of B a) q ∙ sym given_back ∙ ap (owner_of B (step B o d)) (sym q)) in (
        n,
        record { known = D.known; other = λ q. D.other (q ∙ sym (stays u D.known n)) },
      )

  still-differ : (u : ℕ) → (u ≡ f → ⊥) → Differ B a o u → Differ B a (step B o d) u
  still-differ u n D = record { known = D.known; other = λ q. D.other (q ∙ stays u D.known n) }

  pub return-then : CanReturn B a (step B o d)
  return-then = record {
    start = R.start;
    now = even-then B T o R.now d;
    long = long-then B T o R.now d ∙ R.long;
    past = λ k h. past-then B T o R.now d k h ∙ R.past k h;
    unfrozen = λ u D. R.unfrozen u (was-differ u D).1;
    owned = λ u D. R.owned u (was-differ u D).1;
  }

  pub takes-then : TakesBack B a (step B o d) ds
  takes-then = record {
    reassigns = λ i h. K.reassigns (suc i) (omega arith);
    differ = λ i h.
        still-differ (draw_at ds i).first (λ q. K.once 0 (suc i) (omega arith) (omega arith) (sym q)) (K.differ (suc i) (omega arith));
    to = λ i h. K.to (suc i) (omega arith);
    once = λ i j l h. K.once (suc i) (suc j) (omega arith) (omega arith);
    every = λ u D. let w = was-differ u D in named u w.0 (K.every u w.1);
  }
    where
      named : (u : ℕ) → (u ≡ f → ⊥) → (i : ℕ) × (i < length (d ∷ ds)) × ((draw_at (d ∷ ds) i).first ≡ u)
          → (i : ℕ) × (i < length ds) × ((draw_at ds i).first ≡ u)
      named u n (zero, h, q) = absurd (n (sym q))
      named u n (suc i, h, q) = (i, omega arith, q)

-- ---- all of them

-- all answer 0, and the old owners are back
pub returns : (B : Board) → BoardSound B → (a o : List ℕ) (ds : List Draw) → CanReturn B a o → TakesBack B a o ds
    → (owners_after B o ds ≡ a) × (answers B o ds ≡ replicate (length ds) 0)
unfolding owners_after answers
returns B T a o [] R K = (
  same-owners B T a o R.start R.now R.long R.past
      (λ u h.
      by-test (eqb (owner_of B a u) (owner_of B o u)) _ (λ t. sym (eqb-true _ _ t))
      (λ n. absurd (omega (arith, (K.every u record { known = h; other = eqb-false _ _ n }).1)))),
  refl,
)
returns B T a o (d ∷ ds) R K =
    let r = returns B T a (step B o d) ds (return-then B T a o R d ds K) (takes-then B T a o R d ds K) in
    (r.0, ap₂ (λ (x : ℕ) (l : List ℕ). x ∷ l) (answers-zero B T a o R d ds K) r.1)

-- ---- the units whose owner differs

module _ (B : Board) (a o : List ℕ) where
  pub differs-says : (u : ℕ) → u < B.units → differs B a o u ≡ true → Differ B a o u
  unfolding differs
  differs-says u h t =
      record { known = h; other = λ q. mathlib.Core.Bool.false≢true (sym (ap not (eq-eqb _ _ q)) ∙ t) }

  pub says-differs : (u : ℕ) → Differ B a o u → differs B a o u ≡ true
  unfolding differs
  says-differs u D = ap not (ne_eqb _ _ D.other)

-- ---- as many of them as units whose owner differs

-- u is one of the first n numbers that f gives
abbrev among_first : (ℕ → ℕ) → ℕ → ℕ → Bool
among_first f n u = some n (λ j. eqb (f j) u)

-- n numbers below m, no two alike, are n of the numbers below m
distinct-count : (n m : ℕ) (f : ℕ → ℕ) → ((i : ℕ) → i < n → f i < m) → ((i j : ℕ) → i < j → j < n → f i ≡ f j → ⊥)
    → count m (among_first f n) ≡ n
unfolding some
distinct-count zero m f h d = count-opening m 0 (λ _. false) (omega arith) (λ k b. absurd (omega arith)) (λ k b c. refl)
distinct-count (suc n) m f h d =
    count-change m (f n) (among_first f n) (among_first f (suc n)) (h n (omega arith))
    (λ k z. sym (some_more n (λ j. eqb (f j) k) (ne_eqb (f n) k (λ q. z (sym q)))))
    (some-none n (λ j. eqb (f j) (f n)) (λ j l. ne_eqb (f j) (f n) (d j n l (omega arith))))
    (some-here (suc n) n (λ j. eqb (f j) (f n)) (omega arith) (eq-eqb (f n) (f n) refl))
    ∙ omega (arith, distinct-count n m f (λ i l. h i (omega arith)) (λ i j l g. d i j l (omega arith)))

pub takes-exactly : (B : Board) (a o : List ℕ) (ds : List Draw) → TakesBack B a o ds → length ds ≡ length (differing B a o)
unfolding differing
takes-exactly B a o ds K =
    let f : ℕ → ℕ = λ i. (draw_at ds i).first in
    let n = length ds in
    sym (distinct-count n B.units f (λ i h. (K.differ i h).known) K.once)
    ∙ sym (among-count (among_first f n) B.units)
    ∙ ap length (among_same (among_first f n) (differs B a o) B.units
    (λ u h.
    same_test _ _
    (λ t.
    some_one n (λ j. eqb (f j) u) (differs B a o u ≡ true) t
    (λ j l e. ap (differs B a o) (sym (eqb-true _ _ e)) ∙ says-differs B a o (f j) (K.differ j l)))
    (λ t.
    let w = K.every u (differs-says B a o u h t) in some-here n w.0 (λ j. eqb (f j) u) w.1 (eq-eqb _ _ w.2))))

pub takes-few : (B : Board) (a o : List ℕ) (ds : List Draw) → TakesBack B a o ds → length ds ≤ B.units
unfolding differing
takes-few B a o ds K = omega (arith, takes-exactly B a o ds K, among-le (differs B a o) B.units)

-- ---- the list that names them ascending

module _ (B : Board) (a o : List ℕ) where
  abbrev units : List ℕ
  units = differing B a o

  pub back-length : length (back B a o) ≡ length units
  unfolding back
  back-length = length-map units (back_draw B a)

  pub back-few : length (back B a o) ≤ B.units
  unfolding differing
  back-few = omega (arith, back-length, among-le (differs B a o) B.units)

  -- draw i is that of the unit at i
  pub back_at : (i : ℕ) → i < length (back B a o) → draw_at (back B a o) i ≡ back_draw B a (get_or units i 0)
  unfolding back
  back_at i h = mapped units i (omega (arith, back-length))
    where
      mapped : (l : List ℕ) (i : ℕ) → i < length l → get_or (map (back_draw B a) l) i (draw 0 0 0) ≡ back_draw B a (get_or l i 0)
      mapped [] i h = absurd (omega arith)
      mapped (x ∷ l) zero h = refl
      mapped (x ∷ l) (suc i) h = mapped l i (omega arith)

  unit-differs : (i : ℕ) → i < length (back B a o) → Differ B a o (get_or units i 0)
  unfolding differing
  unit-differs i h =
      let r = among-each (differs B a o) B.units i (omega (arith, back-length)) in differs-says B a o _ r.0 r.1

  pub back-rises : (i j : ℕ) → i < j → j < length (back B a o) → (draw_at (back B a o) i).first < (draw_at (back B a o) j).first
  unfolding differing
  back-rises i j l h =
      omega (
        arith,
        rises-far (differs B a o) B.units i j l (omega (arith, back-length)),
        ap (λ (d : Draw). d.first) (back_at i (omega arith)),
        ap (λ (d : Draw). d.first) (back_at j h),
      )

  pub back-takes : TakesBack B a o (back B a o)
  unfolding differing
  back-takes = record {
    reassigns = λ i h. omega (arith, ap (λ (d : Draw). d.kind) (back_at i h));
    differ = λ i h. mathlib.Core.Path.subst (λ (d : Draw). Differ B a o d.first) (sym (back_at i h)) (unit-differs i h);
    to = λ i h.
        mathlib.Core.Path.subst (λ (d : Draw). d.second ≡ place_in B d.first (owner_of B a d.first)) (sym (back_at i h)) refl;
    once = λ i j l h q. omega (arith, back-rises i j l h);
    every = λ u D.
        let r = among-at (differs B a o) B.units u D.known (says-differs B a o u D) in
        let h : length (among (differs B a o) u) < length (back B a o) = omega (arith, r.0, back-length) in
        (length (among (differs B a o) u), h, ap (λ (d : Draw). d.first) (back_at _ h) ∙ r.1);
  }

-- ---- from a by any list of draws

-- a frozen unit keeps its owner
frozen-kept : (B : Board) → BoardSound B → (a : List ℕ) (ds : List Draw) → Even B a → (u : ℕ) → u < B.units → B.frozen u ≡ true
    → owner_of B (owners_after B a ds) u ≡ owner_of B a u
unfolding owner_of
frozen-kept B T a ds E u h t =
    play-frozen B T u (B.from u) record { below = h; from = omega arith; upto = T.rising u h } t a ds E

-- only that each unit whose owner differs was owned has to be known
pub after-returns : (B : Board) → BoardSound B → (a : List ℕ) (ds : List Draw) → Even B a
    → ((u : ℕ) → Differ B a (owners_after B a ds) u → owner_of B a u ≡ nobody → ⊥) → CanReturn B a (owners_after B a ds)
after-returns B T a ds E owned = record {
  start = E;
  now = play-even B T a ds E;
  long = play-length B a ds;
  past = λ k h. play-past B T k h a ds E;
  unfrozen = λ u D.
      by-test (B.frozen u) _
      (λ t. absurd (D.other (sym (frozen-kept B T a ds E u D.known t))))
      (λ n. n);
  owned = owned;
}
