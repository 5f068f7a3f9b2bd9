-- What the outcome of a way back means: the columns hold its draws, these lead to the remembered owners, and a unit in the way stays there.
-- Assumes nothing.
use Rattle.std.specs.Prelude.{Ok, Err}
use mathlib.Core.Path.{◌≡◌, refl, sym, ap, ap₂, subst, ◌∙◌}
use mathlib.Core.Bool.{Bool, true, false, cond, not, ◌&&◌, ◌||◌}
use mathlib.Core.List.{List, [], ◌∷◌, ◌++◌}
use mathlib.Core.Logic.{inl, inr, ⊎_elim}
use Prim.Native.Nat.{ℕ, zero, suc, ◌+◌, ◌-◌, ◌≤◌, ◌<◌}
use native.Mathlib.Omega.{arith}
use borrow.Author.Tests.{eq-eqb, ne_eqb, eqb-true, eqb-false, lt-ltb, le-ltb}
use lib.Dec.{eqb, ltb}
use lib.ListN.{length, get_or, take, drop, length-take, length-map, get_or-append, get_or-map}
use lib.Seq.{get_or-take, get_or-drop, get_or-append-add, take-suc, take-length}
use Rattle.paper.specs.Limits.{nobody, number_of}
use Rattle.paper.specs.declared.Refusal.{Refusal}
use Rattle.paper.specs.Rows.{refusal_of}
use Rattle.paper.specs.Count.{onto}
use Rattle.paper.proofs.Logic.{by-test, lt-or-ge, both, and-true, or_left, or-second, or-either, or_right}
use Rattle.paper.proofs.Rows.{passed, said}
use Rattle.paper.proofs.Count.{all-each, each_in, in-each, length-onto}
use Rattle.units.specs.Units.{unit_start, unit_end, units_ok}
use Rattle.units.specs.Domains.{available, able}
use Rattle.units.proofs.Units.{unit-some, unit-within}
use Rattle.owners.specs.Derived.{Plan, Derived}
use Rattle.owners.specs.Recount.{known_at, available_for, available_at, even_at}
use Rattle.owners.proofs.Minutes.{known-below}
use Rattle.owners.proofs.Scans.{FirstFault, first-is}
use Rattle.rota.specs.Board.{Board, BoardSound, InUnit, Even, owner_of, unowned}
use Rattle.rota.specs.Moves.{Draw, draw}
use Rattle.rota.specs.Plays.{draws_of, owners_after}
use Rattle.rota.specs.Lent.{fits_unit, board_of}
use Rattle.rota.proofs.Plays.{play-frozen, play-covered}
use Rattle.wayback.specs.declared.Way.TheVariants as way
use Rattle.wayback.specs.Back.{differs, place_in, back, kinds_of, firsts_of, seconds_of, draw_at, Differ, TakesBack}
use Rattle.wayback.specs.Answers.{remembered_row, way_row, in_the_way, InWay, first_in_way, Outcome, way_of, draws_written, way_back_of}
use Rattle.wayback.proofs.Returns.{CanReturn, differs-says, says-differs}

-- ---- a list written from the front

pub onto-in : (l old : List ℕ) (k : ℕ) → k < length l → get_or (onto l old) k 0 ≡ get_or l k 0
unfolding onto
onto-in l old k h = get_or-append l (drop (length l) old) 0 k h

pub onto-past : (l old : List ℕ) (k : ℕ) → length l ≤ k → get_or (onto l old) k 0 ≡ get_or old k 0
unfolding onto
onto-past l old k h =
    let q : length l + (k - length l) ≡ k = omega arith in
    ap (λ (j : ℕ). get_or (l ++ drop (length l) old) j 0) (sym q)
    ∙ get_or-append-add l (drop (length l) old) (k - length l) 0
    ∙ get_or-drop (length l) old (k - length l) 0 ∙ ap (λ (j : ℕ). get_or old j 0) q

-- ---- the columns hold the draws

module _ (ds : List Draw) (ks fs ss : List ℕ) where
  abbrev K : List ℕ
  K = onto (kinds_of ds) ks

  abbrev F : List ℕ
  F = onto (firsts_of ds) fs

  abbrev S : List ℕ
  S = onto (seconds_of ds) ss

  held : (n : ℕ) → n < length ds → draw (get_or K n 0) (get_or F n 0) (get_or S n 0) ≡ draw_at ds n
  unfolding kinds_of firsts_of seconds_of
  held n h =
      let at : (g : Draw → ℕ) (old : List ℕ) → g (draw 0 0 0) ≡ 0 → get_or (onto (mathlib.Core.List.map g ds) old) n 0 ≡ g (draw_at ds n) =
      λ g old z.
      onto-in (mathlib.Core.List.map g ds) old n (omega (arith, length-map ds g))
      ∙ ap (get_or (mathlib.Core.List.map g ds) n) (sym z) ∙ get_or-map g ds n (draw 0 0 0) in
      ap₂ {C = Draw} (λ (x y : ℕ). draw x y (get_or S n 0)) (at (λ d. d.kind) ks refl) (at (λ d. d.first) fs refl)
      ∙ ap {B = Draw} (λ (x : ℕ). draw (draw_at ds n).kind (draw_at ds n).first x) (at (λ d. d.second) ss refl)

  first-held : (n : ℕ) → n ≤ length ds → draws_of K F S n ≡ take n ds
  unfolding draws_of
  first-held zero h = refl
  first-held (suc n) h =
      ap₂ (λ (l : List Draw) (d : Draw). l ++ (d ∷ [])) (first-held n (omega arith)) (held n h)
      ∙ sym (take-suc ds n (draw 0 0 0) h)

  pub columns-hold : draws_of K F S (length ds) ≡ ds
  columns-hold = first-held (length ds) (omega arith) ∙ take-length ds

-- ---- the remembered owners, on the slots of a rota

module _ (slots : ℕ) (a o : List ℕ) (la : slots ≤ length a) (lo : slots ≤ length o) where
  abbrev again : List ℕ
  again = onto (take slots a) o

  short : length (take slots a) ≡ slots
  short = length-take slots a ∙ omega arith

  pub again-long : length again ≡ length o
  again-long = length-onto (take slots a) o (omega (arith, short))

  pub again-in : (k : ℕ) → k < slots → get_or again k 0 ≡ get_or a k 0
  again-in k h = onto-in (take slots a) o k (omega (arith, short)) ∙ get_or-take slots a k 0 h

  pub again-past : (k : ℕ) → slots ≤ k → get_or again k 0 ≡ get_or o k 0
  again-past k h = onto-past (take slots a) o k (omega (arith, short))

-- a remembered owner who isn't nobody is available
owner-available : (avail : List ℕ) (w k : ℕ) → (w ≡ nobody → ⊥) → available_for avail w k ≡ true → available avail w k ≡ true
unfolding available_for
owner-available avail w k n t = or_right (eqb w nobody) (available avail w k) t (ne_eqb w nobody n)

module _ (P : Plan) (avail : List ℕ) (units : ℕ) (begins frozen a o : List ℕ) (ok : units_ok P.slots units begins ≡ true)
    (la : P.slots ≤ length a) (lo : P.slots ≤ length o) (z : number_of (remembered_row P avail units begins a) ≡ 0) where
  abbrev B : Board
  B = board_of P.people P.slots units avail begins frozen

  abbrev a' : List ℕ
  a' = onto (take P.slots a) o

  even : (u k : ℕ) → u < units → unit_start begins u ≤ k → k < unit_end P.slots units begins u
      → get_or a k 0 ≡ get_or a (unit_start begins u) 0
  unfolding remembered_row even_at
  even u k h l g =
      eqb-true _ _ (in-each (unit_start begins u) (unit_end P.slots units begins u)
      (λ j. eqb (get_or a j 0) (get_or a (unit_start begins u) 0))
      (all-each units (even_at P.slots units begins a) (passed (remembered_row P avail units begins a) refl z 0) u h) k l g)

  known : (k : ℕ) → k < P.slots → (get_or a k 0 ≡ nobody → ⊥) → get_or a k 0 < P.people
  unfolding remembered_row known_at
  known k h n =
      known-below P.people (get_or a k 0)
      (all-each P.slots (known_at P.people a) (passed (remembered_row P avail units begins a) refl z 1) k h) n

  free : (k : ℕ) → k < P.slots → available_for avail (get_or a k 0) k ≡ true
  unfolding remembered_row available_at
  free k h = all-each P.slots (available_at avail a) (passed (remembered_row P avail units begins a) refl z 2) k h

  -- a unit's first slot is one of the slots, and its owner is as remembered
  first_slot : (u : ℕ) → u < units → unit_start begins u < P.slots
  first_slot u h =
      omega (arith, unit-some P.slots units begins ok u h, unit-within P.slots units begins ok u h)

  pub owner-again : (u : ℕ) → u < units → owner_of B a' u ≡ owner_of B a u
  unfolding owner_of
  owner-again u h = again-in P.slots a o la lo (unit_start begins u) (first_slot u h)

  even-again : Even B a'
  unfolding owner_of fits_unit able
  even-again = record {
    room = omega (arith, again-long P.slots a o la lo);
    same = λ u k I.
        again-in P.slots a o la lo k (omega (arith, I.upto, unit-within P.slots units begins ok u I.below))
        ∙ even u k I.below I.from I.upto ∙ sym (again-in P.slots a o la lo (unit_start begins u) (first_slot u I.below));
    manned = λ u h n.
        let s = unit_start begins u in
        let e = unit_end P.slots units begins u in
        let q = again-in P.slots a o la lo s (first_slot u h) in
        let w = get_or a s 0 in
        let m : w ≡ nobody → ⊥ = λ r. n (q ∙ r) in
        let b = known s (first_slot u h) m in
        subst (λ (p : ℕ). (p < P.people) × (ltb u units && (ltb p P.people && able avail s e p) ≡ true)) (sym q) (
          b,
          and-true _ _ (lt-ltb u units h) (and-true _ _ (lt-ltb w P.people b)
              (each_in s e (available avail w) (λ k x y.
              owner-available avail w k m
              (ap (λ (v : ℕ). available_for avail v k) (sym (even u k h x y))
              ∙ free k (omega (arith, y, unit-within P.slots units begins ok u h)))))),
        );
  }

  differ-again : (u : ℕ) → Differ B a o u → Differ B a' o u
  differ-again u D = record { known = D.known; other = λ q. D.other (sym (owner-again u D.known) ∙ q) }

  differ-was : (u : ℕ) → Differ B a' o u → Differ B a o u
  differ-was u D = record { known = D.known; other = λ q. D.other (owner-again u D.known ∙ q) }

  -- the same draws
  pub takes-again : (ds : List Draw) → TakesBack B a o ds → TakesBack B a' o ds
  takes-again ds K = record {
    reassigns = K.reassigns;
    differ = λ i h. differ-again _ (K.differ i h);
    to = λ i h.
        K.to i h ∙ ap (place_in B (draw_at ds i).first) (sym (owner-again (draw_at ds i).first (K.differ i h).known));
    once = K.once;
    every = λ u D. K.every u (differ-was u D);
  }

  pub can-again : Even B o → ((u : ℕ) → InWay B a o u → ⊥) → CanReturn B a' o
  can-again E none = record {
    start = even-again;
    now = E;
    long = sym (again-long P.slots a o la lo);
    past = λ k h. sym (again-past P.slots a o la lo k h);
    unfrozen = λ u D.
        by-test (B.frozen u) _ (λ t. absurd (none u record { differ = differ-was u D; lost = inr t })) (λ n. n);
    owned = λ u D q. none u record { differ = differ-was u D; lost = inl (sym (owner-again u D.known) ∙ q) };
  }

-- ---- a unit in the way

module _ (B : Board) (a o : List ℕ) where
  way-says : (u : ℕ) → u < B.units → in_the_way B a o u ≡ true → InWay B a o u
  unfolding in_the_way unowned
  way-says u h t =
      let x = both (differs B a o u) _ t in
      record {
        differ = differs-says B a o u h x.0;
        lost = ⊎_elim (λ (e : eqb (owner_of B a u) nobody ≡ true). inl (eqb-true _ _ e)) (λ (e : B.frozen u ≡ true). inr e)
            (or-either (eqb (owner_of B a u) nobody) (B.frozen u) x.1);
      }

  says-way : (u : ℕ) → InWay B a o u → in_the_way B a o u ≡ true
  unfolding in_the_way unowned
  says-way u I =
      and-true _ _ (says-differs B a o u I.differ)
      (⊎_elim (λ (e : owner_of B a u ≡ nobody). or_left _ (B.frozen u) (eq-eqb _ _ e))
      (λ (e : B.frozen u ≡ true). or-second (eqb (owner_of B a u) nobody) _ e) I.lost)

  not_yes : (b : Bool) → not b ≡ false → b ≡ true
  not_yes true e = refl
  not_yes false e = sym e

  not-no : (b : Bool) → not b ≡ true → b ≡ true → ⊥
  not-no b e t = mathlib.Core.Bool.true≢false (sym e ∙ ap not t)

  fault : FirstFault B.units (λ u. not (in_the_way B a o u)) (first_in_way B a o)
  unfolding first_in_way
  fault = first-is B.units (λ u. not (in_the_way B a o u))

  pub first-in : first_in_way B a o < B.units → InWay B a o (first_in_way B a o)
  first-in h = way-says (first_in_way B a o) h (not_yes _ (fault.fails h))

  pub first-lowest : (v : ℕ) → v < first_in_way B a o → InWay B a o v → ⊥
  first-lowest v h I = not-no _ (fault.before v h) (says-way v I)

  pub first-none : ((u : ℕ) → InWay B a o u → ⊥) → B.units ≤ first_in_way B a o
  first-none none =
      ⊎_elim (λ (h : first_in_way B a o < B.units). absurd (none _ (first-in h))) (λ (h : B.units ≤ first_in_way B a o). h)
      (lt-or-ge (first_in_way B a o) B.units)

  -- whatever is played, it doesn't get its remembered owner
  pub stays-away : BoardSound B → Even B o → (u : ℕ) → InWay B a o u → (ds : List Draw) → owner_of B (owners_after B o ds) u ≡ owner_of B a u → ⊥
  unfolding owner_of
  stays-away T E u I ds q =
      let h = I.differ.known in
      let at : InUnit B u (B.from u) = record { below = h; from = omega arith; upto = T.rising u h } in
      ⊎_elim
      (λ (e : owner_of B a u ≡ nobody).
      play-covered B T u (B.from u) at o ds E (λ r. I.differ.other (e ∙ sym r)) (q ∙ e))
      (λ (e : B.frozen u ≡ true).
      I.differ.other (sym q ∙ play-frozen B T u (B.from u) at e o ds E))
      I.lost

-- ---- the three outcomes

module _ (P : Plan) (avail : List ℕ) (units : ℕ) (begins frozen a o : List ℕ) (D : Derived) (ks fs ss : List ℕ) where
  abbrev board : Board
  board = board_of P.people P.slots units avail begins frozen

  abbrev f : Refusal
  f = refusal_of (way_row P avail units begins frozen a o D ks fs ss)

  abbrev result : Outcome
  result = way_back_of P avail units begins frozen a o D ks fs ss

  abbrev inner : Bool → Outcome
  inner b = cond b (way_of (Ok (way.NoWay (first_in_way board a o))) ks fs ss) (draws_written (back board a o) ks fs ss)

  number_is : f.number ≡ number_of (way_row P avail units begins frozen a o D ks fs ss)
  number_is = said (way_row P avail units begins frozen a o D ks fs ss) refl

  pub is-refused : (number_of (way_row P avail units begins frozen a o D ks fs ss) ≡ 0 → ⊥) → result ≡ way_of (Err f) ks fs ss
  unfolding way_back_of
  is-refused n =
      ap (λ (b : Bool). cond b (inner (ltb (first_in_way board a o) units)) (way_of (Err f) ks fs ss))
      (ne_eqb _ 0 (λ q. n (sym number_is ∙ q)))

  module _ (z : number_of (way_row P avail units begins frozen a o D ks fs ss) ≡ 0) where
    is-inner : result ≡ inner (ltb (first_in_way board a o) units)
    unfolding way_back_of
    is-inner =
        ap (λ (b : Bool). cond b (inner (ltb (first_in_way board a o) units)) (way_of (Err f) ks fs ss))
        (eq-eqb _ 0 (number_is ∙ z))

    pub is-blocked : first_in_way board a o < units → result ≡ way_of (Ok (way.NoWay (first_in_way board a o))) ks fs ss
    is-blocked h = is-inner ∙ ap inner (lt-ltb _ _ h)

    pub is_found : units ≤ first_in_way board a o → result ≡ draws_written (back board a o) ks fs ss
    is_found h = is-inner ∙ ap inner (le-ltb _ _ h)

  -- which of them it is, by the answer
  pub found-says : (n : ℕ) → result.answer ≡ Ok (way.Draws n)
      → (number_of (way_row P avail units begins frozen a o D ks fs ss) ≡ 0) × (units ≤ first_in_way board a o) × (length (back board a o) ≡ n)
  unfolding draws_written way_of
  found-says n e =
      by-test (eqb (number_of (way_row P avail units begins frozen a o D ks fs ss)) 0) _
      (λ t.
      let z = eqb-true _ _ t in
      ⊎_elim
      (λ (h : first_in_way board a o < units).
      let q : Ok (way.NoWay (first_in_way board a o)) ≡ Ok (way.Draws n) = sym (ap (λ (y : Outcome). y.answer) (is-blocked z h)) ∙ e in
      let x : ◌≡◌ {A = ℕ} 0 1 = cc in absurd (omega arith))
      (λ (h : units ≤ first_in_way board a o).
      let q : Ok (way.Draws (length (back board a o))) ≡ Ok (way.Draws n) = sym (ap (λ (y : Outcome). y.answer) (is_found z h)) ∙ e in
      (z, h, cc))
      (lt-or-ge (first_in_way board a o) units))
      (λ n'.
      let q : Err f ≡ Ok (way.Draws n) = sym (ap (λ (y : Outcome). y.answer) (is-refused (eqb-false _ _ n'))) ∙ e in
      let x : ◌≡◌ {A = ℕ} 0 1 = cc in absurd (omega arith))

  pub blocked-says : (u : ℕ) → result.answer ≡ Ok (way.NoWay u)
      → (number_of (way_row P avail units begins frozen a o D ks fs ss) ≡ 0) × (first_in_way board a o < units) × (first_in_way board a o ≡ u)
  unfolding draws_written way_of
  blocked-says u e =
      by-test (eqb (number_of (way_row P avail units begins frozen a o D ks fs ss)) 0) _
      (λ t.
      let z = eqb-true _ _ t in
      ⊎_elim
      (λ (h : first_in_way board a o < units).
      let q : Ok (way.NoWay (first_in_way board a o)) ≡ Ok (way.NoWay u) = sym (ap (λ (y : Outcome). y.answer) (is-blocked z h)) ∙ e in
      (z, h, cc))
      (λ (h : units ≤ first_in_way board a o).
      let q : Ok (way.Draws (length (back board a o))) ≡ Ok (way.NoWay u) = sym (ap (λ (y : Outcome). y.answer) (is_found z h)) ∙ e in
      let x : ◌≡◌ {A = ℕ} 0 1 = cc in absurd (omega arith))
      (lt-or-ge (first_in_way board a o) units))
      (λ n'.
      let q : Err f ≡ Ok (way.NoWay u) = sym (ap (λ (y : Outcome). y.answer) (is-refused (eqb-false _ _ n'))) ∙ e in
      let x : ◌≡◌ {A = ℕ} 0 1 = cc in absurd (omega arith))
