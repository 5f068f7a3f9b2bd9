-- The draws written one by one are those of the way back. Assumes nothing.
use Rattle.std.specs.Prelude.{Result, Ok, Err}
use mathlib.Core.Path.{◌≡◌, refl, sym, ap, ap₂, subst, ◌∙◌}
use mathlib.Core.Bool.{Bool, true, false, cond, not}
use mathlib.Core.List.{List, [], ◌∷◌, map, map-append}
use Prim.Native.Nat.{ℕ, ◌+◌, ◌≤◌, ◌<◌}
use native.Mathlib.Omega.{arith}
use borrow.Author.Tests.{eq-eqb, ne_eqb, lt-ltb, le-ltb}
use lib.Dec.{eqb, ltb}
use lib.ListN.{length, get_or, set, replicate, length-map, length-append, length-replicate}
use Rattle.paper.specs.declared.Refusal.{Refusal}
use Rattle.paper.specs.Rows.{refusal_of}
use Rattle.paper.specs.Count.{among, count, onto}
use Rattle.paper.proofs.Count.{count_same, among_in, among-out, among-le, onto-none, onto-more, length-onto}
use Rattle.units.specs.Domains.{in_mask, unit_domains_is}
use Rattle.units.proofs.Sets.{domains-asked}
use Rattle.owners.specs.Derived.{Plan, Derived}
use Rattle.owners.specs.Recount.{first_fail}
use Rattle.rota.specs.Board.{Board, owner_of, unowned}
use Rattle.rota.specs.Moves.{Draw}
use Rattle.rota.specs.Lent.{board_of, FitsRight}
use Rattle.rota.specs.Ready.{fits_by}
use Rattle.rota.proofs.Readied.{fits-right}
use Rattle.wayback.specs.declared.Way.{Way}
use Rattle.wayback.specs.declared.Way.TheVariants as way
use Rattle.wayback.specs.Back.{differs, differing, place_in, back_draw, back, kinds_of, firsts_of, seconds_of}
use Rattle.wayback.specs.Answers.{way_row, in_the_way, first_in_way, Outcome, way_of, draws_written, way_back_of, Ended}
use Rattle.wayback.specs.Inside.{unit_owner, changed, stands_in_way, place_by, WriteRoom, Wrote}
use Rattle.wayback.proofs.Searched.{WayAsks}

-- ---- the loop

module _ (begins fits a o ks fs ss : List ℕ) where
  abbrev upto : ℕ → List ℕ
  upto u = among (changed begins a o) u

  pub wrote_none : Wrote begins fits a o 0 0 ks fs ss ks fs ss
  unfolding among
  wrote_none = record { number = refl; draws = onto-none ks; firsts = onto-none fs; seconds = onto-none ss }

  module _ (u n : ℕ) (ks' fs' ss' : List ℕ) (W : Wrote begins fits a o u n ks fs ss ks' fs' ss') where
    pub wrote-few : n ≤ u
    wrote-few = omega (arith, W.number, among-le (changed begins a o) u)

    -- the columns keep their lengths
    module _ (units : ℕ) (R : WriteRoom units fits ks fs ss) (h : u ≤ units) where
      pub draws-length : length ks' ≡ length ks
      draws-length =
          ap length W.draws
          ∙ length-onto _ ks (omega (arith, length-map {B = ℕ} (upto u) (λ _. 0), W.number, wrote-few, R.draws))

      pub firsts-length : length fs' ≡ length fs
      firsts-length = ap length W.firsts ∙ length-onto (upto u) fs (omega (arith, W.number, wrote-few, R.firsts))

      pub seconds-length : length ss' ≡ length ss
      seconds-length =
          ap length W.seconds
          ∙ length-onto _ ss (omega (arith, length-map (upto u) (place_by begins fits a), W.number, wrote-few, R.seconds))

      -- and have room for one draw more
      module _ (g : u < units) where
        pub draws-there : n < length ks'
        draws-there = omega (arith, draws-length, wrote-few, R.draws)

        pub firsts-there : n < length fs'
        firsts-there = omega (arith, firsts-length, wrote-few, R.firsts)

        pub seconds-there : n < length ss'
        seconds-there = omega (arith, seconds-length, wrote-few, R.seconds)

        pub number_fits : n + 1 ≤ 1024
        number_fits = omega (arith, wrote-few, R.few)

    pub wrote-end : (units : ℕ) → u ≤ units → units ≤ u → Wrote begins fits a o units n ks fs ss ks' fs' ss'
    wrote-end units h g =
        let q : u ≡ units = omega arith in subst (λ (v : ℕ). Wrote begins fits a o v n ks fs ss ks' fs' ss') q W

    pub wrote-out : changed begins a o u ≡ false → Wrote begins fits a o (u + 1) n ks fs ss ks' fs' ss'
    wrote-out f =
        let e = sym (among-out (changed begins a o) u f) in
        record {
          number = W.number ∙ ap length e;
          draws = W.draws ∙ ap (λ (l : List ℕ). onto (map (λ _. 0) l) ks) e;
          firsts = W.firsts ∙ ap (λ (l : List ℕ). onto l fs) e;
          seconds = W.seconds ∙ ap (λ (l : List ℕ). onto (map (place_by begins fits a) l) ss) e;
        }

    -- one draw more
    column : (g : ℕ → ℕ) (old now : List ℕ) → now ≡ onto (map g (upto u)) old → n < length old → changed begins a o u ≡ true
        → set now n (g u) ≡ onto (map g (upto (u + 1))) old
    column g old now e h t =
        let l = map g (upto u) in
        let k : length l ≡ n = length-map (upto u) g ∙ sym W.number in
        ap₂ (λ (x : List ℕ) (i : ℕ). set x i (g u)) e (sym k)
        ∙ onto-more l old (g u) (omega (arith, k))
        ∙ ap (λ (x : List ℕ). onto x old)
        (sym (ap (map g) (among_in (changed begins a o) u t) ∙ map-append g (upto u) (u ∷ [])))

    pub wrote-in : (units : ℕ) → WriteRoom units fits ks fs ss → u < units → changed begins a o u ≡ true → (place : ℕ)
        → place ≡ place_by begins fits a u
        → Wrote begins fits a o (u + 1) (n + 1) ks fs ss (set ks' n 0) (set fs' n u) (set ss' n place)
    wrote-in units R h t place q = record {
      number =
          omega (arith, W.number, ap length (among_in (changed begins a o) u t), length-append (upto u) (u ∷ []));
      draws = column (λ _. 0) ks ks' W.draws (omega (arith, wrote-few, R.draws)) t;
      firsts =
          ap₂ (λ (x : List ℕ) (i : ℕ). set x i u) W.firsts W.number
          ∙ onto-more (upto u) fs u (omega (arith, W.number, wrote-few, R.firsts))
          ∙ ap (λ (x : List ℕ). onto x fs) (sym (among_in (changed begins a o) u t));
      seconds =
          ap (set ss' n) q ∙ column (place_by begins fits a) ss ss' W.seconds (omega (arith, wrote-few, R.seconds)) t;
    }

-- whether the owner differs, by the owners read
module _ (begins a o : List ℕ) (u was now : ℕ) (e : was ≡ unit_owner begins a u) (n : now ≡ unit_owner begins o u) where
  pub changed-no : was ≡ now → changed begins a o u ≡ false
  unfolding changed
  changed-no q = ap not (eq-eqb _ _ (sym e ∙ q ∙ n))

  pub changed-yes : (was ≡ now → ⊥) → changed begins a o u ≡ true
  unfolding changed
  changed-yes d = ap not (ne_eqb _ _ (λ q. d (e ∙ q ∙ sym n)))

-- the place, by the mask and the owner read
pub place-by : (begins fits a : List ℕ) (u was place : ℕ) → place ≡ count was (in_mask (get_or fits u 0)) → was ≡ unit_owner begins a u
    → place ≡ place_by begins fits a u
unfolding place_by
place-by begins fits a u was place e q = e ∙ ap (λ (w : ℕ). count w (in_mask (get_or fits u 0))) q

-- ---- the entry

map-map : (f : Draw → ℕ) (g : ℕ → Draw) (l : List ℕ) → map f (map g l) ≡ map (λ x. f (g x)) l
map-map f g [] = refl
map-map f g (x ∷ l) = ap (λ (r : List ℕ). f (g x) ∷ r) (map-map f g l)

map_same : (f g : ℕ → ℕ) (l : List ℕ) → ((x : ℕ) → f x ≡ g x) → map f l ≡ map g l
map_same f g [] e = refl
map_same f g (x ∷ l) e = ap₂ (λ (y : ℕ) (r : List ℕ). y ∷ r) (e x) (map_same f g l e)

map-plain : (l : List ℕ) → map (λ x. x) l ≡ l
map-plain [] = refl
map-plain (x ∷ l) = ap (λ (r : List ℕ). x ∷ r) (map-plain l)

module _ (P : Plan) (avail : List ℕ) (units : ℕ) (begins frozen a o : List ℕ) (D : Derived) (ks fs ss : List ℕ) where
  abbrev B : Board
  B = board_of P.people P.slots units avail begins frozen

  abbrev result : Outcome
  result = way_back_of P avail units begins frozen a o D ks fs ss

  module _ (f : Refusal) (e : f ≡ refusal_of (way_row P avail units begins frozen a o D ks fs ss)) where
    abbrev by : Refusal → ℕ → Outcome
    by r u =
        cond (eqb r.number 0) (cond (ltb u units) (way_of (Ok (way.NoWay u)) ks fs ss) (draws_written (back B a o) ks fs ss))
        (way_of (Err r) ks fs ss)

    ends_as : (y : Outcome) → result ≡ y → Ended result y.answer y.draws y.firsts y.seconds
    ends_as y q = subst (λ (x : Outcome). Ended x y.answer y.draws y.firsts y.seconds) (sym q)
        record { said = refl; draws = refl; firsts = refl; seconds = refl }

    pub way-refused : (f.number ≡ 0 → ⊥) → Ended result (Err f) ks fs ss
    unfolding way_back_of way_of
    way-refused n =
        ends_as (way_of (Err f) ks fs ss)
        (ap (λ (r : Refusal). by r (first_in_way B a o)) (sym e)
        ∙ ap (λ (b : Bool). cond b (cond (ltb (first_in_way B a o) units) (way_of (Ok (way.NoWay (first_in_way B a o))) ks fs ss)
        (draws_written (back B a o) ks fs ss)) (way_of (Err f) ks fs ss)) (ne_eqb _ 0 n))

    module _ (z : f.number ≡ 0) (u : ℕ) (eu : u ≡ first_fail units (λ v. not (stands_in_way P.slots units begins frozen a o v))) where
      is-first : u ≡ first_in_way B a o
      unfolding first_in_way in_the_way differs unowned owner_of stands_in_way changed
      is-first = eu

      is-by : result ≡ cond (ltb u units) (way_of (Ok (way.NoWay u)) ks fs ss) (draws_written (back B a o) ks fs ss)
      unfolding way_back_of
      is-by =
          ap₂ by (sym e) (sym is-first)
          ∙ ap (λ (b : Bool). cond b (cond (ltb u units) (way_of (Ok (way.NoWay u)) ks fs ss) (draws_written (back B a o) ks fs ss))
          (way_of (Err f) ks fs ss)) (eq-eqb _ 0 z)

      pub way-none : u < units → Ended result (Ok (way.NoWay u)) ks fs ss
      unfolding way_of
      way-none h =
          ends_as (way_of (Ok (way.NoWay u)) ks fs ss)
          (is-by ∙ ap (λ (b : Bool). cond b (way_of (Ok (way.NoWay u)) ks fs ss) (draws_written (back B a o) ks fs ss)) (lt-ltb u units h))

      module _ (h : units ≤ u) (fits : List ℕ) (F : FitsRight P.people P.slots units avail begins fits) (n : ℕ) (ks' fs' ss' : List ℕ)
          (W : Wrote begins fits a o units n ks fs ss ks' fs' ss') where
        abbrev U : List ℕ
        U = among (changed begins a o) units

        back_is : back B a o ≡ map (back_draw B a) U
        unfolding back differing differs owner_of changed
        back_is = refl

        kinds-are : kinds_of (back B a o) ≡ map (λ _. 0) U
        unfolding kinds_of
        kinds-are = ap (map (λ (d : Draw). d.kind)) back_is ∙ map-map (λ d. d.kind) (back_draw B a) U

        firsts-are : firsts_of (back B a o) ≡ U
        unfolding firsts_of
        firsts-are = ap (map (λ (d : Draw). d.first)) back_is ∙ map-map (λ d. d.first) (back_draw B a) U ∙ map-plain U

        seconds-are : seconds_of (back B a o) ≡ map (place_by begins fits a) U
        unfolding seconds_of place_in place_by owner_of fits_by
        seconds-are =
            ap (map (λ (d : Draw). d.second)) back_is ∙ map-map (λ d. d.second) (back_draw B a) U
            ∙ map_same (λ u. place_in B u (owner_of B a u)) (place_by begins fits a) U
            (λ u. count_same (unit_owner begins a u) _ _ (λ q. sym (F.each q u)))

        length-is : length (back B a o) ≡ n
        length-is = ap length back_is ∙ length-map U (back_draw B a) ∙ sym W.number

        pub way-written : Ended result (Ok (way.Draws n)) ks' fs' ss'
        unfolding draws_written way_of
        way-written =
            let q =
            is-by ∙ ap (λ (b : Bool). cond b (way_of (Ok (way.NoWay u)) ks fs ss) (draws_written (back B a o) ks fs ss)) (le-ltb u units h) in
            subst (λ (x : Outcome). Ended x (Ok (way.Draws n)) ks' fs' ss') (sym q)
            record {
              said = ap {B = Result Way Refusal} (λ (k : ℕ). Ok (way.Draws k)) (sym length-is);
              draws = W.draws ∙ ap (λ (l : List ℕ). onto l ks) (sym kinds-are);
              firsts = W.firsts ∙ ap (λ (l : List ℕ). onto l fs) (sym firsts-are);
              seconds = W.seconds ∙ ap (λ (l : List ℕ). onto l ss) (sym seconds-are);
            }

  -- the masks that everybody's domains make
  pub way-fits : WayAsks P avail units begins frozen a o D ks fs ss → (fits : List ℕ) (n : ℕ) → 1024 ≤ n
      → fits ≡ unit_domains_is avail P.people P.slots units begins (replicate n 0)
      → FitsRight P.people P.slots units avail begins fits
  way-fits A fits n h e =
      let s = A.asks.on.sound in
      let k = length-replicate {A = ℕ} n 0 in
      fits-right P.people P.slots units avail begins fits n (omega (arith, k, A.units-few))
      (domains-asked avail P.people P.slots units begins (replicate n 0) s.people-some s.people-few s.slots-some s.slots-few
      A.asks.on.room.avail-room A.asks.units-ok (omega (arith, k, s.slots-few))) e
