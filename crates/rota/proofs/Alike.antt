-- A list of structs plays as its three columns do. Assumes nothing.
use mathlib.Core.Path.{◌≡◌, refl, sym, ap, ap₂, ◌∙◌}
use mathlib.Core.Bool.{Bool, true, false, cond, ◌&&◌}
use mathlib.Core.List.{List, [], ◌∷◌, ◌++◌, map}
use Prim.Native.Nat.{ℕ, zero, suc, ◌≤◌, ◌<◌}
use native.Mathlib.Nat.{not-suc-le-zero, le_of_suc-le-suc}
use native.Mathlib.Omega.{arith}
use borrow.Author.Tests.{eqb-true, leb-true}
use lib.Dec.{eqb, leb}
use lib.ListN.{length, get_or, take, length-map, get_or-map}
use Rattle.paper.specs.Limits.{number_of}
use Rattle.paper.specs.Rows.{unless, refusal_of}
use Rattle.paper.proofs.Rows.{said}
use Rattle.paper.specs.Count.{onto}
use Rattle.paper.proofs.Logic.{by-test}
use Rattle.owners.specs.Derived.{Plan, Derived, afresh}
use Rattle.owners.specs.Entries.{Outcome, outcome}
use Rattle.rota.specs.declared.draws.Draw as struct
use Rattle.rota.specs.Board.{Board}
use Rattle.rota.specs.Moves.{Draw, draw}
use Rattle.rota.specs.Plays.{draws_of, owners_after, answers}
use Rattle.rota.specs.Lent.{board_of}
use Rattle.rota.specs.Entries.{play_row, played_list, columns_enough, played}
use Rattle.rota.specs.Draws.{numbers, none, draw_at, played_draws, draws, firsts, seconds}
use Rattle.rota.proofs.Entered.{play-asks}

-- ---- their draws

-- the first i + 1 are the first i and one more
pub draws-suc : (ds : List struct.Draw) (i : ℕ) → i < length ds
    → map numbers (take (suc i) ds) ≡ map numbers (take i ds) ++ (numbers (draw_at ds i) ∷ [])
draws-suc [] i h = absurd (not-suc-le-zero h)
draws-suc (d ∷ ds) zero h = refl
draws-suc (d ∷ ds) (suc i) h = ap (λ (l : List Draw). numbers d ∷ l) (draws-suc ds i (le_of_suc-le-suc h))

number_same : (f : struct.Draw → ℕ) → f none ≡ 0 → (ds : List struct.Draw) (i : ℕ) → f (draw_at ds i) ≡ get_or (map f ds) i 0
number_same f z ds i = sym (get_or-map f ds i none) ∙ ap (get_or (map f ds) i) z

draw-same : (ds : List struct.Draw) (i : ℕ) → numbers (draw_at ds i) ≡ draw (get_or (draws ds) i 0) (get_or (firsts ds) i 0)
    (get_or (seconds ds) i 0)
unfolding draws firsts seconds
draw-same ds i =
    let k = map (λ (d : struct.Draw). d.draw) ds in
    let f = map (λ (d : struct.Draw). d.first) ds in
    ap (λ (n : ℕ). draw n (draw_at ds i).first (draw_at ds i).second) (number_same (λ d. d.draw) refl ds i)
    ∙ ap (λ (n : ℕ). draw (get_or k i 0) n (draw_at ds i).second) (number_same (λ d. d.first) refl ds i)
    ∙ ap (λ (n : ℕ). draw (get_or k i 0) (get_or f i 0) n) (number_same (λ d. d.second) refl ds i)

pub draws-same : (ds : List struct.Draw) (n : ℕ) → n ≤ length ds → map numbers (take n ds) ≡ draws_of (draws ds) (firsts ds) (seconds ds) n
unfolding draws_of
draws-same ds zero h = refl
draws-same ds (suc n) h =
    draws-suc ds n h ∙ ap₂ (λ (l : List Draw) (d : Draw). l ++ (d ∷ [])) (draws-same ds n (omega arith)) (draw-same ds n)

-- ---- their room

thrice : (b : Bool) → b ≡ b && (b && b)
thrice true = refl
thrice false = refl

pub enough-same : (ds : List struct.Draw) (n : ℕ) → leb n (length ds) ≡ columns_enough n (draws ds) (firsts ds) (seconds ds)
unfolding columns_enough draws firsts seconds
enough-same ds n =
    let at : (f : struct.Draw → ℕ) → leb n (length ds) ≡ leb n (length (map f ds)) = λ f. ap (leb n) (sym (length-map ds f)) in
    thrice (leb n (length ds))
    ∙ ap (λ (b : Bool). b && (leb n (length ds) && leb n (length ds))) (at (λ d. d.draw))
    ∙ ap₂ (λ (b c : Bool). leb n (length (map (λ (d : struct.Draw). d.draw) ds)) && (b && c)) (at (λ d. d.first)) (at (λ d. d.second))

-- ---- their outcome

module _ (P : Plan) (avail : List ℕ) (units : ℕ) (begins frozen : List ℕ) (n : ℕ) (o : List ℕ) (D : Derived) (x : List ℕ) where
  abbrev play : Bool → List Draw → Outcome
  play enough ds = played_list P avail units begins frozen n enough ds o D x

  -- a refused play doesn't look at its draws
  refused-same : (enough : Bool) (ds es : List Draw) → eqb (number_of (play_row P avail units begins frozen n enough o D x)) 0 ≡ false
      → play enough ds ≡ play enough es
  unfolding played_list outcome unless
  refused-same enough ds es f =
      let row = play_row P avail units begins frozen n enough o D x in
      let B : Board = board_of P.people P.slots units avail begins frozen in
      let left : Bool → List Draw → Outcome = λ t l. record {
        refusal = refusal_of row;
        owners = cond t (owners_after B o l) o;
        derived = cond t (afresh P (owners_after B o l) D) D;
        answers = cond t (onto (answers B o l) x) x;
      } in
      let g = ap (λ (k : ℕ). eqb k 0) (said row refl) ∙ f in
      ap (λ (t : Bool). left t ds) g ∙ sym (ap (λ (t : Bool). left t es) g)

  pub played-same : (ds : List struct.Draw)
      → played_draws P avail units begins frozen n ds o D x ≡ played P avail units begins frozen n (draws ds) (firsts ds) (seconds ds) o D x
  played-same ds =
      let e = leb n (length ds) in
      let columns = draws_of (draws ds) (firsts ds) (seconds ds) n in
      by-test (eqb (number_of (play_row P avail units begins frozen n e o D x)) 0) _
      (λ t.
      let A = play-asks P avail units begins frozen n e o D x (eqb-true _ 0 t) in
      ap (play e) (draws-same ds n (leb-true n (length ds) A.right.draws)))
      (λ f. refused-same e (map numbers (take n ds)) columns f)
      ∙ ap (λ (b : Bool). play b columns) (enough-same ds n)
