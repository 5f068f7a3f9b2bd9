-- A play by its rule: what it leaves is what draw after draw leaves, and nothing else is; its board, in slots. Assumes nothing.
use mathlib.Core.Path.{◌≡◌, refl, sym, ap, subst, ◌∙◌}
use mathlib.Core.Bool.{Bool, true, false, not, ◌&&◌}
use mathlib.Core.List.{List, [], ◌∷◌}
use mathlib.Core.Logic.{◌↔◌, ⊎_elim}
use Prim.Native.Nat.{ℕ, zero, suc, ◌+◌, ◌*◌, ◌-◌, ◌≤◌, ◌<◌}
use native.Mathlib.Omega.{arith}
use borrow.Author.Tests.{eq-eqb, eqb-true, eqb-false, ltb-true, lt-ltb}
use lib.Dec.{eqb, ltb}
use lib.ListN.{get_or}
use lib.Seq.{ext_get_or}
use Rattle.paper.specs.Count.{all, all_in}
use Rattle.paper.proofs.Logic.{by-test, both, and-true, lt-or-ge}
use Rattle.paper.proofs.Count.{in-each, each_in}
use Rattle.slotset.specs.Slots.{slot}
use Rattle.units.specs.Units.{unit_start, unit_end, units_ok}
use Rattle.units.specs.Domains.{available, able, unfrozen, clear, unit_frozen}
use Rattle.units.proofs.Units.{ends_next, ends_last, unit-within}
use Rattle.rota.specs.Board.{Board, BoardSound, InUnit, Even}
use Rattle.rota.specs.Moves.{Draw}
use Rattle.rota.specs.Plays.{step, answer, owners_after, draws_of}
use Rattle.rota.specs.Lent.{fits_unit, frozen_unit}
use Rattle.rota.specs.Acts as acts
use Rattle.owners.specs.Entries.{Outcome}
use Rattle.rota.proofs.Entered.{asks-sound, asks-even}
use Rattle.rota.proofs.Plays.{owners-append, play-even, play-length, play-past}
use Rattle.rota.proofs.Drawn.{draw-acts-exactly}
use Rattle.rota.proofs.HandsOver.{draw-hands-over, draw-keeps}
use Rattle.promises.specs.Entries.{Call, built, enough_in, no_of, board_in}
use Rattle.promises.specs.MoveRules.{draw_at, found_at}
use Rattle.promises.specs.PlayRule.{Turn, History, PlaysByRule, OneHistory, InSlots, BoardsInSlots}
use Rattle.promises.proofs.Calls.{accepted-is, accepted-says}
use Rattle.promises.proofs.Rota.{asks}
use Rattle.promises.proofs.MoveRules.{moves-by-rule}

-- ---- there is at most one turn

turn_one : (B : Board) → BoardSound B → (o : List ℕ) (d : Draw) (x y : List ℕ) → Turn B o d x → Turn B o d y → x ≡ y
turn_one B T o d x y X Y =
    by-test (eqb (answer B o d) 0) _
    (λ t.
    let A = (draw-acts-exactly B o d).acts.0 (eqb-true (answer B o d) 0 t) in
    ext_get_or 0 x y (X.long ∙ sym Y.long)
    (λ k r.
    ⊎_elim
    (λ (h : k < B.slots).
    let w = T.whole k h in
    let I : InUnit B w.0 k = record { below = w.1; from = w.2; upto = w.3 } in
    X.acting A w.0 k I ∙ sym (Y.acting A w.0 k I))
    (λ (h : B.slots ≤ k). X.past k h ∙ sym (Y.past k h)) (lt-or-ge k B.slots)))
    (λ f.
    let n : acts.Acts B o d → ⊥ = λ A. eqb-false (answer B o d) 0 f ((draw-acts-exactly B o d).acts.1 A) in
    X.idle n ∙ sym (Y.idle n))

module _ (c : Call) (e : no_of c ≡ 0) where
  abbrev B : Board
  B = board_in c

  sound : BoardSound B
  sound =
      asks-sound c.plan c.avail c.units c.begins c.frozen c.count (enough_in c) c.owners c.derived
      c.answers (asks c e)

  even : Even B c.owners
  even =
      asks-even c.plan c.avail c.units c.begins c.frozen c.count (enough_in c) c.owners c.derived
      c.answers (asks c e)

  abbrev first : ℕ → List Draw
  first i = draws_of c.draws c.firsts c.seconds i

  -- what draw i leaves is what draw i + 1 finds
  found-next : (i : ℕ) → found_at c (suc i) ≡ step B (found_at c i) (draw_at c i)
  unfolding draws_of owners_after
  found-next i = owners-append B c.owners (first i) (draw_at c i ∷ [])

  turn_at : (i : ℕ) → Turn B (found_at c i) (draw_at c i) (found_at c (suc i))
  turn_at i = record {
    acting = λ A u k I.
        ap (λ (l : List ℕ). get_or l k 0) (found-next i)
        ∙ draw-hands-over B sound (found_at c i) (play-even B sound c.owners (first i) even) u k I (draw_at c i) A;
    past = λ k h. play-past B sound k h c.owners (first (suc i)) even ∙ sym (play-past B sound k h c.owners (first i) even);
    long = play-length B c.owners (first (suc i)) ∙ sym (play-length B c.owners (first i));
    idle = λ n. found-next i ∙ draw-keeps B (found_at c i) (draw_at c i) (λ z. n ((draw-acts-exactly B (found_at c i) (draw_at c i)).acts.0 z));
  }

  found-history : History c (found_at c)
  unfolding draws_of owners_after
  found-history = record { starts = refl; turns = λ i h. turn_at i }

  same-history : (f g : ℕ → List ℕ) → History c f → History c g → (i : ℕ) → i ≤ c.count → f i ≡ g i
  same-history f g F G zero h = F.starts ∙ sym G.starts
  same-history f g F G (suc i) h =
      turn_one B sound (f i) (draw_at c i) (f (suc i)) (g (suc i)) (F.turns i (omega arith))
      (subst (λ (o : List ℕ). Turn B o (draw_at c i) (g (suc i))) (sym (same-history f g F G i (omega arith))) (G.turns i (omega arith)))

pub plays-by-rule : PlaysByRule built
plays-by-rule c e = (
  found_at c,
  record {
    history = found-history c e;
    owners = ap (λ (y : Outcome). y.owners) (accepted-is c e);
    answers = λ i h. moves-by-rule.play c e i h;
  },
)

pub one-history : OneHistory
one-history c e f g F G = same-history c e f g F G

-- ---- the board, in slots

all-false : (n : ℕ) (p : ℕ → Bool) → all n p ≡ false → (k : ℕ) × (k < n) × (p k ≡ false)
unfolding all
all-false zero p h = absurd (mathlib.Core.Bool.true≢false h)
all-false (suc n) p h =
    by-test (all n p) _
    (λ t. (n, omega arith, sym (ap (λ (b : Bool). b && p n) t) ∙ h))
    (λ f. let w = all-false n p f in (w.0, omega (arith, w.1), w.2))

in-false : (a e : ℕ) (p : ℕ → Bool) → all_in a e p ≡ false → (k : ℕ) × (a ≤ k) × (k < e) × (p k ≡ false)
unfolding all_in
in-false a e p h = let w = all-false (e - a) (λ j. p (a + j)) h in (a + w.0, omega arith, omega (arith, w.1), w.2)

module _ (c : Call) (e : no_of c ≡ 0) where
  ok : units_ok c.plan.slots c.units c.begins ≡ true
  ok = (accepted-says c e).units

  to_slots : (u k : ℕ) → InUnit (board_in c) u k → InSlots c u k
  to_slots u k I = record {
    known = I.below;
    from = I.from;
    before-next = λ h.
        omega (arith, I.upto, ends_next c.plan.slots c.units c.begins ok u (omega arith), ap (unit_start c.begins) (more u));
    below = omega (arith, I.upto, unit-within c.plan.slots c.units c.begins ok u I.below);
  }
    where
      more : (u : ℕ) → u + 1 ≡ suc u
      more u = omega arith

  from-slots : (u k : ℕ) → InSlots c u k → InUnit (board_in c) u k
  from-slots u k I = record {
    below = I.known;
    from = I.from;
    upto =
        ⊎_elim
        (λ (h : u + 1 < c.units).
        omega (arith, I.before-next (omega arith), ends_next c.plan.slots c.units c.begins ok u h, ap (unit_start c.begins) (more u)))
        (λ (h : c.units ≤ u + 1). omega (arith, I.below, ends_last c.plan.slots c.units c.begins ok u h))
        (lt-or-ge (u + 1) c.units);
  }
    where
      more : (u : ℕ) → u + 1 ≡ suc u
      more u = omega arith

  fits-slots : (p u : ℕ) → p < c.plan.people → u < c.units
      → ((board_in c).fits p u ≡ true) ↔ ((k : ℕ) → InSlots c u k → slot c.avail (16 * p) k ≡ 1)
  unfolding fits_unit able available
  fits-slots p u hp hu =
      let a = unit_start c.begins u in
      let z = unit_end c.plan.slots c.units c.begins u in
      let q : ℕ → Bool = λ k. eqb (slot c.avail (16 * p) k) 1 in (
        λ t k I.
            let t1 = both (ltb u c.units) _ t in
            let t2 = both (ltb p c.plan.people) _ t1.1 in
            let J = from-slots u k I in eqb-true _ _ (in-each a z q t2.1 k J.from J.upto),
        λ f.
            and-true (ltb u c.units) _ (lt-ltb u c.units hu)
            (and-true (ltb p c.plan.people) _ (lt-ltb p c.plan.people hp)
            (each_in a z q (λ k l h. eq-eqb _ _ (f k (to_slots u k record { below = hu; from = l; upto = h }))))),
      )

  fits-known : (p u : ℕ) → (board_in c).fits p u ≡ true → (p < c.plan.people) × (u < c.units)
  unfolding fits_unit
  fits-known p u t =
      let t1 = both (ltb u c.units) _ t in
      let t2 = both (ltb p c.plan.people) _ t1.1 in (ltb-true p _ t2.0, ltb-true u _ t1.0)

  frozen-slots : (u : ℕ) → u < c.units
      → ((board_in c).frozen u ≡ true) ↔ ((k : ℕ) × InSlots c u k × (slot c.frozen 0 k ≡ 1))
  unfolding frozen_unit unit_frozen clear unfrozen
  frozen-slots u hu =
      let a = unit_start c.begins u in
      let z = unit_end c.plan.slots c.units c.begins u in
      let q : ℕ → Bool = λ k. not (eqb (slot c.frozen 0 k) 1) in (
        λ t.
            let w = in-false a z q (not-true (all_in a z q) (both (ltb u c.units) _ t).1) in (
              w.0,
              to_slots u w.0 record { below = hu; from = w.1; upto = w.2 },
              eqb-true _ _ (not-false (eqb (slot c.frozen 0 w.0) 1) w.3),
            ),
        λ w.
            let J = from-slots u w.0 w.1 in
            and-true (ltb u c.units) _ (lt-ltb u c.units hu)
            (by-test (all_in a z q) _
            (λ t.
            absurd (mathlib.Core.Bool.true≢false
            (sym (in-each a z q t w.0 J.from J.upto) ∙ ap not (eq-eqb _ _ w.2))))
            (λ f. ap not f)),
      )
    where
      not-true : (b : Bool) → not b ≡ true → b ≡ false
      not-true true h = sym h
      not-true false h = refl

      not-false : (b : Bool) → not b ≡ false → b ≡ true
      not-false true h = refl
      not-false false h = sym h

pub boards-in-slots : BoardsInSlots
boards-in-slots c e = record {
  in-unit = λ u k. (to_slots c e u k, from-slots c e u k);
  fits = fits-slots c e;
  nobody-else = fits-known c e;
  frozen = frozen-slots c e;
}
