-- What the rota promises, each by name: of lent slots, units, availability and flags, and of a play of any length. Assumes nothing.
use mathlib.Core.Path.{◌≡◌, refl, sym, ap, ap₂, ◌∙◌, subst}
use mathlib.Core.Bool.{Bool, true, false, not, ◌&&◌, ◌||◌}
use mathlib.Core.List.{List, [], ◌∷◌, ◌++◌, append_assoc, append-nil}
use Prim.Native.Nat.{ℕ, zero, suc, ◌+◌, ◌-◌, ◌*◌, ◌≤◌, ◌<◌}
use native.Mathlib.Omega.{arith}
use borrow.Author.Tests.{lt-ltb, le-leb, eqb-true, eqb-false}
use lib.Dec.{eqb, ltb}
use lib.ListN.{length, get_or, set, drop, length-set}
use lib.Seq.{get_or-drop, get_or-set_same, get_or-set_other, get_or-append_seam, get_or-append-add}
use Rattle.paper.specs.Limits.{nobody, number_of}
use Rattle.paper.specs.Rows.{unless}
use Rattle.paper.proofs.Rows.{passed, all_pass}
use Rattle.paper.specs.Count.{sum, all, all_in, onto}
use Rattle.paper.proofs.Logic.{by-test, both}
use Rattle.paper.proofs.Count.{in-each, sum_same, get_d-over-out}
use Rattle.slotset.specs.Slots.{slot}
use Rattle.slotset.proofs.Puts.{Fit}
use Rattle.slots.specs.Lent.{demand_of}
use Rattle.units.specs.Units.{unit_start, unit_end, unit_of}
use Rattle.units.specs.Domains.{available, able, unfrozen, clear, unit_frozen}
use Rattle.units.proofs.Units.{unit-of-in}
use Rattle.rota.specs.Board.{Board, BoardSound, InUnit, Even, owner_of}
use Rattle.rota.specs.Moves.{Draw, draw}
use Rattle.rota.specs.Plays.{step, owners_after, answer, answers, touched, draws_of}
use Rattle.rota.specs.Lent.{fits_unit, frozen_unit, board_of}
use Rattle.owners.specs.Derived.{Plan, Derived, known_by, worked, uncovered, afresh, total_of}
use Rattle.owners.specs.Inside.{PlanSound}
use Rattle.owners.specs.Recount.{available_for, recount_tests, recounts}
use Rattle.owners.specs.Entries.{Outcome, outcome, placeless, lent_row, recount_row, recount_slots_row, from_slots_row, from_slots}
use Rattle.rota.specs.Acts.{GivenBy, Acts, ChoiceOutside, owner_then}
use Rattle.owners.proofs.Minutes.{known-nobody, known-person, minutes-total}
use Rattle.rota.proofs.Plays.{play-even, play-frozen, play-covered, play-only, play-length, play-past, owners-append}
use Rattle.rota.proofs.Plays.{answers-append, answers-length, draws-length}
use Rattle.owners.proofs.Steps.{afresh-same, afresh-again, afresh-step, afresh-lengths}
use Rattle.owners.proofs.Sets.{Beside, sets-out}
use Rattle.owners.proofs.Entered.{LentRight, Recounted, recount-says, says-recount, recount-step, slots-asks}
use Rattle.rota.proofs.Entered.{PlayAsks, asks-sound, asks-even}
use Rattle.rota.proofs.Drawn.{draw-acts-exactly}
use Rattle.rota.proofs.HandsOver.{draw-hands-over}
use Rattle.rota.proofs.Asked.{Asks}

-- ---- a play that is accepted

module _ (P : Plan) (avail : List ℕ) (units : ℕ) (begins frozen : List ℕ) (n : ℕ) (enough : Bool) (o : List ℕ) (D : Derived) (x :
    List ℕ) (A : PlayAsks P avail units begins frozen n enough o D x) (ds : List Draw) where
  abbrev B : Board
  B = board_of P.people P.slots units avail begins frozen

  abbrev after : List ℕ
  after = owners_after B o ds

  sound : BoardSound B
  sound = asks-sound P avail units begins frozen n enough o D x A

  even : Even B o
  even = asks-even P avail units begins frozen n enough o D x A

  -- a slot lies in its unit
  in-unit : (k : ℕ) → k < P.slots → InUnit B (unit_of units begins k) k
  in-unit k h =
      let I = unit-of-in P.slots units begins A.right.units-ok k h in
      record { below = I.known; from = I.from; upto = I.to }

  -- frozen slots keep their owners
  frozen-unit : (u k : ℕ) → InUnit B u k → eqb (slot frozen 0 k) 1 ≡ true → frozen_unit P.slots units begins frozen u ≡ true
  unfolding frozen_unit unit_frozen clear unfrozen
  frozen-unit u k I z =
      by-test (all_in (unit_start begins u) (unit_end P.slots units begins u) (λ j. not (eqb (slot frozen 0 j) 1))) _
      (λ t.
      let e = in-each (unit_start begins u) (unit_end P.slots units begins u) (λ j. not (eqb (slot frozen 0 j) 1)) t k I.from I.upto in
      absurd (mathlib.Core.Bool.false≢true (sym (ap not z) ∙ e)))
      (λ f. ap₂ ◌&&◌ (lt-ltb u units I.below) (ap not f))

  pub frozen-slots-keep : (k : ℕ) → k < P.slots → eqb (slot frozen 0 k) 1 ≡ true → get_or after k 0 ≡ get_or o k 0
  frozen-slots-keep k h z =
      let u = unit_of units begins k in
      play-frozen B sound u k (in-unit k h) (frozen-unit u k (in-unit k h) z) o ds even

  -- no covered slot becomes uncovered
  pub covered-stays : (k : ℕ) → k < P.slots → (get_or o k 0 ≡ nobody → ⊥) → get_or after k 0 ≡ nobody → ⊥
  covered-stays k h = play-covered B sound (unit_of units begins k) k (in-unit k h) o ds even

  -- only slots of units that an acting draw hands over, at its step, change owner
  pub only-handed-over : (k : ℕ) → k < P.slots → touched B o ds (unit_of units begins k) ≡ false → get_or after k 0 ≡ get_or o k 0
  only-handed-over k h = play-only B sound (unit_of units begins k) k (in-unit k h) o ds even

  -- every owner is known and available, units are uniform, sets and minutes are right: the rota passes the recount again
  after-even : Even B after
  after-even = play-even B sound o ds even

  owner-after : (k : ℕ) → k < P.slots → get_or after k 0 ≡ owner_of B after (unit_of units begins k)
  owner-after k h = after-even.same (unit_of units begins k) k (in-unit k h)

  able-at : (p u k : ℕ) → InUnit B u k → fits_unit P.people P.slots units avail begins p u ≡ true → available avail p k ≡ true
  unfolding fits_unit able
  able-at p u k I e =
      let a = both (ltb u units) _ e in
      let b = both (ltb p P.people) _ a.1 in
      in-each (unit_start begins u) (unit_end P.slots units begins u) (available avail p) b.1 k I.from I.upto

  pub owners-known : (k : ℕ) → k < P.slots → known_by P.people (get_or after k 0) ≡ true
  owners-known k h =
      by-test (eqb (get_or after k 0) nobody) _
      (λ t. ap (known_by P.people) (eqb-true _ _ t) ∙ known-nobody P.people)
      (λ f.
      let m = after-even.manned (unit_of units begins k) (in-unit k h).below (λ q. eqb-false _ _ f (owner-after k h ∙ q)) in
      known-person P.people (get_or after k 0) (omega (arith, owner-after k h, m.0)))

  pub owners-available : (k : ℕ) → k < P.slots → available_for avail (get_or after k 0) k ≡ true
  unfolding available_for
  owners-available k h =
      by-test (eqb (get_or after k 0) nobody) _ (λ t. ap (λ (b : Bool). b || available avail (get_or after k 0) k) t)
      (λ f.
      let I = in-unit k h in
      let m = after-even.manned (unit_of units begins k) I.below (λ q. eqb-false _ _ f (owner-after k h ∙ q)) in
      let e : available avail (get_or after k 0) k ≡ true = able-at (get_or after k 0) (unit_of units begins k) k I
      (ap (λ (w : ℕ). fits_unit P.people P.slots units avail begins w (unit_of units begins k)) (owner-after k h) ∙ m.1) in
      ap₂ ◌||◌ f e)

  -- the next draw, if it acts, hands each unit to the owner that its rule gives it
  pub next-hands-over : (d : Draw) (A : Acts B after d) (k : ℕ) → k < P.slots
      → get_or (step B after d) k 0 ≡ owner_then B after d A (unit_of units begins k)
  next-hands-over d A k h = draw-hands-over B sound after after-even (unit_of units begins k) k (in-unit k h) d A

  -- owners past the slots stay, and so do bits beside the slots, minutes past the people and what lies past the totals
  pub owners-past-stay : (k : ℕ) → P.slots ≤ k → get_or after k 0 ≡ get_or o k 0
  owners-past-stay k h = play-past B sound k h o ds even

  pub derived-past-stay : ((i : ℕ) → Beside P.people P.slots i → slot (afresh P after D).sets 0 i ≡ slot D.sets 0 i)
      × ((p : ℕ) → P.people ≤ p → get_or (afresh P after D).minutes p 0 ≡ get_or D.minutes p 0)
      × ((i : ℕ) → 2 ≤ i → get_or (afresh P after D).totals i 0 ≡ get_or D.totals i 0)
  unfolding afresh
  derived-past-stay =
      let g = A.right.on in (
        λ i b. sets-out P.slots after D.sets g.sound.slots-few P.people g.room.sets-room i b,
        λ p h. get_d-over-out (worked P after) P.people D.minutes p h,
        λ i h. get_d-over-out (total_of P after) 2 D.totals i h,
      )

  pub played-recounts : recounts P avail units begins after (afresh P after D) ≡ true
  unfolding owner_of
  played-recounts =
      let g = A.right.on in
      let J = afresh-step P after D g.sound.slots-few (omega (arith, play-length B o ds, g.room.owners-room)) g.room.sets-room
      g.room.minutes-room g.room.totals-room owners-known in
      says-recount P avail units begins after (afresh P after D)
      record {
        known = owners-known;
        available = owners-available;
        even = λ u k h a b. after-even.same u k record { below = h; from = a; upto = b };
        sets = J.sets;
        minutes = J.minutes;
        totals = J.totals;
      }

-- ---- every rota that passes the recount

module _ (P : Plan) (S : PlanSound P) (avail : List ℕ) (units : ℕ) (begins o : List ℕ) (D : Derived) (e : recounts P avail units
    begins o D ≡ true) where
  counted : Recounted P avail units begins o D
  counted = recount-says P avail units begins o D e

  -- all persons' minutes plus the stored uncovered ones are the sum of the lent slots
  pub minutes-and-uncovered : sum P.people (λ p. get_or D.minutes p 0) + get_or D.totals 0 0 ≡ demand_of P.slots P.starts
      P.ends
  unfolding total_of
  minutes-and-uncovered =
      ap (λ (t : ℕ). sum P.people (λ p. get_or D.minutes p 0) + t) (counted.totals 0 (omega arith))
      ∙ ap (λ (s : ℕ). s + uncovered P o) (sum_same P.people (λ p. get_or D.minutes p 0) (worked P o) counted.minutes)
      ∙ minutes-total P o S.people-few counted.known

-- ---- from_slots of the owners of a rota that passes the recount

-- D' has the sets, minutes and totals of D; every other bit and entry, and the lengths, are those of E
pub record Copied (P : Plan) (D E D' : Derived) : Type 0 where
  pub sets : (p k : ℕ) → p < P.people → k < P.slots → slot D'.sets (16 * p) k ≡ slot D.sets (16 * p) k
  pub minutes : (p : ℕ) → p < P.people → get_or D'.minutes p 0 ≡ get_or D.minutes p 0
  pub totals : (i : ℕ) → i < 2 → get_or D'.totals i 0 ≡ get_or D.totals i 0
  pub beside : (i : ℕ) → Beside P.people P.slots i → slot D'.sets 0 i ≡ slot E.sets 0 i
  pub past : (p : ℕ) → P.people ≤ p → get_or D'.minutes p 0 ≡ get_or E.minutes p 0
  pub past-totals : (i : ℕ) → 2 ≤ i → get_or D'.totals i 0 ≡ get_or E.totals i 0
  pub lengths : (length D'.sets ≡ length E.sets) × (length D'.minutes ≡ length E.minutes)
      × (length D'.totals ≡ length E.totals)

-- a rota that passes with units passes without
pub recount-slots-too : (counts room : Bool) (P : Plan) (avail : List ℕ) (units : ℕ) (begins o : List ℕ) (D : Derived)
    → number_of (recount_row counts room P avail units begins o D) ≡ 0 → number_of (recount_slots_row P avail o D) ≡ 0
unfolding recount_row recount_slots_row lent_row recount_tests all
recount-slots-too counts room P avail units begins o D e =
    let h = passed (recount_row counts room P avail units begins o D) refl e in
    all_pass (recount_slots_row P avail o D)
    (h 0, (h 1, (refl, (h 3, (h 4, (h 5, (h 6, (h 7, (h 8, (refl, (h 10, (h 12, (h 13, (refl, (h 15, (h 16, (h 17, tt)))))))))))))))))

module _ (P : Plan) (avail o : List ℕ) (D : Derived) (e : number_of (recount_slots_row P avail o D) ≡ 0) where
  on : LentRight P avail o D
  on = (slots-asks P avail o D e).0

  right : Recounted P avail 0 [] o D
  right = recount-says P avail 0 [] o D (slots-asks P avail o D e).1

  module _ (E : Derived) (rs : 16 * P.people ≤ length E.sets) (rm : P.people ≤ length E.minutes) (rt : 2 ≤ length E.totals) where
    accepted : number_of (from_slots_row P avail o E) ≡ 0
    unfolding from_slots_row recount_slots_row lent_row recount_tests
    accepted =
        let h = passed (recount_slots_row P avail o D) refl e in
        all_pass (from_slots_row P avail o E)
        (h 0, (h 1, (refl, (h 3, (h 4, (h 5, (le-leb _ _ rs, (le-leb _ _ rm, (le-leb _ _ rt, (refl, (h 10, (h 11, (h 12, tt)))))))))))))

    -- whatever columns are lent, it is accepted and leaves what is worked out afresh
    made : from_slots P avail o E ≡ record { refusal = placeless 0; owners = o; derived = afresh P o E; answers = [] }
    unfolding from_slots outcome unless
    made = simp accepted

    -- in any columns with room: the rota's sets and minutes, and what lies beside or past them as it was lent
    pub from-slots-copies : Copied P D E (from_slots P avail o E).derived
    unfolding afresh
    from-slots-copies =
        let J = afresh-step P o E on.sound.slots-few on.room.owners-room rs rm rt right.known in
        subst (λ (y : Outcome). Copied P D E y.derived) (sym made)
        record {
          sets = λ p k h g. J.sets p k h g ∙ sym (right.sets p k h g);
          minutes = λ p h. J.minutes p h ∙ sym (right.minutes p h);
          totals = λ i h. J.totals i h ∙ sym (right.totals i h);
          beside = λ i b. sets-out P.slots o E.sets on.sound.slots-few P.people rs i b;
          past = λ p h. get_d-over-out (worked P o) P.people E.minutes p h;
          past-totals = λ i h. get_d-over-out (total_of P o) 2 E.totals i h;
          lengths = afresh-lengths P o E;
        }

  -- in its own columns, of any length: accepted, and every word and entry of them, past the needed ones too, is as it was
  pub from-slots-back : Fit D.sets → from_slots P avail o D ≡ record { refusal = placeless 0; owners = o; derived = D; answers = [] }
  from-slots-back f =
      let R = on.room in
      made D R.sets-room R.minutes-room R.totals-room
      ∙ ap (λ (d : Derived). record { refusal = placeless 0; owners = o; derived = d; answers = [] })
      (sym (afresh-same P o D on.sound.slots-few f (recount-step P avail 0 [] o D R right)))

-- ---- a single assign keeps the recount true, units aside

module _ (P : Plan) (avail o : List ℕ) (D : Derived) (k w : ℕ) (A : Asks P avail o D k w) where
  set_at : (j : ℕ) → j < P.slots → (Q : ℕ → Type 0) → (j ≡ k → Q w) → Q (get_or o j 0) → Q (get_or (set o k w) j 0)
  set_at j h Q f g =
      by-test (eqb j k) _
      (λ t.
      let q = eqb-true j k t in
      subst Q (sym (ap (λ (i : ℕ). get_or (set o k w) i 0) q ∙ get_or-set_same o k w 0 (omega (arith, A.on.room.owners-room)))) (f q))
      (λ n. subst Q (sym (get_or-set_other o k j w 0 (λ q. eqb-false j k n q))) g)

  set_known : (j : ℕ) → j < P.slots → known_by P.people (get_or (set o k w) j 0) ≡ true
  set_known j h = set_at j h (λ v. known_by P.people v ≡ true) (λ _. A.known) (A.recount.known j h)

  pub assign-recounts : recounts P avail 0 [] (set o k w) (afresh P (set o k w) D) ≡ true
  assign-recounts =
      let g = A.on in
      let J = afresh-step P (set o k w) D g.sound.slots-few (omega (arith, length-set o k w, g.room.owners-room)) g.room.sets-room
      g.room.minutes-room g.room.totals-room set_known in
      says-recount P avail 0 [] (set o k w) (afresh P (set o k w) D)
      record {
        known = set_known;
        available = λ j h.
            set_at j h (λ v. available_for avail v j ≡ true) (λ q. ap (available_for avail w) q ∙ A.available) (A.recount.available j h);
        even = λ u j h a b. absurd (omega arith);
        sets = J.sets;
        minutes = J.minutes;
        totals = J.totals;
      }

-- ---- a list played in two calls

same-draw : (a b c x y z : ℕ) → a ≡ x → b ≡ y → c ≡ z → draw a b c ≡ draw x y z
same-draw a b c x y z p q r = ap₂ {C = Draw} (λ (i j : ℕ). draw i j c) p q ∙ ap {B = Draw} (λ (k : ℕ). draw x y k) r

-- the first n + m draws are the first n and then the m after them
draws-split : (ks fs ss : List ℕ) (n m : ℕ) → draws_of ks fs ss (n + m) ≡ draws_of ks fs ss n ++ draws_of (drop n ks) (drop n fs) (drop
    n ss) m
unfolding draws_of
draws-split ks fs ss n zero = let e : n + 0 ≡ n = omega arith in ap (draws_of ks fs ss) e ∙ sym (append-nil (draws_of ks fs ss n))
draws-split ks fs ss n (suc m) =
    let e : n + suc m ≡ suc (n + m) = omega arith in
    let d : draw (get_or ks (n + m) 0) (get_or fs (n + m) 0) (get_or ss (n + m) 0)
    ≡ draw (get_or (drop n ks) m 0) (get_or (drop n fs) m 0) (get_or (drop n ss) m 0) =
    same-draw _ _ _ _ _ _ (sym (get_or-drop n ks m 0)) (sym (get_or-drop n fs m 0)) (sym (get_or-drop n ss m 0)) in
    ap (draws_of ks fs ss) e
    ∙ ap₂ (λ (l : List Draw) (y : Draw). l ++ (y ∷ [])) (draws-split ks fs ss n m) d
    ∙ append_assoc (draws_of ks fs ss n) (draws_of (drop n ks) (drop n fs) (drop n ss) m) _

module _ (B : Board) (o : List ℕ) (ks fs ss : List ℕ) (n m : ℕ) where
  abbrev first-call : List ℕ
  first-call = owners_after B o (draws_of ks fs ss n)

  abbrev rest : List Draw
  rest = draws_of (drop n ks) (drop n fs) (drop n ss) m

  pub two-calls-owners : owners_after B o (draws_of ks fs ss (n + m)) ≡ owners_after B first-call rest
  two-calls-owners = ap (owners_after B o) (draws-split ks fs ss n m) ∙ owners-append B o (draws_of ks fs ss n) rest

  pub two-calls-answers : answers B o (draws_of ks fs ss (n + m)) ≡ answers B o (draws_of ks fs ss n) ++ answers B first-call rest
  two-calls-answers = ap (answers B o) (draws-split ks fs ss n m) ∙ answers-append B o (draws_of ks fs ss n) rest

  pub two-calls-derived : (P : Plan) (D : Derived) → P.slots ≤ 1024 → 16 * P.people ≤ length D.sets → Fit D.sets
      → afresh P (owners_after B first-call rest) (afresh P first-call D) ≡ afresh P (owners_after B o (draws_of ks fs ss (n + m))) D
  two-calls-derived P D few room f =
      afresh-again P first-call (owners_after B first-call rest) D few room f ∙ ap (λ (l : List ℕ). afresh P l D) (sym two-calls-owners)

-- ---- each answer of a play, beside the rule

at-seam : (l r s : List ℕ) (a i : ℕ) → length l ≡ i → get_or (((l ++ (a ∷ [])) ++ r) ++ s) i 0 ≡ a
at-seam l r s a i z =
    ap (λ (y : List ℕ). get_or y i 0) (append_assoc (l ++ (a ∷ [])) r s ∙ append_assoc l (a ∷ []) (r ++ s))
    ∙ ap (λ (k : ℕ). get_or (l ++ (a ∷ (r ++ s))) k 0) (sym z) ∙ get_or-append_seam l a (r ++ s) 0

module _ (B : Board) (o ks fs ss x : List ℕ) (n i : ℕ) (h : i < n) where
  abbrev drawn : Draw
  drawn = draw (get_or ks i 0) (get_or fs i 0) (get_or ss i 0)

  -- the owners that draw i finds
  abbrev found : List ℕ
  found = owners_after B o (draws_of ks fs ss i)

  abbrev number_at : ℕ
  number_at = get_or (onto (answers B o (draws_of ks fs ss n)) x) i 0

  -- answer i is that of draw i, to the owners that the draws before it leave
  pub answer_at : number_at ≡ answer B found drawn
  unfolding onto draws_of answers
  answer_at =
      let m = n - suc i in
      let rest = draws_of (drop (suc i) ks) (drop (suc i) fs) (drop (suc i) ss) m in
      let l = answers B o (draws_of ks fs ss i) in
      let a = answer B found drawn in
      let e : n ≡ suc i + m = omega arith in
      let z : length l ≡ i = answers-length B o (draws_of ks fs ss i) ∙ draws-length ks fs ss i in
      let w : answers B o (draws_of ks fs ss n) ≡ (l ++ (a ∷ [])) ++ answers B (owners_after B o (draws_of ks fs ss (suc i))) rest =
      ap (λ (k : ℕ). answers B o (draws_of ks fs ss k)) e
      ∙ two-calls-answers B o ks fs ss (suc i) m
      ∙ ap (λ (y : List ℕ). y ++ answers B (owners_after B o (draws_of ks fs ss (suc i))) rest)
      (answers-append B o (draws_of ks fs ss i) (drawn ∷ [])) in
      ap (λ (y : List ℕ). get_or (y ++ drop (length y) x) i 0) w ∙ at-seam l _ _ a i z

  -- it is 0 exactly when the conditions of that draw's move hold there, 2 exactly when its choice lies outside, 1 exactly when neither
  pub answers-exactly : GivenBy number_at (Acts B found drawn) (ChoiceOutside B found drawn)
  answers-exactly =
      subst (λ (r : ℕ). GivenBy r (Acts B found drawn) (ChoiceOutside B found drawn)) (sym answer_at)
      (draw-acts-exactly B found drawn)

-- answers past the draws stay
pub answers-past-stay : (B : Board) (o ks fs ss x : List ℕ) (n k : ℕ) → n ≤ k
    → get_or (onto (answers B o (draws_of ks fs ss n)) x) k 0 ≡ get_or x k 0
unfolding onto
answers-past-stay B o ks fs ss x n k h =
    let l = answers B o (draws_of ks fs ss n) in
    let z : length l ≡ n = answers-length B o (draws_of ks fs ss n) ∙ draws-length ks fs ss n in
    let e : k ≡ length l + (k - n) = omega arith in
    ap (λ (j : ℕ). get_or (l ++ drop (length l) x) j 0) e ∙ get_or-append-add l (drop (length l) x) (k - n) 0
    ∙ get_or-drop (length l) x (k - n) 0 ∙ ap (λ (j : ℕ). get_or x j 0) (sym e)
