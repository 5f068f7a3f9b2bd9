-- Atomic slots are the one list that splits each base slot at every cut strictly inside it and nowhere else. They pass the test of
-- lent slots, their lengths add up slot by slot and in all, and each is wholly available to a person or not at all. Assumes nothing.
use mathlib.Core.Path.{◌≡◌, refl, sym, ap, ap₂, ◌∙◌}
use mathlib.Core.Bool.{Bool, true, false, ◌&&◌, cond}
use mathlib.Core.Logic.{◌⊎◌, inl, inr, ⊎_elim}
use mathlib.Core.List.{List, [], ◌∷◌, ◌++◌}
use Prim.Native.Nat.{ℕ, zero, suc, ◌+◌, ◌-◌, ◌≤◌, ◌<◌}
use native.Mathlib.Nat.{not-suc-le-zero}
use native.Mathlib.Omega.{arith}
use borrow.Author.Tests.{lt-ltb, le-leb, eq-eqb}
use lib.Dec.{ltb, eqb}
use lib.ListN.{length, get_or, length-append, get_or-append}
use lib.Seq.{get_or-append-add}
use Rattle.paper.specs.Count.{sum, among}
use Rattle.paper.proofs.Logic.{by-test, lt-or-ge, and-true, or_left, or-second}
use Rattle.paper.proofs.Count.{each_all, sum_same, sum-after, among_in, among-out, each_in}
use Rattle.slots.specs.Lent.{slot_ok, prev_end, slot_ok_at, slot_room_ok, slots_ok, minutes_at, demand_of}
use Rattle.slots.specs.Ranges.{Ranges, in_ranges, available}
use Rattle.slots.specs.Atomic.{is_cut, cut_after, cuts_in, IsCuts, atom_starts, atom_ends}
use Rattle.slots.specs.Inside.{start_of, end_of, RangesSound, starts_or_ends, key_cut}
use Rattle.slots.proofs.Keys.{key_covers, merged_keys}
use Rattle.slots.proofs.Entries.{any_here, any-one}
use Rattle.slots.proofs.Keys.{covers-says, says-covers}
use Rattle.slots.proofs.LentLaws.{slot-says, slots-each, prev-capped}
use Rattle.slots.proofs.RangeLaws.{merged-is}
use Rattle.slots.proofs.CutLaws.{cuts-none}
use Rattle.slots.proofs.CutMinutes.{cut-is}

-- ---- the cuts of one slot

cuts-order : (cut : ℕ → Bool) (lo : ℕ) (c : List ℕ) (hi : ℕ) → IsCuts cut lo c hi → lo < hi
cuts-order cut lo [] hi s = s.0
cuts-order cut lo (x ∷ c) hi s = omega (arith, s.0, cuts-order cut x c hi s.3)

-- the end moves past a minute that is no cut, or the minute joins the list
cuts-extend : (cut : ℕ → Bool) (lo : ℕ) (c : List ℕ) (hi : ℕ) → IsCuts cut lo c hi → cut hi ≡ false → IsCuts cut lo c (hi + 1)
cuts-extend cut lo [] hi s e = (
  omega (arith, s.0),
  λ t a b. ⊎_elim (λ (h : t < hi). s.1 t a h) (λ (h : hi ≤ t). let q : t ≡ hi = omega arith in ap cut q ∙ e) (lt-or-ge t hi),
)
cuts-extend cut lo (x ∷ c) hi s e = (s.0, s.1, s.2, cuts-extend cut x c hi s.3 e)

cuts-join : (cut : ℕ → Bool) (lo : ℕ) (c : List ℕ) (hi : ℕ) → IsCuts cut lo c hi → cut hi ≡ true → IsCuts cut lo (c ++ (hi ∷ [])) (hi + 1)
cuts-join cut lo [] hi s e = (s.0, e, s.1, (omega arith, λ t a b. absurd (omega arith)))
cuts-join cut lo (x ∷ c) hi s e = (s.0, s.1, s.2, cuts-join cut x c hi s.3 e)

module _ (cut : ℕ → Bool) (s : ℕ) where
  cut-after : (t : ℕ) → s < t → cut_after cut s t ≡ cut t
  unfolding cut_after
  cut-after t h = simp (lt-ltb s t h)

  cuts-upto : (d : ℕ) → IsCuts cut s (among (cut_after cut s) (s + 1 + d)) (s + 1 + d)
  cuts-upto zero =
      let e : s + 1 + zero ≡ s + 1 = omega arith in
      rw (e, cuts-none cut s) (omega arith, λ t a b. absurd (omega arith))
  cuts-upto (suc d) =
      let n = s + 1 + d in
      let e : s + 1 + suc d ≡ n + 1 = omega arith in
      let h : s < n = omega arith in
      rw e
      (by-test (cut n) _
      (λ t. rw (among_in (cut_after cut s) n (cut-after n h ∙ t)) (cuts-join cut s (among (cut_after cut s) n) n (cuts-upto d) t))
      (λ f. rw (among-out (cut_after cut s) n (cut-after n h ∙ f)) (cuts-extend cut s (among (cut_after cut s) n) n (cuts-upto d) f)))

  -- the cuts strictly inside a slot are all those that the definition lists
  pub cuts_are : (e : ℕ) → s < e → IsCuts cut s (cuts_in cut s e) e
  unfolding cuts_in
  cuts_are e h = let q : s + 1 + (e - (s + 1)) ≡ e = omega arith in rw q at (cuts-upto (e - (s + 1)))

-- and only that list has them
pub one-cuts : (cut : ℕ → Bool) (lo : ℕ) (c d : List ℕ) (hi : ℕ) → IsCuts cut lo c hi → IsCuts cut lo d hi → c ≡ d
one-cuts cut lo [] [] hi s u = refl
one-cuts cut lo [] (y ∷ d) hi s u =
    absurd (mathlib.Core.Bool.false≢true (sym (s.1 y u.0 (cuts-order cut y d hi u.3)) ∙ u.1))
one-cuts cut lo (x ∷ c) [] hi s u =
    absurd (mathlib.Core.Bool.false≢true (sym (u.1 x s.0 (cuts-order cut x c hi s.3)) ∙ s.1))
one-cuts cut lo (x ∷ c) (y ∷ d) hi s u =
    ⊎_elim
    (λ (h : x < y). absurd (mathlib.Core.Bool.false≢true (sym (u.2 x s.0 h) ∙ s.1)))
    (λ (h : y ≤ x).
    ⊎_elim
    (λ (g : y < x). absurd (mathlib.Core.Bool.false≢true (sym (s.2 y u.0 g) ∙ u.1)))
    (λ (g : x ≤ y).
    let e : x ≡ y = omega arith in
    ap₂ ◌∷◌ e (one-cuts cut x c d hi s.3 (rw e u.3)))
    (lt-or-ge y x))
    (lt-or-ge x y)

-- tests that agree have the same cuts, and the same pieces

among_same : (p q : ℕ → Bool) → ((t : ℕ) → p t ≡ q t) → (n : ℕ) → among p n ≡ among q n
unfolding among
among_same p q f zero = refl
among_same p q f (suc n) = ap₂ (λ (a : List ℕ) (b : Bool). a ++ cond b (n ∷ []) []) (among_same p q f n) (f n)

module _ (p q : ℕ → Bool) (same : (t : ℕ) → p t ≡ q t) (starts ends : List ℕ) where
  cuts-same : (s e : ℕ) → cuts_in p s e ≡ cuts_in q s e
  unfolding cuts_in cut_after
  cuts-same s e = among_same (λ t. ltb s t && p t) (λ t. ltb s t && q t) (λ t. ap (λ (b : Bool). ltb s t && b) (same t)) e

  pub starts-same : (n : ℕ) → atom_starts p n starts ends ≡ atom_starts q n starts ends
  unfolding atom_starts
  starts-same zero = refl
  starts-same (suc n) =
      ap₂ (λ (a b : List ℕ). a ++ (get_or starts n 0 ∷ b)) (starts-same n) (cuts-same (get_or starts n 0) (get_or ends n 0))

  pub ends_same : (n : ℕ) → atom_ends p n starts ends ≡ atom_ends q n starts ends
  unfolding atom_ends
  ends_same zero = refl
  ends_same (suc n) =
      ap₂ (λ (a b : List ℕ). a ++ (b ++ (get_or ends n 0 ∷ []))) (ends_same n) (cuts-same (get_or starts n 0) (get_or ends n 0))

-- ---- the one list: whatever lists of cuts are taken for the slots, if each has exactly the cuts strictly inside its slot

-- the lists f 0, f 1 and on, n of them, one after another
unfoldable pub strung : (ℕ → List ℕ) → ℕ → List ℕ
strung f zero = []
strung f (suc n) = strung f n ++ f n

pub one-atoms : (cut : ℕ → Bool) (n : ℕ) (starts ends : List ℕ) (c : ℕ → List ℕ)
    → ((k : ℕ) → k < n → IsCuts cut (get_or starts k 0) (c k) (get_or ends k 0))
    → (strung (λ k. get_or starts k 0 ∷ c k) n ≡ atom_starts cut n starts ends)
    × (strung (λ k. c k ++ (get_or ends k 0 ∷ [])) n ≡ atom_ends cut n starts ends)
unfolding strung atom_starts atom_ends
one-atoms cut zero starts ends c f = (refl, refl)
one-atoms cut (suc n) starts ends c f =
    let s = get_or starts n 0 in
    let e = get_or ends n 0 in
    let r = one-atoms cut n starts ends c (λ k h. f k (omega arith)) in
    let own = f n (omega arith) in
    let q : c n ≡ cuts_in cut s e = one-cuts cut s (c n) (cuts_in cut s e) e own (cuts_are cut s e (cuts-order cut s (c n) e own)) in (
      ap₂ (λ (a b : List ℕ). a ++ (s ∷ b)) r.0 q,
      ap₂ (λ (a b : List ℕ). a ++ (b ++ (e ∷ []))) r.1 q,
    )

-- ---- chains of slots: each not before the last one's end, none empty, the last not past `hi`

abbrev pub Chain : ℕ → List ℕ → List ℕ → ℕ → Type 0
Chain lo [] [] hi = lo ≤ hi
Chain lo [] (f ∷ e) hi = ⊥
Chain lo (a ∷ s) [] hi = ⊥
Chain lo (a ∷ s) (f ∷ e) hi = (lo ≤ a) × (a < f) × Chain f s e hi

chain-le : (lo : ℕ) (s e : List ℕ) (hi : ℕ) → Chain lo s e hi → lo ≤ hi
chain-le lo [] [] hi c = c
chain-le lo [] (f ∷ e) hi c = absurd c
chain-le lo (a ∷ s) [] hi c = absurd c
chain-le lo (a ∷ s) (f ∷ e) hi c = omega (arith, c.0, c.1, chain-le f s e hi c.2)

chain-from : (lo to : ℕ) (s e : List ℕ) (hi : ℕ) → to ≤ lo → Chain lo s e hi → Chain to s e hi
chain-from lo to [] [] hi h c = omega arith
chain-from lo to [] (f ∷ e) hi h c = absurd c
chain-from lo to (a ∷ s) [] hi h c = absurd c
chain-from lo to (a ∷ s) (f ∷ e) hi h c = (omega (arith, c.0), c.1, c.2)

chain-append : (lo : ℕ) (s e : List ℕ) (mid : ℕ) (s' e' : List ℕ) (hi : ℕ) → Chain lo s e mid → Chain mid s' e' hi
    → Chain lo (s ++ s') (e ++ e') hi
chain-append lo [] [] mid s' e' hi c d = chain-from mid lo s' e' hi c d
chain-append lo [] (f ∷ e) mid s' e' hi c d = absurd c
chain-append lo (a ∷ s) [] mid s' e' hi c d = absurd c
chain-append lo (a ∷ s) (f ∷ e) mid s' e' hi c d = (c.0, c.1, chain-append f s e mid s' e' hi c.2 d)

chain_length : (lo : ℕ) (s e : List ℕ) (hi : ℕ) → Chain lo s e hi → length s ≡ length e
chain_length lo [] [] hi c = refl
chain_length lo [] (f ∷ e) hi c = absurd c
chain_length lo (a ∷ s) [] hi c = absurd c
chain_length lo (a ∷ s) (f ∷ e) hi c = ap suc (chain_length f s e hi c.2)

-- the pieces of one slot
pub chain-pieces : (cut : ℕ → Bool) (lo : ℕ) (c : List ℕ) (hi : ℕ) → IsCuts cut lo c hi → Chain lo (lo ∷ c) (c ++ (hi ∷ [])) hi
chain-pieces cut lo [] hi s = (omega arith, s.0, omega arith)
chain-pieces cut lo (x ∷ c) hi s = (omega arith, s.0, chain-pieces cut x c hi s.3)

-- all pieces
pub chain-atoms : (cut : ℕ → Bool) (slots : ℕ) (starts ends : List ℕ) → ((k : ℕ) → k < slots → slot_ok_at starts ends k ≡ true) → (n : ℕ)
    → n ≤ slots
    → Chain 0 (atom_starts cut n starts ends) (atom_ends cut n starts ends) (prev_end ends n)
unfolding atom_starts atom_ends prev_end
chain-atoms cut slots starts ends each zero h = omega arith
chain-atoms cut slots starts ends each (suc n) h =
    let s = get_or starts n 0 in
    let e = get_or ends n 0 in
    let w = slot-says starts ends n (each n (omega arith)) in
    chain-append 0 (atom_starts cut n starts ends) (atom_ends cut n starts ends) (prev_end ends n) (s ∷ cuts_in cut s e)
    (cuts_in cut s e ++ (e ∷ [])) e
    (chain-atoms cut slots starts ends each n (omega arith))
    (chain-from s (prev_end ends n) (s ∷ cuts_in cut s e) (cuts_in cut s e ++ (e ∷ [])) e w.0 (chain-pieces cut s (cuts_in cut s e) e
    (cuts_are cut s e w.1)))

-- ---- a chain passes the test of lent slots

-- where the slot before slot k ends, the first one's being lo
abbrev prev_from : ℕ → List ℕ → ℕ → ℕ
prev_from lo e zero = lo
prev_from lo e (suc k) = get_or e k 0

prev-shift : (lo f : ℕ) (e : List ℕ) (k : ℕ) → prev_from f e k ≡ prev_from lo (f ∷ e) (suc k)
prev-shift lo f e zero = refl
prev-shift lo f e (suc k) = refl

chain-at : (lo : ℕ) (s e : List ℕ) (hi : ℕ) → Chain lo s e hi → (k : ℕ) → k < length s
    → (prev_from lo e k ≤ get_or s k 0) × (get_or s k 0 < get_or e k 0) × (get_or e k 0 ≤ hi)
chain-at lo [] e hi c k h = absurd (not-suc-le-zero h)
chain-at lo (a ∷ s) [] hi c k h = absurd c
chain-at lo (a ∷ s) (f ∷ e) hi c zero h = (c.0, c.1, chain-le f s e hi c.2)
chain-at lo (a ∷ s) (f ∷ e) hi c (suc k) h =
    let w = chain-at f s e hi c.2 k (omega arith) in
    (omega (arith, w.0, prev-shift lo f e k), w.1, w.2)

prev-zero : (e : List ℕ) (k : ℕ) → prev_from 0 e k ≡ prev_end e k
unfolding prev_end
prev-zero e zero = refl
prev-zero e (suc k) = refl

pub chain-ok : (s e : List ℕ) (hi : ℕ) → Chain 0 s e hi → hi ≤ 100000000 → slots_ok (length s) s e ≡ true
unfolding slots_ok slot_room_ok slot_ok_at slot_ok
chain-ok s e hi c h =
    and-true _ _ (and-true _ _ (le-leb (length s) (length s) (omega arith)) (le-leb (length s) (length e) (omega
    (arith, chain_length 0 s e hi c))))
    (each_all (length s) (slot_ok_at s e)
    (λ k g.
    let w = chain-at 0 s e hi c k g in
    and-true _ _ (le-leb (prev_end e k) (get_or s k 0) (omega (arith, w.0, prev-zero e k)))
    (and-true _ _ (lt-ltb (get_or s k 0) (get_or e k 0) w.1) (le-leb (get_or e k 0) 100000000 (omega (arith, w.2))))))

-- atomic slots of base slots that pass, pass
pub atoms-ok : (cut : ℕ → Bool) (slots : ℕ) (starts ends : List ℕ) → slots_ok slots starts ends ≡ true
    → slots_ok (length (atom_starts cut slots starts ends)) (atom_starts cut slots starts ends) (atom_ends cut slots starts ends) ≡ true
atoms-ok cut slots starts ends e =
    let f = slots-each slots starts ends e in
    chain-ok (atom_starts cut slots starts ends) (atom_ends cut slots starts ends) (prev_end ends slots)
    (chain-atoms cut slots starts ends f slots (omega arith))
    (prev-capped slots starts ends f slots (omega arith))

-- as many ends as starts, and at least one of each for a base slot
pub atoms-even : (cut : ℕ → Bool) (n : ℕ) (starts ends : List ℕ)
    → length (atom_starts cut n starts ends) ≡ length (atom_ends cut n starts ends)
unfolding atom_starts atom_ends
atoms-even cut zero starts ends = refl
atoms-even cut (suc n) starts ends =
    let s = get_or starts n 0 in
    let e = get_or ends n 0 in
    omega (
      arith,
      length-append (atom_starts cut n starts ends) (s ∷ cuts_in cut s e),
      length-append (cuts_in cut s e) (e ∷ []),
      length-append (atom_ends cut n starts ends) (cuts_in cut s e ++ (e ∷ [])),
      atoms-even cut n starts ends,
    )

pub atoms-some : (cut : ℕ → Bool) (n : ℕ) (starts ends : List ℕ) → n ≤ length (atom_starts cut n starts ends)
unfolding atom_starts
atoms-some cut zero starts ends = omega arith
atoms-some cut (suc n) starts ends =
    let s = get_or starts n 0 in
    let e = get_or ends n 0 in
    omega (arith, length-append (atom_starts cut n starts ends) (s ∷ cuts_in cut s e), atoms-some cut n starts ends)

-- ---- lengths add up

pub demand-append : (s e s' e' : List ℕ) → length s ≡ length e
    → demand_of (length (s ++ s')) (s ++ s') (e ++ e') ≡ demand_of (length s) s e + demand_of (length s') s' e'
unfolding demand_of minutes_at
demand-append s e s' e' h =
    ap (λ (n : ℕ). sum n (λ k. get_or (e ++ e') k 0 - get_or (s ++ s') k 0)) (length-append s s')
    ∙ sum-after (length s) (length s') (λ k. get_or (e ++ e') k 0 - get_or (s ++ s') k 0)
    ∙ ap₂ ◌+◌
    (sum_same (length s) (λ k. get_or (e ++ e') k 0 - get_or (s ++ s') k 0) (λ k. get_or e k 0 - get_or s k 0)
    (λ k g. ap₂ ◌-◌ (get_or-append e e' 0 k (omega arith)) (get_or-append s s' 0 k g)))
    (sum_same (length s') (λ k. get_or (e ++ e') (length s + k) 0 - get_or (s ++ s') (length s + k) 0) (λ k. get_or e' k 0 - get_or s' k 0)
    (λ k g. ap₂ ◌-◌ (ap (λ (n : ℕ). get_or (e ++ e') (n + k) 0) h ∙ get_or-append-add e e' k 0) (get_or-append-add s s' k 0)))

one-demand : (a f : ℕ) → demand_of 1 (a ∷ []) (f ∷ []) ≡ f - a
unfolding demand_of sum minutes_at
one-demand a f = omega arith

pieces-demand : (cut : ℕ → Bool) (lo : ℕ) (c : List ℕ) (hi : ℕ) → IsCuts cut lo c hi
    → demand_of (length (lo ∷ c)) (lo ∷ c) (c ++ (hi ∷ [])) ≡ hi - lo
pieces-demand cut lo [] hi s = one-demand lo hi
pieces-demand cut lo (x ∷ c) hi s =
    demand-append (lo ∷ []) (x ∷ []) (x ∷ c) (c ++ (hi ∷ [])) refl
    ∙ omega (arith, one-demand lo x, pieces-demand cut x c hi s.3, s.0, cuts-order cut x c hi s.3)

-- slot by slot
pub slot-adds : (cut : ℕ → Bool) (s e : ℕ) → s < e
    → demand_of (length (s ∷ cuts_in cut s e)) (s ∷ cuts_in cut s e) (cuts_in cut s e ++ (e ∷ [])) ≡ e - s
slot-adds cut s e h = pieces-demand cut s (cuts_in cut s e) e (cuts_are cut s e h)

-- and in all: demand is that of the base slots
pub atoms-demand : (cut : ℕ → Bool) (slots : ℕ) (starts ends : List ℕ) → ((k : ℕ) → k < slots → slot_ok_at starts ends k ≡ true) → (n : ℕ)
    → n ≤ slots
    → demand_of (length (atom_starts cut n starts ends)) (atom_starts cut n starts ends) (atom_ends cut n starts ends) ≡ demand_of n starts ends
unfolding atom_starts atom_ends demand_of sum minutes_at
atoms-demand cut slots starts ends each zero h = refl
atoms-demand cut slots starts ends each (suc n) h =
    let s = get_or starts n 0 in
    let e = get_or ends n 0 in
    let w = slot-says starts ends n (each n (omega arith)) in
    demand-append (atom_starts cut n starts ends) (atom_ends cut n starts ends) (s ∷ cuts_in cut s e) (cuts_in cut s e ++ (e ∷ []))
    (chain_length 0 (atom_starts cut n starts ends) (atom_ends cut n starts ends) (prev_end ends n) (chain-atoms cut slots starts ends each n
    (omega arith)))
    ∙ ap₂ ◌+◌ (atoms-demand cut slots starts ends each n (omega arith)) (slot-adds cut s e w.1)

-- ---- no atomic slot has a cut strictly inside it

abbrev AllFree : (ℕ → Bool) → List ℕ → List ℕ → Type 0
AllFree cut [] e = Unit
AllFree cut (a ∷ s) [] = Unit
AllFree cut (a ∷ s) (f ∷ e) = ((t : ℕ) → a < t → t < f → cut t ≡ false) × AllFree cut s e

free-append : (cut : ℕ → Bool) (s e s' e' : List ℕ) → length s ≡ length e → AllFree cut s e → AllFree cut s' e'
    → AllFree cut (s ++ s') (e ++ e')
free-append cut [] [] s' e' h a b = b
free-append cut [] (f ∷ e) s' e' h a b = absurd (omega arith)
free-append cut (x ∷ s) [] s' e' h a b = absurd (omega arith)
free-append cut (x ∷ s) (f ∷ e) s' e' h a b = (a.0, free-append cut s e s' e' (omega arith) a.1 b)

free-pieces : (cut : ℕ → Bool) (lo : ℕ) (c : List ℕ) (hi : ℕ) → IsCuts cut lo c hi → AllFree cut (lo ∷ c) (c ++ (hi ∷ []))
free-pieces cut lo [] hi s = (s.1, tt)
free-pieces cut lo (x ∷ c) hi s = (s.2, free-pieces cut x c hi s.3)

free-atoms : (cut : ℕ → Bool) (slots : ℕ) (starts ends : List ℕ) → ((k : ℕ) → k < slots → slot_ok_at starts ends k ≡ true)
    → (n : ℕ) → n ≤ slots
    → AllFree cut (atom_starts cut n starts ends) (atom_ends cut n starts ends)
unfolding atom_starts atom_ends
free-atoms cut slots starts ends each zero h = tt
free-atoms cut slots starts ends each (suc n) h =
    let s = get_or starts n 0 in
    let e = get_or ends n 0 in
    let w = slot-says starts ends n (each n (omega arith)) in
    free-append cut (atom_starts cut n starts ends) (atom_ends cut n starts ends) (s ∷ cuts_in cut s e) (cuts_in cut s e ++ (e ∷ []))
    (chain_length 0 (atom_starts cut n starts ends) (atom_ends cut n starts ends) (prev_end ends n) (chain-atoms cut slots starts ends each n
    (omega arith)))
    (free-atoms cut slots starts ends each n (omega arith)) (free-pieces cut s (cuts_in cut s e) e (cuts_are cut s e w.1))

free-at : (cut : ℕ → Bool) (s e : List ℕ) → AllFree cut s e → (k : ℕ) → k < length s → k < length e
    → (t : ℕ) → get_or s k 0 < t → t < get_or e k 0 → cut t ≡ false
free-at cut [] e a k h g = absurd (not-suc-le-zero h)
free-at cut (x ∷ s) [] a k h g = absurd (not-suc-le-zero g)
free-at cut (x ∷ s) (f ∷ e) a zero h g = a.0
free-at cut (x ∷ s) (f ∷ e) a (suc k) h g = free-at cut s e a.1 k (omega arith) (omega arith)

-- ---- wholly available, or not at all

ends-cut : (l : List ℕ) (k t : ℕ) → k < length l → (start_of (get_or l k 0) ≡ t) ⊎ (end_of (get_or l k 0) ≡ t) → key_cut l t ≡ true
unfolding key_cut starts_or_ends
ends-cut l k t h w =
    any_here (starts_or_ends t) l k h
    (⊎_elim (λ q. or_left (eqb (start_of (get_or l k 0)) t) _ (eq-eqb _ _ q)) (λ q. or-second (eqb (start_of (get_or l k 0)) t) _
    (eq-eqb _ _ q)) w)

-- a slot with no cut strictly inside it, one minute of which lies in a person's ranges, is available to them
pub whole-or-none : (R : Ranges) → RangesSound R → (p a e t : ℕ) → ((u : ℕ) → a < u → u < e → key_cut (merged_keys R) u ≡ false)
    → a ≤ t → t < e → in_ranges R p t ≡ true → available R p a e ≡ true
unfolding available
whole-or-none R S p a e t free h g i =
    let M = merged-is R S in
    let l = merged_keys R in
    any-one (key_covers p t) l _ (M.minutes p t ∙ i)
    (λ k r c.
    let x = get_or l k 0 in
    let w = covers-says p t x c in
    let begins : start_of x ≤ a =
    ⊎_elim
    (λ (z : a < start_of x).
    absurd (mathlib.Core.Bool.false≢true (sym (free (start_of x) z (omega (arith, w.1))) ∙ ends-cut l k (start_of x) r (inl refl))))
    (λ z. z) (lt-or-ge a (start_of x)) in
    let finishes : e ≤ end_of x =
    ⊎_elim
    (λ (z : end_of x < e).
    absurd (mathlib.Core.Bool.false≢true (sym (free (end_of x) (omega (arith, w.2)) z) ∙ ends-cut l k (end_of x) r (inr refl))))
    (λ z. z) (lt-or-ge (end_of x) e) in
    each_in a e (in_ranges R p)
    (λ u y z. sym (M.minutes p u) ∙ any_here (key_covers p u) l k r (says-covers p u x w.0 (omega arith) (omega arith))))

-- an atomic slot of a split by these ranges is available, or none of its minutes lies in the person's ranges
pub atom-whole : (people : ℕ) (R : Ranges) → RangesSound R → ((k : ℕ) → k < R.count → get_or R.persons k 0 < people)
    → (slots : ℕ) (starts ends : List ℕ) → slots_ok slots starts ends ≡ true
    → (k : ℕ) → k < length (atom_starts (is_cut people R) slots starts ends) → (p : ℕ)
    → available R p (get_or (atom_starts (is_cut people R) slots starts ends) k 0)
    (get_or (atom_ends (is_cut people R) slots starts ends) k 0) ≡ false
    → (t : ℕ) → get_or (atom_starts (is_cut people R) slots starts ends) k 0 ≤ t → t < get_or (atom_ends (is_cut people R) slots starts ends) k 0
    → in_ranges R p t ≡ false
atom-whole people R S known slots starts ends ok k h p f t a b =
    let each = slots-each slots starts ends ok in
    let cut = is_cut people R in
    let A = atom_starts cut slots starts ends in
    let E = atom_ends cut slots starts ends in
    let same = chain_length 0 A E (prev_end ends slots) (chain-atoms cut slots starts ends each slots (omega arith)) in
    let free = free-at cut A E (free-atoms cut slots starts ends each slots (omega arith)) k h (omega arith) in
    by-test (in_ranges R p t) _
    (λ i. absurd (mathlib.Core.Bool.true≢false
    (sym (whole-or-none R S p (get_or A k 0) (get_or E k 0) t (λ u y z. sym (cut-is R S people known u) ∙ free u y z) a b i) ∙ f)))
    (λ i. i)
