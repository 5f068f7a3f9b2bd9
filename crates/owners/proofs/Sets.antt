-- Sets worked out from owners: what each slot is, and that only one list of words has those slots. Assumes nothing.
use Rattle.std.proofs.Common.{◌≡◌, ℕ, zero, suc, ◌+◌, ◌-◌, ◌*◌, ◌/◌, ◌%◌, ◌<◌, ◌≤◌, Bool, cond, ◌&&◌, eqb, List, length, get_or, sym, refl, ap, ◌∙◌, ap₂, ⊎_elim, zero-le, arith, lt-ltb, eq-eqb, ne_eqb, eqb-true, le-leb}
use borrow.Author.Tests.{eqb-false}
use Rattle.paper.specs.Limits.{nobody}
use Rattle.paper.specs.Count.{fill}
use Rattle.paper.specs.Bits.{bit_of}
use Rattle.paper.proofs.Logic.{by-test, below_suc, lt-or-ge}
use Rattle.paper.proofs.Count.{get_d-fill-in, get_d-fill-out}
use Rattle.slotset.specs.Slots.{slot, put_slots}
use Rattle.slotset.proofs.Puts.{length-puts, slot-puts-here, slot-puts-other, Fit, puts-fit, slots-ext}
use Rattle.owners.specs.Derived.{held, sets_from}

-- slot k of person p, by its place among all bits
pub place : (ws : List ℕ) (p k : ℕ) → slot ws (16 * p) k ≡ slot ws 0 (1024 * p + k)
unfolding slot
place ws p k =
    let q : 16 * p + k / 64 ≡ 0 + (1024 * p + k) / 64 = omega arith in
    let m : k % 64 ≡ (1024 * p + k) % 64 = omega arith in
    ap₂ (λ (x y : ℕ). bit_of (get_or ws x 0) y) q m

pub held-lt : (o : List ℕ) (p k : ℕ) → held o p k < 2
unfolding held
held-lt o p k = by-test (eqb (get_or o k 0) p) _ (λ t. simp t (omega arith)) (λ f. simp f (omega arith))

pub held-own : (o : List ℕ) (p k : ℕ) → get_or o k 0 ≡ p → held o p k ≡ 1
unfolding held
held-own o p k e = simp (eq-eqb (get_or o k 0) p e)

pub held-not : (o : List ℕ) (p k : ℕ) → (get_or o k 0 ≡ p → ⊥) → held o p k ≡ 0
unfolding held
held-not o p k e = simp (ne_eqb (get_or o k 0) p e)

pub held_same : (o o' : List ℕ) (p k : ℕ) → get_or o k 0 ≡ get_or o' k 0 → held o p k ≡ held o' p k
unfolding held
held_same o o' p k e = ap (λ (w : ℕ). cond (eqb w p) 1 0) e

pub length-sets : (n slots : ℕ) (o ws : List ℕ) → length (sets_from n slots o ws) ≡ length ws
unfolding sets_from
length-sets zero slots o ws = refl
length-sets (suc n) slots o ws = length-puts (held o n) (16 * n) 0 slots (sets_from n slots o ws) ∙ length-sets n slots o ws

pub sets-fit : (n slots : ℕ) (o ws : List ℕ) → Fit ws → Fit (sets_from n slots o ws)
unfolding sets_from
sets-fit zero slots o ws f = f
sets-fit (suc n) slots o ws f =
    puts-fit (held o n) (16 * n) 0 slots (sets_from n slots o ws) (held-lt o n) (sets-fit n slots o ws f)

-- no slot below the count of one of the first n people stands at bit i
abbrev pub Beside : ℕ → ℕ → ℕ → Type 0
Beside n slots i = (p k : ℕ) → p < n → k < slots → i ≡ 1024 * p + k → ⊥

module _ (slots : ℕ) (o ws : List ℕ) (few : slots ≤ 1024) where
  pub sets-in : (n : ℕ) → 16 * n ≤ length ws → (p k : ℕ) → p < n → k < slots → slot (sets_from n slots o ws) (16 * p) k ≡ held o p k
  unfolding sets_from
  sets-in zero room p k h g = absurd (omega arith)
  sets-in (suc n) room p k h g =
      let l = sets_from n slots o ws in
      let fits : 16 * n * 64 + (0 + slots) ≤ length l * 64 = omega (arith, length-sets n slots o ws) in
      below_suc _ h
      (λ q.
      ap (λ (x : ℕ). slot (put_slots (held o n) (16 * n) 0 slots l) (16 * x) k) q
      ∙ slot-puts-here (held o n) (16 * n) 0 slots l k (held-lt o n) fits
      ∙ ap (λ (b : Bool). cond b (held o n k) (slot l (16 * n) k)) (ap₂ ◌&&◌ (le-leb 0 k zero-le) (lt-ltb k (0 + slots) (omega arith)))
      ∙ ap (λ (x : ℕ). held o x k) (sym q))
      (λ b.
      slot-puts-other (held o n) (16 * n) 0 slots l (16 * p) k (held-lt o n) fits (λ x y. omega arith)
      ∙ sets-in n (omega arith) p k b g)

  pub sets-out : (n : ℕ) → 16 * n ≤ length ws → (i : ℕ) → Beside n slots i → slot (sets_from n slots o ws) 0 i ≡ slot ws 0 i
  unfolding sets_from
  sets-out zero room i f = refl
  sets-out (suc n) room i f =
      let l = sets_from n slots o ws in
      let fits : 16 * n * 64 + (0 + slots) ≤ length l * 64 = omega (arith, length-sets n slots o ws) in
      slot-puts-other (held o n) (16 * n) 0 slots l 0 i (held-lt o n) fits
      (λ x y. f n (i - 1024 * n) (omega arith) (omega arith) (omega arith))
      ∙ sets-out n (omega arith) i (λ p k h g e. f p k (omega arith) g e)

  -- only one list of words has these slots, and the bits beside them as they were
  pub sets-are : (n : ℕ) (vs : List ℕ) → 16 * n ≤ length ws → length vs ≡ length ws → Fit ws → Fit vs
      → ((p k : ℕ) → p < n → k < slots → slot vs (16 * p) k ≡ held o p k)
      → ((i : ℕ) → Beside n slots i → slot vs 0 i ≡ slot ws 0 i) → vs ≡ sets_from n slots o ws
  sets-are n vs room e fw fv inn out =
      let us = sets_from n slots o ws in
      slots-ext vs us (e ∙ sym (length-sets n slots o ws)) fv (sets-fit n slots o ws fw)
      (λ i.
      let p = i / 1024 in
      let k = i % 1024 in
      let at : i ≡ 1024 * p + k = omega arith in
      let beside : (p < n → k < slots → ⊥) → slot vs 0 i ≡ slot us 0 i = λ z.
      let b : Beside n slots i = λ q j h g x.
      let s : q ≡ p = omega arith in
      let t : j ≡ k = omega arith in
      z (omega arith) (omega arith) in
      out i b ∙ sym (sets-out n room i b) in
      ⊎_elim
      (λ (h : p < n).
      ⊎_elim
      (λ (g : k < slots).
      ap (slot vs 0) at ∙ sym (place vs p k) ∙ inn p k h g ∙ sym (sets-in n room p k h g) ∙ place us p k ∙ ap (slot us 0) (sym at))
      (λ (g : slots ≤ k). beside (λ x y. omega arith))
      (lt-or-ge k slots))
      (λ (h : n ≤ p). beside (λ x y. omega arith))
      (lt-or-ge p n))

-- sets worked out afresh forget those before
pub sets-again : (n slots : ℕ) (o o' ws : List ℕ) → slots ≤ 1024 → 16 * n ≤ length ws → Fit ws
    → sets_from n slots o' (sets_from n slots o ws) ≡ sets_from n slots o' ws
sets-again n slots o o' ws few room f =
    let l = sets_from n slots o ws in
    let fl = sets-fit n slots o ws f in
    let r : 16 * n ≤ length l = omega (arith, length-sets n slots o ws) in
    sets-are slots o' ws few n (sets_from n slots o' l) room (length-sets n slots o' l ∙ length-sets n slots o ws) f (sets-fit n
    slots o' l fl)
    (sets-in slots o' l few n r) (λ i b. sets-out slots o' l few n r i b ∙ sets-out slots o ws few n room i b)

-- sets that are right are those worked out afresh
pub sets_same : (n slots : ℕ) (o ws : List ℕ) → slots ≤ 1024 → 16 * n ≤ length ws → Fit ws
    → ((p k : ℕ) → p < n → k < slots → slot ws (16 * p) k ≡ held o p k) → ws ≡ sets_from n slots o ws
sets_same n slots o ws few room f inn = sets-are slots o ws few n ws room refl f f inn (λ i b. refl)

-- ---- slots a up to e of one person's set

-- the sets with those slots of w's set at v; nobody has no set
unfoldable pub stretch_for : ℕ → ℕ → ℕ → ℕ → List ℕ → List ℕ
stretch_for v w a e ws = cond (eqb w nobody) ws (put_slots (λ _. v) (16 * w) a (e - a) ws)

module _ (v w a e : ℕ) (ws : List ℕ) (hv : v < 2) where
  pub length-set-for : length (stretch_for v w a e ws) ≡ length ws
  unfolding stretch_for
  length-set-for = by-test (eqb w nobody) _ (λ t. simp t) (λ f. simp f (length-puts (λ _. v) (16 * w) a (e - a) ws))

  pub set-for-fit : Fit ws → Fit (stretch_for v w a e ws)
  unfolding stretch_for
  set-for-fit f = by-test (eqb w nobody) _ (λ t. simp t f) (λ n. simp n (puts-fit (λ _. v) (16 * w) a (e - a) ws (λ _. hv) f))

  module _ (le : a ≤ e) (few : e ≤ 1024) (room : (w ≡ nobody → ⊥) → 16 * w + 16 ≤ length ws) where
    fits : (w ≡ nobody → ⊥) → 16 * w * 64 + (a + (e - a)) ≤ length ws * 64
    fits n = let r = room n in omega arith

    pub set-for-in : (k : ℕ) → (w ≡ nobody → ⊥) → a ≤ k → k < e → slot (stretch_for v w a e ws) (16 * w) k ≡ v
    unfolding stretch_for
    set-for-in k n h g =
        simp (ne_eqb w nobody n)
        (slot-puts-here (λ _. v) (16 * w) a (e - a) ws k (λ _. hv) (fits n)
        ∙ ap (λ (b : Bool). cond b v (slot ws (16 * w) k)) (ap₂ ◌&&◌ (le-leb a k h) (lt-ltb k (a + (e - a)) (omega arith))))

    -- any other bit stays
    pub set-for-out : (i : ℕ) → ((w ≡ nobody → ⊥) → (k : ℕ) → a ≤ k → k < e → i ≡ 1024 * w + k → ⊥) → slot (stretch_for v w a e ws) 0 i ≡
        slot ws 0 i
    unfolding stretch_for
    set-for-out i f =
        by-test (eqb w nobody) _ (λ t. simp t)
        (λ n. simp n
        (slot-puts-other (λ _. v) (16 * w) a (e - a) ws 0 i (λ _. hv) (fits (eqb-false w nobody n))
        (λ x y. f (eqb-false w nobody n) (i - 1024 * w) (omega arith) (omega arith) (omega arith))))

-- slots a up to e go from old to w
module _ (n slots a e old w : ℕ) (o ws : List ℕ) (few : slots ≤ 1024) (le : a ≤ e) (within : e ≤ slots) (long : slots ≤ length o)
    (people : n ≤ 32) (room : 16 * n ≤ length ws) (fit : Fit ws)
    (right : (p k : ℕ) → p < n → k < slots → slot ws (16 * p) k ≡ held o p k)
    (owned : (k : ℕ) → a ≤ k → k < e → get_or o k 0 ≡ old)
    (ho : (old ≡ nobody → ⊥) → old < n) (hw : (w ≡ nobody → ⊥) → w < n) where
  abbrev less : List ℕ
  less = stretch_for 0 old a e ws

  abbrev more : List ℕ
  more = stretch_for 1 w a e less

  room-old : (old ≡ nobody → ⊥) → 16 * old + 16 ≤ length ws
  room-old z = let h = ho z in omega arith

  room-new : (w ≡ nobody → ⊥) → 16 * w + 16 ≤ length less
  room-new z = let h = hw z in omega (arith, length-set-for 0 old a e ws (omega arith))

  -- a slot of another person, or beside the stretch, stays
  stays : (p k : ℕ) → k < 1024 → ((p ≡ old) → a ≤ k → k < e → ⊥) → ((p ≡ w) → a ≤ k → k < e → ⊥) → slot more (16 * p) k ≡ slot ws
      (16 * p) k
  stays p k hk f g =
      place more p k
      ∙ set-for-out 1 w a e less (omega arith) le (omega arith) room-new (1024 * p + k) (λ _ j x y q. g (omega arith) (omega arith)
      (omega arith))
      ∙ set-for-out 0 old a e ws (omega arith) le (omega arith) room-old (1024 * p + k) (λ _ j x y q. f (omega arith) (omega arith)
      (omega arith))
      ∙ sym (place ws p k)

  inner : (p k : ℕ) → p < n → k < slots → slot more (16 * p) k ≡ held (fill w a (e - a) o) p k
  inner p k h g =
      ⊎_elim
      (λ (x : k < a).
      stays p k (omega arith) (λ _ u v. omega arith) (λ _ u v. omega arith) ∙ right p k h g
      ∙ held_same o (fill w a (e - a) o) p k (sym (get_d-fill-out w a (e - a) o k (λ u v. omega arith))))
      (λ (x : a ≤ k).
      ⊎_elim
      (λ (y : k < e).
      let at : get_or (fill w a (e - a) o) k 0 ≡ w = get_d-fill-in w a (e - a) o k x (omega arith) (omega arith) in
      by-test (eqb p w) _
      (λ t.
      let q = eqb-true p w t in
      ap (λ (z : ℕ). slot more (16 * z) k) q ∙ set-for-in 1 w a e less (omega arith) le (omega arith) room-new k (λ z. omega arith) x y
      ∙ sym (held-own (fill w a (e - a) o) p k (at ∙ sym q)))
      (λ f.
      let q = eqb-false p w f in
      place more p k
      ∙ set-for-out 1 w a e less (omega arith) le (omega arith) room-new (1024 * p + k) (λ _ j u v r. q (omega arith))
      ∙ sym (place less p k)
      ∙ by-test (eqb p old) _
      (λ t.
      let r = eqb-true p old t in
      ap (λ (z : ℕ). slot less (16 * z) k) r ∙ set-for-in 0 old a e ws (omega arith) le (omega arith) room-old k (λ z. omega arith) x y)
      (λ t.
      let r = eqb-false p old t in
      place less p k
      ∙ set-for-out 0 old a e ws (omega arith) le (omega arith) room-old (1024 * p + k) (λ _ j u v s. r (omega arith))
      ∙ sym (place ws p k) ∙ right p k h g ∙ held-not o p k (λ s. r (sym s ∙ owned k x y)))
      ∙ sym (held-not (fill w a (e - a) o) p k (λ s. q (sym s ∙ at)))))
      (λ (y : e ≤ k).
      stays p k (omega arith) (λ _ u v. omega arith) (λ _ u v. omega arith) ∙ right p k h g
      ∙ held_same o (fill w a (e - a) o) p k (sym (get_d-fill-out w a (e - a) o k (λ u v. omega arith))))
      (lt-or-ge k e))
      (lt-or-ge k a)

  pub sets-handed : more ≡ sets_from n slots (fill w a (e - a) o) ws
  sets-handed =
      sets-are slots (fill w a (e - a) o) ws few n more room
      (length-set-for 1 w a e less (omega arith) ∙ length-set-for 0 old a e ws (omega arith)) fit
      (set-for-fit 1 w a e less (omega arith) (set-for-fit 0 old a e ws (omega arith) fit)) inner
      (λ i b.
      set-for-out 1 w a e less (omega arith) le (omega arith) room-new i (λ z k x y q. b w k (hw z) (omega arith) q)
      ∙ set-for-out 0 old a e ws (omega arith) le (omega arith) room-old i (λ z k x y q. b old k (ho z) (omega arith) q))
