-- The laws of judging a draw: tests in a row, masks of people, picks, owners of units, and the walks to a run's two ends. Assumes nothing.
use mathlib.Core.Path.{◌≡◌, sym, ap, ap₂, ◌∙◌}
use mathlib.Core.Bool.{Bool, true, false, cond, not, ◌&&◌, ◌||◌, or-false, or_assoc}
use mathlib.Core.Logic.{⊎_elim}
use mathlib.Core.List.{List, [], ◌∷◌, ◌++◌}
use Prim.Native.Nat.{ℕ, zero, suc, ◌+◌, ◌-◌, ◌*◌, ◌%◌, ◌^◌, ◌≤◌, ◌<◌, min}
use native.Mathlib.Nat.{le_antisymm, one-mul}
use native.Mathlib.Omega.{arith}
use borrow.Author.Tests.{eq-eqb, ne_eqb, le-leb, lt-leb}
use lib.Dec.{eqb, leb, lit<}
use lib.Bits.{bit_and}
use lib.Pow.{shl_exact}
use lib.ListN.{length, get_or, length-append}
use Rattle.paper.specs.Bits.{bit_of}
use Rattle.paper.specs.Count.{all, all_in, among}
use Rattle.paper.proofs.Bits.{top-clear, bit-and, bit-mod, bit-ones, bit-lt}
use Rattle.paper.proofs.Count.{all-each, each_all, in-none, in-fails, among_none, among-at, among_in}
use Rattle.paper.proofs.Logic.{lt-or-ge}
use Rattle.rota.specs.declared.Pick.TheVariants.{Nobody, Beyond, Person}
use Rattle.rota.specs.declared.Move.{Move}
use Rattle.rota.specs.declared.Move.TheVariants.{Stay}
use Rattle.rota.specs.Board.{BoardSound, Even, run_start, run_to, run_end}
use Rattle.units.specs.Domains.{in_mask}
use Rattle.rota.specs.Ready.{ready, fits_by, Cover, OwnerRoom}
use Rattle.rota.specs.Moves.{any_of, stay_if, picked}

-- ---- tests in a row

-- one of the tests, test k, holds
any_at : (ts : List Bool) (k : ℕ) → get_or ts k false ≡ true → any_of ts ≡ true
unfolding any_of
any_at [] k e = absurd (mathlib.Core.Bool.false≢true e)
any_at (t ∷ ts) zero e = ap (λ (b : Bool). b || any_of ts) e
any_at (t ∷ ts) (suc k) e = ap (λ (b : Bool). t || b) (any_at ts k e) ∙ mathlib.Core.Bool.or-true t

-- so the draw stays
pub stays : (ts : List Bool) (n : ℕ) (m : Move) (k : ℕ) → get_or ts k false ≡ true → Stay n ≡ stay_if ts n m
stays ts n m k e = sym (ap (λ (b : Bool). cond b (Stay n) m) (any_at ts k e))

-- tests asked one after the other: one of two; one of some, or one test more
pub ask-two : (a b : Bool) {p q : Bool} → p ≡ a → q ≡ b → p || q ≡ any_of (a ∷ b ∷ [])
unfolding any_of
ask-two a b f g = ap₂ ◌||◌ f g ∙ ap (λ (x : Bool). a || x) (sym (or-false b))

any-more : (ts : List Bool) (t : Bool) → any_of ts || t ≡ any_of (ts ++ (t ∷ []))
unfolding any_of
any-more [] t = sym (or-false t)
any-more (u ∷ ts) t = or_assoc u (any_of ts) t ∙ ap (λ (x : Bool). u || x) (any-more ts t)

pub ask-more : (ts : List Bool) (t : Bool) {p q : Bool} → p ≡ any_of ts → q ≡ t → p || q ≡ any_of (ts ++ (t ∷ []))
ask-more ts t f g = ap₂ ◌||◌ f g ∙ any-more ts t

-- one of them holds, so it stays
pub stays_by : (ts : List Bool) (n : ℕ) (m : Move) → any_of ts ≡ true → Stay n ≡ stay_if ts n m
stays_by ts n m e = sym (ap (λ (b : Bool). cond b (Stay n) m) e)

-- none of them holds, so it goes on
pub goes : (ts : List Bool) (n : ℕ) (m r : Move) → any_of ts ≡ false → r ≡ m → r ≡ stay_if ts n m
goes ts n m r z e = e ∙ sym (ap (λ (b : Bool). cond b (Stay n) m) z)

-- ---- masks

pub mask-past : (mask p : ℕ) → mask < 2 ^ 32 → 32 ≤ p → false ≡ in_mask mask p
unfolding in_mask
mask-past mask p h g = sym (ap (λ (b : ℕ). eqb b 1) (top-clear mask 32 p h g))

-- one bit of 32, shifted up; where the k lowest bits of a mask are all ones, the first k people all stand in it
pub one_shl : (k : ℕ) → k < 32 → 1 * 2 ^ k % 2 ^ 32 ≡ 2 ^ k
one_shl k h = shl_exact {a = 1} 1 k 32 (lit< tt) (omega arith) ∙ one-mul (2 ^ k)

pub all-stand : (mask k : ℕ) → mask % 2 ^ k ≡ 2 ^ k - 1 → all k (in_mask mask) ≡ true
unfolding in_mask
all-stand mask k e =
    each_all k (λ p. eqb (bit_of mask p) 1)
    (λ p h. eq-eqb _ 1 (sym (bit-mod mask k p h) ∙ ap (λ (w : ℕ). bit_of w p) e ∙ bit-ones k p h))

both-set : (a b : ℕ) → a < 2 → b < 2 → eqb (min a b) 1 ≡ eqb a 1 && eqb b 1
both-set zero b h g = let e : min 0 b ≡ 0 = omega arith in ap (λ (x : ℕ). eqb x 1) e
both-set (suc zero) b h g = let e : min 1 b ≡ b = omega arith in ap (λ (x : ℕ). eqb x 1) e
both-set (suc (suc a)) b h g = absurd (omega arith)

in_step : (a k : ℕ) (p : ℕ → Bool) → a ≤ k → all_in a (k + 1) p ≡ all_in a k p && p k
unfolding all_in all
in_step a k p h =
    let z : k + 1 - a ≡ suc (k - a) = omega arith in
    let y : a + (k - a) ≡ k = omega arith in
    ap (λ (n : ℕ). all n (λ j. p (a + j))) z ∙ ap (λ (j : ℕ). all (k - a) (λ i. p (a + i)) && p j) y

-- a test that holds at k changes nothing
pub in-holds : (a k : ℕ) (p : ℕ → Bool) → a ≤ k → p k ≡ true → all_in a (k + 1) p ≡ all_in a k p
in-holds a k p h t =
    in_step a k p h ∙ ap (λ (b : Bool). all_in a k p && b) t ∙ mathlib.Core.Bool.and-true (all_in a k p)

pub cover-start : (fits : List ℕ) (a : ℕ) → Cover fits a a (2 ^ 32 - 1)
unfolding in_mask
cover-start fits a =
    record { each = λ p h. ap (λ (b : ℕ). eqb b 1) (bit-ones 32 p h) ∙ sym (in-none a (fits_by fits p)) }

pub cover-more : (fits : List ℕ) (a u mask m : ℕ) → a ≤ u → m ≡ get_or fits u 0 → Cover fits a u mask → Cover fits a (u + 1) (bit_and mask m)
unfolding in_mask fits_by
cover-more fits a u mask m h q C =
    record {
      each = λ p g.
          ap (λ (b : ℕ). eqb b 1) (bit-and mask m p)
          ∙ both-set (bit_of mask p) (bit_of m p) (bit-lt mask p) (bit-lt m p)
          ∙ ap₂ (λ (b : Bool) (x : ℕ). b && eqb (bit_of x p) 1) (C.each p g) q
          ∙ sym (in_step a u (fits_by fits p) h);
    }

-- a mask of those who fit every unit tells it of anybody, where there is a unit: who lies past the mask fits none
pub cover-says : (fits : List ℕ) (a e mask p : ℕ) → a < e → mask < 2 ^ 32 → get_or fits a 0 < 2 ^ 32 → Cover fits a e mask
    → in_mask mask p ≡ all_in a e (fits_by fits p)
unfolding fits_by
cover-says fits a e mask p h m f C =
    ⊎_elim (λ (l : p < 32). C.each p l)
    (λ (l : 32 ≤ p).
    sym (mask-past mask p m l) ∙ in-fails a a e (fits_by fits p) (omega arith) h (sym (mask-past (get_or fits a 0) p f l)))
    (lt-or-ge p 32)

-- ---- picks

pub picked_more : (q : ℕ → Bool) (i : ℕ) → q i ≡ true → length (among q i) + 1 ≡ length (among q (i + 1))
picked_more q i t = sym (ap length (among_in q i t) ∙ length-append (among q i) (i ∷ []))

-- where everybody below n passes, n are listed; so counting may start past people who all stand in a mask, up to the one left out
picked-each : (q : ℕ → Bool) (n : ℕ) → ((k : ℕ) → k < n → q k ≡ true) → n ≡ length (among q n)
picked-each q zero f = sym (among_none q)
picked-each q (suc n) f =
    let e : n + 1 ≡ suc n = omega arith in
    sym e ∙ ap (λ (m : ℕ). m + 1) (picked-each q n (λ k h. f k (omega arith))) ∙ picked_more q n (f n (omega arith))
    ∙ ap (λ (m : ℕ). length (among q m)) e

pub picked-start : (mask skip n : ℕ) → n ≤ skip → all n (in_mask mask) ≡ true
    → n ≡ length (among (λ p. not (eqb p skip) && in_mask mask p) n)
picked-start mask skip n h e =
    picked-each _ n (λ k g. simp (ne_eqb k skip (λ z. omega (arith, z)), all-each n (in_mask mask) e k g))

module _ (q : ℕ → Bool) (people k : ℕ) where
  pub picked-found : (i seen : ℕ) → i < people → q i ≡ true → seen ≡ length (among q i) → seen ≡ k → Person i ≡ picked (among q people) k
  unfolding picked
  picked-found i seen h t s e =
      let r = among-at q people i h t in
      let z : length (among q i) ≡ k = sym s ∙ e in
      let x : leb (length (among q people)) k ≡ false = lt-leb (length (among q people)) k (omega (arith, r.0)) in
      let y : eqb (length (among q people)) 0 ≡ false = ne_eqb (length (among q people)) 0 (λ w. omega (arith, r.0)) in
      simp (x, y) (ap Person (sym (ap (λ (j : ℕ). get_or (among q people) j 0) (sym z) ∙ r.1)))

  module _ (i seen : ℕ) (h : i ≤ people) (g : people ≤ i) (s : seen ≡ length (among q i)) (l : seen ≤ k) where
    all_seen : length (among q people) ≡ seen
    all_seen = ap (λ (n : ℕ). length (among q n)) (le_antisymm g h) ∙ sym s

    pub picked-nobody : seen ≡ 0 → Nobody ≡ picked (among q people) k
    unfolding picked
    picked-nobody z = let y : eqb (length (among q people)) 0 ≡ true = eq-eqb _ _ (all_seen ∙ z) in simp y

    pub picked-beyond : (seen ≡ 0 → ⊥) → Beyond ≡ picked (among q people) k
    unfolding picked
    picked-beyond z =
        let x : leb (length (among q people)) k ≡ true = le-leb (length (among q people)) k (omega (arith, all_seen)) in
        let y : eqb (length (among q people)) 0 ≡ false = ne_eqb _ _ (λ w. z (sym all_seen ∙ w)) in
        simp (x, y)

-- ---- the owners of units

pub fewer-owned : (n m : ℕ) (begins owners : List ℕ) → n ≤ m → OwnerRoom m begins owners → OwnerRoom n begins owners
fewer-owned n m begins owners h R =
    record { starts = omega (arith, R.starts); owned = λ u l. R.owned u (omega arith) }

pub board-owned : (people slots units : ℕ) (begins fits flags owners : List ℕ) → BoardSound (ready people slots units begins fits flags)
    → Even (ready people slots units begins fits flags) owners → units ≤ length begins → OwnerRoom units begins owners
board-owned people slots units begins fits flags owners S E h =
    record { starts = h; owned = λ u l. omega (arith, S.rising u l, S.within u l, E.room) }

-- ---- the walks to a run's ends

module _ (w : ℕ → ℕ) where
  down : (s t : ℕ) → s ≡ suc t → w t ≡ w s → run_start w s ≡ run_start w t
  unfolding run_start
  down s t e q = ap (run_start w) e ∙ (let z : eqb (w t) (w (suc t)) ≡ true = eq-eqb _ _ (q ∙ ap w e) in simp z)

  stay : (s t : ℕ) → s ≡ suc t → (w t ≡ w s → ⊥) → run_start w s ≡ s
  unfolding run_start
  stay s t e n = ap (run_start w) e ∙ (let z : eqb (w t) (w (suc t)) ≡ false = ne_eqb _ _ (λ q. n (q ∙ sym (ap w e))) in simp z) ∙ sym e

  -- while the walk goes down from u: the run of u starts where that of s does, and s has the owner v as u has
  module _ (u s v b : ℕ) (h : 0 < s) (i : run_start w u ≡ run_start w s) (k : v ≡ w s) (d : b ≡ w (s - 1)) where
    pub start-down : b ≡ v → (run_start w u ≡ run_start w (s - 1)) × (v ≡ w (s - 1))
    start-down q = let z : s ≡ suc (s - 1) = omega arith in (i ∙ down s (s - 1) z (sym d ∙ q ∙ k), sym q ∙ d)

    pub start-here : (b ≡ v → ⊥) → s ≡ run_start w u
    start-here n = let z : s ≡ suc (s - 1) = omega arith in sym (i ∙ stay s (s - 1) z (λ q. n (d ∙ q ∙ sym k)))

  pub start_none : (u s : ℕ) → s ≤ 0 → run_start w u ≡ run_start w s → 0 ≡ run_start w u
  unfolding run_start
  start_none u s h i = let z : s ≡ 0 = omega arith in sym (i ∙ ap (run_start w) z)

  up : (k n e t : ℕ) → k ≡ suc n → t ≡ suc e → w t ≡ w e → run_to w k e ≡ run_to w n t
  unfolding run_to
  up k n e t p r q =
      ap (λ (x : ℕ). run_to w x e) p ∙ (let z : eqb (w (suc e)) (w e) ≡ true = eq-eqb _ _ (ap w (sym r) ∙ q) in simp z)
      ∙ ap (run_to w n) (sym r)

  keep : (k n e t : ℕ) → k ≡ suc n → t ≡ suc e → (w t ≡ w e → ⊥) → run_to w k e ≡ e
  unfolding run_to
  keep k n e t p r q =
      ap (λ (x : ℕ). run_to w x e) p ∙ (let z : eqb (w (suc e)) (w e) ≡ false = ne_eqb _ _ (λ y. q (ap w r ∙ y)) in simp z)

  module _ (units u e t v b : ℕ) (r : t ≡ e + 1) (i : run_end units w u ≡ run_end units w e) (k : v ≡ w e) where
    pub end_none : units ≤ t → e ≡ run_end units w u
    unfolding run_end run_to
    end_none h = let z : units - 1 - e ≡ 0 = omega arith in sym (i ∙ ap (λ (x : ℕ). run_to w x e) z)

    module _ (h : t < units) (d : b ≡ w t) where
      pub end-up : b ≡ v → (run_end units w u ≡ run_end units w t) × (v ≡ w t)
      unfolding run_end
      end-up q =
          let x : units - 1 - e ≡ suc (units - 1 - t) = omega arith in
          let y : t ≡ suc e = omega arith in
          (i ∙ up (units - 1 - e) (units - 1 - t) e t x y (sym d ∙ q ∙ k), sym q ∙ d)

      pub end-here : (b ≡ v → ⊥) → e ≡ run_end units w u
      unfolding run_end
      end-here n =
          let x : units - 1 - e ≡ suc (units - 1 - t) = omega arith in
          let y : t ≡ suc e = omega arith in
          sym (i ∙ keep (units - 1 - e) (units - 1 - t) e t x y (λ q. n (d ∙ q ∙ sym k)))
