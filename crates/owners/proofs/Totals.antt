-- The two totals: their entries after a stretch was taken or given, in place and worked out afresh. Assumes nothing.
use Rattle.std.proofs.Common.{◌≡◌, ℕ, zero, suc, ◌+◌, ◌-◌, ◌^◌, ◌<◌, ◌≤◌, Bool, cond, eqb, List, length, get_or, set, refl, ap, ◌∙◌, ap₂, mod-eq_of_lt, arith, length-set, get_or-set_other, eqb-true}
use borrow.Author.Tests.{eqb-false}
use Rattle.paper.specs.Limits.{nobody}
use Rattle.paper.specs.Count.{sum, count, over, fill}
use Rattle.paper.proofs.Logic.{by-test}
use Rattle.paper.proofs.Count.{sum_same, over-again, over-right, get_d_over}
use Rattle.slots.specs.Lent.{demand_of}
use Rattle.owners.specs.Derived.{Plan, length_at, portion, worked, uncovered, unassigned, total_of, less_totals, more_totals}
use Rattle.owners.specs.Derived.{wrapped}
use Rattle.owners.proofs.Minutes.{minutes_in, portion-own, portion-other, worked-over, unassigned-over, up_to, worked-more, unassigned-more}
use Rattle.owners.proofs.Minutes.{worked-le, worked-part-le}

-- ---- two entries

-- two facts are one over the index
pub both-totals : (f g : ℕ → ℕ) → f 0 ≡ g 0 → f 1 ≡ g 1 → (i : ℕ) → i < 2 → f i ≡ g i
both-totals f g a b zero h = a
both-totals f g a b (suc zero) h = b
both-totals f g a b (suc (suc i)) h = absurd (omega arith)

two-set : (f : ℕ → ℕ) (t : List ℕ) (x y : ℕ) → x ≡ f 0 → y ≡ f 1 → set (set t 0 x) 1 y ≡ over f 2 t
unfolding over
two-set f t x y p q = ap₂ (λ (a b : ℕ). set (set t 0 a) 1 b) p q

-- one entry after the other, f being the change
pub one_by_one : (f : ℕ → ℕ → ℕ) (t t₁ t₂ : List ℕ) (n k v : ℕ) → t₁ ≡ set t 0 (f (get_or t 0 0) n) → v ≡ k → t₂ ≡ set t₁ 1 (f (get_or t₁
    1 0) v)
    → t₂ ≡ set (set t 0 (f (get_or t 0 0) n)) 1 (f (get_or t 1 0) k)
one_by_one f t t₁ t₂ n k v p q r =
    let x : get_or t₁ 1 0 ≡ get_or t 1 0 =
    ap (λ (l : List ℕ). get_or l 1 0) p ∙ get_or-set_other t 0 1 (f (get_or t 0 0) n) 0 (λ e. omega (arith, e)) in
    r ∙ ap₂ (λ (l : List ℕ) (y : ℕ). set l 1 y) p (ap₂ f x q)

module _ (w n k : ℕ) (g f : ℕ → ℕ) (t : List ℕ) (at0 : get_or t 0 0 ≡ g 0) (at1 : get_or t 1 0 ≡ g 1) where
  -- less, where w is nobody, else as they were
  pub less-totals : f 0 ≡ g 0 - portion w nobody n → f 1 ≡ g 1 - portion w nobody k → less_totals w n k t ≡ over f 2 t
  unfolding less_totals
  less-totals p q =
      by-test (eqb w nobody) _
      (λ e.
      let own : w ≡ nobody = eqb-true w nobody e in
      let a : portion w nobody n ≡ n = ap (λ (v : ℕ). portion v nobody n) own ∙ portion-own nobody n in
      let b : portion w nobody k ≡ k = ap (λ (v : ℕ). portion v nobody k) own ∙ portion-own nobody k in
      simp e (two-set f t _ _ (omega (arith, p, a, at0)) (omega (arith, q, b, at1))))
      (λ e.
      let other = eqb-false w nobody e in
      let a = portion-other w nobody n other in
      let b = portion-other w nobody k other in
      simp e (over-right f 2 t (both-totals (λ i. get_or t i 0) f (omega (arith, p, a, at0)) (omega (arith, q, b, at1)))))

  -- more, where w is nobody, and nothing wraps
  pub more-totals : f 0 ≡ g 0 + portion w nobody n → f 1 ≡ g 1 + portion w nobody k → f 0 < 2 ^ 64 → f 1 < 2 ^ 64
      → more_totals w n k t ≡ over f 2 t
  unfolding more_totals
  more-totals p q u v =
      by-test (eqb w nobody) _
      (λ e.
      let own : w ≡ nobody = eqb-true w nobody e in
      let a : portion w nobody n ≡ n = ap (λ (z : ℕ). portion z nobody n) own ∙ portion-own nobody n in
      let b : portion w nobody k ≡ k = ap (λ (z : ℕ). portion z nobody k) own ∙ portion-own nobody k in
      let x : get_or t 0 0 + n ≡ f 0 = omega (arith, p, a, at0) in
      let y : get_or t 1 0 + k ≡ f 1 = omega (arith, q, b, at1) in
      simp e (two-set f t _ _ (ap wrapped x ∙ mod-eq_of_lt u) (ap wrapped y ∙ mod-eq_of_lt v)))
      (λ e.
      let other = eqb-false w nobody e in
      let a = portion-other w nobody n other in
      let b = portion-other w nobody k other in
      simp e (over-right f 2 t (both-totals (λ i. get_or t i 0) f (omega (arith, p, a, at0)) (omega (arith, q, b, at1)))))

pub length-less-totals : (w n k : ℕ) (t : List ℕ) → length (less_totals w n k t) ≡ length t
unfolding less_totals
length-less-totals w n k t = by-test (eqb w nobody) _ (λ e. simp (e, length-set)) (λ e. simp e)

pub length-more-totals : (w n k : ℕ) (t : List ℕ) → length (more_totals w n k t) ≡ length t
unfolding more_totals
length-more-totals w n k t = by-test (eqb w nobody) _ (λ e. simp (e, length-set)) (λ e. simp e)

-- ---- over a plan

pub nobody-le : (o : List ℕ) (k : ℕ) → unassigned k o ≤ k
unfolding unassigned count sum
nobody-le o zero = omega arith
nobody-le o (suc k) = by-test (eqb (get_or o k 0) nobody) _
    (λ t. omega (arith, nobody-le o k, ap {B = ℕ} (λ (b : Bool). cond b 1 0) t))
    (λ f. omega (arith, nobody-le o k, ap {B = ℕ} (λ (b : Bool). cond b 1 0) f))

-- what a stretch of n minutes and k slots counts for total i
unfoldable amount : ℕ → ℕ → ℕ → ℕ
amount n k zero = n
amount n k (suc i) = k

-- on totals that are right, slots a up to e go from old to w
module _ (P : Plan) (o t : List ℕ) (a e old w : ℕ) (le : a ≤ e) (within : e ≤ P.slots) (room : P.slots ≤ length o)
    (owned : (k : ℕ) → a ≤ k → k < e → get_or o k 0 ≡ old) (few : demand_of P.slots P.starts P.ends ≤ 100000000)
    (short : P.slots ≤ 1024) (long : 2 ≤ length t) (right : (i : ℕ) → i < 2 → get_or t i 0 ≡ total_of P o i) where
  abbrev n : ℕ
  n = minutes_in P a e

  abbrev rest : ℕ → ℕ
  rest i = total_of P o i - portion old nobody (amount n (e - a) i)

  abbrev after : List ℕ
  after = fill w a (e - a) o

  -- what old has is in it
  had-minutes : portion old nobody n ≤ uncovered P o
  unfolding uncovered
  had-minutes = omega (arith, worked-over P o nobody a e old 0 le within room owned, portion-other 0 nobody n (λ q. omega (arith, q)))

  had-slots : portion old nobody (e - a) ≤ unassigned P.slots o
  had-slots =
      omega (arith, unassigned-over P.slots o a e old 0 le within room owned, portion-other 0 nobody (e - a) (λ q. omega (arith, q)))

  taken-totals : less_totals old n (e - a) t ≡ over rest 2 t
  unfolding amount
  taken-totals = less-totals old n (e - a) (total_of P o) rest t (right 0 (omega arith)) (right 1 (omega arith)) refl refl

  minutes-now : total_of P after 0 ≡ rest 0 + portion w nobody n
  unfolding total_of uncovered amount
  minutes-now = omega (arith, worked-over P o nobody a e old w le within room owned, had-minutes)

  slots-now : total_of P after 1 ≡ rest 1 + portion w nobody (e - a)
  unfolding total_of amount
  slots-now = omega (arith, unassigned-over P.slots o a e old w le within room owned, had-slots)

  minutes-small : total_of P after 0 < 2 ^ 64
  unfolding total_of uncovered
  minutes-small = omega (arith, worked-le P after nobody, few)

  slots_small : total_of P after 1 < 2 ^ 64
  unfolding total_of
  slots_small = omega (arith, nobody-le after P.slots, short)

  pub totals-handed : more_totals w n (e - a) (less_totals old n (e - a) t) ≡ over (total_of P after) 2 t
  totals-handed =
      ap (more_totals w n (e - a)) taken-totals
      ∙ more-totals w n (e - a) rest (total_of P after) (over rest 2 t) (get_d_over rest 2 t 0 (omega arith) (omega arith))
      (get_d_over rest 2 t 1 (omega arith) (omega arith)) minutes-now slots-now minutes-small slots_small
      ∙ over-again rest (total_of P after) 2 t

-- of the first slots alone, slots a up to e more, which w owns
module _ (P : Plan) (o t : List ℕ) (a e w : ℕ) (le : a ≤ e) (within : e ≤ P.slots) (owned : (k : ℕ) → a ≤ k → k < e → get_or o k 0 ≡ w)
    (few : demand_of P.slots P.starts P.ends ≤ 100000000) (short : P.slots ≤ 1024) (long : 2 ≤ length t) where
  abbrev sofar : ℕ → ℕ
  sofar = total_of (up_to a P) o

  abbrev next : ℕ → ℕ
  next = total_of (up_to e P) o

  minutes-next : next 0 ≡ sofar 0 + portion w nobody (minutes_in P a e)
  unfolding total_of uncovered
  minutes-next = worked-more P o a e w le owned nobody

  slots_next : next 1 ≡ sofar 1 + portion w nobody (e - a)
  unfolding total_of
  slots_next = unassigned-more P o a e w le owned

  next_small : (next 0 < 2 ^ 64) × (next 1 < 2 ^ 64)
  unfolding total_of uncovered worked
  next_small = (omega (arith, worked-part-le P o nobody e within, few), omega (arith, nobody-le o e, short))

  pub totals-given : more_totals w (minutes_in P a e) (e - a) (over sofar 2 t) ≡ over next 2 t
  totals-given =
      more-totals w (minutes_in P a e) (e - a) sofar next (over sofar 2 t) (get_d_over sofar 2 t 0 (omega arith) (omega arith))
      (get_d_over sofar 2 t 1 (omega arith) (omega arith)) minutes-next slots_next next_small.0 next_small.1
      ∙ over-again sofar next 2 t

-- of no slot
pub totals-none : (P : Plan) (o : List ℕ) (i : ℕ) → i < 2 → 0 ≡ total_of (up_to 0 P) o i
unfolding total_of uncovered worked unassigned count sum
totals-none P o zero h = refl
totals-none P o (suc i) h = refl

-- only the owners below the slot count matter
pub totals-owners : (P : Plan) (o o' : List ℕ) → ((k : ℕ) → k < P.slots → get_or o k 0 ≡ get_or o' k 0) → (i : ℕ) → total_of P o i ≡
    total_of P o' i
unfolding total_of uncovered worked unassigned count
totals-owners P o o' h zero = sum_same P.slots _ _ (λ k l. ap (λ (w : ℕ). portion w nobody (length_at P k)) (h k l))
totals-owners P o o' h (suc i) = sum_same P.slots _ _ (λ k l. ap (λ (w : ℕ). cond (eqb w nobody) 1 0) (h k l))
