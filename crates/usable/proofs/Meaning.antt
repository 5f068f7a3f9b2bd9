-- Each rule's test fails exactly where the rule is broken, so the verdict is the one that its meaning fits. Assumes nothing.
use mathlib.Core.Path.{◌≡◌, refl, sym, ap, ap₂, ◌∙◌, subst}
use mathlib.Core.Bool.{Bool, true, false, not, cond, ◌&&◌, ◌||◌}
use mathlib.Core.List.{List}
use mathlib.Core.Logic.{⊎_elim}
use Prim.Native.Nat.{ℕ, zero, suc, ◌-◌, ◌*◌, ◌≤◌, ◌<◌}
use native.Mathlib.Omega.{arith}
use borrow.Author.Tests.{eq-eqb, ne_eqb, eqb-true, eqb-false, lt-ltb, ltb-true, lt-leb, leb-false}
use lib.Dec.{eqb, ltb, leb}
use lib.ListN.{get_or}
use Rattle.paper.specs.Limits.{nobody, number_of}
use Rattle.paper.specs.Count.{all}
use Rattle.paper.proofs.Logic.{by-test, lt-or-ge, both, and-true, or_left, or_right, or-second, neither}
use Rattle.paper.proofs.Count.{all-each, all-fails}
use Rattle.slotset.specs.Slots.{slot}
use Rattle.slotset.specs.Runs.{Around}
use Rattle.slotset.proofs.Runs.{around-unique}
use Rattle.units.specs.Units.{unit_start, unit_of, units_ok}
use Rattle.units.specs.Domains.{available, unfrozen}
use Rattle.units.proofs.Units.{unit-of-in, unit-of-only, unit-within}
use Rattle.owners.specs.Derived.{held, known_by}
use Rattle.owners.specs.Recount.{first_fail, known_at, available_at, available_for}
use Rattle.owners.proofs.Scans.{first-is, first_passes}
use Rattle.usable.specs.declared.Verdict.{Verdict}
use Rattle.usable.specs.declared.Verdict.TheVariants as verdict
use Rattle.usable.specs.Rules.{allowed_at, published_at, uniform_at, shift_first, shift_last, opens_at, closes_at, capped_at, rested_at}
use Rattle.usable.specs.Broken.{Brought, slots_of, owner_of, start_of, end_of, Shift, TooClose, Breaks}
use Rattle.usable.specs.Broken.{Means}
use Rattle.usable.specs.Answers.{usable_row, or_broken, judged}
use Rattle.usable.proofs.ShiftLaws.{not-true, not-false, held_one, around-each, shift-around}
use Rattle.usable.proofs.Judged.{row-right}

clash : {b : Bool} → b ≡ true → b ≡ false → ⊥
clash t f = mathlib.Core.Bool.true≢false (sym t ∙ f)

-- a rule and its test: the test fails exactly at the slots where the rule is broken
pub record Tests (B : Brought) (n : ℕ) (p : ℕ → Bool) : Type 0 where
  pub fails : (k : ℕ) → k < slots_of B → p k ≡ false → Breaks B n k
  pub broken : (k : ℕ) → Breaks B n k → (k < slots_of B) × (p k ≡ false)

-- ---- rule 1

module _ (people : ℕ) (avail o : List ℕ) (k : ℕ) where
  allowed-nobody : get_or o k 0 ≡ nobody → allowed_at people avail o k ≡ true
  unfolding allowed_at known_at known_by available_at available_for
  allowed-nobody q =
      let e = eq-eqb (get_or o k 0) nobody q in
      and-true _ _ (or_left (eqb (get_or o k 0) nobody) _ e) (or_left (eqb (get_or o k 0) nobody) _ e)

  allowed-person : get_or o k 0 < people → slot avail (16 * get_or o k 0) k ≡ 1 → allowed_at people avail o k ≡ true
  unfolding allowed_at known_at known_by available_at available_for available
  allowed-person l s =
      and-true _ _ (or-second (eqb (get_or o k 0) nobody) _ (lt-ltb _ _ l)) (or-second (eqb (get_or o k 0) nobody) _ (eq-eqb _ _ s))

  allowed-says : allowed_at people avail o k ≡ true → (get_or o k 0 ≡ nobody → ⊥)
      → (get_or o k 0 < people) × (slot avail (16 * get_or o k 0) k ≡ 1)
  unfolding allowed_at known_at known_by available_at available_for available
  allowed-says t n =
      let x = both (eqb (get_or o k 0) nobody || ltb (get_or o k 0) people) _ t in
      let f = ne_eqb (get_or o k 0) nobody n in (
        ltb-true _ _ (or_right (eqb (get_or o k 0) nobody) _ x.0 f),
        eqb-true _ _ (or_right (eqb (get_or o k 0) nobody) _ x.1 f),
      )

rule-1 : (B : Brought) → Tests B 1 (allowed_at B.plan.people B.avail B.owners)
rule-1 B =
    record {
      fails = λ k h f.
          record {
            below = h;
            somebody = λ q. clash (allowed-nobody B.plan.people B.avail B.owners k q) f;
            barred = λ l s. clash (allowed-person B.plan.people B.avail B.owners k l s) f;
          };
      broken = λ k b. (
        b.below,
        by-test (allowed_at B.plan.people B.avail B.owners k) _ (λ t.
            let x = allowed-says B.plan.people B.avail B.owners k t b.somebody in
            absurd (b.barred x.0 x.1)) (λ f. f),
      );
    }

-- ---- rule 2

module _ (frozen published o : List ℕ) (k : ℕ) where
  moved-fails : slot frozen 0 k ≡ 1 → (get_or o k 0 ≡ get_or published k 0 → ⊥) → published_at frozen published o k ≡ false
  unfolding published_at unfrozen
  moved-fails e n = ap₂ (λ (a b : Bool). not a || b) (eq-eqb _ _ e) (ne_eqb _ _ n)

  fails-moved : published_at frozen published o k ≡ false → (slot frozen 0 k ≡ 1) × (get_or o k 0 ≡ get_or published k 0 → ⊥)
  unfolding published_at unfrozen
  fails-moved f =
      let x = neither (not (eqb (slot frozen 0 k) 1)) _ f in
      (eqb-true _ _ (not-false _ x.0), eqb-false _ _ x.1)

rule-2 : (B : Brought) → Tests B 2 (published_at B.frozen B.published B.owners)
rule-2 B =
    record {
      fails = λ k h f.
          let x = fails-moved B.frozen B.published B.owners k f in
          record { below = h; frozen = x.0; moved = x.1 };
      broken = λ k b. (b.below, moved-fails B.frozen B.published B.owners k b.frozen b.moved);
    }

-- ---- rule 3

rule-3 : (B : Brought) → units_ok (slots_of B) B.units B.begins ≡ true → Tests B 3 (uniform_at B.units B.begins B.owners)
unfolding uniform_at
rule-3 B ok =
    record {
      fails = λ k h f.
          record {
            unit = unit_of B.units B.begins k;
            inside = unit-of-in (slots_of B) B.units B.begins ok k h;
            differs = eqb-false _ _ f;
          };
      broken = λ k b.
          let q = unit-of-only (slots_of B) B.units B.begins ok k b.unit b.inside in (
            omega (arith, b.inside.to, unit-within (slots_of B) B.units B.begins ok b.unit b.inside.known),
            ne_eqb _ _ (λ e. b.differs (e ∙ ap (λ (u : ℕ). get_or B.owners (unit_start B.begins u) 0) q)),
          );
    }

-- ---- shifts, as tests and as runs

module _ (B : Brought) where
  -- a slot that opens a shift
  pub opened : (k : ℕ) → k < slots_of B → opens_at (slots_of B) B.owners k ≡ true
      → Shift B (owner_of B k) k (shift_last (slots_of B) B.owners k)
  unfolding opens_at
  opened k h t =
      let x = both (not (eqb (owner_of B k) nobody)) _ t in
      let A = shift-around (slots_of B) B.owners k h in
      record {
        somebody = eqb-false _ _ (not-true _ x.0);
        run = subst (λ (a : ℕ). Around 1 (held B.owners (owner_of B k)) (slots_of B) k a (shift_last (slots_of B) B.owners k))
            (eqb-true _ _ x.1) A;
      }

  -- the slots of a shift: its owner has them, and its ends are those of each
  module _ (w first last : ℕ) (S : Shift B w first last) (k : ℕ) (a : first ≤ k) (b : k ≤ last) where
    abbrev here : Around 1 (held B.owners w) (slots_of B) k first last
    here = around-each 1 (held B.owners w) (slots_of B) first k first last S.run a b

    pub shift-below : k < slots_of B
    shift-below = omega (arith, S.run.fits)

    pub shift-owner : owner_of B k ≡ w
    shift-owner = held_one B.owners w k (S.run.all k a b)

    pub shift-ends : (shift_first (slots_of B) B.owners k ≡ first) × (shift_last (slots_of B) B.owners k ≡ last)
    shift-ends =
        around-unique 1 (held B.owners (owner_of B k)) (slots_of B) k _ _ _ _ (shift-around (slots_of B) B.owners k shift-below)
        (subst (λ (v : ℕ). Around 1 (held B.owners v) (slots_of B) k first last) (sym shift-owner) here)

  -- and the first of them opens it
  pub opens : (w k last : ℕ) → Shift B w k last → opens_at (slots_of B) B.owners k ≡ true
  unfolding opens_at
  opens w k last S =
      let l = S.run.to in
      and-true _ _ (ap not (ne_eqb _ _ (λ q. S.somebody (sym (shift-owner w k last S k (omega arith) l) ∙ q))))
      (eq-eqb _ _ (shift-ends w k last S k (omega arith) l).0)

-- ---- rule 4

rule-4 : (B : Brought) → Tests B 4 (capped_at (slots_of B) B.cap B.plan.starts B.plan.ends B.owners)
unfolding capped_at
rule-4 B =
    record {
      fails = λ k h f.
          by-test (opens_at (slots_of B) B.owners k) _
          (λ t.
          let g = sym (ap (λ (b : Bool). cond b (leb (end_of B (shift_last (slots_of B) B.owners k) - start_of B k) B.cap) true) t) ∙ f in
          record {
            who = owner_of B k;
            last = shift_last (slots_of B) B.owners k;
            shift = opened B k h t;
            longer = leb-false _ _ g;
          })
          (λ n.
          absurd (clash
          (ap (λ (b : Bool). cond b (leb (end_of B (shift_last (slots_of B) B.owners k) - start_of B k) B.cap) true) n) f));
      broken = λ k b.
          let S = b.shift in
          let z : k ≤ k = omega arith in
          let e = (shift-ends B b.who k b.last S k z S.run.to).1 in (
            shift-below B b.who k b.last S k z S.run.to,
            ap₂ (λ (c : Bool) (i : ℕ). cond c (leb (end_of B i - start_of B k) B.cap) true) (opens B b.who k b.last S) e
                ∙ lt-leb _ _ b.longer,
          );
    }

-- ---- rule 5

module _ (B : Brought) (k : ℕ) where
  abbrev before : ℕ → Bool
  before j = eqb (owner_of B j) (owner_of B k) && closes_at (slots_of B) B.owners j

  abbrev apart : ℕ → Bool
  apart j = cond (before j) (leb B.rest (start_of B k - end_of B j)) true

  -- an earlier shift, from its last slot j, that ends too late
  pub close_of : k < slots_of B → opens_at (slots_of B) B.owners k ≡ true → (j : ℕ) → j < k → owner_of B j ≡ owner_of B k
      → shift_last (slots_of B) B.owners j ≡ j → start_of B k - end_of B j < B.rest
      → (T : TooClose B k) × (T.last ≡ j) × (T.who ≡ owner_of B k)
  close_of h t j l q e g =
      let A = shift-around (slots_of B) B.owners j (omega arith) in
      let S = opened B k h t in
      let f = shift_first (slots_of B) B.owners j in
      let C = around-each 1 (held B.owners (owner_of B j)) (slots_of B) j f _ _ A (omega arith) (omega (arith, A.from, A.to)) in
      let D = subst (λ (b : ℕ). Around 1 (held B.owners (owner_of B j)) (slots_of B) f f b) e C in (
        record {
          who = owner_of B k;
          first = f;
          last = j;
          end = shift_last (slots_of B) B.owners k;
          earlier = record {
            somebody = S.somebody;
            run = subst (λ (v : ℕ). Around 1 (held B.owners v) (slots_of B) f f j) q D;
          };
          later = S;
          before = l;
          closer = g;
        },
        refl,
        refl,
      )

  close-by : k < slots_of B → opens_at (slots_of B) B.owners k ≡ true → (j : ℕ) → j < k → apart j ≡ false → TooClose B k
  unfolding closes_at
  close-by h t j l f =
      by-test (before j) _
      (λ s.
      let x = both (eqb (owner_of B j) (owner_of B k)) _ s in
      let g = leb-false _ _ (sym (ap (λ (b : Bool). cond b (leb B.rest (start_of B k - end_of B j)) true) s) ∙ f) in
      (close_of h t j l (eqb-true _ _ x.0) (eqb-true _ _ x.1) g).0)
      (λ n. absurd (clash (ap (λ (b : Bool). cond b (leb B.rest (start_of B k - end_of B j)) true) n) f))

  some-close : k < slots_of B → opens_at (slots_of B) B.owners k ≡ true → all k apart ≡ false → TooClose B k
  some-close h t f =
      let F = first-is k apart in
      ⊎_elim (λ (l : first_fail k apart < k). close-by h t (first_fail k apart) l (F.fails l))
      (λ (l : k ≤ first_fail k apart). absurd (clash (first_passes k apart l) f)) (lt-or-ge (first_fail k apart) k)

  close-fails : TooClose B k → all k apart ≡ false
  unfolding closes_at
  close-fails b =
      let S = b.earlier in
      let T = b.later in
      let z : b.last ≤ b.last = omega arith in
      let y : k ≤ k = omega arith in
      let w = shift-owner B b.who b.first b.last S b.last S.run.to z in
      let v = shift-owner B b.who k b.end T k y T.run.to in
      let e = (shift-ends B b.who b.first b.last S b.last S.run.to z).1 in
      let s : before b.last ≡ true = and-true _ _ (eq-eqb _ _ (w ∙ sym v)) (eq-eqb _ _ e) in
      all-fails k b.last apart b.before
      (ap (λ (c : Bool). cond c (leb B.rest (start_of B k - end_of B b.last)) true) s ∙ lt-leb _ _ b.closer)

rule-5 : (B : Brought) → Tests B 5 (rested_at (slots_of B) B.rest B.plan.starts B.plan.ends B.owners)
unfolding rested_at
rule-5 B =
    record {
      fails = λ k h f.
          by-test (opens_at (slots_of B) B.owners k) _
          (λ t. some-close B k h t (sym (ap (λ (b : Bool). cond b (all k (apart B k)) true) t) ∙ f))
          (λ n. absurd (clash (ap (λ (b : Bool). cond b (all k (apart B k)) true) n) f));
      broken = λ k b.
          let T = b.later in (
            shift-below B b.who k b.end T k (omega arith) T.run.to,
            ap₂ (λ (c d : Bool). cond c d true) (opens B b.who k b.end T) (close-fails B k b),
          );
    }

-- ---- rule by rule

-- what an answer means, of the rules from r on
abbrev From : Brought → ℕ → Verdict → Type 0
From B r verdict.Usable = (n k : ℕ) → r ≤ n → Breaks B n k → ⊥
From B r (verdict.Broken n at) =
    (r ≤ n) × Breaks B n at × ((k : ℕ) → k < at → Breaks B n k → ⊥) × ((m k : ℕ) → r ≤ m → m < n → Breaks B m k → ⊥)

module _ (B : Brought) (r : ℕ) where
  more-none : ((k : ℕ) → Breaks B r k → ⊥) → (n k : ℕ) → r ≤ n → (suc r ≤ n → Breaks B n k → ⊥) → Breaks B n k → ⊥
  more-none z n k h f b =
      ⊎_elim (λ (l : r < n). f l b)
      (λ (l : n ≤ r). let q : n ≡ r = omega arith in z k (subst (λ (m : ℕ). Breaks B m k) q b)) (lt-or-ge r n)

  -- one rule more that holds
  more : ((k : ℕ) → Breaks B r k → ⊥) → (v : Verdict) → From B (suc r) v → From B r v
  more z verdict.Usable f = λ n k h b. more-none z n k h (λ l. f n k l) b
  more z (verdict.Broken n at) f =
      (omega (arith, f.0), f.1, f.2, λ m k h l b. more-none z m k h (λ g. f.3 m k g l) b)

  -- a rule, and those after it
  step : (p : ℕ → Bool) → Tests B r p → (v : Verdict) → From B (suc r) v → From B r (or_broken (slots_of B) r p v)
  unfolding or_broken
  step p T v f =
      by-test (all (slots_of B) p) _
      (λ t.
      subst (From B r) (sym (ap (λ (b : Bool). cond b v (verdict.Broken r (first_fail (slots_of B) p))) t))
      (more (λ k b. let x = T.broken k b in clash (all-each (slots_of B) p t k x.0) x.1) v f))
      (λ n.
      let F = first-is (slots_of B) p in
      let l : first_fail (slots_of B) p < slots_of B = ⊎_elim (λ (x : first_fail (slots_of B) p < slots_of B). x)
      (λ (x : slots_of B ≤ first_fail (slots_of B) p). absurd (clash (first_passes (slots_of B) p x) n))
      (lt-or-ge (first_fail (slots_of B) p) (slots_of B)) in
      subst (From B r) (sym (ap (λ (b : Bool). cond b v (verdict.Broken r (first_fail (slots_of B) p))) n)) (
        omega arith,
        T.fails (first_fail (slots_of B) p) l (F.fails l),
        λ k g b. clash (F.before k g) (T.broken k b).1,
        λ m k h g b. absurd (omega arith),
      ))

no_more : (B : Brought) → From B 6 verdict.Usable
no_more B zero k h b = b
no_more B (suc zero) k h b = absurd (omega arith)
no_more B (suc (suc zero)) k h b = absurd (omega arith)
no_more B (suc (suc (suc zero))) k h b = absurd (omega arith)
no_more B (suc (suc (suc (suc zero)))) k h b = absurd (omega arith)
no_more B (suc (suc (suc (suc (suc zero))))) k h b = absurd (omega arith)
no_more B (suc (suc (suc (suc (suc (suc n)))))) k h b = b

-- there is no rule 0
from_first : (B : Brought) (v : Verdict) → From B 1 v → Means B v
from_first B verdict.Usable f = λ n k b. first n k b
  where
    first : (n k : ℕ) → Breaks B n k → ⊥
    first zero k b = b
    first (suc n) k b = f (suc n) k (omega arith) b
from_first B (verdict.Broken n at) f = record { breaks = f.1; lowest = f.2; first = first }
  where
    first : (m k : ℕ) → m < n → Breaks B m k → ⊥
    first zero k l b = b
    first (suc m) k l b = f.3 (suc m) k (omega arith) l b

-- THE LAW: the verdict means what it says
pub judged-means : (B : Brought) → number_of (usable_row B) ≡ 0 → Means B (judged B)
unfolding judged
judged-means B z =
    let R = row-right B z in
    let v5 = or_broken (slots_of B) 5 (rested_at (slots_of B) B.rest B.plan.starts B.plan.ends B.owners) verdict.Usable in
    let v4 = or_broken (slots_of B) 4 (capped_at (slots_of B) B.cap B.plan.starts B.plan.ends B.owners) v5 in
    let v3 = or_broken (slots_of B) 3 (uniform_at B.units B.begins B.owners) v4 in
    let v2 = or_broken (slots_of B) 2 (published_at B.frozen B.published B.owners) v3 in
    from_first B (judged B)
    (step B 1 _ (rule-1 B) v2 (step B 2 _ (rule-2 B) v3 (step B 3 _ (rule-3 B R.units) v4 (step B 4 _ (rule-4 B) v5
    (step B 5 _ (rule-5 B) verdict.Usable (no_more B))))))

-- and no other does
pub means-one : (B : Brought) (v w : Verdict) → Means B v → Means B w → v ≡ w
means-one B verdict.Usable verdict.Usable a b = refl
means-one B verdict.Usable (verdict.Broken n k) a b = absurd (a n k b.breaks)
means-one B (verdict.Broken n k) verdict.Usable a b = absurd (b n k a.breaks)
means-one B (verdict.Broken n k) (verdict.Broken m j) a b =
    ⊎_elim (λ (l : n < m). absurd (b.first n k l a.breaks))
    (λ (l : m ≤ n).
    ⊎_elim (λ (g : m < n). absurd (a.first m j g b.breaks))
    (λ (g : n ≤ m).
    let q : n ≡ m = omega arith in
    let c : Breaks B m k = subst (λ (i : ℕ). Breaks B i k) q a.breaks in
    let d : Breaks B n j = subst (λ (i : ℕ). Breaks B i j) (sym q) b.breaks in
    ⊎_elim (λ (x : k < j). absurd (b.lowest k x c))
    (λ (x : j ≤ k).
    ⊎_elim (λ (y : j < k). absurd (a.lowest j y d))
    (λ (y : k ≤ j). let e : k ≡ j = omega arith in ap₂ verdict.Broken q e) (lt-or-ge j k)) (lt-or-ge k j))
    (lt-or-ge m n)) (lt-or-ge n m)
