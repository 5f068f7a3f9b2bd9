-- The laws of scans that answer their first fault. Assumes nothing.
use Rattle.std.proofs.Common.{◌≡◌, ℕ, zero, suc, ◌+◌, ◌-◌, ◌*◌, ◌%◌, ◌^◌, ◌<◌, ◌≤◌, max, Bool, true, false, cond, not, ◌&&◌, eqb, ltb, List, get_or, sym, refl, ap, ◌∙◌, ap₂, ⊎_elim, le_antisymm, arith, ltb-true, le-ltb, lt-ltb, eq-eqb, ne_eqb}
use Rattle.paper.specs.Limits.{nobody}
use Rattle.paper.specs.Count.{all, all_in, sum}
use Rattle.paper.proofs.Logic.{by-test, lt-or-ge, below_suc, both, or_left, or-second, or-either}
use Rattle.paper.proofs.Count.{all-each, each_all, all-fails, sum_more}
use Rattle.slotset.specs.Slots.{slot}
use Rattle.slotset.proofs.Puts.{slot_lt}
use Rattle.slots.specs.Lent.{minutes_at}
use Rattle.units.specs.Units.{unit_start, unit_end}
use Rattle.owners.specs.Derived.{Plan, portion, held, length_at, known_by}
use Rattle.owners.specs.Inside.{PlanSound}
use Rattle.owners.specs.Recount.{first_fail, known_at, available_for, available_at, even_at, set_slot_at}
use Rattle.owners.specs.Inside.{same_bit}
use Rattle.owners.proofs.Minutes.{worked-part-le}

-- ---- the first fault

-- the same, said of every number
pub record FirstFault (n : ℕ) (p : ℕ → Bool) (r : ℕ) : Type 0 where
  pub within : r ≤ n
  pub before : (k : ℕ) → k < r → p k ≡ true
  pub fails : r < n → p r ≡ false

-- every number below n passes
pub fails-none : (n : ℕ) (p : ℕ → Bool) → all n p ≡ true → first_fail n p ≡ n
unfolding first_fail all
fails-none zero p e = refl
fails-none (suc n) p e = let x = both (all n p) (p n) e in simp (x.0, x.1)

-- all below i pass, and i does not
pub fails-at : (n i : ℕ) (p : ℕ → Bool) → i < n → all i p ≡ true → p i ≡ false → first_fail n p ≡ i
unfolding first_fail
fails-at zero i p h a f = absurd (omega arith)
fails-at (suc n) i p h a f =
    below_suc (first_fail (suc n) p ≡ i) h
    (λ q.
    let x : all n p ≡ true = ap (λ (m : ℕ). all m p) (sym q) ∙ a in
    let y : p n ≡ false = ap p (sym q) ∙ f in
    simp (x, y) (sym q))
    (λ l. let x : all n p ≡ false = all-fails n i p l f in simp x (fails-at n i p l a f))

-- the answer is the first fault, and only that is
pub first-is : (n : ℕ) (p : ℕ → Bool) → FirstFault n p (first_fail n p)
unfolding first_fail
first-is zero p = record { within = omega arith; before = λ k h. absurd (omega arith); fails = λ h. absurd (omega arith) }
first-is (suc n) p =
    by-test (all n p) _
    (λ a. by-test (p n) _
    (λ t. simp (a, t)
    record {
      within = omega arith;
      before = λ k h. below_suc (p k ≡ true) h (λ q. ap p q ∙ t) (λ l. all-each n p a k l);
      fails = λ h. absurd (omega arith);
    })
    (λ f. simp (a, f) record { within = omega arith; before = λ k h. all-each n p a k h; fails = λ h. f }))
    (λ b.
    let F = first-is n p in
    let l : first_fail n p < n = ⊎_elim (λ (x : first_fail n p < n). x)
    (λ (x : n ≤ first_fail n p).
    absurd (mathlib.Core.Bool.true≢false (sym (each_all n p (λ k h. F.before k (omega arith))) ∙ b)))
    (lt-or-ge (first_fail n p) n) in
    simp b record { within = omega arith; before = F.before; fails = λ h. F.fails l })

pub first-only : (n : ℕ) (p : ℕ → Bool) (r : ℕ) → FirstFault n p r → r ≡ first_fail n p
first-only n p r F =
    ⊎_elim
    (λ (l : r < n). sym (fails-at n r p l (each_all r p F.before) (F.fails l)))
    (λ (l : n ≤ r).
    let q : r ≡ n = le_antisymm F.within l in
    q ∙ sym (fails-none n p (each_all n p (λ k h. F.before k (omega arith)))))
    (lt-or-ge r n)

-- tests that agree below n fail first at one place
pub first-same : (n : ℕ) (p q : ℕ → Bool) → ((k : ℕ) → k < n → p k ≡ q k) → first_fail n p ≡ first_fail n q
first-same n p q e =
    let F = first-is n p in
    first-only n q (first_fail n p) (record {
      within = F.within;
      before = λ k h. sym (e k (omega (arith, F.within))) ∙ F.before k h;
      fails = λ h. sym (e (first_fail n p) h) ∙ F.fails h;
    })

-- all below i pass, and not all below the next
pub scan-halved : (n i j : ℕ) (p : ℕ → Bool) → i < n → j ≡ suc i → all i p ≡ true → all j p ≡ false → i ≡ first_fail n p
unfolding all
scan-halved n i j p h e a b =
    sym (fails-at n i p h a (sym (ap (λ (m : ℕ). all m p) e ∙ ap (λ (x : Bool). x && p i) a) ∙ b))

-- where it is n, every number passes; where it is below, some number fails
pub first_passes : (n : ℕ) (p : ℕ → Bool) → n ≤ first_fail n p → all n p ≡ true
first_passes n p h = let F = first-is n p in each_all n p (λ k l. F.before k (omega arith))

pub first-test : (n : ℕ) (p : ℕ → Bool) → ltb (first_fail n p) n ≡ not (all n p)
first-test n p =
    by-test (all n p) _
    (λ t. let e = fails-none n p t in ap (λ (x : ℕ). ltb x n) e ∙ le-ltb n n (omega arith) ∙ sym (ap not t))
    (λ f.
    ⊎_elim (λ (l : first_fail n p < n). lt-ltb _ _ l ∙ sym (ap not f))
    (λ (l : n ≤ first_fail n p). absurd (mathlib.Core.Bool.true≢false (sym (first_passes n p l) ∙ f)))
    (lt-or-ge (first_fail n p) n))

-- the loops: all below i passed
pub scan-fails : (n i : ℕ) (p : ℕ → Bool) → i < n → all i p ≡ true → p i ≡ false → i ≡ first_fail n p
scan-fails n i p h a f = sym (fails-at n i p h a f)

pub scan-ends : (n i : ℕ) (p : ℕ → Bool) → i ≤ n → n ≤ i → all i p ≡ true → n ≡ first_fail n p
scan-ends n i p h g a = sym (fails-none n p (ap (λ (m : ℕ). all m p) (le_antisymm g h) ∙ a))

-- a scan that ends before n: not all pass
pub scan-no : (n r : ℕ) (p : ℕ → Bool) → r ≡ first_fail n p → r < n → all n p ≡ false
scan-no n r p e h =
    by-test (all n p) _ (λ t. absurd (omega (arith, e, fails-none n p t))) (λ f. f)

pub scan-yes : (n r : ℕ) (p : ℕ → Bool) → r ≡ first_fail n p → n ≤ r → all n p ≡ true
scan-yes n r p e h = first_passes n p (omega (arith, e))

-- whether a scan came to n
pub scan-test : (n r : ℕ) (p : ℕ → Bool) → r ≡ first_fail n p → eqb r n ≡ all n p
scan-test n r p e =
    by-test (all n p) _
    (λ t. eq-eqb r n (e ∙ fails-none n p t) ∙ sym t)
    (λ f. ne_eqb r n (λ q. mathlib.Core.Bool.true≢false (sym (scan-yes n r p e (omega (arith, q))) ∙ f)) ∙ sym f)

-- ---- the tests of the scans

pub available-nobody : (avail : List ℕ) (w k : ℕ) → w ≡ nobody → true ≡ available_for avail w k
unfolding available_for
available-nobody avail w k e = simp (eq-eqb w nobody e)

pub available-here : (avail o : List ℕ) (k w : ℕ) (b : Bool) → w ≡ get_or o k 0 → b ≡ available_for avail w k → available_at avail o k ≡ b
unfolding available_at
available-here avail o k w b e q = sym (q ∙ ap (λ (v : ℕ). available_for avail v k) e)

-- past its end a stretch is as long as up to it
pub in-past : (p : ℕ → Bool) (a e k : ℕ) → k - a ≤ e - a → e ≤ k → all_in a k p ≡ true → true ≡ all_in a e p
unfolding all_in
in-past p a e k h g x =
    let q : k - a ≡ e - a = omega arith in
    sym (sym (ap (λ (n : ℕ). all n (λ j. p (a + j))) q) ∙ x)

-- all of a stretch has the owner of its first slot
module _ (slots units : ℕ) (begins o : List ℕ) (u a e w : ℕ) (pa : a ≡ unit_start begins u) (pe : e ≡ unit_end slots units begins u)
    (pw : w ≡ get_or o a 0) where
  pub even-as : all_in a e (λ k. eqb (get_or o k 0) w) ≡ even_at slots units begins o u
  unfolding even_at
  even-as =
      ap (λ (v : ℕ). all_in a e (λ k. eqb (get_or o k 0) v)) pw
      ∙ ap₂ (λ (x y : ℕ). all_in x y (λ k. eqb (get_or o k 0) (get_or o x 0))) pa pe

-- slot k of a set, by the owner and by whether it is there
bit-eq : (x : ℕ) (c : Bool) → x < 2 → eqb x (cond c 1 0) ≡ same_bit (eqb x 1) c
bit-eq zero true h = refl
bit-eq zero false h = refl
bit-eq (suc zero) true h = refl
bit-eq (suc zero) false h = refl
bit-eq (suc (suc x)) c h = absurd (omega arith)

pub member-test : (o ws : List ℕ) (p k w : ℕ) (b there : Bool) → w ≡ get_or o k 0 → there ≡ eqb (slot ws (16 * p) k) 1
    → b ≡ same_bit there (eqb w p) → set_slot_at o ws p k ≡ b
unfolding set_slot_at held
member-test o ws p k w b there ew e q =
    bit-eq (slot ws (16 * p) k) (eqb (get_or o k 0) p) (slot_lt ws (16 * p) k)
    ∙ ap₂ (λ (t : Bool) (v : ℕ). same_bit t (eqb v p)) (sym e) (sym ew) ∙ sym q

-- a person's minutes, slot by slot
module _ (P : Plan) (o : List ℕ) (p k t r m : ℕ) (e : t ≡ sum k (λ j. portion (get_or o j 0) p (length_at P j)))
    (em : m ≡ minutes_at P.starts P.ends k) (d : r ≡ portion (get_or o k 0) p m) where
  pub worked-more : t + r ≡ sum (k + 1) (λ j. portion (get_or o j 0) p (length_at P j))
  worked-more = ap₂ ◌+◌ e (d ∙ ap (portion (get_or o k 0) p) em) ∙ sym (sum_more k (λ j. portion (get_or o j 0) p (length_at P j)))

  pub worked-fits : PlanSound P → k < P.slots → t + r ≤ 100000000
  worked-fits S h = omega (arith, worked-more, worked-part-le P o p (k + 1) (omega arith), S.lent.demand-fits)

-- ---- known owners, by as many people as it takes

pub known_more : (n m w : ℕ) → n ≤ m → known_by n w ≡ true → known_by m w ≡ true
unfolding known_by
known_more n m w h e =
    ⊎_elim (λ t. or_left (eqb w nobody) _ t) (λ t. or-second (eqb w nobody) _ (lt-ltb w m (omega (arith, ltb-true w n t))))
    (or-either (eqb w nobody) (ltb w n) e)

-- one more than a person, and 0 for nobody, is enough
known-after : (w n : ℕ) → w < 256 → (w + 1) % 2 ^ 8 ≤ n → known_by n w ≡ true
unfolding known_by
known-after w n h g =
    ⊎_elim (λ (l : w < 255). or-second (eqb w nobody) _ (lt-ltb w n (omega arith)))
    (λ (l : 255 ≤ w). let e : w ≡ 255 = omega arith in or_left (eqb w nobody) _ (eq-eqb w 255 e)) (lt-or-ge w 255)

-- one more owner
pub enough-more : (o : List ℕ) (most k r x : ℕ) → ((j : ℕ) → j < k → known_by most (get_or o j 0) ≡ true) → get_or o k 0 < 256
    → x ≡ (get_or o k 0 + 1) % 2 ^ 8 → r ≡ max most x → (j : ℕ) → j < k + 1 → known_by r (get_or o j 0) ≡ true
enough-more o most k r x f b e d j h =
    ⊎_elim (λ (l : j < k). known_more most r (get_or o j 0) (omega arith) (f j l))
    (λ (l : k ≤ j).
    let q : j ≡ k = omega arith in
    ap (λ (i : ℕ). known_by r (get_or o i 0)) q ∙ known-after (get_or o k 0) r b (omega arith))
    (lt-or-ge j k)

-- and they are there
pub enough-known : (o : List ℕ) (n people slots : ℕ) → ((k : ℕ) → k < slots → known_by n (get_or o k 0) ≡ true) → n ≤ people
    → all slots (known_at people o) ≡ true
unfolding known_at
enough-known o n people slots f h = each_all slots (λ k. known_by people (get_or o k 0)) (λ k l. known_more n people (get_or o k 0) h (f k l))
