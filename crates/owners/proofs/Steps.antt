-- A rota stays in step: worked out afresh, and when a stretch of slots changes hands. Assumes nothing.
use Rattle.std.proofs.Common.{◌≡◌, ℕ, ◌+◌, ◌-◌, ◌*◌, ◌^◌, ◌<◌, ◌≤◌, true, cond, eqb, List, length, get_or, set, sym, ap, ◌∙◌, subst, ap₂, ⊎_elim, mod-eq_of_lt, arith, length-set, get_or-set_other, get_or-set_same, ext_get_or, eqb-true}
use native.Mathlib.Nat.{mod-add-mod}
use borrow.Author.Tests.{eqb-false}
use Rattle.paper.specs.Limits.{nobody}
use Rattle.paper.specs.Count.{sum, sum_in, over, fill}
use Rattle.paper.proofs.Logic.{by-test, lt-or-ge}
use Rattle.paper.proofs.Count.{sum-in-none, sum-in-more, sum-in-le, over-again, over-right}
use Rattle.paper.proofs.Count.{length_over, get_d_over, get_d-over-out, length-fill, get_d-fill-in, get_d-fill-out}
use Rattle.slotset.proofs.Puts.{Fit, length-puts}
use Rattle.slots.specs.Lent.{demand_of, minutes_at}
use Rattle.paper.specs.Rows.{unless}
use Rattle.slotset.specs.Answers.{row_stretch_refusal, row_stretch_of}
use Rattle.slotset.proofs.Refusals.{stretch-puts}
use Rattle.units.proofs.Sets.{row_ok}
use Rattle.owners.specs.Derived.{Plan, known_by, portion, worked, total_of, Derived, derived, afresh, set_for, less_at, more_at, stretch_minutes}
use Rattle.owners.specs.Derived.{wrapped, less_totals, more_totals, taken, given, carried, length_at}
use Rattle.owners.specs.Inside.{PlanSound, InStep, OneOwner, HandedOver}
use Rattle.owners.proofs.Minutes.{minutes_in, known-below, portion-own, portion-other, worked-over, part-le, worked-le}
use Rattle.owners.proofs.Totals.{totals-handed, length-less-totals, length-more-totals}
use Rattle.owners.proofs.Sets.{length-sets, sets-fit, sets-in, sets-again, sets_same, stretch_for, length-set-for, sets-handed}

-- ---- worked out afresh

-- columns that are the same make the same record
pub derived-same : {s s' m m' t t' : List ℕ} → s ≡ s' → m ≡ m' → t ≡ t' → ◌≡◌ {A = Derived} (derived s m t) (derived s' m' t')
derived-same {s} {s'} {m} {m'} {t} {t'} p q r = ap₂ {C = Derived} (λ (x y : List ℕ). derived x y t) p q ∙ ap {B = Derived} (derived
    s' m') r

-- what is worked out afresh forgets what was there before
pub afresh-again : (P : Plan) (o o' : List ℕ) (D : Derived) → P.slots ≤ 1024 → 16 * P.people ≤ length D.sets → Fit D.sets
    → afresh P o' (afresh P o D) ≡ afresh P o' D
unfolding afresh
afresh-again P o o' D few room f =
    derived-same (sets-again P.people P.slots o o' D.sets few room f)
    (over-again (worked P o) (worked P o') P.people D.minutes) (over-again (total_of P o) (total_of P o') 2 D.totals)

-- a rota in step is the one worked out afresh from its owners
pub afresh-same : (P : Plan) (o : List ℕ) (D : Derived) → P.slots ≤ 1024 → Fit D.sets → InStep P o D → D ≡ afresh P o D
unfolding afresh
afresh-same P o D few f J =
    derived-same (sets_same P.people P.slots o D.sets few J.sets-room f J.sets)
    (over-right (worked P o) P.people D.minutes J.minutes) (over-right (total_of P o) 2 D.totals J.totals)

-- what was worked out afresh is in step
pub afresh-step : (P : Plan) (o : List ℕ) (D : Derived) → P.slots ≤ 1024 → P.slots ≤ length o → 16 * P.people ≤ length D.sets
    → P.people ≤ length D.minutes → 2 ≤ length D.totals → ((k : ℕ) → k < P.slots → known_by P.people (get_or o k 0) ≡ true)
    → InStep P o (afresh P o D)
unfolding afresh
afresh-step P o D few lo ls lm lt k =
    record {
      owners-room = lo;
      sets-room = omega (arith, length-sets P.people P.slots o D.sets);
      minutes-room = omega (arith, length_over (worked P o) P.people D.minutes);
      totals-room = omega (arith, length_over (total_of P o) 2 D.totals);
      known = k;
      sets = sets-in P.slots o D.sets few P.people ls;
      minutes = λ p h. get_d_over (worked P o) P.people D.minutes p h (omega arith);
      totals = λ i h. get_d_over (total_of P o) 2 D.totals i h (omega arith);
    }

-- lengths and words stay
pub afresh-lengths : (P : Plan) (o : List ℕ) (D : Derived)
    → (length (afresh P o D).sets ≡ length D.sets) × (length (afresh P o D).minutes ≡ length D.minutes)
    × (length (afresh P o D).totals ≡ length D.totals)
unfolding afresh
afresh-lengths P o D = (
  length-sets P.people P.slots o D.sets,
  length_over (worked P o) P.people D.minutes,
  length_over (total_of P o) 2 D.totals,
)

pub lengths-kept : (P : Plan) (o : List ℕ) (D D' : Derived) → D' ≡ afresh P o D
    → (length D'.sets ≡ length D.sets) × (length D'.minutes ≡ length D.minutes) × (length D'.totals ≡ length D.totals)
lengths-kept P o D D' e =
    let x = afresh-lengths P o D in (
      ap (λ (d : Derived). length d.sets) e ∙ x.0,
      ap (λ (d : Derived). length d.minutes) e ∙ x.1,
      ap (λ (d : Derived). length d.totals) e ∙ x.2,
    )

pub afresh-fit : (P : Plan) (o : List ℕ) (D : Derived) → Fit D.sets → Fit (afresh P o D).sets
unfolding afresh
afresh-fit P o D f = sets-fit P.people P.slots o D.sets f

-- ---- the two updates of the minutes

-- the entry of w changed by n, f being the change; nobody has none
module _ (f : ℕ → ℕ → ℕ) (w n : ℕ) (m : List ℕ) where
  abbrev changed : List ℕ
  changed = cond (eqb w nobody) m (set m w (f (get_or m w 0) n))

  length-changed : length changed ≡ length m
  length-changed = by-test (eqb w nobody) _ (λ t. simp t) (λ f. simp (f, length-set))

  get_d-changed : ((x : ℕ) → f x 0 ≡ x) → (p : ℕ) → (p ≡ nobody → ⊥) → p < length m → get_or changed p 0 ≡ f (get_or m p 0) (portion w p n)
  get_d-changed z p h r =
      let none : (w ≡ p → ⊥) → get_or m p 0 ≡ f (get_or m p 0) (portion w p n) = λ q.
      sym (ap (f (get_or m p 0)) (portion-other w p n q) ∙ z (get_or m p 0)) in
      by-test (eqb w nobody) _ (λ t. simp t (none (λ q. h (sym q ∙ eqb-true w nobody t))))
      (λ u. by-test (eqb w p) _
      (λ t.
      let q = eqb-true w p t in
      simp u (ap (λ (j : ℕ). get_or (set m j (f (get_or m j 0) n)) p 0) q ∙ get_or-set_same m p (f (get_or m p 0) n) 0 r
      ∙ ap (f (get_or m p 0)) (sym (ap (λ (j : ℕ). portion j p n) q ∙ portion-own p n))))
      (λ g.
      let q = eqb-false w p g in
      simp u (get_or-set_other m w p (f (get_or m w 0) n) 0 (λ x. q (sym x)) ∙ none q)))

  -- an entry that is no person's stays
  changed-past : (people p : ℕ) → known_by people w ≡ true → people ≤ p → get_or changed p 0 ≡ get_or m p 0
  changed-past people p h r =
      by-test (eqb w nobody) _ (λ t. simp t)
      (λ u. simp u (get_or-set_other m w p (f (get_or m w 0) n) 0 (λ q. omega (arith, known-below people w h (eqb-false w nobody u)))))

-- the minutes with n more for w
unfoldable add_at : ℕ → ℕ → List ℕ → List ℕ
add_at w n m = cond (eqb w nobody) m (set m w (get_or m w 0 + n))

mod-add-left : (s x : ℕ) → wrapped (wrapped s + x) ≡ wrapped (s + x)
mod-add-left s x = mod-add-mod s (2 ^ 64) x

small : (n : ℕ) → n ≤ 200000000 → wrapped n ≡ n
small n h = mod-eq_of_lt (let f : n < 2 ^ 64 = omega arith in f)

-- a sum that is small doesn't wrap
more-adds : (w n : ℕ) (m : List ℕ) → ((w ≡ nobody → ⊥) → get_or m w 0 + n ≤ 200000000) → more_at w n m ≡ add_at w n m
unfolding more_at add_at
more-adds w n m h =
    by-test (eqb w nobody) _ (λ t. simp t) (λ f. simp f (ap (set m w) (small (get_or m w 0 + n) (h (eqb-false w nobody f)))))

-- a row that is there takes the stretch
set-stretch : (v w a e people slots : ℕ) (ws : List ℕ) → people ≤ 32 → slots ≤ 1024 → e ≤ slots → 16 * people ≤ length ws
    → known_by people w ≡ true → set_for v people slots w a e ws ≡ stretch_for v w a e ws
unfolding set_for stretch_for
set-stretch v w a e people slots ws few short within room k =
    by-test (eqb w nobody) _ (λ t. simp t)
    (λ f. simp f
    (stretch-puts v ws people w slots a e
    (row_ok ws people w slots (known-below people w k (eqb-false w nobody f)) few short room) within))

-- whatever is lent, lengths stay
length-row : (v w a e people slots : ℕ) (ws : List ℕ) → length (set_for v people slots w a e ws) ≡ length ws
unfolding set_for row_stretch_of unless
length-row v w a e people slots ws =
    by-test (eqb w nobody) _ (λ t. simp t)
    (λ f. simp f
    (by-test (eqb (row_stretch_refusal ws people w slots a e) 0) _
    (λ t. simp t (length-puts (λ _. v) (16 * w) a (e - a) ws)) (λ g. simp g)))

module _ (w n : ℕ) (m : List ℕ) where
  pub length-less : length (less_at w n m) ≡ length m
  unfolding less_at
  length-less = length-changed ◌-◌ w n m

  length-add : length (add_at w n m) ≡ length m
  unfolding add_at
  length-add = length-changed ◌+◌ w n m

  length_more : length (more_at w n m) ≡ length m
  unfolding more_at
  length_more = length-changed (λ x y. wrapped (x + y)) w n m

  module _ (p : ℕ) where
    get_d-less : (p ≡ nobody → ⊥) → p < length m → get_or (less_at w n m) p 0 ≡ get_or m p 0 - portion w p n
    unfolding less_at
    get_d-less = get_d-changed ◌-◌ w n m (λ x. omega arith) p

    get_d-more : (p ≡ nobody → ⊥) → p < length m → get_or (add_at w n m) p 0 ≡ get_or m p 0 + portion w p n
    unfolding add_at
    get_d-more = get_d-changed ◌+◌ w n m (λ x. omega arith) p

    module _ (people : ℕ) where
      less-past : known_by people w ≡ true → people ≤ p → get_or (less_at w n m) p 0 ≡ get_or m p 0
      unfolding less_at
      less-past = changed-past ◌-◌ w n m people p

      more-past : known_by people w ≡ true → people ≤ p → get_or (add_at w n m) p 0 ≡ get_or m p 0
      unfolding add_at
      more-past = changed-past ◌+◌ w n m people p

pub stretch-le : (P : Plan) (a e : ℕ) → a ≤ e → e ≤ P.slots → minutes_in P a e ≤ demand_of P.slots P.starts P.ends
unfolding stretch_minutes
stretch-le P a e h g = omega (arith, sum-in-le a e (length_at P) h, part-le P e g)

pub small-stretch : (P : Plan) → PlanSound P → (a e : ℕ) → a ≤ e → e ≤ P.slots → wrapped (minutes_in P a e) ≡ minutes_in P a e
small-stretch P S a e h g = small (minutes_in P a e) (omega (arith, stretch-le P a e h g, S.lent.demand-fits))

-- ---- slots a up to e go from old to w

-- an owner that was known, or became one who is, is known
pub fill_known : (people w a n : ℕ) (o : List ℕ) (k : ℕ) → k < length o → known_by people w ≡ true → known_by people (get_or o k 0) ≡ true
    → known_by people (get_or (fill w a n o) k 0) ≡ true
fill_known people w a n o k l new old =
    ⊎_elim
    (λ (x : k < a). ap (known_by people) (get_d-fill-out w a n o k (λ u v. omega arith)) ∙ old)
    (λ (x : a ≤ k).
    ⊎_elim
    (λ (y : k < a + n). ap (known_by people) (get_d-fill-in w a n o k x y l) ∙ new)
    (λ (y : a + n ≤ k). ap (known_by people) (get_d-fill-out w a n o k (λ u v. omega arith)) ∙ old)
    (lt-or-ge k (a + n)))
    (lt-or-ge k a)

module _ (P : Plan) (S : PlanSound P) (o : List ℕ) (D : Derived) (J : InStep P o D) (a e old w : ℕ) (le : a ≤ e) (within : e ≤ P.slots)
    (owned : (k : ℕ) → a ≤ k → k < e → get_or o k 0 ≡ old) (ko : known_by P.people old ≡ true) (kw : known_by P.people w ≡ true) where
  abbrev t : ℕ
  t = minutes_in P a e

  -- the old owner has the minutes of the stretch
  pub old-has : (p : ℕ) → (p ≡ nobody → ⊥) → portion old p t ≤ worked P o p
  old-has p n =
      omega (arith, worked-over P o p a e old nobody le within J.owners-room owned, portion-other nobody p t (λ q. n (sym q)))

  pub old-room : (old ≡ nobody → ⊥) → (old < length D.minutes) × (t ≤ get_or D.minutes old 0)
  old-room n =
      let b = known-below P.people old ko n in
      (omega (arith, J.minutes-room), omega (arith, J.minutes old b, old-has old n, portion-own old t))

  pub new-room : (w ≡ nobody → ⊥) → (w < length (less_at old t D.minutes)) × (get_or (less_at old t D.minutes) w 0 + t ≤ 200000000)
  new-room n =
      let b = known-below P.people w kw n in
      let r : w < length D.minutes = omega (arith, J.minutes-room) in
      let whole = worked-le P (fill w a (e - a) o) w in (
        omega (arith, length-less old t D.minutes),
        omega (
          arith,
          get_d-less old t D.minutes w n r,
          J.minutes w b,
          worked-le P o w,
          S.lent.demand-fits,
          old-has w n,
          whole,
          worked-over P o w a e old w le within J.owners-room owned,
          portion-own w t,
        ),
      )

  minutes-handed : add_at w t (less_at old t D.minutes) ≡ over (worked P (fill w a (e - a) o)) P.people D.minutes
  minutes-handed =
      let m = D.minutes in
      let l = less_at old t m in
      let f = worked P (fill w a (e - a) o) in
      ext_get_or 0 (add_at w t l) (over f P.people m)
      (length-add w t l ∙ length-less old t m ∙ sym (length_over f P.people m))
      (λ p r.
      let rl : p < length l = omega (arith, length-add w t l) in
      let rm : p < length m = omega (arith, length-less old t m) in
      ⊎_elim
      (λ (h : p < P.people).
      let n : p ≡ nobody → ⊥ = λ q. omega (arith, S.people-few) in
      let x = get_d-more w t l p n rl in
      let y = get_d-less old t m p n rm in
      let z = worked-over P o p a e old w le within J.owners-room owned in
      omega (arith, x, y, z, J.minutes p h, old-has p n, get_d_over f P.people m p h rm))
      (λ (h : P.people ≤ p).
      more-past w t l p P.people kw h ∙ less-past old t m p P.people ko h ∙ sym (get_d-over-out f P.people m p h))
      (lt-or-ge p P.people))

  -- all columns, after the updates, are those worked out afresh
  pub handed-over : (f : Fit D.sets) → carried P a e old w D ≡ afresh P (fill w a (e - a) o) D
  unfolding afresh carried taken given
  handed-over f =
      let n : wrapped t ≡ t = small-stretch P S a e le within in
      let less = stretch_for 0 old a e D.sets in
      let one : set_for 0 P.people P.slots old a e D.sets ≡ less =
      set-stretch 0 old a e P.people P.slots D.sets S.people-few S.slots-few within J.sets-room ko in
      let room : 16 * P.people ≤ length less = omega (arith, length-set-for 0 old a e D.sets (omega arith), J.sets-room) in
      derived-same
      (ap (set_for 1 P.people P.slots w a e) one
      ∙ set-stretch 1 w a e P.people P.slots less S.people-few S.slots-few within room kw
      ∙ sets-handed P.people P.slots a e old w o D.sets S.slots-few le within J.owners-room S.people-few J.sets-room f
      J.sets owned (known-below P.people old ko) (known-below P.people w kw))
      (ap (λ (x : ℕ). more_at w x (less_at old x D.minutes)) n
      ∙ more-adds w t (less_at old t D.minutes) (λ z. (new-room z).1) ∙ minutes-handed)
      (ap (λ (x : ℕ). more_totals w x (e - a) (less_totals old x (e - a) D.totals)) n
      ∙ totals-handed P o D.totals a e old w le within J.owners-room owned S.lent.demand-fits S.slots-few J.totals-room J.totals)

  pub handed-step : InStep P (fill w a (e - a) o) (afresh P (fill w a (e - a) o) D)
  handed-step =
      afresh-step P (fill w a (e - a) o) D S.slots-few (omega (arith, J.owners-room, length-fill w a (e - a) o)) J.sets-room
      J.minutes-room J.totals-room (λ k h. fill_known P.people w a (e - a) o k (omega (arith, J.owners-room)) kw (J.known k h))

-- on a rota in step, a stretch of one owner that goes to somebody known: the owners, and both columns, at the end
pub handed : (P : Plan) (o : List ℕ) (D : Derived) (a e w : ℕ) → PlanSound P → InStep P o D → OneOwner o P.slots a e
    → known_by P.people w ≡ true → Fit D.sets → (o' : List ℕ) (D' : Derived) → o' ≡ fill w a (e - a) o
    → D' ≡ carried P a e (get_or o a 0) w D → HandedOver P o D a e w o' D'
handed P o D a e w S J O kw f o' D' p q =
    let le : a ≤ e = omega (arith, O.some) in
    let ko = J.known a (omega (arith, O.some, O.within)) in
    let x : D' ≡ afresh P o' D =
    q ∙ handed-over P S o D J a e (get_or o a 0) w le O.within O.each ko kw f ∙ ap (λ (l : List ℕ). afresh P l D) (sym p) in
    let y = handed-step P S o D J a e (get_or o a 0) w le O.within O.each ko kw in
    record {
      owners = p;
      derived = x;
      step = subst (λ (d : Derived). InStep P o' d) (sym x) (subst (λ (l : List ℕ). InStep P l (afresh P l D)) (sym p) y);
    }

-- ---- the code: lengths stay, and the minutes of a stretch, slot by slot

module _ (people slots a e n w : ℕ) (D : Derived) where
  -- whatever is lent, nothing gets longer
  pub taken-lengths : (length (taken people slots a e n w D).sets ≡ length D.sets)
      × (length (taken people slots a e n w D).minutes ≡ length D.minutes)
      × (length (taken people slots a e n w D).totals ≡ length D.totals)
  unfolding taken
  taken-lengths = (
    length-row 0 w a e people slots D.sets,
    length-less w n D.minutes,
    length-less-totals w n (e - a) D.totals,
  )

  pub given-lengths : (length (given people slots a e n w D).sets ≡ length D.sets)
      × (length (given people slots a e n w D).minutes ≡ length D.minutes)
      × (length (given people slots a e n w D).totals ≡ length D.totals)
  unfolding given
  given-lengths = (
    length-row 1 w a e people slots D.sets,
    length_more w n D.minutes,
    length-more-totals w n (e - a) D.totals,
  )

pub carried-lengths : (P : Plan) (a e old w : ℕ) (D D' : Derived) → D' ≡ carried P a e old w D
    → (length D'.sets ≡ length D.sets) × (length D'.minutes ≡ length D.minutes) × (length D'.totals ≡ length D.totals)
unfolding carried
carried-lengths P a e old w D D' q =
    let n = wrapped (minutes_in P a e) in
    let x = taken-lengths P.people P.slots a e n old D in
    let y = given-lengths P.people P.slots a e n w (taken P.people P.slots a e n old D) in (
      ap (λ (d : Derived). length d.sets) q ∙ y.0 ∙ x.0,
      ap (λ (d : Derived). length d.minutes) q ∙ y.1 ∙ x.1,
      ap (λ (d : Derived). length d.totals) q ∙ y.2 ∙ x.2,
    )

pub stretch-none : (starts ends : List ℕ) (a : ℕ) → 0 ≡ wrapped (stretch_minutes starts ends a a)
unfolding stretch_minutes
stretch-none starts ends a = sym (ap wrapped (sum-in-none a (minutes_at starts ends)))

pub stretch-more : (starts ends : List ℕ) (a k t m r : ℕ) → a ≤ k → t ≡ wrapped (stretch_minutes starts ends a k)
    → m ≡ minutes_at starts ends k → r ≡ wrapped (t + m) → r ≡ wrapped (stretch_minutes starts ends a (k + 1))
unfolding stretch_minutes
stretch-more starts ends a k t m r h p q e =
    e ∙ ap₂ (λ (x y : ℕ). wrapped (x + y)) p q
    ∙ mod-add-left (sum_in a k (minutes_at starts ends)) (minutes_at starts ends k)
    ∙ ap wrapped (sym (sum-in-more a k (minutes_at starts ends) h))

-- past its end a stretch is as long as up to it
pub stretch-end : (starts ends : List ℕ) (a e k : ℕ) → k - a ≤ e - a → e ≤ k
    → wrapped (stretch_minutes starts ends a k) ≡ wrapped (stretch_minutes starts ends a e)
unfolding stretch_minutes sum_in
stretch-end starts ends a e k h g =
    let q : k - a ≡ e - a = omega arith in
    ap (λ (n : ℕ). wrapped (sum n (λ j. minutes_at starts ends (a + j)))) q
