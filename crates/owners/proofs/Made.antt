-- Sets, minutes and totals made from owners, a stretch at a time. Assumes nothing.
use Rattle.std.proofs.Common.{◌≡◌, ℕ, zero, suc, ◌+◌, ◌-◌, ◌*◌, ◌<◌, ◌≤◌, true, List, [], length, get_or, sym, refl, ap, ◌∙◌, subst, ap₂, ⊎_elim, zero-le, add-one, arith}
use lib.ListN.{get_or-replicate}
use Rattle.paper.specs.Limits.{nobody}
use Rattle.paper.specs.Count.{over, fill}
use Rattle.paper.proofs.Logic.{lt-or-ge}
use Rattle.paper.proofs.Count.{sum_same, over-same, over-again, over-right, length_over, get_d_over, length-fill, get_d-fill-in, get_d-fill-out}
use Rattle.slotset.specs.Slots.{slot, put_slots}
use Rattle.slotset.specs.Answers.{cleared_row}
use Rattle.units.proofs.Sets.{row_ok}
use Rattle.slotset.proofs.Puts.{Fit, puts-same}
use Rattle.owners.specs.Derived.{Plan, known_by, portion, worked, total_of, length_at, held, sets_from, Derived, derived, afresh}
use Rattle.owners.specs.Derived.{nobodies, wrapped, set_for, less_at, more_totals, taken, given, carried}
use Rattle.owners.specs.Inside.{PlanSound, InStep, OneOwner, Makes}
use Rattle.owners.proofs.Minutes.{minutes_in, known-nobody, portion-other, sum-nothing, up_to}
use Rattle.owners.proofs.Totals.{totals-given, totals-none, totals-owners}
use Rattle.owners.proofs.Sets.{held_same, held-not, length-sets, sets-fit, sets-in, sets-again, sets_same}
use Rattle.owners.proofs.Steps.{derived-same, afresh-again, afresh-step, afresh-fit, afresh-lengths, fill_known, handed-over, small-stretch}

-- ---- only the owners below the slot count matter

pub sets-owners : (n slots : ℕ) (o o' ws : List ℕ) → ((k : ℕ) → k < slots → get_or o k 0 ≡ get_or o' k 0) → sets_from n slots o ws ≡
    sets_from n slots o' ws
unfolding sets_from
sets-owners zero slots o o' ws h = refl
sets-owners (suc n) slots o o' ws h =
    puts-same (held o n) (held o' n) (16 * n) 0 slots (sets_from n slots o ws) (λ k x y. held_same o o' n k (h k (omega arith)))
    ∙ ap (put_slots (held o' n) (16 * n) 0 slots) (sets-owners n slots o o' ws h)

pub worked-owners : (P : Plan) (o o' : List ℕ) (p : ℕ) → ((k : ℕ) → k < P.slots → get_or o k 0 ≡ get_or o' k 0) → worked P o p ≡ worked
    P o' p
unfolding worked
worked-owners P o o' p h = sum_same P.slots _ _ (λ k l. ap (λ (w : ℕ). portion w p (length_at P k)) (h k l))

pub afresh-owners : (P : Plan) (o o' : List ℕ) (D : Derived) → ((k : ℕ) → k < P.slots → get_or o k 0 ≡ get_or o' k 0) → afresh P o D ≡
    afresh P o' D
unfolding afresh
afresh-owners P o o' D h =
    derived-same (sets-owners P.people P.slots o o' D.sets h)
    (over-same (worked P o) (worked P o') P.people D.minutes (λ p _. worked-owners P o o' p h))
    (over-same (total_of P o) (total_of P o') 2 D.totals (λ i _. totals-owners P o o' h i))

-- ---- the owners so far

-- the owners of the slots below i; from there on nobody
unfoldable pub cut : ℕ → ℕ → List ℕ → List ℕ
cut n i o = fill nobody i (n - i) o

module _ (n i : ℕ) (o : List ℕ) (long : n ≤ length o) where
  cut-before : (k : ℕ) → k < i → get_or (cut n i o) k 0 ≡ get_or o k 0
  unfolding cut
  cut-before k h = get_d-fill-out nobody i (n - i) o k (λ x y. omega arith)

  cut-after : (k : ℕ) → i ≤ k → k < n → get_or (cut n i o) k 0 ≡ nobody
  unfolding cut
  cut-after k h g = get_d-fill-in nobody i (n - i) o k h (omega arith) (omega arith)

  cut-length : length (cut n i o) ≡ length o
  unfolding cut
  cut-length = length-fill nobody i (n - i) o

cut-known : (P : Plan) (o : List ℕ) (D : Derived) → Makes P o D → (i k : ℕ) → k < P.slots → known_by P.people (get_or (cut P.slots i o) k 0) ≡ true
unfolding cut
cut-known P o D M i k h =
    fill_known P.people nobody i (P.slots - i) o k (omega (arith, M.owners-room)) (known-nobody P.people) (M.known k h)

-- ---- the loop: the owners below i are in the sets and minutes, and the slots below i in the totals

-- without totals
abbrev columns : Derived → Derived
columns D = derived D.sets D.minutes []

pub record Made (P : Plan) (o : List ℕ) (D₀ : Derived) (i : ℕ) (D : Derived) : Type 0 where
  pub within : i ≤ P.slots
  pub eq : columns D ≡ columns (afresh P (cut P.slots i o) D₀)
  pub totals : D.totals ≡ over (total_of (up_to i P) o) 2 D₀.totals
  pub makes : Makes P o D₀
  pub fit : Fit D₀.sets

-- giving adds to what nobody lacks: sets and minutes are those of a stretch that goes from nobody
given-columns : (P : Plan) (a e w : ℕ) (D E : Derived) → columns D ≡ columns E
    → columns (given P.people P.slots a e (wrapped (minutes_in P a e)) w D) ≡ columns (carried P a e nobody w E)
unfolding given carried taken set_for less_at
given-columns P a e w D E q =
    ap (λ (d : Derived). columns (given P.people P.slots a e (wrapped (minutes_in P a e)) w d)) q

-- lengths stay
pub made-lengths : (P : Plan) (o : List ℕ) (D₀ : Derived) (i : ℕ) (D : Derived) → Made P o D₀ i D
    → (length D.sets ≡ length D₀.sets) × (length D.minutes ≡ length D₀.minutes) × (length D.totals ≡ length D₀.totals)
made-lengths P o D₀ i D M =
    let x = afresh-lengths P (cut P.slots i o) D₀ in (
      ap (λ (d : Derived). length d.sets) M.eq ∙ x.0,
      ap (λ (d : Derived). length d.minutes) M.eq ∙ x.1,
      ap length M.totals ∙ length_over (total_of (up_to i P) o) 2 D₀.totals,
    )

module _ (P : Plan) (S : PlanSound P) (o : List ℕ) (D₀ : Derived) where
  -- the owners so far, with what is derived from them
  made-step : (i : ℕ) → Makes P o D₀ → InStep P (cut P.slots i o) (afresh P (cut P.slots i o) D₀)
  made-step i M =
      afresh-step P (cut P.slots i o) D₀ S.slots-few (omega (arith, M.owners-room, cut-length P.slots i o M.owners-room))
      M.sets-room M.minutes-room M.totals-room (cut-known P o D₀ M i)

  module _ (i : ℕ) (D : Derived) (M : Made P o D₀ i D) (e : ℕ) (O : OneOwner o P.slots i e) where
    one-owned : (k : ℕ) → i ≤ k → k < e → get_or (cut P.slots i o) k 0 ≡ nobody
    one-owned k x y = cut-after P.slots i o M.makes.owners-room k x (omega (arith, O.within))

    one_known : known_by P.people (get_or o i 0) ≡ true
    one_known = M.makes.known i (omega (arith, O.some, O.within))

    next : (k : ℕ) → k < P.slots → get_or (fill (get_or o i 0) i (e - i) (cut P.slots i o)) k 0 ≡ get_or (cut P.slots e o) k 0
    next k h =
        let l = M.makes.owners-room in
        let w = get_or o i 0 in
        let c = cut P.slots i o in
        ⊎_elim
        (λ (x : k < e).
        ⊎_elim
        (λ (y : k < i).
        get_d-fill-out w i (e - i) c k (λ u v. omega arith) ∙ cut-before P.slots i o l k y ∙ sym (cut-before P.slots e o l k x))
        (λ (y : i ≤ k).
        get_d-fill-in w i (e - i) c k y (omega arith) (omega (arith, cut-length P.slots i o l)) ∙ sym (O.each k y x)
        ∙ sym (cut-before P.slots e o l k x))
        (lt-or-ge k i))
        (λ (x : e ≤ k).
        get_d-fill-out w i (e - i) c k (λ u v. omega arith) ∙ cut-after P.slots i o l k (omega (arith, O.some)) h
        ∙ sym (cut-after P.slots e o l k x h))
        (lt-or-ge k e)

    pub made_more : (n : ℕ) → n ≡ wrapped (minutes_in P i e) → (D' : Derived) → D' ≡ given P.people P.slots i e n (get_or o i 0) D
        → Made P o D₀ e D'
    unfolding given
    made_more n en D' r =
        let q : D' ≡ given P.people P.slots i e (wrapped (minutes_in P i e)) (get_or o i 0) D =
        r ∙ ap (λ (k : ℕ). given P.people P.slots i e k (get_or o i 0) D) en in
        let c = cut P.slots i o in
        let w = get_or o i 0 in
        let le : i ≤ e = omega (arith, O.some) in
        let E = afresh P c D₀ in
        let next-owners = fill w i (e - i) c in
        let few : wrapped (minutes_in P i e) ≡ minutes_in P i e = small-stretch P S i e le O.within in
        record {
          within = O.within;
          eq =
              ap columns q ∙ given-columns P i e w D E M.eq
              ∙ ap columns (handed-over P S c E (made-step i M.makes) i e nobody w le O.within one-owned (known-nobody P.people)
              one_known (afresh-fit P c D₀ M.fit)
              ∙ afresh-again P c next-owners D₀ S.slots-few M.makes.sets-room M.fit
              ∙ afresh-owners P next-owners (cut P.slots e o) D₀ next);
          totals =
              ap (λ (d : Derived). d.totals) q ∙ ap₂ (λ (x : ℕ) (l : List ℕ). more_totals w x (e - i) l) few M.totals
              ∙ totals-given P o D₀.totals i e w le O.within O.each S.lent.demand-fits S.slots-few M.makes.totals-room;
          makes = M.makes;
          fit = M.fit;
        }

  pub made-end : (i : ℕ) (D : Derived) → P.slots ≤ i → Made P o D₀ i D → D ≡ afresh P o D₀
  unfolding afresh
  made-end i D h M =
      let c = cut P.slots i o in
      let whole : i ≡ P.slots = omega (arith, M.within) in
      let x = afresh-owners P c o D₀ (λ k l. cut-before P.slots i o M.makes.owners-room k (omega arith)) in
      derived-same (ap (λ (d : Derived). d.sets) (M.eq ∙ ap columns x)) (ap (λ (d : Derived). d.minutes) (M.eq ∙ ap columns x))
      (M.totals ∙ ap (λ (n : ℕ). over (total_of (up_to n P) o) 2 D₀.totals) whole)

-- ---- the start: everyone's set and minutes cleared

pub nobody-at : (n k : ℕ) → k < n → get_or (nobodies n) k 0 ≡ nobody
unfolding nobodies
nobody-at n k h = get_or-replicate n k nobody 0 h

pub none-worked : (P : Plan) (o : List ℕ) (p : ℕ) → (p ≡ nobody → ⊥) → ((k : ℕ) → k < P.slots → get_or o k 0 ≡ nobody) → worked P o p ≡ 0
unfolding worked
none-worked P o p n h =
    sum_same P.slots _ (λ _. 0) (λ k l. ap (λ (w : ℕ). portion w p (length_at P k)) (h k l) ∙ portion-other nobody p _ (λ q. n (sym q)))
    ∙ sum-nothing P.slots

module _ (P : Plan) (S : PlanSound P) (o : List ℕ) (s₀ m₀ t₀ s m t : List ℕ) (M : Makes P o (derived s₀ m₀ t₀)) (f : Fit s₀)
    (es : s ≡ sets_from P.people P.slots (nobodies P.slots) s₀) (em : m ≡ over (λ _. 0) P.people m₀)
    (et : t ≡ over (λ _. 0) 2 t₀) where
  cleared-makes : Makes P o (derived s m t)
  cleared-makes =
      record {
        owners-room = M.owners-room;
        sets-room = omega (arith, ap length es, length-sets P.people P.slots (nobodies P.slots) s₀, M.sets-room);
        minutes-room = omega (arith, ap length em, length_over (λ _. 0) P.people m₀, M.minutes-room);
        totals-room = omega (arith, ap length et, length_over (λ _. 0) 2 t₀, M.totals-room);
        known = M.known;
      }

  cleared-fit : Fit s
  cleared-fit = subst Fit (sym es) (sets-fit P.people P.slots (nobodies P.slots) s₀ f)

  -- before the first stretch nobody owns anything
  cleared-sets : s ≡ sets_from P.people P.slots (cut P.slots 0 o) s
  cleared-sets =
      let l = M.owners-room in
      sets_same P.people P.slots (cut P.slots 0 o) s S.slots-few cleared-makes.sets-room cleared-fit
      (λ p k h g.
      ap (λ (x : List ℕ). slot x (16 * p) k) es
      ∙ sets-in P.slots (nobodies P.slots) s₀ S.slots-few P.people M.sets-room p k h g
      ∙ held_same (nobodies P.slots) (cut P.slots 0 o) p k (nobody-at P.slots k g ∙ sym (cut-after P.slots 0 o l k
      zero-le g)))

  cleared-minutes : m ≡ over (worked P (cut P.slots 0 o)) P.people m
  cleared-minutes =
      let l = M.owners-room in
      over-right (worked P (cut P.slots 0 o)) P.people m
      (λ p h.
      ap (λ (x : List ℕ). get_or x p 0) em ∙ get_d_over (λ _. 0) P.people m₀ p h (omega (arith, M.minutes-room))
      ∙ sym (none-worked P (cut P.slots 0 o) p (λ q. omega (arith, S.people-few)) (λ k g. cut-after P.slots 0 o l k zero-le g)))

  cleared-totals : t ≡ over (total_of (up_to 0 P) o) 2 t
  cleared-totals =
      over-right (total_of (up_to 0 P) o) 2 t
      (λ i h.
      ap (λ (x : List ℕ). get_or x i 0) et ∙ get_d_over (λ _. 0) 2 t₀ i h (omega (arith, M.totals-room)) ∙ totals-none P o i h)

  pub made-start : Made P o (derived s m t) 0 (derived s m t)
  unfolding afresh
  made-start =
      record {
        within = zero-le;
        eq = derived-same cleared-sets cleared-minutes refl;
        totals = cleared-totals;
        makes = cleared-makes;
        fit = cleared-fit;
      }

  -- what was cleared is forgotten
  pub cleared-forgotten : afresh P o (derived s m t) ≡ afresh P o (derived s₀ m₀ t₀)
  unfolding afresh
  cleared-forgotten =
      derived-same
      (ap (sets_from P.people P.slots o) es ∙ sets-again P.people P.slots (nobodies P.slots) o s₀ S.slots-few M.sets-room f)
      (ap (over (worked P o) P.people) em ∙ over-again (λ _. 0) (worked P o) P.people m₀)
      (ap (over (total_of P o) 2) et ∙ over-again (λ _. 0) (total_of P o) 2 t₀)

-- ---- the loop that clears the sets

cleared : (p slots : ℕ) (ws s₀ : List ℕ) → p < 32 → ws ≡ sets_from p slots (nobodies slots) s₀
    → put_slots (λ _. 0) (16 * p) 0 slots ws ≡ sets_from (suc p) slots (nobodies slots) s₀
unfolding sets_from
cleared p slots ws s₀ g q =
    puts-same (λ _. 0) (held (nobodies slots) p) (16 * p) 0 slots ws
    (λ k x y. sym (held-not (nobodies slots) p k (λ r. omega (arith, r, nobody-at slots k (omega arith)))))
    ∙ ap (put_slots (held (nobodies slots) p) (16 * p) 0 slots) q

pub clear-one : (people p slots : ℕ) (ws s₀ : List ℕ) → p < people → people ≤ 32 → slots ≤ 1024 → 16 * people ≤ length ws
    → ws ≡ sets_from p slots (nobodies slots) s₀ → cleared_row ws people p slots ≡ sets_from (p + 1) slots (nobodies slots) s₀
unfolding cleared_row
clear-one people p slots ws s₀ h few l room e =
    Rattle.paper.proofs.Rows.worked _ ws (put_slots (λ _. 0) (16 * p) 0 slots ws) (row_ok ws people p slots h few l room)
    ∙ cleared p slots ws s₀ (omega arith) e ∙ sym (ap (λ (n : ℕ). sets_from n slots (nobodies slots) s₀) (add-one p))
