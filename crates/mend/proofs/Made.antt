-- What is worked out beside what was found, and written where that stood. Assumes nothing.
use mathlib.Core.Path.{◌≡◌, refl, sym, ap, ap₂, ◌∙◌}
use mathlib.Core.Logic.{⊎_elim}
use mathlib.Core.List.{List, [], ◌++◌}
use Prim.Native.Nat.{ℕ, zero, suc, ◌+◌, ◌-◌, ◌*◌, ◌/◌, ◌%◌, ◌≤◌, ◌<◌}
use native.Mathlib.Omega.{arith}
use borrow.Author.Tests.{eqb-true, eqb-false, le-leb}
use lib.Dec.{eqb}
use lib.ListN.{length, get_or, take, drop, set, length-take, length-drop, length-append, get_or-append}
use lib.Seq.{ext_get_or, get_or-set_same, get_or-set_other, get_or-take, get_or-drop, get_or-append_right}
use Rattle.paper.specs.Limits.{number_of}
use Rattle.paper.proofs.Logic.{by-test, lt-or-ge}
use Rattle.paper.proofs.Count.{each_all, length_over, get_d_over, get_d-over-out}
use Rattle.paper.proofs.Rows.{all_pass, worked}
use Rattle.slotset.specs.Slots.{put_slot, put_slots, with_bit}
use Rattle.slotset.proofs.Puts.{length-puts}
use Rattle.owners.specs.Derived.{Plan, Derived, derived, held, sets_from, total_of, afresh}
use Rattle.owners.specs.Derived as figures
use Rattle.owners.proofs.Sets.{length-sets}
use Rattle.owners.proofs.Steps.{derived-same}
use Rattle.owners.proofs.Made.{afresh-owners}
use Rattle.owners.specs.Entries.{lent_row, placeless, outcome, Ended, from_slots_row, from_slots}
use Rattle.owners.specs.Recount.{known_at, available_at}
use Rattle.mend.specs.Mended.{barred_cleared, uneven_cleared, mended}
use Rattle.mend.specs.Repairs.{Rota, rota}
use Rattle.mend.specs.Inside.{copied, Mendable, NewRoom, WorkedOut}
use Rattle.mend.proofs.Kept.{mended-length, mended-known, mended-available, mended-same}

-- ---- columns copied

module _ (from to₀ : List ℕ) where
  pub copied-length : (n : ℕ) → length (copied n from to₀) ≡ length to₀
  unfolding copied
  copied-length n = length_over (λ k. get_or from k 0) n to₀

  pub copied_at : (n k : ℕ) → k < n → n ≤ length to₀ → get_or (copied n from to₀) k 0 ≡ get_or from k 0
  unfolding copied
  copied_at n k h room = get_d_over (λ j. get_or from j 0) n to₀ k h (omega arith)

  pub copied-past : (n k : ℕ) → n ≤ k → get_or (copied n from to₀) k 0 ≡ get_or to₀ k 0
  unfolding copied
  copied-past n k h = get_d-over-out (λ j. get_or from j 0) n to₀ k h

  -- what has these entries, and else those of to₀, is the copy
  pub copied_is : (n : ℕ) (l : List ℕ) → length l ≡ length to₀ → n ≤ length to₀ → ((k : ℕ) → k < n → get_or from k 0 ≡ get_or l k 0)
      → ((k : ℕ) → n ≤ k → get_or l k 0 ≡ get_or to₀ k 0) → copied n from to₀ ≡ l
  copied_is n l long room inner outer =
      ext_get_or 0 (copied n from to₀) l (copied-length n ∙ sym long)
      (λ k h.
      ⊎_elim (λ (g : k < n). copied_at n k g room ∙ inner k g) (λ (g : n ≤ k). copied-past n k g ∙ sym (outer k g)) (lt-or-ge k n))

  -- its front written over by that of another
  pub copied-front : (n : ℕ) (front : List ℕ) → n ≤ length from → n ≤ length to₀ → front ≡ take n from
      → front ++ drop n to₀ ≡ copied n from to₀
  copied-front n front inside room e =
      let l : length front ≡ n = omega (arith, ap length e, length-take n from) in
      sym (copied_is n (front ++ drop n to₀) (omega (arith, length-append front (drop n to₀), length-drop n to₀)) room
      (λ k h. sym (get_or-append front (drop n to₀) 0 k (omega arith) ∙ ap (λ (x : List ℕ). get_or x k 0) e ∙ get_or-take n from k 0 h))
      (λ k h.
      let q : n + (k - length front) ≡ k = omega arith in
      get_or-append_right front (drop n to₀) k 0 (omega arith) ∙ get_or-drop n to₀ (k - length front) 0
      ∙ ap (λ (i : ℕ). get_or to₀ i 0) q))

-- two rotas with the same columns
pub rota-same : {o o' s s' m m' t t' : List ℕ} → o ≡ o' → s ≡ s' → m ≡ m' → t ≡ t'
    → ◌≡◌ {A = Rota} (rota o (derived s m t)) (rota o' (derived s' m' t'))
rota-same eo es em et = ap₂ {C = Rota} rota eo (derived-same es em et)

-- ---- words of the sets, one by one

-- a slot put in words that agree below m leaves them so
put-alike : (b i v m : ℕ) (ws vs : List ℕ) → m ≤ length ws → m ≤ length vs → ((j : ℕ) → j < m → get_or ws j 0 ≡ get_or vs j 0) → (j : ℕ)
    → j < m → get_or (put_slot b i v ws) j 0 ≡ get_or (put_slot b i v vs) j 0
unfolding put_slot
put-alike b i v m ws vs rw' rv same j h =
    let at = b + i / 64 in
    by-test (eqb j at) _
    (λ t.
    let q = eqb-true j at t in
    let x = with_bit v (get_or ws at 0) (i % 64) in
    let y = with_bit v (get_or vs at 0) (i % 64) in
    ap (λ (k : ℕ). get_or (set ws at x) k 0) q ∙ get_or-set_same ws at x 0 (omega arith)
    ∙ ap (λ (w : ℕ). with_bit v w (i % 64)) (same at (omega arith)) ∙ sym (get_or-set_same vs at y 0 (omega arith))
    ∙ ap (λ (k : ℕ). get_or (set vs at y) k 0) (sym q))
    (λ f.
    let n = eqb-false j at f in
    get_or-set_other ws at j _ 0 n ∙ same j h ∙ sym (get_or-set_other vs at j _ 0 n))

puts-alike : (g : ℕ → ℕ) (b from n m : ℕ) (ws vs : List ℕ) → m ≤ length ws → m ≤ length vs
    → ((j : ℕ) → j < m → get_or ws j 0 ≡ get_or vs j 0) → (j : ℕ) → j < m
    → get_or (put_slots g b from n ws) j 0 ≡ get_or (put_slots g b from n vs) j 0
unfolding put_slots
puts-alike g b from zero m ws vs rw' rv same j h = same j h
puts-alike g b from (suc n) m ws vs rw' rv same j h =
    put-alike b (from + n) (g (from + n)) m (put_slots g b from n ws) (put_slots g b from n vs)
    (omega (arith, length-puts g b from n ws)) (omega (arith, length-puts g b from n vs))
    (puts-alike g b from n m ws vs rw' rv same) j h

pub sets-alike : (n slots : ℕ) (o : List ℕ) (m : ℕ) (ws vs : List ℕ) → m ≤ length ws → m ≤ length vs
    → ((j : ℕ) → j < m → get_or ws j 0 ≡ get_or vs j 0) → (j : ℕ) → j < m
    → get_or (sets_from n slots o ws) j 0 ≡ get_or (sets_from n slots o vs) j 0
unfolding sets_from
sets-alike zero slots o m ws vs rw' rv same j h = same j h
sets-alike (suc n) slots o m ws vs rw' rv same j h =
    puts-alike (held o n) (16 * n) 0 slots m (sets_from n slots o ws) (sets_from n slots o vs)
    (omega (arith, length-sets n slots o ws)) (omega (arith, length-sets n slots o vs))
    (sets-alike n slots o m ws vs rw' rv same) j h

-- and words past the last person's set stay
puts-past : (g : ℕ → ℕ) (b n : ℕ) (ws : List ℕ) → n ≤ 1024 → (j : ℕ) → b + 16 ≤ j → get_or (put_slots g b 0 n ws) j 0 ≡ get_or ws j 0
unfolding put_slots put_slot
puts-past g b zero ws few j h = refl
puts-past g b (suc n) ws few j h =
    get_or-set_other (put_slots g b 0 n ws) (b + (0 + n) / 64) j _ 0 (λ q. omega arith) ∙ puts-past g b n ws (omega arith) j h

pub sets-past : (n slots : ℕ) (o ws : List ℕ) → slots ≤ 1024 → (j : ℕ) → 16 * n ≤ j → get_or (sets_from n slots o ws) j 0 ≡ get_or ws j 0
unfolding sets_from
sets-past zero slots o ws few j h = refl
sets-past (suc n) slots o ws few j h =
    puts-past (held o n) (16 * n) slots (sets_from n slots o ws) few j (omega arith) ∙ sets-past n slots o ws few j (omega arith)

-- ---- worked out

module _ (P : Plan) (avail : List ℕ) (units : ℕ) (begins o s : List ℕ) (M : Mendable P avail units begins o s) (o₀ s₀ m₀ t₀ : List ℕ)
    (N : NewRoom P.people P.slots o₀ s₀ m₀ t₀) where
  module _ (o₁ o₂ o₃ : List ℕ) (e₁ : o₁ ≡ copied P.slots o o₀) (e₂ : o₂ ≡ barred_cleared P.people P.slots avail o₁)
      (e₃ : o₃ ≡ uneven_cleared P.slots units begins o₂ units) where
    steps : o₃ ≡ mended P avail units begins o₁
    unfolding mended
    steps = e₃ ∙ ap (λ (l : List ℕ). uneven_cleared P.slots units begins l units) e₂

    first-room : P.slots ≤ length o₁
    first-room = omega (arith, ap length e₁, copied-length o o₀ P.slots, N.owners)

    third-room : P.slots ≤ length o₃
    third-room = omega (arith, ap length steps, mended-length P avail units begins o₁, first-room)

    owners-are : (k : ℕ) → k < P.slots → get_or o₃ k 0 ≡ get_or (mended P avail units begins o) k 0
    owners-are k h =
        ap (λ (l : List ℕ). get_or l k 0) steps
        ∙ mended-same P avail units begins o₁ o M.units-ok first-room M.owners-room
        (λ j g. ap (λ (l : List ℕ). get_or l j 0) e₁ ∙ copied_at o o₀ P.slots j g N.owners) k h

    module _ (s₁ : List ℕ) (es : s₁ ≡ copied (16 * P.people) s s₀) where
      abbrev before : Derived
      before = derived s₁ m₀ t₀

      copy-room : 16 * P.people ≤ length s₁
      copy-room = omega (arith, ap length es, copied-length s s₀ (16 * P.people), N.sets)

      passes : number_of (from_slots_row P avail o₃ before) ≡ 0
      unfolding from_slots_row lent_row known_at available_at
      passes =
          let known = each_all P.slots (known_at P.people o₃)
          (λ k h. ap (λ (l : List ℕ). known_at P.people l k) steps ∙ mended-known P avail units begins o₁ M.units-ok first-room k
          h) in
          let able = each_all P.slots (available_at avail o₃)
          (λ k h. ap (λ (l : List ℕ). available_at avail l k) steps ∙ mended-available P avail units begins o₁ M.units-ok first-room
          k h) in
          all_pass (from_slots_row P avail o₃ before) (
            M.people,
            (
              M.count,
              (
                refl,
                (
                  M.room,
                  (
                    le-leb _ _ M.avail-room,
                    (
                      le-leb _ _ third-room,
                      (
                        le-leb _ _ copy-room,
                        (
                          le-leb _ _ N.minutes,
                          (le-leb _ _ N.totals, (refl, (M.lent, (known, (able, tt))))),
                        ),
                      ),
                    ),
                  ),
                ),
              ),
            ),
          )

      module _ (r : ℕ) (s' m' t' : List ℕ) (E : Ended (from_slots P avail o₃ before) (placeless r) o₃ (derived s' m' t') []) where
        made : derived s' m' t' ≡ afresh P o₃ before
        unfolding from_slots outcome
        made = E.derived ∙ worked (number_of (from_slots_row P avail o₃ before)) before (afresh P o₃ before) passes

        -- owners that agree below the slot count make the same
        made-from : derived s' m' t' ≡ afresh P (mended P avail units begins o) before
        made-from = made ∙ afresh-owners P o₃ (mended P avail units begins o) before owners-are

        pub worked-out : WorkedOut P avail units begins o s o₃ s' m' t'
        unfolding afresh
        worked-out =
            let new = mended P avail units begins o in
            record {
              owners = owners-are;
              sets = λ j h.
                  ap (λ (d : Derived). get_or d.sets j 0) made-from
                  ∙ sets-alike P.people P.slots new (16 * P.people) s₁ s copy-room M.sets-room
                  (λ i g. ap (λ (l : List ℕ). get_or l i 0) es ∙ copied_at s s₀ (16 * P.people) i g N.sets) j h;
              minutes = λ p h.
                  ap (λ (d : Derived). get_or d.minutes p 0) made-from
                  ∙ get_d_over (figures.worked P new) P.people m₀ p h (omega (arith, N.minutes));
              totals = λ i h.
                  ap (λ (d : Derived). get_or d.totals i 0) made-from ∙ get_d_over (total_of P new) 2 t₀ i h (omega (arith, N.totals));
            }
