-- The next edge of the merged ranges past a place of the line, and the next cut as the nearest of everybody's. Assumes nothing.
use mathlib.Core.Path.{◌≡◌, refl, sym, ap, ap₂, ◌∙◌}
use mathlib.Core.Bool.{Bool, true, false, ◌&&◌, ◌||◌}
use mathlib.Core.Logic.{⊎_elim}
use mathlib.Core.List.{List}
use Prim.Native.Nat.{ℕ, suc, ◌+◌, ◌-◌, ◌*◌, ◌≤◌, ◌<◌}
use native.Mathlib.Numerals.{add-one}
use native.Mathlib.Omega.{arith}
use borrow.Author.Tests.{ltb-true, ltb-false, lt-ltb, le-ltb, eq-eqb, eqb-true}
use lib.Dec.{ltb, eqb}
use lib.ListN.{length, get_or, take}
use lib.Seq.{get_or-take, length-take-le}
use Rattle.paper.proofs.Count.{some-here, some_one}
use Rattle.paper.specs.Count.{some, FirstWhere}
use Rattle.paper.proofs.Logic.{by-test, lt-or-ge, both, and-true, or_left, same_test, or-either, or-second}
use Rattle.slots.specs.Ranges.{Ranges}
use Rattle.slots.specs.Inside.{person_of, start_of, end_of, opens, closes, RangesSound, MergedFrom, Opening, starts_or_ends, key_cut}
use Rattle.slots.specs.Inside.{NextCut, nearer, HeldMerged, opens_or_closes, is_edge, line_end, opens_from, NextEdge}
use Rattle.slots.proofs.Entries.{any_here, any-one}
use Rattle.slots.proofs.Keys.{start-lt, end_lt}
use Rattle.slots.proofs.MergedLaws.{held-known}
use Rattle.slots.proofs.AvailLaws.{filled, apart, front-here, front-none, held-spaced}

-- ---- the next edge

pub held-merged : (R : Ranges) → RangesSound R → (keys : List ℕ) (n : ℕ) → MergedFrom R keys n → HeldMerged keys n
held-merged R S keys n M =
    record {
      few = omega (arith, M.few, S.few);
      fits = M.fits;
      spaced = held-spaced R S keys n M;
      known = held-known R S keys n M;
    }

pub opens-some : (keys : List ℕ) (n r v : ℕ) → r < n → v ≡ opens (get_or keys r 0) → v ≡ opens_from keys n r
unfolding opens_from
opens-some keys n r v h e = simp (lt-ltb r n h) e

pub opens-past : (keys : List ℕ) (n r : ℕ) → n ≤ r → line_end ≡ opens_from keys n r
unfolding opens_from
opens-past keys n r h = simp (le-ltb r n h)

module _ (keys : List ℕ) (n : ℕ) (H : HeldMerged keys n) where
  -- an edge is some range's
  edge-opens : (k : ℕ) → k < n → is_edge (take n keys) (opens (get_or keys k 0)) ≡ true
  unfolding is_edge opens_or_closes
  edge-opens k h =
      let o = opens (get_or keys k 0) in
      front-here keys n H.fits H.spaced (opens_or_closes o) k h (or_left (eqb o o) _ (eq-eqb o o refl))

  edge-closes : (k : ℕ) → k < n → is_edge (take n keys) (closes (get_or keys k 0)) ≡ true
  unfolding is_edge opens_or_closes
  edge-closes k h =
      let c = closes (get_or keys k 0) in
      front-here keys n H.fits H.spaced (opens_or_closes c) k h (or-second (eqb (opens (get_or keys k 0)) c) _ (eq-eqb c c refl))

  -- and lies before the line's end
  on_line : (k : ℕ) → k < n → (opens (get_or keys k 0) ≤ line_end) × (closes (get_or keys k 0) ≤ line_end)
  unfolding opens closes
  on_line k h =
      let x = get_or keys k 0 in
      (omega (arith, H.known k h, start-lt x), omega (arith, H.known k h, end_lt x))

  no_edge : (q : ℕ) → ((k : ℕ) → k < n → opens (get_or keys k 0) ≡ q → ⊥) → ((k : ℕ) → k < n → closes (get_or keys k 0) ≡ q → ⊥)
      → is_edge (take n keys) q ≡ false
  unfolding is_edge opens_or_closes
  no_edge q f g =
      sym (front-none keys n H.fits H.spaced (opens_or_closes q)
      (λ k h t.
      ⊎_elim (λ u. f k h (eqb-true _ _ u)) (λ u. g k h (eqb-true _ _ u))
      (or-either (eqb (opens (get_or keys k 0)) q) (eqb (closes (get_or keys k 0)) q) t)))

  module _ (place r : ℕ) (O : Opening n (λ k. opens (get_or keys k 0)) place r) where
    -- the last that opens early enough closes past the place
    pub edge-close : (c : ℕ) → 0 < r → c ≡ closes (get_or keys (r - 1) 0) → place < c → NextEdge (take n keys) place c
    edge-close c z e h =
        let apart' = apart keys n H.fits H.spaced in
        let filled' = filled keys n H.fits H.spaced in
        let few : r ≤ n = O.few in
        let last : opens (get_or keys (r - 1) 0) ≤ place = O.by (r - 1) (omega arith) in
        record {
          from = h;
          within = omega (arith, e, (on_line (r - 1) (omega arith)).1);
          here = λ x. ap (is_edge (take n keys)) e ∙ edge-closes (r - 1) (omega arith);
          before = λ q a b. no_edge q
              (λ k i u.
              ⊎_elim (λ (g : k < r). omega (arith, O.by k g)) (λ (g : r ≤ k). omega (arith, apart' (r - 1) k (omega arith) i))
              (lt-or-ge k r))
              (λ k i u.
              ⊎_elim
              (λ (g : k < r - 1). omega (arith, apart' k (r - 1) g (omega arith)))
              (λ (g : r - 1 ≤ k).
              ⊎_elim
              (λ (m : k < r).
              let s : k ≡ r - 1 = omega arith in omega (arith, ap (λ (j : ℕ). closes (get_or keys j 0)) s))
              (λ (m : r ≤ k). omega (arith, apart' (r - 1) k (omega arith) i, filled' k i))
              (lt-or-ge k r))
              (lt-or-ge k (r - 1)));
        }

    -- those that open early enough have all closed by the place
    closed-by : (0 < r → closes (get_or keys (r - 1) 0) ≤ place) → (k : ℕ) → k < r → closes (get_or keys k 0) ≤ place
    closed-by f k h =
        let apart' = apart keys n H.fits H.spaced in
        let few : r ≤ n = O.few in
        ⊎_elim (λ (g : k < r - 1). omega (arith, apart' k (r - 1) g (omega arith), O.by (r - 1) (omega arith)))
        (λ (g : r - 1 ≤ k).
        let s : k ≡ r - 1 = omega arith in omega (arith, ap (λ (j : ℕ). closes (get_or keys j 0)) s, f (omega arith)))
        (lt-or-ge k (r - 1))

    -- and so the next one's opening is the next edge
    pub edge-open : (v : ℕ) → (0 < r → closes (get_or keys (r - 1) 0) ≤ place) → place < line_end → v ≡ opens_from keys n r
        → NextEdge (take n keys) place v
    unfolding opens_from
    edge-open v f p e =
        let apart' = apart keys n H.fits H.spaced in
        let filled' = filled keys n H.fits H.spaced in
        by-test (ltb r n) _
        (λ t.
        let h : r < n = ltb-true r n t in
        let s : v ≡ opens (get_or keys r 0) = e ∙ simp t in
        record {
          from = omega (arith, s, O.after r (omega arith) h);
          within = omega (arith, s, (on_line r h).0);
          here = λ x. ap (is_edge (take n keys)) s ∙ edge-opens r h;
          before = λ q a b. no_edge q
              (λ k i u.
              ⊎_elim (λ (g : k < r). omega (arith, O.by k g))
              (λ (g : r ≤ k).
              ⊎_elim (λ (m : r < k). omega (arith, s, apart' r k m i, filled' r h))
              (λ (m : k ≤ r). let w : k ≡ r = omega arith in omega (arith, s, ap (λ (j : ℕ). opens (get_or keys j 0)) w))
              (lt-or-ge r k))
              (lt-or-ge k r))
              (λ k i u.
              ⊎_elim (λ (g : k < r). omega (arith, closed-by f k g))
              (λ (g : r ≤ k).
              ⊎_elim (λ (m : r < k). omega (arith, s, apart' r k m i, filled' r h, filled' k i))
              (λ (m : k ≤ r). let w : k ≡ r = omega arith in omega (arith, s, filled' r h, ap (λ (j : ℕ). closes (get_or keys j 0)) w))
              (lt-or-ge r k))
              (lt-or-ge k r));
        })
        (λ t.
        let h : n ≤ r = ltb-false r n t in
        let s : v ≡ line_end = e ∙ simp t in
        record {
          from = omega (arith, s);
          within = omega (arith, s);
          here = λ x. absurd (omega (arith, s));
          before = λ q a b. no_edge q (λ k i u. omega (arith, O.by k (omega arith))) (λ k i u. omega (arith, closed-by f k (omega arith)));
        })

-- ---- the next cut, person by person

-- somebody below p has an edge at that minute
abbrev pub cut_below : List ℕ → ℕ → ℕ → Bool
cut_below l p t = some p (λ q. is_edge l (q * 268435456 + t))

module _ (l : List ℕ) (after end : ℕ) where
  pub below-begin : after < end → FirstWhere true (cut_below l 0) (suc after) end end
  unfolding some
  below-begin h = record { from = h; within = omega arith; here = λ g. absurd (omega arith); before = λ t a b. refl }

  below-turn : (p b e v : ℕ) → p < 32 → end ≤ 100000000 → FirstWhere true (cut_below l p) (suc after) end b
      → NextEdge l (p * 268435456 + after) e → v ≡ nearer after b (e - p * 268435456)
      → FirstWhere true (cut_below l (suc p)) (suc after) end v
  unfolding nearer some
  below-turn p b e v few capped N E d =
      let c = e - p * 268435456 in
      let m : p * 268435456 + c ≡ e = omega (arith, E.from) in
      let x : after < c = omega (arith, E.from) in
      by-test (ltb after c && ltb c b) _
      (λ t.
      let y = ltb-true c b (both (ltb after c) (ltb c b) t).1 in
      let q : v ≡ c = d ∙ simp t in
      rw q
      (record {
        from = x;
        within = omega (arith, N.within);
        here = λ h. or-second (cut_below l p c) _ (ap (is_edge l) m ∙ E.here (omega (arith, N.within)));
        before = λ s a g. ap₂ ◌||◌ (N.before s a (omega arith)) (E.before (p * 268435456 + s) (omega arith) (omega arith));
      }))
      (λ f.
      let q : v ≡ b = d ∙ simp f in
      let y : b ≤ c =
      ⊎_elim (λ (g : c < b). absurd (mathlib.Core.Bool.true≢false (sym (and-true _ _ (lt-ltb after c x) (lt-ltb c b g)) ∙ f))) (λ g. g)
      (lt-or-ge c b) in
      rw q
      (record {
        from = N.from;
        within = N.within;
        here = λ h. or_left (cut_below l p b) _ (N.here h);
        before = λ s a g. ap₂ ◌||◌ (N.before s a g) (E.before (p * 268435456 + s) (omega arith) (omega arith));
      }))

  pub below_more : (p b e v : ℕ) → p < 32 → end ≤ 100000000 → FirstWhere true (cut_below l p) (suc after) end b
      → NextEdge l (p * 268435456 + after) e → v ≡ nearer after b (e - p * 268435456)
      → FirstWhere true (cut_below l (p + 1)) (suc after) end v
  below_more p b e v few capped N E d = rw (add-one p) (below-turn p b e v few capped N E d)

  module _ (known : (k : ℕ) → k < length l → person_of (get_or l k 0) < 32) where
    own-edge : (x t : ℕ) → starts_or_ends t x ≡ true → opens_or_closes (person_of x * 268435456 + t) x ≡ true
    unfolding starts_or_ends opens_or_closes opens closes
    own-edge x t e =
        ⊎_elim (λ u. or_left _ _ (eq-eqb _ _ (ap (λ (s : ℕ). person_of x * 268435456 + s) (eqb-true (start_of x) t u))))
        (λ u. or-second (eqb (person_of x * 268435456 + start_of x) (person_of x * 268435456 + t)) _
        (eq-eqb _ _ (ap (λ (s : ℕ). person_of x * 268435456 + s) (eqb-true (end_of x) t u))))
        (or-either (eqb (start_of x) t) (eqb (end_of x) t) e)

    edge-own : (x q t : ℕ) → t < 268435456 → opens_or_closes (q * 268435456 + t) x ≡ true → starts_or_ends t x ≡ true
    unfolding starts_or_ends opens_or_closes opens closes
    edge-own x q t h e =
        ⊎_elim
        (λ u.
        let w = eqb-true (person_of x * 268435456 + start_of x) (q * 268435456 + t) u in
        or_left _ _ (eq-eqb (start_of x) t (omega (arith, w, start-lt x))))
        (λ u.
        let w = eqb-true (person_of x * 268435456 + end_of x) (q * 268435456 + t) u in
        or-second (eqb (start_of x) t) _ (eq-eqb (end_of x) t (omega (arith, w, end_lt x))))
        (or-either (eqb (person_of x * 268435456 + start_of x) (q * 268435456 + t))
        (eqb (person_of x * 268435456 + end_of x) (q * 268435456 + t)) e)

    all-cuts : (t : ℕ) → t < 268435456 → cut_below l 32 t ≡ key_cut l t
    unfolding key_cut is_edge
    all-cuts t h =
        same_test (cut_below l 32 t) (key_cut l t)
        (λ e. some_one 32 (λ q. is_edge l (q * 268435456 + t)) _ e
        (λ q g u. any-one (opens_or_closes (q * 268435456 + t)) l _ u
        (λ k i w. any_here (starts_or_ends t) l k i (edge-own (get_or l k 0) q t h w))))
        (λ e. any-one (starts_or_ends t) l _ e
        (λ k i w. some-here 32 (person_of (get_or l k 0)) (λ q. is_edge l (q * 268435456 + t)) (known k i)
        (any_here (opens_or_closes (person_of (get_or l k 0) * 268435456 + t)) l k i (own-edge (get_or l k 0) t w))))

    pub below_end : (b : ℕ) → end ≤ 100000000 → FirstWhere true (cut_below l 32) (suc after) end b → NextCut (key_cut l) after end b
    below_end b capped N =
        record {
          from = N.from;
          within = N.within;
          here = λ h. sym (all-cuts b (omega arith)) ∙ N.here h;
          before = λ t a h. sym (all-cuts t (omega (arith, N.within))) ∙ N.before t a h;
        }

pub below-done : (keys : List ℕ) (n after end p b : ℕ) → HeldMerged keys n → end ≤ 100000000 → p ≤ 32 → 32 ≤ p
    → FirstWhere true (cut_below (take n keys) p) (suc after) end b → NextCut (key_cut (take n keys)) after end b
below-done keys n after end p b H capped g h N =
    let q : p ≡ 32 = omega arith in
    below_end (take n keys) after end
    (λ k i.
    let m : k < n = omega (arith, length-take-le n keys H.fits) in
    omega (arith, ap person_of (get_or-take n keys k 0 m), H.known k m))
    b capped (rw q at N)
