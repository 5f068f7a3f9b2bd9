-- Who takes the remainder: `taker_of` gives the largest unpinned target, the last of equals, or person 0; and nobody else fits.
-- Assumes nothing.
use Rattle.std.proofs.Common.{◌≡◌, ℕ, zero, suc, ◌+◌, ◌<◌, ◌≤◌, true, false, not, ◌&&◌, leb, ◌⊎◌, List, [], ◌∷◌, ◌++◌, map, length, get_or, set, ℤ, pos, ◌+ℤ◌, ◌-ℤ◌, sym, refl, ap, ◌∙◌, subst, inl, inr, ⊎_elim, true≢false, append-nil, le_refl, le_of_suc-le-suc, not-suc-le-zero, le_of_lt, le_antisymm, arith, length-append, leb-false, leb-true}
use mathlib.Core.List.{foldl}
use borrow.Author.Tests.{not-true}
use lib.ListN.{get_or-append}
use lib.Seq.{append_snoc, get_or-append_seam}
use Rattle.paper.proofs.Logic.{by-test, by_cond, both, lt-or-ge}
use Rattle.targets.specs.declared.Standing.{Standing}
use Rattle.targets.specs.declared.Best.{Best}
use Rattle.targets.specs.Figures.{pad}
use Rattle.targets.specs.Remainder.{total_of, better, taker_of, Largest, AllPinned, Takes, target_of, adjusted}

-- who comes takes the place if they are unpinned and have as much; else it stays
by-better : (b : Best) (l : Standing) (X : Best → Type 0)
    → (l.pinned ≡ false → b.top ≤ l.target → X (record { at = b.next; top = l.target; next = b.next + 1 }))
    → ((l.pinned ≡ false → l.target < b.top) → X (record { at = b.at; top = b.top; next = b.next + 1 }))
    → X (better b l)
by-better b l X takes stays =
    by_cond (not l.pinned && leb b.top l.target)
    (record { at = b.next; top = l.target; next = b.next + 1 }) (record { at = b.at; top = b.top; next = b.next + 1 }) X
    (λ t.
    let x = both (not l.pinned) (leb b.top l.target) t in
    takes (not-true l.pinned x.0) (leb-true b.top l.target x.1))
    (λ f. stays (λ p. leb-false b.top l.target (rw p at f)))

-- the place is a person's
abbrev In : ℕ → ℕ → Best → Type 0
In n i b = (b.at < n) × (b.next ≡ i)

best-from : (b : Best) (ls : List Standing) (n i : ℕ) → In n i b → i + length ls ≤ n → (foldl better b ls).at < n
best-from b [] n i h k = h.0
best-from b (l ∷ ls) n i h k =
    best-from (better b l) ls n (i + 1)
    (by-better b l (In n (i + 1)) (λ p t. (omega arith, omega arith)) (λ f. (h.0, omega arith))) (omega arith)

pub taker-here : (ls : List Standing) → 0 < length ls → taker_of ls < length ls
taker-here ls h = best-from (record { at = 0; top = 0; next = 0 }) ls (length ls) 0 (h, refl) (omega arith)

-- ---- the same, said of every person

-- what holds of each standing of pre, and of l, holds of each standing of both
each_snoc : (P : ℕ → Standing → Type 0) (pre : List Standing) (l : Standing)
    → ((j : ℕ) → j < length pre → P j (get_or pre j pad)) → P (length pre) l
    → (j : ℕ) → j < length (pre ++ (l ∷ [])) → P j (get_or (pre ++ (l ∷ [])) j pad)
each_snoc P pre l f h j b =
    ⊎_elim
    (λ (c : j < length pre). subst (P j) (sym (get_or-append pre (l ∷ []) pad j c)) (f j c))
    (λ (c : length pre ≤ j).
    let q : length pre ≡ j = omega (arith, length-append pre (l ∷ [])) in
    subst (λ (i : ℕ). P i (get_or (pre ++ (l ∷ [])) i pad)) q
    (subst (P (length pre)) (sym (get_or-append_seam pre l [] pad)) h))
    (lt-or-ge j (length pre))

-- a standing that is pinned, or has less, leaves the largest as it is
largest-kept : (pre : List Standing) (l : Standing) (k : ℕ) → (l.pinned ≡ false → l.target < (get_or pre k pad).target)
    → Largest pre k → Largest (pre ++ (l ∷ [])) k
largest-kept pre l k s g =
    let e : get_or (pre ++ (l ∷ [])) k pad ≡ get_or pre k pad = get_or-append pre (l ∷ []) pad k g.here in
    let t : (get_or (pre ++ (l ∷ [])) k pad).target ≡ (get_or pre k pad).target = ap (λ (x : Standing). x.target) e in
    record {
      here = omega (arith, g.here, length-append pre (l ∷ []));
      free = ap (λ (x : Standing). x.pinned) e ∙ g.free;
      most = λ j h u.
          let r = each_snoc (λ (j : ℕ) (x : Standing). x.pinned ≡ false → x.target ≤ (get_or pre k pad).target) pre l
          g.most (λ v. le_of_lt (s v)) j h u in
          omega (arith, t, r);
      last = λ j c h u.
          let r = each_snoc (λ (j : ℕ) (x : Standing). k < j → x.pinned ≡ false → x.target < (get_or pre k pad).target) pre l
          (λ i b d v. g.last i d b v) (λ d v. s v) j h c u in
          omega (arith, t, r);
    }

-- an unpinned standing with as much as any before it is the largest
largest-new : (pre : List Standing) (l : Standing) → l.pinned ≡ false
    → ((j : ℕ) → j < length pre → (get_or pre j pad).pinned ≡ false → (get_or pre j pad).target ≤ l.target)
    → Largest (pre ++ (l ∷ [])) (length pre)
largest-new pre l p f =
    let e : get_or (pre ++ (l ∷ [])) (length pre) pad ≡ l = get_or-append_seam pre l [] pad in
    let t : (get_or (pre ++ (l ∷ [])) (length pre) pad).target ≡ l.target = ap (λ (x : Standing). x.target) e in
    record {
      here = omega (arith, length-append pre (l ∷ []));
      free = ap (λ (x : Standing). x.pinned) e ∙ p;
      most = λ j h u.
          let r = each_snoc (λ (j : ℕ) (x : Standing). x.pinned ≡ false → x.target ≤ l.target) pre l f
          (λ v. le_refl l.target) j h u in
          omega (arith, t, r);
      last = λ j c h u. absurd (omega (arith, c, h, length-append pre (l ∷ [])));
    }

-- what the fold knows after the standings of pre
abbrev Known : List Standing → Best → Type 0
Known pre b = (Largest pre b.at × ((get_or pre b.at pad).target ≡ b.top)) ⊎ (AllPinned pre × (b.at ≡ 0) × (b.top ≡ 0))

known_kept : (pre : List Standing) (l : Standing) (b : Best) → (l.pinned ≡ false → l.target < b.top) → Known pre b
    → Known (pre ++ (l ∷ [])) (record { at = b.at; top = b.top; next = b.next + 1 })
known_kept pre l b s (inl g) =
    let e = get_or-append pre (l ∷ []) pad b.at g.0.here in
    inl (largest-kept pre l b.at (λ v. omega (arith, s v, g.1)) g.0, ap (λ (x : Standing). x.target) e ∙ g.1)
known_kept pre l b s (inr g) =
    let p = by-test l.pinned (l.pinned ≡ true) (λ t. t) (λ f. absurd (omega (arith, s f, g.2))) in
    inr (each_snoc (λ (j : ℕ) (x : Standing). x.pinned ≡ true) pre l g.0 p, g.1, g.2)

known-new : (pre : List Standing) (l : Standing) (b : Best) → l.pinned ≡ false → b.top ≤ l.target → b.next ≡ length pre → Known pre b
    → Known (pre ++ (l ∷ [])) (record { at = b.next; top = l.target; next = b.next + 1 })
known-new pre l b p h n k =
    let e = ap (λ (x : Standing). x.target) (get_or-append_seam pre l [] pad) in
    inl (
      subst (λ (i : ℕ). Largest (pre ++ (l ∷ [])) i) (sym n) (largest-new pre l p (most k)),
      ap (λ (i : ℕ). (get_or (pre ++ (l ∷ [])) i pad).target) n ∙ e,
    )
  where
    most : Known pre b → (j : ℕ) → j < length pre → (get_or pre j pad).pinned ≡ false → (get_or pre j pad).target ≤ l.target
    most (inl g) j c u = omega (arith, g.0.most j c u, g.1)
    most (inr g) j c u = absurd (true≢false (sym (g.0 j c) ∙ u))

known_more : (pre : List Standing) (l : Standing) (b : Best) → b.next ≡ length pre → Known pre b → Known (pre ++ (l ∷ [])) (better b l)
known_more pre l b n k =
    by-better b l (Known (pre ++ (l ∷ []))) (λ p t. known-new pre l b p t n k) (λ f. known_kept pre l b f k)

next_more : (b : Best) (l : Standing) → (better b l).next ≡ b.next + 1
next_more b l = by-better b l (λ (x : Best). x.next ≡ b.next + 1) (λ p t. refl) (λ f. refl)

known-all : (ls pre : List Standing) (b : Best) → b.next ≡ length pre → Known pre b → Known (pre ++ ls) (foldl better b ls)
known-all [] pre b n k = subst (λ (xs : List Standing). Known xs b) (sym (append-nil pre)) k
known-all (l ∷ ls) pre b n k =
    subst (λ (xs : List Standing). Known xs (foldl better (better b l) ls)) (append_snoc pre l ls)
    (known-all ls (pre ++ (l ∷ [])) (better b l) (next_more b l ∙ omega (arith, n, length-append pre (l ∷ []))) (known_more pre l b n k))

-- who takes the remainder is who the rule says
pub taker-takes : (ls : List Standing) → Takes ls (taker_of ls)
taker-takes ls =
    ⊎_elim (λ k. inl k.0) (λ k. inr (k.0, k.1))
    (known-all ls [] (record { at = 0; top = 0; next = 0 }) refl (inr (λ j h. absurd (not-suc-le-zero h), refl, refl)))

-- and nobody else
pub takes_one : (ls : List Standing) (j k : ℕ) → Takes ls j → Takes ls k → j ≡ k
takes_one ls j k (inl a) (inl b) = le_antisymm (upto k j b a) (upto j k a b)
  where
    upto : (x y : ℕ) → Largest ls x → Largest ls y → y ≤ x
    upto x y g h =
        ⊎_elim (λ (c : x < y). absurd (omega (arith, g.last y c h.here h.free, h.most x g.here g.free))) (λ (c : y ≤ x). c)
        (lt-or-ge x y)
takes_one ls j k (inl a) (inr b) = absurd (true≢false (sym (b.0 j a.here) ∙ a.free))
takes_one ls j k (inr a) (inl b) = absurd (true≢false (sym (a.0 k b.here) ∙ b.free))
takes_one ls j k (inr a) (inr b) = a.1 ∙ sym b.1

-- ---- the targets, by what the calls give

pub same-standing : (ls : List Standing) (i : ℕ) (d e : Standing) → i < length ls → get_or ls i d ≡ get_or ls i e
same-standing [] i d e h = absurd (not-suc-le-zero h)
same-standing (l ∷ ls) zero d e h = refl
same-standing (l ∷ ls) (suc i) d e h = same-standing ls i d e (le_of_suc-le-suc h)

pub adjusted-by : (ls : List Standing) (d : ℕ) {out : List ℤ} {z : ℤ} {k t total : ℕ}
    → out ≡ map target_of ls → k ≡ taker_of ls → t ≡ (get_or ls k pad).target → total ≡ total_of ls
    → z ≡ pos t +ℤ (pos d -ℤ pos total) → set out k z ≡ adjusted d ls
unfolding adjusted
adjusted-by ls d o b t s r = rw (r, t, s, o, b)
