-- The list of repairs tells exactly what differs; applied it gives the new rota, and undone the one that was found. Assumes nothing.
use mathlib.Core.Path.{◌≡◌, refl, sym, ap, ap₂, subst, ◌∙◌}
use mathlib.Core.Logic.{inl, inr, ⊎_elim}
use mathlib.Core.Bool.{Bool, true, false, not}
use mathlib.Core.List.{List, [], ◌∷◌, ◌++◌}
use Prim.Native.Nat.{ℕ, zero, suc, ◌≤◌, ◌<◌}
use native.Mathlib.Numerals.{add-one}
use native.Mathlib.Omega.{arith}
use borrow.Author.Tests.{eq-eqb, eqb-true}
use lib.Dec.{eqb}
use lib.ListN.{length, get_or, set}
use lib.Seq.{ext_get_or, set-get_or}
use Rattle.paper.specs.Count.{over}
use Rattle.paper.proofs.Logic.{by-test, below_suc, lt-or-ge}
use Rattle.paper.proofs.Count.{over_none, over-more, length_over, get_d_over, get_d-over-out}
use Rattle.mend.specs.Repairs.{Rota, column, entries, flag_of, Repair, differs_at, repair_at, repairs_of, repairs_in, repairs}
use Rattle.mend.specs.Repairs.{Says, Before, Each, Some, Rises, Tells, with_column, put, carried, applied, undone}
use Rattle.mend.proofs.ListLaws.{differs-no, differs-yes, repairs-none, repairs-in, repairs-out}

-- ---- lists of repairs, one by one

each_append : (X : Repair → Type 0) (rs qs : List Repair) → Each X rs → Each X qs → Each X (rs ++ qs)
each_append X [] qs a b = b
each_append X (r ∷ rs) qs a b = (a.0, each_append X rs qs a.1 b)

each-join : (qs ps rs : List Repair) → Each (λ r. Each (Before r) qs) rs → Each (λ r. Each (Before r) ps) rs
    → Each (λ r. Each (Before r) (qs ++ ps)) rs
each-join qs ps [] a b = tt
each-join qs ps (r ∷ rs) a b = (each_append (Before r) qs ps a.0 b.0, each-join qs ps rs a.1 b.1)

some_left : (X : Repair → Type 0) (rs qs : List Repair) → Some X rs → Some X (rs ++ qs)
some_left X [] qs a = absurd a
some_left X (r ∷ rs) qs a = ⊎_elim (λ x. inl x) (λ y. inr (some_left X rs qs y)) a

some_right : (X : Repair → Type 0) (rs qs : List Repair) → Some X qs → Some X (rs ++ qs)
some_right X [] qs a = a
some_right X (r ∷ rs) qs a = inr (some_right X rs qs a)

rises-append : (rs qs : List Repair) → Rises rs → Rises qs → Each (λ r. Each (Before r) qs) rs → Rises (rs ++ qs)
rises-append [] qs a b x = b
rises-append (r ∷ rs) qs a b x = (each_append (Before r) rs qs a.0 x.0, rises-append rs qs a.1 b x.1)

-- ---- those of one column

differ-other : (old new : List ℕ) (k : ℕ) → differs_at old new k ≡ true → get_or old k 0 ≡ get_or new k 0 → ⊥
differ-other old new k t e = mathlib.Core.Bool.true≢false (sym t ∙ differs-no old new k _ _ refl refl e)

alike : (old new : List ℕ) (k : ℕ) → differs_at old new k ≡ false → get_or old k 0 ≡ get_or new k 0
alike old new k f =
    by-test (eqb (get_or old k 0) (get_or new k 0)) _ (λ t. eqb-true _ _ t)
    (λ n.
    absurd (mathlib.Core.Bool.true≢false
    (sym (differs-yes old new k _ _ refl refl (λ q. mathlib.Core.Bool.true≢false (sym (eq-eqb _ _ q) ∙ n))) ∙ f)))

module _ (part : ℕ) (flag : ℕ → ℕ) (old new : List ℕ) where
  abbrev of : ℕ → List Repair
  of n = repairs_of part flag n old new

  -- by the places that differ
  by-more : (X : List Repair → Type 0) (n : ℕ) → (differs_at old new n ≡ true → X (of n ++ (repair_at part flag old new n ∷ [])))
      → (differs_at old new n ≡ false → X (of n)) → X (of (suc n))
  by-more X n x y =
      by-test (differs_at old new n) _
      (λ t. subst X (sym (ap of (sym (add-one n)) ∙ repairs-in part flag old new n t)) (x t))
      (λ f. subst X (sym (ap of (sym (add-one n)) ∙ repairs-out part flag old new n f)) (y f))

  each_of : (X : Repair → Type 0) (n : ℕ) → ((k : ℕ) → k < n → differs_at old new k ≡ true → X (repair_at part flag old new k)) → Each X
      (of n)
  each_of X zero f = subst (Each X) (sym (repairs-none part flag old new)) tt
  each_of X (suc n) f =
      let rest = each_of X n (λ k h. f k (omega arith)) in
      by-more (Each X) n (λ t. each_append X (of n) (repair_at part flag old new n ∷ []) rest (f n (omega arith) t, tt)) (λ _. rest)

  some_of : (X : Repair → Type 0) (n k : ℕ) → k < n → differs_at old new k ≡ true → X (repair_at part flag old new k) → Some X (of n)
  some_of X zero k h t x = absurd (omega arith)
  some_of X (suc n) k h t x =
      below_suc _ h
      (λ (q : k ≡ n).
      by-more (Some X) n
      (λ _. some_right X (of n) (repair_at part flag old new n ∷ []) (inl (subst (λ (j : ℕ). X (repair_at part flag old new j)) q x)))
      (λ f. absurd (mathlib.Core.Bool.true≢false (sym t ∙ ap (differs_at old new) q ∙ f))))
      (λ (l : k < n).
      let rest = some_of X n k l t x in
      by-more (Some X) n (λ _. some_left X (of n) (repair_at part flag old new n ∷ []) rest) (λ _. rest))

  rises-of : (n : ℕ) → Rises (of n)
  rises-of zero = subst Rises (sym (repairs-none part flag old new)) tt
  rises-of (suc n) =
      by-more Rises n
      (λ _.
      rises-append (of n) (repair_at part flag old new n ∷ []) (rises-of n) (tt, tt)
      (each_of (λ r. Each (Before r) (repair_at part flag old new n ∷ [])) n (λ k h _. (inr (refl, h), tt))))
      (λ _. rises-of n)

-- ---- of a whole rota

module _ (people slots : ℕ) (frozen : List ℕ) (found new : Rota) where
  abbrev in' : ℕ → List Repair
  in' p = repairs_in people slots frozen found new p

  says : (p : ℕ) → p < 4 → Each (Says people slots frozen found new) (in' p)
  says p h =
      each_of p (flag_of frozen p) (column found p) (column new p) (Says people slots frozen found new) (entries people slots p)
      (λ k g t. record {
        part = h;
        place = g;
        old = refl;
        new = refl;
        differ = differ-other (column found p) (column new p) k t;
        frozen
            = refl;
      })

  crosses : (p q : ℕ) → p < q → Each (λ r. Each (Before r) (in' q)) (in' p)
  crosses p q h =
      each_of p (flag_of frozen p) (column found p) (column new p) (λ r. Each (Before r) (in' q)) (entries people slots p)
      (λ k _ _.
      each_of q (flag_of frozen q) (column found q) (column new q) (Before (repair_at p (flag_of frozen p) (column found p) (column new p) k))
      (entries people slots q) (λ j _ _. inl h))

  listed : (p k : ℕ) → k < entries people slots p → (get_or (column found p) k 0 ≡ get_or (column new p) k 0 → ⊥)
      → Some (λ r. (r.part ≡ p) × (r.place ≡ k)) (in' p)
  listed p k h d =
      some_of p (flag_of frozen p) (column found p) (column new p) (λ r. (r.part ≡ p) × (r.place ≡ k)) (entries people slots p) k h
      (differs-yes (column found p) (column new p) k _ _ refl refl d) (refl, refl)

  pub tells : Tells people slots frozen found new (repairs people slots frozen found new)
  unfolding repairs
  tells =
      let S = Says people slots frozen found new in
      let X : ℕ → ℕ → Repair → Type 0 = λ p k r. (r.part ≡ p) × (r.place ≡ k) in
      let rising : (p : ℕ) → Rises (in' p)
      = λ p. rises-of p (flag_of frozen p) (column found p) (column new p) (entries people slots p) in
      let last = in' 2 ++ in' 3 in
      let most = in' 1 ++ last in
      let late : Rises last = rises-append (in' 2) (in' 3) (rising 2) (rising 3) (crosses 2 3 (omega arith)) in
      let later : Rises most = rises-append (in' 1) last (rising 1) late
      (each-join (in' 2) (in' 3) (in' 1) (crosses 1 2 (omega arith)) (crosses 1 3 (omega arith))) in
      record {
        only =
            each_append S (in' 0) most (says 0 (omega arith))
            (each_append S (in' 1) last (says 1 (omega arith)) (each_append S (in' 2) (in' 3) (says 2 (omega arith)) (says 3 (omega
            arith))));
        every = each_part;
        rises =
            rises-append (in' 0) most (rising 0) later
            (each-join (in' 1) last (in' 0) (crosses 0 1 (omega arith))
            (each-join (in' 2) (in' 3) (in' 0) (crosses 0 2 (omega arith)) (crosses 0 3 (omega arith))));
      }
    where
      each_part : (p k : ℕ) → p < 4 → k < entries people slots p → (get_or (column found p) k 0 ≡ get_or (column new p) k 0 → ⊥)
          → Some (λ r. (r.part ≡ p) × (r.place ≡ k)) (in' 0 ++ (in' 1 ++ (in' 2 ++ in' 3)))
      each_part zero k h g d = some_left _ (in' 0) _ (listed 0 k g d)
      each_part (suc zero) k h g d = some_right _ (in' 0) _ (some_left _ (in' 1) _ (listed 1 k g d))
      each_part (suc (suc zero)) k h g d = some_right _ (in' 0) _ (some_right _ (in' 1) _ (some_left _ (in' 2) _ (listed 2 k g d)))
      each_part (suc (suc (suc zero))) k h g d =
          some_right _ (in' 0) _ (some_right _ (in' 1) _ (some_right _ (in' 2) _ (listed 3 k g d)))
      each_part (suc (suc (suc (suc p)))) k h g d = absurd (omega arith)

-- ---- carried out one after the other

carried-append : (value : Repair → ℕ) (rs qs : List Repair) (R : Rota) → carried value (rs ++ qs) R ≡ carried value qs (carried value rs R)
unfolding carried
carried-append value [] qs R = refl
carried-append value (r ∷ rs) qs R = carried-append value rs qs (put R r.part r.place (value r))

column-with : (R : Rota) (p : ℕ) (l : List ℕ) → column (with_column R p l) p ≡ l
unfolding column with_column
column-with R zero l = refl
column-with R (suc zero) l = refl
column-with R (suc (suc zero)) l = refl
column-with R (suc (suc (suc p))) l = refl

with-again : (R : Rota) (p : ℕ) (l l' : List ℕ) → with_column (with_column R p l) p l' ≡ with_column R p l'
unfolding with_column
with-again R zero l l' = refl
with-again R (suc zero) l l' = refl
with-again R (suc (suc zero)) l l' = refl
with-again R (suc (suc (suc p))) l l' = refl

with-own : (R : Rota) (p : ℕ) → with_column R p (column R p) ≡ R
unfolding column with_column
with-own R zero = refl
with-own R (suc zero) = refl
with-own R (suc (suc zero)) = refl
with-own R (suc (suc (suc p))) = refl

-- the repairs of one column, each with the value that it is to have: `from` becomes `to` below n
module _ (value : Repair → ℕ) (part : ℕ) (flag : ℕ → ℕ) (old new from to : List ℕ)
    (val : (k : ℕ) → value (repair_at part flag old new k) ≡ get_or to k 0)
    (same : (k : ℕ) → differs_at old new k ≡ false → get_or from k 0 ≡ get_or to k 0) where
  abbrev so_far : ℕ → List ℕ
  so_far n = over (λ k. get_or to k 0) n from

  carried_of : (R : Rota) → column R part ≡ from → (n : ℕ) → carried value (repairs_of part flag n old new) R ≡ with_column R part (so_far n)
  unfolding carried
  carried_of R e zero =
      ap (λ (rs : List Repair). carried value rs R) (repairs-none part flag old new) ∙ sym (with-own R part)
      ∙ ap (with_column R part) (e ∙ sym (over_none (λ k. get_or to k 0) from))
  carried_of R e (suc n) =
      let l = so_far n in
      let r = repair_at part flag old new n in
      let rest = carried_of R e n in
      let more : so_far (suc n) ≡ set l n (get_or to n 0) = ap so_far (sym (add-one n)) ∙ over-more (λ k. get_or to k 0) n from in
      by-more part flag old new (λ rs. carried value rs R ≡ with_column R part (so_far (suc n))) n
      (λ t.
      carried-append value (repairs_of part flag n old new) (r ∷ []) R ∙ ap (λ (Q : Rota). put Q part n (value r)) rest
      ∙ ap (λ (x : List ℕ). with_column (with_column R part l) part (set x n (value r))) (column-with R part l)
      ∙ with-again R part l (set l n (value r)) ∙ ap (λ (v : ℕ). with_column R part (set l n v)) (val n)
      ∙ ap (with_column R part) (sym more))
      (λ f.
      let stays : get_or l n 0 ≡ get_or to n 0 = get_d-over-out (λ k. get_or to k 0) n from n (omega arith) ∙ same n f in
      rest ∙ ap (with_column R part) (sym (more ∙ ap (set l n) (sym stays) ∙ set-get_or l n 0)))

-- two columns alike past their first n entries: the first n of one, in the other
over-whole : (n : ℕ) (from to : List ℕ) → length from ≡ length to → n ≤ length from → ((k : ℕ) → n ≤ k → get_or from k 0 ≡ get_or to k 0)
    → over (λ k. get_or to k 0) n from ≡ to
over-whole n from to long room past =
    ext_get_or 0 (over (λ k. get_or to k 0) n from) to (length_over (λ k. get_or to k 0) n from ∙ long)
    (λ k h.
    ⊎_elim (λ (g : k < n). get_d_over (λ j. get_or to j 0) n from k g (omega arith))
    (λ (g : n ≤ k). get_d-over-out (λ j. get_or to j 0) n from k g ∙ past k g) (lt-or-ge k n))

-- two rotas alike beside what counts
pub record Beside (people slots : ℕ) (found new : Rota) : Type 0 where
  pub long : (p : ℕ) → length (column found p) ≡ length (column new p)
  pub room : (p : ℕ) → entries people slots p ≤ length (column found p)
  pub past : (p k : ℕ) → entries people slots p ≤ k → get_or (column found p) k 0 ≡ get_or (column new p) k 0

module _ (people slots : ℕ) (frozen : List ℕ) (found new : Rota) (B : Beside people slots found new) where
  abbrev part_of : ℕ → List Repair
  part_of p = repairs_in people slots frozen found new p

  apply-part : (R : Rota) (p : ℕ) → column R p ≡ column found p → applied (part_of p) R ≡ with_column R p (column new p)
  apply-part R p e =
      carried_of (λ r. r.new) p (flag_of frozen p) (column found p) (column new p) (column found p) (column new p) (λ k. refl)
      (alike (column found p) (column new p)) R e (entries people slots p)
      ∙ ap (with_column R p) (over-whole (entries people slots p) (column found p) (column new p) (B.long p) (B.room p) (B.past p))

  undo-part : (R : Rota) (p : ℕ) → column R p ≡ column new p → undone (part_of p) R ≡ with_column R p (column found p)
  undo-part R p e =
      carried_of (λ r. r.old) p (flag_of frozen p) (column found p) (column new p) (column new p) (column found p) (λ k. refl)
      (λ k f. sym (alike (column found p) (column new p) k f)) R e (entries people slots p)
      ∙ ap (with_column R p) (over-whole (entries people slots p) (column new p) (column found p) (sym (B.long p))
      (omega (arith, B.room p, B.long p)) (λ k h. sym (B.past p k h)))

  -- four parts, one after the other
  four : (value : Repair → ℕ) (R T : Rota)
      → ((Q : Rota) (p : ℕ) → column Q p ≡ column R p → carried value (part_of p) Q ≡ with_column Q p (column T p))
      → carried value (repairs people slots frozen found new) R ≡ T
  unfolding repairs column with_column
  four value R T f =
      let R₁ = with_column R 0 (column T 0) in
      let R₂ = with_column R₁ 1 (column T 1) in
      let R₃ = with_column R₂ 2 (column T 2) in
      carried-append value (part_of 0) (part_of 1 ++ (part_of 2 ++ part_of 3)) R
      ∙ ap (carried value (part_of 1 ++ (part_of 2 ++ part_of 3))) (f R 0 refl)
      ∙ carried-append value (part_of 1) (part_of 2 ++ part_of 3) R₁ ∙ ap (carried value (part_of 2 ++ part_of 3)) (f R₁ 1 refl)
      ∙ carried-append value (part_of 2) (part_of 3) R₂ ∙ ap (carried value (part_of 3)) (f R₂ 2 refl) ∙ f R₃ 3 refl

  pub repairs-applied : applied (repairs people slots frozen found new) found ≡ new
  repairs-applied = four (λ r. r.new) found new apply-part

  pub repairs-undone : undone (repairs people slots frozen found new) new ≡ found
  repairs-undone = four (λ r. r.old) new found undo-part

-- where nothing differs, nothing is listed
pub repairs-idle : (people slots : ℕ) (frozen : List ℕ) (R : Rota) → repairs people slots frozen R R ≡ []
unfolding repairs
repairs-idle people slots frozen R =
    let none : (p : ℕ) → repairs_in people slots frozen R R p ≡ [] = λ p. idle p (flag_of frozen p) (column R p) (entries people slots p) in
    ap₂ ◌++◌ (none 0) (ap₂ ◌++◌ (none 1) (ap₂ ◌++◌ (none 2) (none 3)))
  where
    idle : (p : ℕ) (flag : ℕ → ℕ) (l : List ℕ) (n : ℕ) → repairs_of p flag n l l ≡ []
    idle p flag l zero = repairs-none p flag l l
    idle p flag l (suc n) =
        ap (λ (k : ℕ). repairs_of p flag k l l) (sym (add-one n)) ∙ repairs-out p flag l l n (differs-no l l n _ _ refl refl refl)
        ∙ idle p flag l n
