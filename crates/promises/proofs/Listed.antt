-- A list of the numbers below a bound that pass a test, ascending: there is one only. Assumes nothing.
use mathlib.Core.Path.{◌≡◌, sym, ap}
use mathlib.Core.Bool.{Bool}
use mathlib.Core.List.{List}
use mathlib.Core.Logic.{⊎_elim}
use Prim.Native.Nat.{ℕ, zero, suc, ◌≤◌, ◌<◌}
use native.Mathlib.Omega.{arith}
use lib.ListN.{length, get_or}
use lib.Seq.{ext_get_or}
use Rattle.paper.specs.Count.{among}
use Rattle.paper.proofs.Logic.{lt-or-ge, below_suc}
use Rattle.paper.proofs.Count.{among-each, among-at, among-rises}
use Rattle.promises.specs.SetRules.{TheOne}
use Rattle.promises.specs.UnitRules.{Listed}

module _ (p : ℕ → Bool) (n : ℕ) where
  -- the numbers that pass a test are listed
  listed-among : Listed p n (among p n)
  listed-among = record {
    each = among-each p n;
    all = λ k h t. let x = among-at p n k h t in (length (among p k), x.0, x.1);
    rises = among-rises p n;
  }

  -- an earlier entry is a smaller number
  rises-on : (l : List ℕ) → Listed p n l → (i j : ℕ) → i < j → j < length l → get_or l i 0 < get_or l j 0
  rises-on l L i zero h b = absurd (omega (arith, h))
  rises-on l L i (suc j) h b =
      below_suc (get_or l i 0 < get_or l (suc j) 0) h
      (λ (q : i ≡ j). omega (arith, L.rises j b, ap (λ (k : ℕ). get_or l k 0) q))
      (λ (g : i < j). omega (arith, rises-on l L i j g (omega arith), L.rises j b))

  -- two such lists, alike before entry i, don't have a smaller number there than the other
  not-less : (l m : List ℕ) → Listed p n l → Listed p n m → (i : ℕ) → i < length l → i < length m
      → ((j : ℕ) → j < i → get_or l j 0 ≡ get_or m j 0) → get_or l i 0 < get_or m i 0 → ⊥
  not-less l m L M i hl hm same less =
      let x = L.each i hl in
      let w = M.all (get_or l i 0) x.0 x.1 in
      ⊎_elim (λ (g : w.0 < i). omega (arith, rises-on l L w.0 i g hl, same w.0 g, w.2))
      (λ (g : i ≤ w.0).
      ⊎_elim (λ (h : i < w.0). omega (arith, rises-on m M i w.0 h w.1, w.2, less))
      (λ (h : w.0 ≤ i). let q : w.0 ≡ i = omega arith in omega (arith, ap (λ (k : ℕ). get_or m k 0) q, w.2, less))
      (lt-or-ge i w.0))
      (lt-or-ge w.0 i)

  alike : (l m : List ℕ) → Listed p n l → Listed p n m → (k j : ℕ) → j < k → j < length l → j < length m → get_or l j 0 ≡ get_or m j 0
  alike l m L M zero j h a b = absurd (omega (arith, h))
  alike l m L M (suc k) j h a b =
      below_suc (get_or l j 0 ≡ get_or m j 0) h
      (λ (q : j ≡ k).
      let before : (i : ℕ) → i < j → get_or l i 0 ≡ get_or m i 0 = λ i g. alike l m L M k i (omega arith) (omega arith) (omega arith) in
      ⊎_elim (λ (g : get_or l j 0 < get_or m j 0). absurd (not-less l m L M j a b before g))
      (λ (g : get_or m j 0 ≤ get_or l j 0).
      ⊎_elim (λ (r : get_or m j 0 < get_or l j 0). absurd (not-less m l M L j b a (λ i t. sym (before i t)) r))
      (λ (r : get_or l j 0 ≤ get_or m j 0). omega arith) (lt-or-ge (get_or m j 0) (get_or l j 0)))
      (lt-or-ge (get_or l j 0) (get_or m j 0)))
      (λ (g : j < k). alike l m L M k j g a b)

  -- neither is longer
  not-longer : (l m : List ℕ) → Listed p n l → Listed p n m → length l < length m → ⊥
  not-longer l m L M h =
      let x = M.each (length l) h in
      let w = L.all (get_or m (length l) 0) x.0 x.1 in
      omega (arith, rises-on m M w.0 (length l) w.1 h, w.2, alike l m L M (suc w.0) w.0 (omega arith) w.1 (omega (arith, w.1)))

  pub listed-one : TheOne (Listed p n) (among p n)
  listed-one = record {
    meets = listed-among;
    only = λ l L.
        let m = among p n in
        let M = listed-among in
        let long : length l ≡ length m =
        ⊎_elim (λ (h : length l < length m). absurd (not-longer l m L M h))
        (λ (h : length m ≤ length l).
        ⊎_elim (λ (g : length m < length l). absurd (not-longer m l M L g)) (λ (g : length l ≤ length m). omega arith)
        (lt-or-ge (length m) (length l)))
        (lt-or-ge (length l) (length m)) in
        ext_get_or 0 l m long (λ j r. alike l m L M (suc j) j (omega arith) r (omega (arith, long)));
  }
