-- Filling columns turn by turn, and comparing them. Assumes nothing.
use Rattle.std.proofs.Common.{◌≡◌, ℕ, ◌+◌, List, length, set, sym, refl, ap, ◌∙◌, eq-eqb, eqb-true}
use Rattle.std.proofs.lemmas.Slice.Eq.{bytes_eq-Decides}
use Rattle.std.proofs.lemmas.Grind.{same_number_lists}
use Rattle.std.specs.Str.{bytes_eq}
use Rattle.paper.specs.Count.{over}
use Rattle.paper.proofs.Count.{all-each, each_all, over_none, over-more, length_over}
use Rattle.paper.proofs.Logic.{same_test, both, and-true}
use Rattle.stored.specs.Columns.{alike, same}

-- ---- a loop that sets each entry j to f j

pub fill_none : (f : ℕ → ℕ) (l : List ℕ) → l ≡ over f 0 l
fill_none f l = sym (over_none f l)

pub fill_more : (f : ℕ → ℕ) (l now : List ℕ) (j v : ℕ) → now ≡ over f j l → v ≡ f j → set now j v ≡ over f (j + 1) l
fill_more f l now j v so is = ap (λ (x : List ℕ). set x j v) so ∙ ap (set (over f j l) j) is ∙ sym (over-more f j l)

pub fill_long : (f : ℕ → ℕ) (l now : List ℕ) (j : ℕ) → now ≡ over f j l → length now ≡ length l
fill_long f l now j so = ap length so ∙ length_over f j l

-- what a loop that fills a column rests on
pub ruleset fills = (fill_none, fill_more, fill_long)

-- ---- what `==` answers of two columns

pub by_equal : (a b : List ℕ) → bytes_eq a b ≡ same a b
by_equal a b =
    let d = bytes_eq-Decides a b in
    same_test (bytes_eq a b) (same a b)
    (λ e. let q = d.0 e in rw q (and-true _ _ (eq-eqb (length b) (length b) refl) (each_all (length b) (alike b b) (λ k h. eq-eqb _ _ refl))))
    (λ e.
    let s = both _ _ e in
    let long = eqb-true _ _ s.0 in
    d.1 (same_number_lists a b long (λ k h. eqb-true _ _ (all-each (length a) (alike a b) s.1 k h))))
