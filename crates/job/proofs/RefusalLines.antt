-- What the line of a refusal comes to, refused or not. Assumes nothing.
use Rattle.std.specs.Prelude.{Ok, Err}
use mathlib.Core.Path.{◌≡◌, refl, sym, ap, ◌∙◌}
use mathlib.Core.Bool.{Bool, cond}
use mathlib.Core.List.{List}
use Prim.Native.Nat.{ℕ, ◌≤◌, ◌<◌}
use native.Mathlib.Omega.{arith}
use borrow.Author.Tests.{le-leb, lt-leb, leb-true}
use lib.Dec.{leb}
use lib.ListN.{length}
use Rattle.paper.specs.declared.Refusal.{Refusal}
use Rattle.paper.specs.Limits.{test}
use Rattle.paper.specs.Rows.{accepted, refusal_of, next}
use Rattle.paper.proofs.Rows.{link, ends, checked, renamed, said, passed, worked, kept}
use Rattle.owners.specs.Entries.{placeless}
use Rattle.records.specs.Puts.{Wrote}
use Rattle.job.specs.Listing.{refusal_line}
use Rattle.job.specs.Outcome.{Outcome, refused_as, listed_as, refusal_row, refusal_result, Ends}

module _ (f : Refusal) (x : List ℕ) where
  -- 2 where the buffer is shorter than the line, nothing where it isn't
  short-refusal : length x < length (refusal_line f) → refusal_of (refusal_row f (length x)) ≡ placeless 2
  unfolding refusal_row refusal_of
  short-refusal h = ap (λ (b : Bool). cond b accepted (placeless 2)) (lt-leb (length (refusal_line f)) (length x) h)

  long-refusal : length (refusal_line f) ≤ length x → refusal_of (refusal_row f (length x)) ≡ accepted
  unfolding refusal_row refusal_of
  long-refusal h = ap (λ (b : Bool). cond b accepted (placeless 2)) (le-leb (length (refusal_line f)) (length x) h)

  pub line-short : length x < length (refusal_line f) → refusal_result f x ≡ refused_as (placeless 2) x
  unfolding refusal_result
  line-short h =
      let e = short-refusal h in
      kept _ (refused_as (refusal_of (refusal_row f (length x))) x) _ (λ z. omega (arith, ap (λ (g : Refusal). g.number) e, z))
      ∙ ap (λ (g : Refusal). refused_as g x) e

  pub line-stands : length (refusal_line f) ≤ length x → refusal_result f x ≡ listed_as (refusal_line f) x
  unfolding refusal_result
  line-stands h = worked _ _ (listed_as (refusal_line f) x) (ap (λ (g : Refusal). g.number) (long-refusal h))

  -- asked of the line's size
  pub line-asked : (size : ℕ) (a g : Refusal) → size ≡ length (refusal_line f) → a ≡ accepted → g ≡ next a (test 2 (leb size (length x)))
      → g ≡ refusal_of (refusal_row f (length x))
  unfolding refusal_row
  line-asked size a g e q h =
      checked (refusal_row f (length x)) refl q (link (renamed a 2 h (ap (λ (n : ℕ). leb n (length x)) e)) ends)

  -- what the function returns
  module _ (g : Refusal) (e : g ≡ refusal_of (refusal_row f (length x))) where
    pub line-room : g.number ≡ 0 → length (refusal_line f) ≤ length x
    unfolding refusal_row
    line-room z = leb-true _ _ (passed (refusal_row f (length x)) refl (sym (said (refusal_row f (length x)) e) ∙ z) 0)

    pub line_refused : (g.number ≡ 0 → ⊥) → Ends (refusal_result f x) (Err g) x
    unfolding refused_as refusal_result
    line_refused n =
        let q = kept _ (refused_as (refusal_of (refusal_row f (length x))) x) (listed_as (refusal_line f) x)
        (λ z. n (ap (λ (h : Refusal). h.number) e ∙ z)) in
        record {
          said = ap Err e ∙ sym (ap (λ (y : Outcome). y.answer) q);
          left = sym (ap (λ (y : Outcome). y.out) q);
        }

    pub line-written : (r : ℕ) (y : List ℕ) → g.number ≡ 0 → Wrote (refusal_line f) 0 x r y → Ends (refusal_result f x) (Ok r) y
    unfolding listed_as
    line-written r y z w =
        let q = line-stands (line-room z) in
        let k : r ≡ length (refusal_line f) = omega (arith, w.ends) in
        record {
          said = ap Ok k ∙ sym (ap (λ (v : Outcome). v.answer) q);
          left = w.text ∙ sym (ap (λ (v : Outcome). v.out) q);
        }
