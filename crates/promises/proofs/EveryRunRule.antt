-- Everybody's runs in one call are the lists of single people, one behind the other. Assumes nothing.
use mathlib.Core.Path.{◌≡◌, refl, ap, ap₂, ◌∙◌}
use mathlib.Core.List.{List, [], ◌∷◌, ◌++◌}
use mathlib.Core.Logic.{inr}
use Prim.Native.Nat.{ℕ, zero, suc, ◌+◌, ◌*◌, ◌≤◌}
use native.Mathlib.Nat.{suc-mul}
use native.Mathlib.Numerals.{add-one}
use native.Mathlib.Omega.{arith}
use lib.ListN.{length, get_or, set, length-append}
use Rattle.paper.specs.Count.{over}
use Rattle.paper.specs.Limits.{number_of}
use Rattle.paper.specs.Rows.{unless, answer_as}
use Rattle.paper.proofs.Count.{get_d_over}
use Rattle.paper.proofs.Rows.{worked, kept}
use Rattle.slotset.specs.Runs.{Ends, ends_of_runs}
use Rattle.slotset.specs.Answers.{row_slots}
use Rattle.slotset.specs.Lists as lists
use Rattle.slotset.proofs.Columns.{every-says, runs-few}
use Rattle.runs.specs.Listed as listed
use Rattle.runs.proofs.Listing.{column-at, column-stays}
use Rattle.promises.specs.SetRules.{FrontOf}
use Rattle.promises.specs.EveryRunRule.{EveryRunByRule}

-- a column is filled as that of one person's runs is
same-column : (end : Ends → ℕ) (l : List Ends) (n : ℕ) (c : List ℕ) → lists.column end l n c ≡ listed.column end l n c
unfolding lists.column listed.column
same-column end [] n c = refl
same-column end (r ∷ rs) n c = same-column end rs (n + 1) (set c n (end r))

front : (end : Ends → ℕ) (l : List Ends) (n : ℕ) (c : List ℕ) → n ≡ 0 → length l ≤ length c
    → FrontOf end l c (unless n c (lists.column end l 0 c))
front end l n c e room =
    let q = worked n c (lists.column end l 0 c) e ∙ same-column end l 0 c in
    record {
      each = λ k none h.
          let j : k ≡ 0 + k = omega arith in
          ap₂ (λ (x : List ℕ) (i : ℕ). get_or x i 0) q j ∙ column-at end l 0 k c none h (omega arith);
      past = λ k h. ap (λ (x : List ℕ). get_or x k 0) q ∙ column-stays end l 0 k c (inr (omega arith));
    }

one_more : (ws : List ℕ) (len p : ℕ) → lists.every_run ws len (p + 1) ≡ lists.every_run ws len p ++ ends_of_runs (row_slots ws p) len
unfolding lists.every_run
one_more ws len p = ap (lists.every_run ws len) (add-one p)

-- everybody has at most as many runs as slots
every-few : (ws : List ℕ) (len p : ℕ) → length (lists.every_run ws len p) ≤ p * len
unfolding lists.every_run
every-few ws len zero = omega arith
every-few ws len (suc p) =
    omega (
      arith,
      every-few ws len p,
      length-append (lists.every_run ws len p) (lists.person_runs ws len p),
      runs-few len (row_slots ws p) len 0,
      suc-mul p len,
    )

pub every-run-by-rule : EveryRunByRule
unfolding lists.every_run answer_as unless
every-run-by-rule = record {
  refused = λ ws people len cs fs ls h. (kept _ cs _ h, kept _ fs _ h, kept _ ls _ h);
  listed = λ ws people len cs fs ls e.
      let n = number_of (lists.every_run_row ws people len (length cs) (length fs) (length ls)) in
      let l = lists.every_run ws len people in
      let s = every-says ws people len (length cs) (length fs) (length ls) e in
      let few = every-few ws len people in (
        ap (λ (k : ℕ). answer_as k (length l)) e,
        λ p h.
            ap (λ (c : List ℕ). get_or c p 0) (worked n cs (over (λ q. length (lists.person_runs ws len q)) people cs) e)
            ∙ get_d_over (λ q. length (lists.person_runs ws len q)) people cs p h (omega (arith, s.0.1.1)),
        front (λ r. r.first) l n fs e (omega (arith, few, s.1.0)),
        front (λ r. r.last) l n ls e (omega (arith, few, s.1.1)),
      );
  nobody = λ ws len. refl;
  person = one_more;
}
