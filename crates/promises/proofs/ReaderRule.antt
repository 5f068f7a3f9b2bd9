-- The reader of runs gives the list of runs. Assumes nothing.
use Rattle.std.specs.Prelude.{Option, None, Result, Ok}
use mathlib.Core.Path.{◌≡◌, refl, sym, ap, ◌∙◌}
use mathlib.Core.List.{List, [], ◌∷◌, ◌++◌, map}
use Prim.Native.Nat.{ℕ, zero, suc, ◌+◌, ◌*◌}
use native.Mathlib.Omega.{arith}
use lib.ListN.{length, replicate}
use denote.Ref.{Bor}
use Rattle.slotset.specs.declared.NextRun.{NextRun}
use Rattle.slotset.specs.Slots.{Bits}
use Rattle.slotset.specs.Runs.{Ends, ends_of_runs, AreRuns}
use Rattle.slotset.specs.Answers.{row_refusal, row_slots, next_run_as}
use Rattle.slotset.proofs.Puts.{slot_lt}
use Rattle.runs.specs.declared.Runs.{Runs}
use Rattle.runs.specs.Reader.{reader_of, moved_to, cursor_after, next_of}
use Rattle.promises.specs.SetRules.{first_ahead}
use Rattle.promises.specs.ReaderRule.{answered, span_of, ReadsAllRuns}
use Rattle.promises.proofs.SetRules.{sets-by-rule}

module _ (words : Bor (List ℕ)) (people person len : ℕ) (e : row_refusal words.now people person len ≡ 0) where
  abbrev f : ℕ → ℕ
  f = row_slots words.now person

  bits : Bits f
  bits k = slot_lt words.now (16 * person) k

  -- the reader at a place
  abbrev reader : ℕ → Runs
  reader at = moved_to (reader_of words people person len) at

  next-is : (at : ℕ) (l : List Ends) → AreRuns f len at l → next_of (reader at) ≡ Ok (first_ahead l)
  next-is at l x = ap (λ (n : ℕ). next_run_as n f len at) e ∙ sets-by-rule.next-run f bits len at l x

  -- the answers, by the first of them
  first : (n at : ℕ) (a : Result (Option NextRun) ℕ) → next_of (reader at) ≡ a → answered (suc n) (reader at) ≡ a ∷ answered n (reader (cursor_after a at))
  unfolding answered
  first n at a q = ap (λ (x : Result (Option NextRun) ℕ). x ∷ answered n (reader (cursor_after x at))) q

  none : (at : ℕ) → answered zero (reader at) ≡ []
  unfolding answered
  none at = refl

  reads : (l : List Ends) (at m : ℕ) → AreRuns f len at l
      → answered (length l + m) (reader at) ≡ map span_of l ++ replicate m (Ok None)
  reads [] at zero x = none at
  reads [] at (suc m) x =
      let z : 0 + suc m ≡ suc m = omega arith in
      let w : 0 + m ≡ m = omega arith in
      ap (λ (n : ℕ). answered n (reader at)) z ∙ first m at (Ok None) (next-is at [] x)
      ∙ ap (λ (l : List (Result (Option NextRun) ℕ)). Ok None ∷ l) (ap (λ (n : ℕ). answered n (reader at)) (sym w) ∙ reads [] at m x)
  reads (r ∷ rs) at m x =
      let z : suc (length rs) + m ≡ suc (length rs + m) = omega arith in
      ap (λ (n : ℕ). answered n (reader at)) z ∙ first (length rs + m) at (span_of r) (next-is at (r ∷ rs) x)
      ∙ ap (λ (l : List (Result (Option NextRun) ℕ)). span_of r ∷ l) (reads rs (r.last + 1) m x.6)

pub reads-all-runs : ReadsAllRuns
reads-all-runs words people person len m e =
    reads words people person len e (ends_of_runs (row_slots words.now person) len) 0 m
    (sets-by-rule.runs (row_slots words.now person) (bits words people person len e) len).meets
