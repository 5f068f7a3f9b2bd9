-- What a row of tests tells, test by test. Assumes nothing.
use mathlib.Core.Path.{◌≡◌, refl, sym, ap, ◌∙◌}
use mathlib.Core.Bool.{Bool, true, false, cond}
use mathlib.Core.List.{List, [], ◌∷◌}
use Prim.Native.Nat.{ℕ, zero, suc, ◌<◌}
use native.Mathlib.Omega.{arith}
use borrow.Author.Tests.{ltb-true}
use lib.Dec.{ltb}
use lib.ListN.{length, get_or}
use Rattle.paper.specs.Limits.{Test, test, number_of}
use Rattle.paper.specs.Rows.{accepted, test_refusal, refusal_of}
use Rattle.paper.proofs.Logic.{by-test, both}
use Rattle.paper.proofs.Refusals.{number-pass, number-fail}
use Rattle.paper.proofs.Rows.{said, numbered}
use Rattle.promises.specs.Numbers.{LimitsByRule, RefusalByCases}

pub limits-by-rule : LimitsByRule
limits-by-rule = record {
  minutes = refl;
  people = refl;
  slots = refl;
  ranges = refl;
  draws = refl;
  owner = refl;
  words = refl;
  file = refl;
  sizes = refl;
}

none-fails : (ts : List Test) → ((k : ℕ) → k < length ts → (get_or ts k (test 0 true)).passes ≡ true) → refusal_of ts ≡ accepted
unfolding refusal_of
none-fails [] f = refl
none-fails (t ∷ ts) f =
    ap (λ (b : Bool). cond b (refusal_of ts) (test_refusal t)) (f 0 (omega arith)) ∙ none-fails ts (λ k h. f (suc k) (omega arith))

first-fails : (ts : List Test) (k : ℕ) → k < length ts → (get_or ts k (test 0 true)).passes ≡ false
    → ((j : ℕ) → j < k → (get_or ts j (test 0 true)).passes ≡ true) → refusal_of ts ≡ test_refusal (get_or ts k (test 0 true))
unfolding refusal_of
first-fails [] k h e f = absurd (omega arith)
first-fails (t ∷ ts) zero h e f = ap (λ (b : Bool). cond b (refusal_of ts) (test_refusal t)) e
first-fails (t ∷ ts) (suc k) h e f =
    ap (λ (b : Bool). cond b (refusal_of ts) (test_refusal t)) (f 0 (omega arith))
    ∙ first-fails ts k (omega arith) e (λ j l. f (suc j) (omega arith))

-- a row whose number is none refuses nothing
pub none-given : (ts : List Test) → numbered ts ≡ true → number_of ts ≡ 0 → refusal_of ts ≡ accepted
unfolding refusal_of number_of
none-given [] h z = refl
none-given (t ∷ ts) h z =
    let x = both (ltb 0 t.number) (numbered ts) h in
    let p = ltb-true 0 t.number x.0 in
    by-test t.passes _ (λ e. simp e (none-given ts x.1 (sym (number-pass t ts e) ∙ z)))
    (λ e. absurd (omega (arith, sym (number-fail t ts e) ∙ z, p)))

pub refusal-by-cases : RefusalByCases
refusal-by-cases ts = record { none = none-fails ts; first = first-fails ts; number = said ts refl }
