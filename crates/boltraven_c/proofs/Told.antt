-- What a yes or no tells of the number that it was made with: told, nothing was refused; refused, something was. Assumes nothing.
use Rattle.std.specs.Prelude.{Result, Ok, Err}
use mathlib.Core.Path.{◌≡◌, sym, ap, ◌∙◌}
use mathlib.Core.Bool.{Bool, true, false, true≢false}
use Prim.Native.Nat.{ℕ}
use Rattle.paper.proofs.Rows.{worked}
use Rattle.paper.specs.Rows.{answer_as, answer_refusal}
use Rattle.slotset.proofs.Refusals.{answer-said}

pub told : (n : ℕ) (b : Bool) (x : Result Bool ℕ) → answer_as n b ≡ x → answer_refusal x ≡ 0 → n ≡ 0
told n b x e z = sym (answer-said n b) ∙ ap answer_refusal e ∙ z

abbrev is_refusal : Result Bool ℕ → Bool
is_refusal (Ok b) = false
is_refusal (Err n) = true

pub not-told : (n m : ℕ) (b : Bool) → answer_as n b ≡ Err m → n ≡ 0 → ⊥
unfolding answer_as
not-told n m b e z =
    true≢false (sym (ap is_refusal (sym (worked n (Err n) (Ok b) z) ∙ e)))
