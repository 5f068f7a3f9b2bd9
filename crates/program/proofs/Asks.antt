-- What a word asks for, test by test. Assumes nothing.
use mathlib.Core.Path.{◌≡◌, sym, ap, ◌∙◌}
use mathlib.Core.Bool.{Bool, true, false, cond, ◌&&◌}
use mathlib.Core.List.{List}
use Prim.Native.Nat.{ℕ}
use native.Mathlib.Omega.{arith}
use borrow.Author.Tests.{lt-ltb, le-ltb}
use lib.Dec.{eqb}
use lib.ListN.{length, get_or}
use Rattle.stored.specs.Columns.{same}
use Rattle.program.specs.declared.Request.{Request}
use Rattle.program.specs.declared.Request.TheVariants as asks
use Rattle.program.specs.Words.{help_word, version_word, option_by, asked_by}

pub option-empty : (w : List ℕ) → length w ≡ 0 → false ≡ option_by w
unfolding option_by
option-empty w e = sym (ap (λ (b : Bool). b && eqb (get_or w 0 0) 45) (le-ltb 0 (length w) (omega arith)))

pub option-first : (w : List ℕ) (b : Bool) → (length w ≡ 0 → ⊥) → b ≡ eqb (get_or w 0 0) 45 → b ≡ option_by w
unfolding option_by
option-first w b n e = e ∙ sym (ap (λ (a : Bool). a && eqb (get_or w 0 0) 45) (lt-ltb 0 (length w) (omega (arith, n))))

-- the first test that passes says it
asked_is : (h v d : Bool) → Request
asked_is h v d = cond h asks.Help (cond v asks.Version (cond d asks.Unknown asks.File))

pub asks-help : (w : List ℕ) → same w help_word ≡ true → asks.Help ≡ asked_by w
unfolding asked_by asked_is
asks-help w h = sym (ap (λ (b : Bool). asked_is b (same w version_word) (option_by w)) h)

module _ (w : List ℕ) (h : same w help_word ≡ false) where
  pub asks-version : same w version_word ≡ true → asks.Version ≡ asked_by w
  unfolding asked_by asked_is
  asks-version v = sym (ap (λ (b : Bool). asked_is b (same w version_word) (option_by w)) h ∙ ap (λ (b : Bool). asked_is false b (option_by w)) v)

  pub asks_rest : (d : Bool) → same w version_word ≡ false → option_by w ≡ d → cond d asks.Unknown asks.File ≡ asked_by w
  unfolding asked_by asked_is
  asks_rest d v o =
      sym (ap (λ (b : Bool). asked_is b (same w version_word) (option_by w)) h
      ∙ ap (λ (b : Bool). asked_is false b (option_by w)) v ∙ ap (λ (b : Bool). asked_is false false b) o)
