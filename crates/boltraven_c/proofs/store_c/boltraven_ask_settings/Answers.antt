-- `boltraven_c::store_c::boltraven_ask_settings` meets its contract. Assumes nothing.
use Rattle.std.specs.Prelude.{Result, Ok}
use mathlib.Core.Path.{◌≡◌, sym, ap, ◌∙◌}
use Prim.Native.Nat.{ℕ}
use Rattle.units.specs.declared.Settings.{Settings}
use Rattle.store.specs.declared.Asked.{Asked}
use Rattle.boltraven_c.specs.Store.{asked_number, asked_figure}
use Rattle.boltraven_c.proofs.store_c.boltraven_ask_settings.Goals as goal

-- what each figure's place holds at exit
left : {a b : Result Asked ℕ} → b ≡ a → (figure : Settings → ℕ) (was : ℕ) → asked_figure figure was a ≡ asked_figure figure was b
left e figure was = sym (ap (asked_figure figure was) e)

pub returns-in-Ok-Is : goal.returns-in-Ok-Is
returns-in-Ok-Is c =
    let e = sym c.ask.ensures ∙ c.in-Ok-Is.is ∙ ap {B = Result Asked ℕ} Ok c.in-Ok-Is.field-0-is in record { value = sym (ap asked_number e); fairness_after = left e (λ s. s.fairness) _; lock_after = left e (λ s. s.lock) _; boundary_after = left e (λ s. s.boundary) _; edition_after = left e (λ s. s.edition) _; value_after = left e (λ s. s.value) _; days_after = left e (λ s. s.days) _ }

pub returns-in-Ok-Newer : goal.returns-in-Ok-Newer
returns-in-Ok-Newer c =
    let e = sym c.ask.ensures ∙ c.in-Ok-Newer.is ∙ ap {B = Result Asked ℕ} Ok c.in-Ok-Newer.field-0-is in record { value = sym (ap asked_number e); fairness_after = left e (λ s. s.fairness) _; lock_after = left e (λ s. s.lock) _; boundary_after = left e (λ s. s.boundary) _; edition_after = left e (λ s. s.edition) _; value_after = left e (λ s. s.value) _; days_after = left e (λ s. s.days) _ }

pub returns-in-Err : goal.returns-in-Err
returns-in-Err c =
    let e = sym c.ask.ensures ∙ c.in-Err.is in record { value = c.refused.ensures ∙ sym (ap asked_number e); fairness_after = left e (λ s. s.fairness) _; lock_after = left e (λ s. s.lock) _; boundary_after = left e (λ s. s.boundary) _; edition_after = left e (λ s. s.edition) _; value_after = left e (λ s. s.value) _; days_after = left e (λ s. s.days) _ }
