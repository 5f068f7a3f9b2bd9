-- `boltraven_c::columns_c::boltraven_stretch` meets its contract. Assumes nothing.
use Rattle.std.specs.Prelude.{Ok}
use mathlib.Core.Path.{refl, sym, ap, ◌∙◌}
use mathlib.Core.List.{List}
use Prim.Native.Nat.{ℕ}
use lib.ListN.{length}
use Rattle.paper.proofs.Rows.{worked, kept}
use Rattle.boltraven_c.specs.Numbers.{yes_no_number}
use Rattle.boltraven_c.proofs.Told.{told, not-told}
use Rattle.boltraven_c.proofs.columns_c.boltraven_stretch.Goals as goal

pub returns-in-Ok-true : goal.returns-in-Ok-true
returns-in-Ok-true c =
    let e = sym c.is_published-which.ensures ∙ c.in-Ok-true.is ∙ ap Ok c.in-Ok-true.field-0-test in
    record {
      value = sym (ap yes_no_number e);
      length_after =
          ap (λ (l : List ℕ). length l) c.stretch-part.ensures.entries ∙ sym (worked _ _ _ (told _ _ _ e refl));
    }

pub returns-in-Ok-false : goal.returns-in-Ok-false
returns-in-Ok-false c =
    let e = sym c.is_published-which.ensures ∙ c.in-Ok-false.is ∙ ap Ok c.in-Ok-false.field-0-test in
    record {
      value = sym (ap yes_no_number e);
      length_after =
          ap (λ (l : List ℕ). length l) c.stretch-part.ensures.entries ∙ sym (worked _ _ _ (told _ _ _ e refl));
    }

pub returns-in-Err : goal.returns-in-Err
returns-in-Err c =
    let e = sym c.is_published-which.ensures ∙ c.in-Err.is in
    record { value = c.refused.ensures ∙ sym (ap yes_no_number e); length_after = sym (kept _ _ _ (not-told _ _ _ e)) }
