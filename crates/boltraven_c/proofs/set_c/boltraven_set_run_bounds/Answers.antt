-- `boltraven_c::set_c::boltraven_set_run_bounds` meets its contract. Assumes nothing.
use Rattle.std.specs.Prelude.{ℕ, Result, Ok}
use mathlib.Core.Path.{sym, ap, ◌∙◌}
use Rattle.slotset.specs.declared.Run.{Run}
use Rattle.boltraven_c.specs.Numbers.{run_number, run_first, run_last}
use Rattle.boltraven_c.proofs.set_c.boltraven_set_run_bounds.Goals as goal

pub returns-in-Ok-Span : goal.returns-in-Ok-Span
returns-in-Ok-Span c =
    let e = sym c.run_bounds.ensures ∙ c.in-Ok-Span.is ∙ ap {B = Result Run ℕ} Ok c.in-Ok-Span.field-0-is in
    record { value = sym (ap run_number e); first_after = sym (ap (run_first _) e); last_after = sym (ap (run_last _) e) }

pub returns-in-Ok-Hole : goal.returns-in-Ok-Hole
returns-in-Ok-Hole c =
    let e = sym c.run_bounds.ensures ∙ c.in-Ok-Hole.is ∙ ap {B = Result Run ℕ} Ok c.in-Ok-Hole.field-0-is in
    record { value = sym (ap run_number e); first_after = sym (ap (run_first _) e); last_after = sym (ap (run_last _) e) }

pub returns-in-Ok-Outside : goal.returns-in-Ok-Outside
returns-in-Ok-Outside c =
    let e = sym c.run_bounds.ensures ∙ c.in-Ok-Outside.is ∙ ap {B = Result Run ℕ} Ok c.in-Ok-Outside.field-0-is in
    record { value = sym (ap run_number e); first_after = sym (ap (run_first _) e); last_after = sym (ap (run_last _) e) }

pub returns-in-Err : goal.returns-in-Err
returns-in-Err c =
    let e = sym c.run_bounds.ensures ∙ c.in-Err.is in
    record {
      value = c.refused.ensures ∙ sym (ap run_number e);
      first_after = sym (ap (run_first _) e);
      last_after = sym (ap (run_last _) e);
    }
