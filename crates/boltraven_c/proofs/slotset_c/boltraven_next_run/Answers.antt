-- `boltraven_c::slotset_c::boltraven_next_run` meets its contract. Assumes nothing.
use Rattle.std.specs.Prelude.{ℕ, Option, Result, Ok}
use mathlib.Core.Path.{sym, ap, ◌∙◌}
use Rattle.slotset.specs.declared.NextRun.{NextRun}
use Rattle.boltraven_c.specs.Numbers.{next_run_number, next_run_first, next_run_last, next_run_cursor}
use Rattle.boltraven_c.proofs.slotset_c.boltraven_next_run.Goals as goal

pub returns-in-Ok-Some : goal.returns-in-Ok-Some
returns-in-Ok-Some c =
    let e = sym c.next_run.ensures ∙ c.in-Ok-Some.is ∙ ap {B = Result (Option NextRun) ℕ} Ok c.in-Ok-Some.field-0-is in
    record {
      value = sym (ap next_run_number e);
      first_after = sym (ap (next_run_first _) e);
      last_after = sym (ap (next_run_last _) e);
      next_after = sym (ap (next_run_cursor _) e);
    }

pub returns-in-Ok-None : goal.returns-in-Ok-None
returns-in-Ok-None c =
    let e = sym c.next_run.ensures ∙ c.in-Ok-None.is ∙ ap {B = Result (Option NextRun) ℕ} Ok c.in-Ok-None.field-0-is in
    record {
      value = sym (ap next_run_number e);
      first_after = sym (ap (next_run_first _) e);
      last_after = sym (ap (next_run_last _) e);
      next_after = sym (ap (next_run_cursor _) e);
    }

pub returns-in-Err : goal.returns-in-Err
returns-in-Err c =
    let e = sym c.next_run.ensures ∙ c.in-Err.is in
    record {
      value = c.refused.ensures ∙ sym (ap next_run_number e);
      first_after = sym (ap (next_run_first _) e);
      last_after = sym (ap (next_run_last _) e);
      next_after = sym (ap (next_run_cursor _) e);
    }
