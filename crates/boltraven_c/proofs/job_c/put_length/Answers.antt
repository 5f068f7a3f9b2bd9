-- `boltraven_c::job_c::put_length` meets its contract. Assumes nothing.
use Rattle.std.specs.Prelude.{Result, Ok}
use mathlib.Core.Path.{◌≡◌, sym, ap, ◌∙◌}
use Prim.Native.Nat.{ℕ}
use Rattle.paper.specs.declared.Refusal.{Refusal}
use Rattle.job.specs.Outcome.{job_refusal, job_length}
use Rattle.boltraven_c.specs.Numbers.{refusal_number}
use Rattle.boltraven_c.proofs.job_c.put_length.Goals as goal

-- a listing is no refusal
none : (a : Result ℕ Refusal) (n : ℕ) → a ≡ Ok n → 0 ≡ refusal_number (job_refusal a)
unfolding refusal_number
none a n e = sym (ap (λ (b : Result ℕ Refusal). refusal_number (job_refusal b)) e)

pub returns-in-Ok : goal.returns-in-Ok
returns-in-Ok c = let e = c.in-Ok.is in record { value = none _ _ e; length_after = sym (ap (job_length _) e) }

pub returns-in-Err : goal.returns-in-Err
returns-in-Err c =
    let e = c.in-Err.is in
    record {
      value = c.refusal_number.ensures ∙ sym (ap (λ (b : Result ℕ Refusal). refusal_number (job_refusal b)) e);
      length_after = sym (ap (job_length _) e);
    }
