-- `boltraven_c::job_c::boltraven_run_job` meets its contract. Assumes nothing.
use Rattle.std.specs.Prelude.{ℕ, Result}
use mathlib.Core.Path.{ap, ◌∙◌}
use Rattle.paper.specs.declared.Refusal.{Refusal}
use Rattle.job.specs.Outcome.{job_refusal, job_length}
use Rattle.boltraven_c.specs.Numbers.{refusal_number}
use Rattle.boltraven_c.proofs.job_c.boltraven_run_job.Goals as goal

pub returns : goal.returns
returns c =
    let answer = c.run_job-answer.ensures in
    record {
      value = c.put_length.ensures.value ∙ ap (λ (a : Result ℕ Refusal). refusal_number (job_refusal a)) answer.said;
      out_after = answer.left;
      length_after = c.put_length.ensures.length_after ∙ ap (job_length _) answer.said;
    }
