-- The job, by the laws of job. Assumes nothing.
use mathlib.Core.Path.{refl, sym}
use Rattle.job.specs.Outcome.{job_result}
use Rattle.job.proofs.Layouts.{rule-13, counts-read, columns-read, settings-read}
use Rattle.job.proofs.Placed.{named-has, rest-nobody}
use Rattle.job.proofs.Digits.{digits_value, signed-value}
use Rattle.job.proofs.Promises.{lowest-number, accepted-exactly, refused-keeps, listing-stands, listing-fits, total, targets-total}
use Rattle.job.proofs.Promises.{frozen-keeps, stays-covered, owners-fit, base-total-read}
use Rattle.promises.specs.JobRules.{JobByRule}

pub job-by-rule : JobByRule
job-by-rule = record {
  given = lowest-number;
  answered = accepted-exactly;
  kept = λ s x f e. refused-keeps s x f (job_result s x).out record { said = sym e; left = refl };
  file = rule-13;
  counts = counts-read;
  columns = columns-read;
  settings = settings-read;
  base-total = base-total-read;
  owners = λ s at slots n few rising. (named-has s at slots few n rising, rest-nobody s at slots few n);
  accepted = λ s x n e. record {
    listing = listing-stands s x n e;
    fits = listing-fits s x n e;
    total = total s x n e;
    targets = targets-total s x n e;
    frozen = frozen-keeps s x n e;
    covered = stays-covered s x n e;
    owners = owners-fit s x n e;
  };
  digits = digits_value;
  signed = signed-value;
}
