-- `job::file::read_file` meets its contract. Assumes nothing.
use mathlib.Core.Path.{sym, ap, ◌∙◌}
use mathlib.Core.Bool.{Bool, ◌&&◌}
use Rattle.job.specs.File.{job_counts, job_starts}
use Rattle.job.proofs.Files.{owners-end, file-ok}
use Rattle.job.proofs.file.read_file.Goals as goal

pub rest_ok-rest-requires : goal.rest_ok-rest-requires
unfolding job_counts job_starts
rest_ok-rest-requires c =
    let w = c.walk-w.ensures in
    owners-end c.args.s.now _ _ w.counts_value w.starts_value

pub returns-then-w : goal.returns-then-w
unfolding job_counts job_starts
returns-then-w c =
    let w = c.walk-w.ensures in record {
      ok_value = sym (ap (λ (b : Bool). b && c.rest_ok-rest.result) c.if-w.true)
          ∙ file-ok c.args.s.now _ _ w.counts_value w.starts_value _ _ w.ok_value c.rest_ok-rest.ensures;
      counts_value = (w.counts_value, w.starts_value);
    }

pub returns : goal.returns
unfolding job_counts job_starts
returns c =
    let w = c.walk-w.ensures in record {
      ok_value = sym (ap (λ (b : Bool). b && c.rest_ok-rest.result) c.if-w.false)
          ∙ file-ok c.args.s.now _ _ w.counts_value w.starts_value _ _ w.ok_value c.rest_ok-rest.ensures;
      counts_value = (w.counts_value, w.starts_value);
    }
