-- `job::columns::float_of` meets its contract. Assumes nothing.
use Rattle.job.proofs.Files.{no-nan-field, no-nan-digits, nan_pattern}
use Rattle.job.proofs.columns.float_of.Goals as goal

pub float_from_bits-result : goal.float_from_bits-result
float_from_bits-result c = no-nan-digits _ c.if-bits-eq0.true

pub returns-then-bits-eq2047 : goal.returns-then-bits-eq2047
returns-then-bits-eq2047 c = nan_pattern _ c.if-bits-eq2047.true c.if-bits-eq0.false

pub float_from_bits-result-2 : goal.float_from_bits-result-2
float_from_bits-result-2 c = no-nan-field _ c.if-bits-eq2047.false
