-- `job::columns::column_f64` meets its contract. The invariant: the first k patterns are read. Assumes nothing.
use mathlib.Core.Path.{◌≡◌, ap, ◌∙◌}
use native.Mathlib.Omega.{arith}
use lib.Ieee.{binary64, of_bits}
use Rattle.job.specs.Columns.{float_column}
use Rattle.job.proofs.Files.{floats-none, floats-more}
use Rattle.job.proofs.columns.column_f64.Goals as goal

pub loop-k-init : goal.loop-k-init
loop-k-init c = (floats-none _ _ _, omega arith)

pub overflow_mul-k : goal.overflow_mul-k
overflow_mul-k c = omega (arith, c.requires.1 c.loop-k.k (omega arith))

pub overflow_add-at : goal.overflow_add-at
overflow_add-at c = omega (arith, c.requires.1 c.loop-k.k (omega arith))

pub field-requires : goal.field-requires
field-requires c = omega (arith, c.requires.1 c.loop-k.k (omega arith))

pub offset_bounds-out-k : goal.offset_bounds-out-k
offset_bounds-out-k c = omega (arith, c.requires.0)

pub bounds-out-k : goal.bounds-out-k
bounds-out-k c = omega (arith, c.requires.0)

pub loop-k-preserved : goal.loop-k-preserved
loop-k-preserved c =
    (floats-more _ _ _ _ _ _ c.loop-k.invariant.0 (c.float_of.ensures ∙ ap (of_bits binary64) c.field.ensures.0), omega arith)

pub returns : goal.returns
returns c =
    let e : c.loop-k.k ≡ c.args.n = omega arith in
    c.loop-k.invariant.0 ∙ ap (float_column _ _ _) e
