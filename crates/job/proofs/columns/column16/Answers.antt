-- `job::columns::column16` meets its contract. The invariant: the first k numbers are read. Assumes nothing.
use mathlib.Core.Path.{◌≡◌, ap, ◌∙◌}
use native.Mathlib.Omega.{arith}
use Rattle.job.specs.Columns.{column}
use Rattle.job.proofs.Files.{column-none, column-more}
use Rattle.job.proofs.columns.column16.Goals as goal

pub loop-k-init : goal.loop-k-init
loop-k-init c = (column-none _ _ _ _, omega arith)

pub overflow_mul-k : goal.overflow_mul-k
overflow_mul-k c = omega (arith, c.requires.1 c.loop-k.k (omega arith))

pub overflow_add-at : goal.overflow_add-at
overflow_add-at c = omega (arith, c.requires.1 c.loop-k.k (omega arith))

pub field-requires : goal.field-requires
field-requires c = omega (arith, c.requires.1 c.loop-k.k (omega arith))

pub overflow_cast-out : goal.overflow_cast-out
overflow_cast-out c = omega (arith, c.field.ensures.1)

pub offset_bounds-out-k : goal.offset_bounds-out-k
offset_bounds-out-k c = omega (arith, c.requires.0)

pub bounds-out-k : goal.bounds-out-k
bounds-out-k c = omega (arith, c.requires.0)

pub loop-k-preserved : goal.loop-k-preserved
loop-k-preserved c = (column-more _ _ _ _ _ _ _ c.loop-k.invariant.0 c.field.ensures.0, omega arith)

pub returns : goal.returns
returns c =
    let e : c.loop-k.k ≡ c.args.n = omega arith in
    c.loop-k.invariant.0 ∙ ap (column _ _ _ _) e
