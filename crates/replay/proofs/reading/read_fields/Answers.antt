-- `replay::reading::read_fields` meets its contract. Assumes nothing.
use borrow.Author.Rules.{rules}
use native.Mathlib.Omega.{arith}
use Rattle.replay.proofs.Columns.{fields-none, fields-more, fields-length, fields-done}
use Rattle.replay.proofs.reading.read_fields.Goals as goal

pub loop-j-init : goal.loop-j-init
loop-j-init c = (fields-none _ _ _, omega arith)

pub overflow_mul-j : goal.overflow_mul-j
overflow_mul-j c = omega arith

pub overflow_add-j : goal.overflow_add-j
overflow_add-j c = omega arith

pub field-requires : goal.field-requires
field-requires c = search rules

pub overflow_cast-out : goal.overflow_cast-out
overflow_cast-out c = omega (arith, c.field.ensures.1)

pub offset_bounds-out-j : goal.offset_bounds-out-j
offset_bounds-out-j c = omega arith

pub bounds-out-j : goal.bounds-out-j
bounds-out-j c = omega (arith, fields-length _ _ _ _ _ c.loop-j.invariant.0)

pub loop-j-preserved : goal.loop-j-preserved
loop-j-preserved c = (fields-more _ _ _ _ _ _ c.loop-j.invariant.0 c.field.ensures.0 (omega arith), omega arith)

pub shape_of-out : goal.shape_of-out
shape_of-out c = fields-length _ _ _ _ _ c.loop-j.invariant.0

pub returns : goal.returns
returns c = fields-done _ _ _ _ _ _ (omega arith) c.loop-j.invariant.0
