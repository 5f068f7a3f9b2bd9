-- `job::prepare::slots_in` meets its contract. Assumes nothing.
use borrow.Author.Rules.{rules}
use Rattle.std.specs.Prelude.{Err}
use mathlib.Core.Path.{◌≡◌, ◌∙◌}
use native.Mathlib.Omega.{arith}
use lib.Dec.{lit<, lit≤}
use Rattle.job.proofs.Readings.{read-block, read-room, read-few, read-column, slots-refused, slots-are}
use Rattle.job.proofs.prepare.slots_in.Goals as goal

pub overflow_add-base : goal.overflow_add-base
overflow_add-base c = omega (arith, read-block c.requires 1 (lit< tt), c.well_formed.0)

pub column32-starts-requires : goal.column32-starts-requires
column32-starts-requires c =
    ((read-few c.requires).1, read-room c.requires 1 0 4 (lit< tt) (lit≤ tt))

pub overflow_add-base-2 : goal.overflow_add-base-2
overflow_add-base-2 c = omega (arith, read-block c.requires 1 (lit< tt), c.well_formed.0)

pub column32-ends-requires : goal.column32-ends-requires
column32-ends-requires c =
    ((read-few c.requires).1, read-room c.requires 1 4 4 (lit< tt) (lit≤ tt))

pub overflow_add-range : goal.overflow_add-range
overflow_add-range c = omega (arith, read-block c.requires 3 (lit< tt), c.well_formed.0)

pub column16-persons-requires : goal.column16-persons-requires
column16-persons-requires c =
    ((read-few c.requires).3, read-room c.requires 3 0 2 (lit< tt) (lit≤ tt))

pub overflow_add-range-2 : goal.overflow_add-range-2
overflow_add-range-2 c = omega (arith, read-block c.requires 3 (lit< tt), c.well_formed.0)

pub column32-opens-requires : goal.column32-opens-requires
column32-opens-requires c =
    ((read-few c.requires).3, read-room c.requires 3 2 4 (lit< tt) (lit≤ tt))

pub overflow_add-range-3 : goal.overflow_add-range-3
overflow_add-range-3 c = omega (arith, read-block c.requires 3 (lit< tt), c.well_formed.0)

pub column32-shuts-requires : goal.column32-shuts-requires
column32-shuts-requires c =
    ((read-few c.requires).3, read-room c.requires 3 6 4 (lit< tt) (lit≤ tt))

pub returns-in_err-atoms : goal.returns-in_err-atoms
returns-in_err-atoms c =
    let K = c.requires in
    let q : c.from_residual.result ≡ Err c.in_err-atoms.field-0.0 = search rules in
    rw q (slots-refused K _ _ _ _ _ _ (c.column32-starts.ensures ∙ read-column K 1 0 4) (c.column32-ends.ensures ∙ read-column K 1 4 4)
    (c.column16-persons.ensures ∙ read-column K 3 0 2) (c.column32-opens.ensures ∙ read-column K 3 2 4)
    (c.column32-shuts.ensures ∙ read-column K 3 6 4) (rw c.in_err-atoms.was at c.atoms_of.ensures))

pub returns : goal.returns
returns c =
    let K = c.requires in
    slots-are K _ _ _ _ _ _ _ (c.column32-starts.ensures ∙ read-column K 1 0 4) (c.column32-ends.ensures ∙ read-column K 1 4 4)
    (c.column16-persons.ensures ∙ read-column K 3 0 2) (c.column32-opens.ensures ∙ read-column K 3 2 4)
    (c.column32-shuts.ensures ∙ read-column K 3 6 4) (rw c.in_ok-atoms.was at c.atoms_of.ensures) c.avail_of-avail.ensures.0 c.avail_of-avail.ensures.1
