-- `job::listing::put_listing` meets its contract: each field is a value of its type. Assumes nothing.
use borrow.Author.Rules.{rules}
use native.Mathlib.Omega.{arith}
use mir.Syntax.{w64}
use mir.Val.{Fits}
use Rattle.job.specs.Listing.{listed}
use Rattle.job.proofs.Lengths.{Fields, listing-fits}
use Rattle.job.proofs.listing.put_listing.Goals as goal

pub put_lines-requires : goal.put_lines-requires
put_lines-requires c =
    let a = c.args in
    let L = listed a.slots a.starts.now a.ends.now a.owners.now a.people a.minutes.now a.targets.now a.draws
    a.answers.now a.uncovered in
    let u : Fits w64 a.uncovered = search rules in
    let F : Fields L = record {
      slots-few = c.requires.slots_bound.0;
      people-few = c.requires.slots_bound.1;
      draws-few = c.requires.slots_bound.2;
      starts = λ k h. omega (arith, c.shared_slice_known-1.given k);
      ends = λ k h. omega (arith, c.shared_slice_known-2-1.given k);
      owners = λ k h. omega (arith, c.shared_slice_known-3-1.given k);
      minutes = λ p h. omega (arith, c.shared_slice_known-4-1.given p);
      targets = c.requires.by_index;
      uncovered = omega (arith, u.fits);
    } in
    record { slots_in_bounds = c.requires.slots_in_bounds; people_in_bounds = c.requires.people_in_bounds; uncovered_in_bounds = omega (arith, listing-fits L F, c.requires.slots_bound) }
