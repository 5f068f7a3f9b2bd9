-- `owners::scan::find_unknown` meets its contract. Assumes nothing.
use Rattle.std.proofs.Common.{sym, ap, ◌∙◌}
use Rattle.paper.proofs.Count.{all_none, all_more}
use Rattle.owners.specs.Derived.{known_by}
use Rattle.owners.specs.Recount.{known_at}
use Rattle.owners.proofs.Scans.{scan-fails, scan-ends}
use Rattle.owners.proofs.scan.find_unknown.Goals as goal

pub loop-k-init : goal.loop-k-init
loop-k-init c = all_none _

pub loop-k-preserved : goal.loop-k-preserved
unfolding known_at
loop-k-preserved c =
    let test = sym (c.known_by.ensures ∙ ap (known_by _) c.owner_at.ensures) in
    all_more _ _ c.loop-k.invariant (test ∙ c.if-not-known_by.false)

pub returns-then-not-known_by : goal.returns-then-not-known_by
unfolding known_at
returns-then-not-known_by c =
    let test = sym (c.known_by.ensures ∙ ap (known_by _) c.owner_at.ensures) in
    scan-fails _ _ _ c.loop-k-test.true c.loop-k.invariant (test ∙ c.if-not-known_by.true)

pub returns : goal.returns
returns c = scan-ends _ _ _ c.loop-k.auto.k-end c.loop-k-test.false c.loop-k.invariant
