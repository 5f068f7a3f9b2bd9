-- `rota::draws::play` meets its contract. Assumes nothing.
use Rattle.std.proofs.Common.{◌≡◌, ◌<◌, length, arith, rules}
use Rattle.owners.specs.Derived.{plan, derived}
use Rattle.rota.proofs.Listed.{playing-starts, next-asks, next-within, playing-more, playing-ends}
use Rattle.rota.proofs.draws.play.Goals as goal

pub bounds-draws-i : goal.bounds-draws-i
bounds-draws-i c =
    let i = c.loop-i.invariant in
    next-within _ _ _ _ _ _ _ _ _ _ _ i.0 _ _ _ _ i.1 c.loop-i-test.true

pub loop-i-init : goal.loop-i-init
loop-i-init c =
    let a = c.args in (
      c.begin-b.ensures,
      playing-starts (plan a.people a.slots a.starts.now a.ends.now) a.avail.now a.units a.begins.now a.frozen.now a.count
          a.owners.now (derived a.sets.now a.minutes.now a.totals.now) a.answers.now a.draws.now c.begin-b.result c.begin-b.ensures,
    )

pub offset_bounds-draws-i : goal.offset_bounds-draws-i
offset_bounds-draws-i c =
    let i = c.loop-i.invariant in
    let h : c.loop-i.i < length c.args.draws.now = next-within _ _ _ _ _ _ _ _ _ _ _ i.0 _ _ _ _ i.1 c.loop-i-test.true in
    search (rules, h)

pub step_at-requires : goal.step_at-requires
step_at-requires c =
    let i = c.loop-i.invariant in
    next-asks _ _ _ _ _ _ _ _ _ _ _ i.0 _ _ _ _ i.1 c.loop-i-test.true

pub loop-i-preserved : goal.loop-i-preserved
loop-i-preserved c =
    let i = c.loop-i.invariant in
    (i.0, playing-more _ _ _ _ _ _ _ _ _ _ _ i.0 _ _ _ _ i.1 c.loop-i-test.true _ _ _ c.step_at.ensures)

pub returns : goal.returns
returns c =
    let i = c.loop-i.invariant in
    let done : c.loop-i.i ≡ c.begin-b.result.todo = omega (arith, i.1.within) in
    playing-ends _ _ _ _ _ _ _ _ _ _ _ i.0 _ _ _ _ i.1 done
