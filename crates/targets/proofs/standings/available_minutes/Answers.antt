-- `targets::standings::available_minutes` meets its contract: the total is that of the slots passed. Assumes nothing.
use Rattle.std.proofs.Common.{◌≡◌, ℕ, ◌+◌, ◌≤◌, sym, ◌∙◌, ap₂, arith, rules}
use Rattle.paper.specs.Count.{sum}
use Rattle.paper.proofs.Count.{sum-none, sum_more, sum_done}
use Rattle.targets.specs.Figures.{minutes_if_available, available_minutes}
use Rattle.targets.proofs.Minutes.{available-part}
use Rattle.targets.proofs.standings.available_minutes.Goals as goal

pub loop-k-init : goal.loop-k-init
loop-k-init c =
    let a = c.args in
    (search rules, sym (sum-none (minutes_if_available a.starts.now a.ends.now a.avail.now a.person)))

-- what the total is after one turn
more : (f : ℕ → ℕ) (k total m : ℕ) → total ≡ sum k f → m ≡ f k → total + m ≡ sum (k + 1) f
more f k total m is got = ap₂ (λ (x y : ℕ). x + y) is got ∙ sym (sum_more k f)

pub overflow_add-total : goal.overflow_add-total
overflow_add-total c =
    let a = c.args in
    let f = minutes_if_available a.starts.now a.ends.now a.avail.now a.person in
    let n : c.loop-k.k + 1 ≤ a.slots = omega arith in
    let h = available-part a.slots a.starts.now a.ends.now a.avail.now a.person c.requires.1 (c.loop-k.k + 1) n in
    omega (arith, more f _ _ _ c.loop-k.invariant.1 c.minutes_if_available-total.ensures, h)

pub loop-k-preserved : goal.loop-k-preserved
loop-k-preserved c =
    let a = c.args in
    let f = minutes_if_available a.starts.now a.ends.now a.avail.now a.person in
    (omega arith, more f _ _ _ c.loop-k.invariant.1 c.minutes_if_available-total.ensures)

pub returns : goal.returns
unfolding available_minutes
returns c =
    let a = c.args in
    sum_done a.slots c.loop-k.k c.loop-k.total (minutes_if_available a.starts.now a.ends.now a.avail.now a.person)
    (omega arith) (omega arith) c.loop-k.invariant.1
