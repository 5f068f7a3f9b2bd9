-- `store::entries::laid_count` meets its contract. Assumes nothing.
use native.Mathlib.Omega.{arith}
use mathlib.Core.Path.{sym, ◌∙◌}
use borrow.Author.Tests.{eq-eqb, ne_eqb}
use Rattle.store.proofs.Outcomes.{layout-short, layout-read, count-read, laid-kept, laid-not}
use Rattle.store.proofs.entries.laid_count.Goals.{then-area-used-via-then-area-used, then-area-used-via-else-area-used+then-w-s}
use Rattle.store.proofs.entries.laid_count.Goals as goal

pub returns-then-area-used : goal.returns-then-area-used
returns-then-area-used c =
    let u = c.used_part-s.ensures in
    let w = c.walk-w.ensures in
    let n = count-read _ _ _ _ u w.0 in
    elim c.then-area-used.branch [
      | then-area-used-via-then-area-used b ↦ laid-kept _ _ _ (sym (layout-short _ _ (omega (arith, b.if-area-used.true)))) n
      | then-area-used-via-else-area-used+then-w-s b ↦
          laid-kept _ _ _ (sym (layout-read _ _ _ _ _ u (omega (arith, b.if-area-used.false)) w.0 w.1) ∙ eq-eqb _ _ b.if-w-s.true) n
    ]

pub returns : goal.returns
returns c =
    let u = c.used_part-s.ensures in
    let w = c.walk-w.ensures in
    laid-not _ _ (sym (layout-read _ _ _ _ _ u (omega (arith, c.if-area-used.false)) w.0 w.1) ∙ ne_eqb _ _ c.if-w-s.false)
