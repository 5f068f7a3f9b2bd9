-- `store::entries::count` meets its contract. Assumes nothing.
use mathlib.Core.Path.{sym, ap, ◌∙◌}
use Rattle.std.specs.Prelude.{Err}
use native.Mathlib.Omega.{arith}
use Rattle.std.proofs.lemmas.Result.{err_from_is_err_and}
use Rattle.store.proofs.Outcomes.{laid_ok, laid_err, count-held, count-short, count-unlaid}
use Rattle.store.proofs.entries.count.Goals as goal

pub returns-then-used-area : goal.returns-then-used-area
returns-then-used-area c =
    let j = laid_ok _ _ _ c.laid_count.ensures c.in_ok-count.was in
    count-held _ _ _ j.0 (omega arith) j.1

pub returns-else-used-area : goal.returns-else-used-area
returns-else-used-area c =
    let j = laid_ok _ _ _ c.laid_count.ensures c.in_ok-count.was in
    count-short _ _ c.in_ok-count.count j.0 (omega arith)

pub returns-in_err-count : goal.returns-in_err-count
returns-in_err-count c =
    let j = laid_err _ _ _ c.laid_count.ensures c.in_err-count.was in
    let p = err_from_is_err_and c.from_residual.result c.from_residual.ensures.1 in
    p.1 ∙ ap Err (p.2 ∙ sym j.1) ∙ count-unlaid _ _ j.0
