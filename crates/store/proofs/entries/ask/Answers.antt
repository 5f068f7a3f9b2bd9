-- `store::entries::ask` meets its contract. Assumes nothing.
use mathlib.Core.Path.{sym, ap, ◌∙◌}
use native.Mathlib.Omega.{arith}
use Rattle.std.specs.Prelude.{Err}
use Rattle.std.proofs.lemmas.Result.{err_from_is_err_and}
use Rattle.store.proofs.Outcomes.{laid_ok, laid_err, ask-number, ask-answered, ask-refused, ask-unlaid}
use Rattle.store.proofs.entries.ask.Goals as goal

pub kept_in-kept-requires : goal.kept_in-kept-requires
kept_in-kept-requires c = (laid_ok _ _ _ c.laid_count.ensures c.in_ok-count.was).1

pub returns-then-n-eq0 : goal.returns-then-n-eq0
returns-then-n-eq0 c =
    let k = c.kept_in-kept.ensures in
    let j = laid_ok _ _ _ c.laid_count.ensures c.in_ok-count.was in
    ask-answered _ _ _ _ _ _ (ask-number _ _ _ j.0 _ _ k c.ask_refusal-n.ensures) c.if-n-eq0.true k
    c.answer_of.ensures

pub returns-else-n-eq0 : goal.returns-else-n-eq0
returns-else-n-eq0 c =
    let k = c.kept_in-kept.ensures in
    let j = laid_ok _ _ _ c.laid_count.ensures c.in_ok-count.was in
    ask-refused _ _ _ _ (ask-number _ _ _ j.0 _ _ k c.ask_refusal-n.ensures) c.if-n-eq0.false

pub returns-in_err-count : goal.returns-in_err-count
returns-in_err-count c =
    let j = laid_err _ _ _ c.laid_count.ensures c.in_err-count.was in
    let p = err_from_is_err_and c.from_residual.result c.from_residual.ensures.1 in
    p.1 ∙ ap Err (p.2 ∙ sym j.1) ∙ ask-refused _ _ _ 13 (sym (ask-unlaid _ _ j.0 _)) (λ z. omega (arith, z))
