-- `store::entries::save` meets its contract. Assumes nothing.
use native.Mathlib.Omega.{arith}
use mathlib.Core.Path.{sym, ap, ◌∙◌}
use Rattle.std.specs.Prelude.{Err}
use Rattle.store.proofs.Counted.{counted-few}
use Rattle.std.proofs.lemmas.Result.{err_from_is_err_and}
use Rattle.store.proofs.Outcomes.{laid_ok, laid_err, save-unlaid, save-number, save-answered, save-refused, save-room}
use Rattle.store.proofs.entries.save.Goals as goal

pub overflow_add-result : goal.overflow_add-result
overflow_add-result c =
    omega (arith, counted-few _ _ _ (laid_ok _ _ _ c.laid_count.ensures c.in_ok-count.was).1)

pub overflow_add-result-then-n-eq0 : goal.overflow_add-result-then-n-eq0
overflow_add-result-then-n-eq0 c =
    let j = laid_ok _ _ _ c.laid_count.ensures c.in_ok-count.was in
    let n = save-number _ _ _ j.0 _ _ _ j.1 c.room_ok-room.ensures c.save_refusal-n.ensures in
    omega (arith, (save-room _ _ _ (sym n ∙ c.if-n-eq0.true)).0)

pub returns-then-n-eq0 : goal.returns-then-n-eq0
returns-then-n-eq0 c =
    let j = laid_ok _ _ _ c.laid_count.ensures c.in_ok-count.was in
    let n = save-number _ _ _ j.0 _ _ _ j.1 c.room_ok-room.ensures c.save_refusal-n.ensures in
    save-answered _ _ _ _ _ _ _ n c.if-n-eq0.true j.1
    c.body_of-body.ensures c.put_record.ensures.1

pub returns-else-n-eq0 : goal.returns-else-n-eq0
returns-else-n-eq0 c =
    let j = laid_ok _ _ _ c.laid_count.ensures c.in_ok-count.was in
    save-refused _ _ _ _
    (save-number _ _ _ j.0 _ _ _ j.1 c.room_ok-room.ensures c.save_refusal-n.ensures) c.if-n-eq0.false

pub returns-in_err-count : goal.returns-in_err-count
returns-in_err-count c =
    let j = laid_err _ _ _ c.laid_count.ensures c.in_err-count.was in
    let p = err_from_is_err_and c.from_residual.result c.from_residual.ensures.1 in
    let w = save-refused _ _ c.args.settings 13 (sym (save-unlaid _ _ j.0 _)) (λ z. omega (arith, z)) in
    record { said = p.1 ∙ ap Err (p.2 ∙ sym j.1) ∙ w.said; left = w.left }
