-- `job::listing::refusal_line` meets its contract. Below, c_n is what is known N places before c. Assumes nothing.
use Rattle.job.proofs.RefusalLines.{line-asked, line-room, line_refused, line-written}
use Rattle.job.proofs.listing.refusal_line.Goals as goal

pub put_refusal-requires : goal.put_refusal-requires
put_refusal-requires c =
    let a = c.args in
    line-room a.refusal a.line.now _
    (line-asked a.refusal a.line.now _ _ _ c.refusal_size-size.ensures c.accepted.ensures c.check-short.ensures)
    c.if-short-ne0.false

pub returns : goal.returns
returns c =
    let a = c.args in
    line-written a.refusal a.line.now _
    (line-asked a.refusal a.line.now _ _ _ c.refusal_size-size.ensures c.accepted.ensures c.check-short.ensures) _ _
    c.if-short-ne0.false c.put_refusal.ensures

pub returns-then-short-ne0 : goal.returns-then-short-ne0
returns-then-short-ne0 c =
    let a = c.args in
    line_refused a.refusal a.line.now _
    (line-asked a.refusal a.line.now _ _ _ c.refusal_size-size.ensures c.accepted.ensures c.check-short.ensures)
    c.if-short-ne0.true
