-- `job::shown::last_line` meets its contract. Assumes nothing.
use borrow.Author.Rules.{rules}
use Rattle.job.proofs.Shows.{last-asked, last-room, last-refused, last_written}
use Rattle.job.proofs.shown.last_line.Goals as goal

pub last_size-size-requires : goal.last_size-size-requires
last_size-size-requires c = search rules

pub accepted-requires : goal.accepted-requires
accepted-requires c = search rules

pub check-short-requires : goal.check-short-requires
check-short-requires c = search rules

pub put_last-requires : goal.put_last-requires
put_last-requires c =
    let a = c.args in
    last-room a.end a.line.now _
    (last-asked a.end a.line.now _ _ _ c.last_size-size.ensures c.accepted.ensures c.check-short.ensures)
    c.if-short-ne0.false

pub shape_of-line : goal.shape_of-line
shape_of-line c = search rules

pub returns : goal.returns
returns c =
    let a = c.args in
    last_written a.end a.line.now _
    (last-asked a.end a.line.now _ _ _ c.last_size-size.ensures c.accepted.ensures c.check-short.ensures) _ _
    c.if-short-ne0.false c.put_last.ensures

pub returns-then-short-ne0 : goal.returns-then-short-ne0
returns-then-short-ne0 c =
    let a = c.args in
    last-refused a.end a.line.now _
    (last-asked a.end a.line.now _ _ _ c.last_size-size.ensures c.accepted.ensures c.check-short.ensures)
    c.if-short-ne0.true
