-- `job::lent::begin_recording` meets its contract. Assumes nothing.
use mathlib.Core.Path.{sym, ◌∙◌}
use Rattle.job.specs.Begun.{ready_room}
use Rattle.job.proofs.Lays.{begun-room, lent-kept, lent_laid}
use Rattle.job.proofs.lent.begin_recording.Goals as goal

pub lay_ready-requires : goal.lay_ready-requires
lay_ready-requires c =
    sym c.ready_room-board.ensures
    ∙ (begun-room _ _ _ _ _ c.both.ensures c.begin-b.ensures c.if-refusal-eq0.true).0

pub lay_rota-requires : goal.lay_rota-requires
lay_rota-requires c =
    sym c.rota_room-rota.ensures
    ∙ (begun-room _ _ c.ready_room-board.result _ _ c.both.ensures c.begin-b.ensures c.if-refusal-eq0.true).1

pub returns-then-refusal-eq0 : goal.returns-then-refusal-eq0
unfolding ready_room
returns-then-refusal-eq0 c =
    lent_laid _ _ _ _ _ _ c.ready_room-board.ensures c.rota_room-rota.ensures
    c.both.ensures c.begin-b.ensures c.if-refusal-eq0.true _ _ _
    c.lay_ready.ensures c.lay_rota.ensures.owners_after
    c.lay_rota.ensures.totals_after

pub returns : goal.returns
unfolding ready_room
returns c =
    lent-kept _ _ _ _ _ _ c.ready_room-board.ensures c.rota_room-rota.ensures
    c.both.ensures c.begin-b.ensures c.if-refusal-eq0.false
