-- `rota::checks::play_room_ok` meets its contract. Assumes nothing.
use mathlib.Core.Path.{ap, ◌∙◌}
use mathlib.Core.Bool.{Bool, ◌&&◌}
use lib.Dec.{leb}
use lib.ListN.{length}
use Rattle.rota.specs.Entries.{play_room_ok}
use Rattle.rota.proofs.checks.play_room_ok.Goals as goal

pub returns : goal.returns
unfolding play_room_ok
returns c =
    let a = c.args in
    c.both-2.ensures
    ∙ ap (λ (b : Bool). leb a.units (length a.begins.now) && b)
    (c.both.ensures ∙ ap (λ (b : Bool). leb 16 (length a.frozen.now) && b) c.both-lists.ensures)
