-- `rota::play::play_refusal` meets its contract. Assumes nothing.
use Rattle.rota.proofs.Entered.{play-number}
use Rattle.rota.proofs.play.play_refusal.Goals as goal

pub returns : goal.returns
returns c = play-number _ _ _ _ _ _ _ _ _ _ _ _ c.recounted.ensures c.play_room_ok.ensures
