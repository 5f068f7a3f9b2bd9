-- `boltraven_c::recording_c::boltraven_begin_recording` meets its contract. Assumes nothing.
use mathlib.Core.Path.{ap, ◌∙◌}
use Rattle.boltraven_c.specs.Numbers.{refusal_number}
use Rattle.boltraven_c.proofs.recording_c.boltraven_begin_recording.Goals as goal

pub returns : goal.returns
returns c =
    let E = c.begin_recording-refusal.ensures in
    record { number = c.refusal_number.ensures ∙ ap refusal_number E.said; left = E.left }
