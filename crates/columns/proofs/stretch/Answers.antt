-- `columns::stretch` meets its contract. Assumes nothing.
use mathlib.Core.Path.{refl, sym, ◌∙◌}
use native.Mathlib.Omega.{arith}
use Rattle.paper.proofs.Rows.{said}
use Rattle.columns.proofs.Parts.{stretch-says, handed, nothing-handed}
use Rattle.columns.proofs.stretch.Goals as goal

pub part_at-requires : goal.part_at-requires
part_at-requires c =
    let whole = stretch-says _ _ _ _ _ (sym (said _ c.stretch_refusal-number.ensures) ∙ c.if-number-eq0.true) in
    record { sound = whole.0; slot_lt_slots = whole.1 }

pub returns-then-number-eq0 : goal.returns-then-number-eq0
returns-then-number-eq0 c =
    handed _ _ _ _ _ _ _ _ _ (said _ c.stretch_refusal-number.ensures) c.if-number-eq0.true c.part_at.ensures

pub returns : goal.returns
returns c =
    nothing-handed _ _ _ _ _ _ _ _ _ (said _ c.stretch_refusal-number.ensures) c.if-number-eq0.false
    (record { block = refl; place = omega arith; entries = refl })
