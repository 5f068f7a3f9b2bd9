-- Settings of six numbers, and a unit's slots beside the number of the refusal. Assumes nothing.
use Rattle.std.specs.Prelude.{ℕ, Result, Ok, Err}
use Rattle.units.specs.declared.Settings.{Settings}
use Rattle.units.specs.declared.UnitSlots.{UnitSlots}

-- the settings of six numbers
abbrev pub settings_of : ℕ → ℕ → ℕ → ℕ → ℕ → ℕ → Settings
settings_of fairness lock boundary edition value days =
    record { fairness = fairness; lock = lock; boundary = boundary; edition = edition; value = value; days = days }

-- a unit's slots: both ends are written beside the number of the refusal (`answer_refusal`); refused, what was lent for them stays
abbrev pub span_from : ℕ → Result UnitSlots ℕ → ℕ
span_from was (Ok span) = span.from
span_from was (Err n) = was

abbrev pub span_to : ℕ → Result UnitSlots ℕ → ℕ
span_to was (Ok span) = span.to
span_to was (Err n) = was
