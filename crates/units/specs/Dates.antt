-- Dates: minute 0 is Thursday 1970-01-01 00:00, a date is 1,440 minutes, weekdays come round every seven. Assumes nothing.
use Rattle.std.specs.Prelude.{Bool, ℕ, ◌+◌, ◌/◌, ◌%◌, eqb}
use Rattle.paper.specs.Bits.{bit_of}

-- the date of a minute, as a number of days since date 0
unfoldable pub date_of : ℕ → ℕ
date_of minute = minute / 1440

-- the weekday of a date: 0 is Monday, so date 0, a Thursday, has 3
unfoldable pub weekday_of : ℕ → ℕ
weekday_of date = (date + 3) % 7

-- a date is one of the listed days: bit 0 of the mask is Monday
unfoldable pub listed : ℕ → ℕ → Bool
listed mask date = eqb (bit_of mask (weekday_of date)) 1
