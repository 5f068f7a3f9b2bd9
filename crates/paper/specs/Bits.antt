-- The bits of a number. Assumes nothing.
use Rattle.std.specs.Prelude.{ℕ, ◌/◌, ◌%◌, ◌^◌}

-- bit k of w: 0 or 1
unfoldable pub bit_of : ℕ → ℕ → ℕ
bit_of w k = w / 2 ^ k % 2
