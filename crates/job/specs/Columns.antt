-- The fields of the records of a kind, as columns. Assumes nothing.
use Rattle.std.specs.Prelude.{List, map, ℕ, ◌+◌, ◌*◌, Float, replicate}
use Rattle.std.specs.Float.{binary64}
use Rattle.std.specs.Float.Ieee.{of_bits}
use Rattle.paper.specs.Count.{over}
use Rattle.records.specs.Fields.{le}

-- n numbers of `width` bytes, the first at `at`, each `stride` bytes after the one before; room for 1,024
unfoldable pub column : ℕ → List ℕ → ℕ → ℕ → ℕ → List ℕ
column width s at stride n = over (λ k. le width s (at + k * stride)) n (replicate 1024 0)

-- n patterns of eight bytes, each as an f64; every NaN pattern is a NaN
unfoldable pub float_column : List ℕ → ℕ → ℕ → ℕ → List Float
float_column s at stride n = map (of_bits binary64) (column 8 s at stride n)
