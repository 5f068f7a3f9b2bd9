-- What a program's one word asks for. Assumes nothing.
use Rattle.std.specs.Prelude.{Bool, ◌&&◌, cond, List, [], ◌∷◌, ℕ, eqb, ltb, length, get_or}
use Rattle.stored.specs.Columns.{same}
use Rattle.program.specs.declared.Request.{Request}
use Rattle.program.specs.declared.Request.TheVariants as asks

-- "--help" and "--version", letter by letter
abbrev pub help_word : List ℕ
help_word = 45 ∷ 45 ∷ 104 ∷ 101 ∷ 108 ∷ 112 ∷ []

abbrev pub version_word : List ℕ
version_word = 45 ∷ 45 ∷ 118 ∷ 101 ∷ 114 ∷ 115 ∷ 105 ∷ 111 ∷ 110 ∷ []

-- a word that begins with -
unfoldable pub option_by : List ℕ → Bool
option_by w = ltb 0 (length w) && eqb (get_or w 0 0) 45

unfoldable pub asked_by : List ℕ → Request
asked_by w = cond (same w help_word) asks.Help (cond (same w version_word) asks.Version (cond (option_by w) asks.Unknown asks.File))
