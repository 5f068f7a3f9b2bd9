-- What contracts of private functions alone cite. Assumes nothing.
use Rattle.std.specs.Prelude.{◌≡◌, true, List, ℕ, ◌+◌, get_or}
use Rattle.records.specs.Fields.{le}
use Rattle.records.specs.Heads.{whole_at}
use Rattle.units.specs.declared.Settings.{Settings}

-- a whole record stands at a place, of this size and kind
pub record Headed (s : List ℕ) (size kind at : ℕ) : Type 0 where
  pub whole : whole_at s at ≡ true
  pub size_is : size ≡ le 2 s at
  pub kind-is : kind ≡ le 2 s (at + 2)

-- the figures in the eight bytes after the head at a place
unfoldable pub figures_at : List ℕ → ℕ → Settings
figures_at s at = record {
  fairness = get_or s (at + 4) 0;
  lock = get_or s (at + 5) 0;
  boundary = get_or s (at + 6) 0;
  edition = get_or s (at + 7) 0;
  value = le 2 s (at + 8);
  days = le 2 s (at + 10);
}
