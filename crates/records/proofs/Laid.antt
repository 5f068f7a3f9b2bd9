-- A file as the walk goes through it, kind by kind: what its laws are said of. Assumes nothing.
use mathlib.Core.Path.{◌≡◌}
use mathlib.Core.List.{List, [], ◌∷◌}
use Prim.Native.Nat.{ℕ, suc, ◌+◌, ◌≤◌, ◌<◌}
use lib.ListN.{length, get_or}
use Rattle.records.specs.Fields.{Bytes}
use Rattle.records.specs.Records.{Layout, Rec, file_of}

-- Laid L i rs: rs is a sequence of whole records, of kind first + i at least, that never fall, each body of its kind's size
pub data Laid (L : Layout) : ℕ → List Rec → Type 0 where
  done : Laid L L.kinds []
  next : {i : ℕ} {rs : List Rec} → i < L.kinds → Laid L (suc i) rs → Laid L i rs
  more : {i : ℕ} {rs : List Rec} (body : List ℕ) → i < L.kinds → length body ≡ get_or L.sizes i 0 → Bytes body → Laid L i rs
      → Laid L i (record { kind = L.first + i; body = body } ∷ rs)

-- what a layout must be for its records to be read back: sizes and kinds fit their two bytes
pub record LayoutFits (L : Layout) : Type 0 where
  pub sizes : (i : ℕ) → get_or L.sizes i 0 < 65536
  pub kinds : L.first + L.kinds ≤ 65536

-- s is the file of a sequence that the layout allows
pub record IsFile (L : Layout) (s : List ℕ) : Type 0 where
  pub records : List Rec
  pub laid : Laid L 0 records
  pub whole : s ≡ file_of records
