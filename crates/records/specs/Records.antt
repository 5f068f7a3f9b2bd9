-- A file as a sequence of records: body length, kind, body. Assumes nothing.
use Rattle.std.specs.Prelude.{◌≡◌, Bool, cond, ◌&&◌, List, [], ◌∷◌, ◌++◌, ℕ, zero, suc, ◌+◌, ◌-◌, ◌*◌, ◌≤◌, ◌<◌, leb, eqb, length, get_or}
use Rattle.paper.specs.Count.{all}
use Rattle.records.specs.Fields.{le, le_bytes, Bytes}

-- ---- what may stand in a file

-- the kinds that a file may have, from `first` on, and how many; kind first + i has a body of the size at i
pub record Layout : Type 0 where
  pub first : ℕ
  pub kinds : ℕ
  pub sizes : List ℕ

abbrev pub layout : ℕ → ℕ → List ℕ → Layout
layout f n s = record { first = f; kinds = n; sizes = s }

-- no more kinds than a walk counts
abbrev pub kinds_most : ℕ → ℕ
kinds_most n = cond (leb n 8) n 8

pub record Rec : Type 0 where
  pub kind : ℕ
  pub body : List ℕ

-- a record as it is written
unfoldable pub bytes_of : Rec → List ℕ
bytes_of r = le_bytes 2 (length r.body) ++ (le_bytes 2 r.kind ++ r.body)

unfoldable pub file_of : List Rec → List ℕ
file_of [] = []
file_of (r ∷ rs) = bytes_of r ++ file_of rs

-- what a layout allows: records of its kinds, each with a body of its size, and no kind below the one before it
pub record Allowed (L : Layout) (r : Rec) : Type 0 where
  pub least : L.first ≤ r.kind
  pub most : r.kind < L.first + L.kinds
  pub size : length r.body ≡ get_or L.sizes (r.kind - L.first) 0
  pub bytes : Bytes r.body

abbrev pub record_of : List Rec → ℕ → Rec
record_of rs k = get_or rs k (record { kind = 0; body = [] })

pub record InOrder (L : Layout) (rs : List Rec) : Type 0 where
  pub each : (k : ℕ) → k < length rs → Allowed L (record_of rs k)
  pub rise : (k : ℕ) → suc k < length rs → (record_of rs k).kind ≤ (record_of rs (suc k)).kind

-- the bodies of the records of a kind, in order
unfoldable pub bodies : ℕ → List Rec → List (List ℕ)
bodies kind [] = []
bodies kind (r ∷ rs) = cond (eqb r.kind kind) (r.body ∷ bodies kind rs) (bodies kind rs)

-- ---- what a reader finds

-- a whole record of this kind and size stands at `at`
unfoldable pub record_at : List ℕ → ℕ → ℕ → ℕ → Bool
record_at s kind size at = leb (at + (4 + size)) (length s) && (eqb (le 2 s at) size && eqb (le 2 s (at + 2)) kind)

-- how many numbers pass p, from 0 on up to the first that doesn't; n at most
unfoldable pub lead : (ℕ → Bool) → ℕ → ℕ
lead p zero = 0
lead p (suc n) = cond (all (suc n) p) (suc n) (lead p n)

-- how many records of this kind and size stand one after the other from `at` on
unfoldable pub block_count : List ℕ → ℕ → ℕ → ℕ → ℕ
block_count s kind size at = lead (λ j. record_at s kind size (at + j * (4 + size))) (length s)

-- where the records of kind first + i begin, and how many they are
unfoldable pub block_at : Layout → List ℕ → ℕ → ℕ
block_at L s zero = 0
block_at L s (suc i) =
    block_at L s i + block_count s (L.first + i) (get_or L.sizes i 0) (block_at L s i) * (4 + get_or L.sizes i 0)

unfoldable pub count_of : Layout → List ℕ → ℕ → ℕ
count_of L s i = block_count s (L.first + i) (get_or L.sizes i 0) (block_at L s i)

-- not too long, and nothing is left over after the last kind
unfoldable pub walk_ok : Layout → ℕ → List ℕ → Bool
walk_ok L limit s = leb (length s) limit && eqb (block_at L s L.kinds) (length s)
