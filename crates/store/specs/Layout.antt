-- The layout of a store: right records one after the other, and refusal 13. Assumes nothing.
use Rattle.std.specs.Prelude.{◌≡◌, Bool, ◌&&◌, ◌||◌, List, ℕ, ◌≤◌, ◌<◌, leb, ltb, eqb, length, get_or}
use Rattle.records.specs.Fields.{Bytes}
use Rattle.records.specs.Records.{Rec, record_of, file_of, lead}
use Rattle.records.specs.Heads.{found_at, whole_at, place_of}

-- the most records; the kinds: the old body, the body with its edition, and on from there up to the last the newer ones
abbrev pub records_most : ℕ
records_most = 128

abbrev pub old_kind : ℕ
old_kind = 32

abbrev pub edition_kind : ℕ
edition_kind = 33

abbrev pub last_kind : ℕ
last_kind = 63

-- a body of eight bytes; an old one has 0 where the edition stands
unfoldable pub body_right : Rec → Bool
body_right r = eqb (length r.body) 8 && (eqb r.kind edition_kind || eqb (get_or r.body 3 0) 0)

-- a record that a store may have: a newer one has any body
unfoldable pub record_right : Rec → Bool
record_right r = leb old_kind r.kind && (leb r.kind last_kind && (ltb edition_kind r.kind || body_right r))

-- one stands whole at a place
unfoldable pub right_at : List ℕ → ℕ → Bool
right_at s at = whole_at s at && record_right (found_at s at)

-- how many stand one after the other from the first byte on, `most` at most; and those of a store
unfoldable pub count_up_to : List ℕ → ℕ → ℕ
count_up_to s most = lead (λ k. right_at s (place_of s k)) most

abbrev pub count_in : List ℕ → ℕ
count_in s = count_up_to s records_most

-- the layout is kept: nothing is left over after them
unfoldable pub is_store : List ℕ → Bool
is_store s = eqb (place_of s (count_in s)) (length s)

-- ---- the same in the paper's words

-- a right record: of kind 32 to 63; of kind 32 or 33 with a body of eight bytes, of kind 32 with 0 in its fourth
pub record RightRecord (r : Rec) : Type 0 where
  pub least : 32 ≤ r.kind
  pub most : r.kind ≤ 63
  pub known : r.kind ≤ 33 → length r.body ≡ 8
  pub zero-byte : r.kind ≡ 32 → get_or r.body 3 0 ≡ 0
  pub size : length r.body ≤ 65535
  pub bytes : Bytes r.body

-- s is the bytes of the records rs, each right, 128 at most
pub record StoreOf (rs : List Rec) (s : List ℕ) : Type 0 where
  pub each : (k : ℕ) → k < length rs → RightRecord (record_of rs k)
  pub few : length rs ≤ 128
  pub whole : s ≡ file_of rs

-- s is the bytes of such a sequence
pub record IsStore (s : List ℕ) : Type 0 where
  pub records : List Rec
  pub laid : StoreOf records s
