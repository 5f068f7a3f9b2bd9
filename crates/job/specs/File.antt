-- The layout of a job file, and refusal 13. Assumes nothing.
use Rattle.std.specs.Prelude.{◌≡◌, Bool, ◌&&◌, List, [], ◌∷◌, ℕ, suc, ◌+◌, ◌-◌, ◌*◌, ◌≤◌, ◌<◌, leb, ltb, eqb, length, get_or, replicate}
use Rattle.paper.specs.Count.{all, over}
use Rattle.records.specs.Fields.{le}
use Rattle.records.specs.Records.{Layout, layout, Rec, file_of, InOrder, bodies, block_at, count_of, walk_ok}

-- the most bytes of a job file
abbrev pub file_most : ℕ
file_most = 49152

-- kinds 1 to 7 with the sizes of their bodies: settings, base, person, range, freeze, owner, draw
abbrev pub job_sizes : List ℕ
job_sizes = 8 ∷ 8 ∷ 12 ∷ 10 ∷ 4 ∷ 4 ∷ 6 ∷ 0 ∷ []

abbrev pub job_layout : Layout
job_layout = layout 1 7 job_sizes

-- for each kind how many records, and where they begin
unfoldable pub job_counts : List ℕ → List ℕ
job_counts s = over (count_of job_layout s) 7 (replicate 8 0)

unfoldable pub job_starts : List ℕ → List ℕ
job_starts s = over (block_at job_layout s) 7 (replicate 8 0)

-- the slot that the owner record k names, where the records begin at `at`; and of n records the slots rise
unfoldable pub owner_slot : List ℕ → ℕ → ℕ → ℕ
owner_slot s at k = le 2 s (at + k * 8 + 4)

unfoldable pub rising : List ℕ → ℕ → ℕ → Bool
rising s at n = all (n - 1) (λ k. ltb (owner_slot s at k) (owner_slot s at (k + 1)))

-- beside the walk: one settings record; at most one freeze; the owners' slots rise
unfoldable pub rest_ok : List ℕ → ℕ → ℕ → ℕ → ℕ → Bool
rest_ok s settings freezes at owners =
    eqb settings 1 && (leb freezes 1 && rising s at owners)

-- the layout is kept
unfoldable pub file_ok : List ℕ → Bool
file_ok s =
    walk_ok job_layout file_most s && rest_ok s (count_of job_layout s 0) (count_of job_layout s 4) (block_at job_layout s 5) (count_of job_layout s 5)

-- ---- the same in the paper's words

-- a sequence of whole records, as many of each kind as there may be
pub record JobRecords (rs : List Rec) : Type 0 where
  pub order : InOrder job_layout rs
  pub settings : length (bodies 1 rs) ≡ 1
  pub freezes : length (bodies 5 rs) ≤ 1
  pub slots-rise : (k : ℕ) → suc k < length (bodies 6 rs) → le 2 (get_or (bodies 6 rs) k []) 0 < le 2 (get_or (bodies 6 rs) (suc k) []) 0

-- s is the file of such a sequence, and not too long
pub record JobFile (s : List ℕ) : Type 0 where
  pub records : List Rec
  pub right : JobRecords records
  pub whole : s ≡ file_of records
  pub short : length s ≤ file_most
