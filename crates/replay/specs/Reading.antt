-- Reading a recording: where its job ends, and the block at the front of the bytes that follow. Assumes nothing.
use Rattle.std.specs.Prelude.{◌≡◌, Bool, ◌&&◌, ◌||◌, not, cond, List, [], ◌∷◌, ℕ, ◌+◌, ◌*◌, leb, ltb, eqb, length, Result, Ok, Err}
use Rattle.paper.specs.Limits.{Test, test, number_of, draws_most}
use Rattle.paper.specs.Rows.{answer_as}
use Rattle.paper.specs.Count.{over}
use Rattle.records.specs.Fields.{le}
use Rattle.records.specs.Records.{record_at, lead}
use Rattle.records.specs.Heads.{place_of}
use Rattle.replay.specs.declared.BlockRead.{BlockRead}
use Rattle.replay.specs.declared.BlockRead.TheVariants as read

-- kind 8 is a recorded draw, with three numbers and the answer as its body; kind 9 closes a block and has none
abbrev pub draw_kind : ℕ
draw_kind = 8

abbrev pub close_kind : ℕ
close_kind = 9

-- the most blocks of a recording
abbrev pub blocks_most : ℕ
blocks_most = 65535

-- ---- where the job ends

-- a head stands at a place; and one of kind 8 or 9
unfoldable pub head_stands : List ℕ → ℕ → Bool
head_stands s at = leb (at + 4) (length s)

unfoldable pub opens_blocks : List ℕ → ℕ → Bool
opens_blocks s at = head_stands s at && (eqb (le 2 s (at + 2)) draw_kind || eqb (le 2 s (at + 2)) close_kind)

-- how many heads of other kinds come before all else
unfoldable pub job_heads : List ℕ → ℕ
job_heads s = lead (λ k. head_stands s (place_of s k) && not (opens_blocks s (place_of s k))) (length s)

-- at the first head of kind 8 or 9; without one all bytes are the job's
unfoldable pub job_end : List ℕ → ℕ
job_end s = let at = place_of s (job_heads s) in cond (opens_blocks s at) at (length s)

-- ---- the block at the front of t, where `blocks` are closed before it

-- a recorded draw at a place: whole, with an answer of at most 2; a close
unfoldable pub draw_at : List ℕ → ℕ → Bool
draw_at t at = record_at t draw_kind 8 at && leb (le 2 t (at + 10)) 2

unfoldable pub close_at : List ℕ → ℕ → Bool
close_at t at = record_at t close_kind 0 at

-- record j of the block, all before it being draws, 12 bytes each. 13: it is a draw or a close; 1: the block may be there, and the draw in it
unfoldable pub record_row : List ℕ → ℕ → ℕ → List Test
record_row t blocks j =
    test 13 (draw_at t (j * 12) || close_at t (j * 12))
    ∷ test 1 (ltb blocks blocks_most && (close_at t (j * 12) || ltb j draws_most)) ∷ []

unfoldable pub fault_at : List ℕ → ℕ → ℕ → ℕ
fault_at t blocks j = number_of (record_row t blocks j)

-- the draws before the first record that is no draw, or a faulty one
unfoldable pub draw_fine : List ℕ → ℕ → ℕ → Bool
draw_fine t blocks j = draw_at t (j * 12) && eqb (fault_at t blocks j) 0

unfoldable pub leading_draws : List ℕ → ℕ → ℕ
leading_draws t blocks = lead (draw_fine t blocks) draws_most

-- nothing is left: the end. Else the record after the leading draws closes the block, or is the first faulty one
unfoldable pub block_read : List ℕ → ℕ → Result BlockRead ℕ
block_read t blocks =
    let n = leading_draws t blocks in
    let f = fault_at t blocks n in
    cond (eqb (length t) 0) (Ok read.End) (answer_as f (read.Block n (n * 12 + 4)))

-- ---- the block in columns

-- how many draws were read
abbrev pub draws_in : Result BlockRead ℕ → ℕ
draws_in (Ok (read.Block n next)) = n
draws_in (Ok read.End) = 0
draws_in (Err k) = 0

-- the number at `off` of each of n records
unfoldable pub fields_of : List ℕ → ℕ → ℕ → List ℕ → List ℕ
fields_of t off n x = over (λ j. le 2 t (j * 12 + off)) n x

-- 2: each column has room for the draws
unfoldable pub columns_room : ℕ → List ℕ → List ℕ → List ℕ → List ℕ → Bool
columns_room n ks fs ss rs = leb n (length ks) && (leb n (length fs) && (leb n (length ss) && leb n (length rs)))

unfoldable pub read_answer : List ℕ → ℕ → List ℕ → List ℕ → List ℕ → List ℕ → Result BlockRead ℕ
read_answer t blocks ks fs ss rs =
    let r = block_read t blocks in cond (columns_room (draws_in r) ks fs ss rs) r (Err 2)

-- the answer r, and the columns at exit: the draws and their answers, and as they were past those
pub record ReadsAs (t : List ℕ) (blocks : ℕ) (ks fs ss rs : List ℕ) (r : Result BlockRead ℕ) (ks' fs' ss' rs' : List ℕ) : Type 0 where
  pub said : r ≡ read_answer t blocks ks fs ss rs
  pub draws : ks' ≡ fields_of t 4 (draws_in r) ks
  pub firsts : fs' ≡ fields_of t 6 (draws_in r) fs
  pub seconds : ss' ≡ fields_of t 8 (draws_in r) ss
  pub recorded : rs' ≡ fields_of t 10 (draws_in r) rs
