-- A recording as a list of records: how draws and blocks are written, and what stands at the front for each answer of a reader. Assumes nothing.
use Rattle.std.specs.Prelude.{◌≡◌, ◌⊎◌, List, [], ◌∷◌, ◌++◌, map, ℕ, ◌≤◌, ◌<◌, length, get_or, Result, Ok, Err}
use Rattle.paper.specs.Limits.{draws_most}
use Rattle.records.specs.Fields.{le_bytes}
use Rattle.records.specs.Records.{Rec, bytes_of, file_of, record_of}
use Rattle.rota.specs.Moves.{Draw, draw}
use Rattle.replay.specs.declared.BlockRead.{BlockRead}
use Rattle.replay.specs.declared.BlockRead.TheVariants as read
use Rattle.replay.specs.Reading.{draw_kind, close_kind, blocks_most}

-- ---- what is written

-- a draw, and the answer that the live search gave
pub record Recorded : Type 0 where
  pub draw : Draw
  pub answer : ℕ

-- its record, and the record that closes a block
unfoldable pub draw_record : Recorded → Rec
draw_record d = record {
  kind = draw_kind;
  body = le_bytes 2 d.draw.kind ++ (le_bytes 2 d.draw.first ++ (le_bytes 2 d.draw.second ++ le_bytes 2 d.answer));
}

unfoldable pub close_record : Rec
close_record = record { kind = close_kind; body = [] }

-- the bytes of draws one after the other, and of a closed block
unfoldable pub draws_bytes : List Recorded → List ℕ
draws_bytes ds = file_of (map draw_record ds)

unfoldable pub block_bytes : List Recorded → List ℕ
block_bytes ds = file_of (map draw_record ds ++ (close_record ∷ []))

-- ---- what may stand there

-- three numbers of two bytes, and an answer of at most 2
pub record Recordable (d : Recorded) : Type 0 where
  pub kind : d.draw.kind < 65536
  pub first : d.draw.first < 65536
  pub second : d.draw.second < 65536
  pub answer : d.answer ≤ 2

-- the record at the front of u is a recorded draw; it closes a block
pub record DrawFirst (u : List ℕ) : Type 0 where
  pub draw : Recorded
  pub may : Recordable draw
  pub rest : List ℕ
  pub is : u ≡ bytes_of (draw_record draw) ++ rest

pub record CloseFirst (u : List ℕ) : Type 0 where
  pub rest : List ℕ
  pub is : u ≡ bytes_of close_record ++ rest

-- the record at the front of u is faulty, by its number; n draws of its block stand before it, and so many blocks are closed. 13: it is neither, or
-- nothing whole; else 1: no block may be there, or no draw more in this one
pub data Faulty (blocks n : ℕ) (u : List ℕ) : ℕ → Type 0 where
  neither : (DrawFirst u → ⊥) → (CloseFirst u → ⊥) → Faulty blocks n u 13
  block-many : DrawFirst u ⊎ CloseFirst u → blocks_most ≤ blocks → Faulty blocks n u 1
  draw-many : DrawFirst u → draws_most ≤ n → Faulty blocks n u 1

-- draw k of a block, which isn't faulty; and a block's draws
pub record FineDraw (blocks k : ℕ) (d : Recorded) : Type 0 where
  pub may : Recordable d
  pub place : k < draws_most
  pub block : blocks < blocks_most

abbrev pub recorded_of : List Recorded → ℕ → Recorded
recorded_of ds k = get_or ds k (record { draw = draw 0 0 0; answer = 0 })

abbrev pub FineDraws : ℕ → List Recorded → Type 0
FineDraws blocks ds = (k : ℕ) → k < length ds → FineDraw blocks k (recorded_of ds k)

-- ---- what is read

-- t begins with a closed block of n draws, and what follows it begins at `next`
pub record BlockFirst (t : List ℕ) (blocks n next : ℕ) : Type 0 where
  pub draws : List Recorded
  pub fine : FineDraws blocks draws
  pub may : blocks < blocks_most
  pub rest : List ℕ
  pub is : t ≡ block_bytes draws ++ rest
  pub count : n ≡ length draws
  pub ends : next ≡ length (block_bytes draws)

-- t isn't empty; it begins with draws that aren't faulty, and the record after them is the first faulty one, of number k
pub record FaultFirst (t : List ℕ) (blocks k : ℕ) : Type 0 where
  pub some : t ≡ [] → ⊥
  pub draws : List Recorded
  pub fine : FineDraws blocks draws
  pub rest : List ℕ
  pub is : t ≡ draws_bytes draws ++ rest
  pub faulty : Faulty blocks (length draws) rest k

-- what each answer says of t
abbrev pub ReadOf : List ℕ → ℕ → Result BlockRead ℕ → Type 0
ReadOf t blocks (Ok (read.Block n next)) = BlockFirst t blocks n next
ReadOf t blocks (Ok read.End) = t ≡ []
ReadOf t blocks (Err k) = FaultFirst t blocks k

-- four columns hold draws and their answers
pub record Holds (ds : List Recorded) (ks fs ss rs : List ℕ) : Type 0 where
  pub draws : (k : ℕ) → k < length ds → get_or ks k 0 ≡ (recorded_of ds k).draw.kind
  pub firsts : (k : ℕ) → k < length ds → get_or fs k 0 ≡ (recorded_of ds k).draw.first
  pub seconds : (k : ℕ) → k < length ds → get_or ss k 0 ≡ (recorded_of ds k).draw.second
  pub answers : (k : ℕ) → k < length ds → get_or rs k 0 ≡ (recorded_of ds k).answer

-- ---- where the job ends

-- a record that is no draw of a recording and closes no block
pub record JobRecord (r : Rec) : Type 0 where
  pub size : length r.body < 65536
  pub kind : r.kind < 65536
  pub no-draw : r.kind ≡ draw_kind → ⊥
  pub no-close : r.kind ≡ close_kind → ⊥

-- u begins with a head of kind 8 or 9
pub record OpensFirst (u : List ℕ) : Type 0 where
  pub size : ℕ
  pub kind : ℕ
  pub opens : (kind ≡ draw_kind) ⊎ (kind ≡ close_kind)
  pub rest : List ℕ
  pub is : u ≡ le_bytes 2 size ++ (le_bytes 2 kind ++ rest)

-- s is whole records of other kinds, and then such a head
pub record JobThen (s : List ℕ) (at : ℕ) : Type 0 where
  pub records : List Rec
  pub each : (k : ℕ) → k < length records → JobRecord (record_of records k)
  pub rest : List ℕ
  pub is : s ≡ file_of records ++ rest
  pub opens : OpensFirst rest
  pub ends : at ≡ length (file_of records)

-- the job ends there, or with the bytes where there is no such place
pub data JobEnds (s : List ℕ) : ℕ → Type 0 where
  before : {at : ℕ} → JobThen s at → JobEnds s at
  with-bytes : ((at : ℕ) → JobThen s at → ⊥) → JobEnds s (length s)
