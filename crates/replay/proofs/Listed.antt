-- A block is read exactly where the records of one stand there, and refused exactly by the first faulty record. Assumes nothing.
use Rattle.std.specs.Prelude.{Result, Ok, Err}
use mathlib.Core.Path.{◌≡◌, refl, sym, ap, ap₂, ◌∙◌, subst}
use mathlib.Core.Logic.{◌↔◌, ◌⊎◌, inl, inr, ⊎_elim}
use mathlib.Core.Bool.{Bool, true, false, cond}
use mathlib.Core.List.{List, [], ◌∷◌, ◌++◌, map, map-append, append_assoc}
use Prim.Native.Nat.{ℕ, zero, suc, ◌+◌, ◌*◌, ◌≤◌, ◌<◌}
use native.Mathlib.Numerals.{add-one}
use native.Mathlib.Omega.{arith}
use borrow.Author.Tests.{le-leb, leb-true, lt-ltb, le-ltb, ltb-true}
use lib.Dec.{leb}
use lib.ListN.{length, get_or, take, drop, replicate, length-append, length-replicate}
use lib.Seq.{take-add, take-suc, take-length, drop-drop}
use Rattle.paper.specs.Count.{all}
use Rattle.paper.proofs.Logic.{by-test, both, and-true, lt-or-ge, one-outcome}
use Rattle.paper.proofs.Count.{all-each, all_more, get_d_over}
use Rattle.records.specs.Fields.{le, le_bytes, Bytes}
use Rattle.records.specs.Records.{Rec, bytes_of, file_of, record_at, lead}
use Rattle.records.proofs.Numbers.{le-lt, written-le}
use Rattle.records.proofs.Walks.{lead-all, lead-most, record-says, record_is}
use Rattle.records.proofs.Sequences.{body_at, record-split, kind-there, size-there, room-there, rest-there}
use Rattle.records.proofs.Mixed.{RecFits, found-there, found-field, file-more}
use Rattle.rota.specs.Moves.{Draw, draw}
use Rattle.rota.specs.Plays.{draws_of}
use Rattle.replay.specs.declared.BlockRead.{BlockRead}
use Rattle.replay.specs.declared.BlockRead.TheVariants as read
use Rattle.replay.specs.Reading.{blocks_most, draw_at, close_at, fault_at, draw_fine, leading_draws, block_read, fields_of}
use Rattle.replay.specs.Reading.{columns_room, read_answer, ReadsAs}
use Rattle.replay.specs.Reading as reading
use Rattle.replay.specs.Text.{draws_in, recorded_in}
use Rattle.replay.specs.Listed.{Recorded, draw_record, close_record, draws_bytes, block_bytes, Recordable, DrawFirst, CloseFirst}
use Rattle.replay.specs.Listed.{Faulty, neither, block-many, draw-many, recorded_of, FineDraws, BlockFirst, ReadOf}
use Rattle.replay.specs.Listed.{Holds}
use Rattle.replay.proofs.Records.{fault-closes, fault-close-many, fault-draw-many, fault-block-many, fault-other, fine-is, fine-not}
use Rattle.replay.proofs.Columns.{room_says}
use Rattle.replay.proofs.Records.{Leading, leading-none, leading-more, leading-stops, leading-full, block-end, block-is, block-faulty}

-- ---- a draw that stands at a place, as it was written

-- by the numbers at its places
abbrev recorded_at : List ℕ → ℕ → Recorded
recorded_at s at =
    record { draw = draw (le 2 s (at + 4)) (le 2 s (at + 6)) (le 2 s (at + 8)); answer = le 2 s (at + 10) }

two-more : (s : List ℕ) (at m : ℕ) → Bytes s → at + 2 ≤ length s → take (2 + m) (drop at s) ≡ le_bytes 2 (le 2 s at) ++ take m (drop (at + 2) s)
two-more s at m b h =
    take-add 2 m (drop at s) ∙ ap₂ ◌++◌ (written-le 2 s at b h) (ap (take m) (drop-drop 2 at s))

draw-body : (s : List ℕ) (at : ℕ) → Bytes s → at + 12 ≤ length s → body_at s 8 at ≡ (draw_record (recorded_at s at)).body
unfolding body_at draw_record
draw-body s at b h =
    let p : at + 4 + 2 ≡ at + 6 = omega arith in
    let q : at + 6 + 2 ≡ at + 8 = omega arith in
    let r : at + 8 + 2 ≡ at + 10 = omega arith in
    two-more s (at + 4) 6 b (omega arith)
    ∙ ap (λ (l : List ℕ). le_bytes 2 (le 2 s (at + 4)) ++ l) (ap (λ (n : ℕ). take 6 (drop n s)) p ∙ two-more s (at + 6) 4 b (omega arith)
    ∙ ap (λ (l : List ℕ). le_bytes 2 (le 2 s (at + 6)) ++ l) (ap (λ (n : ℕ). take 4 (drop n s)) q ∙ two-more s (at + 8) 2 b (omega arith)
    ∙ ap (λ (l : List ℕ). le_bytes 2 (le 2 s (at + 8)) ++ l) (ap (λ (n : ℕ). take 2 (drop n s)) r ∙ written-le 2 s (at + 10) b (omega arith))))

pub draw-splits : (s : List ℕ) (at : ℕ) → Bytes s → draw_at s at ≡ true
    → drop at s ≡ bytes_of (draw_record (recorded_at s at)) ++ drop (at + 12) s
unfolding draw_at draw_record
draw-splits s at b t =
    let r = (both (record_at s 8 8 at) (leb (le 2 s (at + 10)) 2) t).0 in
    record-split s 8 8 at b r
    ∙ ap (λ (l : List ℕ). bytes_of (record { kind = 8; body = l }) ++ drop (at + 12) s) (draw-body s at b (record-says s 8 8 at r).0)

draw-may : (s : List ℕ) (at : ℕ) → Bytes s → draw_at s at ≡ true → Recordable (recorded_at s at)
unfolding draw_at
draw-may s at b t = record {
  kind = le-lt 2 s (at + 4) b;
  first = le-lt 2 s (at + 6) b;
  second = le-lt 2 s (at + 8) b;
  answer = leb-true _ 2 (both (record_at s 8 8 at) (leb (le 2 s (at + 10)) 2) t).1;
}

pub draw-first : (s : List ℕ) (at : ℕ) → Bytes s → draw_at s at ≡ true → DrawFirst (drop at s)
draw-first s at b t =
    record { draw = recorded_at s at; may = draw-may s at b t; rest = drop (at + 12) s; is = draw-splits s at b t }

pub close-first : (s : List ℕ) (at : ℕ) → Bytes s → close_at s at ≡ true → CloseFirst (drop at s)
unfolding close_at close_record body_at
close-first s at b t = record { rest = drop (at + 4) s; is = record-split s 9 0 at b t }

-- ---- a record that was written is found

-- the four numbers of a draw's body
body-numbers : (d : Recorded) → Recordable d
    → (le 2 (draw_record d).body 0 ≡ d.draw.kind) × (le 2 (draw_record d).body 2 ≡ d.draw.first)
    × (le 2 (draw_record d).body 4 ≡ d.draw.second) × (le 2 (draw_record d).body 6 ≡ d.answer)
unfolding draw_record le_bytes le
body-numbers d M = (omega (arith, M.kind), omega (arith, M.first), omega (arith, M.second), omega (arith, M.answer))

-- a draw stands at a place, and x follows it
record DrawThere (s : List ℕ) (at : ℕ) (d : Recorded) (x : List ℕ) : Type 0 where
  stands : draw_at s at ≡ true
  is : recorded_at s at ≡ d
  rest : drop (at + 12) s ≡ x

draw-there : (s : List ℕ) (at : ℕ) (d : Recorded) (x : List ℕ) → Recordable d → drop at s ≡ bytes_of (draw_record d) ++ x → DrawThere s at d x
unfolding draw_at draw_record le_bytes
draw-there s at d x M e =
    let r : Rec = draw_record d in
    let F : RecFits r = record { size = omega arith; kind = omega arith } in
    let there = found-there s at r x F e in
    let size : le 2 s at ≡ 8 = size-there s at r x e (omega arith) in
    let field : (off : ℕ) → off + 2 ≤ 8 → le 2 s (at + (4 + off)) ≡ le 2 r.body off = λ off h.
    sym (found-field s at off 2 there.whole (omega arith)) ∙ ap (λ (q : Rec). le 2 q.body off) there.is in
    let n = body-numbers d M in
    let a : le 2 s (at + 10) ≡ d.answer = field 6 (omega arith) ∙ n.3 in
    record {
      stands =
          and-true _ _ (record_is s 8 8 at (room-there s at r x e) size (kind-there s at r x e (omega arith)))
          (le-leb (le 2 s (at + 10)) 2 (omega (arith, a, M.answer)));
      is =
          ap₂ (λ (f : ℕ → ℕ → Draw) (v : ℕ). record { draw = f (le 2 s (at + 6)) (le 2 s (at + 8)); answer = v })
          (ap (λ (k : ℕ). draw k) (field 0 (omega arith) ∙ n.0)) a
          ∙ ap₂ (λ (f g : ℕ). record { draw = draw d.draw.kind f g; answer = d.answer })
          (field 2 (omega arith) ∙ n.1) (field 4 (omega arith) ∙ n.2);
      rest = rest-there s at r x e 8 refl;
    }

close-there : (s : List ℕ) (at : ℕ) (x : List ℕ) → drop at s ≡ bytes_of close_record ++ x → close_at s at ≡ true
unfolding close_at close_record
close-there s at x e =
    record_is s 9 0 at (room-there s at close_record x e) (size-there s at close_record x e (omega arith))
    (kind-there s at close_record x e (omega arith))

pub first-draw : (s : List ℕ) (at : ℕ) → DrawFirst (drop at s) → draw_at s at ≡ true
first-draw s at D = (draw-there s at D.draw D.rest D.may D.is).stands

pub first-close : (s : List ℕ) (at : ℕ) → CloseFirst (drop at s) → close_at s at ≡ true
first-close s at C = close-there s at C.rest C.is

-- no record is both
draw-no-close : (s : List ℕ) (at : ℕ) → draw_at s at ≡ true → close_at s at ≡ false
unfolding draw_at close_at
draw-no-close s at d =
    let r = record-says s 8 8 at (both (record_at s 8 8 at) (leb (le 2 s (at + 10)) 2) d).0 in
    by-test (record_at s 9 0 at) _ (λ c. absurd (omega (arith, r.1, (record-says s 9 0 at c).1))) (λ f. f)

close-no-draw : (s : List ℕ) (at : ℕ) → close_at s at ≡ true → draw_at s at ≡ false
close-no-draw s at c =
    by-test (draw_at s at) _
    (λ d. absurd (mathlib.Core.Bool.true≢false (sym c ∙ draw-no-close s at d)))
    (λ f. f)

-- ---- draws one after the other

-- the n draws from draw j on
unfoldable draws_from : List ℕ → ℕ → ℕ → List Recorded
draws_from s j zero = []
draws_from s j (suc n) = recorded_at s (j * 12) ∷ draws_from s (suc j) n

from-count : (s : List ℕ) (j n : ℕ) → length (draws_from s j n) ≡ n
unfolding draws_from
from-count s j zero = refl
from-count s j (suc n) = ap suc (from-count s (suc j) n)

from_at : (s : List ℕ) (j n k : ℕ) → k < n → recorded_of (draws_from s j n) k ≡ recorded_at s ((k + j) * 12)
unfolding draws_from
from_at s j zero k h = absurd (omega arith)
from_at s j (suc n) zero h = let z : j ≡ 0 + j = omega arith in ap (λ (i : ℕ). recorded_at s (i * 12)) z
from_at s j (suc n) (suc k) h =
    let z : k + suc j ≡ suc k + j = omega arith in
    from_at s (suc j) n k (omega arith) ∙ ap (λ (i : ℕ). recorded_at s (i * 12)) z

-- where each of them stands, the bytes are theirs and then the rest
from-splits : (s : List ℕ) (j n : ℕ) → Bytes s → ((k : ℕ) → k < n → draw_at s ((k + j) * 12) ≡ true)
    → drop (j * 12) s ≡ draws_bytes (draws_from s j n) ++ drop ((n + j) * 12) s
unfolding draws_from draws_bytes file_of
from-splits s j zero b f = let z : j ≡ 0 + j = omega arith in ap (λ (i : ℕ). drop (i * 12) s) z
from-splits s j (suc n) b f =
    let z : 0 + j ≡ j = omega arith in
    let w : n + suc j ≡ suc n + j = omega arith in
    let v : j * 12 + 12 ≡ suc j * 12 = omega arith in
    let front : List ℕ = bytes_of (draw_record (recorded_at s (j * 12))) in
    let rest = from-splits s (suc j) n b
    (λ k h. let q : suc k + j ≡ k + suc j = omega arith in ap (λ (i : ℕ). draw_at s (i * 12)) (sym q) ∙ f (suc k) (omega arith)) in
    draw-splits s (j * 12) b (ap (λ (i : ℕ). draw_at s (i * 12)) (sym z) ∙ f 0 (omega arith))
    ∙ ap (λ (x : List ℕ). front ++ x)
    (ap (λ (i : ℕ). drop i s) v ∙ rest ∙ ap (λ (i : ℕ). draws_bytes (draws_from s (suc j) n) ++ drop (i * 12) s) w)
    ∙ sym (append_assoc front (draws_bytes (draws_from s (suc j) n)) (drop ((suc n + j) * 12) s))

-- draws that were written from draw j on, and u after them, are found there
record DrawsThere (s : List ℕ) (j : ℕ) (ds : List Recorded) (u : List ℕ) : Type 0 where
  stands : (k : ℕ) → k < length ds → draw_at s ((k + j) * 12) ≡ true
  is : (k : ℕ) → k < length ds → recorded_at s ((k + j) * 12) ≡ recorded_of ds k
  rest : drop ((length ds + j) * 12) s ≡ u

draws-there : (s : List ℕ) (j : ℕ) (ds : List Recorded) (u : List ℕ) → ((k : ℕ) → k < length ds → Recordable (recorded_of ds k))
    → drop (j * 12) s ≡ draws_bytes ds ++ u → DrawsThere s j ds u
unfolding draws_bytes file_of
draws-there s j [] u M e =
    let z : 0 + j ≡ j = omega arith in
    record {
      stands = λ k h. absurd (omega arith);
      is = λ k h. absurd (omega arith);
      rest = ap (λ (i : ℕ). drop (i * 12) s) z ∙ e;
    }
draws-there s j (d ∷ ds) u M e =
    let first = draw-there s (j * 12) d (draws_bytes ds ++ u) (M 0 (omega arith)) (e ∙ append_assoc (bytes_of (draw_record d)) (draws_bytes ds) u) in
    let v : suc j * 12 ≡ j * 12 + 12 = omega arith in
    let others = draws-there s (suc j) ds u (λ k h. M (suc k) (omega arith)) (ap (λ (i : ℕ). drop i s) v ∙ first.rest) in
    let w : suc (length ds) + j ≡ length ds + suc j = omega arith in
    record {
      stands = in-turn (λ i k. draw_at s (i * 12) ≡ true) j first.stands others.stands;
      is = in-turn (λ i k. recorded_at s (i * 12) ≡ recorded_of (d ∷ ds) k) j first.is others.is;
      rest = ap (λ (i : ℕ). drop (i * 12) s) w ∙ others.rest;
    }
  where
    in-turn : {n : ℕ} (P : ℕ → ℕ → Type 0) (j : ℕ) → P j 0 → ((k : ℕ) → k < n → P (k + suc j) (suc k)) → (k : ℕ) → k < suc n → P (k + j) k
    in-turn P j p f zero h = let z : j ≡ 0 + j = omega arith in subst (λ (i : ℕ). P i 0) z p
    in-turn P j p f (suc k) h = let z : k + suc j ≡ suc k + j = omega arith in subst (λ (i : ℕ). P i (suc k)) z (f k (omega arith))

-- at the front
no_more : (k : ℕ) → k ≡ k + 0
no_more k = omega arith

record DrawsFront (t : List ℕ) (ds : List Recorded) (u : List ℕ) : Type 0 where
  stands : (k : ℕ) → k < length ds → draw_at t (k * 12) ≡ true
  is : (k : ℕ) → k < length ds → recorded_at t (k * 12) ≡ recorded_of ds k
  rest : drop (length ds * 12) t ≡ u

front-there : (t : List ℕ) (blocks : ℕ) (ds : List Recorded) (u : List ℕ) → FineDraws blocks ds → t ≡ draws_bytes ds ++ u → DrawsFront t ds u
front-there t blocks ds u F e =
    let z : 0 * 12 ≡ 0 = omega arith in
    let there = draws-there t 0 ds u (λ k h. (F k h).may) (ap (λ (i : ℕ). drop i t) z ∙ e) in
    record {
      stands = λ k h. ap (λ (i : ℕ). draw_at t (i * 12)) (no_more k) ∙ there.stands k h;
      is = λ k h. ap (λ (i : ℕ). recorded_at t (i * 12)) (no_more k) ∙ there.is k h;
      rest = ap (λ (i : ℕ). drop (i * 12) t) (no_more (length ds)) ∙ there.rest;
    }

draws-length : (ds : List Recorded) → length (draws_bytes ds) ≡ length ds * 12
unfolding draws_bytes file_of bytes_of draw_record le_bytes
draws-length [] = omega arith
draws-length (d ∷ ds) = omega (arith, draws-length ds)

block-splits : (ds : List Recorded) → block_bytes ds ≡ draws_bytes ds ++ bytes_of close_record
unfolding block_bytes draws_bytes
block-splits ds = file-more (map draw_record ds) close_record

block-length : (ds : List Recorded) → length (block_bytes ds) ≡ length ds * 12 + 4
unfolding close_record bytes_of le_bytes
block-length ds =
    ap length (block-splits ds) ∙ length-append (draws_bytes ds) (bytes_of close_record) ∙ ap (λ (n : ℕ). n + 4) (draws-length ds)

-- ---- what is said of lists is what is read

no_bytes : (l : List ℕ) → length l ≡ 0 → l ≡ []
no_bytes [] e = refl
no_bytes (v ∷ l) e = absurd (omega arith)

module _ (t : List ℕ) (blocks : ℕ) where
  -- draws that aren't faulty lead
  leading-of : (n : ℕ) → ((k : ℕ) → k < n → (draw_at t (k * 12) ≡ true) × (k < 1024) × (blocks < blocks_most)) → Leading t blocks n
  leading-of zero f = leading-none t blocks
  leading-of (suc n) f =
      let x = f n (omega arith) in
      let L = leading-of n (λ k h. f k (omega arith)) in
      let more = leading-more t blocks n L x.1 (sym (fine-is t blocks n x.0 x.1) ∙ lt-ltb _ _ x.2) in
      subst (Leading t blocks) (add-one n) more

  module _ (ds : List Recorded) (u : List ℕ) (F : FineDraws blocks ds) (e : t ≡ draws_bytes ds ++ u) where
    abbrev n : ℕ
    n = length ds

    there : DrawsFront t ds u
    there = front-there t blocks ds u F e

    leads : Leading t blocks n
    leads = leading-of n (λ k h. (there.stands k h, (F k h).place, (F k h).block))

    -- the record after them
    next-draw : DrawFirst u → draw_at t (n * 12) ≡ true
    next-draw D = first-draw t (n * 12) (subst DrawFirst (sym there.rest) D)

    next-close : CloseFirst u → close_at t (n * 12) ≡ true
    next-close C = first-close t (n * 12) (subst CloseFirst (sym there.rest) C)

    no-draw : Bytes t → (DrawFirst u → ⊥) → draw_at t (n * 12) ≡ false
    no-draw b f =
        by-test (draw_at t (n * 12)) _ (λ d. absurd (f (subst DrawFirst there.rest (draw-first t (n * 12) b d)))) (λ g. g)

    no-close : Bytes t → (CloseFirst u → ⊥) → close_at t (n * 12) ≡ false
    no-close b f =
        by-test (close_at t (n * 12)) _ (λ d. absurd (f (subst CloseFirst there.rest (close-first t (n * 12) b d)))) (λ g. g)

    -- they are all that lead
    ends_there : draw_at t (n * 12) ≡ false → n ≡ leading_draws t blocks
    ends_there d = leading-stops t blocks n leads (sym (fine-not t blocks n d))

    full-there : blocks_most ≤ blocks → draw_at t (n * 12) ≡ true → n ≡ leading_draws t blocks
    full-there h d =
        ⊎_elim
        (λ (l : n < 1024). leading-stops t blocks n leads (sym (fine-is t blocks n d l) ∙ le-ltb _ _ h))
        (λ (g : 1024 ≤ n). leading-full t blocks n leads g)
        (lt-or-ge n 1024)

    one : (t ≡ [] → ⊥) → n ≡ leading_draws t blocks → 1 ≡ fault_at t blocks n → Err 1 ≡ block_read t blocks
    one some l f = block-faulty t blocks n (λ z. some (no_bytes t z)) l 1 f (λ z. omega arith)

    refused-is : (k : ℕ) → Bytes t → (t ≡ [] → ⊥) → Faulty blocks n u k → Err k ≡ block_read t blocks
    refused-is k b some (neither d c) =
        let no = no-draw b d in
        block-faulty t blocks n (λ z. some (no_bytes t z)) (ends_there no) 13 (fault-other t blocks n no (no-close b c)) (λ z. omega arith)
    refused-is k b some (block-many D h) =
        ⊎_elim
        (λ (d : DrawFirst u).
        let at = next-draw d in
        one some (full-there h at) (fault-block-many t blocks n at (draw-no-close t (n * 12) at) h))
        (λ (c : CloseFirst u).
        let at = next-close c in
        one some (ends_there (close-no-draw t (n * 12) at)) (fault-close-many t blocks n at h))
        D
    refused-is k b some (draw-many d h) =
        let at = next-draw d in
        let no = draw-no-close t (n * 12) at in
        one some (leading-full t blocks n leads h)
        (⊎_elim (λ (l : blocks < blocks_most). fault-draw-many t blocks n at no l h)
        (λ (g : blocks_most ≤ blocks). fault-block-many t blocks n at no g) (lt-or-ge blocks blocks_most))

    block-read : blocks < blocks_most → CloseFirst u → Ok (read.Block n (n * 12 + 4)) ≡ block_read t blocks
    unfolding close_at
    block-read h c =
        let at = next-close c in
        let room = (record-says t 9 0 (n * 12) at).0 in
        block-is t blocks n (λ z. omega (arith, room)) (ends_there (close-no-draw t (n * 12) at)) 0 (fault-closes t blocks n at h) refl

  -- a block's draws, with its close after them
  pub close-after : (n next : ℕ) (B : BlockFirst t blocks n next) → t ≡ draws_bytes B.draws ++ (bytes_of close_record ++ B.rest)
  close-after n next B =
      let ds = B.draws in
      B.is ∙ ap (λ (l : List ℕ). l ++ B.rest) (block-splits ds) ∙ append_assoc (draws_bytes ds) (bytes_of close_record) B.rest

  listed-block : (n next : ℕ) → BlockFirst t blocks n next → Ok (read.Block n next) ≡ block_read t blocks
  listed-block n next B =
      ap₂ {C = Result BlockRead ℕ} (λ (k m : ℕ). Ok (read.Block k m)) B.count (B.ends ∙ block-length B.draws)
      ∙ block-read B.draws (bytes_of close_record ++ B.rest) B.fine (close-after n next B) B.may (record { rest = B.rest; is = refl })

  pub listed-read : (r : Result BlockRead ℕ) → Bytes t → ReadOf t blocks r → r ≡ block_read t blocks
  listed-read (Ok (read.Block n next)) b B = listed-block n next B
  listed-read (Ok read.End) b e = block-end t blocks (ap length e)
  listed-read (Err k) b R = refused-is R.draws R.rest R.fine R.is k b R.some R.faulty

-- ---- every list of bytes is read so

-- the first number that doesn't pass
lead-stops : (p : ℕ → Bool) (n : ℕ) → lead p n < n → p (lead p n) ≡ false
unfolding lead
lead-stops p zero h = absurd (omega arith)
lead-stops p (suc n) h =
    by-test (all (suc n) p) _
    (λ t. absurd (omega (arith, ap (λ (b : Bool). cond b (suc n) (lead p n)) t)))
    (λ f.
    let e : cond (all (suc n) p) (suc n) (lead p n) ≡ lead p n = ap (λ (b : Bool). cond b (suc n) (lead p n)) f in
    ap p e
    ∙ ⊎_elim (lead-stops p n)
    (λ (g : n ≤ lead p n).
    let q : lead p n ≡ n = omega (arith, lead-most p n) in
    let before : all n p ≡ true = ap (λ (k : ℕ). all k p) (sym q) ∙ lead-all p n in
    by-test (p (lead p n)) _
    (λ t.
    let both-pass : all (suc n) p ≡ true = ap (λ (k : ℕ). all k p) (sym (add-one n)) ∙ all_more n p before (ap p (sym q) ∙ t) in
    absurd (mathlib.Core.Bool.true≢false (sym both-pass ∙ f)))
    (λ x. x))
    (lt-or-ge (lead p n) n))

module _ (t : List ℕ) (blocks : ℕ) (b : Bytes t) where
  abbrev many : ℕ
  many = leading_draws t blocks

  lead-each : (k : ℕ) → k < many → draw_fine t blocks k ≡ true
  unfolding leading_draws
  lead-each k h = all-each _ (draw_fine t blocks) (lead-all (draw_fine t blocks) 1024) k h

  many-few : many ≤ 1024
  unfolding leading_draws
  many-few = lead-most (draw_fine t blocks) 1024

  lead-draw : (k : ℕ) → k < many → draw_at t (k * 12) ≡ true
  unfolding draw_fine
  lead-draw k h =
      (both (draw_at t (k * 12)) _ (lead-each k h)).0

  lead-may : (k : ℕ) → k < many → blocks < blocks_most
  lead-may k h =
      ltb-true _ _ (fine-is t blocks k (lead-draw k h) (omega (arith, many-few)) ∙ lead-each k h)

  abbrev led : List Recorded
  led = draws_from t 0 many

  led-fine : FineDraws blocks led
  led-fine k h =
      let l : k < many = omega (arith, from-count t 0 many) in
      record {
        may = subst Recordable (ap (λ (i : ℕ). recorded_at t (i * 12)) (no_more k) ∙ sym (from_at t 0 many k l)) (draw-may t (k * 12) b (lead-draw k l));
        place = omega (arith, many-few);
        block = lead-may k l;
      }

  led-splits : t ≡ draws_bytes led ++ drop (many * 12) t
  led-splits =
      let z : 0 * 12 ≡ 0 = omega arith in
      ap (λ (i : ℕ). drop i t) (sym z) ∙ from-splits t 0 many b (λ k h. ap (λ (i : ℕ). draw_at t (i * 12)) (sym (no_more k)) ∙ lead-draw k h)
      ∙ ap (λ (i : ℕ). draws_bytes led ++ drop (i * 12) t) (sym (no_more many))

  exact : (r : Result BlockRead ℕ) → ReadOf t blocks r → ReadOf t blocks (block_read t blocks)
  exact r R = subst (ReadOf t blocks) (listed-read t blocks r b R) R

  faulty-is : (t ≡ [] → ⊥) → (k : ℕ) → Faulty blocks (length led) (drop (many * 12) t) k → ReadOf t blocks (block_read t blocks)
  faulty-is some k f =
      exact (Err k)
      (record { some = some; draws = led; fine = led-fine; rest = drop (many * 12) t; is = led-splits; faulty = f })

  closed_is : blocks < blocks_most → CloseFirst (drop (many * 12) t) → ReadOf t blocks (block_read t blocks)
  closed_is h C =
      exact (Ok (read.Block (length led) (length (block_bytes led))))
      (record {
        draws = led;
        fine = led-fine;
        may = h;
        rest = C.rest;
        is =
            led-splits ∙ ap (λ (l : List ℕ). draws_bytes led ++ l) C.is
            ∙ sym (ap (λ (l : List ℕ). l ++ C.rest) (block-splits led) ∙ append_assoc (draws_bytes led) (bytes_of close_record) C.rest);
        count = refl;
        ends = refl;
      })

  -- a draw after those that lead is one too many
  draw-is-many : (t ≡ [] → ⊥) → draw_at t (many * 12) ≡ true → ReadOf t blocks (block_read t blocks)
  unfolding leading_draws
  draw-is-many some d =
      let D = draw-first t (many * 12) b d in
      ⊎_elim
      (λ (h : blocks < blocks_most).
      ⊎_elim
      (λ (l : many < 1024).
      absurd (mathlib.Core.Bool.true≢false (sym (lt-ltb _ _ h) ∙ fine-is t blocks many d l ∙ lead-stops (draw_fine t blocks) 1024 l)))
      (λ (g : 1024 ≤ many). faulty-is some 1 (draw-many D (omega (arith, from-count t 0 many))))
      (lt-or-ge many 1024))
      (λ (g : blocks_most ≤ blocks). faulty-is some 1 (block-many (inl D) g))
      (lt-or-ge blocks blocks_most)

  pub read_is : ReadOf t blocks (block_read t blocks)
  read_is =
      ⊎_elim (λ (e : t ≡ []). exact (Ok read.End) e)
      (λ (some : t ≡ [] → ⊥).
      by-test (close_at t (many * 12)) _
      (λ c.
      let C = close-first t (many * 12) b c in
      ⊎_elim (λ (h : blocks < blocks_most). closed_is h C) (λ (g : blocks_most ≤ blocks). faulty-is some 1 (block-many (inr C) g))
      (lt-or-ge blocks blocks_most))
      (λ c.
      by-test (draw_at t (many * 12)) _ (draw-is-many some)
      (λ d.
      faulty-is some 13
      (neither (λ D. mathlib.Core.Bool.true≢false (sym (first-draw t (many * 12) D) ∙ d))
      (λ C. mathlib.Core.Bool.true≢false (sym (first-close t (many * 12) C) ∙ c))))))
      (some_or_none t)
    where
      some_or_none : (l : List ℕ) → (l ≡ []) ⊎ (l ≡ [] → ⊥)
      some_or_none [] = inl refl
      some_or_none (v ∷ l) = inr (λ e. omega (arith, ap length e))

-- ---- the reading, both ways

-- an answer is the reader's exactly where what it says of the records holds
pub read-listed : (t : List ℕ) (blocks : ℕ) → Bytes t → (r : Result BlockRead ℕ) → ReadOf t blocks r ↔ (r ≡ block_read t blocks)
read-listed t blocks b r = (listed-read t blocks r b, λ e. subst (ReadOf t blocks) (sym e) (read_is t blocks b))

-- so it holds of one answer alone
pub read_only : (t : List ℕ) (blocks : ℕ) → Bytes t → (r q : Result BlockRead ℕ) → ReadOf t blocks r → ReadOf t blocks q → r ≡ q
read_only t blocks b r q R Q = one-outcome (block_read t blocks) r q (listed-read t blocks r b R) (listed-read t blocks q b Q)

-- a block that isn't closed before the end is 13, also where 1 to 3 bytes of a record are left
pub unclosed-refused : (t : List ℕ) (blocks : ℕ) → Bytes t → (ds : List Recorded) (u : List ℕ) → FineDraws blocks ds → t ≡ draws_bytes ds ++ u
    → length u < 4 → (t ≡ [] → ⊥) → Err 13 ≡ block_read t blocks
unfolding draw_record close_record bytes_of le_bytes
unclosed-refused t blocks b ds u F e h some =
    listed-read t blocks (Err 13) b
    (record {
      some = some;
      draws = ds;
      fine = F;
      rest = u;
      is = e;
      faulty = neither (λ D. omega (arith, ap length D.is)) (λ C. omega (arith, ap length C.is));
    })

-- ---- the columns of a block

-- the draws of columns that hold a list
held-draws : {ks fs ss rs : List ℕ} (ds : List Recorded) → Holds ds ks fs ss rs → (n : ℕ) → n ≤ length ds
    → draws_of ks fs ss n ≡ map (λ (d : Recorded). d.draw) (take n ds)
unfolding draws_of
held-draws ds H zero h = refl
held-draws {ks} {fs} {ss} ds H (suc n) h =
    ap₂ (λ (l : List Draw) (d : Draw). l ++ (d ∷ [])) (held-draws ds H n (omega arith))
    (ap₂ (λ (f g : ℕ). draw (get_or ks n 0) f g) (H.firsts n h) (H.seconds n h)
    ∙ ap (λ (k : ℕ). draw k (recorded_of ds n).draw.first (recorded_of ds n).draw.second) (H.draws n h))
    ∙ sym (ap (map (λ (d : Recorded). d.draw)) (take-suc ds n (recorded_of [] 0) h) ∙ map-append (λ (d : Recorded). d.draw) (take n ds) _)

module _ (t : List ℕ) (blocks n next : ℕ) (B : BlockFirst t blocks n next) where
  abbrev drawn : List Recorded
  drawn = B.draws

  numbers-at : (k : ℕ) → k < length drawn → recorded_at t (k * 12) ≡ recorded_of drawn k
  numbers-at k h =
      (front-there t blocks drawn _ B.fine (close-after t blocks n next B)).is k h

  column-at : (off k : ℕ) (x : List ℕ) → n ≤ length x → k < length drawn → get_or (fields_of t off n x) k 0 ≡ le 2 t (k * 12 + off)
  unfolding fields_of
  column-at off k x h l =
      get_d_over (λ j. le 2 t (j * 12 + off)) n x k (omega (arith, B.count)) (omega (arith, B.count))

  pub columns-hold : (ks fs ss rs : List ℕ) → n ≤ length ks → n ≤ length fs → n ≤ length ss → n ≤ length rs
      → Holds drawn (fields_of t 4 n ks) (fields_of t 6 n fs) (fields_of t 8 n ss) (fields_of t 10 n rs)
  columns-hold ks fs ss rs h i j l = record {
    draws = λ k m. column-at 4 k ks h m ∙ ap (λ (d : Recorded). d.draw.kind) (numbers-at k m);
    firsts = λ k m. column-at 6 k fs i m ∙ ap (λ (d : Recorded). d.draw.first) (numbers-at k m);
    seconds = λ k m. column-at 8 k ss j m ∙ ap (λ (d : Recorded). d.draw.second) (numbers-at k m);
    answers = λ k m. column-at 10 k rs l m ∙ ap (λ (d : Recorded). d.answer) (numbers-at k m);
  }

  -- a reader that answers with a block leaves its draws in the columns
  pub read-holds : (ks fs ss rs ks' fs' ss' rs' : List ℕ) → ReadsAs t blocks ks fs ss rs (Ok (read.Block n next)) ks' fs' ss' rs'
      → Holds drawn ks' fs' ss' rs'
  unfolding read_answer
  read-holds ks fs ss rs ks' fs' ss' rs' R =
      let e : block_read t blocks ≡ Ok (read.Block n next) = sym (listed-block t blocks n next B) in
      let said : ◌≡◌ {A = Result BlockRead ℕ} (Ok (read.Block n next)) (cond (columns_room n ks fs ss rs) (Ok (read.Block n next)) (Err 2)) =
      R.said ∙ ap (λ (r : Result BlockRead ℕ). cond (columns_room (reading.draws_in r) ks fs ss rs) r (Err 2)) e in
      by-test (columns_room n ks fs ss rs) _
      (λ y.
      let x = room_says n ks fs ss rs y in
      same-holds R.draws R.firsts R.seconds R.recorded (columns-hold ks fs ss rs x.0 x.1 x.2 x.3))
      (λ f.
      let q : ◌≡◌ {A = Result BlockRead ℕ} (Ok (read.Block n next)) (Err 2) = said ∙ ap {B = Result BlockRead ℕ} (λ (v : Bool). cond v (Ok (read.Block n next)) (Err 2)) f in
      absurd (let z : ◌≡◌ {A = ℕ} 0 1 = cc in omega arith))
    where
      same-holds : {ds : List Recorded} {a b c d p q r s : List ℕ} → a ≡ p → b ≡ q → c ≡ r → d ≡ s → Holds ds p q r s → Holds ds a b c d
      same-holds e f g h H = record {
        draws = λ k m. ap (λ (l : List ℕ). get_or l k 0) e ∙ H.draws k m;
        firsts = λ k m. ap (λ (l : List ℕ). get_or l k 0) f ∙ H.firsts k m;
        seconds = λ k m. ap (λ (l : List ℕ). get_or l k 0) g ∙ H.seconds k m;
        answers = λ k m. ap (λ (l : List ℕ). get_or l k 0) h ∙ H.answers k m;
      }

  -- what is played, and what its answers are compared with, are those draws and answers
  block-few : (m : ℕ) → m ≤ length drawn → m ≤ 1024
  block-few zero h = omega arith
  block-few (suc m) h = omega (arith, (B.fine m (omega arith)).place)

  text-holds : Holds drawn (fields_of t 4 n (replicate 1024 0)) (fields_of t 6 n (replicate 1024 0)) (fields_of t 8 n (replicate 1024 0)) (recorded_in t n)
  text-holds =
      let z : List ℕ = replicate 1024 0 in
      let room : n ≤ length z = omega (arith, length-replicate {A = ℕ} 1024 0, B.count, block-few (length drawn) (omega arith)) in
      columns-hold z z z z room room room room

  pub text-draws : draws_in t n ≡ map (λ (d : Recorded). d.draw) drawn
  text-draws =
      ap (draws_of (fields_of t 4 n (replicate 1024 0)) (fields_of t 6 n (replicate 1024 0)) (fields_of t 8 n (replicate 1024 0))) B.count
      ∙ held-draws drawn text-holds (length drawn) (omega arith)
      ∙ ap (map (λ (d : Recorded). d.draw)) (take-length drawn)

  pub text-answers : (k : ℕ) → k < n → get_or (recorded_in t n) k 0 ≡ (recorded_of drawn k).answer
  text-answers k h = text-holds.answers k (omega (arith, B.count))
