-- However a recording is streamed: what its first bytes say of where the job ends, and those of a block of that block. Assumes nothing.
use Rattle.std.specs.Prelude.{Result, Ok}
use mathlib.Core.Path.{◌≡◌, refl, sym, ap, ap₂, ◌∙◌}
use mathlib.Core.Logic.{◌⊎◌, inl, inr}
use mathlib.Core.Bool.{Bool, true, not, cond, ◌&&◌, ◌||◌}
use mathlib.Core.List.{List, ◌++◌}
use Prim.Native.Nat.{ℕ, zero, suc, ◌+◌, ◌-◌, ◌*◌, ◌≤◌, ◌<◌}
use native.Mathlib.Omega.{arith}
use borrow.Author.Tests.{le-leb, ne_eqb, leb-true, leb-false}
use lib.Dec.{leb, ltb, eqb}
use lib.ListN.{length, length-append}
use Rattle.paper.specs.Limits.{draws_most}
use Rattle.paper.specs.Rows.{answer_as}
use Rattle.paper.proofs.Logic.{by-test}
use Rattle.paper.proofs.Count.{all-each, each_all, all_same}
use Rattle.records.specs.Fields.{le}
use Rattle.records.specs.Records.{record_at, lead}
use Rattle.records.specs.Heads.{place_of}
use Rattle.records.proofs.Numbers.{le-front}
use Rattle.records.proofs.Walks.{lead-all, lead-most}
use Rattle.records.proofs.Mixed.{place_none}
use Rattle.replay.specs.declared.BlockRead.{BlockRead}
use Rattle.replay.specs.declared.BlockRead.TheVariants as read
use Rattle.replay.specs.Reading.{blocks_most, head_stands, opens_blocks, job_heads, job_end}
use Rattle.replay.specs.Reading.{draw_at, close_at, fault_at, draw_fine, leading_draws, block_read}
use Rattle.replay.proofs.Heads.{passed, Heading, heading-found, stands-is}
use Rattle.replay.proofs.Records.{fault_by, fault-by}

-- ---- a block

module _ (p r : List ℕ) where
  long : length p ≤ length (p ++ r)
  long = omega (arith, length-append p r)

  record-front : (kind size at : ℕ) → at + (4 + size) ≤ length p → record_at (p ++ r) kind size at ≡ record_at p kind size at
  unfolding record_at
  record-front kind size at h =
      let a : leb (at + (4 + size)) (length (p ++ r)) ≡ leb (at + (4 + size)) (length p) =
      le-leb (at + (4 + size)) (length (p ++ r)) (omega (arith, long)) ∙ sym (le-leb (at + (4 + size)) (length p) h) in
      ap₂ (λ (x : Bool) (n : ℕ). x && (eqb n size && eqb (le 2 (p ++ r) (at + 2)) kind)) a (le-front 2 p r at (omega arith))
      ∙ ap (λ (n : ℕ). leb (at + (4 + size)) (length p) && (eqb (le 2 p at) size && eqb n kind)) (le-front 2 p r (at + 2) (omega arith))

  draw-front : (at : ℕ) → at + 12 ≤ length p → draw_at (p ++ r) at ≡ draw_at p at
  unfolding draw_at
  draw-front at h =
      ap₂ (λ (x : Bool) (n : ℕ). x && leb n 2) (record-front 8 8 at (omega arith)) (le-front 2 p r (at + 10) (omega arith))

  close-front : (at : ℕ) → at + 4 ≤ length p → close_at (p ++ r) at ≡ close_at p at
  unfolding close_at
  close-front at h = record-front 9 0 at (omega arith)

  fault-front : (blocks j : ℕ) → j * 12 + 12 ≤ length p → fault_at (p ++ r) blocks j ≡ fault_at p blocks j
  fault-front blocks j h =
      fault-by (p ++ r) blocks j
      ∙ ap₂ (λ (x y : Bool). fault_by x y (ltb blocks blocks_most) (ltb j draws_most)) (draw-front (j * 12) h) (close-front (j * 12) (omega arith))
      ∙ sym (fault-by p blocks j)

  fine-front : (blocks j : ℕ) → j * 12 + 12 ≤ length p → draw_fine (p ++ r) blocks j ≡ draw_fine p blocks j
  unfolding draw_fine
  fine-front blocks j h = ap₂ (λ (x : Bool) (n : ℕ). x && eqb n 0) (draw-front (j * 12) h) (fault-front blocks j h)

lead-same : (f g : ℕ → Bool) (n : ℕ) → ((k : ℕ) → k < n → f k ≡ g k) → lead f n ≡ lead g n
unfolding lead
lead-same f g zero h = refl
lead-same f g (suc n) h =
    ap₂ (λ (b : Bool) (m : ℕ). cond b (suc n) m) (all_same (suc n) f g h) (lead-same f g n (λ k l. h k (omega arith)))

-- 12,300 bytes, one draw more than a block has with its close, say what the whole rest says
pub window-block : (p r : List ℕ) (blocks : ℕ) → 12300 ≤ length p → block_read (p ++ r) blocks ≡ block_read p blocks
unfolding block_read leading_draws
window-block p r blocks h =
    let n : ℕ = lead (draw_fine p blocks) draws_most in
    let same : lead (draw_fine (p ++ r) blocks) draws_most ≡ n =
    lead-same (draw_fine (p ++ r) blocks) (draw_fine p blocks) draws_most (λ k l. fine-front p r blocks k (omega arith)) in
    let few : n ≤ 1024 = lead-most (draw_fine p blocks) draws_most in
    let f : fault_at (p ++ r) blocks n ≡ fault_at p blocks n = fault-front p r blocks n (omega arith) in
    let some : length p ≡ 0 → ⊥ = λ e. omega arith in
    let more : length (p ++ r) ≡ 0 → ⊥ = λ e. omega (arith, long p r) in
    let answer : Bool → ℕ → ℕ → Result BlockRead ℕ = λ b k v. cond b (Ok read.End) (answer_as v (read.Block k (k * 12 + 4))) in
    ap (λ (b : Bool). answer b (lead (draw_fine (p ++ r) blocks) draws_most) (fault_at (p ++ r) blocks (lead (draw_fine (p ++ r) blocks) draws_most)))
    (ne_eqb _ _ more ∙ sym (ne_eqb _ _ some))
    ∙ ap (λ (k : ℕ). answer (eqb (length p) 0) k (fault_at (p ++ r) blocks k)) same
    ∙ ap (λ (v : ℕ). answer (eqb (length p) 0) n v) f

-- ---- the job

-- each head lies at least four bytes after the one before it
pub place-suc : (s : List ℕ) (k : ℕ) → place_of s (suc k) ≡ place_of s k + (4 + le 2 s (place_of s k))
unfolding place_of
place-suc s k = refl

pub place-rises : (s : List ℕ) (k d : ℕ) → place_of s k + d ≤ place_of s (k + d)
place-rises s k zero = let z : k + 0 ≡ k = omega arith in omega (arith, ap (place_of s) z)
place-rises s k (suc d) =
    let z : k + suc d ≡ suc (k + d) = omega arith in
    omega (arith, ap (place_of s) z, place-suc s (k + d), place-rises s k d)

-- two files whose first m bytes read alike
pub record Alike (s t : List ℕ) (m : ℕ) : Type 0 where
  pub first : m ≤ length s
  pub second : m ≤ length t
  pub reads : (at : ℕ) → at + 2 ≤ m → le 2 t at ≡ le 2 s at

module _ (s t : List ℕ) (m : ℕ) (A : Alike s t m) where
  opens-same : (at : ℕ) → at + 4 ≤ m → opens_blocks t at ≡ opens_blocks s at
  unfolding opens_blocks
  opens-same at h =
      ap₂ (λ (b : Bool) (n : ℕ). b && (eqb n 8 || eqb n 9))
      (stands-is t at (omega (arith, A.second)) ∙ sym (stands-is s at (omega (arith, A.first)))) (A.reads (at + 2) (omega arith))

  place_same : (k : ℕ) → place_of s k + 4 ≤ m → place_of t k ≡ place_of s k
  place_same zero h = place_none t ∙ sym (place_none s)
  place_same (suc k) h =
      let b : place_of s k + 4 ≤ m = omega (arith, place-suc s k) in
      let e = place_same k b in
      let g : le 2 t (place_of t k) ≡ le 2 s (place_of s k) = ap (le 2 t) e ∙ A.reads (place_of s k) (omega arith) in
      place-suc t k ∙ ap₂ (λ (x y : ℕ). x + (4 + y)) e g ∙ sym (place-suc s k)

  -- where the job of one ends within them, the other's ends there too
  pub job-same : job_end s + 4 ≤ m → job_end t ≡ job_end s
  unfolding job_end job_heads
  job-same h =
      let k : ℕ = lead (passed s) (length s) in
      let at : ℕ = place_of s k in
      by-test (opens_blocks s at) _
      (λ o.
      let e : cond (opens_blocks s at) at (length s) ≡ at = ap (λ (b : Bool). cond b at (length s)) o in
      let room : at + 4 ≤ m = omega (arith, h, e) in
      let each : (j : ℕ) → j < k → passed t j ≡ true = λ j l.
      (let d : (i : ℕ) → i + j ≡ k → place_of s j ≤ place_of s k = λ i q.
      (let w : j + i ≡ k = omega arith in omega (arith, place-rises s j i, ap (place_of s) w)) in
      let b : place_of s j + 4 ≤ m = omega (arith, room, d (k - j) (omega arith)) in
      ap (λ (x : ℕ). head_stands t x && not (opens_blocks t x)) (place_same j b)
      ∙ ap₂ (λ (x y : Bool). x && not y)
      (stands-is t (place_of s j) (omega (arith, A.second)) ∙ sym (stands-is s (place_of s j) (omega (arith, A.first)))) (opens-same (place_of s j) b)
      ∙ all-each k (passed s) (lead-all (passed s) (length s)) j l) in
      let H : Heading t at = record {
        k = k;
        place = sym (place_same k room);
        few = omega (arith, place-rises s 0 k, ap (place_of s) (zero-add k));
        within = omega (arith, place-rises s 0 k, ap (place_of s) (zero-add k), A.second);
        before = each_all k (passed t) each;
      } in
      sym (heading-found t at H (omega (arith, A.second)) (opens-same at room ∙ o)) ∙ sym e)
      (λ o.
      let e : cond (opens_blocks s at) at (length s) ≡ length s = ap (λ (b : Bool). cond b at (length s)) o in
      absurd (omega (arith, h, e, A.first)))
    where
      zero-add : (k : ℕ) → 0 + k ≡ k
      zero-add k = omega arith

front-alike : (p r : List ℕ) (m : ℕ) → m ≤ length p → Alike p (p ++ r) m
front-alike p r m h = record { first = h; second = omega (arith, long p r); reads = λ at l. le-front 2 p r at (omega arith) }

back-alike : (p r : List ℕ) (m : ℕ) → m ≤ length p → Alike (p ++ r) p m
back-alike p r m h =
    record { first = omega (arith, long p r); second = h; reads = λ at l. sym (le-front 2 p r at (omega arith)) }

-- of 49,156 bytes and more: the job ends where the whole file's does, or both are too long
pub window-job : (p r : List ℕ) → 49156 ≤ length p
    → ((job_end (p ++ r) ≡ job_end p) × (job_end p ≤ 49152)) ⊎ ((49152 < job_end p) × (49152 < job_end (p ++ r)))
window-job p r h =
    by-test (leb (job_end p) 49152) _
    (λ t. let few = leb-true _ _ t in inl (job-same p (p ++ r) 49156 (front-alike p r 49156 h) (omega arith), few))
    (λ f.
    let many : 49152 < job_end p = leb-false _ _ f in
    by-test (leb (job_end (p ++ r)) 49152) _
    (λ t.
    let few : job_end (p ++ r) ≤ 49152 = leb-true _ _ t in
    absurd (omega (arith, many, few, job-same (p ++ r) p 49156 (back-alike p r 49156 h) (omega arith))))
    (λ g. inr (many, leb-false _ _ g)))
