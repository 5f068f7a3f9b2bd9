-- Laws of the records of a block. Assumes nothing.
use Rattle.std.specs.Prelude.{Result, Ok, Err}
use mathlib.Core.Path.{◌≡◌, refl, sym, ap, ◌∙◌}
use mathlib.Core.Bool.{Bool, true, false, cond, ◌&&◌, ◌||◌}
use mathlib.Core.List.{List}
use Prim.Native.Nat.{ℕ, ◌+◌, ◌*◌, ◌≤◌, ◌<◌}
use native.Mathlib.Omega.{arith}
use borrow.Author.Tests.{lt-ltb, le-ltb, eq-eqb, eqb-true}
use lib.Dec.{leb, ltb, eqb}
use lib.ListN.{length}
use Rattle.paper.specs.Limits.{number_of, draws_most}
use Rattle.paper.specs.Rows.{answer_as}
use Rattle.slotset.proofs.Refusals.{answer-is, answer-refused}
use Rattle.paper.specs.Count.{all}
use Rattle.paper.proofs.Logic.{by-test, both, and-stops}
use Rattle.paper.proofs.Count.{all_none, all_more}
use Rattle.records.specs.Fields.{le, field_at}
use Rattle.records.specs.Records.{record_at}
use Rattle.records.specs.Heads.{head_at}
use Rattle.records.specs.declared.Head.TheVariants as head
use Rattle.records.proofs.Numbers.{field_is}
use Rattle.records.proofs.Walks.{lead_is, lead-full, record-says, record_is}
use Rattle.records.proofs.Mixed.{head-says, head-none, whole_says, whole_is}
use Rattle.replay.specs.declared.BlockRead.{BlockRead}
use Rattle.replay.specs.declared.BlockRead.TheVariants as read
use Rattle.replay.specs.Reading.{blocks_most, draw_at, close_at, record_row, fault_at, draw_fine, leading_draws, block_read}

-- ---- a draw, and a close, by the head of the record

record-not : (s : List ℕ) (kind size at : ℕ)
    → ((at + (4 + size) ≤ length s) → (le 2 s at ≡ size) → (le 2 s (at + 2) ≡ kind) → ⊥) → record_at s kind size at ≡ false
record-not s kind size at f =
    by-test (record_at s kind size at) _
    (λ t. let x = record-says s kind size at t in absurd (f x.0 x.1 x.2))
    (λ e. e)

draw-not : (t : List ℕ) (at : ℕ) → record_at t 8 8 at ≡ false → false ≡ draw_at t at
unfolding draw_at
draw-not t at f = sym (and-stops _ _ f)

module _ (t : List ℕ) (at size kind : ℕ) (e : head_at t at ≡ head.Whole size kind) where
  pub head-room : at + (4 + size) ≤ length t
  head-room = let x = head-says t at size kind e in omega (arith, whole_says t at x.0, x.1)

  pub draw-is : size ≡ 8 → kind ≡ 8 → (v : ℕ) → v ≡ field_at 2 t (at + 10) → leb v 2 ≡ draw_at t at
  unfolding draw_at
  draw-is z k v g =
      let x = head-says t at size kind e in
      let r : record_at t 8 8 at ≡ true = record_is t 8 8 at (omega (arith, head-room)) (sym x.1 ∙ z) (sym x.2 ∙ k) in
      let l : v ≡ le 2 t (at + 10) = g ∙ field_is 2 t (at + 10) (omega arith) (omega (arith, head-room)) in
      ap (λ (n : ℕ). leb n 2) l ∙ sym (ap (λ (b : Bool). b && leb (le 2 t (at + 10)) 2) r)

  pub draw-kind : (kind ≡ 8 → ⊥) → false ≡ draw_at t at
  draw-kind n = draw-not t at (record-not t 8 8 at (λ h a b. n ((head-says t at size kind e).2 ∙ b)))

  pub draw-size : (size ≡ 8 → ⊥) → false ≡ draw_at t at
  draw-size n = draw-not t at (record-not t 8 8 at (λ h a b. n ((head-says t at size kind e).1 ∙ a)))

  pub close-is : size ≡ 0 → eqb kind 9 ≡ close_at t at
  unfolding close_at
  close-is z =
      let x = head-says t at size kind e in
      by-test (eqb kind 9) _
      (λ y. y ∙ sym (record_is t 9 0 at (omega (arith, head-room)) (sym x.1 ∙ z) (sym x.2 ∙ eqb-true kind 9 y)))
      (λ f.
      let no : kind ≡ 9 → ⊥ = λ q. absurd (mathlib.Core.Bool.true≢false (sym (eq-eqb kind 9 q) ∙ f)) in
      f ∙ sym (record-not t 9 0 at (λ h a b. no (x.2 ∙ b))))

  pub close-size : (size ≡ 0 → ⊥) → false ≡ close_at t at
  unfolding close_at
  close-size n = sym (record-not t 9 0 at (λ h a b. n ((head-says t at size kind e).1 ∙ a)))

none-not : (t : List ℕ) (kind size at : ℕ) → head_at t at ≡ head.Nothing → record_at t kind size at ≡ false
none-not t kind size at e =
    record-not t kind size at
    (λ h a b. mathlib.Core.Bool.true≢false (sym (whole_is t at (omega arith)) ∙ head-none t at e))

pub draw-none : (t : List ℕ) (at : ℕ) → head_at t at ≡ head.Nothing → false ≡ draw_at t at
draw-none t at e = draw-not t at (none-not t 8 8 at e)

pub close-none : (t : List ℕ) (at : ℕ) → head_at t at ≡ head.Nothing → false ≡ close_at t at
unfolding close_at
close-none t at e = sym (none-not t 9 0 at e)

-- a draw stands whole
pub draw-room : (t : List ℕ) (at : ℕ) → draw_at t at ≡ true → at + 12 ≤ length t
unfolding draw_at
draw-room t at e = omega (arith, (record-says t 8 8 at (both _ _ e).0).0)

-- ---- what stands against a record

-- by four tests: a draw, a close, the block may be there, a draw may be at this place of it
unfoldable pub fault_by : Bool → Bool → Bool → Bool → ℕ
fault_by d c b j = cond (d || c) (cond (b && (c || j)) 0 1) 13

pub fault-by : (t : List ℕ) (blocks j : ℕ) → fault_at t blocks j ≡ fault_by (draw_at t (j * 12)) (close_at t (j * 12)) (ltb blocks blocks_most) (ltb j draws_most)
unfolding fault_at record_row number_of fault_by
fault-by t blocks j = refl

module _ (t : List ℕ) (blocks j : ℕ) where
  fault-with : (d c b p : Bool) → draw_at t (j * 12) ≡ d → close_at t (j * 12) ≡ c → ltb blocks blocks_most ≡ b → ltb j draws_most ≡ p
      → fault_by d c b p ≡ fault_at t blocks j
  fault-with d c b p x y z w = let e = fault-by t blocks j in cc

  pub fault-closes : close_at t (j * 12) ≡ true → blocks < blocks_most → 0 ≡ fault_at t blocks j
  unfolding fault_by
  fault-closes c h =
      by-test (draw_at t (j * 12)) _
      (λ d. fault-with true true true (ltb j draws_most) d c (lt-ltb _ _ h) refl)
      (λ d. fault-with false true true (ltb j draws_most) d c (lt-ltb _ _ h) refl)

  pub fault-close-many : close_at t (j * 12) ≡ true → blocks_most ≤ blocks → 1 ≡ fault_at t blocks j
  unfolding fault_by
  fault-close-many c h =
      by-test (draw_at t (j * 12)) _
      (λ d. fault-with true true false (ltb j draws_most) d c (le-ltb _ _ h) refl)
      (λ d. fault-with false true false (ltb j draws_most) d c (le-ltb _ _ h) refl)

  pub fault-draw : draw_at t (j * 12) ≡ true → close_at t (j * 12) ≡ false → blocks < blocks_most → j < 1024 → 0 ≡ fault_at t blocks j
  unfolding fault_by
  fault-draw d c h l = fault-with true false true true d c (lt-ltb _ _ h) (lt-ltb _ _ l)

  pub fault-draw-many : draw_at t (j * 12) ≡ true → close_at t (j * 12) ≡ false → blocks < blocks_most → 1024 ≤ j → 1 ≡ fault_at t blocks j
  unfolding fault_by
  fault-draw-many d c h l = fault-with true false true false d c (lt-ltb _ _ h) (le-ltb _ _ l)

  pub fault-block-many : draw_at t (j * 12) ≡ true → close_at t (j * 12) ≡ false → blocks_most ≤ blocks → 1 ≡ fault_at t blocks j
  unfolding fault_by
  fault-block-many d c h = fault-with true false false (ltb j draws_most) d c (le-ltb _ _ h) refl

  pub fault-other : draw_at t (j * 12) ≡ false → close_at t (j * 12) ≡ false → 13 ≡ fault_at t blocks j
  unfolding fault_by
  fault-other d c = fault-with false false (ltb blocks blocks_most) (ltb j draws_most) d c refl refl

  -- of a draw at a place of a block
  fault-first : draw_at t (j * 12) ≡ true → j < 1024 → eqb (fault_at t blocks j) 0 ≡ ltb blocks blocks_most
  unfolding fault_by
  fault-first d l =
      let c = close_at t (j * 12) in
      let b = ltb blocks blocks_most in
      ap (λ (n : ℕ). eqb n 0) (sym (fault-with true c b true d refl refl (lt-ltb _ _ l))) ∙ zero_one b c
    where
      zero_one : (b c : Bool) → eqb (cond (b && (c || true)) 0 1) 0 ≡ b
      zero_one true true = refl
      zero_one true false = refl
      zero_one false c = refl

  pub fine-is : draw_at t (j * 12) ≡ true → j < 1024 → ltb blocks blocks_most ≡ draw_fine t blocks j
  unfolding draw_fine
  fine-is d l = sym (ap (λ (b : Bool). b && eqb (fault_at t blocks j) 0) d ∙ fault-first d l)

  pub fine-not : draw_at t (j * 12) ≡ false → false ≡ draw_fine t blocks j
  unfolding draw_fine
  fine-not d = sym (and-stops _ _ d)

  pub fine-room : draw_fine t blocks j ≡ true → (j + 1) * 12 ≤ length t
  unfolding draw_fine
  fine-room e = omega (arith, draw-room t (j * 12) (both _ _ e).0)

-- ---- the leading draws

-- n fine draws lead
pub record Leading (t : List ℕ) (blocks n : ℕ) : Type 0 where
  pub few : n ≤ 1024
  pub room : n * 12 ≤ length t
  pub fine : all n (draw_fine t blocks) ≡ true

pub leading-none : (t : List ℕ) (blocks : ℕ) → Leading t blocks 0
leading-none t blocks = record { few = omega arith; room = omega arith; fine = all_none _ }

module _ (t : List ℕ) (blocks n : ℕ) (L : Leading t blocks n) where
  pub leading-more : n < 1024 → draw_fine t blocks n ≡ true → Leading t blocks (n + 1)
  leading-more h e = record { few = omega arith; room = fine-room t blocks n e; fine = all_more n _ L.fine e }

  pub leading-stops : draw_fine t blocks n ≡ false → n ≡ leading_draws t blocks
  unfolding leading_draws
  leading-stops f = sym (lead_is (draw_fine t blocks) n 1024 L.few L.fine f)

  pub leading-full : 1024 ≤ n → n ≡ leading_draws t blocks
  unfolding leading_draws
  leading-full h =
      let e : n ≡ 1024 = omega (arith, L.few) in
      e ∙ sym (lead-full (draw_fine t blocks) 1024 (ap (λ (k : ℕ). all k (draw_fine t blocks)) (sym e) ∙ L.fine))

-- ---- the block

pub block-end : (t : List ℕ) (blocks : ℕ) → length t ≡ 0 → Ok read.End ≡ block_read t blocks
unfolding block_read
block-end t blocks e =
    let n = leading_draws t blocks in
    let f = fault_at t blocks n in
    sym (ap {B = Result BlockRead ℕ} (λ (b : Bool). cond b (Ok read.End) (answer_as f (read.Block n (n * 12 + 4)))) (eq-eqb (length t) 0 e))

module _ (t : List ℕ) (blocks n : ℕ) (some : length t ≡ 0 → ⊥) (e : n ≡ leading_draws t blocks) where
  block-some : block_read t blocks ≡ answer_as (fault_at t blocks n) (read.Block n (n * 12 + 4))
  unfolding block_read
  block-some =
      let d = leading_draws t blocks in
      let f = fault_at t blocks d in
      ap {B = Result BlockRead ℕ} (λ (b : Bool). cond b (Ok read.End) (answer_as f (read.Block d (d * 12 + 4)))) (borrow.Author.Tests.ne_eqb (length t) 0 some)
      ∙ ap (λ (k : ℕ). answer_as (fault_at t blocks k) (read.Block k (k * 12 + 4))) (sym e)

  pub block-is : (f : ℕ) → f ≡ fault_at t blocks n → f ≡ 0 → Ok (read.Block n (n * 12 + 4)) ≡ block_read t blocks
  block-is f g z = answer-is f (fault_at t blocks n) g z (read.Block n (n * 12 + 4)) _ refl ∙ sym block-some

  pub block-faulty : (f : ℕ) → f ≡ fault_at t blocks n → (f ≡ 0 → ⊥) → Err f ≡ block_read t blocks
  block-faulty f g z = answer-refused f (fault_at t blocks n) g z (read.Block n (n * 12 + 4)) ∙ sym block-some

-- what stands against a record, case by case, as a set of lemmas
pub ruleset fault_cases = (fault-closes, fault-close-many, fault-draw, fault-draw-many, fault-block-many, fault-other)
