-- Laws of a right record, and of one at a place. Assumes nothing.
use mathlib.Core.Path.{◌≡◌, sym, ap, ◌∙◌}
use mathlib.Core.Bool.{Bool, true, false, cond, ◌&&◌, ◌||◌}
use mathlib.Core.List.{List}
use Prim.Native.Nat.{ℕ, ◌+◌, ◌≤◌, ◌<◌}
use native.Mathlib.Omega.{arith}
use borrow.Author.Tests.{le-leb, lt-leb, leb-true, lt-ltb, le-ltb, ltb-true, eq-eqb, ne_eqb, eqb-true}
use lib.Dec.{leb, ltb, eqb}
use lib.ListN.{length, get_or}
use Rattle.std.proofs.Common.{Some, None}
use Rattle.paper.proofs.Logic.{by-test, both, three, and-true, and-stops, or_left}
use Rattle.records.specs.Fields.{le, Bytes}
use Rattle.records.specs.Records.{Rec}
use Rattle.records.specs.declared.Head.TheVariants as head
use Rattle.records.specs.Heads.{found_at, whole_at, head_at}
use Rattle.records.proofs.Mixed.{head-says, found-length, found-byte, found-bytes, whole_says}
use Rattle.records.proofs.Numbers.{le-lt}
use Rattle.store.specs.Layout.{body_right, record_right, right_at, RightRecord}
use Rattle.store.specs.Inside.{Headed}

-- ---- the test, kind by kind

module _ (r : Rec) where
  pub right-low : r.kind < 32 → record_right r ≡ false
  unfolding record_right
  right-low h = and-stops _ _ (lt-leb 32 r.kind h)

  pub right-high : 63 < r.kind → record_right r ≡ false
  unfolding record_right
  right-high h =
      ap (λ (b : Bool). b && (leb r.kind 63 && (ltb 33 r.kind || body_right r))) (le-leb 32 r.kind (omega arith))
      ∙ and-stops _ _ (lt-leb r.kind 63 h)

  pub right-newer : 33 < r.kind → r.kind ≤ 63 → record_right r ≡ true
  unfolding record_right
  right-newer h g =
      and-true _ _ (le-leb 32 r.kind (omega arith)) (and-true _ _ (le-leb r.kind 63 g) (or_left _ _ (lt-ltb 33 r.kind h)))

  -- of the two older kinds the body decides
  right-body : 32 ≤ r.kind → r.kind ≤ 33 → record_right r ≡ body_right r
  unfolding record_right
  right-body h g = simp (le-leb 32 r.kind h, le-leb r.kind 63 (omega arith), le-ltb 33 r.kind g)

  pub right-edition : r.kind ≡ 33 → length r.body ≡ 8 → record_right r ≡ true
  unfolding body_right
  right-edition k z =
      right-body (omega arith) (omega arith)
      ∙ and-true _ _ (eq-eqb (length r.body) 8 z) (or_left _ _ (eq-eqb r.kind 33 k))

  pub right-old : r.kind ≡ 32 → length r.body ≡ 8 → record_right r ≡ eqb (get_or r.body 3 0) 0
  unfolding body_right
  right-old k z =
      right-body (omega arith) (omega arith)
      ∙ simp (eq-eqb (length r.body) 8 z, ne_eqb r.kind 33 (λ e. omega arith))

  pub right-size : 32 ≤ r.kind → r.kind ≤ 33 → (length r.body ≡ 8 → ⊥) → record_right r ≡ false
  unfolding body_right
  right-size h g n = right-body h g ∙ and-stops _ _ (ne_eqb (length r.body) 8 n)

  -- what it says
  pub right-kind : record_right r ≡ true → (32 ≤ r.kind) × (r.kind ≤ 63)
  unfolding record_right
  right-kind t =
      let x = three (leb 32 r.kind) (leb r.kind 63) (ltb 33 r.kind || body_right r) t in
      (leb-true 32 r.kind x.0, leb-true r.kind 63 x.1)

  pub right-eight : record_right r ≡ true → r.kind ≤ 33 → length r.body ≡ 8
  unfolding body_right
  right-eight t h =
      let b = both (eqb (length r.body) 8) (eqb r.kind 33 || eqb (get_or r.body 3 0) 0) (sym (right-body (right-kind t).0 h) ∙ t) in
      eqb-true _ _ b.0

  pub right_zero : record_right r ≡ true → r.kind ≡ 32 → get_or r.body 3 0 ≡ 0
  right_zero t k = eqb-true _ _ (sym (right-old k (right-eight t (omega arith))) ∙ t)

  -- the test and the paper's words say the same
  pub right-said : record_right r ≡ true → length r.body ≤ 65535 → Bytes r.body → RightRecord r
  right-said t z b = record {
    least = (right-kind t).0;
    most = (right-kind t).1;
    known = right-eight t;
    zero-byte = right_zero t;
    size = z;
    bytes = b;
  }

  pub said-right : RightRecord r → record_right r ≡ true
  said-right R =
      by-test (ltb 33 r.kind) _ (λ t. right-newer (ltb-true 33 r.kind t) R.most)
      (λ f.
      let k : r.kind ≤ 33 = borrow.Author.Tests.ltb-false 33 r.kind f in
      by-test (eqb r.kind 33) _ (λ t. right-edition (eqb-true r.kind 33 t) (R.known k))
      (λ g.
      let n = borrow.Author.Tests.eqb-false r.kind 33 g in
      let low : r.kind < 33 = omega-below r.kind k n in
      let e : r.kind ≡ 32 = omega (arith, R.least, low) in
      right-old e (R.known k) ∙ eq-eqb _ _ (R.zero-byte e)))
    where
      omega-below : (k : ℕ) → k ≤ 33 → (k ≡ 33 → ⊥) → k < 33
      omega-below k h n = omega arith

-- ---- at a place

pub right-whole : (s : List ℕ) (at : ℕ) → right_at s at ≡ true → (whole_at s at ≡ true) × (record_right (found_at s at) ≡ true)
unfolding right_at
right-whole s at t = both (whole_at s at) (record_right (found_at s at)) t

pub right_is : (s : List ℕ) (at : ℕ) → whole_at s at ≡ true → record_right (found_at s at) ≡ true → right_at s at ≡ true
unfolding right_at
right_is s at w t = and-true _ _ w t

pub right-not : (s : List ℕ) (at : ℕ) → whole_at s at ≡ false → right_at s at ≡ false
unfolding right_at
right-not s at w = and-stops _ _ w

pub right-other : (s : List ℕ) (at : ℕ) → whole_at s at ≡ true → record_right (found_at s at) ≡ false → right_at s at ≡ false
unfolding right_at
right-other s at w f = simp (w, f)

-- how far the walk steps
pub step_right : (s : List ℕ) (at size : ℕ) → right_at s at ≡ true → size ≡ le 2 s at
    → Some (4 + size) ≡ cond (right_at s at) (Some (4 + le 2 s at)) None
step_right s at size t e = rw t (ap (λ (n : ℕ). Some (4 + n)) e)

pub step-not : (s : List ℕ) (at : ℕ) → right_at s at ≡ false → None ≡ cond (right_at s at) (Some (4 + le 2 s at)) None
step-not s at f = rw f

pub step-some : (s : List ℕ) (at n : ℕ) → Some n ≡ cond (right_at s at) (Some (4 + le 2 s at)) None
    → (right_at s at ≡ true) × (n ≡ 4 + le 2 s at)
step-some s at n e =
    by-test (right_at s at) _ (λ t. let q : Some n ≡ Some (4 + le 2 s at) = rw t at e in (t, cc))
    (λ f. let q : Some n ≡ None = rw f at e in cc)

pub step-none : (s : List ℕ) (at : ℕ) → None ≡ cond (right_at s at) (Some (4 + le 2 s at)) None → right_at s at ≡ false
step-none s at e =
    by-test (right_at s at) _ (λ t. let q : None ≡ Some (4 + le 2 s at) = rw t at e in cc) (λ f. f)

-- ---- a record whose head was read

pub headed : (s : List ℕ) (at size kind : ℕ) → head_at s at ≡ head.Whole size kind → Headed s size kind at
headed s at size kind e =
    let x = head-says s at size kind e in
    record { whole = x.0; size_is = x.1; kind-is = x.2 }

module _ (s : List ℕ) (size kind at : ℕ) (H : Headed s size kind at) where
  found-kind : (found_at s at).kind ≡ kind
  unfolding found_at
  found-kind = sym H.kind-is

  found-size : length (found_at s at).body ≡ size
  found-size = found-length s at H.whole ∙ sym H.size_is

  pub headed-low : kind < 32 → false ≡ record_right (found_at s at)
  headed-low h = sym (right-low (found_at s at) (omega (arith, found-kind)))

  pub headed-high : 63 < kind → false ≡ record_right (found_at s at)
  headed-high h = sym (right-high (found_at s at) (omega (arith, found-kind)))

  pub headed-newer : 33 < kind → kind ≤ 63 → true ≡ record_right (found_at s at)
  headed-newer h g = sym (right-newer (found_at s at) (omega (arith, found-kind)) (omega (arith, found-kind)))

  pub headed-edition : kind ≡ 33 → size ≡ 8 → true ≡ record_right (found_at s at)
  headed-edition k z = sym (right-edition (found_at s at) (found-kind ∙ k) (found-size ∙ z))

  pub headed-old : 32 ≤ kind → kind ≤ 33 → (kind ≡ 33 → ⊥) → size ≡ 8 → eqb (get_or s (at + 7) 0) 0 ≡ record_right (found_at s at)
  headed-old h g n z =
      let k : kind ≡ 32 = omega arith in
      let w : at + (4 + 3) ≡ at + 7 = omega arith in
      let b : get_or (found_at s at).body 3 0 ≡ get_or s (at + 7) 0 =
      found-byte s at 3 H.whole (omega (arith, H.size_is)) ∙ ap (λ (i : ℕ). get_or s i 0) w in
      ap (λ (v : ℕ). eqb v 0) (sym b) ∙ sym (right-old (found_at s at) (found-kind ∙ k) (found-size ∙ z))

  pub headed-size : 32 ≤ kind → kind ≤ 33 → (size ≡ 8 → ⊥) → false ≡ record_right (found_at s at)
  headed-size h g n =
      sym (right-size (found_at s at) (omega (arith, found-kind)) (omega (arith, found-kind)) (λ z. n (sym found-size ∙ z)))

  -- its bytes lie in s
  pub headed-room : at + (4 + size) ≤ length s
  headed-room = omega (arith, whole_says s at H.whole, H.size_is)

-- a right record of bytes, in the paper's words
pub right-record : (s : List ℕ) (at : ℕ) → Bytes s → right_at s at ≡ true → RightRecord (found_at s at)
right-record s at b t =
    let x = right-whole s at t in
    right-said (found_at s at) x.1 (omega (arith, found-length s at x.0, le-lt 2 s at b)) (found-bytes s at x.0 b)
