-- Laws of the walk over heads, up to where the job ends. Assumes nothing.
use mathlib.Core.Path.{◌≡◌, refl, sym, ap, ap₂, ◌∙◌}
use mathlib.Core.Bool.{Bool, true, false, not, cond, ◌&&◌}
use mathlib.Core.List.{List}
use Prim.Native.Nat.{ℕ, ◌+◌, ◌≤◌, ◌<◌}
use native.Mathlib.Omega.{arith}
use borrow.Author.Tests.{le-leb, lt-leb, eq-eqb, ne_eqb}
use lib.Dec.{eqb}
use lib.ListN.{length}
use Rattle.paper.specs.Count.{all}
use Rattle.paper.proofs.Logic.{and-true, and-stops, or_left, or-second}
use Rattle.paper.proofs.Count.{all_none, all_more}
use Rattle.records.specs.Fields.{le, field_at}
use Rattle.records.specs.Heads.{place_of}
use Rattle.records.proofs.Numbers.{field_is}
use Rattle.records.proofs.Walks.{lead_is}
use Rattle.records.proofs.Mixed.{place_none, place-more}
use Rattle.replay.specs.Reading.{head_stands, opens_blocks, job_heads, job_end}

-- ---- a head at a place

pub stands-is : (s : List ℕ) (at : ℕ) → at + 4 ≤ length s → head_stands s at ≡ true
unfolding head_stands
stands-is s at h = le-leb _ _ h

pub stands-not : (s : List ℕ) (at : ℕ) → length s < at + 4 → head_stands s at ≡ false
unfolding head_stands
stands-not s at h = lt-leb _ _ h

pub opens-draw : (s : List ℕ) (at : ℕ) → at + 4 ≤ length s → le 2 s (at + 2) ≡ 8 → opens_blocks s at ≡ true
unfolding opens_blocks
opens-draw s at h e = and-true _ _ (stands-is s at h) (or_left _ _ (eq-eqb _ _ e))

pub opens-close : (s : List ℕ) (at : ℕ) → at + 4 ≤ length s → le 2 s (at + 2) ≡ 9 → opens_blocks s at ≡ true
unfolding opens_blocks
opens-close s at h e = and-true _ _ (stands-is s at h) (or-second (eqb (le 2 s (at + 2)) 8) _ (eq-eqb _ _ e))

pub opens-other : (s : List ℕ) (at : ℕ) → (le 2 s (at + 2) ≡ 8 → ⊥) → (le 2 s (at + 2) ≡ 9 → ⊥) → opens_blocks s at ≡ false
unfolding opens_blocks
opens-other s at p q = simp (ne_eqb (le 2 s (at + 2)) 8 p, ne_eqb (le 2 s (at + 2)) 9 q) (and_none (head_stands s at))
  where
    and_none : (b : Bool) → b && false ≡ false
    and_none true = refl
    and_none false = refl

pub opens-out : (s : List ℕ) (at : ℕ) → length s < at + 4 → opens_blocks s at ≡ false
unfolding opens_blocks
opens-out s at h = and-stops _ _ (stands-not s at h)

-- ---- the walk

-- a head of another kind is passed
abbrev pub passed : List ℕ → ℕ → Bool
passed s k = head_stands s (place_of s k) && not (opens_blocks s (place_of s k))

-- k heads of other kinds stand before `at`
pub record Heading (s : List ℕ) (at : ℕ) : Type 0 where
  pub k : ℕ
  pub place : at ≡ place_of s k
  pub few : k ≤ at
  pub within : k ≤ length s
  pub before : all k (passed s) ≡ true

pub heading-none : (s : List ℕ) → Heading s 0
heading-none s = record { k = 0; place = sym (place_none s); few = omega arith; within = omega arith; before = all_none _ }

module _ (s : List ℕ) (at : ℕ) (H : Heading s at) where
  pub heading-more : (size : ℕ) → at + 4 ≤ length s → opens_blocks s at ≡ false → size ≡ le 2 s at → Heading s (at + (4 + size))
  heading-more size h f e =
      let here : passed s H.k ≡ true =
      ap (λ (x : ℕ). head_stands s x && not (opens_blocks s x)) (sym H.place) ∙ and-true _ _ (stands-is s at h) (ap not f) in
      record {
        k = H.k + 1;
        place = place-more s H.k at size H.place e;
        few = omega (arith, H.few);
        within = omega (arith, H.few);
        before = all_more H.k (passed s) H.before here;
      }

  heads-are : passed s H.k ≡ false → place_of s (job_heads s) ≡ at
  unfolding job_heads
  heads-are f = ap (place_of s) (lead_is (passed s) H.k (length s) H.within H.before f) ∙ sym H.place

  pub heading-found : at + 4 ≤ length s → opens_blocks s at ≡ true → at ≡ job_end s
  unfolding job_end
  heading-found h t =
      let stops : passed s H.k ≡ false =
      ap (λ (x : ℕ). head_stands s x && not (opens_blocks s x)) (sym H.place)
      ∙ ap₂ (λ (a b : Bool). a && not b) (stands-is s at h) t in
      let p = heads-are stops in
      sym (ap (λ (x : ℕ). cond (opens_blocks s x) x (length s)) p ∙ ap (λ (b : Bool). cond b at (length s)) t)

  pub heading-out : length s < at + 4 → length s ≡ job_end s
  unfolding job_end
  heading-out h =
      let stops : passed s H.k ≡ false =
      ap (λ (x : ℕ). head_stands s x && not (opens_blocks s x)) (sym H.place) ∙ and-stops _ _ (stands-not s at h) in
      let p = heads-are stops in
      sym (ap (λ (x : ℕ). cond (opens_blocks s x) x (length s)) p ∙ ap (λ (b : Bool). cond b at (length s)) (opens-out s at h))

-- the record at a place is cut: no head follows it
pub heading-cut : (s : List ℕ) (at size : ℕ) → Heading s at → at + 4 ≤ length s → opens_blocks s at ≡ false → size ≡ le 2 s at
    → length s < at + (4 + size) → length s ≡ job_end s
heading-cut s at size H h f e g =
    heading-out s (at + (4 + size)) (heading-more s at H size h f e) (omega arith)

-- a field of two bytes that stands there
pub two_is : (s : List ℕ) (at v : ℕ) → v ≡ field_at 2 s at → at + 2 ≤ length s → v ≡ le 2 s at
two_is s at v e h = e ∙ field_is 2 s at (omega arith) h
