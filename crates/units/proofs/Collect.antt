-- A loop that goes over the numbers below `top` and writes those that pass p to the front of a list. Assumes nothing.
use mathlib.Core.Path.{◌≡◌, refl, sym, ap, ap₂, ◌∙◌}
use mathlib.Core.Bool.{Bool, true, false}
use mathlib.Core.List.{List, [], ◌∷◌}
use Prim.Native.Nat.{ℕ, ◌+◌, ◌≤◌, ◌<◌}
use native.Mathlib.Nat.{le_antisymm}
use native.Mathlib.Omega.{arith}
use lib.ListN.{length, set, length-append}
use Rattle.paper.specs.Count.{among, onto}
use Rattle.paper.proofs.Count.{among_in, among-out, among-le, onto-none, length-onto, onto-more}

-- what holds at number k, with n numbers written
pub record Collecting (p : ℕ → Bool) (top : ℕ) (old buffer : List ℕ) (n k : ℕ) : Type 0 where
  pub upto : k ≤ top
  pub room : top ≤ length old
  pub so_far : n ≡ length (among p k)
  pub written : buffer ≡ onto (among p k) old

module _ (p : ℕ → Bool) (top : ℕ) (old : List ℕ) where
  pub collect-none : top ≤ length old → Collecting p top old old 0 0
  unfolding among
  collect-none h = record { upto = omega arith; room = h; so_far = refl; written = onto-none old }

  module _ (buffer : List ℕ) (n k : ℕ) (c : Collecting p top old buffer n k) where
    -- no more than k are written, and the list keeps its length
    pub collect-few : n ≤ k
    collect-few = omega (arith, c.so_far, among-le p k)

    pub collect-length : length buffer ≡ length old
    collect-length =
        ap length c.written ∙ length-onto (among p k) old (omega (arith, among-le p k, c.upto, c.room))

    -- so there is room for one more
    pub collect-room : k < top → n < length buffer
    collect-room h = omega (arith, collect-few, collect-length, c.room)

    pub collect-in : k < top → p k ≡ true → Collecting p top old (set buffer n k) (n + 1) (k + 1)
    collect-in h t = record {
      upto = omega arith;
      room = c.room;
      so_far = omega (arith, c.so_far, ap length (among_in p k t), length-append (among p k) (k ∷ []));
      written =
          ap₂ (λ (b : List ℕ) (i : ℕ). set b i k) c.written c.so_far
          ∙ onto-more (among p k) old k (omega (arith, collect-few, c.so_far, c.room))
          ∙ ap (λ (l : List ℕ). onto l old) (sym (among_in p k t));
    }

    pub collect-out : k < top → p k ≡ false → Collecting p top old buffer n (k + 1)
    collect-out h f = record {
      upto = omega arith;
      room = c.room;
      so_far = c.so_far ∙ ap length (sym (among-out p k f));
      written = c.written ∙ ap (λ (l : List ℕ). onto l old) (sym (among-out p k f));
    }

    pub collect-end : top ≤ k → (n ≡ length (among p top)) × (buffer ≡ onto (among p top) old)
    collect-end h =
        let e : k ≡ top = le_antisymm c.upto h in
        (c.so_far ∙ ap (λ (m : ℕ). length (among p m)) e, c.written ∙ ap (λ (m : ℕ). onto (among p m) old) e)
