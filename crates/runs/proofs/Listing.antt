-- The list of all runs, filled run by run: what the reader gives is the next of the list. Assumes nothing.
use Rattle.std.specs.Prelude.{Option, Some, None, Result, Ok, Err}
use mathlib.Core.Path.{◌≡◌, refl, sym, ap, ap₂, ◌∙◌}
use mathlib.Core.List.{List, [], ◌∷◌}
use mathlib.Core.Logic.{◌⊎◌, inl, inr, ⊎_elim}
use Prim.Native.Nat.{ℕ, zero, suc, ◌+◌, ◌-◌, ◌≤◌, ◌<◌}
use native.Mathlib.Nat.{not-suc-le-zero, le_of_suc-le-suc}
use native.Mathlib.Omega.{arith}
use borrow.Author.Tests.{leb-true}
use lib.ListN.{length, set, get_or, length-set}
use lib.Seq.{get_or-set_same, get_or-set_other}
use Rattle.paper.specs.Limits.{number_of}
use Rattle.paper.specs.Rows.{unless, answer_as}
use Rattle.paper.proofs.Rows.{passed, all_pass}
use Rattle.slotset.specs.declared.Cursor.{Cursor}
use Rattle.slotset.specs.declared.NextRun.{NextRun}
use Rattle.slotset.specs.Slots.{Bits}
use Rattle.slotset.specs.Search.{First, next_set}
use Rattle.slotset.specs.Runs.{Ends, when_found, last_around, runs, ends_of_runs}
use Rattle.slotset.specs.Answers.{sets_row, person_row, run_step, next_run_as}
use Rattle.slotset.proofs.Meaning.{next-is}
use Rattle.slotset.proofs.Runs.{run-around}
use Rattle.runs.specs.Listed.{runs_row, column}

-- where nothing is refused, the row may be read and both columns have room
pub list-says : (ws : List ℕ) (people person len n m : ℕ) → number_of (runs_row ws people person len n m) ≡ 0
    → (number_of (person_row ws people person len) ≡ 0) × ((len ≤ n) × (len ≤ m))
unfolding runs_row person_row sets_row
list-says ws people person len n m z =
    let h = passed (runs_row ws people person len n m) refl z in
    (all_pass (person_row ws people person len) (h 0, (h 1, (h 2, (h 5, tt)))), (leb-true len n (h 3), leb-true len m (h 4)))

-- ---- what an answer of the reader tells

abbrev first_in : Option NextRun → ℕ
first_in (Some r) = r.first
first_in None = 0

abbrev last_in : Option NextRun → ℕ
last_in (Some r) = r.last
last_in None = 0

abbrev next_in : Option NextRun → ℕ
next_in (Some r) = r.next.at
next_in None = 0

abbrev kind_of : Option NextRun → ℕ
kind_of (Some r) = 0
kind_of None = 1

-- what is answered where nothing is refused, and whether something is
abbrev given_in : Result (Option NextRun) ℕ → Option NextRun
given_in (Ok x) = x
given_in (Err n) = None

abbrev refusal_in : Result (Option NextRun) ℕ → ℕ
refusal_in (Ok x) = 0
refusal_in (Err n) = 1

-- the run given is the head of the list of runs, and the cursor one past it
pub record Given (f : ℕ → ℕ) (len m at first last next : ℕ) : Type 0 where
  pub from : at ≤ first
  pub to : first ≤ last
  pub fits : last < len
  pub past : next ≡ last + 1
  pub head : runs (suc m) f len at ≡ record { first = first; last = last } ∷ runs m f len next

module _ (f : ℕ → ℕ) (bits : Bits f) (len m at : ℕ) where
  given_by : (r : Option ℕ) → First 1 f len at r → (first last : ℕ) (next : Cursor)
      → run_step f len r ≡ Some (record { first = first; last = last; next = next })
      → (at ≤ first) × ((first ≤ last) × ((last < len) × ((next.at ≡ last + 1)
      × (when_found r (λ lo. record { first = lo; last = last_around 1 f len lo } ∷ runs m f len (last_around 1 f len lo + 1))
      ≡ record { first = first; last = last } ∷ runs m f len next.at))))
  given_by (Some lo) w first last next e =
      let r = run-around f bits len lo (w.1, w.2) in
      let a : lo ≡ first = ap first_in e in
      let b : last_around 1 f len lo ≡ last = ap last_in e in
      let c : last_around 1 f len lo + 1 ≡ next.at = ap next_in e in (
        omega (arith, w.0),
        (
          omega (arith, r.to),
          (
            omega (arith, r.fits),
            (
              omega arith,
              ap₂ {C = List Ends} (λ (x y : ℕ). record { first = x; last = y } ∷ runs m f len (last_around 1 f len lo + 1)) a b
                  ∙ ap (λ (z : ℕ). record { first = first; last = last } ∷ runs m f len z) c,
            ),
          ),
        ),
      )
  given_by None w first last next e = let z : ◌≡◌ {A = ℕ} 1 0 = ap kind_of e in let no : ⊥ = omega (arith, z) in absurd no

  pub given : (first last : ℕ) (next : Cursor) → next_run_as 0 f len at ≡ Ok (Some (record { first = first; last = last; next = next }))
      → Given f len m at first last next.at
  unfolding answer_as unless runs
  given first last next e =
      let g = given_by (next_set f len at) (next-is 1 f len at) first last next (ap given_in e) in
      record { from = g.0; to = g.1.0; fits = g.1.1.0; past = g.1.1.1.0; head = g.1.1.1.1 }

-- ---- the columns while they are filled: n runs are listed, and the reader stands at `at`

pub record Listing (f : ℕ → ℕ) (len : ℕ) (fs ls : List ℕ) (n at : ℕ) (fs' ls' : List ℕ) : Type 0 where
  pub few : n ≤ at
  pub count : n + length (runs (len - n) f len at) ≡ length (ends_of_runs f len)
  pub firsts : column (λ e. e.first) (runs (len - n) f len at) n fs' ≡ column (λ e. e.first) (ends_of_runs f len) 0 fs
  pub lasts : column (λ e. e.last) (runs (len - n) f len at) n ls' ≡ column (λ e. e.last) (ends_of_runs f len) 0 ls
  pub long : (length fs' ≡ length fs) × (length ls' ≡ length ls)

-- what is asked at the end
abbrev pub Listed : (ℕ → ℕ) → ℕ → List ℕ → List ℕ → ℕ → List ℕ → List ℕ → Type 0
Listed f len fs ls n fs' ls' =
    (n ≡ length (ends_of_runs f len)) × ((fs' ≡ column (λ e. e.first) (ends_of_runs f len) 0 fs)
    × (ls' ≡ column (λ e. e.last) (ends_of_runs f len) 0 ls))

module _ (f : ℕ → ℕ) (bits : Bits f) (len : ℕ) (fs ls : List ℕ) where
  pub listing-starts : Listing f len fs ls 0 0 fs ls
  listing-starts =
      let z : len - 0 ≡ len = omega arith in
      record {
        few = omega arith;
        count = ap (λ (k : ℕ). 0 + length (runs k f len 0)) z ∙ omega arith;
        firsts = ap (λ (k : ℕ). column (λ e. e.first) (runs k f len 0) 0 fs) z;
        lasts = ap (λ (k : ℕ). column (λ e. e.last) (runs k f len 0) 0 ls) z;
        long = (refl, refl);
      }

  module _ (n at : ℕ) (fs' ls' : List ℕ) (l : Listing f len fs ls n at fs' ls') where
    module _ (h : at < len) (first last : ℕ) (next : Cursor) (e : next_run_as 0 f len at ≡ Ok (Some (record { first = first; last = last; next = next }))) where
      pub listing-given : Given f len (len - (n + 1)) at first last next.at
      listing-given = given f bits len (len - (n + 1)) at first last next e

      -- the runs that are left, and those after this one
      left : runs (len - n) f len at ≡ record { first = first; last = last } ∷ runs (len - (n + 1)) f len next.at
      left =
          let k : len - n ≡ suc (len - (n + 1)) = omega (arith, l.few) in
          ap (λ (m : ℕ). runs m f len at) k ∙ listing-given.head

      pub listing-more : Listing f len fs ls (n + 1) next.at (set fs' n first) (set ls' n last)
      unfolding column
      listing-more =
          let g = listing-given in
          let c : n + length (runs (len - n) f len at) ≡ n + 1 + length (runs (len - (n + 1)) f len next.at) =
          ap (λ (rs : List Ends). n + length rs) left ∙ omega arith in
          record {
            few = omega (arith, l.few, g.from, g.to, g.past);
            count = sym c ∙ l.count;
            firsts = sym (ap (λ (rs : List Ends). column (λ e. e.first) rs n fs') left) ∙ l.firsts;
            lasts = sym (ap (λ (rs : List Ends). column (λ e. e.last) rs n ls') left) ∙ l.lasts;
            long = (length-set fs' n first ∙ l.long.0, length-set ls' n last ∙ l.long.1);
          }

    -- no run is left: the list is whole
    listing-whole : runs (len - n) f len at ≡ [] → Listed f len fs ls n fs' ls'
    unfolding column
    listing-whole z =
        let c : n + length (runs (len - n) f len at) ≡ n = ap (λ (rs : List Ends). n + length rs) z ∙ omega arith in (
          sym c ∙ l.count,
          (
            sym (ap (λ (rs : List Ends). column (λ e. e.first) rs n fs') z) ∙ l.firsts,
            sym (ap (λ (rs : List Ends). column (λ e. e.last) rs n ls') z) ∙ l.lasts,
          ),
        )

    pub listing-past : len ≤ at → Listed f len fs ls n fs' ls'
    unfolding runs
    listing-past h = listing-whole (by-found (len - n))
      where
        none : (m : ℕ) (r : Option ℕ) → First 1 f len at r
            → when_found r (λ lo. record { first = lo; last = last_around 1 f len lo } ∷ runs m f len (last_around 1 f len lo + 1)) ≡ []
        none m (Some lo) w = let z : ⊥ = omega (arith, w.0, w.1) in absurd z
        none m None w = refl

        by-found : (m : ℕ) → runs m f len at ≡ []
        by-found zero = refl
        by-found (suc m) = none m (next_set f len at) (next-is 1 f len at)

    pub listing-done : next_run_as 0 f len at ≡ Ok None → Listed f len fs ls n fs' ls'
    unfolding answer_as unless runs
    listing-done e = listing-whole (by-found (len - n))
      where
        none : (m : ℕ) (r : Option ℕ) → run_step f len r ≡ None → First 1 f len at r
            → when_found r (λ lo. record { first = lo; last = last_around 1 f len lo } ∷ runs m f len (last_around 1 f len lo + 1)) ≡ []
        none m (Some lo) q w = let z : ◌≡◌ {A = ℕ} 0 1 = ap kind_of q in let x : ⊥ = omega (arith, z) in absurd x
        none m None q w = refl

        by-found : (m : ℕ) → runs m f len at ≡ []
        by-found zero = refl
        by-found (suc m) = none m (next_set f len at) (ap given_in e) (next-is 1 f len at)

    -- a row that may be read is not refused
    pub listing-refused : (k : ℕ) → next_run_as 0 f len at ≡ Err k → Listed f len fs ls n fs' ls'
    unfolding answer_as unless
    listing-refused k e = let z : ◌≡◌ {A = ℕ} 0 1 = ap refusal_in e in let no : ⊥ = omega (arith, z) in absurd no

-- what an answer t of a row that is not refused says of the cursor by value
pub answered : (n : ℕ) (f : ℕ → ℕ) (len at : ℕ) (t r : Result (Option NextRun) ℕ) → n ≡ 0 → t ≡ next_run_as n f len at → t ≡ r → next_run_as 0 f len at ≡ r
answered n f len at t r z e q = sym (ap (λ (k : ℕ). next_run_as k f len at) z) ∙ sym e ∙ q

-- ---- what a column holds: one end of each run in order, and every other entry as it was

pub column-stays : (end : Ends → ℕ) (rs : List Ends) (n k : ℕ) (l : List ℕ) → (k < n) ⊎ (n + length rs ≤ k)
    → get_or (column end rs n l) k 0 ≡ get_or l k 0
unfolding column
column-stays end [] n k l h = refl
column-stays end (r ∷ rs) n k l h =
    column-stays end rs (n + 1) k (set l n (end r))
    (⊎_elim (λ (a : k < n). inl (omega arith)) (λ (a : n + length (r ∷ rs) ≤ k). inr (omega (arith, a))) h)
    ∙ get_or-set_other l n k (end r) 0
    (⊎_elim (λ (a : k < n) (e : k ≡ n). omega arith) (λ (a : n + length (r ∷ rs) ≤ k) (e : k ≡ n). omega (arith, a)) h)

pub column-at : (end : Ends → ℕ) (rs : List Ends) (n k : ℕ) (l : List ℕ) (d : Ends) → k < length rs → n + length rs ≤ length l
    → get_or (column end rs n l) (n + k) 0 ≡ end (get_or rs k d)
unfolding column
column-at end [] n k l d h room = absurd (not-suc-le-zero h)
column-at end (r ∷ rs) n zero l d h room =
    let e : n + 0 ≡ n = omega arith in
    ap (λ (j : ℕ). get_or (column end rs (n + 1) (set l n (end r))) j 0) e
    ∙ column-stays end rs (n + 1) n (set l n (end r)) (inl (omega arith))
    ∙ get_or-set_same l n (end r) 0 (omega (arith, room))
column-at end (r ∷ rs) n (suc k) l d h room =
    let e : n + suc k ≡ n + 1 + k = omega arith in
    let q : length (set l n (end r)) ≡ length l = length-set l n (end r) in
    ap (λ (j : ℕ). get_or (column end rs (n + 1) (set l n (end r))) j 0) e
    ∙ column-at end rs (n + 1) k (set l n (end r)) d (le_of_suc-le-suc h) (omega (arith, room, q))
