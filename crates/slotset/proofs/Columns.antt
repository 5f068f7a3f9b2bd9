-- The list of all runs in two columns from an entry on, filled run by run; and everybody's, person by person. Assumes nothing.
use Rattle.std.specs.Prelude.{Option, Some, None}
use mathlib.Core.Path.{◌≡◌, refl, sym, ap, ap₂, ◌∙◌, subst}
use mathlib.Core.List.{List, [], ◌∷◌, ◌++◌}
use Prim.Native.Nat.{ℕ, zero, suc, ◌+◌, ◌-◌, ◌*◌, ◌≤◌, ◌<◌}
use native.Mathlib.Nat.{suc-mul, mul-le-mul, mul-le-mul_right}
use native.Mathlib.Omega.{arith}
use borrow.Author.Tests.{leb-true}
use lib.ListN.{length, set, length-set}
use Rattle.paper.specs.Count.{over}
use Rattle.paper.specs.Limits.{number_of}
use Rattle.paper.proofs.Count.{over-more, length_over}
use Rattle.paper.proofs.Rows.{passed}
use Rattle.paper.proofs.Logic.{people-says}
use Rattle.slotset.specs.Slots.{Bits}
use Rattle.slotset.specs.Search.{First, next_set}
use Rattle.slotset.specs.Runs.{Ends, when_found, last_around, runs, ends_of_runs}
use Rattle.slotset.specs.Answers.{sets_row, row_slots}
use Rattle.slotset.specs.Lists.{every_run_row, person_runs, every_run, column}
use Rattle.slotset.proofs.Meaning.{next-is}
use Rattle.slotset.proofs.Runs.{run-around}

-- where nothing is refused, the sets may be read and the columns have room
pub every-says : (ws : List ℕ) (people len k n m : ℕ) → number_of (every_run_row ws people len k n m) ≡ 0
    → (((people ≤ 32) × (len ≤ 1024)) × ((16 * people ≤ length ws) × (people ≤ k))) × ((people * len ≤ n) × (people * len ≤ m))
unfolding every_run_row sets_row
every-says ws people len k n m z =
    let h = passed (every_run_row ws people len k n m) refl z in (
      (((people-says people (h 0)).1, leb-true _ _ (h 1)), (leb-true _ _ (h 2), leb-true _ _ (h 3))),
      (leb-true _ _ (h 4), leb-true _ _ (h 5)),
    )

-- of everybody's sets alone: a product of such counts is small
pub sets-few : (ws : List ℕ) (people len : ℕ) → number_of (sets_row ws people len) ≡ 0 → (people ≤ 32) × (len ≤ 1024)
unfolding sets_row
sets-few ws people len z =
    let h = passed (sets_row ws people len) refl z in
    ((people-says people (h 0)).1, leb-true _ _ (h 1))

pub product-few : (a b : ℕ) → a ≤ 32 → b ≤ 1024 → a * b ≤ 32768
product-few a b h g = mul-le-mul h g

-- ---- columns

pub column-length : (end : Ends → ℕ) (rs : List Ends) (n : ℕ) (l : List ℕ) → length (column end rs n l) ≡ length l
unfolding column
column-length end [] n l = refl
column-length end (r ∷ rs) n l = column-length end rs (n + 1) (set l n (end r)) ∙ length-set l n (end r)

pub column-append : (end : Ends → ℕ) (rs ts : List Ends) (n : ℕ) (l : List ℕ)
    → column end (rs ++ ts) n l ≡ column end ts (n + length rs) (column end rs n l)
unfolding column
column-append end [] ts n l = let e : n ≡ n + 0 = omega arith in ap (λ (k : ℕ). column end ts k l) e
column-append end (r ∷ rs) ts n l =
    let e : n + 1 + length rs ≡ n + suc (length rs) = omega arith in
    column-append end rs ts (n + 1) (set l n (end r)) ∙ ap (λ (k : ℕ). column end ts k (column end rs (n + 1) (set l n (end r)))) e

length-append : (rs ts : List Ends) → length (rs ++ ts) ≡ length rs + length ts
length-append [] ts = omega arith
length-append (r ∷ rs) ts = omega (arith, length-append rs ts)

-- ---- one set's list while it is filled: from entry `from` on up to n, and the search goes on at `at`

-- a run is found: its first slot is the next member, its last one before the next slot that is none
pub record Given (f : ℕ → ℕ) (len at first last : ℕ) : Type 0 where
  pub from : at ≤ first
  pub to : first ≤ last
  pub fits : last < len
  pub head : (m : ℕ) → runs (suc m) f len at ≡ record { first = first; last = last } ∷ runs m f len (last + 1)

module _ (f : ℕ → ℕ) (bits : Bits f) (len at : ℕ) where
  pub given : (first last : ℕ) → next_set f len at ≡ Some first → last ≡ last_around 1 f len first → Given f len at first last
  unfolding runs
  given first last e q =
      let w = subst (First 1 f len at) e (next-is 1 f len at) in
      let r = run-around f bits len first (w.1, w.2) in
      record {
        from = w.0;
        to = omega (arith, r.to, q);
        fits = omega (arith, r.fits, q);
        head = λ m.
            ap (λ (x : Option ℕ). when_found x (λ lo. record { first = lo; last = last_around 1 f len lo } ∷ runs m f len (last_around 1 f len lo + 1))) e
            ∙ ap {B = List Ends} (λ (x : ℕ). record { first = first; last = x } ∷ runs m f len (x + 1)) (sym q);
      }

  -- none is left
  pub none_left : (m : ℕ) → next_set f len at ≡ None → runs m f len at ≡ []
  unfolding runs
  none_left zero e = refl
  none_left (suc m) e =
      ap (λ (x : Option ℕ). when_found x (λ lo. record { first = lo; last = last_around 1 f len lo } ∷ runs m f len (last_around 1 f len lo + 1))) e

pub record Filling (f : ℕ → ℕ) (len from : ℕ) (fs ls : List ℕ) (n at : ℕ) (fs' ls' : List ℕ) : Type 0 where
  pub start : from ≤ n
  pub few : n ≤ from + at
  pub count : n + length (runs (len - (n - from)) f len at) ≡ from + length (ends_of_runs f len)
  pub firsts : column (λ e. e.first) (runs (len - (n - from)) f len at) n fs' ≡ column (λ e. e.first) (ends_of_runs f len) from fs
  pub lasts : column (λ e. e.last) (runs (len - (n - from)) f len at) n ls' ≡ column (λ e. e.last) (ends_of_runs f len) from ls
  pub long : (length fs' ≡ length fs) × (length ls' ≡ length ls)

-- what is asked at the end
abbrev pub Filled : (ℕ → ℕ) → ℕ → ℕ → List ℕ → List ℕ → ℕ → List ℕ → List ℕ → Type 0
Filled f len from fs ls n fs' ls' =
    (n ≡ from + length (ends_of_runs f len)) × ((fs' ≡ column (λ e. e.first) (ends_of_runs f len) from fs)
    × (ls' ≡ column (λ e. e.last) (ends_of_runs f len) from ls))

module _ (f : ℕ → ℕ) (bits : Bits f) (len from : ℕ) (fs ls : List ℕ) where
  pub filling-starts : Filling f len from fs ls from 0 fs ls
  filling-starts =
      let z : len - (from - from) ≡ len = omega arith in
      record {
        start = omega arith;
        few = omega arith;
        count = ap (λ (k : ℕ). from + length (runs k f len 0)) z;
        firsts = ap (λ (k : ℕ). column (λ e. e.first) (runs k f len 0) from fs) z;
        lasts = ap (λ (k : ℕ). column (λ e. e.last) (runs k f len 0) from ls) z;
        long = (refl, refl);
      }

  module _ (n at : ℕ) (fs' ls' : List ℕ) (l : Filling f len from fs ls n at fs' ls') where
    pub filling-more : at < len → (first last : ℕ) → Given f len at first last
        → Filling f len from fs ls (n + 1) (last + 1) (set fs' n first) (set ls' n last)
    unfolding column
    filling-more h first last g =
        let m = len - (n + 1 - from) in
        let k : len - (n - from) ≡ suc m = omega (arith, l.few, l.start) in
        let left : runs (len - (n - from)) f len at ≡ record { first = first; last = last } ∷ runs m f len (last + 1) =
        ap (λ (i : ℕ). runs i f len at) k ∙ g.head m in
        let c : n + length (runs (len - (n - from)) f len at) ≡ n + 1 + length (runs m f len (last + 1)) =
        ap (λ (rs : List Ends). n + length rs) left ∙ omega arith in
        record {
          start = omega (arith, l.start);
          few = omega (arith, l.few, g.from, g.to);
          count = sym c ∙ l.count;
          firsts = sym (ap (λ (rs : List Ends). column (λ e. e.first) rs n fs') left) ∙ l.firsts;
          lasts = sym (ap (λ (rs : List Ends). column (λ e. e.last) rs n ls') left) ∙ l.lasts;
          long = (length-set fs' n first ∙ l.long.0, length-set ls' n last ∙ l.long.1);
        }

    -- no run is left: the list is whole
    pub filling-whole : ((m : ℕ) → runs m f len at ≡ []) → Filled f len from fs ls n fs' ls'
    unfolding column
    filling-whole none =
        let z = none (len - (n - from)) in
        let c : n + length (runs (len - (n - from)) f len at) ≡ n = ap (λ (rs : List Ends). n + length rs) z ∙ omega arith in (
          sym c ∙ l.count,
          (
            sym (ap (λ (rs : List Ends). column (λ e. e.first) rs n fs') z) ∙ l.firsts,
            sym (ap (λ (rs : List Ends). column (λ e. e.last) rs n ls') z) ∙ l.lasts,
          ),
        )

-- a list has no more runs than it may
pub runs-few : (m : ℕ) (f : ℕ → ℕ) (len at : ℕ) → length (runs m f len at) ≤ m
unfolding runs
runs-few zero f len at = omega arith
runs-few (suc m) f len at = by-found (λ at. runs-few m f len at) (next_set f len at)
  where
    by-found : ((at : ℕ) → length (runs m f len at) ≤ m) → (r : Option ℕ)
        → length (when_found r (λ lo. record { first = lo; last = last_around 1 f len lo } ∷ runs m f len (last_around 1 f len lo + 1))) ≤ suc m
    by-found few (Some lo) = omega (arith, few (last_around 1 f len lo + 1))
    by-found few None = omega arith

-- ---- everybody's while it is filled: those of the first p people stand there

pub record Everybody (ws : List ℕ) (len : ℕ) (cs fs ls : List ℕ) (n p : ℕ) (cs' fs' ls' : List ℕ) : Type 0 where
  pub few : n ≤ p * len
  pub count : n ≡ length (every_run ws len p)
  pub counts : cs' ≡ over (λ q. length (person_runs ws len q)) p cs
  pub firsts : fs' ≡ column (λ e. e.first) (every_run ws len p) 0 fs
  pub lasts : ls' ≡ column (λ e. e.last) (every_run ws len p) 0 ls

module _ (ws : List ℕ) (len : ℕ) (cs fs ls : List ℕ) where
  pub everybody-starts : Everybody ws len cs fs ls 0 0 cs fs ls
  unfolding every_run column over
  everybody-starts = record { few = omega arith; count = refl; counts = refl; firsts = refl; lasts = refl }

  module _ (n p : ℕ) (cs' fs' ls' : List ℕ) (e : Everybody ws len cs fs ls n p cs' fs' ls') where
    -- the columns are as long as they were, and a person's runs have room
    pub everybody-long : (length cs' ≡ length cs) × (length fs' ≡ length fs) × (length ls' ≡ length ls)
    everybody-long = (
      ap length e.counts ∙ length_over _ p cs,
      ap length e.firsts ∙ column-length _ _ 0 fs,
      ap length e.lasts ∙ column-length _ _ 0 ls,
    )

    pub everybody-room : (people : ℕ) → p < people → n + len ≤ people * len
    everybody-room people h =
        let q : suc p ≤ people = h in
        omega (arith, e.few, mul-le-mul_right len q, suc-mul p len)

    -- everybody's stand there
    pub everybody-end : (people : ℕ) → p ≡ people
        → (n ≡ length (every_run ws len people)) × (cs' ≡ over (λ q. length (person_runs ws len q)) people cs)
        × (fs' ≡ column (λ e. e.first) (every_run ws len people) 0 fs) × (ls' ≡ column (λ e. e.last) (every_run ws len people) 0 ls)
    everybody-end people h = (
      e.count ∙ ap (λ (k : ℕ). length (every_run ws len k)) h,
      e.counts ∙ ap (λ (k : ℕ). over (λ q. length (person_runs ws len q)) k cs) h,
      e.firsts ∙ ap (λ (k : ℕ). column (λ e. e.first) (every_run ws len k) 0 fs) h,
      e.lasts ∙ ap (λ (k : ℕ). column (λ e. e.last) (every_run ws len k) 0 ls) h,
    )

    module _ (next : ℕ) (fs'' ls'' : List ℕ) (l : Filled (row_slots ws p) len n fs' ls' next fs'' ls'') where
      pub person-few : next - n ≤ len
      person-few = omega (arith, l.0, runs-few len (row_slots ws p) len 0)

      pub everybody-more : Everybody ws len cs fs ls next (p + 1) (set cs' p (next - n)) fs'' ls''
      unfolding every_run
      everybody-more =
          let s : every_run ws len (p + 1) ≡ every_run ws len p ++ person_runs ws len p =
          ap (every_run ws len) (plus_one p) in
          let a : length (every_run ws len (p + 1)) ≡ length (every_run ws len p) + length (person_runs ws len p) =
          ap length s ∙ length-append (every_run ws len p) (person_runs ws len p) in
          let d : next - n ≡ length (person_runs ws len p) = omega (arith, l.0) in
          let w : (p + 1) * len ≡ p * len + len = ap (λ (k : ℕ). k * len) (plus_one p) ∙ suc-mul p len in
          record {
            few = omega (arith, e.few, l.0, runs-few len (row_slots ws p) len 0, w);
            count = omega (arith, l.0, e.count, a);
            counts = ap₂ (λ (x : List ℕ) (y : ℕ). set x p y) e.counts d ∙ sym (over-more _ p cs);
            firsts = l.1.0 ∙ put (λ x. x.first) fs fs' e.firsts s;
            lasts = l.1.1 ∙ put (λ x. x.last) ls ls' e.lasts s;
          }
        where
          plus_one : (k : ℕ) → k + 1 ≡ suc k
          plus_one k = omega arith

          put : (end : Ends → ℕ) (l₀ l₁ : List ℕ) → l₁ ≡ column end (every_run ws len p) 0 l₀
              → every_run ws len (p + 1) ≡ every_run ws len p ++ person_runs ws len p
              → column end (person_runs ws len p) n l₁ ≡ column end (every_run ws len (p + 1)) 0 l₀
          put end l₀ l₁ q s =
              ap₂ (λ (k : ℕ) (x : List ℕ). column end (person_runs ws len p) k x) (e.count ∙ zero-add _) q
              ∙ sym (ap (λ (rs : List Ends). column end rs 0 l₀) s ∙ column-append end (every_run ws len p) (person_runs ws len p) 0 l₀)
            where
              zero-add : (k : ℕ) → k ≡ 0 + k
              zero-add k = omega arith
