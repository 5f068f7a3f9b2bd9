-- Demand 2, targets, by the laws of targets. Assumes nothing.
use mathlib.Core.Path.{◌≡◌, refl, sym, ap, ap₂, ◌∙◌}
use mathlib.Core.Bool.{Bool, true, false, cond}
use mathlib.Core.List.{List, [], ◌∷◌, ◌++◌, map, foldl, foldl-append}
use Prim.Native.Nat.{ℕ, zero, suc, ◌+◌, ◌-◌, ◌<◌}
use native.Mathlib.Omega.{arith}
use borrow.Author.Tests.{eq-eqb}
use lib.Dec.{eqb}
use lib.ListN.{get_or, get_or-append}
use lib.Seq.{get_or-append_seam}
use lib.Ieee.{Float, fin, binary64, add, lt}
use Rattle.paper.proofs.Logic.{below_suc}
use Rattle.paper.specs.Count as Σ
use Rattle.slotset.specs.Answers.{row_slots}
use Rattle.slots.specs.Lent.{minutes_at}
use Rattle.targets.specs.declared.Standing.{Standing}
use Rattle.targets.specs.Figures.{zero_f, whole, person_at, standing_of, up_to, pad, available_minutes}
use Rattle.targets.specs.Passes.{rounded, unrounded, settled, settle, outside, below_zero, share_sum, notional, some}
use Rattle.targets.specs.Passes.{Passed, again, done, refused, pass}
use Rattle.targets.specs.Outcome.{Given, demand_in, base_at, left_in, taker_in}
use Rattle.targets.proofs.Loops.{length-up_to}
use Rattle.targets.proofs.Nearest.{rounded-nearest, nearest-one}
use Rattle.targets.proofs.Taker.{takes_one}
use Rattle.targets.proofs.Promises.{taker-by-rule, others-not-below, targets-add-up, past-stays, eight-never, never-cut}
use Rattle.promises.specs.TargetRules.{Settles, OverUnpinned, TargetsByRule}
use Rattle.promises.proofs.TargetFairness.{fairness-agrees}

base-by : (g : Given) (k : ℕ) (b : Bool) → eqb g.fairness 1 ≡ b
    → base_at g k ≡ cond b (demand_in g) (available_minutes g.slots g.starts g.ends g.avail k)
base-by g k b e = ap (λ (t : Bool). cond t (demand_in g) (available_minutes g.slots g.starts g.ends g.avail k)) e

base-0-is : (g : Given) (k : ℕ) → g.fairness ≡ 0
    → base_at g k ≡ Σ.sum g.slots (λ j. cond (eqb (row_slots g.avail k j) 1) (get_or g.ends j 0 - get_or g.starts j 0) 0)
unfolding available_minutes minutes_at
base-0-is g k e = base-by g k false (ap (λ (f : ℕ). eqb f 1) e)

-- entry k of a list that was made by numbers
get_d-up-to : (f : ℕ → Standing) (n k : ℕ) → k < n → get_or (up_to f n) k pad ≡ f k
get_d-up-to f zero k h = absurd (omega arith)
get_d-up-to f (suc n) k h =
    below_suc _ h
    (λ q.
    ap (λ (j : ℕ). get_or (up_to f n ++ (f n ∷ [])) j pad) (q ∙ sym (length-up_to f n)) ∙ get_or-append_seam (up_to f n) (f n) [] pad
    ∙ ap f (sym q))
    (λ b. get_or-append (up_to f n) (f n ∷ []) pad k (omega (arith, length-up_to f n)) ∙ get_d-up-to f n k b)

-- a fold that leaves the pinned out
over-unpinned : {A : Type 0} (start : A) (plus : A → Standing → A)
    → OverUnpinned (foldl (λ (s : A) (l : Standing). cond l.pinned s (plus s l)) start) start plus
over-unpinned {A} start plus =
    let f : A → Standing → A = λ s l. cond l.pinned s (plus s l) in
    record {
      none = refl;
      unpinned = λ ls l e.
          foldl-append f start ls (l ∷ []) ∙ ap (λ (b : Bool). cond b (foldl f start ls) (plus (foldl f start ls) l)) e;
      pinned = λ ls l e.
          foldl-append f start ls (l ∷ []) ∙ ap (λ (b : Bool). cond b (foldl f start ls) (plus (foldl f start ls) l)) e;
    }

-- one pass, by whether its sum is above 0 and whether the guard is broken
module _ (demand : ℕ) (ls : List Standing) where
  abbrev n : Float
  n = whole (notional demand ls)

  abbrev s : Float
  s = share_sum ls

  abbrev worked : Passed
  worked = cond (some (below_zero n s) ls) (again (map (settle n s) ls)) (done (map (settle n s) ls))

  pub no-sum : lt zero_f s ≡ false → pass demand (again ls) ≡ done ls
  unfolding pass
  no-sum e = ap (λ (b : Bool). cond b (cond (some (outside n s) ls) refused worked) (done ls)) e

  pub refused-pass : lt zero_f s ≡ true → some (outside n s) ls ≡ true → pass demand (again ls) ≡ refused
  unfolding pass
  refused-pass e f =
      ap (λ (b : Bool). cond b (cond (some (outside n s) ls) refused worked) (done ls)) e
      ∙ ap (λ (b : Bool). cond b refused worked) f

  pub one-pass : lt zero_f s ≡ true → some (outside n s) ls ≡ false → pass demand (again ls) ≡ worked
  unfolding pass
  one-pass e f =
      ap (λ (b : Bool). cond b (cond (some (outside n s) ls) refused worked) (done ls)) e
      ∙ ap (λ (b : Bool). cond b refused worked) f

-- a line by whether it is pinned, and whether its unrounded target is below 0
abbrev pub settled_by : Float → Standing → Bool → Bool → Standing
settled_by x l pinned below =
    cond pinned l
    (cond below (record { person = l.person; raw = l.raw; target = 0; pinned = true })
    (record { person = l.person; raw = l.raw; target = rounded x; pinned = false }))

pub settled_is : (x : Float) (l : Standing) (a b : Bool) → l.pinned ≡ a → lt x zero_f ≡ b → settled x l ≡ settled_by x l a b
unfolding settled
settled_is x l a b p q = ap₂ (settled_by x l) p q

settles-by-rule : (n sum : Float) (l : Standing) → Settles n sum l
settles-by-rule n sum l =
    let x = unrounded n sum l in
    record {
      keeps = λ p. settled_is x l true _ p refl;
      below = λ p q.
          let e = settled_is x l false true p q in
          (ap (λ (m : Standing). m.pinned) e, ap (λ (m : Standing). m.target) e);
      else-rounds = λ p q.
          let e = settled_is x l false false p q in
          (ap (λ (m : Standing). m.pinned) e, ap (λ (m : Standing). m.target) e);
    }

pub targets-by-rule : TargetsByRule
targets-by-rule = record {
  standings = λ g k h. get_d-up-to (λ (j : ℕ). standing_of (person_at g.capacities g.priors j) (base_at g j)) g.people k h;
  begins = λ p base. (refl, refl);
  share = λ p base. refl;
  base-1 = λ g k e. base-by g k true (eq-eqb g.fairness 1 e);
  base-0 = base-0-is;
  sum = over-unpinned zero_f (λ s l. add binary64 s l.raw);
  n = λ demand. over-unpinned demand (λ n l. n + l.person.prior);
  stops = no-sum;
  passes = one-pass;
  works_out = λ n sum l. refl;
  settles = settles-by-rule;
  rounds = λ s m e. record {
    meets = rounded-nearest s m e;
    only = λ r h. nearest-one (fin s m e) r (rounded (fin s m e)) h (rounded-nearest s m e);
  };
  ends = never-cut;
  taker = λ g. record { meets = taker-by-rule g; only = λ k h. takes_one (left_in g) k (taker_in g) h (taker-by-rule g) };
  others = others-not-below;
  add-up = targets-add-up;
  past = past-stays;
  guard = eight-never;
  agrees = fairness-agrees;
}
