-- What the outcome of `compute_targets` promises. Assumes nothing.
use Rattle.std.proofs.Common.{◌≡◌, ℕ, suc, ◌<◌, ◌≤◌, true, eqb, leb, ◌≢◌, List, [], ◌∷◌, ◌++◌, map, length, get_or, take, drop, ℤ, pos, sym, refl, ap, ◌∙◌, arith, get_or-set_other, take_at, drop_at, eqb-true}
use borrow.Author.Tests.{eqb-false}
use lib.ListN.{get_or-map, get_or-append}
use Rattle.paper.specs.Limits.{test, number_of}
use Rattle.paper.proofs.Logic.{by-test, by_cond, one-outcome}
use Rattle.paper.proofs.Count.{all-each}
use Rattle.paper.proofs.Rows.{worked, kept}
use Rattle.slots.specs.Lent.{slots_ok}
use Rattle.slots.proofs.LentLaws.{slots-sound}
use Rattle.targets.specs.declared.Standing.{Standing}
use Rattle.targets.specs.Figures.{pad, all_figures_ok, figures_ok_at, person_at, available_minutes}
use Rattle.targets.specs.Passes.{again, passes_leave, guarded}
use Rattle.targets.specs.Remainder.{target_of, adjusted, taker_of, Takes, sumℤ}
use Rattle.targets.specs.Outcome.{Given, demand_in, base_at, standing_in, standings_in, passed_in, left_in, taker_in, targets_in, room_row}
use Rattle.targets.specs.Outcome.{targets_row, compute_targets, Meets}
use Rattle.targets.specs.SecondEdition.{shared_out}
use Rattle.targets.specs.Inside.{SmallTarget, Small, PinnedZero, checks_row, Sound}
use Rattle.targets.proofs.Loops.{length-up_to}
use Rattle.targets.proofs.Each.{each-up_to}
use Rattle.targets.proofs.Taker.{taker-takes}
use Rattle.targets.proofs.Sizes.{small-passes, zero-passes, left-holds}
use Rattle.targets.proofs.SpreadLaws.{shared-adds-up}
use Rattle.targets.proofs.Padding.{shared-length, left-count}
use Rattle.targets.proofs.Ends.{passes-end}
use Rattle.targets.proofs.Guard.{Good, Goods}
use Rattle.targets.proofs.Never.{good-standing, never-refused}
use Rattle.targets.proofs.Minutes.{available-fits}
use Rattle.targets.proofs.Accepted.{says_nothing, unlisted-not-given, with-guard, keeps-guard, row-refused}
use Rattle.targets.proofs.Accepted.{accepted, Lent, lent-checks}

-- ---- only one outcome fits

pub only_one : (g : Given) (out : List ℤ) (r s : ℕ) (o p : List ℤ) → Meets g out r o → Meets g out s p → (r ≡ s) × (o ≡ p)
only_one g out r s o p h k = (
  one-outcome (compute_targets g out).number r s h.0 k.0,
  one-outcome (compute_targets g out).out o p h.1 k.1,
)

-- ---- by the number

pub number-row : (g : Given) (out : List ℤ) → (compute_targets g out).number ≡ number_of (targets_row g (length out))
unfolding compute_targets
number-row g out = refl

pub refused-keeps : (g : Given) (out : List ℤ) → (compute_targets g out).number ≢ 0 → (compute_targets g out).out ≡ out
unfolding compute_targets
refused-keeps g out h = kept _ out (targets_in g ++ drop g.people out) h

pub when-accepted : (g : Given) (out : List ℤ) → (compute_targets g out).number ≡ 0
    → (compute_targets g out).out ≡ targets_in g ++ drop g.people out
unfolding compute_targets
when-accepted g out z = worked _ out (targets_in g ++ drop g.people out) z

-- ---- demand and every base fit the paper's minutes

pub demand-fits : (g : Given) → Sound g → demand_in g ≤ 100000000
demand-fits g s = (slots-sound g.slots g.starts g.ends s.ordered).demand-fits

pub people-in : (g : Given) → length (standings_in g) ≡ g.people
people-in g = length-up_to (standing_in g) g.people

base-fits : (g : Given) → Sound g → (k : ℕ) → base_at g k ≤ 100000000
base-fits g s k =
    by_cond (eqb g.fairness 1) (demand_in g) (available_minutes g.slots g.starts g.ends g.avail k) (λ (m : ℕ). m ≤ 100000000)
    (λ t. demand-fits g s) (λ f. available-fits g.slots g.starts g.ends g.avail k s.ordered)

-- ---- refusal 8: never on accepted figures

pub goods-in : (g : Given) → Sound g → Goods (standings_in g)
unfolding all_figures_ok
goods-in g s =
    each-up_to Good (standing_in g) g.people
    (λ k h. good-standing (person_at g.capacities g.priors k) (base_at g k)
    (all-each g.people (figures_ok_at g.capacities g.priors) s.figures k h) (base-fits g s k))

pub people-few : (g : Given) → Sound g → length (standings_in g) ≤ 32
people-few g s = omega (arith, people-in g, s.few)

pub guard-kept : (g : Given) → Sound g → guarded (passed_in g) ≡ true
guard-kept g s = never-refused (demand_in g) (standings_in g) (demand-fits g s) (people-few g s) (goods-in g s)

-- so the number is what the checks say
pub number_is : (g : Given) (out : List ℤ) → (compute_targets g out).number ≡ number_of (checks_row g (length out))
number_is g out =
    let n = number_of (checks_row g (length out)) in
    number-row g out
    ∙ by-test (eqb n 0) _
    (λ t. with-guard g (length out) (keeps-guard g (length out) (guard-kept g (accepted g (length out) (eqb-true n 0 t)).sound)))
    (λ f. row-refused g (length out) (eqb-false n 0 f))

pub eight-never : (g : Given) (out : List ℤ) → (compute_targets g out).number ≡ 8 → ⊥
unfolding checks_row room_row
eight-never g out e = unlisted-not-given 8 (checks_row g (length out)) refl (omega arith) (sym (number_is g out) ∙ e)

-- where counts and room pass, and the slots, 6 and 7 are given
pub number-lent : (g : Given) (out : List ℤ) → Lent g (length out) → slots_ok g.slots g.starts g.ends ≡ true
    → (compute_targets g out).number
    ≡ number_of (test 6 (all_figures_ok g.people g.capacities g.priors) ∷ test 7 (leb g.fairness 1) ∷ test 7 (leb g.edition 1) ∷ [])
number-lent g out l o = number_is g out ∙ lent-checks g (length out) l ∙ says_nothing (
    test 6 (all_figures_ok g.people g.capacities g.priors) ∷ test 7 (leb g.fairness 1) ∷ test 7 (leb g.edition 1) ∷ []) _ [] o

-- the passes end by themselves: the bound of people + 1 never cuts them short
pub never-cut : (g : Given) (ms : List Standing) → passes_leave (demand_in g) (standings_in g) ≡ again ms → ⊥
never-cut g ms = passes-end (demand_in g) (standings_in g) ms

-- ---- what the buffer holds

-- accepted: the targets, as many as people, and past them what it held
pub record Held (g : Given) (out o : List ℤ) : Type 0 where
  pub count : length (targets_in g) ≡ g.people
  pub is : o ≡ targets_in g ++ drop g.people out

pub accepted-sound : (g : Given) (out : List ℤ) → (compute_targets g out).number ≡ 0 → Sound g
accepted-sound g out e = (accepted g (length out) (sym (number_is g out) ∙ e)).sound

pub accepted-holds : (g : Given) (out : List ℤ) → (compute_targets g out).number ≡ 0 → Held g out (compute_targets g out).out
accepted-holds g out e =
    let k = guard-kept g (accepted-sound g out e) in
    record {
      count = shared-length g.edition (demand_in g) (left_in g) ∙ left-count g.people (demand_in g) (standings_in g) (people-in g) k;
      is = when-accepted g out e;
    }

-- entries past the people stay, and there are as many entries as before
pub past-stays : (g : Given) (out : List ℤ) → drop g.people (compute_targets g out).out ≡ drop g.people out
past-stays g out =
    by-test (eqb (compute_targets g out).number 0) (drop g.people (compute_targets g out).out ≡ drop g.people out)
    (λ t.
    let h = accepted-holds g out (eqb-true (compute_targets g out).number 0 t) in
    ap (drop g.people) h.is ∙ drop_at (targets_in g) (drop g.people out) g.people h.count)
    (λ f. ap (drop g.people) (refused-keeps g out (eqb-false (compute_targets g out).number 0 f)))

-- ---- the standings that the passes leave

pub left-small : (g : Given) → Small (left_in g)
left-small g =
    left-holds Small tt (passed_in g) (small-passes (suc (length (standings_in g))) (demand_in g) (again (standings_in g))
    (each-up_to SmallTarget (standing_in g) g.people (λ k h. omega arith)))

pub left-zero : (g : Given) → PinnedZero (left_in g)
left-zero g =
    left-holds PinnedZero tt (passed_in g) (zero-passes (suc (length (standings_in g))) (demand_in g) (again (standings_in g))
    (each-up_to (λ (l : Standing). l.pinned ≡ true → l.target ≡ 0) (standing_in g) g.people (λ k h e. refl)))

pub left-some : (g : Given) (out : List ℤ) → (compute_targets g out).number ≡ 0 → 0 < length (left_in g)
left-some g out e =
    omega (arith, (accepted-sound g out e).somebody, (accepted-holds g out e).count, shared-length g.edition (demand_in g) (left_in g))

-- ---- the targets add up to demand, in each edition

pub targets-add-up : (g : Given) (out : List ℤ) → (compute_targets g out).number ≡ 0
    → sumℤ (take g.people (compute_targets g out).out) ≡ pos (demand_in g)
targets-add-up g out e =
    let h = accepted-holds g out e in
    ap (λ (o : List ℤ). sumℤ (take g.people o)) h.is ∙ ap sumℤ (take_at (targets_in g) (drop g.people out) g.people h.count)
    ∙ shared-adds-up (demand_in g) (left_in g) (left-some g out e) (left-small g) (left-zero g) g.edition

-- ---- edition 1: a target below 0 can only be the taker's

pub first-edition : (g : Given) → g.edition ≡ 0 → targets_in g ≡ adjusted (demand_in g) (left_in g)
unfolding shared_out
first-edition g e = ap (λ (n : ℕ). shared_out n (demand_in g) (left_in g)) e

-- the taker is who the rule says, of the standings that the passes leave
pub taker-by-rule : (g : Given) → Takes (left_in g) (taker_in g)
taker-by-rule g = taker-takes (left_in g)

pub other : (d k : ℕ) (ls : List Standing) → k ≢ taker_of ls → get_or (adjusted d ls) k (pos 0) ≡ pos (get_or ls k pad).target
unfolding adjusted
other d k ls n = get_or-set_other (map target_of ls) (taker_of ls) k _ (pos 0) n ∙ get_or-map target_of ls k pad

pub others-not-below : (g : Given) (out : List ℤ) (k : ℕ) → g.edition ≡ 0 → (compute_targets g out).number ≡ 0 → k < g.people → k ≢ taker_in g
    → get_or (compute_targets g out).out k (pos 0) ≡ pos (get_or (left_in g) k pad).target
others-not-below g out k z e l n =
    let h = accepted-holds g out e in
    ap (λ (o : List ℤ). get_or o k (pos 0)) h.is
    ∙ get_or-append (targets_in g) (drop g.people out) (pos 0) k (omega (arith, h.count))
    ∙ ap (λ (o : List ℤ). get_or o k (pos 0)) (first-edition g z) ∙ other (demand_in g) k (left_in g) n
