-- Every target that is given is an i64, far from its ends. Assumes nothing.
use Rattle.std.proofs.Common.{◌≡◌, ℕ, ◌+◌, ◌^◌, ◌<◌, ◌≤◌, eqb, List, map, length, get_or, drop, ℤ, pos, neg_ℤ, sym, ap, ◌∙◌, ⊎_elim, le_of_eq, lt_of_lt_of_le, arith, get_or-set_same, eqb-true}
use borrow.Author.Tests.{eqb-false}
use lib.IntN.{+ℤ_assoc}
use lib.Signed.{mag}
use lib.ListN.{length-map, get_or-map, get_or-eq_default, get_or-append}
use Rattle.paper.proofs.Logic.{by-test, by_cond, lt-or-ge}
use Rattle.targets.specs.declared.Standing.{Standing}
use Rattle.targets.specs.Figures.{pad}
use Rattle.targets.specs.Remainder.{total_of, taker_of, target_of, adjusted}
use Rattle.targets.specs.SecondEdition.{taking_part, handed_out, spread, shared_out}
use Rattle.targets.specs.Outcome.{Given, demand_in, left_in, targets_in, compute_targets}
use Rattle.targets.specs.Inside.{SmallTarget, Small, PinnedZero}
use Rattle.targets.proofs.Each.{each_at, sum-most}
use Rattle.targets.proofs.Signed.{mag-sub}
use Rattle.targets.proofs.Sums.{total-is}
use Rattle.targets.proofs.Padding.{handed-length, taking-length, shared-length}
use Rattle.targets.proofs.SpreadLaws.{part-most}
use Rattle.targets.proofs.Taker.{taker-here}
use Rattle.targets.proofs.Promises.{demand-fits, other, accepted-sound, accepted-holds, left-small, left-zero, left-some}

-- a target of a standing, whichever
small_at : (ls : List Standing) → Small ls → (k : ℕ) → (get_or ls k pad).target ≤ 1099511627776
small_at ls h k =
    ⊎_elim (λ (l : k < length ls). each_at SmallTarget ls k pad h l)
    (λ (l : length ls ≤ k). omega (arith, ap (λ (x : Standing). x.target) (get_or-eq_default ls pad l)))
    (lt-or-ge k (length ls))

-- 32 standings of at most 2 ^ 40, and demand
adjusted-sized : (d : ℕ) (ls : List Standing) → 0 < length ls → length ls ≤ 32 → d ≤ 100000000 → Small ls → (k : ℕ)
    → mag (get_or (adjusted d ls) k (pos 0)) < 2 ^ 63
unfolding adjusted
adjusted-sized d ls some few D h k =
    let j = taker_of ls in
    let a = (get_or ls j pad).target in
    let m = sum-most (λ (l : Standing). l.target) 1099511627776 ls h in
    by-test (eqb k j) _
    (λ e.
    let q = ap (λ (i : ℕ). get_or (adjusted d ls) i (pos 0)) (eqb-true k j e)
    ∙ get_or-set_same (map target_of ls) j _ (pos 0) (lt_of_lt_of_le (taker-here ls some) (le_of_eq (sym (length-map ls target_of))))
    ∙ sym (+ℤ_assoc (pos a) (pos d) (neg_ℤ (pos (total_of ls)))) in
    omega (arith, ap mag q, mag-sub (a + d) (total_of ls), total-is ls, m, small_at ls h j))
    (λ e. omega (arith, ap mag (other d k ls (eqb-false k j e)), small_at ls h k))

-- and edition 2's are at most demand
spread-sized : (d : ℕ) (ls : List Standing) → 0 < length ls → d ≤ 100000000 → Small ls → PinnedZero ls → (k : ℕ) → k < length ls
    → mag (get_or (spread d ls) k (pos 0)) < 2 ^ 63
unfolding spread
spread-sized d ls some D h z k l =
    let after = handed_out d (taking_part ls) in
    omega (
      arith,
      D,
      ap mag (get_or-map target_of after k pad),
      each_at (λ (x : Standing). x.target ≤ d) after k pad (part-most d ls some h z)
          (omega (arith, l, handed-length d (taking_part ls), taking-length ls)),
    )

pub accepted-sized : (g : Given) (out : List ℤ) → (compute_targets g out).number ≡ 0
    → (k : ℕ) → k < g.people → mag (get_or (compute_targets g out).out k (pos 0)) < 2 ^ 63
unfolding shared_out
accepted-sized g out e k l =
    let H = accepted-holds g out e in
    let s = accepted-sound g out e in
    let d = demand_in g in
    let left = left_in g in
    let n = shared-length g.edition d left in
    let some = left-some g out e in
    let sized = by_cond (eqb g.edition 1) (spread d left) (adjusted d left) (λ (zs : List ℤ). mag (get_or zs k (pos 0)) < 2 ^ 63)
    (λ t. spread-sized d left some (demand-fits g s) (left-small g) (left-zero g) k (omega (arith, l, n, H.count)))
    (λ f. adjusted-sized d left some (omega (arith, s.few, n, H.count)) (demand-fits g s) (left-small g) k) in
    omega (
      arith,
      ap (λ (x : List ℤ). mag (get_or x k (pos 0))) H.is,
      ap mag (get_or-append (targets_in g) (drop g.people out) (pos 0) k (omega (arith, H.count))),
      sized,
    )
