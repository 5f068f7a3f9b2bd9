-- `owners::derived::fill_owners` meets its contract. Assumes nothing.
use Rattle.std.proofs.Common.{◌≡◌, ℕ, zero, suc, ◌+◌, ◌-◌, ◌<◌, ◌≤◌, min, List, set, length, sym, ap, ◌∙◌, ⊎_elim, arith}
use lib.Seq.{set_out}
use Rattle.paper.specs.Count.{fill}
use Rattle.paper.proofs.Logic.{lt-or-ge}
use Rattle.paper.proofs.Count.{fill_none, fill_more, length-fill}
use Rattle.owners.proofs.derived.fill_owners.Goals as goal

-- past the end of a list nothing is set
fill-past : (v a n m : ℕ) (l : List ℕ) → n ≤ m → length l ≤ a + n → fill v a m l ≡ fill v a n l
unfolding fill
fill-past v a n zero l h g = let z : 0 ≡ n = omega arith in ap (λ (j : ℕ). fill v a j l) z
fill-past v a n (suc m) l h g =
    ⊎_elim
    (λ (x : m < n). let z : suc m ≡ n = omega arith in ap (λ (j : ℕ). fill v a j l) z)
    (λ (x : n ≤ m). set_out (fill v a m l) (a + m) v (omega (arith, length-fill v a m l)) ∙ fill-past v a n m l x g)
    (lt-or-ge m n)

fill-ends : (v a e k : ℕ) (l : List ℕ) → k - a ≤ e - a → min e (length l) ≤ k → fill v a (k - a) l ≡ fill v a (e - a) l
fill-ends v a e k l h g =
    ⊎_elim
    (λ (x : k < e). sym (fill-past v a (k - a) (e - a) l h (omega arith)))
    (λ (x : e ≤ k). let q : k - a ≡ e - a = omega arith in ap (λ (n : ℕ). fill v a n l) q)
    (lt-or-ge k e)

pub loop-k-init : goal.loop-k-init
loop-k-init c = (omega arith, sym (fill_none _ _ _))

pub loop-k-preserved : goal.loop-k-preserved
loop-k-preserved c = (
  omega arith,
  ap (λ (l : List ℕ). set l c.loop-k.k c.args.owner) c.loop-k.invariant.1 ∙ sym (fill_more _ _ _ _ c.loop-k.auto.k),
)

pub returns : goal.returns
returns c =
    let g : min c.args.e (length c.args.owners.now) ≤ c.loop-k.k = omega arith in
    c.loop-k.invariant.1 ∙ fill-ends _ _ _ _ _ c.loop-k.invariant.0 g
