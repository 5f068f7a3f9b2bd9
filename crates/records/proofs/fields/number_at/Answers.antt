-- `records::fields::number_at` meets its contract. The invariant: the bytes from `left` on are read. Assumes nothing.
use Rattle.std.proofs.Common.{◌≡◌, ℕ, suc, ◌+◌, ◌-◌, ◌<◌, get_or, sym, ap₂, ◌∙◌, lit<, arith}
use Rattle.records.specs.Fields.{le}
use Rattle.records.proofs.Numbers.{wider, below_power, le-turn, le-none}
use Rattle.records.proofs.fields.number_at.Goals as goal

pub loop-left-init : goal.loop-left-init
loop-left-init c =
    let z : c.args.width - c.args.width ≡ 0 = omega arith in
    (sym (le-none _ _ _ z), rw z (lit< tt))

pub overflow_mul-value : goal.overflow_mul-value
overflow_mul-value c = omega (arith, below_power 256 _ (c.args.width - c.loop-left.left) 7 (lit< tt) c.loop-left.invariant.1 (omega arith))

pub overflow_add-value-in-loop-left : goal.overflow_add-value-in-loop-left
overflow_add-value-in-loop-left c =
    omega (
      arith,
      below_power 256 _ (c.args.width - c.loop-left.left) 7 (lit< tt) c.loop-left.invariant.1 (omega arith),
      c.type_inv.s (c.args.at + (c.loop-left.left - 1)),
    )

pub loop-left-preserved : goal.loop-left-preserved
loop-left-preserved c =
    let a = c.args in
    let before = c.loop-left.left - 1 in
    let b : get_or a.s.now (a.at + before) 0 < 256 = omega (arith, c.type_inv.s (a.at + before)) in
    let p : a.width - before ≡ suc (a.width - c.loop-left.left) = omega arith in
    (le-turn _ _ _ _ _ (omega arith) (omega arith) c.loop-left.invariant.0, rw p (wider _ _ _ c.loop-left.invariant.1 b))

pub returns : goal.returns
returns c =
    let a = c.args in
    let p : a.width - c.loop-left.left ≡ a.width = omega arith in
    let q : a.at + c.loop-left.left ≡ a.at = omega arith in
    (c.loop-left.invariant.0 ∙ ap₂ (λ (n k : ℕ). le n a.s.now k) p q, rw p at c.loop-left.invariant.1)
