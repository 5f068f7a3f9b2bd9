-- `targets::rounding::nearest` meets its contract. Assumes nothing.
use Rattle.std.proofs.Common.{ℕ, ◌+◌, ◌/◌, ap, ◌∙◌, arith}
use Rattle.targets.proofs.Nearest.{nearest-of, held}
use Rattle.targets.proofs.rounding.nearest.Goals as goal

pub truncating_f64_to_u64-requires : goal.truncating_f64_to_u64-requires
truncating_f64_to_u64-requires c =
    let n = nearest-of c.args.x (held c.well_formed.0.1) c.requires.0 c.requires.1 in
    record { lower_bound = n.low; upper_bound = n.high }

pub overflow_add-result : goal.overflow_add-result
overflow_add-result c =
    let n = nearest-of c.args.x (held c.well_formed.0.1) c.requires.0 c.requires.1 in
    omega (arith, c.truncating_f64_to_u64.ensures, n.small)

pub returns : goal.returns
returns c =
    let n = nearest-of c.args.x (held c.well_formed.0.1) c.requires.0 c.requires.1 in
    let e = c.truncating_f64_to_u64.ensures in
    (ap (λ (k : ℕ). (k + 1) / 2) e ∙ n.is, omega (arith, e, n.small))
