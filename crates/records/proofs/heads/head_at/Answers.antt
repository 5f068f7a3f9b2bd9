-- `records::heads::head_at` meets its contract. Assumes nothing.
use native.Mathlib.Omega.{arith}
use Rattle.records.proofs.Mixed.{head-whole, head-cut}
use Rattle.records.proofs.heads.head_at.Goals.{then-s-lt4-via-then-s-lt4, then-s-lt4-via-else-s-lt4+then-s-at}
use Rattle.records.proofs.heads.head_at.Goals as goal

pub returns-then-s-at-2 : goal.returns-then-s-at-2
returns-then-s-at-2 c = head-cut _ _ (omega arith)

pub returns : goal.returns
returns c = head-whole _ _ _ _ c.number_at-size.ensures.0 c.number_at-kind.ensures.0 (omega arith)

pub returns-then-s-lt4 : goal.returns-then-s-lt4
returns-then-s-lt4 c = elim c.then-s-lt4.branch [
  | then-s-lt4-via-then-s-lt4 w ↦ head-cut _ _ (omega arith)
  | then-s-lt4-via-else-s-lt4+then-s-at w ↦ head-cut _ _ (omega arith)
]
