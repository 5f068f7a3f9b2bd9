-- `store::walk::record_right` meets its contract. Assumes nothing.
use native.Mathlib.Omega.{arith}
use Rattle.store.proofs.Right.{headed-low, headed-high, headed-newer, headed-edition, headed-old, headed-size, headed-room}
use Rattle.store.proofs.walk.record_right.Goals as goal

pub returns-then-kind-lt32 : goal.returns-then-kind-lt32
returns-then-kind-lt32 c = headed-low _ _ _ _ c.requires (omega arith)

pub returns-then-kind-gt63 : goal.returns-then-kind-gt63
returns-then-kind-gt63 c = headed-high _ _ _ _ c.requires (omega arith)

pub returns-then-kind-gt33 : goal.returns-then-kind-gt33
returns-then-kind-gt33 c = headed-newer _ _ _ _ c.requires (omega arith) (omega arith)

pub returns-then-kind-eq33 : goal.returns-then-kind-eq33
returns-then-kind-eq33 c = headed-edition _ _ _ _ c.requires (omega arith) (omega arith)

pub overflow_add-result : goal.overflow_add-result
overflow_add-result c = omega (arith, headed-room _ _ _ _ c.requires)

pub bounds-s-at : goal.bounds-s-at
bounds-s-at c = omega (arith, headed-room _ _ _ _ c.requires)

pub returns-then-size-eq8 : goal.returns-then-size-eq8
returns-then-size-eq8 c =
    headed-old _ _ _ _ c.requires (omega arith) (omega arith) c.if-kind-eq33.false (omega arith)

pub returns : goal.returns
returns c = headed-size _ _ _ _ c.requires (omega arith) (omega arith) c.if-size-eq8.false
