-- `slots::split::split_slot` meets its contract. Assumes nothing.
use Prim.Native.Nat.{◌<◌}
use lib.ListN.{take}
use Rattle.slots.specs.Inside.{key_cut}
use Rattle.slots.proofs.CutLaws.{Splitting}
use Rattle.slots.proofs.split.split_slot.Given as goal

abbrev pub invariant-loop-m : goal.invariant-loop-m
invariant-loop-m l = Splitting
    (key_cut (take l.n l.keys)) l.start l.count l.prev l.m l.initial.starts l.initial.ends l.starts l.ends × (l.prev < l.end)
