-- `slots::split::split_all` meets its contract. Assumes nothing.
use lib.ListN.{take}
use Rattle.slots.specs.Inside.{key_cut}
use Rattle.slots.proofs.CutLaws.{Growing}
use Rattle.slots.proofs.split.split_all.Given as goal

abbrev pub invariant-loop-i : goal.invariant-loop-i
invariant-loop-i l =
    Growing (key_cut (take l.n l.keys)) l.i l.starts l.ends l.count l.initial.froms l.initial.tos l.froms l.tos
