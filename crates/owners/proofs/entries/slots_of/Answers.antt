-- `owners::entries::slots_of` meets its contract. Assumes nothing.
use Rattle.std.proofs.Common.{sym, ◌∙◌}
use Rattle.owners.specs.Entries.{slots_of_is}
use Rattle.owners.proofs.entries.slots_of.Goals as goal

pub returns-then-slot_count_ok : goal.returns-then-slot_count_ok
unfolding slots_of_is
returns-then-slot_count_ok c = simp (sym c.slot_count_ok.ensures ∙ c.if-slot_count_ok.true) c.load.ensures

pub returns : goal.returns
unfolding slots_of_is
returns c = simp (sym c.slot_count_ok.ensures ∙ c.if-slot_count_ok.false)
