-- `slotset::scan::next_member` meets its contract. Assumes nothing.
use mathlib.Core.Path.{ap, ◌∙◌}
use Rattle.slotset.specs.Slots.{slot}
use Rattle.slotset.specs.Search.{next_set}
use Rattle.slotset.specs.Answers.{member_step}
use Rattle.slotset.proofs.Meaning.{next-is, first_below, below_more}
use Rattle.slotset.proofs.scan.next_member.Goals as goal

pub member_step-requires : goal.member_step-requires
member_step-requires c =
    let s = c.args in
    let f = slot s.words.now s.base in
    rw c.next_with.ensures
    (below_more s.len 1024 (next_set f s.len s.at) c.requires.1
    (first_below 1 f s.len s.at (next_set f s.len s.at) (next-is 1 f s.len s.at)))

pub returns : goal.returns
returns c = c.member_step.ensures ∙ ap member_step c.next_with.ensures
