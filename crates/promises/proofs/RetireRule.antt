-- Retiring keeps its rule: the laws of its crate, by name. Assumes nothing.
use Rattle.retire.proofs.Promises.{no-minute-lost, all-adds-up, stays-and-comes, exactly-when, column-follows}
use Rattle.retire.proofs.Follows.{play-follows}
use Rattle.promises.specs.RetireRule.{RetiringByRule}

pub retiring-by-rule : RetiringByRule
retiring-by-rule = record {
  minutes = no-minute-lost;
  in_a_row = all-adds-up;
  stays = stays-and-comes;
  follows = play-follows;
  answers = exactly-when;
  column = column-follows;
}
