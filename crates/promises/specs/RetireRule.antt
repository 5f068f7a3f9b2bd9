-- Retiring past weeks, by its rule: no minute is lost, what goes, what stays, what is new, and what follows. Assumes nothing.
use Rattle.std.specs.Prelude.{◌≡◌, List, ◌+◌}
use Rattle.retire.specs.New.{New}
use Rattle.retire.specs.Outcome.{Held, held_then}
use Rattle.retire.specs.Promised.{Retires, NoMinuteLost, Retirings, standing, after_all, new_demand, StaysAndComes, PlayFollows, ExactlyWhen}
use Rattle.retire.specs.Promised.{ColumnFollows}

pub record RetiringByRule : Type 0 where
  -- at each retiring the priors' increase, the retired total's and the demand of the slots that are left come to the old demand; each person's own
  pub minutes : (H : Held) (N : New) → Retires H N → NoMinuteLost H N
  -- over any number of them in a row
  pub in_a_row : (H : Held) (Ns : List New) → Retirings H Ns → standing (after_all H Ns) ≡ standing H + new_demand Ns
  -- the longest stretch of whole units goes; what stays is the old from there on; what is new is the paper's
  pub stays : (H : Held) (N : New) → Retires H N → StaysAndComes H N
  -- rule 9 and the recount pass then: a play follows
  pub follows : (H : Held) (N : New) → Retires H N → PlayFollows (held_then H N)
  -- nothing, everything, retired or refused, exactly when, and what is left in the lent columns
  pub answers : (H : Held) (N : New) → ExactlyWhen H N
  -- the three numbers that are answered move a published column
  pub column : (H : Held) (N : New) → Retires H N → ColumnFollows H N
