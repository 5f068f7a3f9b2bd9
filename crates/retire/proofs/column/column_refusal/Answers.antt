-- `retire::column::column_refusal` meets its contract. Assumes nothing.
use mathlib.Core.Path.{refl, ap}
use Prim.Native.Nat.{ℕ}
use lib.Dec.{leb}
use Rattle.paper.proofs.Rows.{link, ends, checked, renamed}
use Rattle.retire.specs.Column.{column_row}
use Rattle.retire.proofs.column.column_refusal.Goals as goal

pub returns : goal.returns
unfolding column_row
returns c =
    checked _ refl c.accepted.ensures
    (link c.check_slots-f.ensures (link c.check_slots-f-2.ensures (link c.check-f.ensures
    (link (renamed _ 1 c.check-f-2.ensures (ap (λ (x : ℕ). leb x c.args.count) c.saturating_sub-kept.ensures)) (link c.check-f-3.ensures (link c.check.ensures ends))))))
