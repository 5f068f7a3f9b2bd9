-- `records::blocks::walk` meets its contract. Assumes nothing.
use Rattle.std.proofs.Common.{sym, ◌∙◌}
use Rattle.records.proofs.Walks.{kinds-least}
use Rattle.records.proofs.blocks.walk.Goals as goal

pub returns : goal.returns
returns c =
    let e = c.walk_kinds.ensures in
    rw (sym (c.min.ensures ∙ kinds-least _)) (record { ok_value = e.ok_value; counts_value = e.counts_value; starts_value = e.starts_value })
