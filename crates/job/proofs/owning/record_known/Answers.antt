-- `job::owning::record_known` meets its contract. Assumes nothing.
use mathlib.Core.Path.{sym, ap, ◌∙◌}
use borrow.Author.Tests.{ne_eqb}
use Rattle.owners.specs.Derived.{known_by}
use Rattle.owners.proofs.Minutes.{known-nobody}
use Rattle.job.proofs.Prepares.{record-owner, record-slot}
use Rattle.job.proofs.owning.record_known.Goals as goal

pub returns-then-owner-eq255 : goal.returns-then-owner-eq255
returns-then-owner-eq255 c =
    sym (ap (known_by _) c.if-owner-eq255.true ∙ known-nobody _)
    ∙ record-owner _ _ _ _ _ _ _ c.owner_slot-slot.ensures c.owner_value-owner.ensures c.if-slot-slots.true

pub returns-then-slot-slots : goal.returns-then-slot-slots
unfolding known_by
returns-then-slot-slots c =
    sym (simp (ne_eqb _ _ c.if-owner-eq255.false))
    ∙ record-owner _ _ _ _ _ _ _ c.owner_slot-slot.ensures c.owner_value-owner.ensures c.if-slot-slots.true

pub returns : goal.returns
returns c = record-slot _ _ _ _ _ _ c.owner_slot-slot.ensures c.if-slot-slots.false
