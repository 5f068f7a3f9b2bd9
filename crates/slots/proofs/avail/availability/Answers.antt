-- `slots::avail::availability` meets its contract. Assumes nothing.
use mathlib.Core.Path.{sym, ◌∙◌}
use native.Mathlib.Omega.{arith}
use Rattle.paper.proofs.Rows.{said}
use Rattle.slots.proofs.AvailLaws.{availability-says, availability-refused, availability-done, held-spaced}
use Rattle.slots.proofs.avail.availability.Goals as goal

pub merged_keys-list-requires : goal.merged_keys-list-requires
merged_keys-list-requires c = (availability-says _ _ _ _ _ _ (sym (said _ c.availability_refusal-number.ensures) ∙
    c.if-number-eq0.true)).ranges-sound

pub fill_rows-requires : goal.fill_rows-requires
fill_rows-requires c =
    let S = availability-says _ _ _ _ _ _ (sym (said _ c.availability_refusal-number.ensures) ∙ c.if-number-eq0.true) in
    let M = c.merged_keys-list.ensures in
    record {
      n_bound = (omega (arith, M.few, S.ranges-sound.few), M.fits, held-spaced _ S.ranges-sound c.merged_keys-list.result.keys _ M);
      slots_bound = (S.few, S.slots-sound);
      people_value = (S.people-ok, S.room);
    }

pub returns-then-number-eq0 : goal.returns-then-number-eq0
returns-then-number-eq0 c =
    availability-done _ _ _ _ _ _ _ (said _ c.availability_refusal-number.ensures) c.if-number-eq0.true
    c.merged_keys-list.result.keys _ c.merged_keys-list.ensures _ c.fill_rows.ensures

pub returns : goal.returns
returns c = availability-refused _ _ _ _ _ _ _ (said _ c.availability_refusal-number.ensures) c.if-number-eq0.false
