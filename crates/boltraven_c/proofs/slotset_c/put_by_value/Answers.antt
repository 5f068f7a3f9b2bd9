-- `boltraven_c::slotset_c::put_by_value` meets its contract. Assumes nothing.
use Rattle.slotset.specs.Slots.{value_of}
use Rattle.slotset.proofs.Puts.{value-lt}
use Rattle.boltraven_c.proofs.Puts.{done, slot-refused, row-refused}
use Rattle.boltraven_c.proofs.slotset_c.put_by_value.Goals as goal

pub returns-then-refusal-eq0 : goal.returns-then-refusal-eq0
returns-then-refusal-eq0 c =
    let at-if2 = c in
    let at-change = at-if2 in
    let at-if1 = at-change in
    let at_load = at-if1 in
    let at = at_load.args in
    let whole = done (value_of at.want) at.words.now at.people at.person at.len at.i (value-lt at.want)
    at_load.load-loaded.result at_load.load-loaded.ensures at-change.changed_set-changed.result at-change.changed_set-changed.ensures
    at-if1.if-number-eq0.true _ _ at-if2.if-refusal-eq0.true c.store.ensures in
    record { value = whole.0; words_after = whole.1 }

pub returns-then-number-eq0 : goal.returns-then-number-eq0
returns-then-number-eq0 c =
    let at-change = c in
    let at-if1 = at-change in
    let at_load = at-if1 in
    let at = at_load.args in
    let whole = slot-refused (value_of at.want) at.words.now at.people at.person at.len at.i (value-lt at.want)
    at_load.load-loaded.result at_load.load-loaded.ensures at-change.changed_set-changed.result at-change.changed_set-changed.ensures
    at-if1.if-number-eq0.true c.if-refusal-eq0.false in
    record { value = whole.0; words_after = whole.1 }

pub returns : goal.returns
returns c =
    let at_load = c in
    let at = at_load.args in
    let whole = row-refused (value_of at.want) at.words.now at.people at.person at.len at.i (value-lt at.want)
    at_load.load-loaded.result at_load.load-loaded.ensures c.if-number-eq0.false in
    record { value = whole.0; words_after = whole.1 }
