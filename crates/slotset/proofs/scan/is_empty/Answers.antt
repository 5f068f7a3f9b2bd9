-- `slotset::scan::is_empty` meets its contract. Assumes nothing.
use mathlib.Core.Path.{sym, ◌∙◌, subst}
use Rattle.slotset.specs.Slots.{slot}
use Rattle.slotset.specs.Search.{First}
use Rattle.slotset.proofs.Meaning.{next-is, none_found, one_found}
use Rattle.slotset.proofs.Puts.{slot_lt}
use Rattle.slotset.proofs.scan.is_empty.Goals as goal

pub returns-in-Some : goal.returns-in-Some
returns-in-Some c =
    let s = c.args in
    let f = slot s.words.now s.base in
    one_found f s.len _
    (subst (First 1 f s.len 0) (sym c.next_with-found.ensures ∙ c.in-Some.is) (next-is 1 f s.len 0))

pub returns-in-None : goal.returns-in-None
returns-in-None c =
    let s = c.args in
    let f = slot s.words.now s.base in
    none_found f s.len (slot_lt s.words.now s.base)
    (subst (First 1 f s.len 0) (sym c.next_with-found.ensures ∙ c.in-None.is) (next-is 1 f s.len 0))
