-- `slotset::scan::end_around` meets its contract. Assumes nothing.
use mathlib.Core.Path.{sym, ap, ◌∙◌}
use native.Mathlib.Omega.{arith}
use Rattle.slotset.specs.Runs.{end_of}
use Rattle.slotset.proofs.Scans.{word_next, word-found}
use Rattle.slotset.proofs.Skips.{past-slot}
use Rattle.slotset.proofs.scan.end_around.Goals as goal

pub returns-then-k-eq64 : goal.returns-then-k-eq64
returns-then-k-eq64 c =
    let b = c in
    c.end_in_words.ensures
    ∙ ap (end_of _) (sym (word_next _ _ _ _ _ _ _ b.first_bit-k.ensures _ (omega arith) c.if-k-eq64.true))

pub last_of-requires : goal.last_of-requires
last_of-requires c =
    let b = c in
    let s = b in
    (omega (arith, s.requires.2), past-slot s.args.want s.args.words.now s.args.base s.args.i _ s.requires.3 b.first_bit-k.ensures)

pub returns : goal.returns
returns c =
    let b = c in
    c.last_of.ensures
    ∙ ap (end_of _) (sym (word-found _ _ _ _ _ _ _ b.first_bit-k.ensures _ (omega arith) c.if-k-eq64.false))
