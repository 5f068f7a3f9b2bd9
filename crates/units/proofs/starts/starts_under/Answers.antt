-- `units::starts::starts_under` meets its contract. Assumes nothing.
use mathlib.Core.Path.{refl, sym, ◌∙◌}
use Rattle.units.specs.Inside.{starts_under_is}
use Rattle.units.proofs.Answers.{written-answered, written-refused}
use Rattle.units.proofs.Begins.{starts-say}
use Rattle.paper.proofs.Rows.{said}
use Rattle.units.proofs.starts.starts_under.Goals as goal

pub write_starts-requires : goal.write_starts-requires
write_starts-requires c =
    let n = said _ c.starts_refusal-n.ensures in
    let h = starts-say _ _ _ _ _ (sym n ∙ c.if-n-eq0.true) in
    (h.1, h.2)

pub returns-then-n-eq0 : goal.returns-then-n-eq0
unfolding starts_under_is
returns-then-n-eq0 c =
    let n = said _ c.starts_refusal-n.ensures in
    let w = c.write_starts.ensures in
    written-answered _ _ _ _ _ _ _ n c.if-n-eq0.true w.value w.begins_after refl

pub returns-else-n-eq0 : goal.returns-else-n-eq0
unfolding starts_under_is
returns-else-n-eq0 c = written-refused _ _ _ _ _ (said _ c.starts_refusal-n.ensures) c.if-n-eq0.false refl
