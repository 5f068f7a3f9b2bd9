-- `slotset::scan::next_run` meets its contract. Assumes nothing.
use Rattle.std.specs.Prelude.{Option, Some}
use mathlib.Core.Path.{sym, ap, ◌∙◌, subst}
use Prim.Native.Nat.{ℕ, ◌+◌}
use native.Mathlib.Omega.{arith}
use Rattle.slotset.specs.declared.NextRun.{NextRun}
use Rattle.slotset.specs.Slots.{slot}
use Rattle.slotset.specs.Search.{next_with, First}
use Rattle.slotset.specs.Runs.{end_of}
use Rattle.slotset.specs.Answers.{run_step}
use Rattle.slotset.proofs.Meaning.{next-is}
use Rattle.slotset.proofs.Runs.{first_above, end_lt, next-after}
use Rattle.slotset.proofs.scan.next_run.Goals as goal

pub overflow_add-first : goal.overflow_add-first
overflow_add-first c =
    let n = c in
    let s = n.args in
    let f = slot s.words.now s.base in
    let w = subst (First 1 f s.len s.at) (sym n.next_with-found.ensures ∙ c.in-Some.is) (next-is 1 f s.len s.at) in
    omega (arith, w.1, n.requires.1)

pub end_of-last-requires : goal.end_of-last-requires
end_of-last-requires c =
    let k = c in
    let n = k in
    let s = n.args in
    let f = slot s.words.now s.base in
    let i = k.in-Some.first in
    let w = subst (First 1 f s.len s.at) (sym n.next_with-found.ensures ∙ k.in-Some.is) (next-is 1 f s.len s.at) in (
      omega (arith, w.1),
      rw c.next_with.ensures
          (first_above 0 f s.len (i + 1) (next_with 0 f s.len (i + 1)) (next-is 0 f s.len (i + 1)) (omega arith)),
    )

pub overflow_add-result : goal.overflow_add-result
overflow_add-result c =
    let k = c in
    let n = k in
    let s = n.args in
    let f = slot s.words.now s.base in
    let i = k.in-Some.first in
    let w = subst (First 1 f s.len s.at) (sym n.next_with-found.ensures ∙ k.in-Some.is) (next-is 1 f s.len s.at) in
    let e = c.end_of-last.ensures ∙ ap (end_of s.len) c.next_with.ensures in
    omega (
      arith,
      e,
      end_lt 0 f s.len (i + 1) (next_with 0 f s.len (i + 1)) (next-is 0 f s.len (i + 1)) (omega (arith, w.1)),
      n.requires.1,
    )

pub returns-in-Some : goal.returns-in-Some
returns-in-Some c =
    let k = c in
    let n = k in
    let s = n.args in
    let f = slot s.words.now s.base in
    ap {B = Option NextRun} (λ (x : ℕ). Some (record { first = k.in-Some.first; last = x; next = record { at = x + 1 } }))
    (c.end_of-last.ensures ∙ ap (end_of s.len) (c.next_with.ensures ∙ next-after 0 _ _ _))
    ∙ sym (ap (run_step f s.len) (sym n.next_with-found.ensures ∙ k.in-Some.is))

pub returns-in-None : goal.returns-in-None
returns-in-None c =
    let n = c in
    let s = n.args in
    sym (ap (run_step (slot s.words.now s.base) s.len) (sym n.next_with-found.ensures ∙ c.in-None.is))
