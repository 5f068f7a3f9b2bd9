-- `rota::moves::decide` meets its contract. Assumes nothing.
use mathlib.Core.Path.{sym, ◌∙◌}
use Rattle.rota.proofs.Drawn.{out-number, out_first, is-reassign, is-swap, out-swap, is-reassign-run, is-swap-runs}
use Rattle.rota.proofs.Drawn.{out-swap-runs, is-shift}
use Rattle.rota.proofs.moves.decide.Goals as goal

pub returns-then-kind-ge100 : goal.returns-then-kind-ge100
returns-then-kind-ge100 c = sym (out-number _ _ _ c.if-kind-ge100.true)

pub returns-then-units-f : goal.returns-then-units-f
returns-then-units-f c = sym (out_first _ _ _ c.if-units-f.true)

pub returns-then-kind-lt35 : goal.returns-then-kind-lt35
returns-then-kind-lt35 c =
    let at-if2 = c.if-units-f in
    let at-if3 = c.if-kind-lt35 in
    c.reassign.ensures ∙ sym (is-reassign _ _ _ at-if2.false at-if3.true)

pub returns-then-units-s : goal.returns-then-units-s
returns-then-units-s c =
    let at-if2 = c.if-units-f in
    let at-if3 = c.if-kind-lt35 in
    let at-if4 = c.if-kind-lt60 in
    sym (out-swap _ _ _ at-if2.false at-if3.false at-if4.true c.if-units-s.true)

pub returns-then-kind-lt60 : goal.returns-then-kind-lt60
returns-then-kind-lt60 c =
    let at-if2 = c.if-units-f in
    let at-if3 = c.if-kind-lt35 in
    let at-if4 = c.if-kind-lt60 in
    let at-if5 = c.if-units-s in
    c.swap_units.ensures ∙ sym (is-swap _ _ _ at-if2.false at-if3.false at-if4.true at-if5.false)

pub returns-then-kind-lt75 : goal.returns-then-kind-lt75
returns-then-kind-lt75 c =
    let at-if2 = c.if-units-f in
    let at-if4 = c.if-kind-lt60 in
    let at-if6 = c.if-kind-lt75 in
    c.reassign_run.ensures ∙ sym (is-reassign-run _ _ _ at-if2.false at-if4.false at-if6.true)

pub returns-then-units-s-2 : goal.returns-then-units-s-2
returns-then-units-s-2 c =
    let at-if2 = c.if-units-f in
    let at-if6 = c.if-kind-lt75 in
    let at-if7 = c.if-kind-lt90 in
    sym (out-swap-runs _ _ _ at-if2.false at-if6.false at-if7.true c.if-units-s-2.true)

pub returns-then-kind-lt90 : goal.returns-then-kind-lt90
returns-then-kind-lt90 c =
    let at-if2 = c.if-units-f in
    let at-if6 = c.if-kind-lt75 in
    let at-if7 = c.if-kind-lt90 in
    let at-if8 = c.if-units-s-2 in
    c.swap_runs.ensures ∙ sym (is-swap-runs _ _ _ at-if2.false at-if6.false at-if7.true at-if8.false)

pub returns : goal.returns
returns c =
    let at-if1 = c.if-kind-ge100 in
    let at-if2 = c.if-units-f in
    let at-if7 = c.if-kind-lt90 in
    c.shift_boundary.ensures ∙ sym (is-shift _ _ _ at-if2.false at-if7.false at-if1.false)
