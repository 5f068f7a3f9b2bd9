-- `mend::clearing::is_even` meets its contract. Assumes nothing.
use mathlib.Core.Path.{◌≡◌, ap, ◌∙◌}
use Prim.Native.Nat.{ℕ, ◌+◌, ◌-◌}
use native.Mathlib.Omega.{arith}
use lib.ListN.{length, drop, get_or}
use lib.Seq.{get_or-take, get_or-drop}
use Rattle.mend.proofs.Cleared.{even-alone}
use Rattle.mend.proofs.clearing.is_even.Goals as goal

pub returns : goal.returns
returns c =
    let a = c.args in
    let z : a.unit + 0 ≡ a.unit = omega arith in
    let first = drop a.unit a.begins.now in
    even-alone _ _ _ _ _ _ _ _ c.unit_end-e.ensures
    (get_or-take (length a.begins.now - a.unit) first 0 0 (omega arith) ∙ get_or-drop a.unit a.begins.now 0 0 ∙ ap (λ (k : ℕ).
    get_or a.begins.now k 0) z) c.first_uneven.ensures
