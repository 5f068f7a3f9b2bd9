-- `units::masks::fill_masks` meets its contract. Assumes nothing.
use mathlib.Core.Path.{◌≡◌, refl, sym, ap, ◌∙◌}
use mathlib.Core.List.{List, ◌++◌}
use Prim.Native.Nat.{ℕ, zero, suc, ◌≤◌}
use native.Mathlib.Numerals.{add-one}
use native.Mathlib.Omega.{arith}
use lib.ListN.{length, take, drop, replicate}
use Rattle.std.proofs.lemmas.List.{length-take-le}
use Rattle.std.proofs.lemmas.List.Edits.{fill_more}
use Rattle.paper.specs.Count.{over}
use Rattle.units.proofs.MaskBits.{everybody-mask}
use Rattle.units.proofs.masks.fill_masks.Goals as goal

-- a front of one value
front : (v n : ℕ) (l : List ℕ) → n ≤ length l → replicate n v ++ drop n l ≡ over (λ _. v) n l
unfolding over
front v zero l h = refl
front v (suc n) l h =
    ap (λ (m : ℕ). replicate m v ++ drop m l) (sym (add-one n)) ∙ sym (fill_more n v l (omega arith))
    ∙ ap (λ (m : List ℕ). lib.ListN.set m n v) (front v n l (omega arith))

pub returns : goal.returns
returns c =
    let a = c.args in
    let long : length (take a.units a.masks.now) ≡ a.units = length-take-le a.units a.masks.now c.requires.2 in
    let filled = c.fill.ensures.after (λ y e. e) in
    rw (filled, long, everybody-mask a.people c.requires.1) (front _ a.units a.masks.now c.requires.2)
