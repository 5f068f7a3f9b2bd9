-- What splitting leaves, base slot by base slot. Assumes nothing.
use Rattle.std.specs.Prelude.{Ok}
use mathlib.Core.Path.{◌≡◌, refl, sym, ap, ◌∙◌}
use mathlib.Core.Bool.{Bool}
use mathlib.Core.List.{List, [], ◌∷◌, ◌++◌}
use Prim.Native.Nat.{ℕ, zero, suc, ◌-◌, ◌<◌}
use native.Mathlib.Omega.{arith}
use lib.ListN.{length, get_or}
use Rattle.paper.specs.Limits.{number_of}
use Rattle.slots.specs.Atomic.{Base, atomise_row, is_cut, IsCuts, starts_of_atoms, ends_of_atoms}
use Rattle.slots.proofs.SplitLaws as laws
use Rattle.promises.specs.SplitRule.{strung, CutsOf, lengths, LeavesPieces, SplitAtCuts}
use Rattle.promises.proofs.SlotRules.{slots-by-rule}

strung-is : (f : ℕ → List ℕ) (n : ℕ) → strung f n ≡ laws.strung f n
unfolding strung laws.strung
strung-is f zero = refl
strung-is f (suc n) = ap (λ (l : List ℕ). l ++ f n) (strung-is f n)

-- the last cut lies before the end
cuts-before : (cut : ℕ → Bool) (lo : ℕ) (c : List ℕ) (hi : ℕ) → IsCuts cut lo c hi → lo < hi
cuts-before cut lo [] hi x = x.0
cuts-before cut lo (a ∷ c) hi x = omega (arith, x.0, cuts-before cut a c hi x.3)

pieces-add : (cut : ℕ → Bool) (lo : ℕ) (c : List ℕ) (hi : ℕ) → IsCuts cut lo c hi → lengths (lo ∷ c) (c ++ (hi ∷ [])) ≡ hi - lo
unfolding lengths
pieces-add cut lo [] hi x = omega arith
pieces-add cut lo (a ∷ c) hi x = omega (arith, pieces-add cut a c hi x.3, x.0, cuts-before cut a c hi x.3)

-- a start and its cuts for each base slot are where the atomic slots start
pub atoms-strung : (B : Base) (c : ℕ → List ℕ) → ((k : ℕ) → k < B.slots → CutsOf B k (c k))
    → strung (λ k. get_or B.starts k 0 ∷ c k) B.slots ≡ starts_of_atoms B
atoms-strung B c x =
    strung-is _ B.slots ∙ (laws.one-atoms (is_cut B.people B.ranges) B.slots B.starts B.ends c x).0

module _ (B : Base) (e : number_of (atomise_row B) ≡ 0) (c : ℕ → List ℕ) (x : (k : ℕ) → k < B.slots → CutsOf B k (c k)) where
  starts-are : strung (λ k. get_or B.starts k 0 ∷ c k) B.slots ≡ starts_of_atoms B
  starts-are = atoms-strung B c x

  ends-are : strung (λ k. c k ++ (get_or B.ends k 0 ∷ [])) B.slots ≡ ends_of_atoms B
  ends-are = strung-is _ B.slots ∙ (laws.one-atoms (is_cut B.people B.ranges) B.slots B.starts B.ends c x).1

  leaves-pieces : LeavesPieces B c
  leaves-pieces =
      let s = slots-by-rule.split B e in
      record {
        number = s.number ∙ ap (λ (l : List ℕ). Ok (length l)) (sym starts-are);
        starts = λ i h.
            s.starts i (omega (arith, h, ap length starts-are)) ∙ ap (λ (l : List ℕ). get_or l i 0) (sym starts-are);
        ends = λ i h.
            s.ends i (omega (arith, h, ap length starts-are)) ∙ ap (λ (l : List ℕ). get_or l i 0) (sym ends-are);
      }

pub split-at-cuts : SplitAtCuts
split-at-cuts = record {
  pieces = leaves-pieces;
  add-up = λ B k c x. pieces-add (is_cut B.people B.ranges) (get_or B.starts k 0) c (get_or B.ends k 0) x;
}
