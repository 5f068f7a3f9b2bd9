-- A local array that a walk lends as a `&` slice, for a lifetime that the walk makes, and gets back as it was. Assumes `Logic`.
use mathlib.Core.Path.{◌≡◌, refl, subst, sym, ◌∙◌}
use mathlib.Core.List.{List, [], ◌∷◌}
use Prim.Native.Nat.{ℕ}
use lib.ListN.{length}
use seplogic.Ra.Ura.{Ura}
use base.Fraction.{full_share}
use mir.Syntax.{erased, ty_array, Width, int_big}
use mir.Val.{Val, Fits, vint}
use base.Logic.{SProp, ent, sep, ex, via, guard_i}
use base.Fml.{Incl-refl, fsep, fat, flft, flent}
use contract.BorrowLft.{⊑_static}
use prog.Wp.{Env}
use types.Logic.{Logic}
use types.Kit.{Item, ‵, ◌⊛◌, later, ◌$◌, ◌∵◌, !, qed, by, move, use1, use2, rewrite, split, join, fsplit, fjoin, fpick, fpack}
use types.Kit.{frame, await, updating, now as at_once, show, done, mean}
use types.Run.{Opd}
use types.Tokens.{lft_new, lft_end, lent_back}
use types.Share.{arr_parts}
use denote.Array.{Array, Array-Makes, Array-Tells}
use denote.ArrayMemory.{Single, Array-apart, Array-whole}
use denote.Lend.{lends_shr_slice}
use denote.Laws.{Is, Tells, Makes, shows}
use denote.Memory.{cell_at, part_at, part_of, lone, shares}
use denote.RattleType.{RattleType}
use denote.Shares.{Shares}
use denote.Ref.{Bor}
use denote.Slice.{slice_val, ShrSlice, Room}
use denote.Steps.{owned, facts}
use Rattle.walks.proofs.Loans.{Loan}

module _ {M : Type 1} {𝓤 : Ura M} (𝓛 : Logic 𝓤) (R : RattleType) (n b : ℕ) (xs : List R.Denot) where
  -- the array as its local holds it; the slice, for a loan; and the way back
  open 𝓛 use {H, A}

  abbrev pub InLocal : Val → Item 𝓤
  InLocal v = ‵ (fat full_share (ty_array (lone R.mir) n) b 0 v)

  abbrev pub as_slice : Loan → Bor (List R.Denot)
  as_slice g = record { ref_ptr = (b, 0); now = xs }

  abbrev pub ShownArray : Loan → Item 𝓤
  ShownArray g = ‵ ((ShrSlice erased (g.0 ∷ []) R).own_val (as_slice g) (slice_val (b, 0) n ∷ []))

  abbrev pub KeptArray : Loan → Item 𝓤
  KeptArray g = ‵ (flent (g.0 ∷ []) ((arr_parts (shares R) (length xs)).part full_share xs b 0))

  abbrev pub Lends : Loan → SProp 𝓤
  Lends g = sep 𝓤 (sep 𝓤 (A.lft (g.0 ∷ []) full_share) (mean 𝓛 (ShownArray g))) (mean 𝓛 (KeptArray g))

  -- the elements are of a type of which a `&` asks for no token but the loan's: it holds no `&mut`
  pub lends-array : Single R.mir → Makes 𝓛 R (Is R) → Shares 𝓛 R [] → (v : Val) → Is (Array R n) xs (v ∷ []) → Room R n
      → ent 𝓤 (mean 𝓛 (InLocal v)) (H.⇛ (ex 𝓤 Lends))
  unfolding part_of
  lends-array one makes shared v is room =
      let e : length xs ≡ n = is.1.0.1 in
      qed 𝓛 (InLocal v ∷ []) ∵ updating ! $
      use1 𝓛 (‵ (cell_at full_share (Array R n).mir (v ∷ []) b 0)) (𝓛.laws.at_raw full_share (ty_array (lone R.mir) n) b 0 v) $
      owned ! (Array R n) (Is (Array R n)) (Array-Makes 𝓛 R makes n) xs (v ∷ []) is $ move ! (1 ∷ 0 ∷ []) $ fjoin ! $
      fpack ! (List Val) (λ vs. fsep (cell_at full_share (Array R n).mir vs b 0) ((Array R n).own_val xs vs)) (v ∷ []) $
      use1 𝓛 (‵ ((arr_parts (shares R) n).part full_share xs b 0)) (Array-apart 𝓛 R full_share one n xs b 0) $
      rewrite ! 0 (λ (m : ℕ). ‵ ((arr_parts (shares R) m).part full_share xs b 0)) (sym e) refl $ lft_new ! tt (λ ν. move ! (1 ∷ 0 ∷ []) $
      use2 𝓛 (later ((‵ ((ShrSlice erased (ν ∷ []) R).own_val (as_slice (ν, 0)) (slice_val (b, 0) (length xs) ∷ []))
      ⊛ KeptArray (ν, 0)) ⊛ ‵ (flft (ν ∷ []) full_share))) (lends_shr_slice 𝓛 R erased (ν ∷ []) full_share xs b 0
      (subst (Room R) (sym e) room) [] shared ((ν ∷ [], full_share) ∷ []) (⊑_static (ν ∷ [])) (Incl-refl (ν ∷ []))) $ await ! tt $
      split ! $ split ! $
      rewrite ! 0 (λ (m : ℕ). ‵ ((ShrSlice erased (ν ∷ []) R).own_val (as_slice (ν, 0)) (slice_val (b, 0) m ∷ []))) e refl $
      at_once ! $ show ! Lends (ν, 0) $ move ! (2 ∷ 0 ∷ []) $ join ! $ frame ! $ done !)

  pub array_back : (vals : R.Denot → List Val) → Tells R (Is R) vals → (v : Val) → Is (Array R n) xs (v ∷ []) → (g : Loan)
      → ent 𝓤 (sep 𝓤 (A.lft (g.0 ∷ []) full_share) (mean 𝓛 (KeptArray g))) (H.⇛ (mean 𝓛 (InLocal v)))
  unfolding part_of
  array_back vals tells v is g =
      qed 𝓛 (‵ (flft (g.0 ∷ []) full_share) ∷ KeptArray g ∷ []) ∵ updating ! $ lft_end ! tt $ lent_back ! tt $
      rewrite ! 0 (λ (m : ℕ). ‵ ((arr_parts (shares R) m).part full_share xs b 0)) is.1.0.1 refl $
      use1 𝓛 (‵ (part_at (Array R n) full_share xs b 0)) (Array-whole 𝓛 R full_share n xs b 0) $ fpick ! (λ vs. fsplit ! $
      move ! (1 ∷ []) $ facts ! (Array R n) (Is (Array R n)) (shows 𝓛 (Array R n)) xs vs (λ is'.
      rewrite ! 0 (λ (us : List Val). ‵ (cell_at full_share (Array R n).mir us b 0))
      (Array-Tells R vals tells n xs vs is' ∙ sym (Array-Tells R vals tells n xs (v ∷ []) is)) refl $
      at_once ! $ by ! (𝓛.laws.raw_at full_share (ty_array (lone R.mir) n) b 0 v)))

-- a number of which a proof shows that it fits, as an operand: the length of such a slice
pub counted : {M : Type 1} {𝓤 : Ura M} {𝓛 : Logic 𝓤} {K : Type 0} {Γ : List (Item 𝓤)} {E : Env 𝓤 𝓛.H}
    → K → {w : Width} {n : ℕ} → Fits w n → Opd K 𝓛 Γ E (int_big w n) (vint w n)
counted {𝓤 = 𝓤} t {w} {n} z = record { go = λ Kt h. via 𝓤 (Kt (vint w n)) h (guard_i 𝓤 (Fits w n) (Kt (vint w n)) z) }
