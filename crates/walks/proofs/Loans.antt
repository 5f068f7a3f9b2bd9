-- `&mut` slices that a walk lends on to a callee and needs afterwards, any number of them: each for a lifetime of the call, as `&mut` or as
-- `&`, and back at the list that the callee left. Assumes `Logic`.
use mathlib.Core.Path.{◌≡◌, refl, sym, ap, subst, ◌∙◌}
use mathlib.Core.List.{List, [], ◌∷◌, ◌++◌}
use Prim.Native.Nat.{ℕ}
use lib.ListN.{length}
use seplogic.Ra.Ura.{Ura}
use base.Fraction.{full_share}
use mir.Syntax.{Width, erased}
use base.Logic.{SProp, ent, sep, emp, ex, via, assoc∗, snd∗, mono_r}
use base.Fml.{Lft, Share, Incl-refl, GName, Fml, ftrue, fsep, feq, flft, flent, fobor, fobs, fauth}
use types.Logic.{Logic, sem}
use contract.BorrowLft.{⊑_static}
use contract.Monad.{fact, fact_i}
use types.Kit.{Item, ‵, raw, ◌⊛◌, some, later, ◌$◌, ◌∵◌, !, qed, move, keep}
use types.Kit.{drop, use0, use1, use2, use3, rewrite, split, join, pick}
use types.Kit.{fsplit, fjoin, feq_l, feq_i, frame, await, updating, now as at_once, show, done, mean, ⋆, push, pop, Goal, Step, step}
use types.SemTy.{cells, Arr}
use types.Tokens.{lft_new, lft_end, lent_back, name_done}
use types.Share.{arr_parts}
use denote.Shadow.{pure_l, pure_i}
use denote.Memory.{mem, shares}
use denote.Index.{row, whole_in, whole_out, opens_slice, closes_slice}
use denote.Lend.{Held, lends_slice, slice_back, lends_shr_slice}
use denote.RattleType.{RattleType}
use denote.Plain.{UInt}
use denote.Copied.{uint_Copied}
use denote.Shares.{Shares}
use denote.MutBor.{MutBor, as_bor}
use denote.Slice.{slice_val, shr_slice_vals, mut_slice_vals, MutSlice, ShrSlice, Room, finally, mut_slice_at, heres, coded_holeys, res-finally}
use denote.Steps.{nothing, heard}

-- ---- one slice as it was passed: its elements, its lifetime and share, and the reference
pub record Slice : Type 2 where
  pub R : RattleType
  pub κ : Lft
  pub q : Share
  pub x : MutBor (List R.Denot)

-- the lifetime of a loan, and its name
abbrev pub Loan : Type 0
Loan = ℕ × GName

abbrev pub at : (s : Slice) → GName → List s.R.Denot → MutBor (List s.R.Denot)
at s δ l = record { ref_ptr = s.x.ref_ptr; ghost_name = δ; now = l }

-- its elements in memory; and its own borrow while those are out, with both halves of its ghost variable
abbrev Elements : (s : Slice) → List s.R.Denot → Fml
Elements s l = row s.R full_share l s.x.ref_ptr.0 s.x.ref_ptr.1

abbrev Opened : (s : Slice) → List s.R.Denot → Fml
Opened s l =
    let v = (coded_holeys s.R).code (heres s.R l) in
    fsep (fobor s.κ s.q (Held s.R (length l) s.x.ref_ptr.0 s.x.ref_ptr.1 s.x.ghost_name))
    (fsep (fobs s.x.ghost_name v) (fauth s.x.ghost_name v))

-- the last list under a name, as long as it was
abbrev pub Said : (s : Slice) → GName → List s.R.Denot → ℕ → Fml
Said s δ l n = fsep (finally s.R δ l) (feq ℕ (length l) n)

module _ {M : Type 1} {𝓤 : Ura M} (𝓛 : Logic 𝓤) where
  -- its holder has it, at the list l; lends it, for a loan; and keeps the way back
  open 𝓛 use {A}

  abbrev pub Has : (s : Slice) → List s.R.Denot → SProp 𝓤
  Has s l = sep 𝓤 (sem 𝓛 ((MutSlice erased s.κ s.R).own_val (at s s.x.ghost_name l) (mut_slice_vals s.x))) (A.lft s.κ s.q)

  abbrev pub Lent : (s : Slice) → List s.R.Denot → Loan → Item 𝓤
  Lent s l g = ‵ ((MutSlice erased (g.0 ∷ []) s.R).own_val (at s g.1 l) (mut_slice_vals s.x))

  abbrev pub Kept : (s : Slice) → List s.R.Denot → Loan → SProp 𝓤
  Kept s l g = sem 𝓛 (fsep (flent (g.0 ∷ []) (Held s.R (length l) s.x.ref_ptr.0 s.x.ref_ptr.1 g.1)) (Opened s l))

  -- the same of a loan as `&`
  abbrev pub Shown : (s : Slice) → List s.R.Denot → Loan → Item 𝓤
  Shown s l g = ‵ ((ShrSlice erased (g.0 ∷ []) s.R).own_val (as_bor (at s g.1 l)) (shr_slice_vals (as_bor s.x)))

  abbrev pub KeptShown : (s : Slice) → List s.R.Denot → Loan → SProp 𝓤
  KeptShown s l g =
      sem 𝓛 (fsep (flent (g.0 ∷ []) ((arr_parts (shares s.R) (length l)).part full_share l s.x.ref_ptr.0 s.x.ref_ptr.1))
      (Opened s l))

module _ {M : Type 1} {𝓤 : Ura M} (𝓛 : Logic 𝓤) (s : Slice) where
  -- the elements are taken out, and put back, at the same list or another one as long
  open 𝓛 use {H, A}

  takes_out : (l : List s.R.Denot) → ent 𝓤 (Has 𝓛 s l) (H.⇛ (sep 𝓤 (sem 𝓛 (Elements s l)) (sem 𝓛 (Opened s l))))
  takes_out l =
      qed 𝓛 (‵ ((MutSlice erased s.κ s.R).own_val (at s s.x.ghost_name l) (mut_slice_vals s.x)) ∷ ‵ (flft s.κ s.q) ∷ []) ∵ updating ! $
      fsplit ! $ pure_l ! (mut_slice_at s.R (at s s.x.ghost_name l) (mut_slice_vals s.x)) (λ p. fsplit ! $
      opens_slice ! tt s.R l s.x.ref_ptr.0 s.x.ref_ptr.1 $ at_once ! $ frame ! $
      move ! (1 ∷ 2 ∷ []) $ fjoin ! $ move ! (1 ∷ 0 ∷ []) $ fjoin ! $ done !)

  puts_back : (l l' : List s.R.Denot) → Room s.R (length s.x.now) → length l ≡ length s.x.now → length l' ≡ length l
      → ent 𝓤 (sep 𝓤 (sem 𝓛 (Elements s l')) (sem 𝓛 (Opened s l))) (H.⇛ (Has 𝓛 s l'))
  puts_back l l' room e e' =
      qed 𝓛 (‵ (Elements s l') ∷ ‵ (Opened s l) ∷ []) ∵ updating ! $ move ! (1 ∷ []) $ fsplit ! $ move ! (1 ∷ []) $ fsplit ! $
      move ! (3 ∷ 2 ∷ 0 ∷ 1 ∷ []) $ closes_slice ! tt s.R l l' e' s.x.ref_ptr.0 s.x.ref_ptr.1 $ at_once ! $ fjoin ! $
      pure_i ! (mut_slice_at s.R (at s s.x.ghost_name l') (mut_slice_vals s.x)) (tt, (tt, tt))
      (ap (λ (n : ℕ). slice_val s.x.ref_ptr n ∷ []) (sym (e' ∙ e)), subst (Room s.R) (sym (e' ∙ e)) room) $ fjoin ! $ done !

  -- it is lent as `&mut`, and comes back at the list that was said last
  lends_one : (l : List s.R.Denot) → Room s.R (length s.x.now) → length l ≡ length s.x.now
      → ent 𝓤 (Has 𝓛 s l) (H.⇛ (ex 𝓤 (λ (g : Loan). sep 𝓤 (sep 𝓤 (A.lft (g.0 ∷ []) full_share) (mean 𝓛 (Lent 𝓛 s l g)))
      (Kept 𝓛 s l g))))
  lends_one l room e =
      qed 𝓛 (raw (Has 𝓛 s l) ∷ []) ∵ updating ! $ use1 𝓛 (later (‵ (Elements s l) ⊛ ‵ (Opened s l))) (takes_out l) $ await ! tt $
      split ! $
      use1 𝓛 (‵ (cells (mem s.R) l s.x.ref_ptr.0 s.x.ref_ptr.1)) (whole_in 𝓛 s.R l s.x.ref_ptr.0 s.x.ref_ptr.1) $
      lft_new ! tt (λ ν. move ! (1 ∷ []) $
      use1 𝓛 (later (some (λ (δ : GName). ‵ ((MutSlice erased (ν ∷ []) s.R).own_val (at s δ l) (slice_val s.x.ref_ptr (length l) ∷ []))
      ⊛ ‵ (flent (ν ∷ []) (Held s.R (length l) s.x.ref_ptr.0 s.x.ref_ptr.1 δ)))))
      (lends_slice 𝓛 s.R erased (ν ∷ []) l s.x.ref_ptr.0 s.x.ref_ptr.1 (subst (Room s.R) (sym e) room)) $ await ! tt $
      pick ! (λ δ.
      split ! $ rewrite ! 0 (λ (n : ℕ). ‵ ((MutSlice erased (ν ∷ []) s.R).own_val (at s δ l) (slice_val s.x.ref_ptr n ∷ []))) e refl $
      -- [the slice; the lender's part; the loan's token; the open borrow]
      at_once ! $ show ! (λ (g : Loan). sep 𝓤 (sep 𝓤 (A.lft (g.0 ∷ []) full_share) (mean 𝓛 (Lent 𝓛 s l g))) (Kept 𝓛 s l g))
      (ν, δ) $ move ! (2 ∷ 0 ∷ []) $ join ! $ frame ! $ fjoin ! $ done !))

  back_one : (l l' : List s.R.Denot) (g : Loan) → Room s.R (length s.x.now) → length l ≡ length s.x.now
      → ent 𝓤 (sep 𝓤 (A.lft (g.0 ∷ []) full_share) (sep 𝓤 (Kept 𝓛 s l g) (sem 𝓛 (Said s g.1 l' (length l)))))
      (H.⇛ (sep 𝓤 (fact 𝓤 (length l' ≡ length s.x.now)) (Has 𝓛 s l')))
  back_one l l' g room e =
      qed 𝓛 (‵ (flft (g.0 ∷ []) full_share)
      ∷ ‵ (fsep (flent (g.0 ∷ []) (Held s.R (length l) s.x.ref_ptr.0 s.x.ref_ptr.1 g.1)) (Opened s l))
      ∷ ‵ (Said s g.1 l' (length l)) ∷ []) ∵ updating ! $ lft_end ! tt $ move ! (2 ∷ []) $ fsplit ! $ move ! (1 ∷ []) $ feq_l ! (λ e'.
      move ! (2 ∷ []) $ fsplit ! $ move ! (3 ∷ 0 ∷ 2 ∷ []) $
      use3 𝓛 (later (‵ ((Arr (mem s.R) (length l)).own_at l' s.x.ref_ptr.0 s.x.ref_ptr.1)))
      (slice_back 𝓛 s.R (g.0 ∷ []) g.1 l' (length l) s.x.ref_ptr.0 s.x.ref_ptr.1) $ await ! tt $ fsplit ! $ drop ! $
      use1 𝓛 (‵ (Elements s l')) (whole_out 𝓛 s.R l' s.x.ref_ptr.0 s.x.ref_ptr.1) $
      use2 𝓛 (later (raw (Has 𝓛 s l'))) (puts_back l l' room e e') $ await ! tt $ at_once ! $
      use0 𝓛 (raw (fact 𝓤 (length l' ≡ length s.x.now))) (fact_i 𝓤 _ (emp 𝓤) (e' ∙ e)) $ done !)

  -- it is lent as `&`, and comes back as it was; its elements are of a type of which a `&` asks for no token but the loan's
  shows-one : Shares 𝓛 s.R [] → (l : List s.R.Denot) → Room s.R (length s.x.now) → length l ≡ length s.x.now
      → ent 𝓤 (Has 𝓛 s l) (H.⇛ (ex 𝓤 (λ (g : Loan). sep 𝓤 (sep 𝓤 (A.lft (g.0 ∷ []) full_share) (mean 𝓛 (Shown 𝓛 s l g)))
      (KeptShown 𝓛 s l g))))
  shows-one shared l room e =
      qed 𝓛 (raw (Has 𝓛 s l) ∷ []) ∵ updating ! $ use1 𝓛 (later (‵ (Elements s l) ⊛ ‵ (Opened s l))) (takes_out l) $ await ! tt $
      split ! $
      feq_i ! ℕ (length l) (length l) refl $ fjoin ! $ lft_new ! tt (λ ν. move ! (1 ∷ 0 ∷ []) $
      use2 𝓛 (later ((‵ ((ShrSlice erased (ν ∷ []) s.R).own_val (as_bor (at s 0 l)) (slice_val s.x.ref_ptr (length l) ∷ []))
      ⊛ ‵ (flent (ν ∷ []) ((arr_parts (shares s.R) (length l)).part full_share l s.x.ref_ptr.0 s.x.ref_ptr.1)))
      ⊛ ‵ (flft (ν ∷ []) full_share)))
      (lends_shr_slice 𝓛 s.R erased (ν ∷ []) full_share l s.x.ref_ptr.0 s.x.ref_ptr.1 (subst (Room s.R) (sym e) room)
      [] shared ((ν ∷ [], full_share) ∷ []) (⊑_static (ν ∷ [])) (Incl-refl (ν ∷ []))) $
      await ! tt $ split ! $ split ! $
      rewrite ! 0 (λ (n : ℕ). ‵ ((ShrSlice erased (ν ∷ []) s.R).own_val (as_bor (at s 0 l)) (slice_val s.x.ref_ptr n ∷ []))) e refl $
      at_once ! $ show ! (λ (g : Loan). sep 𝓤 (sep 𝓤 (A.lft (g.0 ∷ []) full_share) (mean 𝓛 (Shown 𝓛 s l g)))
      (KeptShown 𝓛 s l g)) (ν, 0) $ move ! (2 ∷ 0 ∷ []) $ join ! $ frame ! $ fjoin ! $ done !)

  hides-one : (l : List s.R.Denot) (g : Loan) → Room s.R (length s.x.now) → length l ≡ length s.x.now
      → ent 𝓤 (sep 𝓤 (A.lft (g.0 ∷ []) full_share) (KeptShown 𝓛 s l g)) (H.⇛ (Has 𝓛 s l))
  hides-one l g room e =
      qed 𝓛 (‵ (flft (g.0 ∷ []) full_share) ∷ ‵ (fsep (flent (g.0 ∷ []) ((arr_parts (shares s.R) (length l)).part full_share l
      s.x.ref_ptr.0 s.x.ref_ptr.1)) (Opened s l)) ∷ []) ∵ updating ! $ lft_end ! tt $ move ! (1 ∷ []) $ fsplit ! $
      move ! (2 ∷ 0 ∷ []) $ lent_back ! tt $ fsplit ! $ drop ! $
      use2 𝓛 (later (raw (Has 𝓛 s l))) (puts_back l l room e refl) $ await ! tt $ at_once ! $ done !

  -- it is given up: its last list is said, and its token left
  ends-one : (l : List s.R.Denot) → length l ≡ length s.x.now
      → ent 𝓤 (Has 𝓛 s l) (H.⇛ (sep 𝓤 (A.lft s.κ s.q) (sem 𝓛 (Said s s.x.ghost_name l (length s.x.now)))))
  ends-one l e =
      qed 𝓛 (‵ ((MutSlice erased s.κ s.R).own_val (at s s.x.ghost_name l) (mut_slice_vals s.x)) ∷ ‵ (flft s.κ s.q) ∷ []) ∵ updating ! $
      fsplit ! $ drop ! $ fsplit ! $ name_done ! tt $
      use1 𝓛 (‵ (finally s.R s.x.ghost_name l)) (res-finally 𝓛 erased s.κ s.R s.x.ghost_name l) $
      keep ! (0 ∷ 2 ∷ []) $ feq_i ! ℕ (length l) (length s.x.now) e $ move ! (1 ∷ 0 ∷ []) $ fjoin ! $ at_once ! $
      move ! (1 ∷ 0 ∷ []) $ done !

-- ---- any number of them
abbrev pub Lists : List Slice → Type 0
Lists [] = Unit {0}
Lists (s ∷ ss) = List s.R.Denot × Lists ss

abbrev pub Loans : List Slice → Type 0
Loans [] = Unit {0}
Loans (s ∷ ss) = Loan × Loans ss

-- lists as long as those that were passed; and there is room for those
abbrev pub AsLong : (ss : List Slice) → Lists ss → Type 0
AsLong [] ls = Unit {0}
AsLong (s ∷ ss) ls = (length ls.0 ≡ length s.x.now) × AsLong ss ls.1

-- a `&` to numbers asks for no token but the loan's
pub shared-number : {M : Type 1} {𝓤 : Ura M} (𝓛 : Logic 𝓤) (w : Width) → Shares 𝓛 (UInt w) []
shared-number 𝓛 w = (uint_Copied 𝓛 w).shares full_share []

-- each of them is so
abbrev pub AllAre : (Slice → Type 1) → List Slice → Type 1
AllAre P [] = Unit {1}
AllAre P (s ∷ ss) = P s × AllAre P ss

any : (ss : List Slice) → AllAre (λ s. Unit {1}) ss
any [] = tt
any (s ∷ ss) = (tt, any ss)

abbrev pub Rooms : List Slice → Type 0
Rooms [] = Unit {0}
Rooms (s ∷ ss) = Room s.R (length s.x.now) × Rooms ss

module _ {M : Type 1} {𝓤 : Ura M} (𝓛 : Logic 𝓤) where
  open 𝓛 use {A}

  abbrev pub HasAll : (ss : List Slice) → Lists ss → SProp 𝓤
  HasAll [] ls = emp 𝓤
  HasAll (s ∷ ss) ls = sep 𝓤 (Has 𝓛 s ls.0) (HasAll ss ls.1)

  -- what is lent, and what is kept, where one slice is lent as `lent` says, and `kept` is the way back
  module _ (lent : (s : Slice) → List s.R.Denot → Loan → Item 𝓤) where
    abbrev pub LentAll : (ss : List Slice) → Lists ss → Loans ss → SProp 𝓤
    LentAll [] ls g = emp 𝓤
    LentAll (s ∷ ss) ls g =
        sep 𝓤 (sep 𝓤 (A.lft (g.0.0 ∷ []) full_share) (mean 𝓛 (lent s ls.0 g.0))) (LentAll ss ls.1 g.1)

    abbrev pub lent_each : (ss : List Slice) → Lists ss → Loans ss → List (Item 𝓤)
    lent_each [] ls g = []
    lent_each (s ∷ ss) ls g = ‵ (flft (g.0.0 ∷ []) full_share) ∷ lent s ls.0 g.0 ∷ lent_each ss ls.1 g.1

    lent-apart : (ss : List Slice) (ls : Lists ss) (g : Loans ss) (Γ : List (Item 𝓤))
        → ent 𝓤 (⋆ 𝓛 (raw (LentAll ss ls g) ∷ Γ)) (⋆ 𝓛 (lent_each ss ls g ++ Γ))
    lent-apart [] ls g Γ = via 𝓤 _ (pop 𝓛 (raw (emp 𝓤)) Γ) (snd∗ 𝓤 (emp 𝓤) (⋆ 𝓛 Γ))
    lent-apart (s ∷ ss) ls g Γ =
        let T : Item 𝓤 = ‵ (flft (g.0.0 ∷ []) full_share) in
        let L : Item 𝓤 = lent s ls.0 g.0 in
        let rest : List (Item 𝓤) = lent_each ss ls.1 g.1 ++ Γ in
        via 𝓤 _ (pop 𝓛 (raw (LentAll (s ∷ ss) ls g)) Γ)
        (via 𝓤 _ (assoc∗ 𝓤 (sep 𝓤 (mean 𝓛 T) (mean 𝓛 L)) (LentAll ss ls.1 g.1) (⋆ 𝓛 Γ))
        (via 𝓤 _ (assoc∗ 𝓤 (mean 𝓛 T) (mean 𝓛 L) (sep 𝓤 (LentAll ss ls.1 g.1) (⋆ 𝓛 Γ)))
        (via 𝓤 _ (mono_r 𝓤 (mean 𝓛 T) (via 𝓤 _ (mono_r 𝓤 (mean 𝓛 L)
        (via 𝓤 _ (push 𝓛 (raw (LentAll ss ls.1 g.1)) Γ) (lent-apart ss ls.1 g.1 Γ))) (push 𝓛 L rest)))
        (push 𝓛 T (L ∷ rest)))))

  module _ (kept : (s : Slice) → List s.R.Denot → Loan → SProp 𝓤) where
    abbrev pub KeptAll : (ss : List Slice) → Lists ss → Loans ss → SProp 𝓤
    KeptAll [] ls g = emp 𝓤
    KeptAll (s ∷ ss) ls g = sep 𝓤 (kept s ls.0 g.0) (KeptAll ss ls.1 g.1)

  -- the loans' tokens, and the last lists under the loans' names
  abbrev pub TokensOf : (ss : List Slice) → Loans ss → SProp 𝓤
  TokensOf [] g = emp 𝓤
  TokensOf (s ∷ ss) g = sep 𝓤 (A.lft (g.0.0 ∷ []) full_share) (TokensOf ss g.1)

abbrev pub SaidAll : (ss : List Slice) → Lists ss → Lists ss → Loans ss → Fml
SaidAll [] ls ls' g = ftrue
SaidAll (s ∷ ss) ls ls' g = fsep (Said s g.0.1 ls'.0 (length ls.0)) (SaidAll ss ls.1 ls'.1 g.1)

-- the same of their own tokens and names
abbrev pub SaidLast : (ss : List Slice) → Lists ss → Fml
SaidLast [] ls = ftrue
SaidLast (s ∷ ss) ls = fsep (Said s s.x.ghost_name ls.0 (length s.x.now)) (SaidLast ss ls.1)

module _ {M : Type 1} {𝓤 : Ura M} (𝓛 : Logic 𝓤) where
  open 𝓛 use {A}

  abbrev pub OwnTokens : List Slice → SProp 𝓤
  OwnTokens [] = emp 𝓤
  OwnTokens (s ∷ ss) = sep 𝓤 (A.lft s.κ s.q) (OwnTokens ss)

module _ {M : Type 1} {𝓤 : Ura M} {𝓛 : Logic 𝓤} {K : Type 0} {Γ : List (Item 𝓤)} {G : Goal 𝓤 𝓛.H} where
  pub lent_out : K → (lent : (s : Slice) → List s.R.Denot → Loan → Item 𝓤) (ss : List Slice) (ls : Lists ss) (g : Loans ss)
      → Step K 𝓛 (lent_each 𝓛 lent ss ls g ++ Γ) G (raw (LentAll 𝓛 lent ss ls g) ∷ Γ) G
  lent_out t lent ss ls g = step (λ s. record { prf = via 𝓤 _ (lent-apart 𝓛 lent ss ls g Γ) s.prf })

module _ {M : Type 1} {𝓤 : Ura M} (𝓛 : Logic 𝓤) where
  -- all are lent, each as `one` lends it
  open 𝓛 use {H, A}

  module _ (Ok : Slice → Type 1) (lent : (s : Slice) → List s.R.Denot → Loan → Item 𝓤)
      (kept : (s : Slice) → List s.R.Denot → Loan → SProp 𝓤)
      (one : (s : Slice) → Ok s → (l : List s.R.Denot) → Room s.R (length s.x.now) → length l ≡ length s.x.now → ent 𝓤
      (Has 𝓛 s l) (H.⇛ (ex 𝓤 (λ (g : Loan).
      sep 𝓤 (sep 𝓤 (A.lft (g.0 ∷ []) full_share) (mean 𝓛 (lent s l g))) (kept s l g))))) where
    each_lent : (ss : List Slice) → AllAre Ok ss → (ls : Lists ss) → Rooms ss → AsLong ss ls
        → ent 𝓤 (HasAll 𝓛 ss ls) (H.⇛ (ex 𝓤 (λ (g : Loans ss). sep 𝓤 (LentAll 𝓛 lent ss ls g) (KeptAll 𝓛 kept ss ls g))))
    each_lent [] ok ls rooms e =
        qed 𝓛 (‵ ftrue ∷ []) ∵ updating ! $ at_once ! $ show ! (λ (g : Unit {0}). sep 𝓤 (emp 𝓤) (emp 𝓤)) tt $ nothing ! $ done !
    each_lent (s ∷ ss) ok ls rooms e =
        qed 𝓛 (raw (Has 𝓛 s ls.0) ∷ raw (HasAll 𝓛 ss ls.1) ∷ []) ∵ updating ! $
        use1 𝓛 (later (some (λ (g : Loan). (‵ (flft (g.0 ∷ []) full_share) ⊛ lent s ls.0 g) ⊛ raw (kept s ls.0 g))))
        (one s ok.0 ls.0 rooms.0 e.0) $ await ! tt $ pick ! (λ g. split ! $ move ! (2 ∷ []) $
        use1 𝓛 (later (some (λ (gs : Loans ss). raw (LentAll 𝓛 lent ss ls.1 gs) ⊛ raw (KeptAll 𝓛 kept ss ls.1 gs))))
        (each_lent ss ok.1 ls.1 rooms.1 e.1) $ await ! tt $ pick ! (λ gs. split ! $ at_once ! $
        show ! (λ (g : Loans (s ∷ ss)). sep 𝓤 (LentAll 𝓛 lent (s ∷ ss) ls g) (KeptAll 𝓛 kept (s ∷ ss) ls g)) (g, gs) $
        move ! (2 ∷ 0 ∷ []) $ join ! $ frame ! $ move ! (1 ∷ 0 ∷ []) $ done !))

  -- as `&mut`, or as `&`
  pub lends-all : (ss : List Slice) (ls : Lists ss) → Rooms ss → AsLong ss ls → ent 𝓤 (HasAll 𝓛 ss ls)
      (H.⇛ (ex 𝓤 (λ (g : Loans ss). sep 𝓤 (LentAll 𝓛 (Lent 𝓛) ss ls g) (KeptAll 𝓛 (Kept 𝓛) ss ls g))))
  lends-all ss ls rooms e = each_lent (λ s. Unit {1}) (Lent 𝓛) (Kept 𝓛) (λ s ok. lends_one 𝓛 s) ss (any ss) ls rooms e

  pub shows-all : (ss : List Slice) → AllAre (λ s. Shares 𝓛 s.R []) ss → (ls : Lists ss) → Rooms ss → AsLong ss ls
      → ent 𝓤 (HasAll 𝓛 ss ls)
      (H.⇛ (ex 𝓤 (λ (g : Loans ss). sep 𝓤 (LentAll 𝓛 (Shown 𝓛) ss ls g) (KeptAll 𝓛 (KeptShown 𝓛) ss ls g))))
  shows-all ss ok ls rooms e = each_lent (λ s. Shares 𝓛 s.R []) (Shown 𝓛) (KeptShown 𝓛) (shows-one 𝓛) ss ok ls rooms e

  -- all that were lent as `&` come back
  pub hides-all : (ss : List Slice) (ls : Lists ss) (g : Loans ss) → Rooms ss → AsLong ss ls
      → ent 𝓤 (sep 𝓤 (TokensOf 𝓛 ss g) (KeptAll 𝓛 (KeptShown 𝓛) ss ls g)) (H.⇛ (HasAll 𝓛 ss ls))
  hides-all [] ls g rooms e = qed 𝓛 (‵ ftrue ∷ ‵ ftrue ∷ []) ∵ updating ! $ at_once ! $ keep ! (0 ∷ []) $ done !
  hides-all (s ∷ ss) ls g rooms e =
      qed 𝓛 ((‵ (flft (g.0.0 ∷ []) full_share) ⊛ raw (TokensOf 𝓛 ss g.1))
      ∷ (raw (KeptShown 𝓛 s ls.0 g.0) ⊛ raw (KeptAll 𝓛 (KeptShown 𝓛) ss ls.1 g.1)) ∷ []) ∵ updating ! $
      split ! $ move ! (2 ∷ []) $ split ! $ move ! (2 ∷ 0 ∷ []) $
      use2 𝓛 (later (raw (Has 𝓛 s ls.0))) (hides-one 𝓛 s ls.0 g.0 rooms.0 e.0) $ await ! tt $
      move ! (2 ∷ 1 ∷ []) $ use2 𝓛 (later (raw (HasAll 𝓛 ss ls.1))) (hides-all ss ls.1 g.1 rooms.1 e.1) $ await ! tt $
      at_once ! $ move ! (1 ∷ 0 ∷ []) $ done !

  -- all come back, at the lists that were said last
  pub back-all : (ss : List Slice) (ls ls' : Lists ss) (g : Loans ss) → Rooms ss → AsLong ss ls
      → ent 𝓤 (sep 𝓤 (TokensOf 𝓛 ss g) (sep 𝓤 (KeptAll 𝓛 (Kept 𝓛) ss ls g) (sem 𝓛 (SaidAll ss ls ls' g))))
      (H.⇛ (sep 𝓤 (fact 𝓤 (AsLong ss ls')) (HasAll 𝓛 ss ls')))
  back-all [] ls ls' g rooms e =
      qed 𝓛 (‵ ftrue ∷ ‵ ftrue ∷ ‵ ftrue ∷ []) ∵ updating ! $ at_once ! $ keep ! (0 ∷ []) $
      use0 𝓛 (raw (fact 𝓤 (Unit {0}))) (fact_i 𝓤 _ (emp 𝓤) tt) $ done !
  back-all (s ∷ ss) ls ls' g rooms e =
      qed 𝓛 ((‵ (flft (g.0.0 ∷ []) full_share) ⊛ raw (TokensOf 𝓛 ss g.1))
      ∷ (raw (Kept 𝓛 s ls.0 g.0) ⊛ raw (KeptAll 𝓛 (Kept 𝓛) ss ls.1 g.1))
      ∷ ‵ (SaidAll (s ∷ ss) ls ls' g) ∷ []) ∵ updating ! $ split ! $ move ! (2 ∷ []) $ split ! $ move ! (4 ∷ []) $ fsplit ! $
      move ! (4 ∷ 2 ∷ 0 ∷ []) $ use3 𝓛 (later (raw (fact 𝓤 (length ls'.0 ≡ length s.x.now)) ⊛ raw (Has 𝓛 s ls'.0)))
      (back_one 𝓛 s ls.0 ls'.0 g.0 rooms.0 e.0) $ await ! tt $ split ! $
      heard ! (length ls'.0 ≡ length s.x.now) (λ e'. move ! (3 ∷ 2 ∷ 1 ∷ []) $
      use3 𝓛 (later (raw (fact 𝓤 (AsLong ss ls'.1)) ⊛ raw (HasAll 𝓛 ss ls'.1)))
      (back-all ss ls.1 ls'.1 g.1 rooms.1 e.1) $ await ! tt $ split ! $ heard ! (AsLong ss ls'.1) (λ es.
      at_once ! $ move ! (1 ∷ 0 ∷ []) $ use0 𝓛 (raw (fact 𝓤 (AsLong (s ∷ ss) ls'))) (fact_i 𝓤 _ (emp 𝓤) (e', es)) $ done !))

  -- all are given up
  pub ends-all : (ss : List Slice) (ls : Lists ss) → AsLong ss ls
      → ent 𝓤 (HasAll 𝓛 ss ls) (H.⇛ (sep 𝓤 (OwnTokens 𝓛 ss) (sem 𝓛 (SaidLast ss ls))))
  ends-all [] ls e = qed 𝓛 (‵ ftrue ∷ []) ∵ updating ! $ at_once ! $ nothing ! $ done !
  ends-all (s ∷ ss) ls e =
      qed 𝓛 (raw (Has 𝓛 s ls.0) ∷ raw (HasAll 𝓛 ss ls.1) ∷ []) ∵ updating ! $
      use1 𝓛 (later (‵ (flft s.κ s.q) ⊛ ‵ (Said s s.x.ghost_name ls.0 (length s.x.now)))) (ends-one 𝓛 s ls.0 e.0) $
      await ! tt $ split ! $ move ! (2 ∷ []) $
      use1 𝓛 (later (raw (OwnTokens 𝓛 ss) ⊛ ‵ (SaidLast ss ls.1))) (ends-all ss ls.1 e.1) $ await ! tt $ split ! $
      at_once ! $ move ! (2 ∷ 0 ∷ []) $ join ! $ frame ! $ move ! (1 ∷ 0 ∷ []) $ fjoin ! $ done !
