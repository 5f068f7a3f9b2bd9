-- Tokens, and what parameters own, taken apart entry by entry and put together; and what is owned twice. Assumes `Logic`.
use mathlib.Core.Path.{◌≡◌, sym, subst}
use mathlib.Core.List.{List, [], ◌∷◌, ◌++◌}
use Prim.Native.Nat.{ℕ, zero, suc}
use seplogic.Ra.Ura.{Ura}
use base.Logic.{ent, sep, emp, via, assoc∗, assoc', emp∗, snd∗, mono_r}
use base.Fml.{ftrue, flft}
use types.Logic.{Logic, sem}
use contract.Lifetimes.{Lfts, Shares, toks}
use types.Kit.{Item, ‵, raw, ◌⊛◌, ◌$◌, ◌∵◌, !, qed, move, use1, split, fjoin, frame, done, ⋆, push, pop, Goal, Step, step}
use denote.RattleType.{RattleType, Denots, Valss, owns}
use denote.Laws.{Copy}

module _ {M : Type 1} {𝓤 : Ura M} (𝓛 : Logic 𝓤) where
  open 𝓛 use {A}

  abbrev pub tokens : (n : ℕ) → Lfts n → Shares n → List (Item 𝓤)
  tokens zero κs qs = []
  tokens (suc n) κs qs = ‵ (flft κs.0 qs.0) ∷ tokens n κs.1 qs.1

  abbrev pub ownings : (Rs : List RattleType) → Denots Rs → Valss Rs → List (Item 𝓤)
  ownings [] a vss = []
  ownings (R ∷ Rs) a vss = ‵ (R.own_val a.0 vss.0) ∷ ownings Rs a.1 vss.1

  toks-apart : (n : ℕ) (κs : Lfts n) (qs : Shares n) (Γ : List (Item 𝓤))
      → ent 𝓤 (⋆ 𝓛 (raw (toks 𝓛 n κs qs) ∷ Γ)) (⋆ 𝓛 (tokens n κs qs ++ Γ))
  toks-apart zero κs qs Γ = via 𝓤 _ (pop 𝓛 (raw (emp 𝓤)) Γ) (snd∗ 𝓤 (emp 𝓤) (⋆ 𝓛 Γ))
  toks-apart (suc n) κs qs Γ =
      via 𝓤 _ (pop 𝓛 (raw (toks 𝓛 (suc n) κs qs)) Γ)
      (via 𝓤 _ (assoc∗ 𝓤 (A.lft κs.0 qs.0) (toks 𝓛 n κs.1 qs.1) (⋆ 𝓛 Γ))
      (via 𝓤 _ (mono_r 𝓤 (A.lft κs.0 qs.0)
      (via 𝓤 _ (push 𝓛 (raw (toks 𝓛 n κs.1 qs.1)) Γ) (toks-apart n κs.1 qs.1 Γ)))
      (push 𝓛 (‵ (flft κs.0 qs.0)) (tokens n κs.1 qs.1 ++ Γ))))

  toks-together : (n : ℕ) (κs : Lfts n) (qs : Shares n) (Γ : List (Item 𝓤))
      → ent 𝓤 (⋆ 𝓛 (tokens n κs qs ++ Γ)) (⋆ 𝓛 (raw (toks 𝓛 n κs qs) ∷ Γ))
  toks-together zero κs qs Γ = via 𝓤 _ (emp∗ 𝓤 (⋆ 𝓛 Γ)) (push 𝓛 (raw (emp 𝓤)) Γ)
  toks-together (suc n) κs qs Γ =
      via 𝓤 _ (pop 𝓛 (‵ (flft κs.0 qs.0)) (tokens n κs.1 qs.1 ++ Γ))
      (via 𝓤 _ (mono_r 𝓤 (A.lft κs.0 qs.0)
      (via 𝓤 _ (toks-together n κs.1 qs.1 Γ) (pop 𝓛 (raw (toks 𝓛 n κs.1 qs.1)) Γ)))
      (via 𝓤 _ (assoc' 𝓤 (A.lft κs.0 qs.0) (toks 𝓛 n κs.1 qs.1) (⋆ 𝓛 Γ))
      (push 𝓛 (raw (toks 𝓛 (suc n) κs qs)) Γ)))

  owns-apart : (Rs : List RattleType) (a : Denots Rs) (vss : Valss Rs) (Γ : List (Item 𝓤))
      → ent 𝓤 (⋆ 𝓛 (‵ (owns Rs a vss) ∷ Γ)) (⋆ 𝓛 (ownings Rs a vss ++ Γ))
  owns-apart [] a vss Γ = via 𝓤 _ (pop 𝓛 (‵ ftrue) Γ) (snd∗ 𝓤 (sem 𝓛 ftrue) (⋆ 𝓛 Γ))
  owns-apart (R ∷ Rs) a vss Γ =
      via 𝓤 _ (pop 𝓛 (‵ (owns (R ∷ Rs) a vss)) Γ)
      (via 𝓤 _ (assoc∗ 𝓤 (sem 𝓛 (R.own_val a.0 vss.0)) (sem 𝓛 (owns Rs a.1 vss.1)) (⋆ 𝓛 Γ))
      (via 𝓤 _ (mono_r 𝓤 (sem 𝓛 (R.own_val a.0 vss.0))
      (via 𝓤 _ (push 𝓛 (‵ (owns Rs a.1 vss.1)) Γ) (owns-apart Rs a.1 vss.1 Γ)))
      (push 𝓛 (‵ (R.own_val a.0 vss.0)) (ownings Rs a.1 vss.1 ++ Γ))))

  owns-together : (Rs : List RattleType) (a : Denots Rs) (vss : Valss Rs) (Γ : List (Item 𝓤))
      → ent 𝓤 (⋆ 𝓛 (ownings Rs a vss ++ Γ)) (⋆ 𝓛 (‵ (owns Rs a vss) ∷ Γ))
  owns-together [] a vss Γ = via 𝓤 _ (emp∗ 𝓤 (⋆ 𝓛 Γ)) (push 𝓛 (‵ ftrue) Γ)
  owns-together (R ∷ Rs) a vss Γ =
      via 𝓤 _ (pop 𝓛 (‵ (R.own_val a.0 vss.0)) (ownings Rs a.1 vss.1 ++ Γ))
      (via 𝓤 _ (mono_r 𝓤 (sem 𝓛 (R.own_val a.0 vss.0))
      (via 𝓤 _ (owns-together Rs a.1 vss.1 Γ) (pop 𝓛 (‵ (owns Rs a.1 vss.1)) Γ)))
      (via 𝓤 _ (assoc' 𝓤 (sem 𝓛 (R.own_val a.0 vss.0)) (sem 𝓛 (owns Rs a.1 vss.1)) (⋆ 𝓛 Γ))
      (push 𝓛 (‵ (owns (R ∷ Rs) a vss)) Γ)))

module _ {M : Type 1} {𝓤 : Ura M} {𝓛 : Logic 𝓤} {K : Type 0} {Γ : List (Item 𝓤)} {G : Goal 𝓤 𝓛.H} where
  pub tokens-out : K → (n : ℕ) (κs : Lfts n) (qs : Shares n) → Step K 𝓛 (tokens 𝓛 n κs qs ++ Γ) G (raw (toks 𝓛 n κs qs) ∷ Γ) G
  tokens-out t n κs qs = step (λ s. record { prf = via 𝓤 _ (toks-apart 𝓛 n κs qs Γ) s.prf })

  pub tokens-in : K → (n : ℕ) (κs : Lfts n) (qs : Shares n) (Γ' : List (Item 𝓤)) → Γ ≡ tokens 𝓛 n κs qs ++ Γ'
      → Step K 𝓛 (raw (toks 𝓛 n κs qs) ∷ Γ') G Γ G
  tokens-in t n κs qs Γ' e = step (λ s. record {
    prf = via 𝓤 _ (subst (λ (Δ : List (Item 𝓤)). ent 𝓤 (⋆ 𝓛 Δ) (⋆ 𝓛 (raw (toks 𝓛 n κs qs) ∷ Γ'))) (sym e)
        (toks-together 𝓛 n κs qs Γ')) s.prf;
  })

  pub owns-out : K → (Rs : List RattleType) (a : Denots Rs) (vss : Valss Rs)
      → Step K 𝓛 (ownings 𝓛 Rs a vss ++ Γ) G (‵ (owns Rs a vss) ∷ Γ) G
  owns-out t Rs a vss = step (λ s. record { prf = via 𝓤 _ (owns-apart 𝓛 Rs a vss Γ) s.prf })

  pub owns-in : K → (Rs : List RattleType) (a : Denots Rs) (vss : Valss Rs) (Γ' : List (Item 𝓤)) → Γ ≡ ownings 𝓛 Rs a vss ++ Γ'
      → Step K 𝓛 (‵ (owns Rs a vss) ∷ Γ') G Γ G
  owns-in t Rs a vss Γ' e = step (λ s. record {
    prf = via 𝓤 _ (subst (λ (Δ : List (Item 𝓤)). ent 𝓤 (⋆ 𝓛 Δ) (⋆ 𝓛 (‵ (owns Rs a vss) ∷ Γ'))) (sym e)
        (owns-together 𝓛 Rs a vss Γ')) s.prf;
  })

-- ---- what is owned twice, of types that are Copy
module _ {M : Type 1} {𝓤 : Ura M} (𝓛 : Logic 𝓤) where
  abbrev pub Copies : List RattleType → Type 1
  Copies [] = Unit {1}
  Copies (R ∷ Rs) = Copy 𝓛 R × Copies Rs

  pub owns-twice : (Rs : List RattleType) → Copies Rs → (a : Denots Rs) (vss : Valss Rs)
      → ent 𝓤 (sem 𝓛 (owns Rs a vss)) (sep 𝓤 (sem 𝓛 (owns Rs a vss)) (sem 𝓛 (owns Rs a vss)))
  owns-twice [] cs a vss = emp∗ 𝓤 _
  owns-twice (R ∷ Rs) cs a vss =
      qed 𝓛 (‵ (R.own_val a.0 vss.0) ∷ ‵ (owns Rs a.1 vss.1) ∷ []) ∵
      use1 𝓛 (‵ (R.own_val a.0 vss.0) ⊛ ‵ (R.own_val a.0 vss.0)) (cs.0.twice a.0 vss.0) $ split ! $ move ! (2 ∷ []) $
      use1 𝓛 (‵ (owns Rs a.1 vss.1) ⊛ ‵ (owns Rs a.1 vss.1)) (owns-twice Rs cs.1 a.1 vss.1) $ split ! $
      move ! (2 ∷ 0 ∷ []) $ fjoin ! $ frame ! $ move ! (1 ∷ 0 ∷ []) $ fjoin ! $ done !
