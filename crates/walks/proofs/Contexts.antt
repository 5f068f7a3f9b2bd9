-- Entries of a walk's context moved about, any number of them. Assumes nothing.
use mathlib.Core.List.{List, [], ◌∷◌, ◌++◌}
use Prim.Native.Nat.{ℕ, zero, suc}
use seplogic.Ra.Ura.{Ura}
use base.Logic.{SProp, ent, sep, id⊢, via, comm∗, assoc∗, assoc', mono_l, mono_r}
use types.Logic.{Logic}
use types.Kit.{Item, mean, ⋆, push, pop, ++⊢, Goal, Step, step}

module _ {M : Type 1} {𝓤 : Ura M} (𝓛 : Logic 𝓤) where
  -- the first of three changes places with the second
  pub swapped : (P Q R : SProp 𝓤) → ent 𝓤 (sep 𝓤 P (sep 𝓤 Q R)) (sep 𝓤 Q (sep 𝓤 P R))
  swapped P Q R =
      via 𝓤 (sep 𝓤 (sep 𝓤 P Q) R) (assoc' 𝓤 P Q R) (via 𝓤 (sep 𝓤 (sep 𝓤 Q P) R) (mono_l 𝓤 R (comm∗ 𝓤 P Q)) (assoc∗ 𝓤 Q P R))

  -- an entry taken out from behind Δ, and put there
  pub taken : (Δ Γ : List (Item 𝓤)) (i : Item 𝓤) → ent 𝓤 (⋆ 𝓛 (Δ ++ (i ∷ Γ))) (sep 𝓤 (mean 𝓛 i) (⋆ 𝓛 (Δ ++ Γ)))
  taken [] Γ i = pop 𝓛 i Γ
  taken (d ∷ Δ) Γ i =
      via 𝓤 _ (pop 𝓛 d (Δ ++ (i ∷ Γ))) (via 𝓤 _ (mono_r 𝓤 (mean 𝓛 d) (taken Δ Γ i))
      (via 𝓤 _ (swapped (mean 𝓛 d) (mean 𝓛 i) (⋆ 𝓛 (Δ ++ Γ))) (mono_r 𝓤 (mean 𝓛 i) (push 𝓛 d (Δ ++ Γ)))))

  pub put-behind : (Δ Γ : List (Item 𝓤)) (i : Item 𝓤) → ent 𝓤 (sep 𝓤 (mean 𝓛 i) (⋆ 𝓛 (Δ ++ Γ))) (⋆ 𝓛 (Δ ++ (i ∷ Γ)))
  put-behind [] Γ i = push 𝓛 i Γ
  put-behind (d ∷ Δ) Γ i =
      via 𝓤 _ (mono_r 𝓤 (mean 𝓛 i) (pop 𝓛 d (Δ ++ Γ)))
      (via 𝓤 _ (swapped (mean 𝓛 i) (mean 𝓛 d) (⋆ 𝓛 (Δ ++ Γ)))
      (via 𝓤 _ (mono_r 𝓤 (mean 𝓛 d) (put-behind Δ Γ i)) (push 𝓛 d (Δ ++ (i ∷ Γ)))))

  -- the first n entries, after all others
  abbrev pub turned : ℕ → List (Item 𝓤) → List (Item 𝓤)
  turned zero Γ = Γ
  turned (suc n) [] = []
  turned (suc n) (i ∷ Γ) = turned n (Γ ++ (i ∷ []))

  turned⊢ : (n : ℕ) (Γ : List (Item 𝓤)) → ent 𝓤 (⋆ 𝓛 Γ) (⋆ 𝓛 (turned n Γ))
  turned⊢ zero Γ = id⊢ 𝓤 _
  turned⊢ (suc n) [] = id⊢ 𝓤 _
  turned⊢ (suc n) (i ∷ Γ) =
      via 𝓤 _ (pop 𝓛 i Γ) (via 𝓤 _ (comm∗ 𝓤 (mean 𝓛 i) (⋆ 𝓛 Γ)) (via 𝓤 _ (++⊢ 𝓛 Γ (i ∷ [])) (turned⊢ n (Γ ++ (i ∷ [])))))

  -- an entry at place n of a list, and the first entry put there
  abbrev pub placed : ℕ → Item 𝓤 → List (Item 𝓤) → List (Item 𝓤)
  placed zero i Γ = i ∷ Γ
  placed (suc n) i [] = i ∷ []
  placed (suc n) i (j ∷ Γ) = j ∷ placed n i Γ

  placed⊢ : (n : ℕ) (i : Item 𝓤) (Γ : List (Item 𝓤)) → ent 𝓤 (⋆ 𝓛 (i ∷ Γ)) (⋆ 𝓛 (placed n i Γ))
  placed⊢ zero i Γ = id⊢ 𝓤 _
  placed⊢ (suc n) i [] = id⊢ 𝓤 _
  placed⊢ (suc n) i (j ∷ Γ) =
      via 𝓤 _ (pop 𝓛 i (j ∷ Γ)) (via 𝓤 _ (mono_r 𝓤 (mean 𝓛 i) (pop 𝓛 j Γ))
      (via 𝓤 _ (swapped (mean 𝓛 i) (mean 𝓛 j) (⋆ 𝓛 Γ))
      (via 𝓤 _ (mono_r 𝓤 (mean 𝓛 j) (via 𝓤 _ (push 𝓛 i Γ) (placed⊢ n i Γ))) (push 𝓛 j (placed n i Γ)))))

-- the first n entries are put last
pub sink : {M : Type 1} {𝓤 : Ura M} {𝓛 : Logic 𝓤} {K : Type 0} {Γ : List (Item 𝓤)} {G : Goal 𝓤 𝓛.H}
    → K → (n : ℕ) → Step K 𝓛 (turned 𝓛 n Γ) G Γ G
sink {𝓤 = 𝓤} {𝓛 = 𝓛} {Γ = Γ} t n = step (λ s. record { prf = via 𝓤 _ (turned⊢ 𝓛 n Γ) s.prf })

-- the first entry is put at place n of the others
pub place_at : {M : Type 1} {𝓤 : Ura M} {𝓛 : Logic 𝓤} {K : Type 0} {i : Item 𝓤} {Γ : List (Item 𝓤)}
    {G : Goal 𝓤 𝓛.H} → K → (n : ℕ) → Step K 𝓛 (placed 𝓛 n i Γ) G (i ∷ Γ) G
place_at {𝓤 = 𝓤} {𝓛 = 𝓛} {i = i} {Γ = Γ} t n = step (λ s. record { prf = via 𝓤 _ (placed⊢ 𝓛 n i Γ) s.prf })
