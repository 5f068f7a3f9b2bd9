-- A `&mut` slice lent on to a callee: its pointer is taken, and a slice made of it and the length, each in a local. Assumes `Logic`.
use mathlib.Core.Path.{◌≡◌, refl, subst, sym}
use mathlib.Core.List.{List, [], ◌∷◌}
use Prim.Native.Nat.{ℕ, zero, ◌+◌, ◌*◌}
use seplogic.Ra.Ura.{Ura}
use base.Fraction.{full_share}
use lib.Dec.{T}
use mir.Syntax.{Ty, Body, deref, field, place, copy, addr_of, aggregate, assign, seq, w64, ty_int, ty_ref, mut, Lifetime}
use mir.Val.{Val, vptr, vint, vstruct, vcons, vnil, has_ty, WT}
use base.Fml.{fat, froom}
use prog.Wp.{Env, Spot, Calls, Loops, spot_of}
use types.Logic.{Logic}
use types.Kit.{Item, ‵, nth, put, Post, runs, ◌$◌, Step, step}
use types.Part.{Part, agg, whole, sub, look_in}
use types.Run.{Reads, Walks, look, init, stop, hop, fld, from, load, addr, and_then, no_more, assigns}
use denote.Slice.{slice_ty, slice_val}

-- the type of a local that holds a `&mut` slice
abbrev pub mut_slice_ty : Lifetime → Ty → Ty
mut_slice_ty ℓ τ = slice_ty (ty_ref ℓ mut τ)

module _ {M : Type 1} {𝓤 : Ura M} {𝓛 : Logic 𝓤} {K : Type 0} {Γ : List (Item 𝓤)} where
  -- entry i is a slice: its pointer and its length
  pointer_in : K → (i : ℕ) (ℓ : Lifetime) (τ : Ty) (b x o n : ℕ)
      → nth 𝓛 i Γ ≡ ‵ (fat full_share (mut_slice_ty ℓ τ) b zero (slice_val (x, o) n)) → Reads K 𝓛 Γ (ty_ref ℓ mut τ) b zero (vptr x o)
  pointer_in t i ℓ τ b x o n is =
      look_in t i (subst (λ (e : Item 𝓤). Part K 𝓛 e full_share (ty_ref ℓ mut τ) b zero (vptr x o)
      (λ w. ‵ (fat full_share (mut_slice_ty ℓ τ) b zero (vstruct (vcons w (vcons (vint w64 n) vnil)))))) (sym is) (sub t 0 refl (whole t)))

  length-in : K → (i : ℕ) (ℓ : Lifetime) (τ : Ty) (b x o n : ℕ)
      → nth 𝓛 i Γ ≡ ‵ (fat full_share (mut_slice_ty ℓ τ) b zero (slice_val (x, o) n)) → Reads K 𝓛 Γ (ty_int w64) b 8 (vint w64 n)
  length-in t i ℓ τ b x o n is =
      look_in t i (subst (λ (e : Item 𝓤). Part K 𝓛 e full_share (ty_int w64) b 8 (vint w64 n)
      (λ w. ‵ (fat full_share (mut_slice_ty ℓ τ) b zero (vstruct (vcons (vptr x o) (vcons w vnil)))))) (sym is) (sub t 1 refl (whole t)))

-- what stands in local i: nothing yet, or a value
module _ {M : Type 1} {𝓤 : Ura M} (𝓛 : Logic 𝓤) (E : Env 𝓤 𝓛.H) (i : ℕ) where
  open 𝓛 use {H}

  abbrev Vacant : Item 𝓤
  Vacant = ‵ (froom (spot_of 𝓤 H E i).0 (spot_of 𝓤 H E i).1 zero)

  abbrev Taken : Val → Item 𝓤
  Taken v = ‵ (fat full_share (spot_of 𝓤 H E i).0 (spot_of 𝓤 H E i).1 zero v)

module _ {M : Type 1} {𝓤 : Ura M} {𝓛 : Logic 𝓤} {K : Type 0} {Γ : List (Item 𝓤)} {E : Env 𝓤 𝓛.H}
    {C : Calls 𝓤 𝓛.H} {Λ : Loops 𝓤 𝓛.H} {q : Post 𝓤 𝓛.H} where
  -- the slice in local s is lent on: its pointer in local p, the slice in local r; the context holds the locals from entry k on
  open 𝓛 use {H}

  pub lends : K → (k s p r : ℕ) {ℓ : Lifetime} {τ σ : Ty} {b x o n : ℕ} {rest : Body} → spot_of 𝓤 H E s ≡ (mut_slice_ty ℓ τ, b, zero)
      → nth 𝓛 (2 * s + k) Γ ≡ ‵ (fat full_share (mut_slice_ty ℓ τ) b zero (slice_val (x, o) n))
      → nth 𝓛 (2 * p + k) Γ ≡ Vacant 𝓛 E p
      → T (has_ty (spot_of 𝓤 H E p).0 (vptr x o))
      → nth 𝓛 (2 * s + k) (put 𝓛 (2 * p + k) (Taken 𝓛 E p (vptr x o)) Γ)
      ≡ ‵ (fat full_share (mut_slice_ty ℓ τ) b zero (slice_val (x, o) n))
      → nth 𝓛 (2 * p + k) (put 𝓛 (2 * p + k) (Taken 𝓛 E p (vptr x o)) Γ) ≡ Taken 𝓛 E p (vptr x o)
      → nth 𝓛 (2 * r + k) (put 𝓛 (2 * p + k) (Taken 𝓛 E p (vptr x o)) Γ) ≡ Vacant 𝓛 E r
      → T (has_ty (spot_of 𝓤 H E r).0 (slice_val (x, o) n)) × WT (slice_val (x, o) n)
      → Step K 𝓛 (put 𝓛 (2 * r + k) (Taken 𝓛 E r (slice_val (x, o) n)) (put 𝓛 (2 * p + k) (Taken 𝓛 E p (vptr x o)) Γ))
      (runs C Λ E rest q) Γ (runs C Λ E (seq (assign (place p []) (addr_of (place s (field 0 ∷ deref σ ∷ []))))
      (seq (assign (place r []) (aggregate (copy (place p []) ∷ copy (place s (field 1 ∷ [])) ∷ []))) rest)) q)
  lends t k s p r {ℓ} {τ} {σ} {b} {x} {o} {n} {rest} at-s is-s is-p ok-p is-s' is-p' is-r ok-r = step (λ h.
      assigns t (addr t (from t (subst (λ (sp : Spot 𝓤 H). Walks K 𝓛 Γ E sp (field 0 ∷ deref σ ∷ []) (σ, x, o)) (sym at-s)
      (fld t refl (hop t (pointer_in t (2 * s + k) ℓ τ b x o n is-s) (stop t)))))) (from t (stop t)) (init t (2 * p + k) is-p (ok-p, tt)) $
      assigns t (agg t (and_then t (load t (from t (stop t)) (look t (2 * p + k) is-p')) (and_then t
      (load t (from t (subst (λ (sp : Spot 𝓤 H). Walks K 𝓛 (put 𝓛 (2 * p + k) (Taken 𝓛 E p (vptr x o)) Γ) E sp (field 1 ∷ [])
      (ty_int w64, b, 8)) (sym at-s) (fld t refl (stop t)))) (length-in t (2 * s + k) ℓ τ b x o n is-s')) (no_more t)))) (from t (stop t))
      (init t (2 * r + k) is-r ok-r) $ h)
