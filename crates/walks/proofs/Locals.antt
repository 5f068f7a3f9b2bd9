-- A function's locals: allocated with its arguments stored in one step, read by their numbers, freed in one step. In a context that holds
-- them from entry k on, local i is entry 2 * i + k, and what frees it stands after it. Assumes `Logic`.
use mathlib.Core.Path.{◌≡◌, ap, subst, sym}
use mathlib.Core.List.{List, [], ◌∷◌, ◌++◌, map}
use mathlib.Core.Option.{Option, none, some}
use Prim.Native.Nat.{ℕ, zero, ◌+◌, ◌*◌}
use seplogic.Ra.Ura.{Ura}
use base.Fraction.{full_share}
use lib.Dec.{T}
use mir.Syntax.{Local, Fn, Ty, Opd as Operand, copy, place}
use mir.Val.{Val, has_ty, WT}
use base.Logic.{SProp, ent, sep, wand, via, comm∗, assoc∗, assoc', mono_l, mono_r, wand_i, all_i, guard_i}
use base.Fml.{ftrue, fat, froom, fdies}
use prog.Wp.{Heap, Env, Calls, Loops, Wp, WpFn, at_return, alloc, params, pass, release, spot_of, ty_of}
use types.Logic.{Logic}
use types.Kit.{Item, ‵, mean, ⋆, nth, push, pop, prop, runs, frees, at_ret, Seq, Step, step}
use types.Run.{Opds, look, stop, from, load, and_then, no_more}
use Rattle.walks.proofs.Contexts.{taken, put-behind}

-- an address for each local
abbrev pub Homes : List Local → Type 0
Homes [] = Unit {0}
Homes (l ∷ ls) = ℕ × Homes ls

module _ {M : Type 1} (𝓤 : Ura M) (H : Heap 𝓤) where
  abbrev pub env_at : (ls : List Local) → Homes ls → Env 𝓤 H
  env_at [] bs = []
  env_at (l ∷ ls) bs = (ty_of 𝓤 H l, bs.0) ∷ env_at ls bs.1

  -- values of the first locals' types
  abbrev pub TypedLocals : Env 𝓤 H → List Val → Type 0
  TypedLocals E [] = Unit {0}
  TypedLocals [] (v ∷ vs) = ⊥
  TypedLocals (e ∷ E) (v ∷ vs) = (T (has_ty e.0 v) × WT v) × TypedLocals E vs

  -- the parameters are the locals after the result
  abbrev pub TypedParams : Env 𝓤 H → List Val → Type 0
  TypedParams [] vs = ⊥
  TypedParams (e ∷ E) vs = TypedLocals E vs

  -- locals with nothing in them; the first of them with values; the parameters with values
  abbrev pub empty : Env 𝓤 H → List (Item 𝓤)
  empty [] = []
  empty (e ∷ E) = ‵ (froom e.0 e.1 zero) ∷ ‵ (fdies e.0 e.1) ∷ empty E

  abbrev pub filled : Env 𝓤 H → List Val → List (Item 𝓤)
  filled E [] = empty E
  filled [] (v ∷ vs) = []
  filled (e ∷ E) (v ∷ vs) = ‵ (fat full_share e.0 e.1 zero v) ∷ ‵ (fdies e.0 e.1) ∷ filled E vs

  abbrev pub passed : Env 𝓤 H → List Val → List (Item 𝓤)
  passed [] vs = []
  passed (e ∷ E) vs = ‵ (froom e.0 e.1 zero) ∷ ‵ (fdies e.0 e.1) ∷ filled E vs

  -- locals by what is in each
  abbrev local_as : Ty → ℕ → Option Val → Item 𝓤
  local_as τ b none = ‵ (froom τ b zero)
  local_as τ b (some v) = ‵ (fat full_share τ b zero v)

  abbrev pub locals_as : Env 𝓤 H → List (Option Val) → List (Item 𝓤)
  locals_as [] vs = []
  locals_as (e ∷ E) [] = []
  locals_as (e ∷ E) (v ∷ vs) = local_as e.0 e.1 v ∷ ‵ (fdies e.0 e.1) ∷ locals_as E vs

  -- as many as there are locals
  abbrev pub Each : Env 𝓤 H → List (Option Val) → Type 0
  Each [] [] = Unit {0}
  Each [] (v ∷ vs) = ⊥
  Each (e ∷ E) [] = ⊥
  Each (e ∷ E) (v ∷ vs) = Each E vs

  -- a value for each local, and locals that hold them
  abbrev pub Held : Env 𝓤 H → Type 0
  Held [] = Unit {0}
  Held (e ∷ E) = Val × Held E

  abbrev pub holding : (E : Env 𝓤 H) → Held E → List (Item 𝓤)
  holding [] vs = []
  holding (e ∷ E) vs = ‵ (fat full_share e.0 e.1 zero vs.0) ∷ ‵ (fdies e.0 e.1) ∷ holding E vs.1

  -- the entries of locals that hold values
  abbrev pub cells_of : Env 𝓤 H → List ℕ → List Val → List (Item 𝓤)
  cells_of E [] [] = []
  cells_of E [] (v ∷ vs) = ‵ ftrue ∷ []
  cells_of E (i ∷ is) [] = []
  cells_of E (i ∷ is) (v ∷ vs) = ‵ (fat full_share (spot_of 𝓤 H E i).0 (spot_of 𝓤 H E i).1 zero v) ∷ cells_of E is vs

-- copies of locals, as operands
abbrev pub copies_of : List ℕ → List Operand
copies_of [] = []
copies_of (i ∷ is) = copy (place i []) ∷ copies_of is

-- lists that are equal begin and go on alike
abbrev head_or : {X : Type 2} → X → List X → X
head_or d [] = d
head_or d (x ∷ xs) = x

abbrev tail_of : {X : Type 2} → List X → List X
tail_of [] = []
tail_of (x ∷ xs) = xs

abbrev IsEmpty : {X : Type 2} → List X → Type 0
IsEmpty [] = Unit {0}
IsEmpty (x ∷ xs) = ⊥

-- a function is entered
module _ {M : Type 1} {𝓤 : Ura M} (𝓛 : Logic 𝓤) where
  -- two entries brought before Δ, or put behind it
  open 𝓛 use {H}

  before : (Δ Γ : List (Item 𝓤)) (i j : Item 𝓤) → ent 𝓤 (⋆ 𝓛 (Δ ++ (i ∷ j ∷ Γ))) (⋆ 𝓛 (i ∷ j ∷ (Δ ++ Γ)))
  before Δ Γ i j =
      via 𝓤 _ (taken 𝓛 Δ (j ∷ Γ) i) (via 𝓤 _ (mono_r 𝓤 (mean 𝓛 i) (via 𝓤 _ (taken 𝓛 Δ Γ j) (push 𝓛 j (Δ ++ Γ))))
      (push 𝓛 i (j ∷ (Δ ++ Γ))))

  behind : (Δ Γ : List (Item 𝓤)) (i j : Item 𝓤) → ent 𝓤 (⋆ 𝓛 (i ∷ j ∷ (Δ ++ Γ))) (⋆ 𝓛 (Δ ++ (i ∷ j ∷ Γ)))
  behind Δ Γ i j =
      via 𝓤 _ (pop 𝓛 i (j ∷ (Δ ++ Γ))) (via 𝓤 _ (mono_r 𝓤 (mean 𝓛 i) (via 𝓤 _ (pop 𝓛 j (Δ ++ Γ)) (put-behind 𝓛 Δ Γ j)))
      (put-behind 𝓛 Δ (j ∷ Γ) i))

  allocates : (ls : List Local) (Γ : List (Item 𝓤)) (P : Env 𝓤 H → SProp 𝓤)
      → ((bs : Homes ls) → ent 𝓤 (⋆ 𝓛 (empty 𝓤 H (env_at 𝓤 H ls bs) ++ Γ)) (P (env_at 𝓤 H ls bs))) → ent 𝓤 (⋆ 𝓛 Γ) (alloc 𝓤 H ls P)
  allocates [] Γ P k = k tt
  allocates (l ∷ ls) Γ P k =
      all_i 𝓤 _ (λ b. wand_i 𝓤 (⋆ 𝓛 Γ) (sep 𝓤 (H.room (ty_of 𝓤 H l) b zero) (H.dies (ty_of 𝓤 H l) b)) _
      (via 𝓤 _ (comm∗ 𝓤 (⋆ 𝓛 Γ) (sep 𝓤 (H.room (ty_of 𝓤 H l) b zero) (H.dies (ty_of 𝓤 H l) b)))
      (via 𝓤 _ (assoc∗ 𝓤 (H.room (ty_of 𝓤 H l) b zero) (H.dies (ty_of 𝓤 H l) b) (⋆ 𝓛 Γ))
      (via 𝓤 (⋆ 𝓛 (‵ (froom (ty_of 𝓤 H l) b zero) ∷ ‵ (fdies (ty_of 𝓤 H l) b) ∷ Γ))
      (mono_r 𝓤 (H.room (ty_of 𝓤 H l) b zero) (push 𝓛 (‵ (fdies (ty_of 𝓤 H l) b)) Γ))
      (allocates ls (‵ (froom (ty_of 𝓤 H l) b zero) ∷ ‵ (fdies (ty_of 𝓤 H l) b) ∷ Γ) (λ E. P ((ty_of 𝓤 H l, b) ∷ E)) (λ bs.
      via 𝓤 _ (before (empty 𝓤 H (env_at 𝓤 H ls bs)) Γ (‵ (froom (ty_of 𝓤 H l) b zero)) (‵ (fdies (ty_of 𝓤 H l) b))) (k (b, bs))))))))

  -- the arguments are stored
  stores : (E : Env 𝓤 H) (vs : List Val) (Γ : List (Item 𝓤)) (P : SProp 𝓤) → TypedLocals 𝓤 H E vs
      → ent 𝓤 (⋆ 𝓛 (filled 𝓤 H E vs ++ Γ)) P → ent 𝓤 (⋆ 𝓛 (empty 𝓤 H E ++ Γ)) (pass 𝓤 H E vs P)
  stores E [] Γ P ok k = k
  stores [] (v ∷ vs) Γ P ok k = absurd ok
  stores (e ∷ E) (v ∷ vs) Γ P ok k =
      via 𝓤 (sep 𝓤 (H.room e.0 e.1 zero) (wand 𝓤 (H.at full_share e.0 e.1 zero v) (pass 𝓤 H E vs P)))
      (mono_r 𝓤 (H.room e.0 e.1 zero) (wand_i 𝓤 (⋆ 𝓛 (‵ (fdies e.0 e.1) ∷ (empty 𝓤 H E ++ Γ)))
      (H.at full_share e.0 e.1 zero v) (pass 𝓤 H E vs P)
      (via 𝓤 _ (comm∗ 𝓤 (⋆ 𝓛 (‵ (fdies e.0 e.1) ∷ (empty 𝓤 H E ++ Γ))) (H.at full_share e.0 e.1 zero v))
      (via 𝓤 _ (behind (empty 𝓤 H E) Γ (‵ (fat full_share e.0 e.1 zero v)) (‵ (fdies e.0 e.1)))
      (stores E vs (‵ (fat full_share e.0 e.1 zero v) ∷ ‵ (fdies e.0 e.1) ∷ Γ) P ok.1
      (via 𝓤 _ (before (filled 𝓤 H E vs) Γ (‵ (fat full_share e.0 e.1 zero v)) (‵ (fdies e.0 e.1))) k))))))
      (guard_i 𝓤 (T (has_ty e.0 v) × WT v) _ ok.0)

  hands : (E : Env 𝓤 H) (vs : List Val) (Γ : List (Item 𝓤)) (P : SProp 𝓤) → TypedParams 𝓤 H E vs
      → ent 𝓤 (⋆ 𝓛 (passed 𝓤 H E vs ++ Γ)) P → ent 𝓤 (⋆ 𝓛 (empty 𝓤 H E ++ Γ)) (params 𝓤 H E vs P)
  hands [] vs Γ P ok k = absurd ok
  hands (e ∷ E) vs Γ P ok k =
      via 𝓤 _ (behind (empty 𝓤 H E) Γ (‵ (froom e.0 e.1 zero)) (‵ (fdies e.0 e.1)))
      (stores E vs (‵ (froom e.0 e.1 zero) ∷ ‵ (fdies e.0 e.1) ∷ Γ) P ok
      (via 𝓤 _ (before (filled 𝓤 H E vs) Γ (‵ (froom e.0 e.1 zero)) (‵ (fdies e.0 e.1))) k))

  frees_all : (E : Env 𝓤 H) (vs : Held 𝓤 H E) (Γ : List (Item 𝓤)) (P : SProp 𝓤) → ent 𝓤 (⋆ 𝓛 Γ) P
      → ent 𝓤 (⋆ 𝓛 (holding 𝓤 H E vs ++ Γ)) (release 𝓤 H E P)
  frees_all [] vs Γ P k = k
  frees_all (e ∷ E) vs Γ P k =
      via 𝓤 _ (mono_l 𝓤 (⋆ 𝓛 (‵ (fdies e.0 e.1) ∷ (holding 𝓤 H E vs.1 ++ Γ))) (𝓛.laws.at_room e.0 e.1 zero vs.0))
      (via 𝓤 _ (mono_r 𝓤 (H.room e.0 e.1 zero) (pop 𝓛 (‵ (fdies e.0 e.1)) (holding 𝓤 H E vs.1 ++ Γ)))
      (via 𝓤 _ (assoc' 𝓤 (H.room e.0 e.1 zero) (H.dies e.0 e.1) (⋆ 𝓛 (holding 𝓤 H E vs.1 ++ Γ)))
      (mono_r 𝓤 (sep 𝓤 (H.room e.0 e.1 zero) (H.dies e.0 e.1)) (frees_all E vs.1 Γ P k))))

  -- the same of locals of which some hold nothing
  frees-one : (τ : Ty) (b : ℕ) (Γ : List (Item 𝓤)) (P : SProp 𝓤) → ent 𝓤 (⋆ 𝓛 Γ) P
      → ent 𝓤 (⋆ 𝓛 (‵ (froom τ b zero) ∷ ‵ (fdies τ b) ∷ Γ)) (sep 𝓤 (sep 𝓤 (H.room τ b zero) (H.dies τ b)) P)
  frees-one τ b Γ P k =
      via 𝓤 _ (mono_r 𝓤 (H.room τ b zero) (pop 𝓛 (‵ (fdies τ b)) Γ))
      (via 𝓤 _ (assoc' 𝓤 (H.room τ b zero) (H.dies τ b) (⋆ 𝓛 Γ)) (mono_r 𝓤 (sep 𝓤 (H.room τ b zero) (H.dies τ b)) k))

  frees_each : (E : Env 𝓤 H) (vs : List (Option Val)) (Γ : List (Item 𝓤)) (P : SProp 𝓤) → Each 𝓤 H E vs → ent 𝓤 (⋆ 𝓛 Γ) P
      → ent 𝓤 (⋆ 𝓛 (locals_as 𝓤 H E vs ++ Γ)) (release 𝓤 H E P)
  frees_each [] [] Γ P z k = k
  frees_each [] (v ∷ vs) Γ P z k = absurd z
  frees_each (e ∷ E) [] Γ P z k = absurd z
  frees_each (e ∷ E) (none ∷ vs) Γ P z k = frees-one e.0 e.1 (locals_as 𝓤 H E vs ++ Γ) (release 𝓤 H E P) (frees_each E vs Γ P z k)
  frees_each (e ∷ E) (some v ∷ vs) Γ P z k =
      via 𝓤 _ (mono_l 𝓤 (⋆ 𝓛 (‵ (fdies e.0 e.1) ∷ (locals_as 𝓤 H E vs ++ Γ))) (𝓛.laws.at_room e.0 e.1 zero v))
      (frees-one e.0 e.1 (locals_as 𝓤 H E vs ++ Γ) (release 𝓤 H E P) (frees_each E vs Γ P z k))

module _ {M : Type 1} {𝓤 : Ura M} {𝓛 : Logic 𝓤} {K : Type 0} {Γ : List (Item 𝓤)} where
  -- its locals are allocated and its arguments stored
  open 𝓛 use {H}

  pub enters : K → (C : Calls 𝓤 H) (Λ : Loops 𝓤 H) (f : Fn) (vs : List Val) (Kf : Val → SProp 𝓤)
      → ((bs : Homes f.locals) → TypedParams 𝓤 H (env_at 𝓤 H f.locals bs) vs)
      → ((bs : Homes f.locals) → Seq K 𝓛 (passed 𝓤 H (env_at 𝓤 H f.locals bs) vs ++ Γ)
      (runs C Λ (env_at 𝓤 H f.locals bs) f.body (at_ret (env_at 𝓤 H f.locals bs) Kf))) → Seq K 𝓛 Γ (prop (WpFn 𝓤 H C Λ f vs Kf))
  unfolding WpFn
  enters t C Λ f vs Kf typed k =
      record {
        prf = allocates 𝓛 f.locals Γ (λ E. params 𝓤 H E vs (Wp 𝓤 H C Λ E f.body (at_return 𝓤 H E Kf)))
            (λ bs. hands 𝓛 (env_at 𝓤 H f.locals bs) vs Γ _ (typed bs) (k bs).prf);
      }

  -- they are freed, each with a value in it
  pub leaves : K → {E : Env 𝓤 H} {P : SProp 𝓤} (vs : Held 𝓤 H E) (Γ' : List (Item 𝓤)) → Γ ≡ holding 𝓤 H E vs ++ Γ'
      → Step K 𝓛 Γ' (prop P) Γ (frees E (prop P))
  leaves t {E} {P} vs Γ' e = step (λ s. record {
    prf = subst (λ (Δ : List (Item 𝓤)). ent 𝓤 (⋆ 𝓛 Δ) (release 𝓤 H E P)) (sym e) (frees_all 𝓛 E vs Γ' P s.prf);
  })

  pub leaves-each : K → {E : Env 𝓤 H} {P : SProp 𝓤} (vs : List (Option Val)) (Γ' : List (Item 𝓤)) → Each 𝓤 H E vs
      → Γ ≡ locals_as 𝓤 H E vs ++ Γ' → Step K 𝓛 Γ' (prop P) Γ (frees E (prop P))
  leaves-each t {E} {P} vs Γ' z e = step (λ s. record {
    prf = subst (λ (Δ : List (Item 𝓤)). ent 𝓤 (⋆ 𝓛 Δ) (release 𝓤 H E P)) (sym e) (frees_each 𝓛 E vs Γ' P z s.prf);
  })

  -- locals as operands, where the context holds them from entry k on
  operands : K → (k : ℕ) (is : List ℕ) (E : Env 𝓤 H) (vs : List Val)
      → map (λ i. nth 𝓛 (2 * i + k) Γ) is ≡ cells_of 𝓤 H E is vs → Opds K 𝓛 Γ E (copies_of is) vs
  operands t k [] E [] e = no_more t
  operands t k [] E (v ∷ vs) e = absurd (subst IsEmpty e tt)
  operands t k (i ∷ is) E [] e = absurd (subst IsEmpty (sym e) tt)
  operands t k (i ∷ is) E (v ∷ vs) e =
      and_then t (load t (from t (stop t)) (look t (2 * i + k) (ap (head_or (‵ ftrue)) e))) (operands t k is E vs (ap tail_of e))

  pub copies : K → (k : ℕ) (is : List ℕ) {E : Env 𝓤 H} {vs : List Val}
      → map (λ i. nth 𝓛 (2 * i + k) Γ) is ≡ cells_of 𝓤 H E is vs → Opds K 𝓛 Γ E (copies_of is) vs
  copies t k is {E} {vs} e = operands t k is E vs e
