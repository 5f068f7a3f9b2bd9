-- A call in a walk: what the callee's contract said comes back as a fact, with its result, its tokens and the last values of its `&mut`s.
-- Assumes `Logic`.
use mathlib.Core.Path.{◌≡◌, subst}
use mathlib.Core.List.{List, [], ◌∷◌}
use Prim.Native.Nat.{ℕ, zero, suc}
use seplogic.Ra.Ura.{Ura}
use mir.Syntax.{Callee, Place, Opd as Operand, Body, seq, call}
use mir.Val.{Val}
use base.Logic.{SProp, ent, sep, emp, id⊢, via, emp∗, mono∗}
use base.Fml.{Fml, ftrue, fsep}
use prog.Wp.{Env, Calls, Loops}
use types.Logic.{Logic, sem}
use sound.WpLaws.{FmC}
use contract.Monad.{fact, fact_i}
use types.Kit.{Item, ‵, raw, ◌⊛◌, some, later, ◌$◌, ◌∵◌, !, qed, by, move, use0, use1, split, join, pick, await, show, frame}
use types.Kit.{updating, now as at_once, done, Goal, Post, Soaks, runs, lands, Seq}
use types.Run.{Opds}
use denote.Laws.{Is, Ises, Are, Makess, shows, owns_make}
use denote.RattleType.{RattleType, Denots, Valss, owns}
use denote.Signature.{type_at}
use denote.Steps.{heard, peeks}
use denote.Triple.Call.{calls_at}
use denote.Triple.Clauses.{Clauses, Ended, Lasts, at_exit, lasts, ensured, closing}
use denote.Triple.Entry.{Res, alive}
use denote.Triple.Spec.{Back, triple_of}
use denote.Triple.Statement.{Contract, Triple}

-- the contract that a function's clauses make
abbrev pub contract_of : {M : Type 1} {𝓤 : Ura M} (𝓛 : Logic 𝓤) (T : Ended) → Clauses 𝓤 T → Contract 𝓤
contract_of 𝓛 T c = triple_of 𝓛 T.signature (closing 𝓛 T c)

-- a call of such a function: its result, the last values of its `&mut`s, what it says of them, and what it leaves to the caller
module _ {M : Type 1} {𝓤 : Ura M} (𝓛 : Logic 𝓤) (T : Ended) (c : Clauses 𝓤 T) (y : (contract_of 𝓛 T c).Ghost) where
  abbrev pub Result : Type 0
  Result = Res T.signature y.0.0

  abbrev pub Finals : Type 0
  Finals = Lasts T y.0.0 y.0.3

  abbrev pub Says : Result → Finals → SProp 𝓤
  Says r ws = (c y.0.0 y.0.3).ensures y.1 r (at_exit T y.0.0 y.0.3 ws)

  abbrev pub ResultType : RattleType
  ResultType = type_at T.signature.result y.0.0

  abbrev pub Tokens : SProp 𝓤
  Tokens = alive 𝓛 T.signature y.0.0 y.0.1

  abbrev pub Told : Finals → Fml
  Told ws = lasts T y.0.0 y.0.3 ws

module _ {M : Type 1} {𝓤 : Ura M} {𝓛 : Logic 𝓤} {K : Type 0} {Γ : List (Item 𝓤)} where
  -- what a call left, with what φ says of its result r and of the last values ws, and how the result lies in the machine
  open 𝓛 use {H}

  gives : K → {G : Goal 𝓤 H} → Soaks G → (T : Ended) (c : Clauses 𝓤 T) (y : (contract_of 𝓛 T c).Ghost) (u : Val)
      (φ : Result 𝓛 T c y → Finals 𝓛 T c y → Type 0)
      → ((r : Result 𝓛 T c y) (ws : Finals 𝓛 T c y) → ent 𝓤 (Says 𝓛 T c y r ws) (fact 𝓤 (φ r ws)))
      → ((r : Result 𝓛 T c y) (ws : Finals 𝓛 T c y) → φ r ws → Is (ResultType 𝓛 T c y) r (u ∷ [])
      → Seq K 𝓛 (‵ ((ResultType 𝓛 T c y).own_val r (u ∷ [])) ∷ raw (Tokens 𝓛 T c y) ∷ ‵ (Told 𝓛 T c y ws) ∷ Γ) G)
      → Seq K 𝓛 (raw ((contract_of 𝓛 T c).post y u) ∷ Γ) G
  gives t {G} z T c y u φ told k =
      use1 𝓛 (later (some (λ (r : Result 𝓛 T c y). (raw (Tokens 𝓛 T c y) ⊛ ‵ ((ResultType 𝓛 T c y).own_val r (u ∷ [])))
      ⊛ some (λ (ws : Finals 𝓛 T c y). ‵ (Told 𝓛 T c y ws) ⊛ raw (Says 𝓛 T c y r ws))))) (id⊢ 𝓤 _) $ await t z $ pick t (λ r.
      split t $ split t $ move t (2 ∷ []) $ pick t (λ ws. split t $ move t (1 ∷ []) $ use1 𝓛 (raw (fact 𝓤 (φ r ws))) (told r ws) $
      heard t (φ r ws) (λ p. move t (2 ∷ 1 ∷ 0 ∷ []) $
      peeks t (ResultType 𝓛 T c y) (Is (ResultType 𝓛 T c y)) (shows 𝓛 (ResultType 𝓛 T c y)) r (u ∷ []) (λ is.
      k r ws p is))))

  -- a call, with what it left
  pub asks : K → {E : Env 𝓤 H} {C : Calls 𝓤 H} {Λ : Loops 𝓤 H} {q : Post 𝓤 H} {f : Callee} {xs : List Operand} {d : Place} {rest : Body}
      → FmC 𝓤 H 𝓛.laws C → (T : Ended) (c : Clauses 𝓤 T) → Triple 𝓤 (C f) (contract_of 𝓛 T c) → (y : (contract_of 𝓛 T c).Ghost)
      → Opds K 𝓛 (raw ((contract_of 𝓛 T c).pre y) ∷ Γ) E xs ((contract_of 𝓛 T c).args y)
      → (φ : Result 𝓛 T c y → Finals 𝓛 T c y → Type 0)
      → ((r : Result 𝓛 T c y) (ws : Finals 𝓛 T c y) → ent 𝓤 (Says 𝓛 T c y r ws) (fact 𝓤 (φ r ws)))
      → ((u : Val) (r : Result 𝓛 T c y) (ws : Finals 𝓛 T c y) → φ r ws → Is (ResultType 𝓛 T c y) r (u ∷ [])
      → Seq K 𝓛 (‵ ((ResultType 𝓛 T c y).own_val r (u ∷ [])) ∷ raw (Tokens 𝓛 T c y) ∷ ‵ (Told 𝓛 T c y ws) ∷ Γ)
      (lands C Λ E d u rest q))
      → Seq K 𝓛 (raw ((contract_of 𝓛 T c).pre y) ∷ Γ) (runs C Λ E (seq (call f xs d) rest) q)
  asks t fm T c met y os φ told k =
      calls_at t fm (contract_of 𝓛 T c) met y os (λ u. gives t tt T c y u φ told (k u))

-- a callee whose parameters are plain numbers or structs of them: what it asks can be had for nothing
pub goes-plain : {M : Type 1} {𝓤 : Ura M} (𝓛 : Logic 𝓤) (Rs : List RattleType) (a : Denots Rs) (vss : Valss Rs)
    → Makess 𝓛 Rs (Ises Rs) → Are Rs (Ises Rs) a vss → (P : SProp 𝓤) → ent 𝓤 (emp 𝓤) P
    → ent 𝓤 (emp 𝓤) (sep 𝓤 (sep 𝓤 (emp 𝓤) (sem 𝓛 (owns Rs a vss))) P)
goes-plain {𝓤 = 𝓤} 𝓛 Rs a vss makes are P p =
    via 𝓤 _ (emp∗ 𝓤 (emp 𝓤)) (mono∗ 𝓤 (via 𝓤 _ (owns_make 𝓛 Rs (Ises Rs) makes a vss are) (emp∗ 𝓤 _)) p)

-- a function has ended: its result, its tokens and the last values, and what its contract says of them
pub ends : {M : Type 1} {𝓤 : Ura M} (𝓛 : Logic 𝓤) (T : Ended) (c : Clauses 𝓤 T)
    (y : (contract_of 𝓛 T c).Ghost) (u : Val) (r : Result 𝓛 T c y) (ws : Finals 𝓛 T c y) (φ : Type 0)
    → ent 𝓤 (fact 𝓤 φ) (Says 𝓛 T c y r ws) → φ
    → ent 𝓤 (sep 𝓤 (sem 𝓛 ((ResultType 𝓛 T c y).own_val r (u ∷ []))) (sep 𝓤 (Tokens 𝓛 T c y) (sem 𝓛 (Told 𝓛 T c y ws))))
    ((contract_of 𝓛 T c).post y u)
ends {𝓤 = 𝓤} 𝓛 T c y u r ws φ says p =
    qed 𝓛 (‵ ((ResultType 𝓛 T c y).own_val r (u ∷ [])) ∷ raw (Tokens 𝓛 T c y) ∷ ‵ (Told 𝓛 T c y ws) ∷ []) ∵
    updating ! $ at_once ! $ show ! (λ (r' : Result 𝓛 T c y). sep 𝓤 (Back 𝓛 T.signature y.0 u r')
    (ensured 𝓛 T c y.0.0 y.0.3 y.1 r')) r $ move ! (1 ∷ 0 ∷ []) $ join ! $ frame ! $
    show ! (λ (ws' : Finals 𝓛 T c y). sep 𝓤 (sem 𝓛 (Told 𝓛 T c y ws')) (Says 𝓛 T c y r ws')) ws $
    use0 𝓛 (raw (Says 𝓛 T c y r ws)) (via 𝓤 (fact 𝓤 φ) (fact_i 𝓤 φ (emp 𝓤) p) says) $ move ! (1 ∷ 0 ∷ []) $ done !

-- what is said of the last values of n parameters of which none is a `&mut`
abbrev pub silence : ℕ → Fml
silence zero = ftrue
silence (suc n) = fsep ftrue (silence n)

silent : {M : Type 1} {𝓤 : Ura M} (𝓛 : Logic 𝓤) (n : ℕ) → ent 𝓤 (emp 𝓤) (sem 𝓛 (silence n))
silent {𝓤 = 𝓤} 𝓛 zero = id⊢ 𝓤 _
silent {𝓤 = 𝓤} 𝓛 (suc n) = via 𝓤 _ (silent 𝓛 n) (emp∗ 𝓤 _)

-- such a function has ended
pub ends-silent : {M : Type 1} {𝓤 : Ura M} (𝓛 : Logic 𝓤) (T : Ended) (c : Clauses 𝓤 T)
    (y : (contract_of 𝓛 T c).Ghost) (u : Val) (r : Result 𝓛 T c y) (ws : Finals 𝓛 T c y) (n : ℕ)
    → silence n ≡ Told 𝓛 T c y ws → (φ : Type 0) → ent 𝓤 (fact 𝓤 φ) (Says 𝓛 T c y r ws) → φ
    → ent 𝓤 (sep 𝓤 (sem 𝓛 ((ResultType 𝓛 T c y).own_val r (u ∷ []))) (Tokens 𝓛 T c y)) ((contract_of 𝓛 T c).post y u)
ends-silent {𝓤 = 𝓤} 𝓛 T c y u r ws n e φ says p =
    qed 𝓛 (‵ ((ResultType 𝓛 T c y).own_val r (u ∷ [])) ∷ raw (Tokens 𝓛 T c y) ∷ []) ∵
    use0 𝓛 (‵ (Told 𝓛 T c y ws)) (subst (λ (F : Fml). ent 𝓤 (emp 𝓤) (sem 𝓛 F)) e (silent 𝓛 n)) $
    move ! (1 ∷ 2 ∷ 0 ∷ []) $ by ! (ends 𝓛 T c y u r ws φ says p)
