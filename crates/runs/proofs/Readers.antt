-- A reader taken apart and put together: what it owns is what `run_at` asks. Assumes `Logic`.
use mathlib.Core.Path.{◌≡◌}
use mathlib.Core.List.{[], ◌∷◌}
use seplogic.Ra.Ura.{Ura}
use mir.Syntax.{w64}
use mir.Val.{vint}
use base.Logic.{SProp, ent, sep}
use base.Fml.{Share}
use prog.Memory.{Memory}
use prog.Routine.{Routine}
use types.Logic.{Logic, sem}
use contract.Lifetimes.{toks}
use contract.Monad.{Fun}
use types.Kit.{‵, raw, given, ◌$◌, ◌∵◌, !, qed, move, use1, learn, join, frame, done}
use denote.Ref.{NamedLft}
use denote.Slice.{shr_slice_vals}
use denote.Struct.Laws as LL
use denote.Struct.Rest.{all_own, own_open}
use denote.Struct.Values.{Values}
use denote.Triple.Spec.{triple_of}
use denote.Triple.Statement.{Contract}
use Rattle.walks.proofs.Entries.{Known, ◌&◌}
use Rattle.runs.specs.declared.Runs.{Runs}
use Rattle.runs.specs.contracts.Runs as T
use Rattle.runs.proofs.Runs.TheLaws as T'
use Rattle.runs.specs.contracts.run_at as run_at

-- what a reader holds, field by field
abbrev pub fields_of : (α : NamedLft) → Runs → Values (T.the_type α).parts
fields_of α d = d.people & d.len & d.words & d.person & d.at & tt

module _ {M : Type 1} {𝓤 : Ura M} (𝓛 : Logic 𝓤) where
  -- it lies in the machine in one way only
  abbrev pub reader : (α : NamedLft) → Known 𝓛 (T.the_row α)
  reader α =
      record {
        vals = LL.vals (T.the_type α) (T'.the_laws α);
        tells = LL.tells (T.the_type α) (T'.the_laws α);
        lawful = LL.lawful (T.the_type α) (T'.the_laws α) 𝓛;
      }

module _ {M : Type 1} {𝓤 : Ura M} (𝓛 : Logic 𝓤) (mem : Memory → SProp 𝓤) (run : Routine → Fun 𝓤) where
  -- the contract of `run_at`, which `next` and `advance` cite
  abbrev pub RunAt : Contract 𝓤
  RunAt = triple_of 𝓛 run_at.signature (run_at.spec 𝓛 mem run)

module _ {M : Type 1} {𝓤 : Ura M} (𝓛 : Logic 𝓤) (mem : Memory → SProp 𝓤) (run : Routine → Fun 𝓤)
    (α : NamedLft) (q : Share) (d : Runs) where
  -- what a call of it on a reader's fields binds outside, and that who has the reader has what it asks
  abbrev pub to-run : (RunAt 𝓛 mem run).Ghost
  to-run = (
    (
      (α.lft, tt),
      (q, tt),
      tt,
      fields_of α d,
      (vint w64 d.people ∷ []) & (vint w64 d.len ∷ []) & shr_slice_vals d.words
          & (vint w64 d.person ∷ []) & (vint w64 d.at ∷ []) & tt,
    ),
    tt,
  )

  pub goes-run : ent 𝓤 (sep 𝓤 (toks 𝓛 1 (α.lft, tt) (q, tt)) (sem 𝓛 ((T.the_row α).own_val d (T'.lowered d ∷ []))))
      ((RunAt 𝓛 mem run).pre to-run)
  goes-run =
      qed 𝓛 (raw (toks 𝓛 1 (α.lft, tt) (q, tt)) ∷ ‵ ((T.the_row α).own_val d (T'.lowered d ∷ [])) ∷ []) ∵ move ! (1 ∷ []) $
      use1 𝓛 (given (T'.lowered d ∷ [] ≡ T'.lowered d ∷ []) (‵ (all_own (T.the_type α).parts (T'.the_laws α) (fields_of α d))))
      (own_open 𝓛 (T.the_type α) (T'.the_laws α) (fields_of α d) (T'.lowered d)) $
      learn ! (λ _. move ! (1 ∷ 0 ∷ []) $ join ! $ frame ! $ done !)
