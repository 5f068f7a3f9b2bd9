-- From a walk to the statement: the machine values of the parameters are written out, and each is of its type. Assumes `Logic`.
use mathlib.Core.List.{List, [], ◌∷◌}
use seplogic.Ra.Ura.{Ura}
use mir.Syntax.{Lifetime, Width}
use mir.Val.{Val}
use base.Logic.{SProp, ent, sep, wand, via, comm∗, mono_l, wand_i, apply∗}
use base.Fml.{Lft}
use types.Logic.{Logic}
use contract.Lifetimes.{Lfts, Shares, AllOutlive}
use contract.Monad.{Fun}
use denote.RattleType.{RattleType, flat, mirs}
use denote.Laws.{Is, Tells, Lawful, Are, Ises, Spells, valss, Tellss, Lawfuls, Typed, all_Typed}
use denote.Plain.{UInt, uint_vals, uint_Tells, uint_Lawful}
use denote.Signature.{types_at}
use denote.Slice.{ShrSlice, MutSlice, shr_slice_vals, mut_slice_vals, shr_slice_Tells, mut_slice_Tells, shr_slice_Lawful, mut_slice_Lawful}
use denote.Steps.{said}
use denote.Triple.Clauses.{Clauses, Ended, closing}
use denote.Triple.Entry.{Args, Vals, on_entry}
use denote.Triple.Spec.{Meets, triple_of}

-- a pair, with no brackets where there are many
infixr 20 ◌&◌
abbrev pub ◌&◌ {α β} : {X : Type α} {Y : Type β} → X → Y → X × Y
x & y = (x, y)

module _ {M : Type 1} {𝓤 : Ura M} (𝓛 : Logic 𝓤) where
  -- a type whose values lie in the machine in one way only
  pub record Known (R : RattleType) : Type 1 where
    pub vals : R.Denot → List Val
    pub tells : Tells R (Is R) vals
    pub lawful : Lawful 𝓛 R

  abbrev pub Knowns : List RattleType → Type 1
  Knowns [] = Unit {1}
  Knowns (R ∷ Rs) = Known R × Knowns Rs

  abbrev pub spells : (Rs : List RattleType) → Knowns Rs → Spells Rs
  spells [] ks = tt
  spells (R ∷ Rs) ks = (ks.0.vals, spells Rs ks.1)

  tellss : (Rs : List RattleType) (ks : Knowns Rs) → Tellss Rs (Ises Rs) (spells Rs ks)
  tellss [] ks = tt
  tellss (R ∷ Rs) ks = (ks.0.tells, tellss Rs ks.1)

  lawfuls : (Rs : List RattleType) → Knowns Rs → Lawfuls 𝓛 Rs
  lawfuls [] ks = tt
  lawfuls (R ∷ Rs) ks = (ks.0.lawful, lawfuls Rs ks.1)

  module _ where
    abbrev pub number : (w : Width) → Known (UInt w)
    number w = record { vals = uint_vals w; tells = uint_Tells w; lawful = uint_Lawful 𝓛 w }

    abbrev pub lent : (ℓ : Lifetime) (κ : Lft) (R : RattleType) → Known (ShrSlice ℓ κ R)
    lent ℓ κ R = record { vals = shr_slice_vals; tells = shr_slice_Tells ℓ κ R; lawful = shr_slice_Lawful 𝓛 ℓ κ R }

    abbrev pub lent_mut : (ℓ : Lifetime) (κ : Lft) (R : RattleType) → Known (MutSlice ℓ κ R)
    lent_mut ℓ κ R = record { vals = mut_slice_vals; tells = mut_slice_Tells ℓ κ R; lawful = mut_slice_Lawful 𝓛 ℓ κ R }

  -- a function's types are known: a walk from the values written out is enough
  module _ (T : Ended) (c : Clauses 𝓤 T) (known : (κs : Lfts T.signature.lifetimes) → Knowns (types_at T.signature.params κs)) where
    abbrev pub values_of : (κs : Lfts T.signature.lifetimes) → Args T.signature κs → Vals T.signature κs
    values_of κs a = valss (types_at T.signature.params κs) (spells (types_at T.signature.params κs) (known κs)) a

    abbrev pub row_of : (κs : Lfts T.signature.lifetimes) → Args T.signature κs → List Val
    row_of κs a = flat (types_at T.signature.params κs) (values_of κs a)

    pub meets-by : (run : Fun 𝓤)
        → ((κs : Lfts T.signature.lifetimes) (qs : Shares T.signature.lifetimes)
        (bounds : AllOutlive T.signature.lifetimes T.signature.outlives κs) (a : Args T.signature κs) (g : (c κs a).ghost)
        → Are (types_at T.signature.params κs) (Ises (types_at T.signature.params κs)) a (values_of κs a)
        → Typed (mirs (types_at T.signature.params κs)) (row_of κs a)
        → ent 𝓤 (sep 𝓤 (on_entry 𝓛 T.signature κs qs a (values_of κs a)) ((c κs a).requires g))
        (run (row_of κs a) ((triple_of 𝓛 T.signature (closing 𝓛 T c)).post ((κs, qs, bounds, a, values_of κs a), g))))
        → Meets 𝓛 T.signature run (closing 𝓛 T c)
    meets-by run walk y =
        let κs : Lfts T.signature.lifetimes = y.0.0 in
        let Rs : List RattleType = types_at T.signature.params κs in
        let R : SProp 𝓤 = (c κs y.0.3).requires y.1 in
        let Q : Vals T.signature κs → SProp 𝓤 = λ us. run (flat Rs us)
        ((triple_of 𝓛 T.signature (closing 𝓛 T c)).post ((κs, y.0.1, y.0.2, y.0.3, us), y.1)) in
        via 𝓤 (sep 𝓤 R (wand 𝓤 R (Q y.0.4)))
        (via 𝓤 (sep 𝓤 (wand 𝓤 R (Q y.0.4)) R)
        (mono_l 𝓤 R (said 𝓛 T.signature κs y.0.1 (spells Rs (known κs)) (tellss Rs (known κs)) y.0.3 (λ us. wand 𝓤 R (Q us))
        y.0.4 (λ are. wand_i 𝓤 _ R _
        (walk κs y.0.1 y.0.2 y.0.3 y.1 are
        (all_Typed 𝓛 Rs (lawfuls Rs (known κs)) y.0.3 (values_of κs y.0.3) are)))))
        (comm∗ 𝓤 (wand 𝓤 R (Q y.0.4)) R))
        (apply∗ 𝓤 R (Q y.0.4))
