-- One draw and a list of draws, done on the lent columns. Assumes nothing.
use mathlib.Core.Path.{◌≡◌, refl, sym, ap, ap₂, ◌∙◌, subst}
use mathlib.Core.Logic.{⊎_elim}
use mathlib.Core.Bool.{Bool, true}
use mathlib.Core.List.{List, [], ◌∷◌, ◌++◌}
use Prim.Native.Nat.{ℕ, ◌+◌, ◌-◌, ◌*◌, ◌≤◌, ◌<◌}
use native.Mathlib.Omega.{arith}
use lib.ListN.{length, get_or, set}
use Rattle.paper.specs.Count.{fill, onto}
use Rattle.paper.proofs.Logic.{lt-or-ge}
use Rattle.paper.proofs.Count.{length-fill, length-onto, onto-more}
use Rattle.slotset.proofs.Puts.{Fit}
use Rattle.rota.specs.declared.Move.{Move}
use Rattle.rota.specs.declared.Move.TheVariants.{Stay, Give, Trade}
use Rattle.rota.specs.Board.{Board, BoardSound, InUnit, Even, owner_of}
use Rattle.rota.specs.Moves.{Draw, draw, decided, answer_of, act, handed}
use Rattle.rota.specs.Plays.{step, answer, owners_after, answers, draws_of}
use Rattle.owners.specs.Derived.{Plan, known_by, Derived, afresh}
use Rattle.owners.specs.Inside.{InStep, HandedOver, OneOwner}
use Rattle.rota.specs.Stepped.{Stepped, SteppedAt, Ran}
use Rattle.owners.proofs.Minutes.{known-person}
use Rattle.rota.proofs.Lawful.{Stretch, Traded, Lawful, decided-lawful}
use Rattle.rota.proofs.Kept.{upto-rises, outside}
use Rattle.rota.proofs.Plays.{play-length, play-even, owners-append, answers-append, answers-length, draws-length, draws-next}
use Rattle.owners.proofs.Steps.{afresh-again, afresh-same, lengths-kept}

-- ---- a lawful stretch has one owner

module _ (B : Board) (T : BoardSound B) (o : List ℕ) (E : Even B o) (H : ℕ → Bool) where
  module _ (a e p : ℕ) (S : Stretch B o H a e p) where
    -- the unit of a slot of the stretch is one of its units
    in-stretch : (k : ℕ) → a ≤ k → k < e → (u : ℕ) × (InUnit B u k × (S.first ≤ u) × (u ≤ S.last))
    in-stretch k x y =
        let w = T.whole k (omega (arith, S.ends, T.within S.last S.below)) in
        let u = w.0 in
        let hu = w.1 in
        let fu = w.2 in
        let tu = w.3 in
        let lo : S.first ≤ u = ⊎_elim
        (λ (l : u < S.first). let q = T.apart u S.first l (omega (arith, S.rise, S.below)) in absurd (omega (arith, S.starts)))
        (λ (l : S.first ≤ u). l) (lt-or-ge u S.first) in
        let hi : u ≤ S.last = ⊎_elim
        (λ (l : S.last < u). let q = T.apart S.last u l hu in absurd (omega (arith, S.ends)))
        (λ (l : u ≤ S.last). l) (lt-or-ge S.last u) in
        (u, (record { below = hu; from = fu; upto = tu }, lo, hi))

    owner-in : (k : ℕ) → a ≤ k → k < e → get_or o k 0 ≡ owner_of B o S.first
    owner-in k x y = let w = in-stretch k x y in E.same w.0 k w.1.0 ∙ S.one w.0 w.1.1 w.1.2

    some : a < e
    some = omega (
      arith,
      S.starts,
      S.ends,
      T.rising S.first (omega (arith, S.rise, S.below)),
      upto-rises B T S.first S.last S.rise S.below,
    )

    pub stretch-one : OneOwner o B.slots a e
    stretch-one =
        record {
          some = some;
          within = omega (arith, S.ends, T.within S.last S.below);
          each = λ k x y. owner-in k x y ∙ sym (owner-in a (omega arith) some);
        }

    pub stretch-known : known_by B.people p ≡ true
    stretch-known = known-person B.people p S.person

  -- the second stretch of a trade still has one owner after the first has gone
  module _ (a e p c g q : ℕ) (X : Traded B o H a e p c g q) where
    second-in : (k : ℕ) → c ≤ k → k < g → get_or (fill p a (e - a) o) k 0 ≡ get_or o k 0
    second-in k x y =
        let w = in-stretch c g q X.right k x y in
        outside B T o H a e p X.left o w.0 k w.1.0 (λ h l. X.apart w.0 h l w.1.1 w.1.2)

    pub second-one : OneOwner (fill p a (e - a) o) B.slots c g
    second-one =
        let O = stretch-one c g q X.right in
        record {
          some = O.some;
          within = O.within;
          each = λ k x y. second-in k x y ∙ O.each k x y ∙ sym (second-in c (omega arith) O.some);
        }

    pub second-after : (l : List ℕ) → l ≡ fill p a (e - a) o → OneOwner l B.slots c g
    second-after l z = subst (λ (x : List ℕ). OneOwner x B.slots c g) (sym z) second-one

-- lengths stay
pub over-lengths : (P : Plan) (o : List ℕ) (D : Derived) (a e w : ℕ) (o' : List ℕ) (D' : Derived) → HandedOver P o D a e w o' D'
    → (length o' ≡ length o) × (length D'.sets ≡ length D.sets) × (length D'.minutes ≡ length D.minutes)
    × (length D'.totals ≡ length D.totals)
over-lengths P o D a e w o' D' O =
    let y = lengths-kept P o' D D' O.derived in
    (ap length O.owners ∙ length-fill w a (e - a) o, y.0, y.1, y.2)

-- ---- one draw

module _ (P : Plan) (B : Board) (o : List ℕ) (D : Derived) (d : Draw) (r : Move) (er : r ≡ decided B o d) where
  pub drawn-lawful : Even B o → (m : Move) → r ≡ m → Lawful B o (handed B o d) m
  drawn-lawful E m q = subst (λ (x : Move). Lawful B o (handed B o d) x) (sym er ∙ q) (decided-lawful B o d E)

  pub stepped-stay : (n : ℕ) → r ≡ Stay n → P.slots ≤ 1024 → Fit D.sets → InStep P o D → Stepped P B o D d n o D
  unfolding answer step
  stepped-stay n q few f J =
      record {
        answer = ap answer_of (sym q ∙ er);
        owners = ap (λ (m : Move). act m o) (sym q ∙ er);
        derived = afresh-same P o D few f J;
        in_step = J;
      }

  pub stepped-give : (a e p : ℕ) (o' : List ℕ) (D' : Derived) → r ≡ Give a e p → HandedOver P o D a e p o' D' → Stepped P B o D d 0 o' D'
  unfolding answer step
  stepped-give a e p o' D' q O =
      record {
        answer = ap answer_of (sym q ∙ er);
        owners = O.owners ∙ ap (λ (m : Move). act m o) (sym q ∙ er);
        derived = O.derived;
        in_step = O.step;
      }

  pub stepped-trade : (a e p c g q : ℕ) (o₁ o₂ : List ℕ) (D₁ D₂ : Derived) → P.slots ≤ 1024 → 16 * P.people ≤ length D.sets →
      Fit D.sets
      → r ≡ Trade a e p c g q → HandedOver P o D a e p o₁ D₁ → HandedOver P o₁ D₁ c g q o₂ D₂ → Stepped P B o D d 0 o₂ D₂
  unfolding answer step
  stepped-trade a e p c g q o₁ o₂ D₁ D₂ few room f z F G =
      record {
        answer = ap answer_of (sym z ∙ er);
        owners = G.owners ∙ ap (fill q c (g - c)) F.owners ∙ ap (λ (m : Move). act m o) (sym z ∙ er);
        derived = G.derived ∙ ap (afresh P o₂) F.derived ∙ afresh-again P o₁ o₂ D few room f;
        in_step = G.step;
      }

-- the same, with its answer at i of a list
pub at-answer : (P : Plan) (B : Board) (o : List ℕ) (D : Derived) (d : Draw) (i : ℕ) (x : List ℕ) (r : ℕ) (o' : List ℕ) (D' : Derived)
    → Stepped P B o D d r o' D' → SteppedAt P B o D d i x o' D' (set x i r)
at-answer P B o D d i x r o' D' S =
    record {
      stepped = subst (λ (k : ℕ). Stepped P B o D d k o' D') S.answer S;
      answers = ap (set x i) S.answer;
    }

-- ---- a list of draws

pub ran-start : (P : Plan) (B : Board) (o : List ℕ) (D : Derived) (x : List ℕ) → P.slots ≤ 1024 → Fit D.sets → InStep P o D
    → Ran P B o D x [] o D x
unfolding owners_after answers onto
ran-start P B o D x few f J = record { owners = refl; derived = afresh-same P o D few f J; answers = refl; in_step = J }

module _ (P : Plan) (B : Board) (o : List ℕ) (D : Derived) (x : List ℕ) (ds : List Draw) (o' : List ℕ) (D' : Derived) (x' : List ℕ)
    (R : Ran P B o D x ds o' D' x') where
  pub ran-even : BoardSound B → Even B o → Even B o'
  ran-even T E = subst (Even B) (sym R.owners) (play-even B T o ds E)

  pub ran-owners : length o' ≡ length o
  ran-owners = ap length R.owners ∙ play-length B o ds

  pub ran-answers : length ds ≤ length x → length x' ≡ length x
  ran-answers h = ap length R.answers ∙ length-onto (answers B o ds) x (omega (arith, answers-length B o ds))

  pub ran-lengths : (length D'.sets ≡ length D.sets) × (length D'.minutes ≡ length D.minutes)
      × (length D'.totals ≡ length D.totals)
  ran-lengths = lengths-kept P o' D D' R.derived

  pub ran-more : (i : ℕ) → length ds ≡ i → (d : Draw) (o'' : List ℕ) (D'' : Derived) (x'' : List ℕ) → P.slots ≤ 1024
      → 16 * P.people ≤ length D.sets → Fit D.sets → i < length x → SteppedAt P B o' D' d i x' o'' D'' x''
      → Ran P B o D x (ds ++ (d ∷ [])) o'' D'' x''
  unfolding owners_after answers
  ran-more i e d o'' D'' x'' few room f h S =
      let l = answers B o ds in
      let so_far : length l ≡ i = answers-length B o ds ∙ e in
      record {
        owners =
            S.stepped.owners ∙ ap (λ (z : List ℕ). step B z d) R.owners ∙ one-step B (owners_after B o ds) d
            ∙ sym (owners-append B o ds (d ∷ []));
        derived = S.stepped.derived ∙ ap (afresh P o'') R.derived ∙ afresh-again P o' o'' D few room f;
        answers =
            S.answers ∙ ap₂ (λ (z : List ℕ) (c : ℕ). set z i c) R.answers (ap (λ (z : List ℕ). answer B z d) R.owners)
            ∙ ap (λ (j : ℕ). set (onto l x) j (answer B (owners_after B o ds) d)) (sym so_far)
            ∙ onto-more l x (answer B (owners_after B o ds) d) (omega (arith, so_far))
            ∙ ap (λ (z : List ℕ). onto z x) (ap (λ (z : List ℕ). l ++ z) (one_answer B (owners_after B o ds) d) ∙ sym
            (answers-append B o ds (d ∷ [])));
        in_step = S.stepped.in_step;
      }
    where
      one-step : (B : Board) (o : List ℕ) (d : Draw) → step B o d ≡ owners_after B o (d ∷ [])
      one-step B o d = refl

      one_answer : (B : Board) (o : List ℕ) (d : Draw) → answer B o d ∷ [] ≡ answers B o (d ∷ [])
      one_answer B o d = refl

-- the draws of three columns
module _ (P : Plan) (B : Board) (o : List ℕ) (D : Derived) (x ks fs ss : List ℕ) (i : ℕ) (o' : List ℕ) (D' : Derived) (x' : List ℕ)
    (R : Ran P B o D x (draws_of ks fs ss i) o' D' x') where
  pub columns-answers : i ≤ length x → length x' ≡ length x
  columns-answers h = ran-answers P B o D x (draws_of ks fs ss i) o' D' x' R (omega (arith, draws-length ks fs ss i))

  pub columns-more : (o'' : List ℕ) (D'' : Derived) (x'' : List ℕ) → P.slots ≤ 1024 → 16 * P.people ≤ length D.sets → Fit D.sets
      → i < length x → SteppedAt P B o' D' (draw (get_or ks i 0) (get_or fs i 0) (get_or ss i 0)) i x' o'' D'' x''
      → Ran P B o D x (draws_of ks fs ss (i + 1)) o'' D'' x''
  columns-more o'' D'' x'' few room f h S =
      subst (λ (ds : List Draw). Ran P B o D x ds o'' D'' x'') (sym (draws-next ks fs ss i))
      (ran-more P B o D x (draws_of ks fs ss i) o' D' x' R i (draws-length ks fs ss i) _ o'' D'' x'' few room f h S)

  pub columns-end : (n : ℕ) → i ≡ n → Ran P B o D x (draws_of ks fs ss n) o' D' x'
  columns-end n q = subst (λ (j : ℕ). Ran P B o D x (draws_of ks fs ss j) o' D' x') q R
