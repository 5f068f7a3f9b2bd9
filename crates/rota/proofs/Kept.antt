-- What an act keeps: a lawful move leaves the units even and manned, frozen ones as they were, and no slot uncovered. Assumes nothing.
use mathlib.Core.Path.{◌≡◌, refl, sym, ap, ap₂, ◌∙◌}
use mathlib.Core.Bool.{Bool, true, false}
use mathlib.Core.List.{List}
use mathlib.Core.Logic.{◌⊎◌, inl, inr, ⊎_elim}
use Prim.Native.Nat.{ℕ, ◌-◌, ◌≤◌, ◌<◌}
use native.Mathlib.Omega.{arith}
use lib.ListN.{length, get_or}
use Rattle.paper.specs.Limits.{nobody}
use Rattle.paper.specs.Count.{fill}
use Rattle.paper.proofs.Logic.{lt-or-ge}
use Rattle.paper.proofs.Count.{length-fill, get_d-fill-in, get_d-fill-out}
use Rattle.rota.specs.declared.Move.{Move}
use Rattle.rota.specs.declared.Move.TheVariants.{Stay, Give, Trade}
use Rattle.rota.specs.Board.{Board, BoardSound, InUnit, Even, owner_of}
use Rattle.rota.specs.Moves.{answer_of, act}
use Rattle.rota.proofs.Lawful.{Stretch, Lawful}

-- by whether u lies from first to last
in-or-out {ℓ} : (X : Type ℓ) (first last u : ℕ) → (first ≤ u → u ≤ last → X) → ((u < first) ⊎ (last < u) → X) → X
in-or-out X first last u f g =
    ⊎_elim (λ (h : u < first). g (inl h))
    (λ (h : first ≤ u). ⊎_elim (λ (l : last < u). g (inr l)) (λ (l : u ≤ last). f h l) (lt-or-ge last u))
    (lt-or-ge u first)

in-or-not {ℓ} : (X : Type ℓ) (first last u : ℕ) → (first ≤ u → u ≤ last → X) → ((first ≤ u → u ≤ last → ⊥) → X) → X
in-or-not X first last u f g =
    in-or-out X first last u f
    (λ z. g (λ h l. ⊎_elim (λ (a : u < first). omega arith) (λ (b : last < u). omega arith) z))

module _ (B : Board) (T : BoardSound B) where
  pub from-rises : (u v : ℕ) → u ≤ v → v < B.units → B.from u ≤ B.from v
  from-rises u v h g =
      ⊎_elim (λ (l : u < v). omega (arith, T.rising u (omega arith), T.apart u v l g))
      (λ (l : v ≤ u). let e : u ≡ v = omega arith in omega (arith, ap B.from e)) (lt-or-ge u v)

  pub upto-rises : (u v : ℕ) → u ≤ v → v < B.units → B.upto u ≤ B.upto v
  upto-rises u v h g =
      ⊎_elim (λ (l : u < v). omega (arith, T.rising v g, T.apart u v l g))
      (λ (l : v ≤ u). let e : u ≡ v = omega arith in omega (arith, ap B.upto e)) (lt-or-ge u v)

  pub first_slot : (u : ℕ) → u < B.units → InUnit B u (B.from u)
  first_slot u h = record { below = h; from = omega arith; upto = T.rising u h }

  -- units first to last go to person p: each of their slots has p, any other slot has the owner it had
  module _ (first last p : ℕ) (rise : first ≤ last) (below : last < B.units) (o : List ℕ) (u k : ℕ) (I : InUnit B u k) where
    abbrev given : List ℕ
    given = fill p (B.from first) (B.upto last - B.from first) o

    pub given-in : k < length o → first ≤ u → u ≤ last → get_or given k 0 ≡ p
    given-in r h g =
        let x = from-rises first u h I.below in
        get_d-fill-in p (B.from first) (B.upto last - B.from first) o k (omega (arith, I.from))
        (omega (arith, I.from, I.upto, upto-rises u last g below)) r

    pub given_out : (first ≤ u → u ≤ last → ⊥) → get_or given k 0 ≡ get_or o k 0
    given_out n =
        get_d-fill-out p (B.from first) (B.upto last - B.from first) o k
        (λ x y. in-or-out ⊥ first last u n
        (⊎_elim (λ (l : u < first). let q = T.apart u first l (omega arith) in omega (arith, I.upto))
        (λ (l : last < u).
        let q = T.apart last u l I.below in
        let z = from-rises first last rise below in
        omega (arith, T.rising last below, I.from))))

  module _ (w : List ℕ) (H : ℕ → Bool) (a e p : ℕ) (S : Stretch B w H a e p) (o : List ℕ) where
    same-fill : fill p (B.from S.first) (B.upto S.last - B.from S.first) o ≡ fill p a (e - a) o
    same-fill = ap₂ (λ (x y : ℕ). fill p x (y - x) o) (sym S.starts) (sym S.ends)

    -- a slot of a unit in the stretch has person p, any other has the owner it had
    inside : (u k : ℕ) → InUnit B u k → k < length o → S.first ≤ u → u ≤ S.last → get_or (fill p a (e - a) o) k 0 ≡ p
    inside u k I r h g =
        ap (λ (l : List ℕ). get_or l k 0) (sym same-fill) ∙ given-in S.first S.last p S.rise S.below o u k I r h g

    pub outside : (u k : ℕ) → InUnit B u k → (S.first ≤ u → u ≤ S.last → ⊥) → get_or (fill p a (e - a) o) k 0 ≡ get_or o k 0
    outside u k I n =
        ap (λ (l : List ℕ). get_or l k 0) (sym same-fill) ∙ given_out S.first S.last p S.rise S.below o u k I n

    -- what lies past the slots stays
    past : (k : ℕ) → B.slots ≤ k → get_or (fill p a (e - a) o) k 0 ≡ get_or o k 0
    past k h = get_d-fill-out p a (e - a) o k (λ x y. omega (arith, S.ends, T.within S.last S.below))

    fill-even : Even B o → Even B (fill p a (e - a) o)
    unfolding owner_of
    fill-even E =
        let o' = fill p a (e - a) o in
        let room : (k u : ℕ) → InUnit B u k → k < length o = λ k u I. omega (arith, E.room, T.within u I.below, I.upto) in
        record {
          room = omega (arith, E.room, length-fill p a (e - a) o);
          same = λ u k I.
              let J = first_slot u I.below in
              in-or-not (get_or o' k 0 ≡ get_or o' (B.from u) 0) S.first S.last u
              (λ h g. inside u k I (room k u I) h g ∙ sym (inside u (B.from u) J (room (B.from u) u J) h g))
              (λ z. outside u k I z ∙ E.same u k I ∙ sym (outside u (B.from u) J z));
          manned = λ u b n.
              let J = first_slot u b in
              in-or-not ((get_or o' (B.from u) 0 < B.people) × (B.fits (get_or o' (B.from u) 0) u ≡ true)) S.first S.last u
              (λ h g.
              let q = inside u (B.from u) J (room (B.from u) u J) h g in
              (omega (arith, q, S.person), ap (λ (w : ℕ). B.fits w u) q ∙ S.able u h g))
              (λ z.
              let q = outside u (B.from u) J z in
              let m = E.manned u b (λ e. n (q ∙ e)) in
              (omega (arith, q, m.0), ap (λ (w : ℕ). B.fits w u) q ∙ m.1));
        }

    -- a covered slot stays covered
    fill-covered : Even B o → (u k : ℕ) → InUnit B u k → (get_or o k 0 ≡ nobody → ⊥) → get_or (fill p a (e - a) o) k 0 ≡ nobody → ⊥
    fill-covered E u k I n q =
        in-or-not ⊥ S.first S.last u
        (λ h g. omega (arith, q, inside u k I (omega (arith, E.room, T.within u I.below, I.upto)) h g, S.person, T.few))
        (λ z. n (sym (outside u k I z) ∙ q))

  module _ (H : ℕ → Bool) (o : List ℕ) (E : Even B o) where
    pub act-even : (m : Move) → Lawful B o H m → Even B (act m o)
    act-even (Stay n) L = E
    act-even (Give a e p) L = fill-even o H a e p L o E
    act-even (Trade a e p c g q) L = fill-even o H c g q L.right (fill p a (e - a) o) (fill-even o H a e p L.left o E)

    pub act-covered : (m : Move) → Lawful B o H m → (u k : ℕ) → InUnit B u k → (get_or o k 0 ≡ nobody → ⊥) → get_or (act m o) k 0 ≡ nobody → ⊥
    act-covered (Stay n) L u k I z = z
    act-covered (Give a e p) L u k I z = fill-covered o H a e p L o E u k I z
    act-covered (Trade a e p c g q) L u k I z =
        fill-covered o H c g q L.right (fill p a (e - a) o) (fill-even o H a e p L.left o E) u k I (fill-covered o H a e p L.left o E u k I z)

    -- a slot of a frozen unit keeps its owner
    pub act-frozen : (m : Move) → Lawful B o H m → (u k : ℕ) → InUnit B u k → B.frozen u ≡ true → get_or (act m o) k 0 ≡ get_or o k 0
    act-frozen (Stay n) L u k I z = refl
    act-frozen (Give a e p) L u k I z = outside o H a e p L o u k I (λ h g. mathlib.Core.Bool.true≢false (sym z ∙ L.clear u h g))
    act-frozen (Trade a e p c g q) L u k I z =
        outside o H c g q L.right (fill p a (e - a) o) u k I (λ h g. mathlib.Core.Bool.true≢false (sym z ∙ L.right.clear u h g))
        ∙ outside o H a e p L.left o u k I (λ h g. mathlib.Core.Bool.true≢false (sym z ∙ L.left.clear u h g))

    -- a slot of a unit that is not handed over keeps its owner
    pub act-only : (m : Move) → Lawful B o H m → (u k : ℕ) → InUnit B u k → (answer_of m ≡ 0 → H u ≡ false) → get_or (act m o) k 0 ≡
        get_or o k 0
    act-only (Stay n) L u k I z = refl
    act-only (Give a e p) L u k I z = outside o H a e p L o u k I (λ h g. mathlib.Core.Bool.true≢false (sym (L.named u h g) ∙ z refl))
    act-only (Trade a e p c g q) L u k I z =
        outside o H c g q L.right (fill p a (e - a) o) u k I (λ h b. mathlib.Core.Bool.true≢false (sym (L.right.named u h b) ∙
        z refl))
        ∙ outside o H a e p L.left o u k I (λ h b. mathlib.Core.Bool.true≢false (sym (L.left.named u h b) ∙ z refl))

    -- what lies past the slots stays
    pub act-past : (m : Move) → Lawful B o H m → (k : ℕ) → B.slots ≤ k → get_or (act m o) k 0 ≡ get_or o k 0
    act-past (Stay n) L k h = refl
    act-past (Give a e p) L k h = past o H a e p L o k h
    act-past (Trade a e p c g q) L k h = past o H c g q L.right (fill p a (e - a) o) k h ∙ past o H a e p L.left o k h
