-- A play of a lent list of draws, over plain values: it begins, goes on draw by draw, and ends. Assumes nothing.
use mathlib.Core.Path.{◌≡◌, refl, sym, ap, subst, ◌∙◌}
use mathlib.Core.Bool.{cond}
use mathlib.Core.List.{List, map}
use Prim.Native.Nat.{ℕ, ◌+◌, ◌≤◌, ◌<◌}
use native.Mathlib.Numerals.{add-one}
use native.Mathlib.Omega.{arith}
use borrow.Author.Tests.{eq-eqb, eqb-true, eqb-false, leb-true}
use lib.Dec.{eqb, leb}
use lib.ListN.{length, take, length-map}
use lib.Seq.{length-take-le}
use Rattle.paper.specs.Rows.{unless}
use Rattle.paper.proofs.Logic.{by-test}
use Rattle.owners.specs.Derived.{Plan, Derived}
use Rattle.owners.specs.Entries.{Ended}
use Rattle.rota.specs.declared.draws.Draw as struct
use Rattle.rota.specs.declared.play.Begun.{Begun}
use Rattle.rota.specs.Board.{Board}
use Rattle.rota.specs.Moves.{Draw}
use Rattle.rota.specs.Ready.{ready}
use Rattle.rota.specs.Stepped.{StepAsks, SteppedAt, Ran}
use Rattle.rota.specs.Begins.{Begins}
use Rattle.rota.specs.Draws.{numbers, draw_at, played_draws}
use Rattle.rota.proofs.Alike.{draws-suc}
use Rattle.rota.proofs.Stepping.{ran-start, ran-even, ran-answers, ran-more}
use Rattle.rota.proofs.Entered.{PlayAsks, asks-step}
use Rattle.rota.proofs.Beginning.{begun-asks, begun-board, begun-even, begun-room, begun-yes, begun-refused}

module _ (P : Plan) (avail : List ℕ) (units : ℕ) (begins frozen : List ℕ) (n : ℕ) (o : List ℕ) (D : Derived) (x : List ℕ)
    (ds : List struct.Draw) (b : Begun) (w : Begins P avail units begins frozen n (leb n (length ds)) o D x b) where
  abbrev B : Board
  B = ready P.people P.slots units begins b.fits b.flags

  abbrev first : ℕ → List Draw
  first i = map numbers (take i ds)

  asks : b.refusal.number ≡ 0 → PlayAsks P avail units begins frozen n (leb n (length ds)) o D x
  asks = begun-asks P avail units begins frozen n (leb n (length ds)) o D x b w

  todo-all : b.refusal.number ≡ 0 → b.todo ≡ n
  unfolding unless
  todo-all z = w.todo ∙ ap (λ t. cond t n 0) (eq-eqb b.refusal.number 0 z)

  listed : b.refusal.number ≡ 0 → n ≤ length ds
  listed z = leb-true n (length ds) (asks z).right.draws

  -- a draw is to be played: nothing stands against the play
  goes : (i : ℕ) → i < b.todo → b.refusal.number ≡ 0
  unfolding unless
  goes i h =
      by-test (eqb b.refusal.number 0) _ (eqb-true b.refusal.number 0)
      (λ f. let e : b.todo ≡ 0 = w.todo ∙ ap (λ t. cond t n 0) f in absurd (omega (arith, e, h)))

  -- while i draws are played
  pub record Playing (i : ℕ) (o' : List ℕ) (D' : Derived) (x' : List ℕ) : Type 0 where
    pub within : i ≤ b.todo
    pub going : b.refusal.number ≡ 0 → Ran P B o D x (first i) o' D' x'
    pub still : (b.refusal.number ≡ 0 → ⊥) → (o' ≡ o) × ((D' ≡ D) × (x' ≡ x))

  pub playing-starts : Playing 0 o D x
  playing-starts =
      record {
        within = omega arith;
        going = λ z.
            ran-start P B o D x (asks z).right.on.sound.slots-few w.words (asks-step _ _ _ _ _ _ _ _ _ _ (asks z));
        still = λ _. (refl, (refl, refl));
      }

  module _ (i : ℕ) (o' : List ℕ) (D' : Derived) (x' : List ℕ) (p : Playing i o' D' x') where
    played-so-far : b.refusal.number ≡ 0 → length (first i) ≡ i
    played-so-far z =
        length-map (take i ds) numbers ∙ length-take-le i ds (omega (arith, p.within, todo-all z, listed z))

    -- the next draw is in the list, and has what it asks
    pub next-within : i < b.todo → i < length ds
    next-within h = let z = goes i h in omega (arith, h, todo-all z, listed z)

    pub next-asks : i < b.todo → StepAsks P B o' D' begins b.fits b.flags i x'
    next-asks h =
        let z = goes i h in
        let R = p.going z in
        let room = (asks z).right.answers in
        let board = begun-board P avail units begins frozen n _ o D x b w z in
        let l = ran-answers _ _ _ _ _ _ _ _ _ R (omega (arith, room, todo-all z, h, played-so-far z)) in
        record {
          sound = (asks z).right.on.sound;
          in_step = R.in_step;
          board = board;
          even = ran-even _ _ _ _ _ _ _ _ _ R board (begun-even P avail units begins frozen n _ o D x b w z);
          room = begun-room P avail units begins frozen n _ o D x b w z;
          answers = omega (arith, room, todo-all z, h, l);
        }

    pub playing-more : i < b.todo → (o'' : List ℕ) (D'' : Derived) (x'' : List ℕ)
        → SteppedAt P B o' D' (numbers (draw_at ds i)) i x' o'' D'' x'' → Playing (i + 1) o'' D'' x''
    playing-more h o'' D'' x'' S =
        record {
          within = omega (arith, h);
          going = λ z.
              let G = (asks z).right in
              subst (λ (l : List Draw). Ran P B o D x l o'' D'' x'')
              (sym (ap first (add-one i) ∙ draws-suc ds i (next-within h)))
              (ran-more P B o D x (first i) o' D' x' (p.going z) i (played-so-far z) (numbers (draw_at ds i)) o'' D'' x''
              G.on.sound.slots-few G.on.room.sets-room w.words (omega (arith, G.answers, todo-all z, h)) S);
          still = λ q. absurd (q (goes i h));
        }

    pub playing-ends : i ≡ b.todo → Ended (played_draws P avail units begins frozen n ds o D x) b.refusal o' D' x'
    playing-ends e =
        by-test (eqb b.refusal.number 0) _
        (λ t.
        let z = eqb-true b.refusal.number 0 t in
        begun-yes P avail units begins frozen n _ o D x b w z (first n) o' D' x'
        (subst (λ (j : ℕ). Ran P B o D x (first j) o' D' x') (e ∙ todo-all z) (p.going z)))
        (λ f.
        let z = eqb-false b.refusal.number 0 f in
        let q = p.still z in
        let y = begun-refused P avail units begins frozen n _ o D x b w z (first n) in
        record { refusal = y.refusal; owners = q.0 ∙ y.owners; derived = q.1.0 ∙ y.derived; answers = q.1.1 ∙ y.answers })
