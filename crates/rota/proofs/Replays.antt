-- A block of draws beside recorded answers: its play up to the first difference, and the outcome. Assumes nothing.
use Rattle.std.specs.Prelude.{Ok, Err}
use mathlib.Core.Path.{◌≡◌, refl, sym, ap, ◌∙◌, subst}
use mathlib.Core.Logic.{⊎_elim}
use mathlib.Core.Bool.{Bool, true, false, cond, ◌&&◌}
use mathlib.Core.List.{List}
use Prim.Native.Nat.{ℕ, zero, suc, ◌+◌, ◌*◌, ◌≤◌, ◌<◌, min}
use native.Mathlib.Numerals.{add-one}
use native.Mathlib.Omega.{arith}
use borrow.Author.Tests.{eq-eqb, ne_eqb, lt-ltb, le-ltb}
use lib.Dec.{leb}
use lib.ListN.{length, get_or, set, take, drop, take-append-drop, get_or-append, get_or-eq_default}
use lib.Seq.{take_all, take-nil, take-append-le, set-get_or, get_or-set_same, length-take-le}
use Rattle.paper.specs.Limits.{test}
use Rattle.paper.specs.declared.Refusal.{Refusal}
use Rattle.paper.specs.Rows.{unless, refusal_of, test_refusal}
use Rattle.paper.specs.Count.{all, onto}
use Rattle.paper.proofs.Logic.{by-test, lt-or-ge}
use Rattle.paper.proofs.Rows.{worked, kept}
use Rattle.paper.proofs.Count.{each_all, all-each}
use Rattle.slotset.proofs.Puts.{Fit}
use Rattle.owners.specs.Derived.{Plan, Derived, afresh}
use Rattle.owners.specs.Entries.{lent_row, recount_row}
use Rattle.owners.specs.Recount.{first_fail}
use Rattle.owners.proofs.Steps.{lengths-kept}
use Rattle.owners.proofs.Scans.{scan-fails, scan-ends}
use Rattle.rota.specs.declared.play.Begun.{Begun}
use Rattle.rota.specs.declared.replay.Replayed.{Replayed}
use Rattle.rota.specs.declared.replay.Replayed.TheVariants as variant
use Rattle.rota.specs.Board.{Board}
use Rattle.rota.specs.Moves.{Draw, draw}
use Rattle.rota.specs.Plays.{owners_after, answers, draws_of}
use Rattle.rota.specs.Stepped.{Stepped, Ran}
use Rattle.rota.specs.Ready.{ready}
use Rattle.rota.specs.Lent.{board_of}
use Rattle.rota.specs.Entries.{play_room_ok, play_row, columns_enough}
use Rattle.rota.specs.Begins.{Begins}
use Rattle.rota.specs.Replays.{agrees_at, agreeing, block_played, answer_ok, replay_row, agrees_up_to, replayed_list, Replays, RanOn}
use Rattle.rota.proofs.Readied.{board-is}
use Rattle.rota.proofs.Plays.{play-length, answers-append, answers-length, draws-length}
use Rattle.rota.proofs.Stepping.{at-answer, columns-more}

-- ---- draws from the front

-- the first i of n draws of three columns
pub take-draws : (ks fs ss : List ℕ) (n i : ℕ) → i ≤ n → take i (draws_of ks fs ss n) ≡ draws_of ks fs ss i
unfolding draws_of
take-draws ks fs ss zero i h =
    let z : i ≡ 0 = omega arith in
    take-nil i ∙ ap (draws_of ks fs ss) (sym z)
take-draws ks fs ss (suc n) i h =
    ⊎_elim
    (λ (l : n < i).
    let z : i ≡ suc n = omega arith in
    take_all i (draws_of ks fs ss (suc n)) (omega (arith, draws-length ks fs ss (suc n))) ∙ ap (draws_of ks fs ss) (sym z))
    (λ (l : i ≤ n).
    take-append-le i (draws_of ks fs ss n) _ (omega (arith, draws-length ks fs ss n)) ∙ take-draws ks fs ss n i l)
    (lt-or-ge n i)

-- what draws from the front are answered doesn't depend on those after them
pub answers-front : (B : Board) (o : List ℕ) (ds : List Draw) (i k : ℕ) → k < i → i ≤ length ds
    → get_or (answers B o ds) k 0 ≡ get_or (answers B o (take i ds)) k 0
answers-front B o ds i k h g =
    ap (λ (l : List Draw). get_or (answers B o l) k 0) (sym (take-append-drop i ds))
    ∙ ap (λ (l : List ℕ). get_or l k 0) (answers-append B o (take i ds) (drop i ds))
    ∙ get_or-append (answers B o (take i ds)) _ 0 k (omega (arith, answers-length B o (take i ds), length-take-le i ds g))

-- ---- the play of a block: while its answers agree, writing them onto the recorded ones changes nothing

-- an answer that was written is the play's
written_at : (P : Plan) (B : Board) (o : List ℕ) (D : Derived) (ks fs ss x : List ℕ) (i : ℕ) (o' : List ℕ) (D' : Derived) (x' : List ℕ)
    → Ran P B o D x (draws_of ks fs ss i) o' D' x' → (n k : ℕ) → k < i → i ≤ n → get_or (answers B o (draws_of ks fs ss n)) k 0 ≡ get_or x' k 0
unfolding onto
written_at P B o D ks fs ss x i o' D' x' R n k h g =
    let a = answers B o (draws_of ks fs ss i) in
    answers-front B o (draws_of ks fs ss n) i k h (omega (arith, draws-length ks fs ss n))
    ∙ ap (λ (l : List Draw). get_or (answers B o l) k 0) (take-draws ks fs ss n i g)
    ∙ sym (get_or-append a _ 0 k (omega (arith, answers-length B o (draws_of ks fs ss i), draws-length ks fs ss i)))
    ∙ ap (λ (l : List ℕ). get_or l k 0) (sym R.answers)

module _ (P : Plan) (B : Board) (o : List ℕ) (D : Derived) (ks fs ss rs : List ℕ) (i : ℕ) (o' : List ℕ) (D' : Derived) where
  module _ (R : Ran P B o D rs (draws_of ks fs ss i) o' D' rs) where
    -- so far all agree
    agree-so-far : (n : ℕ) → i ≤ n → all i (agrees_at B o (draws_of ks fs ss n) rs) ≡ true
    unfolding agrees_at
    agree-so-far n g = each_all i _ (λ k h. eq-eqb _ _ (written_at P B o D ks fs ss rs i o' D' rs R n k h g))

    module _ (few : P.slots ≤ 1024) (room : 16 * P.people ≤ length D.sets) (f : Fit D.sets) (h : i < length rs) (r : ℕ) (o'' :
        List ℕ) (D'' : Derived) (S : Stepped P B o' D' (draw (get_or ks i 0) (get_or fs i 0) (get_or ss i 0)) r o'' D'') where
      next-ran : Ran P B o D rs (draws_of ks fs ss (i + 1)) o'' D'' (set rs i r)
      next-ran = columns-more P B o D rs ks fs ss i o' D' rs R o'' D'' (set rs i r) few room f h (at-answer P B o' D' _ i rs r o'' D'' S)

      -- one more that agrees
      pub agreed-next : r ≡ get_or rs i 0 → Ran P B o D rs (draws_of ks fs ss (i + 1)) o'' D'' rs
      agreed-next e =
          subst (λ (x : List ℕ). Ran P B o D rs (draws_of ks fs ss (i + 1)) o'' D'' x) (ap (set rs i) e ∙ set-get_or rs i 0) next-ran

      -- the first that doesn't
      pub ran-differs : (n : ℕ) → i < n → (r ≡ get_or rs i 0 → ⊥) → RanOn P B o D (draws_of ks fs ss n) rs i o'' D''
      unfolding agreeing agrees_at
      ran-differs n g ne =
          let here : get_or (answers B o (draws_of ks fs ss n)) i 0 ≡ r =
          written_at P B o D ks fs ss rs (i + 1) o'' D'' (set rs i r) next-ran n i (omega arith) (omega arith) ∙ get_or-set_same rs i r 0 h in
          record {
            place =
                scan-fails n i _ g (agree-so-far n (omega arith)) (ne_eqb _ _ (λ q. ne (sym here ∙ q)))
                ∙ ap (λ (m : ℕ). first_fail m (agrees_at B o (draws_of ks fs ss n) rs)) (sym (draws-length ks fs ss n));
            owners =
                next-ran.owners
                ∙ ap (owners_after B o) (ap (draws_of ks fs ss) (add-one i) ∙ sym (take-draws ks fs ss n (suc i) g));
            derived = next-ran.derived;
          }

    -- none differs
    pub ran-agrees : (n : ℕ) → i ≤ n → n ≤ i → RanOn P B o D (draws_of ks fs ss n) rs n o' D'
    unfolding agreeing
    ran-agrees n g l =
        let z : i ≡ n = omega arith in
        record {
          place =
              scan-ends n i _ g l (agree-so-far n g)
              ∙ ap (λ (m : ℕ). first_fail m (agrees_at B o (draws_of ks fs ss n) rs)) (sym (draws-length ks fs ss n));
          owners =
              R.owners
              ∙ ap (owners_after B o) (ap (draws_of ks fs ss) z
              ∙ sym (take_all (suc n) (draws_of ks fs ss n) (omega (arith, draws-length ks fs ss n))));
          derived = R.derived;
        }

-- lengths stay
pub ran-on-lengths : (P : Plan) (B : Board) (o : List ℕ) (D : Derived) (ds : List Draw) (rs : List ℕ) (p : ℕ) (o' : List ℕ) (D' : Derived)
    → RanOn P B o D ds rs p o' D'
    → (length o' ≡ length o) × (length D'.sets ≡ length D.sets) × (length D'.minutes ≡ length D.minutes)
    × (length D'.totals ≡ length D.totals)
ran-on-lengths P B o D ds rs p o' D' W =
    let y = lengths-kept P o' D D' W.derived in
    (ap length W.owners ∙ play-length B o (take (suc p) ds), y.0, y.1, y.2)

-- ---- recorded answers that aren't lent are not at fault

pub answers-past : (count : ℕ) (rs : List ℕ) (i m : ℕ) → m ≡ min count (length rs) → m ≤ i → all i (answer_ok rs) ≡ true → true ≡ all
    count (answer_ok rs)
unfolding answer_ok
answers-past count rs i m e h a =
    sym (each_all count (answer_ok rs) (λ k l.
    ⊎_elim
    (λ (g : k < length rs). all-each i (answer_ok rs) a k (omega arith))
    (λ (g : length rs ≤ k). ap (λ (v : ℕ). leb v 2) (get_or-eq_default rs 0 g))
    (lt-or-ge k (length rs))))

-- ---- the block begun as a play: its room for answers is the recorded ones'

-- where there are too many draws nothing else is looked at
too_many : (P : Plan) (avail : List ℕ) (units : ℕ) (begins o : List ℕ) (D : Derived) (b c : Bool)
    → refusal_of (recount_row false b P avail units begins o D) ≡ refusal_of (recount_row false c P avail units begins o D)
unfolding recount_row lent_row refusal_of
too_many P avail units begins o D b c = refl

-- room for as many answers as may be played is room enough
room-same : (units : ℕ) (begins frozen : List ℕ) (n : ℕ) (enough : Bool) (x rs : List ℕ) → leb n (length x) ≡ true
    → play_room_ok units begins frozen n (enough && leb n (length rs)) x ≡ play_room_ok units begins frozen n enough rs
unfolding play_room_ok
room-same units begins frozen n enough x rs e =
    ap (λ (b : Bool). leb units (length begins) && (leb 16 (length frozen) && b))
    (ap (λ (b : Bool). (enough && leb n (length rs)) && b) e ∙ and_yes (enough && leb n (length rs)))
  where
    and_yes : (b : Bool) → b && true ≡ b
    and_yes true = refl
    and_yes false = refl

module _ (P : Plan) (avail : List ℕ) (units : ℕ) (begins frozen : List ℕ) (n : ℕ) (enough : Bool) (o : List ℕ) (D : Derived) (x rs :
    List ℕ) (long : length x ≡ 1024) where
  row_same : refusal_of (play_row P avail units begins frozen n (enough && leb n (length rs)) o D x) ≡ refusal_of
      (play_row P avail units begins frozen n enough o D rs)
  row_same =
      let row : Bool → Bool → Refusal = λ t b. refusal_of (recount_row t b P avail units begins o D) in
      let one = play_room_ok units begins frozen n (enough && leb n (length rs)) x in
      let other = play_room_ok units begins frozen n enough rs in
      by-test (leb n 1024) _
      (λ t. ap (row (leb n 1024)) (room-same units begins frozen n enough x rs (ap (leb n) long ∙ t)))
      (λ f.
      ap (λ (t : Bool). row t one) f ∙ too_many P avail units begins o D one other ∙ sym (ap (λ (t : Bool). row t other) f))

  begun-block : (b : Begun) (e : Bool) → Begins P avail units begins frozen n e o D x b → e ≡ enough && leb n (length rs)
      → Begins P avail units begins frozen n enough o D rs b
  begun-block b e w q =
      record {
        refusal =
            w.refusal ∙ ap (λ (t : Bool). refusal_of (play_row P avail units begins frozen n t o D x)) q ∙ row_same;
        todo = w.todo;
        fits = w.fits;
        flags = w.flags;
        room = w.room;
        words = w.words;
      }

  -- of draws in three columns
  pub begun-columns : (ks fs ss : List ℕ) → enough ≡ columns_enough n ks fs ss → (b : Begun) (e : Bool)
      → Begins P avail units begins frozen n e o D x b → e ≡ enough && leb n (length rs)
      → Begins P avail units begins frozen n (columns_enough n ks fs ss) o D rs b
  begun-columns ks fs ss q b e w r =
      subst (λ (t : Bool). Begins P avail units begins frozen n t o D rs b) q (begun-block b e w r)

-- ---- the outcome

-- of n draws p agree: the place, or all
pub said-differs : (n p : ℕ) → p < n → variant.Differs p ≡ agrees_up_to n p
unfolding agrees_up_to
said-differs n p h = sym (ap (λ (t : Bool). cond t (variant.Differs p) variant.Agrees) (lt-ltb p n h))

pub said-agrees : (n p : ℕ) → n ≤ p → variant.Agrees ≡ agrees_up_to n p
unfolding agrees_up_to
said-agrees n p h = sym (ap (λ (t : Bool). cond t (variant.Differs p) variant.Agrees) (le-ltb p n h))

module _ (P : Plan) (avail : List ℕ) (units : ℕ) (begins frozen : List ℕ) (n : ℕ) (enough : Bool) (ds : List Draw) (rs o : List ℕ)
    (D : Derived) where
  -- a recorded answer above 2: 13, whatever else is lent
  pub outcome-thirteen : all n (answer_ok rs) ≡ false → Replays (replayed_list P avail units begins frozen n enough ds rs o D)
      (Err (test_refusal (test 13 false))) o D
  unfolding replayed_list replay_row refusal_of unless
  outcome-thirteen k = simp k (record { answer = refl; owners = refl; derived = refl })

  module _ (k : all n (answer_ok rs) ≡ true) (f : Refusal) (e : f ≡ refusal_of (play_row P avail units begins frozen n enough o D rs)) where
    -- else what stands against a play
    same-refusal : f ≡ refusal_of (replay_row P avail units begins frozen n enough rs o D)
    unfolding replay_row refusal_of
    same-refusal = simp k e

    pub outcome-refused : (f.number ≡ 0 → ⊥)
        → Replays (replayed_list P avail units begins frozen n enough ds rs o D) (Err f) o D
    unfolding replayed_list
    outcome-refused z =
        let g = refusal_of (replay_row P avail units begins frozen n enough rs o D) in
        let y : g.number ≡ 0 → ⊥ = λ q. z (ap (λ (h : Refusal). h.number) same-refusal ∙ q) in
        record {
          answer = ap Err same-refusal ∙ sym (kept _ _ _ y);
          owners = sym (kept _ _ _ y);
          derived = sym (kept _ _ _ y);
        }

    pub outcome-ran : f.number ≡ 0 → (p : ℕ) (o' : List ℕ) (D' : Derived)
        → RanOn P (board_of P.people P.slots units avail begins frozen) o D ds rs p o' D'
        → Replays (replayed_list P avail units begins frozen n enough ds rs o D) (Ok (agrees_up_to n p)) o' D'
    unfolding replayed_list block_played
    outcome-ran z p o' D' W =
        let B = board_of P.people P.slots units avail begins frozen in
        let g = refusal_of (replay_row P avail units begins frozen n enough rs o D) in
        let y : g.number ≡ 0 = sym (ap (λ (h : Refusal). h.number) same-refusal) ∙ z in
        let q : o' ≡ owners_after B o (take (suc (agreeing B o ds rs)) ds) =
        W.owners ∙ ap (λ (i : ℕ). owners_after B o (take (suc i) ds)) W.place in
        record {
          answer = ap (λ (i : ℕ). Ok (agrees_up_to n i)) W.place ∙ sym (worked _ _ _ y);
          owners = q ∙ sym (worked _ _ _ y);
          derived = W.derived ∙ ap (λ (l : List ℕ). afresh P l D) q ∙ sym (worked _ _ _ y);
        }

-- ---- a block that has begun

module _ (P : Plan) (avail : List ℕ) (units : ℕ) (begins frozen : List ℕ) (n : ℕ) (enough : Bool) (rs o : List ℕ) (D : Derived) (b : Begun)
    (k : all n (answer_ok rs) ≡ true) (w : Begins P avail units begins frozen n enough o D rs b) (ds : List Draw) where
  pub block_refused : (b.refusal.number ≡ 0 → ⊥)
      → Replays (replayed_list P avail units begins frozen n enough ds rs o D) (Err b.refusal) o D
  block_refused = outcome-refused P avail units begins frozen n enough ds rs o D k b.refusal w.refusal

  module _ (z : b.refusal.number ≡ 0) (p : ℕ) (o' : List ℕ) (D' : Derived)
      (W : RanOn P (ready P.people P.slots units begins b.fits b.flags) o D ds rs p o' D') where
    block-ran : Replays (replayed_list P avail units begins frozen n enough ds rs o D) (Ok (agrees_up_to n p)) o' D'
    block-ran =
        outcome-ran P avail units begins frozen n enough ds rs o D k b.refusal w.refusal z p o' D'
        (subst (λ (B : Board). RanOn P B o D ds rs p o' D')
        (board-is P.people P.slots units avail begins frozen b.fits b.flags (w.fits z) (w.flags z)) W)

    pub block-differs : p < n → Replays (replayed_list P avail units begins frozen n enough ds rs o D) (Ok (variant.Differs p)) o' D'
    block-differs h =
        subst (λ (r : Replayed). Replays (replayed_list P avail units begins frozen n enough ds rs o D) (Ok r) o' D') (sym (said-differs n p h))
        block-ran

    pub block-agrees : n ≤ p → Replays (replayed_list P avail units begins frozen n enough ds rs o D) (Ok variant.Agrees) o' D'
    block-agrees h =
        subst (λ (r : Replayed). Replays (replayed_list P avail units begins frozen n enough ds rs o D) (Ok r) o' D') (sym (said-agrees n p h))
        block-ran
