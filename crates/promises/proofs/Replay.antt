-- A replay of recorded blocks, by the laws of rota: demand 3 of all draws so far is cited, none of it is proved again. Assumes nothing.
use Rattle.std.specs.Prelude.{Result, Ok, Err}
use mathlib.Core.Path.{◌≡◌, refl, sym, ap, ap₂, subst, ◌∙◌}
use mathlib.Core.Bool.{Bool, true, false, cond, ◌&&◌, ◌||◌}
use mathlib.Core.List.{List, [], ◌∷◌, ◌++◌}
use mathlib.Core.Logic.{⊎_elim}
use Prim.Native.Nat.{ℕ, zero, suc, ◌+◌, ◌-◌, ◌≤◌, ◌<◌}
use native.Mathlib.Omega.{arith}
use borrow.Author.Tests.{eq-eqb, ne_eqb, eqb-true, eqb-false, lt-ltb, le-ltb, le-leb}
use lib.Dec.{eqb}
use lib.ListN.{length, get_or, take, drop, get_or-append}
use lib.Seq.{take_all, take_at, drop_at, get_or-take, get_or-append-add, length-take-le, ext_get_or}
use Rattle.paper.specs.Limits.{number_of}
use Rattle.paper.specs.declared.Refusal.{Refusal}
use Rattle.paper.specs.Rows.{refusal_of}
use Rattle.paper.specs.Count.{all}
use Rattle.paper.proofs.Logic.{by-test, lt-or-ge, cond-zero}
use Rattle.paper.proofs.Rows.{worked, kept, said}
use Rattle.paper.proofs.Count.{each_all}
use Rattle.units.specs.Units.{unit_of}
use Rattle.owners.specs.Derived.{Derived, known_by, afresh}
use Rattle.owners.specs.Recount.{available_for, recounts}
use Rattle.owners.specs.Entries as state
use Rattle.owners.proofs.Scans.{first-is, first-only, fails-none}
use Rattle.owners.proofs.Steps.{afresh-again, afresh-fit, afresh-same}
use Rattle.rota.specs.declared.replay.Replayed.{Replayed}
use Rattle.rota.specs.declared.replay.Replayed.TheVariants as variant
use Rattle.rota.specs.Board.{Board}
use Rattle.rota.specs.Moves.{Draw, handed}
use Rattle.rota.specs.Plays.{step, owners_after, answer, answers, touched}
use Rattle.rota.specs.Replays.{agrees_at, agreeing, block_played, answer_ok, replay_row, Outcome, agrees_up_to, replayed_list}
use Rattle.rota.proofs.Plays.{play-length, owners-append, answers-append, answers-length, draws-length}
use Rattle.rota.proofs.Entered.{asks-step}
use Rattle.rota.proofs.Drawn.{draw-acts-exactly, handed-exactly}
use Rattle.rota.proofs.Promises.{frozen-slots-keep, covered-stays, only-handed-over, owners-known, owners-available, played-recounts}
use Rattle.promises.specs.Entries.{Call, built, enough_in, no_of, play_of, board_in}
use Rattle.promises.specs.Rota.{Words, second_call}
use Rattle.promises.specs.ManyCalls.{Part, part_call, draws_of_parts}
use Rattle.promises.specs.Replay.{replay_of, replay_tests, block_draws, Agree, FirstDiffers, played_in, BlockPlayed, BlocksByRule}
use Rattle.promises.specs.Replay.{AllAgree, owners_left, derived_left, recorded_of, next, Came, so_far, OneList}
use Rattle.promises.specs.Replay.{HandedIn, DemandThree, NamesTheFirst}
use Rattle.promises.specs.Replay.{Playable, Lendable, AllLendable, AgreeAsOne, CutAnywhere, EndsAlike}
use Rattle.promises.proofs.Calls.{accepted-is, accepted-says, says-accepted}
use Rattle.promises.proofs.Rota.{asks, answered-total, two-calls}
use Rattle.promises.proofs.ManyCalls.{accepted-number}

-- ---- answers are told apart by their kind and place

abbrev kind_of : Result Replayed Refusal → ℕ
kind_of (Ok variant.Agrees) = 0
kind_of (Ok (variant.Differs p)) = 1
kind_of (Err f) = 2

abbrev place_of : Result Replayed Refusal → ℕ
place_of (Ok variant.Agrees) = 0
place_of (Ok (variant.Differs p)) = p
place_of (Err f) = 0

-- ---- one block

module _ (c : Call) (o : List ℕ) (D : Derived) (b : Part) where
  abbrev B : Board
  B = board_in c

  abbrev ds : List Draw
  ds = block_draws b

  abbrev p : ℕ
  p = agreeing B o ds b.answers

  abbrev f : Refusal
  f = refusal_of (replay_tests c o D b)

  many : length ds ≡ b.count
  many = draws-length b.draws b.firsts b.seconds b.count

  -- what refuses a play refuses a block
  pub block-accepted : number_of (replay_tests c o D b) ≡ 0 → no_of (part_call c o D b) ≡ 0
  unfolding replay_row number_of
  block-accepted z = (cond-zero (all b.count (answer_ok b.answers)) (no_of (part_call c o D b)) 12 z).1

  number_is : number_of (replay_tests c o D b) ≡ f.number
  number_is = sym (said (replay_tests c o D b) refl)

  -- an accepted one
  is-played : number_of (replay_tests c o D b) ≡ 0
      → ((replay_of c o D b).answer ≡ Ok (agrees_up_to b.count p)) × ((replay_of c o D b).owners ≡ owners_after B o (take (suc p) ds))
      × ((replay_of c o D b).derived ≡ afresh c.plan (replay_of c o D b).owners D)
  unfolding replayed_list block_played
  is-played z =
      let y : f.number ≡ 0 = sym number_is ∙ z in
      let q : (replay_of c o D b).owners ≡ owners_after B o (take (suc p) ds) = worked _ _ _ y in
      (worked _ _ _ y, q, worked _ _ _ y ∙ ap (λ (l : List ℕ). afresh c.plan l D) (sym q))

  is-refused : (number_of (replay_tests c o D b) ≡ 0 → ⊥)
      → ((replay_of c o D b).answer ≡ Err f) × ((replay_of c o D b).owners ≡ o) × ((replay_of c o D b).derived ≡ D)
  unfolding replayed_list
  is-refused n =
      let y : f.number ≡ 0 → ⊥ = λ q. n (number_is ∙ q) in
      (kept _ _ _ y, kept _ _ _ y, kept _ _ _ y)

  -- the first that isn't answered as recorded
  first-agree : (i : ℕ) → i < p → Agree B o ds b.answers i
  unfolding agreeing agrees_at
  first-agree i h = eqb-true _ _ ((first-is (length ds) (agrees_at B o ds b.answers)).before i h)

  first-not : p < b.count → Agree B o ds b.answers p → ⊥
  unfolding agreeing agrees_at
  first-not h = eqb-false _ _ ((first-is (length ds) (agrees_at B o ds b.answers)).fails (omega (arith, many)))

  first-within : p ≤ b.count
  unfolding agreeing
  first-within = omega (arith, many, (first-is (length ds) (agrees_at B o ds b.answers)).within)

  first-is-it : (q : ℕ) → FirstDiffers c o b q → q ≡ p
  unfolding agreeing agrees_at
  first-is-it q F =
      first-only (length ds) (agrees_at B o ds b.answers) q (record {
        within = omega (arith, many, F.below);
        before = λ k h. eq-eqb _ _ (F.before k h);
        fails = λ h. ne_eqb _ _ F.here;
      })

  all-is-it : ((i : ℕ) → i < b.count → Agree B o ds b.answers i) → p ≡ b.count
  unfolding agreeing agrees_at
  all-is-it F =
      fails-none (length ds) (agrees_at B o ds b.answers)
      (each_all (length ds) (agrees_at B o ds b.answers) (λ k h. eq-eqb _ _ (F k (omega (arith, many))))) ∙ many

  -- what is answered then
  answer-agrees : b.count ≤ p → ◌≡◌ {A = Result Replayed Refusal} (Ok (agrees_up_to b.count p)) (Ok variant.Agrees)
  unfolding agrees_up_to
  answer-agrees h = ap {B = Result Replayed Refusal} (λ (t : Bool). Ok (cond t (variant.Differs p) variant.Agrees)) (le-ltb p b.count h)

  answer-differs : p < b.count → ◌≡◌ {A = Result Replayed Refusal} (Ok (agrees_up_to b.count p)) (Ok (variant.Differs p))
  unfolding agrees_up_to
  answer-differs h = ap {B = Result Replayed Refusal} (λ (t : Bool). Ok (cond t (variant.Differs p) variant.Agrees)) (lt-ltb p b.count h)

  -- an answer that isn't a refusal comes of an accepted block
  accepted-of : (kind_of (replay_of c o D b).answer ≡ 2 → ⊥) → number_of (replay_tests c o D b) ≡ 0
  accepted-of k =
      by-test (eqb (number_of (replay_tests c o D b)) 0) _ (λ t. eqb-true _ 0 t)
      (λ n. absurd (k (ap kind_of (is-refused (eqb-false _ 0 n)).0)))

  agrees-there : (replay_of c o D b).answer ≡ Ok variant.Agrees
      → (number_of (replay_tests c o D b) ≡ 0) × ((i : ℕ) → i < b.count → Agree B o ds b.answers i)
  agrees-there e =
      let k = ap kind_of e in
      let z = accepted-of (λ q. omega (arith, k, q)) in
      let up : b.count ≤ p =
      ⊎_elim
      (λ (l : p < b.count). absurd (omega (arith, k, ap kind_of ((is-played z).0 ∙ answer-differs l))))
      (λ (l : b.count ≤ p). l) (lt-or-ge p b.count) in
      (z, λ i h. first-agree i (omega arith))

  agrees_back : (number_of (replay_tests c o D b) ≡ 0) × ((i : ℕ) → i < b.count → Agree B o ds b.answers i)
      → (replay_of c o D b).answer ≡ Ok variant.Agrees
  agrees_back w = (is-played w.0).0 ∙ answer-agrees (omega (arith, all-is-it w.1))

  differs-there : (q : ℕ) → (replay_of c o D b).answer ≡ Ok (variant.Differs q) → (number_of (replay_tests c o D b) ≡ 0) × FirstDiffers c o b q
  differs-there q e =
      let k = ap kind_of e in
      let z = accepted-of (λ x. omega (arith, k, x)) in
      let down : p < b.count =
      ⊎_elim
      (λ (l : p < b.count). l)
      (λ (l : b.count ≤ p). absurd (omega (arith, k, ap kind_of ((is-played z).0 ∙ answer-agrees l)))) (lt-or-ge p b.count) in
      let is : q ≡ p = ap place_of (sym e ∙ (is-played z).0 ∙ answer-differs down) in (
        z,
        subst (FirstDiffers c o b) (sym is) (record { below = down; before = first-agree; here = first-not down }),
      )

  differs-back : (q : ℕ) → (number_of (replay_tests c o D b) ≡ 0) × FirstDiffers c o b q → (replay_of c o D b).answer ≡ Ok (variant.Differs q)
  differs-back q w =
      let is = first-is-it q w.1 in
      (is-played w.0).0 ∙ answer-differs (omega (arith, w.1.below, is)) ∙ ap (λ (i : ℕ). Ok (variant.Differs i)) (sym is)

  -- the draws that are played
  played-are : number_of (replay_tests c o D b) ≡ 0 → take (suc p) ds ≡ played_in (replay_of c o D b).answer b
  played-are z =
      ⊎_elim
      (λ (l : p < b.count). sym (ap (λ (r : Result Replayed Refusal). played_in r b) ((is-played z).0 ∙ answer-differs l)))
      (λ (l : b.count ≤ p).
      take_all (suc p) ds (omega (arith, many)) ∙ sym (ap (λ (r : Result Replayed Refusal). played_in r b) ((is-played z).0 ∙ answer-agrees l)))
      (lt-or-ge p b.count)

  pub block-played : number_of (replay_tests c o D b) ≡ 0 → BlockPlayed replay_of c o D b
  block-played z =
      let w = is-played z in
      record { owners = w.1 ∙ ap (owners_after B o) (played-are z); derived = w.2 }

pub blocks-by-rule : BlocksByRule replay_of
blocks-by-rule = record {
  agrees = λ c o D b. (agrees-there c o D b, agrees_back c o D b);
  differs = λ c o D b q. (differs-there c o D b q, differs-back c o D b q);
  played = block-played;
  refused = is-refused;
}

-- ---- a rota that can be played on

abbrev no_draws : Part
no_draws = record { count = 0; draws = []; firsts = []; seconds = []; answers = [] }

-- where a part is accepted, the rota is one
playable-of : (c : Call) (o : List ℕ) (D : Derived) (b : Part) → no_of (part_call c o D b) ≡ 0 → Playable c o D
playable-of c o D b e =
    let A = accepted-says (part_call c o D b) e in
    says-accepted (part_call c o D no_draws) record {
      counts = A.counts;
      few = le-leb 0 1024 (omega arith);
      room = A.room;
      starts = A.starts;
      flags = A.flags;
      draws = omega arith;
      firsts = omega arith;
      seconds = omega arith;
      answers = omega arith;
      slots = A.slots;
      units = A.units;
      recount = A.recount;
    }

-- .. and so is what it leaves: a list in two calls, of which the second has no draws
playable-left : (c : Call) (o : List ℕ) (D : Derived) (b : Part) → Words D.sets → no_of (part_call c o D b) ≡ 0
    → Playable c (play_of (part_call c o D b)).owners (play_of (part_call c o D b)).derived
playable-left c o D b f e =
    let k = part_call c o D b in
    let n = b.count in
    let s : n ≡ n + 0 = omega arith in
    let two = second_call built k n 0 in
    playable-of c (play_of k).owners (play_of k).derived
    (record { count = 0; draws = drop n b.draws; firsts = drop n b.firsts; seconds = drop n b.seconds; answers = two.answers })
    (accepted-number two (two-calls k n 0 s e f).second)

-- ---- one block that agrees

module _ (c : Call) (o : List ℕ) (D : Derived) (b : Part) (e : (replay_of c o D b).answer ≡ Ok variant.Agrees) where
  abbrev left : Outcome
  left = replay_of c o D b

  abbrev k : Call
  k = part_call c o D b

  none : number_of (replay_tests c o D b) ≡ 0
  none = (agrees-there c o D b e).0

  accepted : no_of k ≡ 0
  accepted = block-accepted c o D b none

  left-owners : left.owners ≡ owners_after (board_in c) o (block_draws b)
  left-owners =
      (block-played c o D b none).owners ∙ ap (λ (r : Result Replayed Refusal). owners_after (board_in c) o (played_in r b)) e

  left-derived : left.derived ≡ afresh c.plan left.owners D
  left-derived = (block-played c o D b none).derived

  -- as the play of its draws
  owners-played : left.owners ≡ (play_of k).owners
  owners-played = left-owners ∙ sym (ap (λ (y : state.Outcome). y.owners) (accepted-is k accepted))

  derived-played : left.derived ≡ (play_of k).derived
  derived-played =
      left-derived ∙ ap (λ (l : List ℕ). afresh c.plan l D) left-owners
      ∙ sym (ap (λ (y : state.Outcome). y.derived) (accepted-is k accepted))

  left-words : Words D.sets → Words left.derived.sets
  left-words f =
      subst (λ (E : Derived). Words E.sets) (sym left-derived) (afresh-fit c.plan left.owners D f)

  left-playable : Words D.sets → Playable c left.owners left.derived
  left-playable f =
      subst (λ (l : List ℕ). Playable c l left.derived) (sym owners-played)
      (subst (λ (E : Derived). Playable c (play_of k).owners E) (sym derived-played) (playable-left c o D b f accepted))

  -- its recorded answers are the play's
  left-recorded : take b.count b.answers ≡ answers (board_in c) o (block_draws b)
  left-recorded =
      let l = length-take-le b.count b.answers (accepted-says k accepted).answers in
      let m = answers-length (board_in c) o (block_draws b) ∙ draws-length b.draws b.firsts b.seconds b.count in
      ext_get_or 0 (take b.count b.answers) (answers (board_in c) o (block_draws b)) (omega (arith, l, m))
      (λ i h. get_or-take b.count b.answers i 0 (omega (arith, l)) ∙ sym ((agrees-there c o D b e).1 i (omega (arith, l))))

-- ---- blocks that agree

pub record Left (c : Call) (o : List ℕ) (D : Derived) (bs : List Part) : Type 0 where
  pub owners : owners_left replay_of c o D bs ≡ owners_after (board_in c) o (draws_of_parts bs)
  pub derived : derived_left replay_of c o D bs ≡ afresh c.plan (owners_left replay_of c o D bs) D
  pub recorded : recorded_of bs ≡ answers (board_in c) o (draws_of_parts bs)
  pub playable : Playable c (owners_left replay_of c o D bs) (derived_left replay_of c o D bs)

pub all_left : (c : Call) (o : List ℕ) (D : Derived) (bs : List Part) → Words D.sets → Playable c o D → AllAgree replay_of c o D bs
    → Left c o D bs
unfolding AllAgree owners_left derived_left recorded_of draws_of_parts owners_after answers
all_left c o D [] f e A =
    let k = asks (part_call c o D no_draws) e in
    record {
      owners = refl;
      derived = afresh-same c.plan o D k.right.on.sound.slots-few f (asks-step _ _ _ _ _ _ _ _ _ _ k);
      recorded = refl;
      playable = e;
    }
all_left c o D (b ∷ bs) f e A =
    let B = board_in c in
    let y = replay_of c o D b in
    let here = left-owners c o D b A.0 in
    let L = all_left c y.owners y.derived bs (left-words c o D b A.0 f) (left-playable c o D b A.0 f) A.1 in
    let k = asks (part_call c o D b) (accepted c o D b A.0) in
    let n = owners_left replay_of c y.owners y.derived bs in
    record {
      owners =
          L.owners ∙ ap (λ (l : List ℕ). owners_after B l (draws_of_parts bs)) here
          ∙ sym (owners-append B o (block_draws b) (draws_of_parts bs));
      derived =
          L.derived ∙ ap (afresh c.plan n) (left-derived c o D b A.0)
          ∙ afresh-again c.plan y.owners n D k.right.on.sound.slots-few k.right.on.room.sets-room f;
      recorded =
          ap₂ ◌++◌ (left-recorded c o D b A.0) (L.recorded ∙ ap (λ (l : List ℕ). answers B l (draws_of_parts bs)) here)
          ∙ sym (answers-append B o (block_draws b) (draws_of_parts bs));
      playable = L.playable;
    }

-- ---- the block after them

came-playable : (c : Call) (o : List ℕ) (D : Derived) (bs : List Part) (b : Part) → Came replay_of c o D bs b → Playable c o D
unfolding AllAgree owners_left derived_left
came-playable c o D [] b K = playable-of c o D b (block-accepted c o D b K.accepted)
came-playable c o D (a ∷ bs) b K = playable-of c o D a (accepted c o D a K.agree.0)

pub one_list : OneList replay_of
one_list c o D bs b f K =
    let B = board_in c in
    let e = came-playable c o D bs b K in
    let L = all_left c o D bs f e K.agree in
    let y = next replay_of c o D bs b in
    let w = block-played c (owners_left replay_of c o D bs) (derived_left replay_of c o D bs) b K.accepted in
    let k = asks (part_call c o D no_draws) e in
    record {
      owners =
          w.owners ∙ ap (λ (l : List ℕ). owners_after B l (played_in y.answer b)) L.owners
          ∙ sym (owners-append B o (draws_of_parts bs) (played_in y.answer b));
      derived =
          w.derived ∙ ap (afresh c.plan y.owners) L.derived
          ∙ afresh-again c.plan (owners_left replay_of c o D bs) y.owners D k.right.on.sound.slots-few
          k.right.on.room.sets-room f;
    }

-- ---- demand 3

-- no draw of a list hands unit u over: the list doesn't touch it
untouched : (B : Board) (o : List ℕ) (ds : List Draw) (u : ℕ) → ((i : ℕ) → i < length ds → HandedIn B o ds i u → ⊥)
    → touched B o ds u ≡ false
unfolding touched owners_after
untouched B o [] u f = refl
untouched B o (d ∷ ds) u f =
    let first : eqb (answer B o d) 0 && handed B o d u ≡ false =
    by-test (eqb (answer B o d) 0) _
    (λ a.
    by-test (handed B o d u) _
    (λ t.
    let A = (draw-acts-exactly B o d).acts.0 (eqb-true (answer B o d) 0 a) in
    absurd (f 0 (omega arith) record { acting = A; over = (handed-exactly B o d A u).0 t }))
    (λ t. ap₂ ◌&&◌ a t))
    (λ a. ap (λ (x : Bool). x && handed B o d u) a) in
    let rest : touched B (step B o d) ds u ≡ false = untouched B (step B o d) ds u
    (λ i h H. f (suc i) (omega arith) record { acting = H.acting; over = H.over }) in
    ap₂ ◌||◌ first rest

pub demand-three : DemandThree built replay_of
demand-three c o D bs b f K =
    let P = c.plan in
    let e = came-playable c o D bs b K in
    let k = part_call c o D no_draws in
    let A = asks k e in
    let W = one_list c o D bs b f K in
    let y = next replay_of c o D bs b in
    let l = so_far replay_of c o D bs b in
    let after = owners_after (board_in c) o l in
    let at : (j : ℕ) → get_or y.owners j 0 ≡ get_or after j 0 = λ j. ap (λ (x : List ℕ). get_or x j 0) W.owners in
    let right : recounts P c.avail c.units c.begins y.owners y.derived ≡ true =
    ap₂ (λ (x : List ℕ) (E : Derived). recounts P c.avail c.units c.begins x E) W.owners
    (W.derived ∙ ap (λ (x : List ℕ). afresh P x D) W.owners)
    ∙ played-recounts P c.avail c.units c.begins c.frozen 0 (enough_in k) o D [] A l in
    record {
      frozen = λ j h z. at j ∙ frozen-slots-keep P c.avail c.units c.begins c.frozen 0 (enough_in k) o D [] A l j h z;
      available = λ j h. (
        ap (known_by P.people) (at j) ∙ owners-known P c.avail c.units c.begins c.frozen 0 (enough_in k) o D [] A l j h,
        ap (λ (w : ℕ). available_for c.avail w j) (at j)
            ∙ owners-available P c.avail c.units c.begins c.frozen 0 (enough_in k) o D [] A l j h,
      );
      covered = λ j h owned gone.
          covered-stays P c.avail c.units c.begins c.frozen 0 (enough_in k) o D [] A l j h owned (sym (at j) ∙ gone);
      only-handed = λ j h none.
          at j
          ∙ only-handed-over P c.avail c.units c.begins c.frozen 0 (enough_in k) o D [] A l j h
          (untouched (board_in c) o l (unit_of c.units c.begins j) none);
      recount = right;
      adds-up =
          answered-total k e y.owners y.derived
          (omega (arith, A.right.on.room.owners-room, ap length W.owners, play-length (board_in c) o l)) right;
    }

pub ends-alike : EndsAlike replay_of
ends-alike c o D bs es b e f K M q =
    let W = one_list c o D bs b f K in
    let U = one_list c o D es e f M in
    let same = U.owners ∙ ap (owners_after (board_in c) o) q ∙ sym W.owners in
    (same, U.derived ∙ ap (λ (l : List ℕ). afresh c.plan l D) same ∙ sym W.derived)

-- ---- the first difference of all

pub names-the-first : NamesTheFirst replay_of
names-the-first c o D bs b p f A e =
    let B = board_in c in
    let o' = owners_left replay_of c o D bs in
    let D' = derived_left replay_of c o D bs in
    let w = differs-there c o' D' b p e in
    let F = w.1 in
    let L = all_left c o D bs f (came-playable c o D bs b record { agree = A; accepted = w.0 }) A in
    let all = draws_of_parts bs ++ block_draws b in
    let n = length (draws_of_parts bs) in
    let many = answers-length B o (draws_of_parts bs) in
    let so : answers B o all ≡ recorded_of bs ++ answers B o' (block_draws b) =
    answers-append B o (draws_of_parts bs) (block_draws b)
    ∙ ap₂ (λ (x y : List ℕ). x ++ answers B y (block_draws b)) (sym L.recorded) (sym L.owners) in
    let long : length (recorded_of bs) ≡ n = ap length L.recorded ∙ many in
    let later : (j : ℕ) (r : List ℕ) → get_or (recorded_of bs ++ r) (n + j) 0 ≡ get_or r j 0 =
    λ j r. ap (λ (m : ℕ). get_or (recorded_of bs ++ r) (m + j) 0) (sym long) ∙ get_or-append-add (recorded_of bs) r j 0 in
    record {
      before = λ i h.
          ap (λ (l : List ℕ). get_or l i 0) so
          ∙ ⊎_elim
          (λ (g : i < n).
          get_or-append (recorded_of bs) _ 0 i (omega (arith, long))
          ∙ sym (get_or-append (recorded_of bs) _ 0 i (omega (arith, long))))
          (λ (g : n ≤ i).
          let q : i ≡ n + (i - n) = omega arith in
          ap (λ (m : ℕ). get_or (recorded_of bs ++ answers B o' (block_draws b)) m 0) q ∙ later (i - n) _ ∙ F.before (i - n) (omega arith)
          ∙ sym (later (i - n) b.answers) ∙ ap (λ (m : ℕ). get_or (recorded_of bs ++ b.answers) m 0) (sym q))
          (lt-or-ge i n);
      here = λ x.
          F.here
          (sym (later p (answers B o' (block_draws b))) ∙ ap (λ (l : List ℕ). get_or l (n + p) 0) (sym so) ∙ x ∙ later p b.answers);
    }

-- ---- how the draws are cut doesn't matter

-- every answer is 0, 1 or 2
answer-few : (B : Board) (o : List ℕ) (d : Draw) → answer B o d ≤ 2
answer-few B o d =
    let G = draw-acts-exactly B o d in
    let r = answer B o d in
    by-test (eqb r 0) _ (λ t. omega (arith, eqb-true r 0 t))
    (λ z. by-test (eqb r 2) _ (λ t. omega (arith, eqb-true r 2 t))
    (λ t.
    let one : r ≡ 1 = G.no_move.1 (λ a. eqb-false r 0 z (G.acts.1 a), λ a. eqb-false r 2 t (G.outside.1 a)) in
    omega (arith, one)))

answers-few : (B : Board) (o : List ℕ) (ds : List Draw) (i : ℕ) → get_or (answers B o ds) i 0 ≤ 2
unfolding answers
answers-few B o [] i = omega arith
answers-few B o (d ∷ ds) zero = answer-few B o d
answers-few B o (d ∷ ds) (suc i) = answers-few B (step B o d) ds i

-- a block as it may be lent, with right answers, is not refused
lent-accepted : (c : Call) (o : List ℕ) (D : Derived) (b : Part) → Playable c o D → Lendable b
    → ((i : ℕ) → i < b.count → get_or b.answers i 0 ≤ 2) → number_of (replay_tests c o D b) ≡ 0
unfolding replay_row number_of answer_ok
lent-accepted c o D b e l h =
    let A = accepted-says (part_call c o D no_draws) e in
    let play : no_of (part_call c o D b) ≡ 0 = says-accepted (part_call c o D b) record {
      counts = A.counts;
      few = le-leb b.count 1024 l.few;
      room = A.room;
      starts = A.starts;
      flags = A.flags;
      draws = l.draws;
      firsts = l.firsts;
      seconds = l.seconds;
      answers = l.recorded;
      slots = A.slots;
      units = A.units;
      recount = A.recount;
    } in
    ap (λ (t : Bool). cond t (no_of (part_call c o D b)) 13)
    (each_all b.count (answer_ok b.answers) (λ i g. le-leb (get_or b.answers i 0) 2 (h i g))) ∙ play

all-agree : (c : Call) (o : List ℕ) (D : Derived) (bs : List Part) → Words D.sets → Playable c o D → AllLendable bs
    → recorded_of bs ≡ answers (board_in c) o (draws_of_parts bs) → AllAgree replay_of c o D bs
unfolding AllAgree AllLendable recorded_of draws_of_parts
all-agree c o D [] f e l q = tt
all-agree c o D (b ∷ bs) f e l q =
    let B = board_in c in
    let ds = block_draws b in
    let n = b.count in
    let rs = b.answers in
    let long = length-take-le n rs l.0.recorded in
    let many : length (answers B o ds) ≡ n = answers-length B o ds ∙ draws-length b.draws b.firsts b.seconds n in
    let split : take n rs ++ recorded_of bs ≡ answers B o ds ++ answers B (owners_after B o ds) (draws_of_parts bs) =
    q ∙ answers-append B o ds (draws_of_parts bs) in
    let front : take n rs ≡ answers B o ds =
    sym (take_at (take n rs) (recorded_of bs) n long) ∙ ap (take n) split ∙ take_at (answers B o ds) _ n many in
    let back : recorded_of bs ≡ answers B (owners_after B o ds) (draws_of_parts bs) =
    sym (drop_at (take n rs) (recorded_of bs) n long) ∙ ap (drop n) split ∙ drop_at (answers B o ds) _ n many in
    let each : (i : ℕ) → i < n → Agree B o ds rs i =
    λ i h. ap (λ (x : List ℕ). get_or x i 0) (sym front) ∙ get_or-take n rs i 0 h in
    let none : number_of (replay_tests c o D b) ≡ 0 =
    lent-accepted c o D b e l.0 (λ i h. omega (arith, each i h, answers-few B o ds i)) in
    let here = agrees_back c o D b (none, each) in
    let y = replay_of c o D b in (
      here,
      all-agree c y.owners y.derived bs (left-words c o D b here f) (left-playable c o D b here f) l.1
          (back ∙ ap (λ (x : List ℕ). answers B x (draws_of_parts bs)) (sym (left-owners c o D b here))),
    )

pub agree-as-one : AgreeAsOne replay_of
agree-as-one c o D bs f e l = (λ A. (all_left c o D bs f e A).recorded, λ q. all-agree c o D bs f e l q)

pub cut-anywhere : CutAnywhere replay_of
cut-anywhere c o D bs es f e l A q r =
    let B = board_in c in
    let L = all_left c o D bs f e A in
    let again = all-agree c o D es f e l (r ∙ L.recorded ∙ ap (answers B o) (sym q)) in
    let M = all_left c o D es f e again in
    let same = M.owners ∙ ap (owners_after B o) q ∙ sym L.owners in
    record {
      agree = again;
      owners = same;
      derived = M.derived ∙ ap (λ (x : List ℕ). afresh c.plan x D) same ∙ sym L.derived;
    }
