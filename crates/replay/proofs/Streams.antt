-- However a recording is streamed, its stages one after the other write its text and nothing else. Assumes nothing.
use Rattle.std.specs.Prelude.{Result, Ok, Err}
use Rattle.paper.specs.declared.Refusal.{Refusal}
use mathlib.Core.Path.{◌≡◌, refl, sym, ap, ap₂, ◌∙◌, subst}
use mathlib.Core.Logic.{⊎_elim}
use mathlib.Core.Bool.{Bool, true, false, cond, ◌&&◌, ◌||◌}
use mathlib.Core.List.{List, [], ◌++◌, append-nil}
use Prim.Native.Nat.{ℕ, zero, suc, ◌+◌, ◌-◌, ◌*◌, ◌≤◌, ◌<◌}
use native.Mathlib.Omega.{arith}
use borrow.Author.Tests.{le-leb, eq-eqb, ne_eqb, eqb-true, lt-ltb, le-ltb, ltb-true}
use lib.Dec.{leb, eqb}
use lib.IntN.{pos}
use lib.ListN.{length, get_or, take, drop, replicate, length-replicate}
use lib.Seq.{take_at}
use Rattle.paper.specs.Limits.{number_of, draws_most}
use Rattle.paper.specs.Rows.{answer_as, refusal_of}
use Rattle.paper.specs.Count.{all, over}
use Rattle.paper.proofs.Logic.{by-test, both, lt-or-ge}
use Rattle.paper.proofs.Rows.{worked, kept, said, all_pass}
use Rattle.paper.proofs.Count.{all-each, each_all, length_over, get_d_over, over-same}
use Rattle.slots.specs.Lent.{slot_room_ok, slots_ok}
use Rattle.owners.specs.Derived.{Derived, afresh}
use Rattle.owners.specs.Derived as figures
use Rattle.owners.specs.Entries.{placeless}
use Rattle.records.specs.Fields.{le}
use Rattle.records.specs.Records.{record_at, lead}
use Rattle.records.specs.Puts.{put}
use Rattle.records.proofs.Numbers.{le-front}
use Rattle.records.proofs.Walks.{lead-all, lead-most}
use Rattle.rota.specs.declared.replay.Replayed.{Replayed}
use Rattle.rota.specs.declared.replay.Replayed.TheVariants as replayed
use Rattle.owners.proofs.Scans.{first-is}
use Rattle.rota.specs.Plays.{owners_after}
use Rattle.rota.proofs.Plays.{draws-length}
use Rattle.rota.specs.Replays as rota
use Rattle.rota.specs.Replays.{agreeing, block_played, answer_ok, replay_row, agrees_up_to}
use Rattle.rota.specs.Entries.{play_row, columns_enough}
use Rattle.job.specs.declared.Ending.{Ending}
use Rattle.job.specs.declared.Ending.TheVariants as ending
use Rattle.job.specs.Listing.{listing_most, lines, slot_at, person_at, person_line, head_text}
use Rattle.job.specs.Stages.{Ready, plan_of}
use Rattle.job.specs.Shown.{block_text, block_row, last_line}
use Rattle.job.proofs.Passing.{lent-room}
use Rattle.replay.specs.declared.BlockRead.{BlockRead}
use Rattle.replay.specs.declared.BlockRead.TheVariants as read
use Rattle.replay.specs.declared.Played.{Played}
use Rattle.replay.specs.declared.Played.TheVariants as played
use Rattle.replay.specs.Reading.{blocks_most, draw_at, fault_at, draw_fine, leading_draws, block_read, fields_of}
use Rattle.replay.specs.Stage.{Staged, ends_with, shown_by, shown_as, played_by, block_stage, stage_by, stage_of}
use Rattle.replay.specs.Text.{draws_in, recorded_in, board_in, shown_text, text_by, blocks_text}
use Rattle.replay.specs.Runs.{Window, Writes, last, more}
use Rattle.replay.proofs.Records.{fault_by, fault-by}
use Rattle.replay.proofs.Windows.{window-block}
use Rattle.replay.proofs.Fits.{Fit, fit_row, fit-after}

-- ---- a block that was read

pub record IsRead (t : List ℕ) (blocks n next : ℕ) : Type 0 where
  pub few : n ≤ 1024
  pub may : blocks < blocks_most
  pub fine : all n (draw_fine t blocks) ≡ true

zero-may : (d c b j : Bool) → fault_by d c b j ≡ 0 → b ≡ true
unfolding fault_by
zero-may true c true j e = refl
zero-may true c false j e = absurd (omega arith)
zero-may false true true j e = refl
zero-may false true false j e = absurd (omega arith)
zero-may false false b j e = absurd (omega arith)

pub is_read : (t : List ℕ) (blocks n next : ℕ) → block_read t blocks ≡ Ok (read.Block n next) → IsRead t blocks n next
unfolding block_read leading_draws answer_as
is_read t blocks n next e =
    let m : ℕ = lead (draw_fine t blocks) draws_most in
    let f : ℕ = fault_at t blocks m in
    let found : BlockRead = read.Block m (m * 12 + 4) in
    by-test (eqb (length t) 0) _
    (λ z.
    let q : ◌≡◌ {A = Result BlockRead ℕ} (Ok read.End) (Ok (read.Block n next)) =
    sym (ap {B = Result BlockRead ℕ} (λ (b : Bool). cond b (Ok read.End) (answer_as f found)) z) ∙ e in
    absurd (let w : ◌≡◌ {A = ℕ} 0 1 = cc in omega arith))
    (λ z.
    let q : answer_as f found ≡ Ok (read.Block n next) =
    sym (ap {B = Result BlockRead ℕ} (λ (b : Bool). cond b (Ok read.End) (answer_as f found)) z) ∙ e in
    by-test (eqb f 0) _
    (λ y.
    let g : f ≡ 0 = eqb-true f 0 y in
    let k : ◌≡◌ {A = Result BlockRead ℕ} (Ok found) (Ok (read.Block n next)) = sym (worked f (Err f) (Ok found) g) ∙ q in
    let same : m ≡ n = cc in
    record {
      few = omega (arith, same, lead-most (draw_fine t blocks) draws_most);
      may = ltb-true _ _ (zero-may _ _ _ _ (sym (fault-by t blocks m) ∙ g));
      fine = ap (λ (i : ℕ). all i (draw_fine t blocks)) (sym same) ∙ lead-all (draw_fine t blocks) draws_most;
    })
    (λ y.
    let k : ◌≡◌ {A = Result BlockRead ℕ} (Err f) (Ok (read.Block n next)) =
    sym (kept f (Err f) (Ok found) (λ g. absurd (mathlib.Core.Bool.true≢false (sym (eq-eqb f 0 g) ∙ y)))) ∙ q in
    absurd (let w : ◌≡◌ {A = ℕ} 0 1 = cc in omega arith)))

answer-small : (t : List ℕ) (blocks j : ℕ) → draw_fine t blocks j ≡ true → leb (le 2 t (j * 12 + 10)) 2 ≡ true
unfolding draw_fine draw_at
answer-small t blocks j e =
    let d = both (draw_at t (j * 12)) (eqb (fault_at t blocks j) 0) e in
    (both (record_at t 8 8 (j * 12)) (leb (le 2 t (j * 12 + 10)) 2) d.0).1

-- its recorded answers are answers
answers-fine : (t : List ℕ) (blocks n : ℕ) → n ≤ 1024 → all n (draw_fine t blocks) ≡ true → all n (answer_ok (recorded_in t n)) ≡ true
unfolding answer_ok fields_of
answers-fine t blocks n few a =
    each_all n (answer_ok (recorded_in t n))
    (λ j h.
    ap (λ (v : ℕ). leb v 2) (get_d_over (λ i. le 2 t (i * 12 + 10)) n (replicate 1024 0) j h (omega (arith, length-replicate {A = ℕ} 1024 0)))
    ∙ answer-small t blocks j (all-each n (draw_fine t blocks) a j h))

-- ---- a stage on a window is the stage on the whole rest

fields-front : (p r : List ℕ) (off n : ℕ) (x : List ℕ) → 12300 ≤ length p → n ≤ 1024 → off ≤ 10 → fields_of p off n x ≡ fields_of (p ++ r) off n x
unfolding fields_of
fields-front p r off n x h few o =
    over-same (λ j. le 2 p (j * 12 + off)) (λ j. le 2 (p ++ r) (j * 12 + off)) n x
    (λ k l. sym (le-front 2 p r (k * 12 + off) (omega arith)))

window-by : (q : Result BlockRead ℕ) (p r : List ℕ) (block : ℕ) (R : Ready) (o : List ℕ) (D : Derived) (x : List ℕ) → 12300 ≤ length p
    → ((n next : ℕ) → q ≡ Ok (read.Block n next) → n ≤ 1024) → stage_by q p block R o D x ≡ stage_by q (p ++ r) block R o D x
window-by (Ok (read.Block n next)) p r block R o D x h f =
    let few : n ≤ 1024 = f n next refl in
    let z : List ℕ = replicate 1024 0 in
    ap₂ (λ (k a : List ℕ). block_stage block next n k a (fields_of p 8 n z) (fields_of p 10 n z) R o D x)
    (fields-front p r 4 n z h few (omega arith)) (fields-front p r 6 n z h few (omega arith))
    ∙ ap₂ (λ (s a : List ℕ). block_stage block next n (fields_of (p ++ r) 4 n z) (fields_of (p ++ r) 6 n z) s a R o D x)
    (fields-front p r 8 n z h few (omega arith)) (fields-front p r 10 n z h few (omega arith))
window-by (Ok read.End) p r block R o D x h f = refl
window-by (Err k) p r block R o D x h f = refl

pub window-stage : (p r : List ℕ) (block : ℕ) (R : Ready) (o : List ℕ) (D : Derived) (x : List ℕ) → Window 12300 p r
    → stage_of p block R o D x ≡ stage_of (p ++ r) block R o D x
unfolding stage_of
window-stage p r block R o D x w =
    ⊎_elim
    (λ (e : r ≡ []).
    let s : p ≡ p ++ r = sym (append-nil p) ∙ ap (λ (l : List ℕ). p ++ l) (sym e) in
    ap (λ (t : List ℕ). stage_by (block_read t block) t block R o D x) s)
    (λ (h : 12300 ≤ length p).
    window-by (block_read p block) p r block R o D x h (λ n next e. (is_read p block n next e).few)
    ∙ ap (λ (q : Result BlockRead ℕ). stage_by q (p ++ r) block R o D x) (sym (window-block p r block h)))
    w

-- ---- what a stage comes to

lines_same : (f g : ℕ → List ℕ) (n : ℕ) → ((k : ℕ) → k < n → f k ≡ g k) → lines f n ≡ lines g n
unfolding lines
lines_same f g zero h = refl
lines_same f g (suc n) h = ap₂ (λ (a b : List ℕ). a ++ b) (lines_same f g n (λ k l. h k (omega arith))) (h n (omega arith))

-- the text goes by the people's minutes alone
shown-same : (block : ℕ) (R : Ready) (o m w : List ℕ) → ((p : ℕ) → p < R.people → get_or m p 0 ≡ get_or w p 0)
    → block_text block R.people R.slots R.starts R.ends o m R.targets
    ≡ block_text block R.people R.slots R.starts R.ends o w R.targets
unfolding block_text person_at
shown-same block R o m w h =
    ap (λ (l : List ℕ). head_text 66 block 10 ++ (lines (slot_at R.starts R.ends o) R.slots ++ l))
    (lines_same (person_at m R.targets) (person_at w R.targets) R.people
    (λ p l. ap (λ (v : ℕ). person_line p v (get_or R.targets p (pos 0))) (h p l)))

text-front : (l x : List ℕ) → take (length l) (put l 0 x) ≡ l
unfolding put
text-front l x = take_at l (drop (0 + length l) x) (length l) refl

slot-room : (n : ℕ) (S E : List ℕ) → slots_ok n S E ≡ true → leb n (length S) && leb n (length E) ≡ true
unfolding slot_room_ok
slot-room n S E e = lent-room n S E e

-- the columns of a block of n draws; the first that differs; the owners after those that are played; what the replay of the block comes to
abbrev column_in : List ℕ → ℕ → ℕ → List ℕ
column_in t off n = fields_of t off n (replicate 1024 0)

abbrev pub place_in : Ready → List ℕ → List ℕ → ℕ → ℕ
place_in R o t n = agreeing (board_in R) o (draws_in t n) (recorded_in t n)

abbrev pub after_in : Ready → List ℕ → List ℕ → ℕ → List ℕ
after_in R o t n = owners_after (board_in R) o (block_played (board_in R) o (draws_in t n) (recorded_in t n))

abbrev replay_in : Ready → List ℕ → Derived → List ℕ → ℕ → rota.Outcome
replay_in R o D t n =
    rota.replayed (plan_of R) R.avail R.units R.begins R.frozen n (column_in t 4 n) (column_in t 6 n) (column_in t 8 n)
    (column_in t 10 n) o D

module _ (R : Ready) (o : List ℕ) (D : Derived) (F : Fit R o D) (T : R.people ≤ length R.targets) (block : ℕ) (t x : List ℕ)
    (room : listing_most ≤ length x) where
  row-none : number_of (block_row R.people R.slots R.starts R.ends o D.minutes R.targets (length x)) ≡ 0
  unfolding block_row
  row-none =
      let on = F.on in
      let s = both (leb R.slots (length R.starts)) _ (slot-room R.slots R.starts R.ends on.lent) in
      all_pass (block_row R.people R.slots R.starts R.ends o D.minutes R.targets (length x))
      (on.people, (on.count, (s.0, (s.1, (le-leb _ _ on.room.owners-room, (le-leb _ _ on.room.minutes-room, (le-leb _ _ T, (le-leb _ _ room, tt))))))))

  -- n draws of a block that was read
  module _ (n next : ℕ) (few : n ≤ 1024) (fine : all n (draw_fine t block) ≡ true) where
    column-room : (off : ℕ) → n ≤ length (column_in t off n)
    unfolding fields_of
    column-room off =
        omega (arith, length_over (λ j. le 2 t (j * 12 + off)) n (replicate 1024 0), length-replicate {A = ℕ} 1024 0)

    accepted : (refusal_of (replay_row (plan_of R) R.avail R.units R.begins R.frozen n
        (columns_enough n (column_in t 4 n) (column_in t 6 n) (column_in t 8 n)) (column_in t 10 n) o D)).number ≡ 0
    unfolding replay_row number_of
    accepted =
        said _ refl
        ∙ ap (λ (b : Bool). cond b (number_of (play_row (plan_of R) R.avail R.units R.begins R.frozen n
        (columns_enough n (column_in t 4 n) (column_in t 6 n) (column_in t 8 n)) o D (column_in t 10 n))) 13) (answers-fine t block n few fine)
        ∙ fit_row R o D F n (column_in t 4 n) (column_in t 6 n) (column_in t 8 n) (column_in t 10 n) few (column-room 4) (column-room 6)
        (column-room 8) (column-room 10)

    said-is : (replay_in R o D t n).answer ≡ Ok (agrees_up_to n (place_in R o t n))
    unfolding rota.replayed_list
    said-is = worked _ _ (Ok (agrees_up_to n (place_in R o t n))) accepted

    pub owners-are : (replay_in R o D t n).owners ≡ after_in R o t n
    unfolding rota.replayed_list
    owners-are = worked _ o (after_in R o t n) accepted

    pub derived-is : (replay_in R o D t n).derived ≡ afresh (plan_of R) (after_in R o t n) D
    unfolding rota.replayed_list
    derived-is = worked _ D (afresh (plan_of R) (after_in R o t n) D) accepted

    stage_is : block_stage block next n (column_in t 4 n) (column_in t 6 n) (column_in t 8 n) (column_in t 10 n) R o D x
        ≡ played_by (replay_in R o D t n).answer block next R (replay_in R o D t n) o D x
    unfolding block_stage
    stage_is = worked _ _ (played_by (replay_in R o D t n).answer block next R (replay_in R o D t n) o D x) (said _ refl ∙ row-none)

    -- what is shown is the text of the owners after the draws that are played
    pub shown-is : shown_by block R (replay_in R o D t n).owners (replay_in R o D t n).derived ≡ shown_text block R (after_in R o t n)
    unfolding afresh
    shown-is =
        let after = after_in R o t n in
        ap₂ (λ (w : List ℕ) (E : Derived). shown_by block R w E) owners-are derived-is
        ∙ shown-same block R after (over (figures.worked (plan_of R) after) R.people D.minutes)
        (over (figures.worked (plan_of R) after) R.people (replicate 32 0))
        (λ p h.
        get_d_over (figures.worked (plan_of R) after) R.people D.minutes p h (omega (arith, F.on.room.minutes-room))
        ∙ sym (get_d_over (figures.worked (plan_of R) after) R.people (replicate 32 0) p h
        (omega (arith, F.on.sound.people-few, length-replicate {A = ℕ} 32 0))))

    -- the block agrees, and the next follows; or it ends with its first difference
    pub stage-agrees : n ≤ place_in R o t n
        → block_stage block next n (column_in t 4 n) (column_in t 6 n) (column_in t 8 n) (column_in t 10 n) R o D x
        ≡ shown_as (λ l. played.More l next) block R (replay_in R o D t n).owners (replay_in R o D t n).derived x
    unfolding agrees_up_to
    stage-agrees h =
        stage_is
        ∙ ap (λ (a : Result Replayed Refusal). played_by a block next R (replay_in R o D t n) o D x)
        (said-is ∙ ap (λ (b : Bool). Ok (cond b (replayed.Differs (place_in R o t n)) replayed.Agrees)) (le-ltb _ _ h))

    pub stage-differs : place_in R o t n < n
        → block_stage block next n (column_in t 4 n) (column_in t 6 n) (column_in t 8 n) (column_in t 10 n) R o D x
        ≡ shown_as (λ l. played.Last l (ending.Differs block (place_in R o t n))) block R (replay_in R o D t n).owners (replay_in R o D t n).derived x
    unfolding agrees_up_to
    stage-differs h =
        stage_is
        ∙ ap (λ (a : Result Replayed Refusal). played_by a block next R (replay_in R o D t n) o D x)
        (said-is ∙ ap (λ (b : Bool). Ok (cond b (replayed.Differs (place_in R o t n)) replayed.Agrees)) (lt-ltb _ _ h))

-- the place is among the draws, or there is none
place-most : (R : Ready) (o t : List ℕ) (n : ℕ) → place_in R o t n ≤ n
unfolding agreeing
place-most R o t n =
    let ds = draws_in t n in
    let f = first-is (length ds) (rota.agrees_at (board_in R) o ds (recorded_in t n)) in
    omega (arith, f.within, draws-length (column_in t 4 n) (column_in t 6 n) (column_in t 8 n) n)

-- ---- a text, by what stands at its front

-- what follows the front, where `left` blocks may still come
unfoldable pub body : ℕ → Ready → List ℕ → List ℕ → ℕ → ℕ → ℕ → List ℕ
body zero R o t block n next = []
body (suc left) R o t block n next =
    shown_text block R (after_in R o t n)
    ++ cond (eqb (place_in R o t n) n) (blocks_text left R (after_in R o t n) (drop next t)) (last_line (ending.Differs block (place_in R o t n)))

text-is : (left block : ℕ) (R : Ready) (o t : List ℕ) → block + left ≡ blocks_most
    → blocks_text left R o t ≡ text_by (block_read t block) (body left R o t block)
unfolding blocks_text body
text-is zero block R o t e =
    let q : blocks_most ≡ block = omega arith in ap (λ (k : ℕ). text_by (block_read t k) (λ (n next : ℕ). [])) q
text-is (suc left) block R o t e =
    let q : blocks_most - suc left ≡ block = omega arith in
    ap (λ (k : ℕ). text_by (block_read t k) (λ (n next : ℕ).
    shown_text k R (after_in R o t n)
    ++ cond (eqb (place_in R o t n) n) (blocks_text left R (after_in R o t n) (drop next t)) (last_line (ending.Differs k (place_in R o t n))))) q

pub text-by : (left block : ℕ) (R : Ready) (o t : List ℕ) (q : Result BlockRead ℕ) → block + left ≡ blocks_most → block_read t block ≡ q
    → blocks_text left R o t ≡ text_by q (body left R o t block)
text-by left block R o t q e g =
    text-is left block R o t e ∙ ap (λ (a : Result BlockRead ℕ). text_by a (body left R o t block)) g

pub body-agrees : (left : ℕ) (R : Ready) (o t : List ℕ) (block n next : ℕ) → n ≤ place_in R o t n
    → body (suc left) R o t block n next ≡ shown_text block R (after_in R o t n) ++ blocks_text left R (after_in R o t n) (drop next t)
unfolding body
body-agrees left R o t block n next h =
    let e : place_in R o t n ≡ n = omega (arith, place-most R o t n) in
    ap (λ (b : Bool). shown_text block R (after_in R o t n)
    ++ cond b (blocks_text left R (after_in R o t n) (drop next t)) (last_line (ending.Differs block (place_in R o t n)))) (eq-eqb _ _ e)

pub body-differs : (left : ℕ) (R : Ready) (o t : List ℕ) (block n next : ℕ) → place_in R o t n < n
    → body (suc left) R o t block n next ≡ shown_text block R (after_in R o t n) ++ last_line (ending.Differs block (place_in R o t n))
unfolding body
body-differs left R o t block n next h =
    let e : place_in R o t n ≡ n → ⊥ = λ q. omega arith in
    ap (λ (b : Bool). shown_text block R (after_in R o t n)
    ++ cond b (blocks_text left R (after_in R o t n) (drop next t)) (last_line (ending.Differs block (place_in R o t n)))) (ne_eqb _ _ e)

stage-by : (q : Result BlockRead ℕ) (t : List ℕ) (block : ℕ) (R : Ready) (o : List ℕ) (D : Derived) (x : List ℕ) → block_read t block ≡ q
    → stage_of t block R o D x ≡ stage_by q t block R o D x
unfolding stage_of
stage-by q t block R o D x g = ap (λ (a : Result BlockRead ℕ). stage_by a t block R o D x) g

-- ---- what an outcome writes

-- nothing is shown, and the last line is written
ends-text : (e f : Ending) (o : List ℕ) (D : Derived) (x : List ℕ) (l : ℕ) (S : Staged) → S ≡ ends_with e o D x → S.answer ≡ played.Last l f
    → take l S.out ++ last_line f ≡ last_line e
unfolding ends_with
ends-text e f o D x l S g a =
    let k : played.Last 0 e ≡ played.Last l f = sym (ap (λ (Z : Staged). Z.answer) g) ∙ a in
    let z : ◌≡◌ {A = ℕ} 0 l = cc in
    let w : e ≡ f = cc in
    ap₂ (λ (m : ℕ) (h : Ending). take m S.out ++ last_line h) (sym z) (sym w)

ends-not : (e : Ending) (o : List ℕ) (D : Derived) (x : List ℕ) (l next : ℕ) (S : Staged) → S ≡ ends_with e o D x
    → S.answer ≡ played.More l next → ⊥
unfolding ends_with
ends-not e o D x l next S g a =
    let k : played.Last 0 e ≡ played.More l next = sym (ap (λ (Z : Staged). Z.answer) g) ∙ a in
    let z : ◌≡◌ {A = ℕ} 0 1 = cc in
    omega arith

-- a block is shown
pub record Shown (f : ℕ → Played) (u o : List ℕ) (D : Derived) (S : Staged) : Type 0 where
  pub answer : S.answer ≡ f (length u)
  pub text : take (length u) S.out ≡ u
  pub owners : S.owners ≡ o
  pub derived : S.derived ≡ D

shown-parts : (f : ℕ → Played) (block : ℕ) (R : Ready) (o : List ℕ) (D : Derived) (x : List ℕ) (S : Staged) → S ≡ shown_as f block R o D x
    → Shown f (shown_by block R o D) o D S
unfolding shown_as
shown-parts f block R o D x S g = record {
  answer = ap (λ (Z : Staged). Z.answer) g;
  text = ap (λ (Z : Staged). take (length (shown_by block R o D)) Z.out) g ∙ text-front (shown_by block R o D) x;
  owners = ap (λ (Z : Staged). Z.owners) g;
  derived = ap (λ (Z : Staged). Z.derived) g;
}

shown-last : (e f : Ending) (u v o : List ℕ) (D : Derived) (l : ℕ) (S : Staged) → Shown (λ m. played.Last m e) u o D S → u ≡ v
    → S.answer ≡ played.Last l f → take l S.out ++ last_line f ≡ v ++ last_line e
shown-last e f u v o D l S H s a =
    let k : played.Last (length u) e ≡ played.Last l f = sym H.answer ∙ a in
    let z : length u ≡ l = cc in
    let w : e ≡ f = cc in
    ap₂ (λ (m : ℕ) (h : Ending). take m S.out ++ last_line h) (sym z) (sym w)
    ∙ ap (λ (b : List ℕ). b ++ last_line e) (H.text ∙ s)

last-not-more : (l m next : ℕ) (e : Ending) → played.Last l e ≡ played.More m next → ⊥
last-not-more l m next e k = let z : ◌≡◌ {A = ℕ} 0 1 = cc in omega arith

-- ---- the last stage, and one that others follow

-- what is known where a block follows: how many may still come, the rota, and the whole text by the text of what follows
pub record Follows (R : Ready) (o t : List ℕ) (left l next : ℕ) (S : Staged) : Type 0 where
  pub fewer : ℕ
  pub less : suc fewer ≡ left
  pub fit : Fit R S.owners S.derived
  pub text : (y : List ℕ) → y ≡ blocks_text fewer R S.owners (drop next t) → take l S.out ++ y ≡ blocks_text left R o t

module _ (R : Ready) (o : List ℕ) (D : Derived) (F : Fit R o D) (T : R.people ≤ length R.targets) (block : ℕ) (t x : List ℕ)
    (room : listing_most ≤ length x) (left : ℕ) (e : block + left ≡ blocks_most) where
  abbrev S : Staged
  S = stage_of t block R o D x

  pub last-text : (q : Result BlockRead ℕ) → block_read t block ≡ q → (l : ℕ) (f : Ending) → S.answer ≡ played.Last l f
      → take l S.out ++ last_line f ≡ blocks_text left R o t
  last-text (Ok read.End) g l f a =
      ends-text ending.Agrees f o D x l S (stage-by (Ok read.End) t block R o D x g) a ∙ sym (text-by left block R o t (Ok read.End) e g)
  last-text (Err k) g l f a =
      ends-text (ending.Refused (placeless k)) f o D x l S (stage-by (Err k) t block R o D x g) a
      ∙ sym (text-by left block R o t (Err k) e g)
  last-text (Ok (read.Block n next)) g l f a =
      let I = is_read t block n next g in
      let s = stage-by (Ok (read.Block n next)) t block R o D x g in
      let fewer : ℕ = left - 1 in
      let less : left ≡ suc fewer = omega (arith, I.may) in
      ⊎_elim
      (λ (h : place_in R o t n < n).
      let H = shown-parts _ block R _ _ x S (s ∙ stage-differs R o D F T block t x room n next I.few I.fine h) in
      shown-last (ending.Differs block (place_in R o t n)) f _ _ _ _ l S H (shown-is R o D F T block t x room n next I.few I.fine) a
      ∙ sym (ap (λ (k : ℕ). blocks_text k R o t) less
      ∙ text-by (suc fewer) block R o t (Ok (read.Block n next)) (omega arith) g ∙ body-differs fewer R o t block n next h))
      (λ (h : n ≤ place_in R o t n).
      let H = shown-parts _ block R _ _ x S (s ∙ stage-agrees R o D F T block t x room n next I.few I.fine h) in
      absurd (last-not-more _ _ _ _ (sym a ∙ H.answer)))
      (lt-or-ge (place_in R o t n) n)

  pub more-text : (q : Result BlockRead ℕ) → block_read t block ≡ q → (l next : ℕ) → S.answer ≡ played.More l next → Follows R o t left l next S
  more-text (Ok read.End) g l next a = absurd (ends-not _ o D x l next S (stage-by (Ok read.End) t block R o D x g) a)
  more-text (Err k) g l next a = absurd (ends-not _ o D x l next S (stage-by (Err k) t block R o D x g) a)
  more-text (Ok (read.Block n past)) g l next a =
      let I = is_read t block n past g in
      let s = stage-by (Ok (read.Block n past)) t block R o D x g in
      let fewer : ℕ = left - 1 in
      let less : left ≡ suc fewer = omega (arith, I.may) in
      ⊎_elim
      (λ (h : place_in R o t n < n).
      let H = shown-parts _ block R _ _ x S (s ∙ stage-differs R o D F T block t x room n past I.few I.fine h) in
      absurd (last-not-more _ _ _ _ (sym H.answer ∙ a)))
      (λ (h : n ≤ place_in R o t n).
      let after = after_in R o t n in
      let U = shown_by block R (replay_in R o D t n).owners (replay_in R o D t n).derived in
      let H : Shown (λ m. played.More m past) U (replay_in R o D t n).owners (replay_in R o D t n).derived S =
      shown-parts (λ m. played.More m past) block R (replay_in R o D t n).owners (replay_in R o D t n).derived x S
      (s ∙ stage-agrees R o D F T block t x room n past I.few I.fine h) in
      let k : played.More (length U) past ≡ played.More l next = sym H.answer ∙ a in
      let long : length U ≡ l = cc in
      let same : past ≡ next = cc in
      let owners : S.owners ≡ after = H.owners ∙ owners-are R o D F T block t x room n past I.few I.fine in
      let derived : S.derived ≡ afresh (plan_of R) after D = H.derived ∙ derived-is R o D F T block t x room n past I.few I.fine in
      let shown : take l S.out ≡ shown_text block R after =
      ap (λ (m : ℕ). take m S.out) (sym long) ∙ H.text ∙ shown-is R o D F T block t x room n past I.few I.fine in
      record {
        fewer = fewer;
        less = sym less;
        fit =
            subst (λ (w : List ℕ). Fit R w S.derived) (sym owners)
            (subst (λ (E : Derived). Fit R after E) (sym derived) (fit-after R o D F (block_played (board_in R) o (draws_in t n) (recorded_in t n))));
        text = λ y z.
            ap₂ (λ (u w : List ℕ). u ++ w) shown (z ∙ ap₂ (λ (w : List ℕ) (m : ℕ). blocks_text fewer R w (drop m t)) owners (sym same))
            ∙ sym (ap (λ (m : ℕ). blocks_text m R o t) less
            ∙ text-by (suc fewer) block R o t (Ok (read.Block n past)) (omega arith) g ∙ body-agrees fewer R o t block n past h);
      })
      (lt-or-ge (place_in R o t n) n)

-- ---- all stages, one after the other

-- whatever the windows and the buffers, they write the text of the blocks and nothing else
pub writes-text : {R : Ready} {block : ℕ} {o : List ℕ} {D : Derived} {t y : List ℕ} → Fit R o D → R.people ≤ length R.targets
    → Writes R block o D t y → (left : ℕ) → block + left ≡ blocks_most → y ≡ blocks_text left R o t
writes-text {R} F T (last block o D p r x l f w room a) left e =
    let s = window-stage p r block R o D x w in
    ap (λ (Z : Staged). take l Z.out ++ last_line f) s
    ∙ last-text R o D F T block (p ++ r) x room left e (block_read (p ++ r) block) refl l f (sym (ap (λ (Z : Staged). Z.answer) s) ∙ a)
writes-text {R} F T (more block o D p r x l next text w room a W) left e =
    let s = window-stage p r block R o D x w in
    let N = more-text R o D F T block (p ++ r) x room left e (block_read (p ++ r) block) refl l next
    (sym (ap (λ (Z : Staged). Z.answer) s) ∙ a) in
    let fit = subst (λ (Z : Staged). Fit R Z.owners Z.derived) (sym s) N.fit in
    let rest = writes-text fit T W N.fewer (omega (arith, N.less)) in
    ap (λ (Z : Staged). take l Z.out ++ text) s
    ∙ N.text text (rest ∙ ap (λ (Z : Staged). blocks_text N.fewer R Z.owners (drop next (p ++ r))) s)
