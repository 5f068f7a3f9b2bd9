-- What the stage of a block comes to, by what its parts returned. Assumes nothing.
use Rattle.std.specs.Prelude.{Result, Ok, Err}
use mathlib.Core.Path.{◌≡◌, refl, sym, ap, ap₂, ◌∙◌, subst}
use mathlib.Core.Bool.{Bool, true, false, cond}
use mathlib.Core.List.{List, ◌∷◌, []}
use Prim.Native.Nat.{ℕ, ◌≤◌}
use native.Mathlib.Omega.{arith}
use borrow.Author.Tests.{le-leb, eq-eqb}
use lib.Dec.{leb, eqb, ltb}
use lib.IntN.{ℤ}
use lib.ListN.{length, replicate, length-replicate}
use Rattle.paper.specs.declared.Refusal.{Refusal}
use Rattle.paper.specs.Limits.{test, people_ok, slot_count_ok}
use Rattle.paper.specs.Rows.{unless, refusal_of}
use Rattle.paper.proofs.Logic.{by-test}
use Rattle.paper.proofs.Rows.{worked, kept}
use Rattle.owners.specs.Derived.{Plan, Derived, afresh}
use Rattle.owners.specs.Entries.{placeless}
use Rattle.owners.proofs.Steps.{afresh-lengths}
use Rattle.rota.specs.declared.replay.Replayed.{Replayed}
use Rattle.rota.specs.declared.replay.Replayed.TheVariants as replayed
use Rattle.rota.specs.Plays.{draws_of, owners_after}
use Rattle.rota.specs.Lent.{board_of}
use Rattle.rota.specs.Entries.{columns_enough}
use Rattle.rota.specs.Replays as rota
use Rattle.rota.proofs.Plays.{play-length}
use Rattle.records.specs.Puts.{put, Wrote}
use Rattle.job.specs.declared.Ending.{Ending}
use Rattle.job.specs.declared.Ending.TheVariants as ending
use Rattle.job.specs.Listing.{listing_most}
use Rattle.job.specs.Outcome.{Outcome, listed_as, Ends}
use Rattle.job.specs.Stages.{Ready, plan_of}
use Rattle.job.specs.Shown.{block_text, block_row, block_result}
use Rattle.replay.specs.declared.BlockRead.{BlockRead}
use Rattle.replay.specs.declared.BlockRead.TheVariants as read
use Rattle.replay.specs.declared.Played.{Played}
use Rattle.replay.specs.declared.Played.TheVariants as played
use Rattle.replay.specs.Reading.{block_read, draws_in, fields_of, columns_room, read_answer, ReadsAs}
use Rattle.replay.specs.Stage.{Staged, ends_with, shown_by, shown_as, played_by, block_stage, stage_by, stage_of, StagedAs}
use Rattle.replay.proofs.Streams.{is_read}

-- ---- the text of a block

module _ (block people slots : ℕ) (starts ends owners minutes : List ℕ) (targets : List ℤ) (x : List ℕ)
    (z : (refusal_of (block_row people slots starts ends owners minutes targets (length x))).number ≡ 0) (a : Result ℕ Refusal) (out : List ℕ)
    (E : Ends (block_result block people slots starts ends owners minutes targets x) a out) where
  abbrev text : List ℕ
  text = block_text block people slots starts ends owners minutes targets

  text-is : block_result block people slots starts ends owners minutes targets x ≡ listed_as text x
  unfolding block_result
  text-is = worked _ _ (listed_as text x) z

  said-is : a ≡ Ok (length text)
  unfolding listed_as
  said-is = E.said ∙ ap (λ (y : Outcome). y.answer) text-is

  pub show-wrote : (n : ℕ) → a ≡ Ok n → Wrote text 0 x n out
  unfolding listed_as
  show-wrote n e =
      let k : Ok n ≡ Ok (length text) = sym e ∙ said-is in
      let m : n ≡ length text = cc in
      record { ends = omega arith; text = E.left ∙ ap (λ (y : Outcome). y.out) text-is }

  pub show-not : (f : Refusal) → a ≡ Err f → ⊥
  show-not f e =
      let k : Err f ≡ Ok (length text) = sym e ∙ said-is in
      let w : ◌≡◌ {A = ℕ} 0 1 = cc in
      omega arith

-- ---- the replay of a block

module _ (P : Plan) (avail : List ℕ) (units : ℕ) (begins frozen : List ℕ) (n : ℕ) (ks fs ss rs o : List ℕ) (D : Derived) where
  abbrev y : rota.Outcome
  y = rota.replayed P avail units begins frozen n ks fs ss rs o D

  abbrev f : Refusal
  f = refusal_of (rota.replay_row P avail units begins frozen n (columns_enough n ks fs ss) rs o D)

  abbrev after : List ℕ
  after =
      owners_after (board_of P.people P.slots units avail begins frozen) o
      (rota.block_played (board_of P.people P.slots units avail begins frozen) o (draws_of ks fs ss n) rs)

  -- columns keep their lengths
  replay-lengths : (length y.owners ≡ length o) × (length y.derived.minutes ≡ length D.minutes)
  unfolding rota.replayed_list
  replay-lengths = (
    keeps f.number (λ (l : List ℕ). length l) o after (play-length _ o _),
    keeps f.number (λ (E : Derived). length E.minutes) D (afresh P after D) (afresh-lengths P after D).1,
  )
    where
      keeps : {A : Type 0} (k : ℕ) (m : A → ℕ) (old new : A) → m new ≡ m old → m (unless k old new) ≡ m old
      keeps {A} k m old new e =
          by-test (eqb k 0) _ (λ t. ap m (worked k old new (borrow.Author.Tests.eqb-true k 0 t)) ∙ e)
          (λ g. ap m (kept k old new (λ q. mathlib.Core.Bool.true≢false (sym (eq-eqb k 0 q) ∙ g))))

  -- a refused block leaves the rota
  replay-refused : (g : Refusal) → y.answer ≡ Err g → (y.owners ≡ o) × (y.derived ≡ D)
  unfolding rota.replayed_list rota.agrees_up_to
  replay-refused g e =
      let place = rota.agreeing (board_of P.people P.slots units avail begins frozen) o (draws_of ks fs ss n) rs in
      let played : Result Replayed Refusal = Ok (cond (ltb place n) (replayed.Differs place) replayed.Agrees) in
      by-test (eqb f.number 0) _
      (λ t.
      let k : played ≡ Err g =
      sym (worked f.number (Err f) played (borrow.Author.Tests.eqb-true f.number 0 t)) ∙ e in
      absurd (not-refused (cond (ltb place n) (replayed.Differs place) replayed.Agrees) g k))
      (λ t.
      let no : f.number ≡ 0 → ⊥ = λ q. mathlib.Core.Bool.true≢false (sym (eq-eqb f.number 0 q) ∙ t) in
      (kept f.number o after no, kept f.number D (afresh P after D) no))
    where
      not-refused : (v : Replayed) (g : Refusal) → ◌≡◌ {A = Result Replayed Refusal} (Ok v) (Err g) → ⊥
      not-refused v g k = let w : ◌≡◌ {A = ℕ} 0 1 = cc in omega arith

-- ---- the stage of a block that was read

module _ (block next n : ℕ) (ks fs ss rs : List ℕ) (R : Ready) (o : List ℕ) (D : Derived) (x : List ℕ) (short : Refusal)
    (e : short ≡ refusal_of (block_row R.people R.slots R.starts R.ends o D.minutes R.targets (length x))) where
  abbrev came : rota.Outcome
  came = rota.replayed (plan_of R) R.avail R.units R.begins R.frozen n ks fs ss rs o D

  abbrev stage : Staged
  stage = block_stage block next n ks fs ss rs R o D x

  pub stage-short : (short.number ≡ 0 → ⊥) → StagedAs stage (played.Last 0 (ending.Refused short)) o D x
  unfolding block_stage ends_with
  stage-short fails =
      let f = refusal_of (block_row R.people R.slots R.starts R.ends o D.minutes R.targets (length x)) in
      let s : stage ≡ ends_with (ending.Refused f) o D x =
      kept f.number _ _ (λ q. fails (ap (λ (g : Refusal). g.number) e ∙ q)) in
      record {
        answer = ap (λ (g : Refusal). played.Last 0 (ending.Refused g)) e ∙ sym (ap (λ (Z : Staged). Z.answer) s);
        owners = sym (ap (λ (Z : Staged). Z.owners) s);
        derived = sym (ap (λ (Z : Staged). Z.derived) s);
        out = sym (ap (λ (Z : Staged). Z.out) s);
      }

  module _ (z : short.number ≡ 0) (r : Result Replayed Refusal) (o' : List ℕ) (D' : Derived) (H : rota.Replays came r o' D') where
    -- the text has room after the draws too
    pub stage-room : (refusal_of (block_row R.people R.slots R.starts R.ends o' D'.minutes R.targets (length x))).number ≡ 0
    unfolding block_row
    stage-room =
        let l = replay-lengths (plan_of R) R.avail R.units R.begins R.frozen n ks fs ss rs o D in
        let a : length o' ≡ length o = ap length H.owners ∙ l.0 in
        let b : length D'.minutes ≡ length D.minutes = ap (λ (E : Derived). length E.minutes) H.derived ∙ l.1 in
        ap₂ (λ (i j : ℕ).
        (refusal_of (test 1 (people_ok R.people) ∷ test 1 (slot_count_ok R.slots) ∷ test 2 (leb R.slots (length R.starts))
        ∷ test 2 (leb R.slots (length R.ends)) ∷ test 2 (leb R.slots i) ∷ test 2 (leb R.people j)
        ∷ test 2 (leb R.people (length R.targets)) ∷ test 2 (leb listing_most (length x)) ∷ [])).number) a b
        ∙ sym (ap (λ (g : Refusal). g.number) e) ∙ z

    by_answer : stage ≡ played_by came.answer block next R came o D x
    unfolding block_stage
    by_answer = worked _ _ (played_by came.answer block next R came o D x) (sym (ap (λ (g : Refusal). g.number) e) ∙ z)

    by_said : (q : Result Replayed Refusal) → r ≡ q → stage ≡ played_by q block next R came o D x
    by_said q g = by_answer ∙ ap (λ (v : Result Replayed Refusal). played_by v block next R came o D x) (sym H.answer ∙ g)

    shown-stage : (f : ℕ → Played) → stage ≡ shown_as f block R came.owners came.derived x → (l : ℕ) (x' : List ℕ)
        → Wrote (shown_by block R o' D') 0 x l x' → StagedAs stage (f l) o' D' x'
    unfolding shown_as
    shown-stage f s l x' W =
        let t : shown_by block R o' D' ≡ shown_by block R came.owners came.derived =
        ap₂ (λ (w : List ℕ) (E : Derived). shown_by block R w E) H.owners H.derived in
        let m : l ≡ length (shown_by block R o' D') = omega (arith, W.ends) in
        record {
          answer = ap f (m ∙ ap length t) ∙ sym (ap (λ (Z : Staged). Z.answer) s);
          owners = H.owners ∙ sym (ap (λ (Z : Staged). Z.owners) s);
          derived = H.derived ∙ sym (ap (λ (Z : Staged). Z.derived) s);
          out = W.text ∙ ap (λ (u : List ℕ). put u 0 x) t ∙ sym (ap (λ (Z : Staged). Z.out) s);
        }

    pub stage-agreed : r ≡ Ok replayed.Agrees → (l : ℕ) (x' : List ℕ) → Wrote (shown_by block R o' D') 0 x l x'
        → StagedAs stage (played.More l next) o' D' x'
    stage-agreed g l x' W = shown-stage (λ m. played.More m next) (by_said (Ok replayed.Agrees) g) l x' W

    pub stage-differed : (p : ℕ) → r ≡ Ok (replayed.Differs p) → (l : ℕ) (x' : List ℕ) → Wrote (shown_by block R o' D') 0 x l x'
        → StagedAs stage (played.Last l (ending.Differs block p)) o' D' x'
    stage-differed p g l x' W = shown-stage (λ m. played.Last m (ending.Differs block p)) (by_said (Ok (replayed.Differs p)) g) l x' W

    pub stage-refused : (g : Refusal) → r ≡ Err g → StagedAs stage (played.Last 0 (ending.Refused g)) o' D' x
    unfolding ends_with
    stage-refused g q =
        let s : stage ≡ ends_with (ending.Refused g) o D x = by_said (Err g) q in
        let k = replay-refused (plan_of R) R.avail R.units R.begins R.frozen n ks fs ss rs o D g (sym H.answer ∙ q) in
        record {
          answer = sym (ap (λ (Z : Staged). Z.answer) s);
          owners = H.owners ∙ k.0 ∙ sym (ap (λ (Z : Staged). Z.owners) s);
          derived = H.derived ∙ k.1 ∙ sym (ap (λ (Z : Staged). Z.derived) s);
          out = sym (ap (λ (Z : Staged). Z.out) s);
        }

-- ---- by what was read

-- columns of 1,024 have room for every block
few-draws : (q : Result BlockRead ℕ) → ((n next : ℕ) → q ≡ Ok (read.Block n next) → n ≤ 1024) → draws_in q ≤ 1024
few-draws (Ok (read.Block n next)) f = f n next refl
few-draws (Ok read.End) f = omega arith
few-draws (Err k) f = omega arith

read_whole : (t : List ℕ) (block : ℕ) → let z : List ℕ = replicate 1024 0 in read_answer t block z z z z ≡ block_read t block
unfolding read_answer columns_room
read_whole t block =
    let q = block_read t block in
    let few : draws_in q ≤ 1024 = few-draws q (λ n next e. (is_read t block n next e).few) in
    let room : leb (draws_in q) (length (replicate {A = ℕ} 1024 0)) ≡ true =
    le-leb (draws_in q) (length (replicate {A = ℕ} 1024 0)) (omega (arith, few, length-replicate {A = ℕ} 1024 0)) in
    simp room

module _ (t : List ℕ) (block : ℕ) (R : Ready) (o : List ℕ) (D : Derived) (x : List ℕ) (b : Result BlockRead ℕ) (ks fs ss rs : List ℕ)
    (A : ReadsAs t block (replicate 1024 0) (replicate 1024 0) (replicate 1024 0) (replicate 1024 0) b ks fs ss rs) where
  abbrev whole : Staged
  whole = stage_of t block R o D x

  by_read : (q : Result BlockRead ℕ) → b ≡ q → whole ≡ stage_by q t block R o D x
  unfolding stage_of
  by_read q e = ap (λ (v : Result BlockRead ℕ). stage_by v t block R o D x) (sym (A.said ∙ read_whole t block) ∙ e)

  pub staged-block : (n next : ℕ) → b ≡ Ok (read.Block n next) → (r : Played) (o' : List ℕ) (D' : Derived) (x' : List ℕ)
      → StagedAs (block_stage block next n ks fs ss rs R o D x) r o' D' x' → StagedAs whole r o' D' x'
  staged-block n next e r o' D' x' H =
      let z : List ℕ = replicate 1024 0 in
      let d : draws_in b ≡ n = ap draws_in e in
      let k : ks ≡ fields_of t 4 n z = A.draws ∙ ap (λ (m : ℕ). fields_of t 4 m z) d in
      let f : fs ≡ fields_of t 6 n z = A.firsts ∙ ap (λ (m : ℕ). fields_of t 6 m z) d in
      let s : ss ≡ fields_of t 8 n z = A.seconds ∙ ap (λ (m : ℕ). fields_of t 8 m z) d in
      let a : rs ≡ fields_of t 10 n z = A.recorded ∙ ap (λ (m : ℕ). fields_of t 10 m z) d in
      let same : block_stage block next n ks fs ss rs R o D x ≡ whole =
      ap₂ (λ (u v : List ℕ). block_stage block next n u v ss rs R o D x) k f
      ∙ ap₂ (λ (u v : List ℕ). block_stage block next n (fields_of t 4 n z) (fields_of t 6 n z) u v R o D x) s a
      ∙ sym (by_read (Ok (read.Block n next)) e) in
      subst (λ (Z : Staged). StagedAs Z r o' D' x') same H

  ended : (f : Ending) → whole ≡ ends_with f o D x → StagedAs whole (played.Last 0 f) o D x
  unfolding ends_with
  ended f s = record {
    answer = sym (ap (λ (Z : Staged). Z.answer) s);
    owners = sym (ap (λ (Z : Staged). Z.owners) s);
    derived = sym (ap (λ (Z : Staged). Z.derived) s);
    out = sym (ap (λ (Z : Staged). Z.out) s);
  }

  pub staged-end : b ≡ Ok read.End → StagedAs whole (played.Last 0 ending.Agrees) o D x
  staged-end e = ended ending.Agrees (by_read (Ok read.End) e)

  pub staged-faulty : (n : ℕ) → b ≡ Err n → StagedAs whole (played.Last 0 (ending.Refused (placeless n))) o D x
  staged-faulty n e = ended (ending.Refused (placeless n)) (by_read (Err n) e)
