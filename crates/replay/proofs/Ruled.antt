-- The text of a recording's blocks is the one that the rule gives, and only that. Assumes nothing.
use Rattle.std.specs.Prelude.{Result, Ok, Err}
use mathlib.Core.Path.{◌≡◌, refl, sym, ap, ap₂, ◌∙◌, subst}
use mathlib.Core.Logic.{⊎_elim}
use mathlib.Core.Bool.{Bool, true, false, cond}
use mathlib.Core.List.{List, [], ◌∷◌, ◌++◌}
use Prim.Native.Nat.{ℕ, zero, suc, ◌+◌, ◌-◌, ◌*◌, ◌≤◌, ◌<◌}
use native.Mathlib.Omega.{arith}
use borrow.Author.Tests.{eq-eqb, eqb-true}
use lib.Dec.{eqb}
use lib.ListN.{length, take, drop, replicate}
use lib.Seq.{take_all}
use Rattle.paper.proofs.Logic.{by-test, lt-or-ge}
use Rattle.owners.specs.Recount.{first_fail}
use Rattle.owners.proofs.Scans.{FirstFault, first-is, first-only}
use Rattle.rota.specs.Moves.{Draw}
use Rattle.rota.specs.Plays.{owners_after}
use Rattle.rota.proofs.Plays.{draws-length, owners-append}
use Rattle.rota.specs.Replays.{agrees_at, agreeing, block_played}
use Rattle.job.specs.declared.Ending.TheVariants as ending
use Rattle.job.specs.Stages.{Ready}
use Rattle.job.specs.Shown.{last_line}
use Rattle.replay.specs.declared.BlockRead.{BlockRead}
use Rattle.replay.specs.declared.BlockRead.TheVariants as read
use Rattle.replay.specs.Reading.{blocks_most, fault_at, leading_draws, block_read, fields_of}
use Rattle.replay.specs.Text.{draws_in, recorded_in, board_in, shown_text, blocks_text}
use Rattle.replay.specs.Rule.{Shows, ends, refuses, differs, agrees}
use Rattle.replay.proofs.Records.{block-end, block-is, block-faulty}
use Rattle.replay.proofs.Streams.{is_read, place_in, after_in, text-by, body-agrees, body-differs}

-- the end is told only where nothing is left
end-only : (t : List ℕ) (blocks : ℕ) → block_read t blocks ≡ Ok read.End → t ≡ []
end-only [] blocks e = refl
end-only (b ∷ t) blocks e =
    let n = leading_draws (b ∷ t) blocks in
    let f = fault_at (b ∷ t) blocks n in
    let some : length (b ∷ t) ≡ 0 → ⊥ = λ q. omega arith in
    by-test (eqb f 0) _
    (λ z.
    let k : ◌≡◌ {A = Result BlockRead ℕ} (Ok (read.Block n (n * 12 + 4))) (Ok read.End) = block-is (b ∷ t) blocks n some refl f refl (eqb-true f 0 z) ∙ e in
    absurd (let w : ◌≡◌ {A = ℕ} 0 1 = cc in omega arith))
    (λ z.
    let k : ◌≡◌ {A = Result BlockRead ℕ} (Err f) (Ok read.End) =
    block-faulty (b ∷ t) blocks n some refl f refl (λ g. mathlib.Core.Bool.true≢false (sym (eq-eqb f 0 g) ∙ z)) ∙ e in
    absurd (let w : ◌≡◌ {A = ℕ} 0 1 = cc in omega arith))

module _ (R : Ready) (o : List ℕ) (so : List Draw) (t : List ℕ) (n : ℕ) where
  abbrev o' : List ℕ
  o' = owners_after (board_in R) o so

  many : length (draws_in t n) ≡ n
  many =
      draws-length (fields_of t 4 n (replicate 1024 0)) (fields_of t 6 n (replicate 1024 0)) (fields_of t 8 n (replicate 1024 0)) n

  -- the place of the definition is the first that differs, or the number of draws
  place_is : (p : ℕ) → FirstFault n (agrees_at (board_in R) o' (draws_in t n) (recorded_in t n)) p → p ≡ place_in R o' t n
  unfolding agreeing
  place_is p F =
      first-only n _ p F
      ∙ ap (λ (k : ℕ). first_fail k (agrees_at (board_in R) o' (draws_in t n) (recorded_in t n))) (sym many)

  first-in : FirstFault n (agrees_at (board_in R) o' (draws_in t n) (recorded_in t n)) (place_in R o' t n)
  unfolding agreeing
  first-in =
      subst (λ (k : ℕ). FirstFault n (agrees_at (board_in R) o' (draws_in t n) (recorded_in t n))
      (first_fail k (agrees_at (board_in R) o' (draws_in t n) (recorded_in t n)))) (sym many)
      (first-is n (agrees_at (board_in R) o' (draws_in t n) (recorded_in t n)))

  -- the owners after what is played of the block are those of all draws so far
  after_is : (p : ℕ) → p ≡ place_in R o' t n → owners_after (board_in R) o (so ++ take (suc p) (draws_in t n)) ≡ after_in R o' t n
  unfolding block_played
  after_is p e =
      owners-append (board_in R) o so (take (suc p) (draws_in t n))
      ∙ ap (λ (k : ℕ). owners_after (board_in R) o' (take (suc k) (draws_in t n))) e

  all_after : n ≡ place_in R o' t n → owners_after (board_in R) o (so ++ draws_in t n) ≡ after_in R o' t n
  all_after e =
      ap (λ (ds : List Draw). owners_after (board_in R) o (so ++ ds)) (sym (take_all (suc n) (draws_in t n) (omega (arith, many)))) ∙ after_is n e

-- what the rule shows is the text
pub shows-text : {R : Ready} {o : List ℕ} {block : ℕ} {so : List Draw} {t y : List ℕ} → Shows R o block so t y
    → (left : ℕ) → block + left ≡ blocks_most → y ≡ blocks_text left R (owners_after (board_in R) o so) t
shows-text {R} {o} (ends block so t e) left m =
    sym (text-by left block R (owners_after (board_in R) o so) t (Ok read.End) m (sym (block-end t block (ap length e))))
shows-text {R} {o} (refuses block so t k g) left m = sym (text-by left block R (owners_after (board_in R) o so) t (Err k) m g)
shows-text {R} {o} (differs block so t n next p g h before here) left m =
    let o' = owners_after (board_in R) o so in
    let I = is_read t block n next g in
    let fewer : ℕ = left - 1 in
    let less : left ≡ suc fewer = omega (arith, I.may) in
    let at : p ≡ place_in R o' t n =
    place_is R o so t n p (record { within = omega arith; before = before; fails = λ l. here }) in
    ap₂ (λ (w : List ℕ) (k : ℕ). shown_text block R w ++ last_line (ending.Differs block k)) (after_is R o so t n p at) at
    ∙ sym (ap (λ (k : ℕ). blocks_text k R o' t) less
    ∙ text-by (suc fewer) block R o' t (Ok (read.Block n next)) (omega arith) g ∙ body-differs fewer R o' t block n next (omega arith))
shows-text {R} {o} (agrees block so t n next y g every S) left m =
    let o' = owners_after (board_in R) o so in
    let I = is_read t block n next g in
    let fewer : ℕ = left - 1 in
    let less : left ≡ suc fewer = omega (arith, I.may) in
    let at : n ≡ place_in R o' t n =
    place_is R o so t n n (record { within = omega arith; before = every; fails = λ l. absurd (omega arith) }) in
    let rest = shows-text S fewer (omega arith) in
    let same = all_after R o so t n at in
    ap₂ (λ (w v : List ℕ). shown_text block R w ++ v) same (rest ∙ ap (λ (w : List ℕ). blocks_text fewer R w (drop next t)) same)
    ∙ sym (ap (λ (k : ℕ). blocks_text k R o' t) less
    ∙ text-by (suc fewer) block R o' t (Ok (read.Block n next)) (omega arith) g ∙ body-agrees fewer R o' t block n next (omega arith))

-- and the rule gives a text, whatever stands in the bytes
module _ (R : Ready) (o : List ℕ) where
  abbrev Given : ℕ → Type 0
  Given left =
      (block : ℕ) (so : List Draw) (t : List ℕ) → block + left ≡ blocks_most
      → Shows R o block so t (blocks_text left R (owners_after (board_in R) o so) t)

  -- by what stands at the front, and what follows a block
  shows-by : (left : ℕ) → ((fewer : ℕ) → left ≡ suc fewer → Given fewer) → (block : ℕ) (so : List Draw) (t : List ℕ) → block + left ≡ blocks_most
      → (q : Result BlockRead ℕ) → block_read t block ≡ q → Shows R o block so t (blocks_text left R (owners_after (board_in R) o so) t)
  shows-by left rest block so t m (Ok read.End) g =
      subst (λ (y : List ℕ). Shows R o block so t y) (sym (text-by left block R (owners_after (board_in R) o so) t (Ok read.End) m g))
      (ends block so t (end-only t block g))
  shows-by left rest block so t m (Err k) g =
      subst (λ (y : List ℕ). Shows R o block so t y) (sym (text-by left block R (owners_after (board_in R) o so) t (Err k) m g))
      (refuses block so t k g)
  shows-by zero rest block so t m (Ok (read.Block n next)) g = absurd (omega (arith, (is_read t block n next g).may))
  shows-by (suc left) rest block so t m (Ok (read.Block n next)) g =
      let o' = owners_after (board_in R) o so in
      let F : FirstFault n (agrees_at (board_in R) o' (draws_in t n) (recorded_in t n)) (place_in R o' t n) = first-in R o so t n in
      let whole = text-by (suc left) block R o' t (Ok (read.Block n next)) m g in
      ⊎_elim
      (λ (h : place_in R o' t n < n).
      subst (λ (y : List ℕ). Shows R o block so t y)
      (ap (λ (w : List ℕ). shown_text block R w ++ last_line (ending.Differs block (place_in R o' t n))) (after_is R o so t n (place_in R o' t n) refl)
      ∙ sym (whole ∙ body-differs left R o' t block n next h))
      (differs block so t n next (place_in R o' t n) g h F.before (F.fails h)))
      (λ (h : n ≤ place_in R o' t n).
      let at : n ≡ place_in R o' t n = omega (arith, F.within) in
      let same = all_after R o so t n at in
      subst (λ (y : List ℕ). Shows R o block so t y)
      (ap (λ (w : List ℕ). shown_text block R w ++ blocks_text left R w (drop next t)) same
      ∙ sym (whole ∙ body-agrees left R o' t block n next h))
      (agrees block so t n next _ g (λ i l. F.before i (omega arith)) (rest left refl (suc block) (so ++ draws_in t n) (drop next t) (omega arith))))
      (lt-or-ge (place_in R o' t n) n)

  pub text-shows : (left : ℕ) → Given left
  text-shows zero block so t m = shows-by zero (λ fewer e. absurd (omega arith)) block so t m (block_read t block) refl
  text-shows (suc left) block so t m = shows-by (suc left) (λ fewer e. subst Given (omega arith) (text-shows left)) block so t m (block_read t block) refl
