-- A recording's text, however the file comes in pieces. Assumes nothing.
use mathlib.Core.Path.{◌≡◌, refl, sym, ap, ap₂, ◌∙◌, subst}
use mathlib.Core.Logic.{◌⊎◌, inl, inr, ⊎_elim}
use mathlib.Core.Bool.{Bool, cond, ◌&&◌, ◌||◌}
use mathlib.Core.List.{List, [], ◌++◌, append-nil}
use Prim.Native.Nat.{ℕ, ◌+◌, ◌≤◌, ◌<◌}
use native.Mathlib.Omega.{arith}
use borrow.Author.Tests.{leb-true}
use lib.Dec.{leb, eqb}
use lib.ListN.{length, take, drop, replicate}
use lib.Seq.{take-append-le, length-take-le}
use Rattle.paper.specs.declared.Refusal.{Refusal}
use Rattle.paper.specs.Limits.{number_of}
use Rattle.paper.specs.Rows.{refusal_of}
use Rattle.paper.proofs.Logic.{by-test, both}
use Rattle.paper.proofs.Rows.{worked, kept, said}
use Rattle.owners.specs.Derived.{Derived}
use Rattle.owners.specs.Entries.{placeless}
use Rattle.owners.specs.Entries as state
use Rattle.records.specs.Fields.{le}
use Rattle.records.specs.Heads.{place_of}
use Rattle.rota.specs.Entries as rota
use Rattle.job.specs.declared.Ending.TheVariants as ending
use Rattle.job.specs.Listing.{listing_most, refusal_line}
use Rattle.job.specs.Stages.{Ready, draws_of, ready_of, owners_of, start_of, started_of, play_of}
use Rattle.job.specs.Outcome.{AllPass, job_tests}
use Rattle.job.specs.Shown.{last_line}
use Rattle.job.specs.Begun.{recorded_tests, ready_from, derived_from, no_ready, no_derived}
use Rattle.job.proofs.Tests.{number-none}
use Rattle.job.proofs.Answered.{numbered, sound, free}
use Rattle.job.proofs.Rotas.{play-refusal}
use Rattle.job.proofs.Begins.{recorded-job, too_long}
use Rattle.replay.specs.Reading.{blocks_most, head_stands, opens_blocks, job_heads, job_end}
use Rattle.replay.specs.Text.{blocks_text, replay_text}
use Rattle.replay.specs.Runs.{Window, Replays, refused, begun}
use Rattle.replay.proofs.Windows.{window-job}
use Rattle.replay.proofs.Fits.{Fit, fit-played}
use Rattle.replay.proofs.Streams.{writes-text}

-- ---- the rota that a job begins with

pub begin-fit : (j : List ℕ) → number_of (recorded_tests j) ≡ 0 → Fit (ready_of j) (owners_of j) (started_of j).derived
unfolding started_of play_of rota.played_list state.outcome
begin-fit j z =
    let R = ready_of j in
    let d = draws_of j in
    let o = owners_of j in
    let pass : AllPass (job_tests j listing_most) = (number-none (job_tests j listing_most) (numbered j listing_most)).0 (recorded-job j z) in
    let no = play-refusal R d o (sound j listing_most pass) (free j listing_most pass) in
    fit-played R o (start_of R o).derived d.count (rota.columns_enough d.count d.draws d.firsts d.seconds) (replicate 1024 0)
    (sym (said _ refl) ∙ no)

-- ---- the job's part of a window

pub end-most : (s : List ℕ) → job_end s ≤ length s
unfolding job_end opens_blocks head_stands
end-most s =
    let at : ℕ = place_of s (job_heads s) in
    let kinds : Bool = eqb (le 2 s (at + 2)) 8 || eqb (le 2 s (at + 2)) 9 in
    by-test (leb (at + 4) (length s) && kinds) _
    (λ t.
    let e : cond (leb (at + 4) (length s) && kinds) at (length s) ≡ at = ap (λ (b : Bool). cond b at (length s)) t in
    omega (arith, e, leb-true (at + 4) (length s) (both (leb (at + 4) (length s)) kinds t).0))
    (λ f.
    let e : cond (leb (at + 4) (length s) && kinds) at (length s) ≡ length s = ap (λ (b : Bool). cond b at (length s)) f in
    omega (arith, e))

abbrev job_in : List ℕ → List ℕ
job_in s = take (job_end s) s

job-length : (s : List ℕ) → length (job_in s) ≡ job_end s
job-length s = length-take-le (job_end s) s (end-most s)

-- it is the whole file's, or both are too long
same-job : (p r : List ℕ) → Window 49156 p r
    → ((job_end (p ++ r) ≡ job_end p) × (job_in (p ++ r) ≡ job_in p)) ⊎ ((49152 < length (job_in p)) × (49152 < length (job_in (p ++ r))))
same-job p r w =
    ⊎_elim
    (λ (e : r ≡ []).
    let s : p ++ r ≡ p = ap (λ (l : List ℕ). p ++ l) e ∙ append-nil p in
    inl (ap job_end s, ap job_in s))
    (λ (h : 49156 ≤ length p).
    ⊎_elim
    (λ (x : (job_end (p ++ r) ≡ job_end p) × (job_end p ≤ 49152)).
    inl (x.0, ap (λ (n : ℕ). take n (p ++ r)) x.0 ∙ take-append-le (job_end p) p r (end-most p)))
    (λ (x : (49152 < job_end p) × (49152 < job_end (p ++ r))).
    inr (omega (arith, x.0, job-length p), omega (arith, x.1, job-length (p ++ r))))
    (window-job p r h))
    w

-- ---- the text

module _ (s : List ℕ) where
  abbrev refusal : Refusal
  refusal = refusal_of (recorded_tests (job_in s))

  text-refused : (f : Refusal) → f ≡ refusal → (f.number ≡ 0 → ⊥) → last_line (ending.Refused f) ≡ replay_text s
  unfolding replay_text
  text-refused f e n =
      ap refusal_line e
      ∙ sym (kept refusal.number (refusal_line refusal) _ (λ z. n (ap (λ (g : Refusal). g.number) e ∙ z)))

  text-begun : refusal.number ≡ 0
      → blocks_text blocks_most (ready_of (job_in s)) (owners_of (job_in s)) (drop (job_end s) s) ≡ replay_text s
  unfolding replay_text
  text-begun z = sym (worked refusal.number _ _ z)

-- whatever the windows and the buffers, the text of the file is written, and nothing else
pub replays-text : {s y : List ℕ} → Replays s y → y ≡ replay_text s
replays-text (refused p r b w B n) =
    ⊎_elim
    (λ (x : (job_end (p ++ r) ≡ job_end p) × (job_in (p ++ r) ≡ job_in p)).
    text-refused (p ++ r) b.refusal (B.refusal ∙ ap (λ (j : List ℕ). refusal_of (recorded_tests j)) (sym x.1)) n)
    (λ (x : (49152 < length (job_in p)) × (49152 < length (job_in (p ++ r)))).
    text-refused (p ++ r) b.refusal (B.refusal ∙ too_long (job_in p) x.0 ∙ sym (too_long (job_in (p ++ r)) x.1)) n)
    (same-job p r w)
replays-text (begun p r b text w B z W) =
    let j = job_in p in
    ⊎_elim
    (λ (x : (job_end (p ++ r) ≡ job_end p) × (job_in (p ++ r) ≡ job_in p)).
    let ready : ready_from b ≡ ready_of j = B.ready ∙ worked b.refusal.number no_ready (ready_of j) z in
    let owners : b.owners ≡ owners_of j = B.owners ∙ worked b.refusal.number (replicate 1024 0) (owners_of j) z in
    let derived : derived_from b ≡ (started_of j).derived = B.derived ∙ worked b.refusal.number no_derived (started_of j).derived z in
    let none : (refusal_of (recorded_tests j)).number ≡ 0 = sym (ap (λ (f : Refusal). f.number) B.refusal) ∙ z in
    let fit : Fit (ready_of j) (owners_of j) (started_of j).derived = begin-fit j (sym (said (recorded_tests j) refl) ∙ none) in
    let F : Fit (ready_from b) b.owners (derived_from b) =
    subst (λ (R : Ready). Fit R b.owners (derived_from b)) (sym ready)
    (subst (λ (o : List ℕ). Fit (ready_of j) o (derived_from b)) (sym owners)
    (subst (λ (D : Derived). Fit (ready_of j) (owners_of j) D) (sym derived) fit)) in
    let T : b.people ≤ length b.targets = omega (arith, B.targets-room, F.on.sound.people-few) in
    writes-text F T W blocks_most (omega arith)
    ∙ ap₂ (λ (R : Ready) (o : List ℕ). blocks_text blocks_most R o (drop (job_end p) (p ++ r))) ready owners
    ∙ ap₂ (λ (i : List ℕ) (e : ℕ). blocks_text blocks_most (ready_of i) (owners_of i) (drop e (p ++ r))) (sym x.1) (sym x.0)
    ∙ text-begun (p ++ r) (ap (λ (i : List ℕ). (refusal_of (recorded_tests i)).number) x.1 ∙ none))
    (λ (x : (49152 < length (job_in p)) × (49152 < length (job_in (p ++ r)))).
    let k : 0 ≡ 13 = sym z ∙ ap (λ (f : Refusal). f.number) (B.refusal ∙ too_long (job_in p) x.0) in
    absurd (omega (arith, k)))
    (same-job p r w)
