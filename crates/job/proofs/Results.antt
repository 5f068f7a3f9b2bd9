-- What a job comes to, by what its stages returned. Assumes nothing.
use Rattle.std.specs.Prelude.{Ok, Err}
use mathlib.Core.Path.{◌≡◌, refl, sym, ap, ap₂, ◌∙◌, subst}
use mathlib.Core.List.{List}
use Prim.Native.Nat.{ℕ, ◌^◌, ◌<◌}
use native.Mathlib.Omega.{arith}
use lib.Dec.{leb, lit<}
use lib.IntN.{pos}
use lib.Signed.{mag}
use lib.ListN.{length, get_or}
use Rattle.paper.specs.Limits.{Test, number_of}
use Rattle.paper.specs.declared.Refusal.{Refusal}
use Rattle.paper.specs.Rows.{refusal_of}
use Rattle.paper.proofs.Rows.{said, worked, kept}
use Rattle.owners.specs.Derived.{Derived, derived}
use Rattle.owners.specs.Entries as state
use Rattle.owners.proofs.RecountRefusals.{first_stops}
use Rattle.records.specs.Puts.{Wrote}
use Rattle.job.specs.declared.Prepared.{Prepared}
use Rattle.job.specs.declared.Played.{Played}
use Rattle.job.specs.File.{file_ok}
use Rattle.job.specs.Listing.{Listed, listed, listing_of, listing_most}
use Rattle.job.specs.Stages.{counted, people_of, draws_of, Ready, ready_of, owners_of, started_of, play_of, played_of, listed_of}
use Rattle.job.specs.Stages.{uneven_of}
use Rattle.job.specs.Outcome.{AllPass, read_row, prepare_row, job_tests, refusal_at, Outcome, refused_as, listed_as, job_result, Ends}
use Rattle.job.specs.Inside.{PlayedIn, PlayedAs, ready_by, PreparedIn}
use Rattle.job.proofs.Tests.{Numbered, number-none, refusal-by, rest-number}
use Rattle.job.proofs.Rotas.{play-refusal}
use Rattle.job.proofs.Answered.{numbered, prepare-refusal, targets-right, sound, free}

-- ---- what is answered

module _ (s x : List ℕ) where
  -- no test fails: the listing
  pub answered-none : number_of (job_tests s (length x)) ≡ 0 → job_result s x ≡ listed_as (listing_of (listed_of s)) x
  unfolding job_result
  answered-none e = worked _ _ (listed_as (listing_of (listed_of s)) x) (said (job_tests s (length x)) refl ∙ e)

  -- one fails: its refusal, and the lent listing as it was
  pub answered-some : (number_of (job_tests s (length x)) ≡ 0 → ⊥) → job_result s x ≡ refused_as (refusal_of (job_tests s (length x))) x
  unfolding job_result
  answered-some n = kept _ (refused_as (refusal_of (job_tests s (length x))) x) _ (λ z. n (sym (said (job_tests s (length x)) refl) ∙ z))

  refused-is : (f : Refusal) → f ≡ refusal_of (job_tests s (length x)) → (f.number ≡ 0 → ⊥) → Ends (job_result s x) (Err f) x
  unfolding refused_as
  refused-is f e h =
      let t = answered-some (λ z. h (said (job_tests s (length x)) e ∙ z)) in
      record {
        said = ap Err e ∙ sym (ap (λ (y : Outcome). y.answer) t);
        left = sym (ap (λ (y : Outcome). y.out) t);
      }

  abbrev read_tests : List Test
  read_tests = read_row (file_ok s) (counted s 1) (people_of s) (counted s 3) (counted s 6) (leb listing_most (length x))

  read-numbered : Numbered (read_row (file_ok s) (counted s 1) (people_of s) (counted s 3) (counted s 6) (leb listing_most (length x)))
  unfolding read_row
  read-numbered = (lit< tt, (lit< tt, (lit< tt, tt)))

  -- a refusal before the file is worked on, and one of what stands in it
  pub read-refused : (f : Refusal) → f ≡ refusal_of read_tests → (f.number ≡ 0 → ⊥) → Ends (job_result s x) (Err f) x
  unfolding job_tests
  read-refused f e h = refused-is f (e ∙ sym (first_stops read_tests (prepare_row s) (λ z. h (said read_tests e ∙ z)))) h

  -- each refusal of a job is the one of its number
  pub job-refusal : refusal_of (job_tests s (length x)) ≡ refusal_at (number_of (job_tests s (length x))) (uneven_of s)
  unfolding job_tests read_row prepare_row refusal_at
  job-refusal =
      refusal-by (λ n. refusal_at n (uneven_of s)) refl (job_tests s (length x))
      (refl, (refl, (refl, (refl, (refl, (refl, (refl, (refl, (refl, (refl, (refl, tt)))))))))))

  pub prepare-refused : (f : Refusal) → number_of read_tests ≡ 0 → f ≡ refusal_of (prepare_row s) → (f.number ≡ 0 → ⊥)
      → Ends (job_result s x) (Err f) x
  unfolding job_tests
  prepare-refused f z e h =
      let k : number_of (prepare_row s) ≡ number_of (job_tests s (length x)) = rest-number read_tests (prepare_row s) read-numbered z in
      refused-is f (e ∙ prepare-refusal s ∙ ap (λ (n : ℕ). refusal_at n (uneven_of s)) k ∙ sym job-refusal) h

  -- ---- the listing

  module _ (p : Prepared) (z : number_of read_tests ≡ 0) (P : PreparedIn s p) where
    none : number_of (job_tests s (length x)) ≡ 0
    unfolding job_tests
    none = sym (rest-number _ (prepare_row s) read-numbered z) ∙ P.passes

    pass : AllPass (job_tests s (length x))
    pass = (number-none (job_tests s (length x)) (numbered s (length x))).0 none

    pub targets-fit : (k : ℕ) → k < p.people → mag (get_or p.targets k (pos 0)) < 2 ^ 63
    targets-fit =
        subst (λ (R : Ready). (k : ℕ) → k < R.people → mag (get_or R.targets k (pos 0)) < 2 ^ 63) (sym P.ready)
        (targets-right s (length x) pass).1

    played-is : play_of (ready_by p) (draws_of s) p.owners (derived p.sets p.minutes p.totals) ≡ played_of s
    unfolding played_of
    played-is =
        ap₂ (λ (R : Ready) (o : List ℕ). play_of R (draws_of s) o (derived p.sets p.minutes p.totals)) P.ready P.owners
        ∙ ap (λ (D : Derived). play_of (ready_of s) (draws_of s) (owners_of s) D) P.derived

    -- the play is never refused
    never-refused : (played_of s).refusal.number ≡ 0
    unfolding played_of started_of
    never-refused = play-refusal (ready_of s) (draws_of s) (owners_of s) (sound s (length x) pass) (free s (length x) pass)

    pub play-fits : (f : Refusal) → PlayedAs (play_of (ready_by p) (draws_of s) p.owners (derived p.sets p.minutes p.totals)) (Err f) → ⊥
    play-fits f R = R.1 (ap (λ (v : Refusal). v.number) R.0 ∙ ap (λ (r : state.Outcome). r.refusal.number) played-is ∙ never-refused)

    module _ (y : Played) (Y : PlayedIn (play_of (ready_by p) (draws_of s) p.owners (derived p.sets p.minutes p.totals)) y) where
      Z : PlayedIn (played_of s) y
      Z = subst (λ (r : state.Outcome). PlayedIn r y) played-is Y

      -- what is listed, by what a play goes by and what it left
      abbrev listed_by : Ready → List ℕ → List ℕ → List ℕ → List ℕ → Listed
      listed_by R o m t a =
          listed R.slots R.starts R.ends o R.people m R.targets (draws_of s).count a (get_or t 0 0)

      listed-is : listed_by (ready_by p) y.owners y.minutes y.totals y.answers ≡ listed_of s
      unfolding listed_of
      listed-is =
          let R = ready_of s in
          let r = played_of s in
          ap₂ (λ (Q : Ready) (o : List ℕ). listed_by Q o y.minutes y.totals y.answers) P.ready Z.owners
          ∙ ap₂ (λ (m t : List ℕ). listed_by R r.owners m t y.answers) Z.minutes Z.totals
          ∙ ap (listed_by R r.owners r.derived.minutes r.derived.totals) Z.answers

      pub job-listed : (d n : ℕ) (out : List ℕ) → d ≡ counted s 6
          → Wrote (listing_of (listed p.slots p.starts p.ends y.owners p.people y.minutes p.targets d y.answers
          (get_or y.totals 0 0))) 0 x n out → Ends (job_result s x) (Ok n) out
      unfolding listed_as draws_of
      job-listed d n out q w =
          let l = ap (λ (c : ℕ). listing_of (listed p.slots p.starts p.ends y.owners p.people y.minutes p.targets c
          y.answers (get_or y.totals 0 0))) q ∙ ap listing_of listed-is in
          let v = subst (λ (t : List ℕ). Wrote t 0 x n out) l w in
          let t = answered-none none in
          let m : n ≡ length (listing_of (listed_of s)) = omega (arith, v.ends) in
          record {
            said = ap Ok m ∙ sym (ap (λ (r : Outcome). r.answer) t);
            left = v.text ∙ sym (ap (λ (r : Outcome). r.out) t);
          }
