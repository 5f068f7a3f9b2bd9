-- What a job promises, each by name, of every file and every lent listing. Assumes nothing.
use Rattle.std.specs.Prelude.{Result, Ok, Err}
use mathlib.Core.Path.{◌≡◌, refl, sym, ap, ap₂, ◌∙◌}
use mathlib.Core.Logic.{◌↔◌}
use mathlib.Core.Bool.{true, not, ◌&&◌, ◌||◌}
use mathlib.Core.List.{List, [], ◌++◌}
use Prim.Native.Nat.{ℕ, ◌+◌, ◌-◌, ◌*◌, ◌^◌, ◌≤◌, ◌<◌}
use native.Mathlib.Nat.{pos_of_ne-zero}
use native.Mathlib.Omega.{arith}
use borrow.Author.Tests.{eq-eqb, eqb-true, eqb-false, leb-false, not-true}
use lib.Dec.{eqb, lit<, lit≤}
use lib.IntN.{pos}
use lib.ListN.{length, get_or, take, drop}
use lib.Seq.{take_at, drop_at}
use Rattle.paper.specs.Limits.{nobody, number_of}
use Rattle.paper.specs.declared.Refusal.{Refusal}
use Rattle.paper.specs.Rows.{refusal_of}
use Rattle.paper.proofs.Rows.{said}
use Rattle.paper.specs.Count.{sum, all}
use Rattle.paper.proofs.Logic.{by-test, both, or_right}
use Rattle.paper.proofs.Count.{all-each, sum-part, sum_same}
use Rattle.slots.proofs.LentLaws.{slots-sound}
use Rattle.targets.specs.Remainder.{sumℤ}
use Rattle.owners.specs.Derived.{known_by, uncovered}
use Rattle.owners.proofs.Minutes.{known-below}
use Rattle.owners.specs.Recount.{available_for}
use Rattle.records.specs.Fields.{le}
use Rattle.records.specs.Records.{bodies}
use Rattle.records.specs.Puts.{put}
use Rattle.job.specs.Listing.{digits, listing_of, listing_most}
use Rattle.job.specs.Digits.{read_digits}
use Rattle.job.specs.File.{JobFile}
use Rattle.job.specs.Stages.{counted, block_start, instant_of, draws_of, base_total, ready_of, owners_of, plan_of, started_of, played_of}
use Rattle.job.specs.Stages.{uneven_of, listed_of}
use Rattle.job.specs.Outcome.{read_row, prepare_row, job_tests, test_at, Lowest, AllPass, refusal_at, Outcome, refused_as, listed_as, Ends, job_result}
use Rattle.job.proofs.Tests.{number-none, number-lowest}
use Rattle.job.proofs.Answered.{numbered, rising, free, sound, demand-is, targets-right, frozen-there}
use Rattle.job.proofs.Results.{answered-none, answered-some, job-refusal}
use Rattle.job.proofs.Digits.{digits_value}
use Rattle.job.proofs.Layouts.{counts-read, fields_read}
use Rattle.job.proofs.Rotas as rotas
use Rattle.job.proofs.Plays as plays
use Rattle.job.proofs.Lengths as lengths
use Rattle.job.proofs.Lengths.{Fields}

-- a known owner is a byte
known-byte : (people w : ℕ) → people ≤ 32 → known_by people w ≡ true → w < 2 ^ 8
known-byte people w few k =
    by-test (eqb w nobody) _ (λ t. omega (arith, eqb-true w nobody t))
    (λ f. omega (arith, known-below people w k (eqb-false w nobody f)))

-- ---- only one outcome fits

pub one-job : (y : Outcome) (r q : Result ℕ Refusal) (x z : List ℕ) → Ends y r x → Ends y q z → (r ≡ q) × (x ≡ z)
one-job y r q x z A B = (A.said ∙ sym B.said, A.left ∙ sym B.left)

-- ---- what is answered

module _ (s x : List ℕ) where
  -- a refusal is that of the first test that fails
  refused-is : (f : Refusal) → (job_result s x).answer ≡ Err f
      → (refusal_of (job_tests s (length x)) ≡ f) × (0 < f.number)
  unfolding listed_as refused_as
  refused-is f e =
      by-test (eqb (number_of (job_tests s (length x))) 0) _
      (λ t.
      let p = ap (λ (y : Outcome). y.answer) (answered-none s x (eqb-true _ 0 t)) in
      let z : ◌≡◌ {A = ℕ} 0 1 = cc in
      absurd (omega arith))
      (λ t.
      let p = ap (λ (y : Outcome). y.answer) (answered-some s x (eqb-false _ 0 t)) in
      let q : refusal_of (job_tests s (length x)) ≡ f = cc in
      (q, pos_of_ne-zero (λ z. eqb-false _ 0 t (sym (said (job_tests s (length x)) (sym q)) ∙ z))))

  refused-number : (f : Refusal) → (job_result s x).answer ≡ Err f
      → (number_of (job_tests s (length x)) ≡ f.number) × (0 < f.number)
  refused-number f e = let h = refused-is f e in (sym (said (job_tests s (length x)) (sym h.0)), h.1)

  -- a listing comes only where none does
  listed-none : (n : ℕ) → (job_result s x).answer ≡ Ok n → number_of (job_tests s (length x)) ≡ 0
  unfolding refused_as
  listed-none n e =
      by-test (eqb (number_of (job_tests s (length x))) 0) _ (λ t. eqb-true _ 0 t)
      (λ f.
      let p = ap (λ (y : Outcome). y.answer) (answered-some s x (eqb-false _ 0 f)) in
      let z : ◌≡◌ {A = ℕ} 0 1 = cc in
      absurd (omega arith))

  -- a refusal leaves the lent listing as it was
  pub refused-keeps : (f : Refusal) (out : List ℕ) → Ends (job_result s x) (Err f) out → out ≡ x
  unfolding refused_as
  refused-keeps f out E =
      let h = refused-number f (sym E.said) in
      E.left ∙ ap (λ (y : Outcome). y.out) (answered-some s x (λ z. omega (arith, h.0, h.1)))

  -- the lowest number is given, 13 before all: a refusal is given exactly where its number is the lowest of the tests that fail, and it
  -- is the refusal of that number
  pub lowest-number : (f : Refusal) → ((job_result s x).answer ≡ Err f)
      ↔ (Lowest (job_tests s (length x)) f.number × (f ≡ refusal_at f.number (uneven_of s)))
  unfolding refused_as
  lowest-number f =
      let ts = job_tests s (length x) in
      let law = number-lowest 0 ts (rising s (length x)) (numbered s (length x)) f.number in (
        λ e.
            let h = refused-number f e in
            (law.0 h, sym (refused-is f e).0 ∙ job-refusal s x ∙ ap (λ (n : ℕ). refusal_at n (uneven_of s)) h.0),
        λ L.
            let h = law.1 L.0 in
            let q : refusal_of ts ≡ f = job-refusal s x ∙ ap (λ (n : ℕ). refusal_at n (uneven_of s)) h.0 ∙ sym L.1 in
            ap (λ (y : Outcome). y.answer) (answered-some s x (λ z. omega (arith, h.0, h.1))) ∙ ap Err q,
      )

  -- and a listing is given exactly where all pass, with its length
  pub accepted-exactly : (n : ℕ) → ((job_result s x).answer ≡ Ok n)
      ↔ (AllPass (job_tests s (length x)) × (n ≡ length (listing_of (listed_of s))))
  unfolding listed_as
  accepted-exactly n =
      let law = number-none (job_tests s (length x)) (numbered s (length x)) in (
        λ e.
            let h = listed-none n e in
            let p = ap (λ (y : Outcome). y.answer) (answered-none s x h) in
            (law.0 h, cc),
        λ A. ap (λ (y : Outcome). y.answer) (answered-none s x (law.1 A.0)) ∙ ap Ok (sym A.1),
      )

  -- 8 and 9 are never given
  pub eight-nine-never : (f : Refusal) → (job_result s x).answer ≡ Err f → (f.number ≡ 8 → ⊥) × (f.number ≡ 9 → ⊥)
  unfolding job_tests read_row prepare_row all
  eight-nine-never f e =
      let L = ((lowest-number f).0 e).0 in
      let ts = job_tests s (length x) in
      let t = both (not (eqb (test_at ts L.place).number 8)) (not (eqb (test_at ts L.place).number 9))
      (all-each 11 (λ k. not (eqb (test_at ts k).number 8) && not (eqb (test_at ts k).number 9)) refl L.place L.within) in (
        λ z. eqb-false _ 8 (not-true _ t.0) (L.number ∙ z),
        λ z. eqb-false _ 9 (not-true _ t.1) (L.number ∙ z),
      )

  -- 2 is given only where the lent listing is too short
  pub two-short : (f : Refusal) → (job_result s x).answer ≡ Err f → f.number ≡ 2 → length x < listing_most
  unfolding job_tests read_row prepare_row all
  two-short f e two =
      let L = ((lowest-number f).0 e).0 in
      let ts = job_tests s (length x) in
      let z = eqb-true L.place 2 (or_right (not (eqb (test_at ts L.place).number 2)) (eqb L.place 2)
      (all-each 11 (λ k. not (eqb (test_at ts k).number 2) || eqb k 2) refl L.place L.within)
      (ap not (eq-eqb _ 2 (L.number ∙ two)))) in
      leb-false listing_most (length x) (sym (ap (λ (k : ℕ). (test_at ts k).passes) z) ∙ L.fails)

  -- ---- an accepted job

  module _ (n : ℕ) (e : (job_result s x).answer ≡ Ok n) where
    -- the listing, by the file alone
    pub listing-is : job_result s x ≡ listed_as (listing_of (listed_of s)) x
    listing-is = answered-none s x (listed-none n e)

    -- it stands at the front of the lent listing, n bytes of it, and what lies past them is as it was
    pub listing-stands : (take n (job_result s x).out ≡ listing_of (listed_of s)) × (drop n (job_result s x).out ≡ drop n x)
    unfolding listed_as put
    listing-stands =
        let l = listing_of (listed_of s) in
        let z : length l ≡ n = sym ((accepted-exactly n).0 e).1 in
        let k : 0 + length l ≡ n = omega arith in
        let o : (job_result s x).out ≡ l ++ drop (0 + length l) x = ap (λ (y : Outcome). y.out) listing-is in
        (ap (take n) o ∙ take_at l _ n z, ap (drop n) o ∙ drop_at l _ n z ∙ ap (λ (j : ℕ). drop j x) k)

    pass : AllPass (job_tests s (length x))
    pass = ((accepted-exactly n).0 e).0

    -- the play is never refused
    not-refused : (played_of s).refusal.number ≡ 0
    unfolding played_of started_of
    not-refused = rotas.play-refusal (ready_of s) (draws_of s) (owners_of s) (sound s (length x) pass) (free s (length x) pass)

    -- U is the minutes of the slots that nobody owns after the draws
    pub uncovered-is : (listed_of s).uncovered ≡ uncovered (plan_of (ready_of s)) (played_of s).owners
    unfolding listed_of played_of
    uncovered-is = plays.uncovered-is (ready_of s) (draws_of s) (owners_of s) (started_of s).derived not-refused

    -- P minutes and U add up to the total of the base slots in the file
    pub total : sum (listed_of s).people (λ p. get_or (listed_of s).minutes p 0) + (listed_of s).uncovered ≡ base_total s
    unfolding listed_of played_of started_of
    total =
        plays.total-after (ready_of s) (draws_of s) (owners_of s) (started_of s).derived not-refused ∙ demand-is s (length x) pass

    -- and so do they before the draws
    pub total-before : sum (listed_of s).people (λ p. get_or (started_of s).derived.minutes p 0)
        + get_or (started_of s).derived.totals 0 0 ≡ base_total s
    unfolding listed_of started_of
    total-before =
        rotas.total-before (ready_of s) (draws_of s) (owners_of s) (sound s (length x) pass) (free s (length x) pass)
        ∙ demand-is s (length x) pass

    -- each of these numbers is at most 100,000,000, so that its digits read back: the total as it stands in the bytes of the listing
    total-small : base_total s ≤ 100000000
    total-small =
        let R = ready_of s in
        omega (
          arith,
          demand-is s (length x) pass,
          (slots-sound R.slots R.starts R.ends (sound s (length x) pass).lent).demand-fits,
        )

    pub total-read : sum (listed_of s).people (λ p. read_digits (digits (get_or (listed_of s).minutes p 0)))
        + read_digits (digits (listed_of s).uncovered) ≡ base_total s
    total-read =
        let L = listed_of s in
        let m : ℕ → ℕ = λ p. get_or L.minutes p 0 in
        ap₂ ◌+◌
        (sum_same L.people (λ p. read_digits (digits (m p))) m
        (λ p h. digits_value (m p) (omega (arith, total, total-small, sum-part L.people p m h))))
        (digits_value L.uncovered (omega (arith, total, total-small)))
        ∙ total

    -- the targets that are listed add up to it too
    pub targets-total : sumℤ (take (listed_of s).people (listed_of s).targets) ≡ pos (base_total s)
    unfolding listed_of
    targets-total = (targets-right s (length x) pass).0 ∙ ap pos (demand-is s (length x) pass)

    -- no listing is longer than the room that 2 asks for
    fields : Fields (listed_of s)
    unfolding listed_of played_of started_of
    fields =
        let R = ready_of s in
        let D = (started_of s).derived in
        let no = not-refused in
        let P = plays.plan-right R (draws_of s) (owners_of s) D no in
        let start : (k : ℕ) → k < R.slots → get_or R.starts k 0 < 2 ^ 32 =
        λ k h. omega (arith, P.lent.ordered k h, P.lent.capped k h) in
        record {
          slots-few = P.slots-few;
          people-few = P.people-few;
          draws-few = plays.draws-few R (draws_of s) (owners_of s) D no;
          starts = start;
          ends = λ k h. omega (arith, P.lent.capped k h);
          owners = λ k h. known-byte R.people _ P.people-few (plays.owners-fit R (draws_of s) (owners_of s) D no k h).0;
          minutes = λ p h. omega (arith, total, total-small, sum-part R.people p (λ q. get_or (listed_of s).minutes q 0) h);
          targets = (targets-right s (length x) pass).1;
          uncovered = omega (arith, total, total-small);
        }

    pub listing-fits : n ≤ listing_most
    listing-fits = omega (arith, ((accepted-exactly n).0 e).1, lengths.listing-fits (listed_of s) fields)

    -- ---- what the draws keep, slot by slot: the owners listed, beside those of the file's records

    -- a slot that ends by the instant of the freeze record keeps its owner
    pub frozen-keeps : (counted s 4 ≡ 0 → ⊥) → (k : ℕ) → k < (listed_of s).slots
        → get_or (listed_of s).ends k 0 ≤ instant_of s → get_or (listed_of s).owners k 0 ≡ get_or (owners_of s) k 0
    unfolding listed_of played_of started_of
    frozen-keeps some k h b =
        plays.frozen-keeps (ready_of s) (draws_of s) (owners_of s) (started_of s).derived not-refused k h
        (eq-eqb _ 1 (frozen-there s (length x) pass some k h b))

    -- a covered slot stays covered
    pub stays-covered : (k : ℕ) → k < (listed_of s).slots → (get_or (owners_of s) k 0 ≡ nobody → ⊥) → get_or (listed_of s).owners k 0 ≡
        nobody → ⊥
    unfolding listed_of played_of started_of
    stays-covered k h = plays.stays-covered (ready_of s) (draws_of s) (owners_of s) (started_of s).derived not-refused k h

    -- every owner is nobody, or known and available
    pub owners-fit : (k : ℕ) → k < (listed_of s).slots
        → (known_by (listed_of s).people (get_or (listed_of s).owners k 0) ≡ true)
        × (available_for (ready_of s).avail (get_or (listed_of s).owners k 0) k ≡ true)
    unfolding listed_of played_of started_of
    owners-fit k h = plays.owners-fit (ready_of s) (draws_of s) (owners_of s) (started_of s).derived not-refused k h

-- the total, over the records of the file
pub base-total-read : (s : List ℕ) (J : JobFile s)
    → base_total s
    ≡ sum (length (bodies 2 J.records)) (λ k. le 4 (get_or (bodies 2 J.records) k []) 4 - le 4 (get_or (bodies 2 J.records) k []) 0)
unfolding base_total
base-total-read s J =
    let at = block_start s 1 in
    let n = counts-read s J 1 (lit< tt) in
    let entry : (off k : ℕ) → off + 4 ≤ 8 → k < counted s 1
    → le 4 s (at + (4 + off) + k * 12) ≡ le 4 (get_or (bodies 2 J.records) k []) off =
    λ off k r h.
    let z : at + (4 + off) + k * 12 ≡ at + k * 12 + (4 + off) = omega arith in
    ap (le 4 s) z ∙ fields_read s J 1 k off 4 (lit< tt) (omega (arith, n)) r in
    sum_same (counted s 1) _ (λ k. le 4 (get_or (bodies 2 J.records) k []) 4 - le 4 (get_or (bodies 2 J.records) k []) 0)
    (λ k h. ap₂ ◌-◌ (entry 4 k (lit≤ tt) h) (entry 0 k (lit≤ tt) h))
    ∙ ap (λ (m : ℕ). sum m (λ k. le 4 (get_or (bodies 2 J.records) k []) 4 - le 4 (get_or (bodies 2 J.records) k []) 0)) n
