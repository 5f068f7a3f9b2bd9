-- What the job of a recording comes to, by what its stages returned. Assumes nothing.
use mathlib.Core.Path.{◌≡◌, refl, sym, ap, ap₂, ◌∙◌}
use mathlib.Core.Bool.{Bool, true, false, cond, ◌&&◌}
use mathlib.Core.List.{List, ◌++◌}
use Prim.Native.Nat.{ℕ, ◌<◌}
use native.Mathlib.Omega.{arith}
use borrow.Author.Tests.{eqb-true, le-leb}
use lib.Dec.{eqb, lit<}
use lib.IntN.{ℤ}
use lib.ListN.{length, get_or, replicate}
use Rattle.paper.specs.Limits.{Test, number_of}
use Rattle.paper.specs.declared.Refusal.{Refusal}
use Rattle.paper.specs.Rows.{accepted, refusal_of}
use Rattle.paper.proofs.Rows.{said, worked, kept, passed}
use Rattle.paper.proofs.Logic.{by-test, both}
use Rattle.owners.proofs.RecountRefusals.{first_stops}
use Rattle.job.specs.declared.Begun.{Begun}
use Rattle.job.specs.declared.Prepared.{Prepared}
use Rattle.owners.specs.Entries.{placeless}
use Rattle.records.proofs.Walks.{walk-long}
use Rattle.job.specs.File.{file_ok, file_most, job_layout, job_counts, job_starts}
use Rattle.job.specs.Listing.{listing_most}
use Rattle.job.specs.Stages.{counted, people_of, ready_of, owners_of, started_of, uneven_of}
use Rattle.job.specs.Outcome.{read_row, prepare_row, job_tests, refusal_at}
use Rattle.job.specs.Inside.{ReadOk, PreparedIn}
use Rattle.job.specs.Begun.{recorded_ok, begun_tests, recorded_tests, no_ready, no_derived, Blank, Copied, BegunIn}
use Rattle.job.proofs.Tests.{Numbered, number_append, refusal-by, rest-number}
use Rattle.job.proofs.Answered.{prepare-refusal}
use Rattle.job.proofs.Readings.{read_ok}

-- ---- the tests

-- where a row gives no number, its first tests give none
number-front : (ts us : List Test) → Numbered ts → number_of (ts ++ us) ≡ 0 → number_of ts ≡ 0
number-front ts us N z =
    by-test (eqb (number_of ts) 0) _
    (λ t. eqb-true _ _ t)
    (λ f. sym (ap (λ (b : Bool). cond b (number_of us) (number_of ts)) f) ∙ sym (number_append ts us N) ∙ z)

module _ (s : List ℕ) (room : Bool) where
  abbrev read_tests : List Test
  read_tests = read_row (recorded_ok s) (counted s 1) (people_of s) (counted s 3) (counted s 6) room

  read-numbered : Numbered (read_row (recorded_ok s) (counted s 1) (people_of s) (counted s 3) (counted s 6) room)
  unfolding read_row
  read-numbered = (lit< tt, (lit< tt, (lit< tt, tt)))

  -- each refusal is the one of its number
  recorded-refusal : refusal_of (begun_tests s room) ≡ refusal_at (number_of (begun_tests s room)) (uneven_of s)
  unfolding begun_tests read_row prepare_row refusal_at
  recorded-refusal =
      refusal-by (λ n. refusal_at n (uneven_of s)) refl (begun_tests s room)
      (refl, (refl, (refl, (refl, (refl, (refl, (refl, (refl, (refl, (refl, (refl, tt)))))))))))

  -- no test of the reading fails: the layout is right, and there is no draw
  pub reading-right : number_of read_tests ≡ 0 → (file_ok s ≡ true) × (eqb (counted s 6) 0 ≡ true)
  unfolding read_row recorded_ok
  reading-right z = both (file_ok s) (eqb (counted s 6) 0) (passed read_tests refl z 0)

  -- no test of the file fails: there is room
  pub reading-room : number_of (begun_tests s room) ≡ 0 → room ≡ true
  unfolding begun_tests read_row
  reading-room z = passed read_tests refl (number-front read_tests (prepare_row s) read-numbered z) 2

-- with room, the tests are then those of the same file as a job's
pub recorded-job : (s : List ℕ) → number_of (recorded_tests s) ≡ 0 → number_of (job_tests s listing_most) ≡ 0
unfolding begun_tests job_tests recorded_ok
recorded-job s z =
    let row : Bool → Bool → List Test = λ right room. read_row right (counted s 1) (people_of s) (counted s 3) (counted s 6) room ++ prepare_row s in
    let n : number_of (read_tests s true) ≡ 0 = number-front (read_tests s true) (prepare_row s) (read-numbered s true) z in
    let x = reading-right s true n in
    let e : file_ok s && eqb (counted s 6) 0 ≡ file_ok s = ap₂ (λ (a b : Bool). a && b) x.0 x.1 ∙ sym x.0 in
    ap₂ (λ (right room : Bool). number_of (row right room)) (sym e) (le-leb listing_most listing_most (omega arith)) ∙ z

refusal-zero : (u : ℕ) → refusal_at 0 u ≡ accepted
unfolding refusal_at
refusal-zero u = refl

-- ---- what was read

module _ (s c b : List ℕ) (ok right room : Bool) (f : Refusal) (o : ok ≡ file_ok s) (r : right ≡ ok && eqb (get_or c 6 0) 0) (g : c ≡ job_counts s)
    (q : b ≡ job_starts s) (e : f ≡ refusal_of (read_row right (get_or c 1 0) (get_or c 2 0) (get_or c 3 0) (get_or c 6 0) room)) where
  pub reads_as : f ≡ refusal_of (read_tests s room)
  unfolding recorded_ok
  reads_as =
      let row : List ℕ → Bool → List Test = λ l v. read_row (v && eqb (get_or l 6 0) 0) (get_or l 1 0) (get_or l 2 0) (get_or l 3 0) (get_or l 6 0) room in
      e ∙ ap (λ (v : Bool). refusal_of (read_row v (get_or c 1 0) (get_or c 2 0) (get_or c 3 0) (get_or c 6 0) room)) r
      ∙ ap₂ (λ (l : List ℕ) (v : Bool). refusal_of (row l v)) g o

  pub reads_ok : f.number ≡ 0 → ReadOk s c b
  reads_ok z =
      let n : number_of (read_tests s room) ≡ 0 = sym (said (read_tests s room) reads_as) ∙ z in
      let x = reading-right s room n in
      let t : right ≡ ok = r ∙ ap (λ (v : Bool). ok && v) (ap (λ (l : List ℕ). eqb (get_or l 6 0) 0) g ∙ x.1) ∙ and_one ok in
      (read_ok s c b ok room o g q
      (sym (said _ (e ∙ ap (λ (v : Bool). refusal_of (read_row v (get_or c 1 0) (get_or c 2 0) (get_or c 3 0) (get_or c 6 0) room)) t)) ∙ z)).0
    where
      and_one : (b : Bool) → b && true ≡ b
      and_one true = refl
      and_one false = refl

  -- ---- what is answered

  begun-refused : (y : Begun) (h : Refusal) → h ≡ refusal_of (begun_tests s room) → (h.number ≡ 0 → ⊥) → Blank h y → BegunIn s room y
  begun-refused y h k n B =
      let no : y.refusal.number ≡ 0 → ⊥ = λ z. n (sym (ap (λ (v : Refusal). v.number) B.refusal) ∙ z) in
      record {
        refusal = B.refusal ∙ k;
        ready = B.ready ∙ sym (kept y.refusal.number no_ready (ready_of s) no);
        owners = B.owners ∙ sym (kept y.refusal.number (replicate 1024 0) (owners_of s) no);
        derived = B.derived ∙ sym (kept y.refusal.number no_derived (started_of s).derived no);
        targets-room = B.targets-room;
      }

  -- refused before the file is worked on
  pub begun-unread : (y : Begun) → (f.number ≡ 0 → ⊥) → Blank f y → BegunIn s room y
  unfolding begun_tests
  begun-unread y n B =
      begun-refused y f (reads_as ∙ sym (first_stops (read_tests s room) (prepare_row s) (λ z. n (said (read_tests s room) reads_as ∙ z)))) n B

  module _ (z : f.number ≡ 0) where
    read_none : number_of (read_tests s room) ≡ 0
    read_none = sym (said (read_tests s room) reads_as) ∙ z

    number_is : number_of (prepare_row s) ≡ number_of (begun_tests s room)
    unfolding begun_tests
    number_is = rest-number (read_tests s room) (prepare_row s) (read-numbered s room) read_none

    -- refused by what stands in it
    pub begun-unfit : (y : Begun) (h : Refusal) → h ≡ refusal_of (prepare_row s) → (h.number ≡ 0 → ⊥) → Blank h y → BegunIn s room y
    begun-unfit y h k n B =
        begun-refused y h
        (k ∙ prepare-refusal s ∙ ap (λ (m : ℕ). refusal_at m (uneven_of s)) number_is ∙ sym (recorded-refusal s room)) n B

    -- begun
    pub begun-right : (p : Prepared) → PreparedIn s p → (y : Begun) → Copied p y → BegunIn s room y
    begun-right p P y C =
        let none : number_of (begun_tests s room) ≡ 0 = sym number_is ∙ P.passes in
        let zero : y.refusal.number ≡ 0 = ap (λ (v : Refusal). v.number) C.refusal in
        record {
          refusal = C.refusal ∙ sym (recorded-refusal s room ∙ ap (λ (k : ℕ). refusal_at k (uneven_of s)) none ∙ refusal-zero (uneven_of s));
          ready = C.ready ∙ P.ready ∙ sym (worked y.refusal.number no_ready (ready_of s) zero);
          owners = C.owners ∙ P.owners ∙ sym (worked y.refusal.number (replicate 1024 0) (owners_of s) zero);
          derived = C.derived ∙ P.derived ∙ sym (worked y.refusal.number no_derived (started_of s).derived zero);
          targets-room = ap (λ (l : List ℤ). length l) C.targets ∙ P.targets-room;
        }

-- ---- a job's part that is too long

pub too_long : (s : List ℕ) → 49152 < length s → refusal_of (recorded_tests s) ≡ placeless 13
unfolding begun_tests read_row refusal_of recorded_ok file_ok
too_long s h = simp (sym (walk-long job_layout file_most s h))
