-- The job ends exactly before the first head of kind 8 or 9 that follows whole records of other kinds, else with the bytes. Assumes nothing.
use mathlib.Core.Path.{◌≡◌, refl, sym, ap, ap₂, ◌∙◌, subst}
use mathlib.Core.Logic.{◌↔◌, inl, inr, ⊎_elim}
use mathlib.Core.Bool.{Bool, true, false, not, cond, ◌||◌}
use mathlib.Core.List.{List, [], ◌∷◌, ◌++◌, append_assoc}
use Prim.Native.Nat.{ℕ, suc, ◌+◌, ◌-◌, ◌%◌, ◌≤◌, ◌<◌}
use native.Mathlib.Omega.{arith}
use borrow.Author.Tests.{leb-true, eqb-true}
use lib.Dec.{leb, eqb}
use lib.ListN.{length, drop, length-append, length-drop, take-append-drop}
use lib.Seq.{drop-drop}
use Rattle.paper.proofs.Logic.{by-test, both, or-either, one-outcome}
use Rattle.paper.proofs.Count.{all-each}
use Rattle.records.specs.Fields.{le, le_bytes, Bytes}
use Rattle.records.specs.Records.{Rec, bytes_of, file_of, record_of}
use Rattle.records.specs.Heads.{found_at, whole_at, place_of}
use Rattle.records.proofs.Numbers.{le-lt, written-le}
use Rattle.records.proofs.Walks.{lead-all}
use Rattle.records.proofs.Sequences.{le-drop, kind-there, size-there, room-there, rest-there}
use Rattle.records.proofs.Mixed.{whole_is, whole_says, found-length, found_from, found-count, found-at, found-file, place_none}
use Rattle.replay.specs.Reading.{head_stands, opens_blocks, job_heads, job_end}
use Rattle.replay.specs.Listed.{JobRecord, OpensFirst, JobThen, JobEnds, before, with-bytes}
use Rattle.replay.proofs.Heads.{opens-draw, opens-close, opens-other, passed, Heading, heading-none, heading-more, heading-found}
use Rattle.replay.proofs.Windows.{place-suc, place-rises}

-- ---- records of other kinds and then a head of kind 8 or 9: the walk finds it

record Walked (s : List ℕ) (at : ℕ) (u : List ℕ) : Type 0 where
  heading : Heading s at
  rest : drop at s ≡ u

walk-along : (s : List ℕ) (at : ℕ) (rs : List Rec) (u : List ℕ) → ((k : ℕ) → k < length rs → JobRecord (record_of rs k)) → Heading s at
    → drop at s ≡ file_of rs ++ u → Walked s (at + length (file_of rs)) u
unfolding file_of bytes_of le_bytes
walk-along s at [] u J H e =
    let z : at ≡ at + 0 = omega arith in
    subst (λ (i : ℕ). Walked s i u) z (record { heading = H; rest = e })
walk-along s at (r ∷ rs) u J H e =
    let R = J 0 (omega arith) in
    let n : ℕ = length r.body in
    let there : drop at s ≡ bytes_of r ++ (file_of rs ++ u) = e ∙ append_assoc (bytes_of r) (file_of rs) u in
    let size = size-there s at r (file_of rs ++ u) there R.size in
    let kind = kind-there s at r (file_of rs ++ u) there R.kind in
    let room = room-there s at r (file_of rs ++ u) there in
    let other = opens-other s at (λ q. R.no-draw (sym kind ∙ q)) (λ q. R.no-close (sym kind ∙ q)) in
    let on = walk-along s (at + (4 + n)) rs u (λ k h. J (suc k) (omega arith))
    (heading-more s at H n (omega (arith, room)) other (sym size)) (rest-there s at r (file_of rs ++ u) there n refl) in
    let z : at + (4 + n) + length (file_of rs) ≡ at + length (bytes_of r ++ file_of rs) =
    omega (arith, length-append r.body (file_of rs)) in
    subst (λ (i : ℕ). Walked s i u) z on

opens-there : (s : List ℕ) (at : ℕ) (u : List ℕ) → OpensFirst u → drop at s ≡ u → (at + 4 ≤ length s) × (opens_blocks s at ≡ true)
unfolding le le_bytes
opens-there s at u O e =
    let there : drop at s ≡ le_bytes 2 O.size ++ (le_bytes 2 O.kind ++ O.rest) = e ∙ O.is in
    let room : at + 4 ≤ length s = omega (arith, length-drop at s, ap length there) in
    let kind : le 2 s (at + 2) ≡ O.kind % 65536 = sym (le-drop 2 s at 2) ∙ ap (λ (l : List ℕ). le 2 l 2) there ∙ omega arith in (
      room,
      ⊎_elim (λ (k : O.kind ≡ 8). opens-draw s at room (omega (arith, kind, k))) (λ (k : O.kind ≡ 9). opens-close s at room (omega (arith, kind, k)))
          O.opens,
    )

pub then-ends : (s : List ℕ) (at : ℕ) → JobThen s at → (at ≡ job_end s) × (at + 4 ≤ length s)
then-ends s at J =
    let W = walk-along s 0 J.records J.rest J.each (heading-none s) J.is in
    let z : 0 + length (file_of J.records) ≡ at = omega (arith, J.ends) in
    let H : Heading s at = subst (Heading s) z W.heading in
    let x = opens-there s at J.rest J.opens (ap (λ (i : ℕ). drop i s) (sym z) ∙ W.rest) in
    (heading-found s at H x.0 x.1, x.0)

-- ---- where the walk finds one, such records stand before it

two-off : (s : List ℕ) (at : ℕ) → Bytes s → at + 2 ≤ length s → drop at s ≡ le_bytes 2 (le 2 s at) ++ drop (at + 2) s
two-off s at b h =
    sym (take-append-drop 2 (drop at s)) ∙ ap₂ ◌++◌ (written-le 2 s at b h) (drop-drop 2 at s)

opens-first : (s : List ℕ) (at : ℕ) → Bytes s → opens_blocks s at ≡ true → (at + 4 ≤ length s) × OpensFirst (drop at s)
unfolding opens_blocks head_stands
opens-first s at b t =
    let kind : ℕ = le 2 s (at + 2) in
    let x = both (leb (at + 4) (length s)) (eqb kind 8 || eqb kind 9) t in
    let room : at + 4 ≤ length s = leb-true _ _ x.0 in (
      room,
      record {
        size = le 2 s at;
        kind = kind;
        opens = ⊎_elim (λ (e : eqb kind 8 ≡ true). inl (eqb-true kind 8 e)) (λ (e : eqb kind 9 ≡ true). inr (eqb-true kind 9 e))
            (or-either (eqb kind 8) (eqb kind 9) x.1);
        rest = drop (at + 2 + 2) s;
        is = two-off s at b (omega arith) ∙ ap (λ (l : List ℕ). le_bytes 2 (le 2 s at) ++ l) (two-off s (at + 2) b (omega arith));
      },
    )

module _ (s : List ℕ) (b : Bytes s) where
  abbrev many : ℕ
  many = job_heads s

  abbrev place : ℕ
  place = place_of s many

  passed-each : (j : ℕ) → j < many → opens_blocks s (place_of s j) ≡ false
  unfolding job_heads
  passed-each j h =
      let x = both (head_stands s (place_of s j)) _ (all-each _ (passed s) (lead-all (passed s) (length s)) j h) in
      by-test (opens_blocks s (place_of s j)) _
      (λ t. absurd (mathlib.Core.Bool.true≢false (sym x.1 ∙ ap not t)))
      (λ f. f)

  module _ (room : place + 4 ≤ length s) where
    whole_each : (j : ℕ) → j < many → whole_at s (place_of s j) ≡ true
    whole_each j h =
        let d : suc j + (many - suc j) ≡ many = omega arith in
        whole_is s (place_of s j) (omega (arith, place-suc s j, place-rises s (suc j) (many - suc j), ap (place_of s) d))

    job-record : (j : ℕ) → j < many → JobRecord (found_at s (place_of s j))
    unfolding found_at
    job-record j h =
        let at : ℕ = place_of s j in
        let w = whole_each j h in
        let stands : at + 4 ≤ length s = omega (arith, whole_says s at w) in
        let no = passed-each j h in
        record {
          size = omega (arith, found-length s at w, le-lt 2 s at b);
          kind = le-lt 2 s (at + 2) b;
          no-draw = λ e. mathlib.Core.Bool.true≢false (sym (opens-draw s at stands e) ∙ no);
          no-close = λ e. mathlib.Core.Bool.true≢false (sym (opens-close s at stands e) ∙ no);
        }

    heads-then : OpensFirst (drop place s) → JobThen s place
    heads-then O =
        let rs : List Rec = found_from s 0 many in
        let n : (k : ℕ) → 0 + k ≡ k = λ k. omega arith in
        let file : drop (place_of s 0) s ≡ file_of rs ++ drop (place_of s (0 + many)) s = found-file s 0 many b
        (λ j h. ap (λ (i : ℕ). whole_at s (place_of s i)) (n j) ∙ whole_each j h) in
        let is : s ≡ file_of rs ++ drop place s =
        ap (λ (i : ℕ). drop i s) (sym (place_none s)) ∙ file ∙ ap (λ (i : ℕ). file_of rs ++ drop (place_of s i) s) (n many) in
        record {
          records = rs;
          each = λ j h.
              let l : j < many = omega (arith, found-count s 0 many) in
              subst JobRecord (sym (found-at s 0 many j l ∙ ap (λ (i : ℕ). found_at s (place_of s i)) (n j))) (job-record j l);
          rest = drop place s;
          is = is;
          opens = O;
          ends = omega (arith, ap length is, length-append (file_of rs) (drop place s), length-drop place s);
        }

  -- the job's end is such a place, or the last
  job-end-is : JobEnds s (job_end s)
  unfolding job_end
  job-end-is =
      by-test (opens_blocks s place) _
      (λ t.
      let x = opens-first s place b t in
      subst (JobEnds s) (ap (λ (v : Bool). cond v place (length s)) (sym t)) (before (heads-then x.0 x.1)))
      (λ f.
      let e : length s ≡ cond (opens_blocks s place) place (length s) = ap (λ (v : Bool). cond v place (length s)) (sym f) in
      subst (JobEnds s) e (with-bytes (λ at J. let x = then-ends s at J in omega (arith, x.0, x.1, e))))

  -- an end fits exactly where it is the walk's
  ends-job : (e : ℕ) → JobEnds s e → e ≡ job_end s
  ends-job e (before J) = (then-ends s e J).0
  ends-job e (with-bytes none) = last job-end-is
    where
      last : {e : ℕ} → JobEnds s e → length s ≡ e
      last (before J) = absurd (none _ J)
      last (with-bytes f) = refl

  pub job-listed : (e : ℕ) → JobEnds s e ↔ (e ≡ job_end s)
  job-listed e = (ends-job e, λ q. subst (JobEnds s) (sym q) job-end-is)

  -- so one end alone fits
  pub job_only : (e f : ℕ) → JobEnds s e → JobEnds s f → e ≡ f
  job_only e f E F = one-outcome (job_end s) e f (ends-job e E) (ends-job f F)
