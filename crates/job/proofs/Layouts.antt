-- Rule 13 as the paper says it: the reader accepts the files of right sequences of records, and no other. Assumes nothing.
use mathlib.Core.Path.{◌≡◌, refl, sym, ap, ap₂, ◌∙◌}
use mathlib.Core.Logic.{◌↔◌, ⊎_elim}
use mathlib.Core.Bool.{Bool, true}
use mathlib.Core.List.{List, [], ◌++◌, append-nil}
use Prim.Native.Nat.{ℕ, suc, ◌+◌, ◌-◌, ◌*◌, ◌≤◌, ◌<◌}
use native.Mathlib.Numerals.{add-one}
use native.Mathlib.Omega.{arith}
use borrow.Author.Tests.{leb-true, le-leb, eq-eqb, eqb-true, ltb-true, lt-ltb}
use lib.Dec.{leb, ltb, eqb, lit<, lit≤}
use lib.ListN.{length, get_or, get_or-eq_default}
use Rattle.paper.specs.Count.{all}
use Rattle.paper.proofs.Logic.{both, three, and-true, lt-or-ge}
use Rattle.paper.proofs.Count.{all-each, each_all}
use Rattle.records.specs.Fields.{le, Bytes}
use Rattle.records.specs.Records.{Rec, file_of, bodies, block_at, count_of, walk_ok}
use Rattle.records.proofs.Laid.{Laid, LayoutFits}
use Rattle.job.specs.File.{job_layout, job_sizes, file_most, job_counts, job_starts, owner_slot, rising, rest_ok, file_ok, JobFile}
use Rattle.job.specs.Stages.{column_of, settings_in}
use Rattle.job.proofs.Written.{Field, body_of}
use Rattle.job.proofs.Files.{count_at, start-at, column-at}
use Rattle.records.proofs.Sequences.{accepted-laid, laid-accepted, laid-ordered, laid-count, laid-field}

-- the sizes of the bodies, and the kinds, fit their two bytes
layout-fits : LayoutFits job_layout
unfolding all
layout-fits = record {
  sizes = λ i.
      ⊎_elim (λ (h : i < 8). ltb-true _ _ (all-each 8 (λ k. ltb (get_or job_sizes k 0) 65536) refl i h))
      (λ (h : 8 ≤ i). omega (arith, get_or-eq_default job_sizes 0 h))
      (lt-or-ge i 8);
  kinds = lit≤ tt;
}

-- one byte, read as a number
one_byte : (s : List ℕ) (at : ℕ) → le 1 s at ≡ get_or s at 0
unfolding le
one_byte s at = omega arith

-- of the file of a sequence that is laid out, the figures by which the rest of rule 13 is judged
module _ (s : List ℕ) (rs : List Rec) (l : Laid job_layout 0 rs) (e : s ≡ file_of rs) where
  counts : (i : ℕ) → i < 7 → count_of job_layout s i ≡ length (bodies (1 + i) rs)
  counts i h = laid-count job_layout s rs layout-fits l e i h

  fields : (i k off n : ℕ) → i < 7 → k < length (bodies (1 + i) rs) → off + n ≤ get_or job_sizes i 0
      → le n s (block_at job_layout s i + k * (4 + get_or job_sizes i 0) + (4 + off)) ≡ le n (get_or (bodies (1 + i) rs) k []) off
  fields i k off n h g r = laid-field job_layout s rs layout-fits l e i k off n h g r

  slot_at : (k : ℕ) → k < length (bodies 6 rs) → owner_slot s (block_at job_layout s 5) k ≡ le 2 (get_or (bodies 6 rs) k []) 0
  unfolding owner_slot
  slot_at k h = fields 5 k 0 2 (lit< tt) h (lit≤ tt)

  -- the slots of two owner records, one after the other, rise where the test passes
  rise-at : (k : ℕ) → suc k < length (bodies 6 rs) → (ltb (owner_slot s (block_at job_layout s 5) k)
      (owner_slot s (block_at job_layout s 5) (k + 1))
      ≡ ltb (le 2 (get_or (bodies 6 rs) k []) 0) (le 2 (get_or (bodies 6 rs) (suc k) []) 0))
  rise-at k h =
      ap₂ ltb (slot_at k (omega arith)) (ap (owner_slot s (block_at job_layout s 5)) (add-one k) ∙ slot_at (suc k) h)

-- what is accepted is the file of a right sequence
pub kept-file : (s : List ℕ) → Bytes s → file_ok s ≡ true → JobFile s
unfolding file_ok rest_ok rising walk_ok
kept-file s b t =
    let n = count_of job_layout s 5 in
    let at = block_at job_layout s 5 in
    let rise : ℕ → Bool = λ k. ltb (owner_slot s at k) (owner_slot s at (k + 1)) in
    let x = both (walk_ok job_layout file_most s) _ t in
    let f = accepted-laid job_layout file_most s b x.0 in
    let y = three (eqb (count_of job_layout s 0) 1) (leb (count_of job_layout s 4) 1) (all (n - 1) rise) x.1 in
    let rs = f.records in
    let C = counts s rs f.laid f.whole in
    let one : length (bodies 1 rs) ≡ 1 = sym (C 0 (lit< tt)) ∙ eqb-true _ _ y.0 in
    record {
      records = rs;
      right = record {
        order = (laid-ordered job_layout rs).0 f.laid;
        settings = one;
        freezes = omega (arith, C 4 (lit< tt), leb-true (count_of job_layout s 4) 1 y.1);
        slots-rise = λ k h.
            ltb-true _ _ (sym (rise-at s rs f.laid f.whole k h) ∙ all-each (n - 1) rise y.2 k (omega (arith, C 5 (lit< tt))));
      };
      whole = f.whole;
      short = leb-true _ _ (both (leb (length s) file_most) _ x.0).0;
    }

-- every such file is accepted
pub file-kept : (s : List ℕ) → JobFile s → file_ok s ≡ true
unfolding file_ok rest_ok rising
file-kept s J =
    let rs = J.records in
    let e = J.whole in
    let R = J.right in
    let l = (laid-ordered job_layout rs).1 R.order in
    let C = counts s rs l e in
    let n = count_of job_layout s 5 in
    let at = block_at job_layout s 5 in
    and-true _ _ (ap (walk_ok job_layout file_most) e ∙ laid-accepted job_layout file_most rs layout-fits l
    (omega (arith, ap length e, J.short)))
    (and-true _ _ (eq-eqb _ _ (C 0 (lit< tt) ∙ R.settings))
    (and-true _ _ (le-leb (count_of job_layout s 4) 1 (omega (arith, C 4 (lit< tt), R.freezes)))
    (each_all (n - 1) (λ k. ltb (owner_slot s at k) (owner_slot s at (k + 1)))
    (λ k h.
    let g : suc k < length (bodies 6 rs) = omega (arith, C 5 (lit< tt)) in
    rise-at s rs l e k g ∙ lt-ltb _ _ (R.slots-rise k g)))))

-- both together, of every list of bytes
pub rule-13 : (s : List ℕ) → Bytes s → (file_ok s ≡ true) ↔ JobFile s
rule-13 s b = (kept-file s b, file-kept s)

-- ---- the records that a job works with are those of the sequence

module _ (s : List ℕ) (J : JobFile s) where
  laid_out : Laid job_layout 0 J.records
  laid_out = (laid-ordered job_layout J.records).1 J.right.order

  -- as many of each kind
  pub counts-read : (i : ℕ) → i < 7 → get_or (job_counts s) i 0 ≡ length (bodies (1 + i) J.records)
  counts-read i h = count_at s (job_counts s) refl i h ∙ counts s J.records laid_out J.whole i h

  -- and each field of record k of a kind is that of its body
  pub fields_read : (i k off n : ℕ) → i < 7 → k < length (bodies (1 + i) J.records) → off + n ≤ get_or job_sizes i 0
      → le n s (get_or (job_starts s) i 0 + k * (4 + get_or job_sizes i 0) + (4 + off)) ≡ le n (get_or (bodies (1 + i) J.records) k []) off
  fields_read i k off n h g r =
      ap (λ (at : ℕ). le n s (at + k * (4 + get_or job_sizes i 0) + (4 + off))) (start-at s (job_starts s) refl i h)
      ∙ fields s J.records laid_out J.whole i k off n h g r

  pub columns-read : (i k off n : ℕ) → i < 7 → k < length (bodies (1 + i) J.records) → length (bodies (1 + i) J.records) ≤ 1024
      → off + n ≤ get_or job_sizes i 0
      → get_or (column_of s i off n) k 0 ≡ le n (get_or (bodies (1 + i) J.records) k []) off
  columns-read i k off n h g few r =
      let w = 4 + get_or job_sizes i 0 in
      let at = get_or (job_starts s) i 0 in
      let z : at + (4 + off) + k * w ≡ at + k * w + (4 + off) = omega arith in
      column-at n s (at + (4 + off)) w (get_or (job_counts s) i 0) k (omega (arith, counts-read i h)) (omega (arith, counts-read i h))
      ∙ ap (le n s) z ∙ fields_read i k off n h g r

  -- so a record that was written field by field is read back, by the laws of `Written`
  pub body-read : (i k off n : ℕ) (fs : List Field) → i < 7 → k < length (bodies (1 + i) J.records) → off + n ≤ get_or job_sizes i 0
      → get_or (bodies (1 + i) J.records) k [] ≡ body_of fs
      → le n s (get_or (job_starts s) i 0 + k * (4 + get_or job_sizes i 0) + (4 + off)) ≡ le n (body_of fs ++ []) off
  body-read i k off n fs h g r e =
      fields_read i k off n h g r ∙ ap (λ (l : List ℕ). le n l off) (e ∙ sym (append-nil (body_of fs)))

  -- the settings are those of the settings record
  pub settings-read : let body = get_or (bodies 1 J.records) 0 [] in
      ((settings_in s).fairness ≡ le 1 body 0) × ((settings_in s).lock ≡ le 1 body 1) × ((settings_in s).boundary ≡ le 1 body 2)
      × ((settings_in s).edition ≡ le 1 body 3) × ((settings_in s).value ≡ le 2 body 4) × ((settings_in s).days ≡ le 2 body 6)
  unfolding settings_in block_at
  settings-read =
      let h : 0 < length (bodies 1 J.records) = omega (arith, J.right.settings) in
      let at : (off n : ℕ) → off + n ≤ 8 → le n s (4 + off) ≡ le n (get_or (bodies 1 J.records) 0 []) off =
      λ off n r.
      let z : 4 + off ≡ 0 + 0 * 12 + (4 + off) = omega arith in
      ap (le n s) z ∙ fields s J.records laid_out J.whole 0 0 off n (lit< tt) h r in (
        sym (one_byte s 4) ∙ at 0 1 (lit≤ tt),
        sym (one_byte s 5) ∙ at 1 1 (lit≤ tt),
        sym (one_byte s 6) ∙ at 2 1 (lit≤ tt),
        sym (one_byte s 7) ∙ at 3 1 (lit≤ tt),
        at 4 2 (lit≤ tt),
        at 6 2 (lit≤ tt),
      )
