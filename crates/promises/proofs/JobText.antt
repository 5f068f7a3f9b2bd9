-- The listing is the text of its lines, and what an accepted job leaves is that text. Assumes nothing.
use Rattle.std.specs.Prelude.{Ok}
use mathlib.Core.Path.{◌≡◌, refl, sym, ap, ap₂, ◌∙◌}
use mathlib.Core.Logic.{◌↔◌, ⊎_elim}
use mathlib.Core.Bool.{Bool, true, false, cond}
use mathlib.Core.List.{List, [], ◌∷◌, ◌++◌, append-nil, append_assoc}
use Prim.Native.Nat.{ℕ, zero, suc, ◌+◌, ◌≤◌, ◌<◌}
use native.Mathlib.Omega.{arith}
use lib.Dec.{eqb}
use lib.ListN.{length, get_or, take, drop}
use lib.Seq.{take_at, drop_at}
use Rattle.owners.specs.Entries.{placeless}
use Rattle.paper.specs.declared.Refusal.{Refusal}
use Rattle.paper.proofs.Logic.{by-test, lt-or-ge}
use Rattle.records.specs.Puts.{put}
use Rattle.job.specs.File.{JobFile}
use Rattle.job.specs.Listing.{digits, signed, owner_text, answer_letter, head_text, slot_line, person_line, draw_line, uncovered_line, refusal_line}
use Rattle.job.specs.Listing.{place_text, part_text}
use Rattle.job.specs.Listing.{lines, Listed, slot_at, person_at, draw_at, listing_of}
use Rattle.job.specs.Outcome.{Outcome, refused_as, listed_as, job_refusal, job_length, job_result, refusal_result}
use Rattle.job.proofs.Digits.{digits_value, digits_decimal, signed-value}
use Rattle.job.proofs.Results.{answered-none}
use Rattle.job.proofs.Promises.{listing-stands}
use Rattle.job.proofs.RefusalLines.{line-short, line-stands}
use Rattle.promises.specs.JobFields.{given_by, owners_by, listed_from}
use Rattle.promises.specs.JobText.{line_of, text_of, each, slot_words, person_words, draw_words, uncovered_words, lines_of}
use Rattle.promises.specs.JobText.{refusal_text, JobText}
use Rattle.promises.proofs.JobFields.{accepted-none, job-by-records}

-- ---- lines

text-both : (a b : List (List (List ℕ))) → text_of (a ++ b) ≡ text_of a ++ text_of b
unfolding text_of
text-both [] b = refl
text-both (l ∷ a) b = ap (λ (t : List ℕ). line_of l ++ t) (text-both a b) ∙ sym (append_assoc (line_of l) (text_of a) (text_of b))

text-each : (f : ℕ → List (List ℕ)) (g : ℕ → List ℕ) → ((k : ℕ) → g k ≡ line_of (f k)) → (n : ℕ) → lines g n ≡ text_of (each f n)
unfolding text_of each lines
text-each f g same zero = refl
text-each f g same (suc n) =
    ap₂ (λ (a b : List ℕ). a ++ b) (text-each f g same n) (same n ∙ sym (append-nil (line_of (f n)))) ∙ sym (text-both (each f n) (f n ∷ []))

-- a letter and a number before the rest of a line
headed : (letter n : ℕ) (rest : List ℕ) → head_text letter n 32 ++ rest ≡ letter ∷ (32 ∷ (digits n ++ (32 ∷ rest)))
unfolding head_text
headed letter n rest = ap (λ (l : List ℕ). letter ∷ (32 ∷ l)) (append_assoc (digits n) (32 ∷ []) rest)

module _ (L : Listed) where
  slot-line : (k : ℕ) → slot_at L.starts L.ends L.owners k ≡ line_of (slot_words L k)
  unfolding slot_at slot_line owner_text line_of
  slot-line k =
      let a = digits (get_or L.starts k 0) in
      let b = digits (get_or L.ends k 0) in
      let o = owner_text (get_or L.owners k 0) ++ (10 ∷ []) in
      headed 83 k (a ++ (32 ∷ []) ++ (b ++ (32 ∷ []) ++ o))
      ∙ ap (λ (l : List ℕ). 83 ∷ (32 ∷ (digits k ++ (32 ∷ l))))
      (append_assoc a (32 ∷ []) (b ++ (32 ∷ []) ++ o) ∙ ap (λ (l : List ℕ). a ++ (32 ∷ l)) (append_assoc b (32 ∷ []) o))

  person-line : (p : ℕ) → person_at L.minutes L.targets p ≡ line_of (person_words L p)
  unfolding person_at person_line line_of
  person-line p =
      let m = digits (get_or L.minutes p 0) in
      let t = signed (get_or L.targets p _) ++ (10 ∷ []) in
      headed 80 p (m ++ (32 ∷ []) ++ t) ∙ ap (λ (l : List ℕ). 80 ∷ (32 ∷ (digits p ++ (32 ∷ l)))) (append_assoc m (32 ∷ []) t)

  draw-line : (d : ℕ) → draw_at L.answers d ≡ line_of (draw_words L d)
  unfolding draw_at draw_line line_of answer_letter
  draw-line d =
      let a = get_or L.answers d 0 in
      headed 68 d (answer_letter a ∷ (10 ∷ []))
      ∙ ap (λ (l : List ℕ). 68 ∷ (32 ∷ (digits d ++ (32 ∷ l)))) (letter (eqb a 0) (eqb a 1))
    where
      letter : (p q : Bool)
          → ◌≡◌ {A = List ℕ} (cond p 65 (cond q 78 67) ∷ (10 ∷ [])) (cond p (65 ∷ []) (cond q (78 ∷ []) (67 ∷ [])) ++ (10 ∷ []))
      letter true q = refl
      letter false true = refl
      letter false false = refl

  uncovered-line : uncovered_line L.uncovered ≡ text_of (uncovered_words L ∷ [])
  unfolding uncovered_line head_text text_of line_of
  uncovered-line = sym (append-nil (uncovered_line L.uncovered))

  pub listing-text : listing_of L ≡ text_of (lines_of L)
  unfolding listing_of
  listing-text =
      let S = each (slot_words L) L.slots in
      let P = each (person_words L) L.people in
      let D = each (draw_words L) L.draws in
      let U = uncovered_words L ∷ [] in
      ap₂ (λ (a b : List ℕ). a ++ b) (text-each (slot_words L) _ slot-line L.slots)
      (ap₂ (λ (a b : List ℕ). a ++ b) (text-each (person_words L) _ person-line L.people)
      (ap₂ (λ (a b : List ℕ). a ++ b) (text-each (draw_words L) _ draw-line L.draws) uncovered-line ∙ sym (text-both D U))
      ∙ sym (text-both P (D ++ U)))
      ∙ sym (text-both S (P ++ (D ++ U)))

-- ---- an accepted job

listing-left : (s x : List ℕ) (J : JobFile s) → (job_refusal (job_result s x).answer).number ≡ 0
    → let n = job_length 0 (job_result s x).answer in
    (take n (job_result s x).out ≡ text_of (lines_of (listed_from (given_by J.records) (owners_by J.records))))
    × (drop n (job_result s x).out ≡ drop n x)
unfolding listed_as
listing-left s x J e =
    let p = ap (λ (y : Outcome). y.answer) (answered-none s x (accepted-none s x e)) in
    let stands = listing-stands s x (job_length 0 (job_result s x).answer) (p ∙ ap Ok (sym (ap (job_length 0) p))) in
    (stands.0 ∙ ap listing_of (job-by-records s x J e) ∙ listing-text _, stands.1)

-- ---- the line of a refusal

-- a number, a point, a part and a space, grouped one way and the other
pointed : (n p r q : List ℕ) → r ≡ q → (n ++ (46 ∷ [])) ++ ((p ++ (32 ∷ [])) ++ r) ≡ (n ++ (46 ∷ p)) ++ (32 ∷ q)
pointed n p r q e =
    append_assoc n (46 ∷ []) _ ∙ ap (λ (l : List ℕ). n ++ (46 ∷ l)) (append_assoc p (32 ∷ []) r ∙ ap (λ (l : List ℕ). p ++ (32 ∷ l)) e)
    ∙ sym (append_assoc n (46 ∷ p) (32 ∷ q))

refusal-text : (f : Refusal) → refusal_line f ≡ refusal_text f
unfolding refusal_line part_text place_text head_text line_of
refusal-text f =
    by-test (eqb f.part 0) _ (λ t. simp t)
    (λ n. by-test (eqb f.part 4) _
    (λ t. simp (n, t) (ap (λ (l : List ℕ). 82 ∷ (32 ∷ l))
    (pointed (digits f.number) (digits f.part) _ _ (append_assoc (digits f.place) (32 ∷ []) (digits f.second ++ (10 ∷ []))))))
    (λ m. simp (n, m) (ap (λ (l : List ℕ). 82 ∷ (32 ∷ l))
    (pointed (digits f.number) (digits f.part) (digits f.place ++ (10 ∷ [])) _ refl))))

module _ (f : Refusal) (x : List ℕ) where
  by-room : (X : Type 0) → (length x < length (refusal_text f) → refusal_result f x ≡ refused_as (placeless 2) x → X)
      → (length (refusal_text f) ≤ length x → refusal_result f x ≡ listed_as (refusal_text f) x → X) → X
  by-room X f₁ g =
      let t = refusal-text f in
      ⊎_elim (λ (h : length x < length (refusal_text f)). f₁ h (line-short f x (omega (arith, h, ap length t))))
      (λ (h : length (refusal_text f) ≤ length x).
      g h (line-stands f x (omega (arith, h, ap length t)) ∙ ap (λ (l : List ℕ). listed_as l x) t))
      (lt-or-ge (length x) (length (refusal_text f)))

  is-two : refusal_result f x ≡ refused_as (placeless 2) x → job_refusal (refusal_result f x).answer ≡ placeless 2
  unfolding refused_as
  is-two e = ap (λ (y : Outcome). job_refusal y.answer) e

  number-two : refusal_result f x ≡ refused_as (placeless 2) x → (job_refusal (refusal_result f x).answer).number ≡ 2
  number-two e = ap (λ (g : Refusal). g.number) (is-two e)

  number-none : (l : List ℕ) → refusal_result f x ≡ listed_as l x → (job_refusal (refusal_result f x).answer).number ≡ 0
  unfolding listed_as
  number-none l e = ap (λ (y : Outcome). (job_refusal y.answer).number) e

  line-number : ((job_refusal (refusal_result f x).answer).number ≡ 0) ↔ (length (refusal_text f) ≤ length x)
  line-number = (
    λ z. by-room _ (λ h e. absurd (omega (arith, z, number-two e))) (λ h e. h),
    λ l. by-room _ (λ h e. absurd (omega (arith, h, l))) (λ h e. number-none _ e),
  )

  line_kept : ((job_refusal (refusal_result f x).answer).number ≡ 0 → ⊥)
      → (job_refusal (refusal_result f x).answer ≡ placeless 2) × ((refusal_result f x).out ≡ x)
  unfolding refused_as
  line_kept n = by-room _ (λ h e. (is-two e, ap (λ (y : Outcome). y.out) e)) (λ h e. absurd (n (number-none _ e)))

  line-left : (job_refusal (refusal_result f x).answer).number ≡ 0
      → let l = job_length 0 (refusal_result f x).answer in
      (take l (refusal_result f x).out ≡ refusal_text f) × (drop l (refusal_result f x).out ≡ drop l x)
  unfolding listed_as put
  line-left z =
      by-room _ (λ h e. absurd (omega (arith, z, number-two e)))
      (λ h e.
      let t = refusal_text f in
      let l = job_length 0 (refusal_result f x).answer in
      let m : l ≡ length t = ap (λ (y : Outcome). job_length 0 y.answer) e in
      let k : 0 + length t ≡ l = omega arith in
      let o : (refusal_result f x).out ≡ t ++ drop (0 + length t) x = ap (λ (y : Outcome). y.out) e in
      (ap (take l) o ∙ take_at t _ l (sym m), ap (drop l) o ∙ drop_at t _ l (sym m) ∙ ap (λ (j : ℕ). drop j x) k))

pub job-text : JobText
job-text = record {
  listing = listing-left;
  digits = λ n h. (digits_decimal n h, digits_value n h);
  signed = signed-value;
  refusal = line-number;
  refusal-2 = line_kept;
  refusal-line = line-left;
}
