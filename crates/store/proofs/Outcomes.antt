-- Laws of the tests and of the outcomes, by their numbers. Assumes nothing.
use Rattle.std.specs.Prelude.{Result, Ok, Err, is_ok}
use Rattle.std.specs.Result.{result_unwrap_or}
use mathlib.Core.Path.{◌≡◌, refl, sym, ap, ap₂, ◌∙◌}
use mathlib.Core.Bool.{Bool, true, false, ◌&&◌, ◌||◌, cond, true≢false}
use mathlib.Core.List.{List}
use Prim.Native.Nat.{ℕ, ◌+◌, ◌≤◌, ◌<◌}
use native.Mathlib.Omega.{arith}
use borrow.Author.Tests.{le-leb, lt-leb, leb-true, lt-ltb, le-ltb, ltb-true}
use lib.Dec.{leb, ltb, eqb}
use lib.ListN.{length, take}
use Rattle.paper.specs.Limits.{number_of}
use Rattle.paper.specs.Rows.{refusal_of, answer_as, answer_refusal}
use Rattle.paper.specs.declared.Refusal.{Refusal}
use Rattle.paper.proofs.Logic.{both, or_left, and-stops}
use Rattle.paper.proofs.Rows.{worked, kept, said, passed}
use Rattle.slotset.proofs.Refusals.{answer-is, answer-refused}
use Rattle.records.specs.Heads.{place_of}
use Rattle.records.specs.Writes.{written, with_record}
use Rattle.records.proofs.Writes.{record-written}
use Rattle.units.specs.declared.Settings.{Settings}
use Rattle.units.specs.Settings.{settings_ok}
use Rattle.store.specs.declared.Kept.{Kept}
use Rattle.store.specs.declared.Asked.{Asked}
use Rattle.store.specs.declared.Saved.{Saved}
use Rattle.store.specs.Layout.{count_up_to, count_in, is_store}
use Rattle.store.specs.Figures.{kept_in, body_of}
use Rattle.store.specs.Outcome.{layout_ok, room_ok, store_tests, save_tests, ask_tests, store_row, save_row, ask_row}
use Rattle.store.specs.Outcome.{answer_of, count_is, ask_is, save_is, SavesAs}

-- ---- the tests

pub layout-short : (area : List ℕ) (used : ℕ) → length area < used → true ≡ layout_ok area used
unfolding layout_ok
layout-short area used h = sym (or_left _ _ (lt-ltb (length area) used h))

pub layout-held : (area : List ℕ) (used : ℕ) → used ≤ length area → layout_ok area used ≡ is_store (take used area)
unfolding layout_ok
layout-held area used h = ap (λ (b : Bool). b || is_store (take used area)) (le-ltb (length area) used h)

pub layout_is : (area : List ℕ) (used count end : ℕ) → used ≤ length area → count ≡ count_in (take used area)
    → end ≡ place_of (take used area) count → eqb end (length (take used area)) ≡ layout_ok area used
unfolding is_store
layout_is area used count end h e p =
    ap (λ (n : ℕ). eqb n (length (take used area))) (p ∙ ap (place_of (take used area)) e) ∙ sym (layout-held area used h)

-- the same of x, the used bytes as they were lent to the walk
pub count-read : (x s : List ℕ) (most count : ℕ) → x ≡ s → count ≡ count_up_to x most → count ≡ count_up_to s most
count-read x s most count q e = e ∙ ap (λ (y : List ℕ). count_up_to y most) q

pub layout-read : (area x : List ℕ) (used count end : ℕ) → x ≡ take used area → used ≤ length area → count ≡ count_in x
    → end ≡ place_of x count → eqb end (length x) ≡ layout_ok area used
layout-read area x used count end q h e p =
    ap (λ (y : List ℕ). eqb end (length y)) q
    ∙ layout_is area used count end h (count-read x (take used area) 128 count q e) (p ∙ ap (λ (y : List ℕ). place_of y count) q)

pub room-low : (count used len : ℕ) → len < used + 12 → false ≡ room_ok count used len
unfolding room_ok
room-low count used len h = sym (and-stops _ _ (lt-leb (used + 12) len h))

pub room-is : (count used len : ℕ) → used + 12 ≤ len → ltb count 128 ≡ room_ok count used len
unfolding room_ok
room-is count used len h = sym (ap (λ (b : Bool). b && ltb count 128) (le-leb (used + 12) len h))

pub room_says : (count used len : ℕ) → room_ok count used len ≡ true → (used + 12 ≤ len) × (count < 128)
unfolding room_ok
room_says count used len t =
    let x = both (leb (used + 12) len) (ltb count 128) t in
    (leb-true _ _ x.0, ltb-true _ _ x.1)

-- ---- the numbers that code comes to

-- a layout that is kept, or not, and the answer
module _ (area : List ℕ) (used : ℕ) where
  abbrev pub LaidCount : Result ℕ ℕ
  LaidCount = cond (layout_ok area used) (Ok (count_in (take used area))) (Err 13)

  pub laid-kept : (count : ℕ) → layout_ok area used ≡ true → count ≡ count_in (take used area) → Ok count ≡ LaidCount
  laid-kept count t q = ap Ok q ∙ sym (ap (λ (b : Bool). cond b (Ok (count_in (take used area))) (Err 13)) t)

  pub laid-not : layout_ok area used ≡ false → Err 13 ≡ LaidCount
  laid-not f = sym (ap (λ (b : Bool). cond b (Ok (count_in (take used area))) (Err 13)) f)

pub laid_ok : (ok : Bool) (count n : ℕ) {r : Result ℕ ℕ} → r ≡ cond ok (Ok count) (Err 13) → r ≡ Ok n → (true ≡ ok) × (n ≡ count)
laid_ok true count n e q = (refl, ap (λ (y : Result ℕ ℕ). result_unwrap_or y 0) (sym q ∙ e))
laid_ok false count n e q = absurd (true≢false (ap is_ok (sym q ∙ e)))

pub laid_err : (ok : Bool) (count n : ℕ) {r : Result ℕ ℕ} → r ≡ cond ok (Ok count) (Err 13) → r ≡ Err n → (ok ≡ false) × (13 ≡ n)
laid_err true count n e q = absurd (true≢false (ap is_ok (sym e ∙ q)))
laid_err false count n e q = (refl, ap answer_refusal (sym e ∙ q))

-- 13 before all else
module _ (area : List ℕ) (used : ℕ) (f : layout_ok area used ≡ false) where
  pub store-unlaid : number_of (store_row area used) ≡ 13
  unfolding store_row number_of
  store-unlaid = ap (λ (b : Bool). number_of (store_tests b (leb used (length area)))) f

  pub save-unlaid : (s : Settings) → number_of (save_row area used s) ≡ 13
  unfolding save_row number_of
  save-unlaid s =
      ap (λ (b : Bool). number_of (save_tests b (leb used (length area)) (room_ok (count_in (take used area)) used (length area)) (settings_ok s))) f

  pub ask-unlaid : (n : ℕ) → number_of (ask_row area used n) ≡ 13
  unfolding ask_row number_of
  ask-unlaid n = ap (λ (b : Bool). number_of (ask_tests b (leb used (length area)) (kept_in (take used area) n))) f

module _ (area : List ℕ) (used : ℕ) (ok : Bool) (e : ok ≡ layout_ok area used) where
  pub store-number : number_of (store_tests ok (leb used (length area))) ≡ number_of (store_row area used)
  unfolding store_row
  store-number = ap (λ (b : Bool). number_of (store_tests b (leb used (length area)))) e

  pub ask-number : {f : Refusal} (n : ℕ) (k : Kept) → k ≡ kept_in (take used area) n
      → f ≡ refusal_of (ask_tests ok (leb used (length area)) k) → f.number ≡ number_of (ask_row area used n)
  unfolding ask_row
  ask-number n k p q = said _ q ∙ ap₂ (λ (b : Bool) (x : Kept). number_of (ask_tests b (leb used (length area)) x)) e p

  pub save-number : {f : Refusal} (s : Settings) (count : ℕ) (room : Bool) → count ≡ count_in (take used area)
      → room ≡ room_ok count used (length area) → f ≡ refusal_of (save_tests ok (leb used (length area)) room (settings_ok s))
      → f.number ≡ number_of (save_row area used s)
  unfolding save_row
  save-number s count room c r q =
      said _ q
      ∙ ap₂ (λ (a b : Bool). number_of (save_tests a (leb used (length area)) b (settings_ok s))) e
      (r ∙ ap (λ (n : ℕ). room_ok n used (length area)) c)

-- the count, where the layout is kept
module _ (area : List ℕ) (used count : ℕ) (t : true ≡ layout_ok area used) where
  pub count-held : used ≤ length area → count ≡ count_in (take used area) → Ok count ≡ count_is area used
  unfolding count_is number_of
  count-held h q =
      answer-is 0 _ (ap (λ (b : Bool). number_of (store_tests true b)) (sym (le-leb used (length area) h)) ∙ store-number area used true t) refl _ _ q

  pub count-short : length area < used → Err 2 ≡ count_is area used
  unfolding count_is number_of
  count-short h =
      answer-refused 2 _ (ap (λ (b : Bool). number_of (store_tests true b)) (sym (lt-leb used (length area) h)) ∙ store-number area used true t) (λ z. omega (arith, z)) _

pub count-unlaid : (area : List ℕ) (used : ℕ) → layout_ok area used ≡ false → Err 13 ≡ count_is area used
unfolding count_is
count-unlaid area used f = answer-refused 13 _ (sym (store-unlaid area used f)) (λ z. omega (arith, z)) _

-- where nothing stands against saving
pub save-passed : (area : List ℕ) (used : ℕ) (s : Settings) → number_of (save_row area used s) ≡ 0
    → (layout_ok area used ≡ true) × (used ≤ length area) × (room_ok (count_in (take used area)) used (length area) ≡ true)
    × (settings_ok s ≡ true)
unfolding save_row
save-passed area used s z =
    let p = passed (save_row area used s) refl z in
    (p 0, leb-true _ _ (p 1), p 2, p 3)

pub save-room : (area : List ℕ) (used : ℕ) (s : Settings) → number_of (save_row area used s) ≡ 0
    → (used + 12 ≤ length area) × (count_in (take used area) < 128)
save-room area used s z = room_says _ _ _ (save-passed area used s z).2

-- ---- the outcomes

pub ask-answered : (area : List ℕ) (used n number : ℕ) (k : Kept) (a : Result Asked ℕ) → number ≡ number_of (ask_row area used n) → number ≡ 0
    → k ≡ kept_in (take used area) n → a ≡ answer_of k → a ≡ ask_is area used n
unfolding ask_is
ask-answered area used n number k a e z p q = q ∙ ap answer_of p ∙ sym (worked _ _ _ (sym e ∙ z))

pub ask-refused : (area : List ℕ) (used n number : ℕ) → number ≡ number_of (ask_row area used n) → (number ≡ 0 → ⊥)
    → Err number ≡ ask_is area used n
unfolding ask_is
ask-refused area used n number e z = ap Err e ∙ sym (kept _ _ _ (λ q. z (e ∙ q)))

body-length : (s : Settings) → length (body_of s) ≡ 8
unfolding body_of Rattle.records.specs.Fields.le_bytes
body-length s = refl

pub save-answered : (area : List ℕ) (used : ℕ) (s : Settings) (number count : ℕ) (body left : List ℕ)
    → number ≡ number_of (save_row area used s) → number ≡ 0 → count ≡ count_in (take used area) → body ≡ body_of s
    → left ≡ with_record (written 33 body) used area → SavesAs (save_is area used s) (Ok (record { number = count + 1; used = used + 12 })) left
unfolding save_is answer_as
save-answered area used s number count body left e z c b l =
    let z' = sym e ∙ z in
    let room = (save-room area used s z').0 in
    let put' = record-written 33 (body_of s) used area (omega (arith, body-length s)) (omega (arith, body-length s)) in
    record {
      said = ap {B = Result Saved ℕ} (λ (n : ℕ). Ok (record { number = n + 1; used = used + 12 })) c ∙ sym (worked _ _ _ z');
      left = l ∙ ap (λ (x : List ℕ). with_record (written 33 x) used area) b ∙ put' ∙ sym (worked _ _ _ z');
    }

pub save-refused : (area : List ℕ) (used : ℕ) (s : Settings) (number : ℕ) → number ≡ number_of (save_row area used s) → (number ≡ 0 → ⊥)
    → SavesAs (save_is area used s) (Err number) area
unfolding save_is answer_as
save-refused area used s number e z = record {
  said = ap Err e ∙ sym (kept _ _ _ (λ q. z (e ∙ q)));
  left = sym (kept _ _ _ (λ q. z (e ∙ q)));
}
