-- What is answered of a store that is laid out right, and the refusals' numbers as they are answered. Assumes nothing.
use Rattle.std.specs.Prelude.{Ok, Err}
use mathlib.Core.Path.{◌≡◌, refl, sym, ap, ap₂, ◌∙◌}
use mathlib.Core.Bool.{Bool, true, false, cond}
use mathlib.Core.List.{List}
use Prim.Native.Nat.{ℕ, ◌-◌, ◌≤◌, ◌<◌}
use native.Mathlib.Omega.{arith}
use borrow.Author.Tests.{le-leb, lt-leb, leb-true}
use lib.Dec.{leb}
use lib.ListN.{length, take}
use Rattle.paper.specs.Limits.{number_of}
use Rattle.paper.specs.Rows.{unless, answer_refusal}
use Rattle.paper.proofs.Logic.{by-test}
use Rattle.paper.proofs.Rows.{all_pass}
use Rattle.slotset.proofs.Refusals.{answer-is, answer-said}
use Rattle.records.specs.Records.{Rec, record_of}
use Rattle.units.specs.Settings.{settings_ok}
use Rattle.store.specs.declared.Kept.{Kept}
use Rattle.store.specs.declared.Kept.TheVariants as kept
use Rattle.store.specs.Layout.{is_store, StoreOf}
use Rattle.store.specs.Figures.{kept_of, kept_in}
use Rattle.store.specs.Outcome.{layout_ok, ask_tests, store_row, ask_row, save_row, answer_of, judged, ask_is, count_is, save_is}
use Rattle.store.proofs.Outcomes.{layout-held, layout-short}
use Rattle.store.proofs.Stores.{store_ok, store-count, store_kept, store-unknown}

-- ---- the number of the refusal is the one that the tests give

answered-no : (k : Kept) (laid held : Bool) → number_of (ask_tests laid held k) ≡ 0 → answer_refusal (answer_of k) ≡ 0
unfolding number_of
answered-no (kept.Figures s) laid held z = refl
answered-no kept.Newer laid held z = refl
answered-no kept.Unknown true true z = absurd (omega arith)
answered-no kept.Unknown true false z = absurd (omega arith)
answered-no kept.Unknown false held z = absurd (omega arith)

pub asked-number : (area : List ℕ) (used n : ℕ) → answer_refusal (ask_is area used n) ≡ number_of (ask_row area used n)
unfolding ask_is ask_row unless
asked-number area used n =
    let m = number_of (ask_row area used n) in
    by-test (lib.Dec.eqb m 0) _
    (λ t.
    let z = borrow.Author.Tests.eqb-true m 0 t in
    ap (λ (b : Bool). answer_refusal (cond b (answer_of (kept_in (take used area) n)) (Err m))) t
    ∙ answered-no (kept_in (take used area) n) _ _ z ∙ sym z)
    (λ f. ap (λ (b : Bool). answer_refusal (cond b (answer_of (kept_in (take used area) n)) (Err m))) f)

pub saved-number : (area : List ℕ) (used : ℕ) (s : Rattle.units.specs.declared.Settings.Settings)
    → answer_refusal (save_is area used s).answer ≡ number_of (save_row area used s)
unfolding save_is
saved-number area used s = answer-said (number_of (save_row area used s)) _

-- ---- a store that is laid out right

judged-by : (k : Kept) (laid held : Bool) → laid ≡ true → held ≡ true
    → unless (number_of (ask_tests laid held k)) (Err (number_of (ask_tests laid held k))) (answer_of k) ≡ judged k
unfolding number_of unless
judged-by k laid held p q =
    ap₂ (λ (a b : Bool). unless (number_of (ask_tests a b k)) (Err (number_of (ask_tests a b k))) (answer_of k)) p q ∙ by_kind k
  where
    by_kind : (k : Kept)
        → unless (number_of (ask_tests true true k)) (Err (number_of (ask_tests true true k))) (answer_of k) ≡ judged k
    by_kind (kept.Figures s) =
        by-test (settings_ok s) _
        (λ t. simp t)
        (λ f. simp f)
    by_kind kept.Newer = refl
    by_kind kept.Unknown = refl

pub ask-sound : (area : List ℕ) (used n : ℕ) → used ≤ length area → is_store (take used area) ≡ true
    → ask_is area used n ≡ judged (kept_in (take used area) n)
unfolding ask_is ask_row
ask-sound area used n h t =
    judged-by (kept_in (take used area) n) _ _ (layout-held area used h ∙ t) (le-leb used (length area) h)

module _ (area : List ℕ) (used : ℕ) (rs : List Rec) (h : used ≤ length area) (S : StoreOf rs (take used area)) where
  -- each number is answered by its record
  pub ask-record : (n : ℕ) → 1 ≤ n → n ≤ length rs → ask_is area used n ≡ judged (kept_of (record_of rs (n - 1)))
  ask-record n g l =
      ask-sound area used n h (store_ok rs (take used area) S) ∙ ap judged (store_kept rs (take used area) S n g l)

  pub ask-unknown : (n : ℕ) → (1 ≤ n → length rs < n) → ask_is area used n ≡ Err 11
  ask-unknown n f =
      ask-sound area used n h (store_ok rs (take used area) S) ∙ ap judged (store-unknown rs (take used area) S n f)

  pub count-records : count_is area used ≡ Ok (length rs)
  unfolding count_is store_row
  count-records =
      let a = layout-held area used h ∙ store_ok rs (take used area) S in
      let b = le-leb used (length area) h in
      sym (answer-is 0 _ (sym (all_pass (store_row area used) (a, (b, tt)))) refl (length rs) _ (sym (store-count rs (take used area) S)))

-- ---- 13 and 2

pub layout-fails : (area : List ℕ) (used : ℕ) → layout_ok area used ≡ false → (used ≤ length area) × (is_store (take used area) ≡ false)
layout-fails area used f =
    by-test (leb used (length area)) _
    (λ t. let h = leb-true used (length area) t in (h, sym (layout-held area used h) ∙ f))
    (λ g.
    let l = borrow.Author.Tests.leb-false used (length area) g in
    absurd (mathlib.Core.Bool.true≢false (layout-short area used l ∙ f)))
