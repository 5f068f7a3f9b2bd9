-- A store of settings meets its rules. Assumes nothing.
use Rattle.std.specs.Prelude.{Result, Ok, Err}
use mathlib.Core.Path.{◌≡◌, refl, sym, ap, ap₂, ◌∙◌, subst}
use mathlib.Core.Bool.{Bool, true, false, cond}
use mathlib.Core.List.{List, [], ◌∷◌, ◌++◌, append_assoc}
use mathlib.Core.Logic.{⊎_elim, ◌↔◌}
use Prim.Native.Nat.{ℕ, zero, suc, ◌+◌, ◌-◌, ◌*◌, ◌≤◌, ◌<◌}
use native.Mathlib.Omega.{arith}
use borrow.Author.Tests.{lt-ltb, le-ltb, ltb-true, ltb-false, le-leb, lt-leb, leb-true, eqb-true, eq-eqb, ne_eqb}
use lib.Dec.{leb, eqb}
use lib.ListN.{length, get_or, take, length-append, get_or-append, get_or-eq_default}
use lib.Seq.{get_or-append-add, get_or-take}
use Rattle.paper.specs.Limits.{Test, test, number_of}
use Rattle.paper.specs.Rows.{answer_as, answer_refusal}
use Rattle.paper.proofs.Logic.{by-test, lt-or-ge}
use Rattle.paper.proofs.Rows.{kept, worked}
use Rattle.paper.proofs.Refusals.{number-pass, number-fail}
use Rattle.slotset.proofs.Refusals.{answer-said}
use Rattle.units.specs.declared.Settings.{Settings}
use Rattle.units.specs.Settings.{settings_ok}
use Rattle.records.specs.Fields.{Bytes}
use Rattle.records.specs.Records.{Rec, record_of, file_of}
use Rattle.job.specs.Outcome.{Lowest, AllPass}
use Rattle.job.proofs.Tests.{number-none, number-lowest}
use Rattle.store.specs.declared.Saved.{Saved}
use Rattle.store.specs.declared.Asked.{Asked}
use Rattle.store.specs.declared.Asked.TheVariants as asked
use Rattle.store.specs.Layout.{is_store, count_in, StoreOf}
use Rattle.store.specs.Figures.{figures_of, kept_of, settings_record}
use Rattle.store.specs.Outcome.{layout_ok, store_row, save_row, ask_row, count_is, save_is, ask_is, judged}
use Rattle.store.proofs.Outcomes.{layout-held, save-passed, save-room}
use Rattle.store.proofs.Reading.{kept-newer, kept-figures}
use Rattle.store.proofs.Stores.{ok-store, store_ok, store-count, saved-kept}
use Rattle.store.proofs.Asks.{asked-number, saved-number, ask-record, ask-unknown, count-records, layout-fails}
use Rattle.store.proofs.Saves.{more-length, more-front, more-last, Accepted, accepted-says, saves, save-free}
use Rattle.store.proofs.Saves.{saved-length, saved-before, saved-behind, saved-store}
use Rattle.promises.specs.StoreRules.{Broken, StoreRefuses, StoreReads, AfterSave, Saves, none, more, no_settings, AfterSaves, StoresByRule}
use Rattle.promises.specs.StoreRules.{read_saved, read_asked, figures_left, StoreRead}
use Rattle.boltraven_c.specs.Store.{saved_number, saved_used, asked_number}

-- ---- demand 1

-- a number that is answered by the tests is given by them
by_tests : (ts : List Test) (n m : ℕ) → n ≡ number_of ts → ((number_of ts ≡ m) × (0 < m)) ↔ Lowest ts m → ((n ≡ m) × (0 < m)) ↔ Lowest ts m
by_tests ts n m e L = (λ x. L.0 (sym e ∙ x.0, x.1), λ l. let y = L.1 l in (e ∙ y.0, y.1))

by-none : (ts : List Test) (n : ℕ) → n ≡ number_of ts → (number_of ts ≡ 0) ↔ AllPass ts → (n ≡ 0) ↔ AllPass ts
by-none ts n e L = (λ x. L.0 (sym e ∙ x), λ a. e ∙ L.1 a)

-- 13 is the first test's number, and no other's
thirteen : (t : Bool) (ts : List Test) → (number_of ts ≡ 13 → ⊥) → (number_of (test 13 t ∷ ts) ≡ 13) ↔ (t ≡ false)
thirteen t ts h = (
  λ e. by-test t _ (λ p. absurd (h (sym (number-pass (test 13 t) ts p) ∙ e))) (λ f. f),
  λ f. number-fail (test 13 t) ts f,
)

used-bytes : (area : List ℕ) (used : ℕ) → Bytes area → Bytes (take used area)
used-bytes area used b k =
    ⊎_elim (λ (l : k < used). omega (arith, get_or-take used area k 0 l, b k))
    (λ (g : used ≤ k).
    let past : length (take used area) ≤ k = omega (arith, take_short used area) in
    omega (arith, get_or-eq_default (take used area) 0 past)) (lt-or-ge k used)
  where
    take_short : (n : ℕ) (l : List ℕ) → length (take n l) ≤ n
    take_short zero l = omega arith
    take_short (suc n) [] = omega arith
    take_short (suc n) (v ∷ l) = omega (arith, take_short n l)

refused-kept : (area : List ℕ) (used : ℕ) (s : Settings) (m : ℕ) → (save_is area used s).answer ≡ Err m → (save_is area used s).area ≡ area
unfolding save_is answer_as
refused-kept area used s m e =
    let n = number_of (save_row area used s) in
    let done : Result Saved ℕ = Ok (record { number = count_in (take used area) + 1; used = used + 12 }) in
    by-test (eqb n 0) _
    (λ t.
    let q : done ≡ Err m = sym (worked n (Err n) done (eqb-true n 0 t)) ∙ e in
    absurd (let z : ◌≡◌ {A = ℕ} 0 1 = cc in omega arith))
    (λ f. kept n area _ (borrow.Author.Tests.eqb-false n 0 f))

broken : (area : List ℕ) (used : ℕ) → Bytes area → (layout_ok area used ≡ false) ↔ Broken area used
broken area used b = (
  λ f. let x = layout-fails area used f in (x.0, λ I. absurd (mathlib.Core.Bool.true≢false (sym (store_ok I.records _ I.laid) ∙ x.1))),
  λ B.
      by-test (is_store (take used area)) _ (λ t. absurd (B.1 (ok-store (take used area) (used-bytes area used b) t)))
      (λ f. layout-held area used B.0 ∙ f),
)

both_ways : {A B C : Type 0} → (A ↔ B) → (B ↔ C) → (A ↔ C)
both_ways p q = (λ a. q.0 (p.0 a), λ c. p.1 (q.1 c))

same_number : (n m : ℕ) → n ≡ m → (n ≡ 13) ↔ (m ≡ 13)
same_number n m e = (λ x. sym e ∙ x, λ x. e ∙ x)

two-tests : (a : Bool) (n : ℕ) → number_of (test n a ∷ []) ≡ 13 → n ≡ 13
unfolding number_of
two-tests true n e = absurd (omega arith)
two-tests false n e = e

three-tests : (a b c : Bool) (m n : ℕ) → (m ≡ 13 → ⊥) → (n ≡ 13 → ⊥) → number_of (test 2 a ∷ test m b ∷ test n c ∷ []) ≡ 13 → ⊥
unfolding number_of
three-tests true true true m n h g e = omega arith
three-tests true true false m n h g e = g e
three-tests true false c m n h g e = h e
three-tests false b c m n h g e = omega arith

pub store-refuses : StoreRefuses
unfolding count_is store_row save_row ask_row
store-refuses = record {
  count = λ area used m.
      by_tests (store_row area used) _ m (answer-said _ _) (number-lowest 0 (store_row area used) (omega arith, (omega arith, tt))
      (omega arith, (omega arith, tt)) m);
  save = λ area used s m.
      by_tests (save_row area used s) _ m (saved-number area used s) (number-lowest 0 (save_row area used s)
      (omega arith, (omega arith, (omega arith, (omega arith, tt)))) (omega arith, (omega arith, (omega arith, (omega arith, tt)))) m);
  ask = λ area used n m.
      by_tests (ask_row area used n) _ m (asked-number area used n) (number-lowest 0 (ask_row area used n)
      (omega arith, (omega arith, (omega arith, (omega arith, tt)))) (omega arith, (omega arith, (omega arith, (omega arith, tt)))) m);
  saves = λ area used s.
      by-none (save_row area used s) _ (saved-number area used s)
      (number-none (save_row area used s) (omega arith, (omega arith, (omega arith, (omega arith, tt)))));
  answers = λ area used n.
      by-none (ask_row area used n) _ (asked-number area used n)
      (number-none (ask_row area used n) (omega arith, (omega arith, (omega arith, (omega arith, tt)))));
  kept = refused-kept;
  count-broken = λ area used b.
      both_ways (same_number _ _ (answer-said _ _))
      (both_ways (thirteen (layout_ok area used) (test 2 (leb used (length area)) ∷ [])
      (λ e. let q = two-tests (leb used (length area)) 2 e in omega arith)) (broken area used b));
  save-broken = λ area used s b.
      both_ways (same_number _ _ (saved-number area used s))
      (both_ways (thirteen (layout_ok area used) _ (three-tests _ _ _ 5 7 (λ e. omega arith) (λ e. omega arith))) (broken area used b));
  ask-broken = λ area used n b.
      both_ways (same_number _ _ (asked-number area used n))
      (both_ways (thirteen (layout_ok area used) _ (three-tests _ _ _ 7 11 (λ e. omega arith) (λ e. omega arith))) (broken area used b));
  one-outcome = λ w x y p q. ap₂ {C = Result Saved ℕ × List ℕ} (λ (a : Result Saved ℕ) (l : List ℕ). (a, l)) (p.said ∙ sym q.said) (p.left ∙ sym q.left);
}

-- ---- what is read

judged-newer : (r : Rec) → (judged (kept_of r) ≡ Ok asked.Newer) ↔ (33 < r.kind)
judged-newer r = (
  λ e.
      ⊎_elim (λ (l : 33 < r.kind). l)
      (λ (g : r.kind ≤ 33). absurd (not-newer (figures_of r) (ap judged (kept-figures r g) ∙ e))) (lt-or-ge 33 r.kind),
  λ h. ap judged (sym (kept-newer r h)),
)
  where
    not-newer : (s : Settings) → cond {A = Result Asked ℕ} (settings_ok s) (Ok (asked.Is s)) (Err 7) ≡ Ok asked.Newer → ⊥
    not-newer s e =
        by-test (settings_ok s) _
        (λ t.
        let q : ◌≡◌ {A = Result Asked ℕ} (Ok (asked.Is s)) (Ok asked.Newer) = sym (ap {B = Result Asked ℕ} (λ (b : Bool). cond b (Ok (asked.Is s)) (Err 7)) t) ∙ e in
        let z : ◌≡◌ {A = ℕ} 0 1 = cc in omega arith)
        (λ f.
        let q : ◌≡◌ {A = Result Asked ℕ} (Err 7) (Ok asked.Newer) = sym (ap {B = Result Asked ℕ} (λ (b : Bool). cond b (Ok (asked.Is s)) (Err 7)) f) ∙ e in
        let z : ◌≡◌ {A = ℕ} 0 1 = cc in omega arith)

judged-figures : (r : Rec) (s : Settings) → judged (kept_of r) ≡ Ok (asked.Is s) → (r.kind ≤ 33) × (s ≡ figures_of r) × (settings_ok s ≡ true)
judged-figures r s e =
    ⊎_elim
    (λ (l : 33 < r.kind).
    let q : ◌≡◌ {A = Result Asked ℕ} (Ok asked.Newer) (Ok (asked.Is s)) = ap judged (kept-newer r l) ∙ e in
    absurd (let z : ◌≡◌ {A = ℕ} 0 1 = cc in omega arith))
    (λ (g : r.kind ≤ 33).
    let f = figures_of r in
    let here : cond {A = Result Asked ℕ} (settings_ok f) (Ok (asked.Is f)) (Err 7) ≡ Ok (asked.Is s) = ap judged (kept-figures r g) ∙ e in
    by-test (settings_ok f) _
    (λ t.
    let q : ◌≡◌ {A = Result Asked ℕ} (Ok (asked.Is f)) (Ok (asked.Is s)) = sym (ap {B = Result Asked ℕ} (λ (b : Bool). cond b (Ok (asked.Is f)) (Err 7)) t) ∙ here in
    let w : s ≡ f = cc in (g, w, ap settings_ok w ∙ t))
    (λ n.
    let q : ◌≡◌ {A = Result Asked ℕ} (Err 7) (Ok (asked.Is s)) = sym (ap {B = Result Asked ℕ} (λ (b : Bool). cond b (Ok (asked.Is f)) (Err 7)) n) ∙ here in
    absurd (let z : ◌≡◌ {A = ℕ} 0 1 = cc in omega arith)))
    (lt-or-ge 33 r.kind)

old-edition : (r : Rec) → r.kind ≡ 32 → (figures_of r).edition ≡ 0
unfolding figures_of
old-edition r k = ap (λ (b : Bool). cond b 0 (get_or r.body 3 0)) (eq-eqb r.kind 32 k)

store-reads : (area : List ℕ) (used : ℕ) (rs : List Rec) → used ≤ length area → StoreOf rs (take used area) → StoreReads area used rs
store-reads area used rs h S = record {
  counted = count-records area used rs h S;
  numbered = ask-record area used rs h S;
  unknown = λ n o.
      ask-unknown area used rs h S n (λ g. ⊎_elim (λ (z : n ≡ 0). absurd (omega arith)) (λ (l : length rs < n). l) o);
  newer = λ n g l.
      let e = ask-record area used rs h S n g l in
      let J = judged-newer (record_of rs (n - 1)) in (λ x. J.0 (sym e ∙ x), λ k. e ∙ J.1 k);
  figures = λ n s g l x. judged-figures (record_of rs (n - 1)) s (sym (ask-record area used rs h S n g l) ∙ x);
  old = λ n s g l k x.
      let q = (judged-figures (record_of rs (n - 1)) s (sym (ask-record area used rs h S n g l) ∙ x)).1 in
      ap (λ (t : Settings). t.edition) q ∙ old-edition (record_of rs (n - 1)) k;
}

-- ---- what a save leaves

-- two stores of which one has more records answer alike for the records that both have
earlier-same : (area left : List ℕ) (used end : ℕ) (rs ts : List Rec) → used ≤ length area → end ≤ length left → StoreOf rs (take used area)
    → StoreOf ts (take end left) → length rs ≤ length ts → ((k : ℕ) → k < length rs → record_of ts k ≡ record_of rs k)
    → (n : ℕ) → n ≤ length rs → ask_is left end n ≡ ask_is area used n
earlier-same area left used end rs ts h g S T l same n m =
    ⊎_elim
    (λ (z : n < 1). ask-unknown left end ts g T n (λ p. absurd (omega arith)) ∙ sym (ask-unknown area used rs h S n (λ p. absurd (omega arith))))
    (λ (p : 1 ≤ n).
    ask-record left end ts g T n p (omega arith) ∙ ap (λ (r : Rec). judged (kept_of r)) (same (n - 1) (omega arith))
    ∙ sym (ask-record area used rs h S n p m)) (lt-or-ge n 1)

judged-saved : (s : Settings) → settings_ok s ≡ true → judged (kept_of (settings_record s)) ≡ Ok (asked.Is s)
judged-saved s t = ap judged (saved-kept s t) ∙ ap {B = Result Asked ℕ} (λ (b : Bool). cond b (Ok (asked.Is s)) (Err 7)) t

-- over a store of known records
module _ (area : List ℕ) (used : ℕ) (s : Settings) (m end : ℕ) (rs : List Rec) (S : StoreOf rs (take used area))
    (e : (save_is area used s).answer ≡ Ok (record { number = m; used = end })) where
  here : Accepted area used s m end (save_is area used s).area
  here = accepted-says area used s m end e

  next-number : m ≡ suc (length rs)
  next-number = omega (arith, here.numbered, store-count rs (take used area) S)

  area-held : used ≤ length area
  area-held = (save-passed area used s here.free).1

  end-held : end ≤ length (save_is area used s).area
  end-held =
      omega (arith, here.ends, saved-length area used s m end _ here, (save-room area used s here.free).0)

  right-after : StoreOf (rs ++ (settings_record s ∷ [])) (take end (save_is area used s).area)
  right-after = saved-store area used s m end _ here rs S

  after-save : AfterSave area used s m end (save_is area used s).area
  after-save =
      let r = settings_record s in
      let n = more-length rs r in
      let left = (save_is area used s).area in
      record {
        before = rs;
        laid = S;
        right = right-after;
        is-next = next-number;
        counted = count-records left end (rs ++ (r ∷ [])) end-held right-after ∙ ap Ok (n ∙ sym next-number);
        read_back =
            let z : m - 1 ≡ length rs = omega (arith, next-number) in
            ask-record left end (rs ++ (r ∷ [])) end-held right-after m (omega (arith, next-number)) (omega (arith, next-number, n))
            ∙ ap (λ (x : Rec). judged (kept_of x)) (ap (record_of (rs ++ (r ∷ []))) z ∙ more-last rs r)
            ∙ judged-saved s (save-passed area used s here.free).3;
        earlier = λ k h.
            earlier-same area left used end rs (rs ++ (r ∷ [])) area-held end-held S right-after (omega (arith, n)) (more-front rs r) k
            (omega (arith, next-number));
        twelve = here.ends;
        same_length = saved-length area used s m end left here;
        others = λ k o.
            ⊎_elim (λ (l : k < used). saved-before area used s m end left here k l)
            (λ (g : end ≤ k). saved-behind area used s m end left here k (omega (arith, here.ends))) o;
      }

saved-rule : (area : List ℕ) (used : ℕ) (s : Settings) (m end : ℕ) → Bytes area → (save_is area used s).answer ≡ Ok (record { number = m; used = end })
    → AfterSave area used s m end (save_is area used s).area
saved-rule area used s m end b e =
    let A = accepted-says area used s m end e in
    let p = save-passed area used s A.free in
    let I = ok-store (take used area) (used-bytes area used b) (sym (layout-held area used p.1) ∙ p.0) in
    after-save area used s m end I.records I.laid e

-- ---- many saves

abbrev records_for : List Settings → List Rec
records_for [] = []
records_for (s ∷ ss) = settings_record s ∷ records_for ss

records-count : (ss : List Settings) → length (records_for ss) ≡ length ss
records-count [] = refl
records-count (s ∷ ss) = ap suc (records-count ss)

-- the store that they leave, and that each has right figures
record Left (area : List ℕ) (used : ℕ) (rs : List Rec) (ss : List Settings) (left : List ℕ) (last : ℕ) : Type 0 where
  store : StoreOf (rs ++ records_for ss) (take last left)
  within : last ≤ length left
  good : (k : ℕ) → k < length ss → settings_ok (get_or ss k no_settings) ≡ true

append-none : (l : List Rec) → l ++ [] ≡ l
append-none [] = refl
append-none (v ∷ l) = ap (λ (t : List Rec). v ∷ t) (append-none l)

saves-left : {area left : List ℕ} {used last : ℕ} {ss : List Settings} (rs : List Rec) → used ≤ length area → StoreOf rs (take used area)
    → Saves area used ss left last → Left area used rs ss left last
saves-left {area} {left} {used} rs h S none =
    record { store = subst (λ (l : List Rec). StoreOf l (take used area)) (sym (append-none rs)) S; within = h; good = λ k l. absurd (omega arith) }
saves-left {area} {left} {used} {last} rs h S (more {end = end} {n = n} {s = s} {ss = ss} e rest) =
    let L = saves-left (rs ++ (settings_record s ∷ [])) (end-held area used s n end rs S e) (right-after area used s n end rs S e) rest in
    record {
      store = subst (λ (l : List Rec). StoreOf l (take last left)) (append_assoc rs (settings_record s ∷ []) (records_for ss)) L.store;
      within = L.within;
      good = first_good s ss (save-passed area used s (accepted-says area used s n end e).free).3 L.good;
    }
  where
    first_good : (s : Settings) (ss : List Settings) → settings_ok s ≡ true
        → ((k : ℕ) → k < length ss → settings_ok (get_or ss k no_settings) ≡ true)
        → (k : ℕ) → k < suc (length ss) → settings_ok (get_or (s ∷ ss) k no_settings) ≡ true
    first_good s ss t f zero l = t
    first_good s ss t f (suc k) l = f k (omega arith)

record-for : (ss : List Settings) (k : ℕ) → k < length ss → record_of (records_for ss) k ≡ settings_record (get_or ss k no_settings)
record-for [] k h = absurd (omega arith)
record-for (s ∷ ss) zero h = refl
record-for (s ∷ ss) (suc k) h = record-for ss k (omega arith)

many-saves : (area : List ℕ) (used : ℕ) (rs : List Rec) (ss : List Settings) (left : List ℕ) (last : ℕ) → used ≤ length area
    → StoreOf rs (take used area) → Saves area used ss left last → AfterSaves area used rs ss left last
many-saves area used rs ss left last h S x =
    let L = saves-left rs h S x in
    let ts = rs ++ records_for ss in
    let n : length ts ≡ length rs + length ss = length-append rs (records_for ss) ∙ ap (λ (m : ℕ). length rs + m) (records-count ss) in
    record {
      counted = count-records left last ts L.within L.store ∙ ap Ok n;
      each = λ k l.
          let z : length rs + suc k - 1 ≡ length rs + k = omega arith in
          ask-record left last ts L.within L.store (length rs + suc k) (omega arith) (omega (arith, n))
          ∙ ap (λ (r : Rec). judged (kept_of r))
          (ap (record_of ts) z ∙ get_or-append-add rs (records_for ss) k _ ∙ record-for ss k l)
          ∙ judged-saved (get_or ss k no_settings) (L.good k l);
      earlier = earlier-same area left used last rs ts h L.within S L.store (omega (arith, n))
          (λ k l. get_or-append rs (records_for ss) _ k l);
    }

can-save : (area : List ℕ) (used : ℕ) (rs : List Rec) (ss : List Settings) → StoreOf rs (take used area) → length rs + length ss ≤ 128
    → used + 12 * length ss ≤ length area → ((k : ℕ) → k < length ss → settings_ok (get_or ss k no_settings) ≡ true)
    → (left : List ℕ) × (last : ℕ) × Saves area used ss left last
can-save area used rs [] S f h g = (area, used, none)
can-save area used rs (s ∷ ss) S f h g =
    let free = save-free area used s rs S (omega arith) (omega arith) (g 0 (omega arith)) in
    let e = saves area used s free in
    let A = accepted-says area used s _ _ e in
    let n = more-length rs (settings_record s) in
    let x = can-save (save_is area used s).area (used + 12) (rs ++ (settings_record s ∷ [])) ss (right-after area used s _ _ rs S e)
    (omega (arith, n)) (omega (arith, saved-length area used s _ _ _ A)) (λ k l. g (suc k) (omega arith)) in
    (x.0, x.1, more e x.2)

pub stores-by-rule : StoresByRule
unfolding file_of
stores-by-rule = record {
  reads = store-reads;
  saved = saved-rule;
  many = many-saves;
  room = can-save;
  empty = λ area. record { each = λ k h. absurd (omega arith); few = omega arith; whole = refl };
}

-- ---- what a C caller takes the answers for

read_asked_lem : (was : Settings) (a : Result Asked ℕ) → read_asked (asked_number a) (figures_left was a) ≡ a
read_asked_lem was (Ok (asked.Is s)) = refl
read_asked_lem was (Ok asked.Newer) = refl
read_asked_lem was (Err n) =
    let z : 65536 + n - 65536 ≡ n = omega arith in
    simp (ne_eqb (65536 + n) 0 (λ e. omega arith), ne_eqb (65536 + n) 1 (λ e. omega arith)) (ap Err z)

read-saved : (area : List ℕ) (used : ℕ) (s : Settings) (m n : ℕ)
    → let a = (save_is area used s).answer in read_saved (answer_refusal a) (saved_number m a) (saved_used n a) ≡ a
unfolding save_is answer_as
read-saved area used s m n =
    let k = number_of (save_row area used s) in
    let done : Result Saved ℕ = Ok (record { number = count_in (take used area) + 1; used = used + 12 }) in
    let Reads : Result Saved ℕ → Type 0 = λ a. read_saved (answer_refusal a) (saved_number m a) (saved_used n a) ≡ a in
    by-test (eqb k 0) _
    (λ t. subst Reads (sym (worked k (Err k) done (eqb-true k 0 t))) refl)
    (λ f.
    subst Reads (sym (kept k (Err k) done (borrow.Author.Tests.eqb-false k 0 f)))
    (ap {B = Result Saved ℕ} (λ (b : Bool). cond b (Ok (record { number = m; used = n })) (Err k)) f))

pub store-read : StoreRead
store-read = record { save = read-saved; ask = read_asked_lem }
