-- A store of settings: its refusals, 13 both ways, what each number answers, and what a save leaves behind. Assumes nothing.
use Rattle.std.specs.Prelude.{◌≡◌, true, cond, List, [], ◌∷◌, ◌++◌, ◌⊎◌, ◌↔◌, ℕ, suc, ◌+◌, ◌-◌, ◌*◌, ◌≤◌, ◌<◌, eqb, length, get_or, take, Result, Ok, Err}
use Rattle.paper.specs.Rows.{answer_refusal}
use Rattle.units.specs.declared.Settings.{Settings}
use Rattle.units.specs.Settings.{settings_ok}
use Rattle.records.specs.Fields.{Bytes}
use Rattle.records.specs.Records.{Rec, record_of}
use Rattle.job.specs.Outcome.{Lowest, AllPass}
use Rattle.store.specs.declared.Saved.{Saved}
use Rattle.store.specs.declared.Asked.{Asked}
use Rattle.store.specs.declared.Asked.TheVariants as asked
use Rattle.store.specs.Layout.{StoreOf, IsStore}
use Rattle.store.specs.Figures.{figures_of, kept_of, settings_record}
use Rattle.store.specs.Outcome.{store_row, save_row, ask_row, count_is, save_is, ask_is, judged, Saving, SavesAs}
use Rattle.boltraven_c.specs.Store.{saved_number, saved_used, asked_number, asked_figure}
use Rattle.boltraven_c.specs.Units.{settings_of}
use Rattle.promises.specs.Outcomes.{Only}

-- the used bytes are there, and are no sequence of right records
abbrev pub Broken : List ℕ → ℕ → Type 0
Broken area used = (used ≤ length area) × (IsStore (take used area) → ⊥)

-- ---- demand 1

pub record StoreRefuses : Type 0 where
  -- the lowest number that applies is given, but 13 comes before all; none where none applies
  pub count : (area : List ℕ) (used m : ℕ) → ((answer_refusal (count_is area used) ≡ m) × (0 < m)) ↔ Lowest (store_row area used) m
  pub save : (area : List ℕ) (used : ℕ) (s : Settings) (m : ℕ)
      → ((answer_refusal (save_is area used s).answer ≡ m) × (0 < m)) ↔ Lowest (save_row area used s) m
  pub ask : (area : List ℕ) (used n m : ℕ) → ((answer_refusal (ask_is area used n) ≡ m) × (0 < m)) ↔ Lowest (ask_row area used n) m
  pub saves : (area : List ℕ) (used : ℕ) (s : Settings) → (answer_refusal (save_is area used s).answer ≡ 0) ↔ AllPass (save_row area used s)
  pub answers : (area : List ℕ) (used n : ℕ) → (answer_refusal (ask_is area used n) ≡ 0) ↔ AllPass (ask_row area used n)
  -- a refused save changes no byte
  pub kept : (area : List ℕ) (used : ℕ) (s : Settings) (m : ℕ) → (save_is area used s).answer ≡ Err m → (save_is area used s).area ≡ area
  -- 13, both ways, over every list of bytes: whatever the figures saved and whatever number is asked for
  pub count-broken : (area : List ℕ) (used : ℕ) → Bytes area → (answer_refusal (count_is area used) ≡ 13) ↔ Broken area used
  pub save-broken : (area : List ℕ) (used : ℕ) (s : Settings) → Bytes area
      → (answer_refusal (save_is area used s).answer ≡ 13) ↔ Broken area used
  pub ask-broken : (area : List ℕ) (used n : ℕ) → Bytes area → (answer_refusal (ask_is area used n) ≡ 13) ↔ Broken area used
  -- only one answer and one area fit a save
  pub one-outcome : (w : Saving) → Only (λ (r : Result Saved ℕ × List ℕ). SavesAs w r.0 r.1)

-- ---- what is read, of a store that is the bytes of the records rs

pub record StoreReads (area : List ℕ) (used : ℕ) (rs : List Rec) : Type 0 where
  pub counted : count_is area used ≡ Ok (length rs)
  -- number n is answered by the n-th record, whatever its kind; 0 and numbers above the count by 11
  pub numbered : (n : ℕ) → 1 ≤ n → n ≤ length rs → ask_is area used n ≡ judged (kept_of (record_of rs (n - 1)))
  pub unknown : (n : ℕ) → (n ≡ 0) ⊎ (length rs < n) → ask_is area used n ≡ Err 11
  -- a newer record is answered as newer, and only a newer one is
  pub newer : (n : ℕ) → 1 ≤ n → n ≤ length rs → (ask_is area used n ≡ Ok asked.Newer) ↔ (33 < (record_of rs (n - 1)).kind)
  -- figures are those of a record of kind 32 or 33 that pass rule 7
  pub figures : (n : ℕ) (s : Settings) → 1 ≤ n → n ≤ length rs → ask_is area used n ≡ Ok (asked.Is s)
      → ((record_of rs (n - 1)).kind ≤ 33) × (s ≡ figures_of (record_of rs (n - 1))) × (settings_ok s ≡ true)
  -- those of an old record are of edition 1, which is 0
  pub old : (n : ℕ) (s : Settings) → 1 ≤ n → n ≤ length rs → (record_of rs (n - 1)).kind ≡ 32 → ask_is area used n ≡ Ok (asked.Is s) → s.edition ≡ 0

-- ---- what a save leaves

pub record AfterSave (area : List ℕ) (used : ℕ) (s : Settings) (m end : ℕ) (left : List ℕ) : Type 0 where
  -- the records before it, and after it one more, at the end
  pub before : List Rec
  pub laid : StoreOf before (take used area)
  pub right : StoreOf (before ++ (settings_record s ∷ [])) (take end left)
  pub is-next : m ≡ suc (length before)
  pub counted : count_is left end ≡ Ok m
  -- what was saved is what is read, and every number below it answers as before
  pub read_back : ask_is left end m ≡ Ok (asked.Is s)
  pub earlier : (n : ℕ) → n < m → ask_is left end n ≡ ask_is area used n
  -- twelve bytes are written, and every other stays
  pub twelve : end ≡ used + 12
  pub same_length : length left ≡ length area
  pub others : (k : ℕ) → (k < used) ⊎ (end ≤ k) → get_or left k 0 ≡ get_or area k 0

-- settings saved one after the other, each accepted
pub data Saves : List ℕ → ℕ → List Settings → List ℕ → ℕ → Type 0 where
  none : {area : List ℕ} {used : ℕ} → Saves area used [] area used
  more : {area left : List ℕ} {used end last n : ℕ} {s : Settings} {ss : List Settings} → (save_is area used s).answer ≡ Ok (record { number = n; used = end })
      → Saves (save_is area used s).area end ss left last → Saves area used (s ∷ ss) left last

-- no figures: what the list of settings has past its end
abbrev pub no_settings : Settings
no_settings = record { fairness = 0; lock = 0; boundary = 0; edition = 0; value = 0; days = 0 }

-- after them, over a store of the records rs
pub record AfterSaves (area : List ℕ) (used : ℕ) (rs : List Rec) (ss : List Settings) (left : List ℕ) (last : ℕ) : Type 0 where
  pub counted : count_is left last ≡ Ok (length rs + length ss)
  pub each : (k : ℕ) → k < length ss → ask_is left last (length rs + suc k) ≡ Ok (asked.Is (get_or ss k no_settings))
  pub earlier : (n : ℕ) → n ≤ length rs → ask_is left last n ≡ ask_is area used n

pub record StoresByRule : Type 0 where
  pub reads : (area : List ℕ) (used : ℕ) (rs : List Rec) → used ≤ length area → StoreOf rs (take used area) → StoreReads area used rs
  pub saved : (area : List ℕ) (used : ℕ) (s : Settings) (m end : ℕ) → Bytes area → (save_is area used s).answer ≡ Ok (record { number = m; used = end })
      → AfterSave area used s m end (save_is area used s).area
  -- any number of saves; the first one's number follows the last before it, and is 1 of an empty store
  pub many : (area : List ℕ) (used : ℕ) (rs : List Rec) (ss : List Settings) (left : List ℕ) (last : ℕ) → used ≤ length area
      → StoreOf rs (take used area) → Saves area used ss left last → AfterSaves area used rs ss left last
  -- and up to 128 records each is accepted where the area has the bytes and the figures are right
  pub room : (area : List ℕ) (used : ℕ) (rs : List Rec) (ss : List Settings) → StoreOf rs (take used area)
      → length rs + length ss ≤ 128 → used + 12 * length ss ≤ length area → ((k : ℕ) → k < length ss → settings_ok (get_or ss k no_settings) ≡ true)
      → (left : List ℕ) × (last : ℕ) × Saves area used ss left last
  -- an area with nothing used is an empty store
  pub empty : (area : List ℕ) → StoreOf [] (take 0 area)

-- ---- what a C caller takes the answers for

abbrev pub read_saved : ℕ → ℕ → ℕ → Result Saved ℕ
read_saved v m used = cond (eqb v 0) (Ok (record { number = m; used = used })) (Err v)

abbrev pub read_asked : ℕ → Settings → Result Asked ℕ
read_asked v s = cond (eqb v 0) (Ok (asked.Is s)) (cond (eqb v 1) (Ok asked.Newer) (Err (v - 65536)))

-- the six numbers after a call; `was` stood there before it
abbrev pub figures_left : Settings → Result Asked ℕ → Settings
figures_left was a =
    settings_of (asked_figure (λ s. s.fairness) was.fairness a) (asked_figure (λ s. s.lock) was.lock a)
    (asked_figure (λ s. s.boundary) was.boundary a) (asked_figure (λ s. s.edition) was.edition a)
    (asked_figure (λ s. s.value) was.value a) (asked_figure (λ s. s.days) was.days a)

pub record StoreRead : Type 0 where
  pub save : (area : List ℕ) (used : ℕ) (s : Settings) (m n : ℕ)
      → let a = (save_is area used s).answer in read_saved (answer_refusal a) (saved_number m a) (saved_used n a) ≡ a
  pub ask : (was : Settings) (a : Result Asked ℕ) → read_asked (asked_number a) (figures_left was a) ≡ a
