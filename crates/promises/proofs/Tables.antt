-- Each entry is given by its table in the paper's words: test by test along its row. Assumes nothing.
use mathlib.Core.Path.{◌≡◌, refl, sym, ap, ◌∙◌, subst}
use mathlib.Core.Bool.{Bool, true, false, ◌&&◌, ◌||◌, cond}
use mathlib.Core.List.{List, [], ◌∷◌}
use mathlib.Core.Logic.{◌⊎◌, inl, inr, ⊎_elim, ◌↔◌}
use Prim.Native.Nat.{ℕ, ◌-◌, ◌*◌, ◌≤◌, ◌<◌, zero-le}
use native.Mathlib.Omega.{arith}
use borrow.Author.Tests.{leb-true, le-leb, ltb-true, lt-ltb}
use lib.Dec.{leb, ltb}
use lib.IntN.{ℤ}
use lib.ListN.{length, get_or, length-map}
use Rattle.paper.specs.Limits.{people_ok, slot_count_ok, counts_ok, Test, test, number_of}
use Rattle.paper.specs.Count.{all}
use Rattle.paper.proofs.Logic.{by_cond, both, and-true, or_left, or-second, or-either, lt-or-ge}
use Rattle.paper.proofs.Count.{all-each, each_all}
use Rattle.slotset.specs.Answers.{length_row, slot_row, stretch_ok, stretch_row, sets_row, same_sets_row, person_row, person_stretch_row}
use Rattle.runs.specs.Listed.{runs_row}
use Rattle.slots.specs.Lent.{slot_room_ok, slots_ok, lent_row, slot_minutes_row}
use Rattle.slots.specs.Ranges.{Ranges, range_count_ok, range_room_ok, ranges_ok, ranges}
use Rattle.slots.specs.Merged.{merged_row}
use Rattle.slots.specs.Atomic.{Base, base_row, atomise_row, is_cut, cuts_in, starts_of_atoms}
use Rattle.slots.specs.Availability.{availability_row, available_row}
use Rattle.slots.specs.Freeze.{freeze_row}
use Rattle.slots.proofs.SplitLaws as laws
use Rattle.units.specs.declared.Settings.{Settings}
use Rattle.units.specs.Settings.{settings_ok}
use Rattle.units.specs.Units.{units_ok}
use Rattle.units.specs.Answers.{units_row, unit_slots_row, unit_of_slot_row}
use Rattle.units.specs.Starts.{starts_row}
use Rattle.units.specs.Days.{target_run_row}
use Rattle.units.specs.Domains.{unit_frozen_row, slot_domain_row, unit_domain_row, unit_domains_row}
use Rattle.units.specs.Achievable.{achievable_run_row, achievable_runs_row}
use Rattle.targets.specs.Figures.{all_figures_ok}
use Rattle.targets.specs.Outcome as targets
use Rattle.owners.specs.Derived.{Plan, Derived, known_by}
use Rattle.owners.specs.Recount.{known_at, available_for, available_at, even_at, set_at, minutes_ok_at, recount_tests, recounts, total_ok_at}
use Rattle.owners.specs.Entries as state
use Rattle.rota.specs.Entries as rota
use Rattle.rota.specs.declared.draws.Draw.{Draw}
use Rattle.rota.specs.Draws.{draws, firsts, seconds}
use Rattle.promises.specs.Entries.{Call, play_of, of_draws, play_draws_of, row_of}
use Rattle.promises.specs.Table.{Rule, rules, Applies, GivenBy, GivenByTests}
use Rattle.promises.specs.Tests.{SlotsRight, RangesRight, SettingsRight, UnitsRight}
use Rattle.promises.specs.RotaRules.{PassesRecount}
use Rattle.promises.specs.SplitRule.{strung, CutsOf}
use Rattle.promises.specs.Tables.{outside, short, broken, overfull, beyond, not_below, reaches_past, Known, Available, AllKnown}
use Rattle.promises.specs.Tables.{AllAvailable}
use Rattle.promises.specs.Tables as tables
use Rattle.promises.proofs.Table.{rising, Least, tests-give, least-given, one-given}
use Rattle.promises.proofs.Tests.{tests-by-rule, known-test, available-test}
use Rattle.promises.proofs.Refusals.{slots-refuse, units-refuse}
use Rattle.promises.proofs.SetRefusals.{sets-refuse}
use Rattle.promises.proofs.RotaRefusals.{targets-refuse, rota-refuses}
use Rattle.promises.proofs.RotaRules.{rota-by-rule}
use Rattle.promises.proofs.Rota.{draws-alike}
use Rattle.promises.proofs.SplitRule.{atoms-strung}

-- ---- the first rule that says so

-- n is its number, or 0 where none does
abbrev pub FirstIs : List Rule → ℕ → Type 0
FirstIs [] n = n ≡ 0
FirstIs (r ∷ t) n = (r.Says × (n ≡ r.number)) ⊎ ((r.Says → ⊥) × FirstIs t n)

pub record First (t : List Rule) (n : ℕ) : Type 0 where
  pub is : FirstIs t n

-- numbers are at least `low` and never fall
abbrev pub orderly : ℕ → List Rule → Bool
orderly low [] = true
orderly low (r ∷ t) = leb low r.number && orderly r.number t

applies-low : (low : ℕ) (t : List Rule) → orderly low t ≡ true → (k : ℕ) → Applies t k → low ≤ k
applies-low low [] h k a = absurd a
applies-low low (r ∷ t) h k a =
    let x = both (leb low r.number) (orderly r.number t) h in
    let l = leb-true low r.number x.0 in
    ⊎_elim (λ (p : (r.number ≡ k) × r.Says). omega (arith, p.0))
    (λ (b : Applies t k). omega (arith, applies-low r.number t x.1 k b)) a

-- of a table in order it is the lowest
first-least : (low : ℕ) (t : List Rule) (n : ℕ) → 0 < low → orderly low t ≡ true → FirstIs t n → Least t n
first-least low [] n pos h f = record { here = λ z. absurd (omega (arith, f)); least = λ k a. absurd a }
first-least low (r ∷ t) n pos h (inl f) =
    let x = both (leb low r.number) (orderly r.number t) h in
    let l = leb-true low r.number x.0 in
    record {
      here = λ z. inl (sym f.1, f.0);
      least = λ k a.
          ⊎_elim (λ (p : (r.number ≡ k) × r.Says). (omega (arith, f.1), omega (arith, f.1, p.0)))
          (λ (b : Applies t k). (omega (arith, f.1), omega (arith, f.1, applies-low r.number t x.1 k b))) a;
    }
first-least low (r ∷ t) n pos h (inr f) =
    let x = both (leb low r.number) (orderly r.number t) h in
    let l = leb-true low r.number x.0 in
    let m = first-least r.number t n (omega arith) x.1 f.1 in
    record {
      here = λ z. inr (m.here z);
      least = λ k a.
          ⊎_elim (λ (p : (r.number ≡ k) × r.Says). absurd (f.0 p.1)) (λ (b : Applies t k). m.least k b) a;
    }

-- what is answered by a row's tests is given by a table, if it is the first of it
pub by_first : (t : List Rule) (row : List Test) (n : ℕ) → orderly 1 t ≡ true → rising 1 row ≡ true → GivenByTests row n → First t
    (number_of row)
    → GivenBy t n
by_first t row n o r h f =
    subst (GivenBy t) (sym (one-given (rules row) n (number_of row) h (tests-give row r)))
    (least-given t (number_of row) (first-least 1 t (number_of row) (omega arith) o f.is))

pub none : First [] 0
none = record { is = refl }

-- ---- one test, one rule

not-both : (b : Bool) (X : Type 0) → b ≡ true → b ≡ false → X
not-both b X t f = absurd (mathlib.Core.Bool.true≢false (sym t ∙ f))

say : (r : Rule) (b : Bool) {t : List Rule} {n : ℕ} → (b ≡ false → r.Says) → (b ≡ true → r.Says → ⊥) → (b ≡ true → First t n)
    → First (r ∷ t) (cond b n r.number)
say r b {t} {n} f g h = record { is = by_cond b n r.number (FirstIs (r ∷ t)) (λ e. inr (g e, (h e).is)) (λ e. inl (f e, refl)) }

pub say-broken : (m : ℕ) (Right : Type 0) (b : Bool) {t : List Rule} {n : ℕ} → (b ≡ true) ↔ Right → (b ≡ true → First t n)
    → First (broken m Right ∷ t) (cond b n m)
say-broken m Right b {t} {n} x h =
    say (broken m Right) b {t = t} {n = n} (λ e r. not-both b ⊥ (x.1 r) e) (λ e says. says (x.0 e)) h

say-outside : (least most k : ℕ) (b : Bool) {t : List Rule} {n : ℕ} → (b ≡ true) ↔ ((least ≤ k) × (k ≤ most)) → (b ≡ true → First t n)
    → First (outside least most k ∷ t) (cond b n 1)
say-outside least most k b {t} {n} x h =
    say (outside least most k) b {t = t} {n = n}
    (λ e.
    ⊎_elim (λ (a : k < least). inl a)
    (λ (a : least ≤ k).
    ⊎_elim (λ (c : most < k). inr c) (λ (c : k ≤ most). not-both b _ (x.1 (a, c)) e) (lt-or-ge most k)) (lt-or-ge k least))
    (λ e says.
    let y = x.0 e in
    ⊎_elim (λ (a : k < least). omega (arith, y.0)) (λ (a : most < k). omega (arith, y.1)) says) h

pub say-short : (needed lent : ℕ) {t : List Rule} {n : ℕ} → (leb needed lent ≡ true → First t n)
    → First (short needed lent ∷ t) (cond (leb needed lent) n 2)
say-short needed lent {t} {n} h =
    say (short needed lent) (leb needed lent) {t = t} {n = n}
    (λ e.
    ⊎_elim (λ (a : lent < needed). a) (λ (a : needed ≤ lent). not-both _ _ (le-leb needed lent a) e) (lt-or-ge lent needed))
    (λ e says. omega (arith, leb-true needed lent e, says)) h

pub say-below : (k count : ℕ) {t : List Rule} {n : ℕ} → First t n → First (not_below k count ∷ t) (cond (ltb k count) n 11)
say-below k count {t} {n} h =
    say (not_below k count) (ltb k count) {t = t} {n = n}
    (λ e. ⊎_elim (λ (a : k < count). not-both _ _ (lt-ltb k count a) e) (λ (a : count ≤ k). a) (lt-or-ge k count))
    (λ e says. omega (arith, ltb-true k count e, says)) (λ e. h)

-- two tests in one
join : (a b : Bool) (n m : ℕ) → cond a (cond b n m) m ≡ cond (a && b) n m
join true b n m = refl
join false b n m = refl

say-and : (a b : Bool) (n m : ℕ) (t : List Rule) → First t (cond a (cond b n m) m) → First t (cond (a && b) n m)
say-and a b n m t f = subst (First t) (join a b n m) f

-- ---- the tests of the rows

pub people-says : (k : ℕ) {t : List Rule} {n : ℕ} → First t n → First (outside 1 32 k ∷ t) (cond (people_ok k) n 1)
people-says k {t} {n} h = say-outside 1 32 k (people_ok k) {t = t} {n = n} (tests-by-rule.people k) (λ e. h)

pub slots-says : (k : ℕ) {t : List Rule} {n : ℕ} → First t n → First (outside 1 1024 k ∷ t) (cond (slot_count_ok k) n 1)
slots-says k {t} {n} h = say-outside 1 1024 k (slot_count_ok k) {t = t} {n = n} (tests-by-rule.slot-count k) (λ e. h)

-- a count with no least: of ranges, of draws, of a set's slots
most-says : (k : ℕ) {t : List Rule} {n : ℕ} → First t n → First (outside 0 1024 k ∷ t) (cond (leb k 1024) n 1)
most-says k {t} {n} h =
    say-outside 0 1024 k (leb k 1024) {t = t} {n = n} (λ e. (zero-le, leb-true k 1024 e), λ x. le-leb k 1024 x.1) (λ e. h)

ranges-says : (k : ℕ) {t : List Rule} {n : ℕ} → First t n → First (outside 0 1024 k ∷ t) (cond (range_count_ok k) n 1)
unfolding range_count_ok
ranges-says k {t} {n} h = most-says k {t = t} {n = n} h

pub columns-say : (k : ℕ) (starts ends : List ℕ) {t : List Rule} {n : ℕ} → (slot_room_ok k starts ends ≡ true → First t n)
    → First (short k (length starts) ∷ short k (length ends) ∷ t) (cond (slot_room_ok k starts ends) n 2)
unfolding slot_room_ok
columns-say k starts ends {t} {n} h =
    say-and (leb k (length starts)) (leb k (length ends)) n 2 _
    (say-short k (length starts) (λ a. say-short k (length ends) {t = t} {n = n} (λ b. h (and-true _ _ a b))))

range-columns-say : (R : Ranges) {t : List Rule} {n : ℕ} → (range_room_ok R ≡ true → First t n)
    → First (tables.short_ranges R.count R.persons R.starts R.ends t) (cond (range_room_ok R) n 2)
unfolding range_room_ok
range-columns-say R {t} {n} h =
    let p = leb R.count (length R.persons) in
    let s = leb R.count (length R.starts) in
    let e = leb R.count (length R.ends) in
    say-and p (s && e) n 2 _
    (say-short R.count (length R.persons) (λ a.
    say-and s e n 2 _
    (say-short R.count (length R.starts) (λ b.
    say-short R.count (length R.ends) {t = t} {n = n} (λ c. h (and-true _ _ a (and-true _ _ b c)))))))

pub right-says : (m k : ℕ) (starts ends : List ℕ) {t : List Rule} {n : ℕ} → slot_room_ok k starts ends ≡ true → First t n
    → First (broken m (SlotsRight k starts ends) ∷ t) (cond (slots_ok k starts ends) n m)
right-says m k starts ends {t} {n} room h =
    say-broken m (SlotsRight k starts ends) (slots_ok k starts ends) {t = t} {n = n} (tests-by-rule.slots k starts ends room) (λ e. h)

ranges-right : (people : ℕ) (R : Ranges) {t : List Rule} {n : ℕ} → range_room_ok R ≡ true → First t n
    → First (broken 4 (RangesRight people R) ∷ t) (cond (ranges_ok people R) n 4)
ranges-right people R {t} {n} room h =
    say-broken 4 (RangesRight people R) (ranges_ok people R) {t = t} {n = n} (tests-by-rule.ranges people R room) (λ e. h)

settings-right : (s : Settings) {t : List Rule} {n : ℕ} → First t n → First (broken 7 (SettingsRight s) ∷ t) (cond (settings_ok s) n 7)
settings-right s {t} {n} h = say-broken 7 (SettingsRight s) (settings_ok s) {t = t} {n = n} (tests-by-rule.settings s) (λ e. h)

pub units-right : (k units : ℕ) (begins : List ℕ) {t : List Rule} {n : ℕ} → leb units (length begins) ≡ true → First t n
    → First (broken 9 (UnitsRight k units begins) ∷ t) (cond (units_ok k units begins) n 9)
units-right k units begins {t} {n} room h =
    say-broken 9 (UnitsRight k units begins) (units_ok k units begins) {t = t} {n = n} (tests-by-rule.units k units begins room) (λ e. h)

known-says : (people w : ℕ) {t : List Rule} {n : ℕ} → First t n → First (broken 11 (Known people w) ∷ t) (cond (known_by people w) n 11)
known-says people w {t} {n} h = say-broken 11 (Known people w) (known_by people w) {t = t} {n = n} (known-test people w) (λ e. h)

available-says : (avail : List ℕ) (w k : ℕ) {t : List Rule} {n : ℕ} → First t n
    → First (broken 12 (Available avail w k) ∷ t) (cond (available_for avail w k) n 12)
available-says avail w k {t} {n} h =
    say-broken 12 (Available avail w k) (available_for avail w k) {t = t} {n = n} (available-test avail w k) (λ e. h)

-- of each slot's owner
all-known-says : (people slots : ℕ) (o : List ℕ) {t : List Rule} {n : ℕ} → First t n
    → First (broken 11 (AllKnown people slots o) ∷ t) (cond (all slots (known_at people o)) n 11)
unfolding known_at
all-known-says people slots o {t} {n} h =
    say-broken 11 (AllKnown people slots o) (all slots (known_at people o)) {t = t} {n = n} (
      λ e k l. (known-test people (get_or o k 0)).0 (all-each slots (known_at people o) e k l),
      λ x. each_all slots (known_at people o) (λ k l. (known-test people (get_or o k 0)).1 (x k l)),
    ) (λ e. h)

all-available-says : (avail : List ℕ) (slots : ℕ) (o : List ℕ) {t : List Rule} {n : ℕ} → First t n
    → First (broken 12 (AllAvailable avail slots o) ∷ t) (cond (all slots (available_at avail o)) n 12)
unfolding available_at
all-available-says avail slots o {t} {n} h =
    say-broken 12 (AllAvailable avail slots o) (all slots (available_at avail o)) {t = t} {n = n} (
      λ e k l. (available-test avail (get_or o k 0) k).0 (all-each slots (available_at avail o) e k l),
      λ x. each_all slots (available_at avail o) (λ k l. (available-test avail (get_or o k 0) k).1 (x k l)),
    ) (λ e. h)

-- the six tests of the recount are one rule
recount-says : (P : Plan) (avail : List ℕ) (units : ℕ) (begins o : List ℕ) (D : Derived) {t : List Rule} {n : ℕ} → First t n
    → First (broken 10 (PassesRecount P avail units begins o D) ∷ t)
    (cond (all P.slots (known_at P.people o)) (cond (all P.slots (available_at avail o))
    (cond (all units (even_at P.slots units begins o)) (cond (all P.people (set_at P.slots o D.sets))
    (cond (all P.people (minutes_ok_at P o D.minutes)) (cond (all 2 (total_ok_at P o D.totals)) n 10) 10) 10) 10) 10) 10)
unfolding recounts
recount-says P avail units begins o D {t} {n} h =
    let a = all P.slots (known_at P.people o) in
    let b = all P.slots (available_at avail o) in
    let c = all units (even_at P.slots units begins o) in
    let d = all P.people (set_at P.slots o D.sets) in
    let e = all P.people (minutes_ok_at P o D.minutes) in
    let f = all 2 (total_ok_at P o D.totals) in
    let g = e && f in
    let chain : cond a (cond b (cond c (cond d (cond e (cond f n 10) 10) 10) 10) 10) 10 ≡ cond (a && (b && (c && (d && g)))) n 10 =
    ap (λ (x : ℕ). cond a x 10) (ap (λ (x : ℕ). cond b x 10) (ap (λ (x : ℕ). cond c x 10) (ap (λ (x : ℕ). cond d x 10) (join e f n 10)
    ∙ join d g n 10) ∙ join c (d && g) n 10) ∙ join b (c && (d && g)) n 10) ∙ join a (b && (c && (d && g))) n 10 in
    subst (First (broken 10 (PassesRecount P avail units begins o D) ∷ t)) (sym chain)
    (say-broken 10 (PassesRecount P avail units begins o D) (recounts P avail units begins o D) {t = t} {n = n}
    (rota-by-rule.recount P avail units begins o D) (λ z. h))

-- an index of a stretch lies at or past the length
stretch-says : (a e len : ℕ) {t : List Rule} {n : ℕ} → First t n → First (reaches_past a e len ∷ t) (cond (stretch_ok len a e) n 11)
unfolding stretch_ok
stretch-says a e len {t} {n} h =
    say (reaches_past a e len) (stretch_ok len a e) {t = t} {n = n}
    (λ f.
    ⊎_elim (λ (x : a < e).
    ⊎_elim (λ (y : len < e). (e - 1, omega arith, omega arith, omega arith))
    (λ (y : e ≤ len). not-both _ _ (or-second (leb e a) (leb e len) (le-leb e len y)) f) (lt-or-ge len e))
    (λ (x : e ≤ a). not-both _ _ (or_left (leb e a) (leb e len) (le-leb e a x)) f) (lt-or-ge a e))
    (λ f x.
    ⊎_elim (λ (y : leb e a ≡ true). omega (arith, leb-true e a y, x.1, x.2))
    (λ (y : leb e len ≡ true). omega (arith, leb-true e len y, x.2, x.3)) (or-either (leb e a) (leb e len) f)) (λ f. h)

-- ---- atomic slots

-- more of them than there may be, whichever way the cuts are listed
overfull-says : (B : Base) {t : List Rule} {n : ℕ} → SlotsRight B.slots B.starts B.ends → First t n
    → First (overfull B ∷ t) (cond (leb (length (starts_of_atoms B)) 1024) n 5)
overfull-says B {t} {n} right h =
    let cuts : ℕ → List ℕ = λ k. cuts_in (is_cut B.people B.ranges) (get_or B.starts k 0) (get_or B.ends k 0) in
    let are : (k : ℕ) → k < B.slots → CutsOf B k (cuts k) = λ k l.
    laws.cuts_are (is_cut B.people B.ranges) (get_or B.starts k 0) (get_or B.ends k 0) (right.lasts k l) in
    say (overfull B) (leb (length (starts_of_atoms B)) 1024) {t = t} {n = n}
    (λ e c x.
    let same : length (strung (λ k. get_or B.starts k 0 ∷ c k) B.slots) ≡ length (starts_of_atoms B) = ap length (atoms-strung B c x) in
    ⊎_elim (λ (a : 1024 < length (starts_of_atoms B)). omega (arith, same, a))
    (λ (a : length (starts_of_atoms B) ≤ 1024). not-both _ _ (le-leb (length (starts_of_atoms B)) 1024 a) e)
    (lt-or-ge 1024 (length (starts_of_atoms B))))
    (λ e says.
    omega (arith, says cuts are, ap length (atoms-strung B cuts are), leb-true (length (starts_of_atoms B)) 1024 e)) (λ e. h)

-- ---- slot sets

set_first : (len : ℕ) → First (tables.set_table len) (number_of (length_row len))
unfolding number_of length_row
set_first len = most-says len none

rows-first : (ws : List ℕ) (people person len : ℕ)
    → First (tables.row_table ws people person len []) (number_of (person_row ws people person len))
unfolding number_of person_row sets_row
rows-first ws people person len =
    people-says people (most-says len (say-short (16 * people) (length ws) (λ e. say-below person people none)))

pub sets-by-table : tables.SetsByTable
unfolding number_of length_row slot_row stretch_row sets_row person_row person_stretch_row same_sets_row runs_row
sets-by-table = record {
  lengths = λ len. by_first _ (length_row len) _ refl refl (sets-refuse.lengths len) (set_first len);
  new = λ len. by_first _ (length_row len) _ refl refl (sets-refuse.new len) (set_first len);
  put = λ v s i.
      by_first _ (slot_row s.len i) _ refl refl (sets-refuse.put v s i).given (most-says s.len (say-below i s.len none));
  stretch = λ v s a e.
      by_first _ (stretch_row s.len a e) _ refl refl (sets-refuse.stretch v s a e).given
      (most-says s.len (stretch-says a e s.len none));
  rows = λ ws people person len.
      by_first _ (person_row ws people person len) _ refl refl (sets-refuse.rows ws people person len) (rows-first ws people person len);
  load = λ ws people person len.
      by_first _ (person_row ws people person len) _ refl refl (sets-refuse.load ws people person len) (rows-first ws people person len);
  put-stretch = λ ws people person len a e.
      by_first _ (person_stretch_row ws people person len a e) _ refl refl (sets-refuse.put-stretch 0 ws people person len a e).given
      (people-says people (most-says len (say-short (16 * people) (length ws) (λ z. say-below person people (stretch-says a e len
      none)))));
  same-sets = λ ws vs people len.
      by_first _ (same_sets_row ws vs people len) _ refl refl (sets-refuse.same-sets ws vs people len)
      (people-says people (most-says len (say-short (16 * people) (length ws) (λ y. say-short (16 * people) (length vs) (λ z. none)))));
  all_runs = λ ws people person len begins lasts.
      by_first _ (runs_row ws people person len (length begins) (length lasts)) _ refl refl
      (sets-refuse.all_runs ws people person len begins lasts).given
      (people-says people (most-says len (say-short (16 * people) (length ws) (λ x.
      say-short len (length begins) (λ y. say-short len (length lasts) (λ z. say-below person people none))))));
}

-- ---- slots

lent-first : (slots : ℕ) (starts ends : List ℕ) → First (tables.slots_table slots starts ends []) (number_of (lent_row slots starts ends))
unfolding number_of lent_row
lent-first slots starts ends =
    slots-says slots (columns-say slots starts ends (λ r. right-says 9 slots starts ends r none))

atomise-first : (B : Base) → First (tables.atomise_table B) (number_of (atomise_row B))
unfolding number_of atomise_row base_row
atomise-first B =
    people-says B.people (slots-says B.slots (ranges-says B.ranges.count (columns-say B.slots B.starts B.ends (λ r.
    range-columns-say B.ranges (λ q.
    columns-say 1024 B.out_starts B.out_ends (λ z.
    say-broken 3 _ (slots_ok B.slots B.starts B.ends) (tests-by-rule.slots B.slots B.starts B.ends r) (λ ok.
    ranges-right B.people B.ranges q (overfull-says B ((tests-by-rule.slots B.slots B.starts B.ends r).0 ok) none))))))))

pub slots-by-table : tables.SlotsByTable
unfolding number_of lent_row slot_minutes_row merged_row atomise_row base_row availability_row freeze_row available_row
slots-by-table = record {
  demand = λ slots starts ends.
      by_first _ (lent_row slots starts ends) _ refl refl (slots-refuse.demand slots starts ends) (lent-first slots starts ends);
  slot-minutes = λ slots starts ends k.
      by_first _ (slot_minutes_row slots starts ends k) _ refl refl (slots-refuse.slot-minutes slots starts ends k)
      (slots-says slots (columns-say slots starts ends (λ r. right-says 9 slots starts ends r (say-below k slots none))));
  merged-ranges = λ people R out.
      by_first _ (merged_row people R out) _ refl refl (slots-refuse.merged-ranges people R out).given
      (people-says people (ranges-says R.count (range-columns-say R (λ q.
      range-columns-say (ranges R.count out.persons out.starts out.ends) (λ z. ranges-right people R q none)))));
  atomise = λ B. by_first _ (atomise_row B) _ refl refl (slots-refuse.atomise B).given (atomise-first B);
  availability = λ people slots starts ends R words.
      by_first _ (availability_row people slots starts ends R words) _ refl refl
      (slots-refuse.availability people slots starts ends R words).given
      (people-says people (slots-says slots (ranges-says R.count (columns-say slots starts ends (λ r.
      range-columns-say R (λ q. say-short (16 * people) (length words) (λ z.
      ranges-right people R q (right-says 9 slots starts ends r none))))))));
  freeze-before = λ slots starts ends frozen instant.
      by_first _ (freeze_row slots starts ends frozen) _ refl refl (slots-refuse.freeze-before slots starts ends frozen instant).given
      (slots-says slots (columns-say slots starts ends (λ r.
      say-short 16 (length frozen) (λ z. right-says 9 slots starts ends r none))));
  is-available = λ people slots words person slot.
      by_first _ (available_row people slots words person slot) _ refl refl (slots-refuse.is-available people slots words person slot)
      (people-says people (slots-says slots (say-short (16 * people) (length words) (λ z.
      say-below person people (say-below slot slots none)))));
}

-- ---- units

starts_first : (s : Settings) (slots : ℕ) (starts ends list : List ℕ)
    → First (tables.starts_table s slots starts ends list) (number_of (starts_row s slots starts ends list))
unfolding number_of starts_row
starts_first s slots starts ends list =
    slots-says slots (columns-say slots starts ends (λ r.
    say-short slots (length list) (λ z. settings-right s (right-says 9 slots starts ends r none))))

pub units-by-table : tables.UnitsByTable
unfolding number_of units_row unit_slots_row unit_of_slot_row starts_row unit_frozen_row slot_domain_row unit_domain_row unit_domains_row lent_row
    target_run_row achievable_run_row achievable_runs_row
units-by-table = record {
  unit-count = λ slots units begins.
      by_first _ (units_row slots units begins) _ refl refl (units-refuse.unit-count slots units begins)
      (slots-says slots (say-short units (length begins) (λ r. units-right slots units begins r none)));
  unit-slots = λ slots units begins u.
      by_first _ (unit_slots_row slots units begins u) _ refl refl (units-refuse.unit-slots slots units begins u)
      (slots-says slots (say-short units (length begins) (λ r. units-right slots units begins r (say-below u units none))));
  unit-of-slot = λ slots units begins k.
      by_first _ (unit_of_slot_row slots units begins k) _ refl refl (units-refuse.unit-of-slot slots units begins k)
      (slots-says slots (say-short units (length begins) (λ r. units-right slots units begins r (say-below k slots none))));
  rotation-starts = λ s slots starts ends list.
      by_first _ (starts_row s slots starts ends list) _ refl refl (units-refuse.rotation-starts s slots starts ends list).given
      (starts_first s slots starts ends list);
  unit-starts = λ s slots starts ends list.
      by_first _ (starts_row s slots starts ends list) _ refl refl (units-refuse.unit-starts s slots starts ends list).given
      (starts_first s slots starts ends list);
  unit-frozen = λ frozen slots units begins u.
      by_first _ (unit_frozen_row frozen slots units begins u) _ refl refl (units-refuse.unit-frozen frozen slots units begins u)
      (slots-says slots (say-short units (length begins) (λ r. say-short 16 (length frozen) (λ z.
      units-right slots units begins r (say-below u units none)))));
  slot-domain = λ avail people slots k list.
      by_first _ (slot_domain_row avail people slots k list) _ refl refl (units-refuse.slot-domain avail people slots k list).given
      (people-says people (slots-says slots (say-short (16 * people) (length avail) (λ y.
      say-short people (length list) (λ z. say-below k slots none)))));
  unit-domain = λ avail people slots units begins u list.
      by_first _ (unit_domain_row avail people slots units begins u list) _ refl refl
      (units-refuse.unit-domain avail people slots units begins u list).given
      (people-says people (slots-says slots (say-short (16 * people) (length avail) (λ y.
      say-short units (length begins) (λ r. say-short people (length list) (λ z.
      units-right slots units begins r (say-below u units none)))))));
  unit-domains = λ avail people slots units begins masks.
      by_first _ (unit_domains_row avail people slots units begins masks) _ refl refl
      (units-refuse.unit-domains avail people slots units begins masks).given
      (people-says people (slots-says slots (say-short (16 * people) (length avail) (λ y.
      say-short units (length begins) (λ r. say-short slots (length masks) (λ z. units-right slots units begins r none))))));
  covered-days = λ slots starts ends.
      by_first _ (lent_row slots starts ends) _ refl refl (units-refuse.covered-days slots starts ends) (lent-first slots starts ends);
  minutes-per-day = λ slots starts ends.
      by_first _ (lent_row slots starts ends) _ refl refl (units-refuse.minutes-per-day slots starts ends) (lent-first slots starts ends);
  target_run = λ s slots starts ends.
      by_first _ (target_run_row s slots starts ends) _ refl refl (units-refuse.target_run s slots starts ends)
      (slots-says slots (columns-say slots starts ends (λ r. settings-right s (right-says 9 slots starts ends r none))));
  achievable-run = λ s avail people p slots starts ends.
      by_first _ (achievable_run_row s avail people p slots starts ends) _ refl refl
      (units-refuse.achievable-run s avail people p slots starts ends)
      (people-says people (slots-says slots (columns-say slots starts ends (λ r. say-short (16 * people) (length avail) (λ z.
      settings-right s (right-says 9 slots starts ends r (say-below p people none)))))));
  achievable-runs = λ s avail people slots starts ends runs.
      by_first _ (achievable_runs_row s avail people slots starts ends runs) _ refl refl
      (units-refuse.achievable-runs s avail people slots starts ends runs).given
      (people-says people (slots-says slots (columns-say slots starts ends (λ r. say-short (16 * people) (length avail) (λ z.
      say-short people (length runs) (λ y. settings-right s (right-says 9 slots starts ends r none)))))));
}

-- ---- targets

guard-says : (g : targets.Given) {t : List Rule} {n : ℕ} → slot_room_ok g.slots g.starts g.ends ≡ true → First t n
    → First (beyond g ∷ t) (cond (targets.guard_ok g) n 8)
guard-says g {t} {n} room h =
    let right = tests-by-rule.slots g.slots g.starts g.ends room in
    let x = targets-refuse.guard g in
    say (beyond g) (targets.guard_ok g) {t = t} {n = n} (λ e. let y = x.0 e in (right.0 y.0, y.1))
    (λ e says. not-both (targets.guard_ok g) ⊥ e (x.1 (right.1 says.0, says.1))) (λ e. h)

targets-first : (g : targets.Given) (room : ℕ) → First (tables.targets_table g room) (number_of (targets.targets_row g room))
unfolding number_of targets.targets_row targets.room_row
targets-first g room =
    people-says g.people (slots-says g.slots (columns-say g.slots g.starts g.ends (λ r.
    say-short (16 * g.people) (length g.avail) (λ x.
    say-short g.people (length g.capacities) (λ y.
    say-short g.people (length g.priors) (λ z.
    say-short g.people room (λ w.
    say-broken 6 _ (all_figures_ok g.people g.capacities g.priors)
    (tests-by-rule.figures g.people g.capacities g.priors) (λ v.
    say-broken 7 (g.fairness ≤ 1) (leb g.fairness 1) (leb-true g.fairness 1, le-leb g.fairness 1) (λ u.
    say-broken 7 (g.edition ≤ 1) (leb g.edition 1) (leb-true g.edition 1, le-leb g.edition 1) (λ s.
    guard-says g r (right-says 9 g.slots g.starts g.ends r none)))))))))))

targets-number : (g : targets.Given) (out : List ℤ) → GivenBy (tables.targets_table g (length out)) (targets.compute_targets g out).number
unfolding targets.targets_row targets.room_row
targets-number g out =
    by_first _ (targets.targets_row g (length out)) _ refl refl (targets-refuse.compute-targets g out).given (targets-first g
    (length out))

-- ---- the rota

-- what a rota is lent in; then whatever comes next
module _ (P : Plan) (avail o : List ℕ) (D : Derived) where
  lent_says : {t : List Rule} {n : ℕ}
      → (slot_room_ok P.slots P.starts P.ends ≡ true → First t n)
      → First (short P.slots (length P.starts) ∷ short P.slots (length P.ends) ∷ short (16 * P.people) (length avail)
      ∷ short P.slots (length o) ∷ short (16 * P.people) (length D.sets) ∷ short P.people (length D.minutes)
      ∷ short 2 (length D.totals) ∷ t)
      (cond (slot_room_ok P.slots P.starts P.ends) (cond (leb (16 * P.people) (length avail)) (cond (leb P.slots (length o))
      (cond (leb (16 * P.people) (length D.sets)) (cond (leb P.people (length D.minutes)) (cond (leb 2 (length D.totals)) n 2) 2)
      2) 2) 2) 2)
  lent_says {t} {n} h =
      columns-say P.slots P.starts P.ends (λ r.
      say-short (16 * P.people) (length avail) (λ x.
      say-short P.slots (length o) (λ y.
      say-short (16 * P.people) (length D.sets) (λ z.
      say-short P.people (length D.minutes) (λ w.
      say-short 2 (length D.totals) {t = t} {n = n} (λ v. h r))))))

from-slots-first : (P : Plan) (avail o : List ℕ) (D : Derived)
    → First (tables.from_slots_table P avail o D) (number_of (state.from_slots_row P avail o D))
unfolding number_of state.from_slots_row state.lent_row
from-slots-first P avail o D =
    people-says P.people (slots-says P.slots (lent_says P avail o D (λ r.
    right-says 9 P.slots P.starts P.ends r
    (all-known-says P.people P.slots o (all-available-says avail P.slots o none)))))

assign-first : (P : Plan) (avail o : List ℕ) (D : Derived) (k w : ℕ)
    → First (tables.assign_table P avail o D k w) (number_of (rota.assign_row P avail o D k w))
unfolding number_of rota.assign_row state.recount_slots_row state.lent_row recount_tests
assign-first P avail o D k w =
    people-says P.people (slots-says P.slots (lent_says P avail o D (λ r.
    right-says 9 P.slots P.starts P.ends r (recount-says P avail 0 [] o D
    (say-below k P.slots (known-says P.people w (available-says avail w k none)))))))

recount-slots-first : (P : Plan) (avail o : List ℕ) (D : Derived)
    → First (tables.recount_slots_table P avail o D []) (number_of (state.recount_slots_row P avail o D))
unfolding number_of state.recount_slots_row state.lent_row recount_tests
recount-slots-first P avail o D =
    people-says P.people (slots-says P.slots (lent_says P avail o D (λ r.
    right-says 9 P.slots P.starts P.ends r (recount-says P avail 0 [] o D none))))

recount-first : (P : Plan) (avail : List ℕ) (units : ℕ) (begins o : List ℕ) (D : Derived)
    → First (tables.recount_table P avail units begins o D [] [])
    (number_of (state.recount_row true (leb units (length begins)) P avail units begins o D))
unfolding number_of state.recount_row state.lent_row recount_tests
recount-first P avail units begins o D =
    people-says P.people (slots-says P.slots (lent_says P avail o D (λ r.
    say-short units (length begins) (λ q.
    right-says 9 P.slots P.starts P.ends r
    (units-right P.slots units begins q (recount-says P avail units begins o D none))))))

-- rule 2 of a play's units, flags and columns
play-room-says : (units : ℕ) (begins frozen : List ℕ) (k : ℕ) (ks fs ss x : List ℕ) {t : List Rule} {n : ℕ}
    → (leb units (length begins) ≡ true → First t n)
    → First (short units (length begins) ∷ short 16 (length frozen) ∷ short k (length ks) ∷ short k (length fs) ∷ short k (length ss)
    ∷ short k (length x) ∷ t) (cond (rota.play_room_ok units begins frozen k (rota.columns_enough k ks fs ss) x) n 2)
unfolding rota.play_room_ok rota.columns_enough
play-room-says units begins frozen k ks fs ss x {t} {n} h =
    let a = leb units (length begins) in
    let b = leb 16 (length frozen) in
    let c = leb k (length ks) in
    let d = leb k (length fs) in
    let e = leb k (length ss) in
    let f = leb k (length x) in
    let lists = c && (d && e) in
    let m = cond f n 2 in
    say-and a (b && (lists && f)) n 2 _ (say-short units (length begins) (λ q.
    say-and b (lists && f) n 2 _ (say-short 16 (length frozen) (λ y.
    say-and lists f n 2 _ (say-and c (d && e) m 2 _ (say-short k (length ks) (λ z.
    say-and d e m 2 _ (say-short k (length fs) (λ v.
    say-short k (length ss) (λ w.
    say-short k (length x) {t = t} {n = n} (λ u. h q)))))))))))

play-first : (c : Call) → First (tables.play_table c (length c.draws) (length c.firsts) (length c.seconds)) (number_of (row_of c))
unfolding number_of state.recount_row state.lent_row recount_tests
play-first c =
    people-says c.plan.people (slots-says c.plan.slots (most-says c.count
    (lent_says c.plan c.avail c.owners c.derived (λ r.
    play-room-says c.units c.begins c.frozen c.count c.draws c.firsts c.seconds c.answers (λ q.
    right-says 9 c.plan.slots c.plan.starts c.plan.ends r
    (units-right c.plan.slots c.units c.begins q
    (recount-says c.plan c.avail c.units c.begins c.owners c.derived none)))))))

play-number : (c : Call) → GivenBy (tables.play_table c (length c.draws) (length c.firsts) (length c.seconds)) (play_of c
    ).refusal.number
unfolding state.recount_row state.lent_row recount_tests
play-number c = by_first _ (row_of c) _ refl refl (rota-refuses.play c).given (play-first c)

draws-number : (c : Call) (ds : List Draw) → GivenBy (tables.play_table c (length ds) (length ds) (length ds)) (play_draws_of c ds
    ).refusal.number
unfolding draws firsts seconds
draws-number c ds =
    let n = (play_draws_of c ds).refusal.number in
    subst (λ (k : ℕ). GivenBy (tables.play_table c k (length ds) (length ds)) n) (length-map ds (λ d. d.draw))
    (subst (λ (k : ℕ). GivenBy (tables.play_table c (length (draws ds)) k (length ds)) n) (length-map ds (λ d. d.first))
    (subst (λ (k : ℕ). GivenBy (tables.play_table c (length (draws ds)) (length (firsts ds)) k) n) (length-map ds (λ d. d.second))
    (subst (λ (y : state.Outcome). GivenBy (tables.play_table c (length (draws ds)) (length (firsts ds)) (length (seconds ds))) y.refusal.number)
    (sym (draws-alike c ds)) (play-number (of_draws c ds)))))

slots-of-first : (people slots : ℕ) (ws : List ℕ) (p : ℕ)
    → First (tables.slots_of_table people slots ws p)
    (number_of (test 1 (counts_ok people slots) ∷ test 2 (leb (16 * people) (length ws)) ∷ test 11 (ltb p people) ∷ []))
unfolding number_of counts_ok
slots-of-first people slots ws p =
    let n = number_of (test 2 (leb (16 * people) (length ws)) ∷ test 11 (ltb p people) ∷ []) in
    say-and (people_ok people) (slot_count_ok slots) n 1 _
    (people-says people (slots-says slots (say-short (16 * people) (length ws) (λ z. say-below p people none))))

pub rota-by-table : tables.RotaByTable
unfolding number_of state.from_slots_row state.lent_row rota.assign_row state.recount_slots_row state.recount_row recount_tests state.empty_row
    state.owner_row state.minutes_row state.unassigned_row state.uncovered_row
rota-by-table = record {
  compute-targets = targets-number;
  from-slots = λ P avail o D.
      by_first _ (state.from_slots_row P avail o D) _ refl refl (rota-refuses.from-slots P avail o D).given (from-slots-first P avail
      o D);
  assign = λ P avail o D k w.
      by_first _ (rota.assign_row P avail o D k w) _ refl refl (rota-refuses.assign P avail o D k w).given (assign-first P avail o D
      k w);
  recount = λ P avail units begins o D.
      by_first _ (state.recount_row true (leb units (length begins)) P avail units begins o D) _ refl refl
      (rota-refuses.recount true (leb units (length begins)) P avail units begins o D) (recount-first P avail units begins o D);
  recount-slots = λ P avail o D.
      by_first _ (state.recount_slots_row P avail o D) _ refl refl (rota-refuses.recount-slots P avail o D)
      (recount-slots-first P avail o D);
  play = play-number;
  play-draws = draws-number;
  empty = λ P o D.
      by_first _ (state.empty_row P o D) _ refl refl (rota-refuses.empty P o D).given
      (people-says P.people (slots-says P.slots (columns-say P.slots P.starts P.ends (λ r.
      say-short P.slots (length o) (λ x. say-short (16 * P.people) (length D.sets) (λ y.
      say-short P.people (length D.minutes) (λ z. say-short 2 (length D.totals) (λ w.
      right-says 9 P.slots P.starts P.ends r none))))))));
  owner-of-slot = λ people slots o k.
      by_first _ (state.owner_row people slots o k) _ refl refl (rota-refuses.owner-of-slot people slots o k)
      (people-says people (slots-says slots (say-short slots (length o) (λ x.
      say-below k slots (known-says people (get_or o k 0) none)))));
  minutes-of = λ people m p.
      by_first _ (state.minutes_row people m p) _ refl refl (rota-refuses.minutes-of people m p)
      (people-says people (say-short people (length m) (λ x. say-below p people none)));
  slots-of = λ people slots ws p.
      by_first _ (test 1 (counts_ok people slots) ∷ test 2 (leb (16 * people) (length ws)) ∷ test 11 (ltb p people) ∷ []) _ refl refl
      (rota-refuses.slots-of people slots ws p) (slots-of-first people slots ws p);
  unassigned-count = λ people slots o.
      by_first _ (state.unassigned_row people slots o) _ refl refl (rota-refuses.unassigned-count people slots o)
      (people-says people (slots-says slots (say-short slots (length o) (λ x. all-known-says people slots o none))));
  uncovered-minutes = λ P o.
      by_first _ (state.uncovered_row P o) _ refl refl (rota-refuses.uncovered-minutes P o)
      (people-says P.people (slots-says P.slots (columns-say P.slots P.starts P.ends (λ r.
      say-short P.slots (length o) (λ x.
      right-says 9 P.slots P.starts P.ends r (all-known-says P.people P.slots o none))))));
}
