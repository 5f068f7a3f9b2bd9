-- What a C caller reads is what was meant. Assumes nothing.
use Rattle.std.specs.Prelude.{Ok, Err, Option, Some, None, Result}
use mathlib.Core.Path.{◌≡◌, refl, ap, ◌∙◌}
use mathlib.Core.Bool.{Bool, true, false, cond}
use mathlib.Core.List.{List, [], ◌∷◌}
use mathlib.Core.Logic.{⊎_elim}
use Prim.Native.Nat.{ℕ, zero, suc, ◌+◌, ◌-◌, ◌*◌, ◌≤◌, ◌<◌}
use native.Mathlib.Omega.{arith}
use borrow.Author.Tests.{ne_eqb, eqb-true, eqb-false, leb-true, lt-ltb, le-ltb, ltb-true}
use lib.Dec.{eqb, ltb}
use lib.ListN.{length, get_or, length-append}
use Rattle.paper.specs.Limits.{nobody, number_of}
use Rattle.paper.specs.Rows.{unless, answer_as, answer_refusal}
use Rattle.paper.specs.Count.{sum, count, among}
use Rattle.paper.proofs.Logic.{by_cond, slot-count-says, people-says}
use Rattle.paper.proofs.Count.{among-le}
use Rattle.paper.proofs.Rows.{passed}
use Rattle.slotset.specs.declared.Run.{Run}
use Rattle.slotset.specs.declared.Run.TheVariants as run
use Rattle.slotset.specs.declared.NextRun.{NextRun}
use Rattle.slotset.specs.declared.NextMember.{NextMember}
use Rattle.slotset.specs.Slots.{size}
use Rattle.slotset.specs.Search.{next_with, last_below, next_set, First, Last}
use Rattle.slotset.specs.Runs.{first_around, last_around}
use Rattle.slotset.specs.Answers.{sets_row, person_row, row_slots, run_at, run_as, stretch_as, run_step, next_run_as, member_step}
use Rattle.slotset.specs.Answers.{next_member_as}
use Rattle.slotset.proofs.Meaning.{next-is, last-is}
use Rattle.slotset.proofs.Members.{size-members}
use Rattle.slotset.proofs.Puts.{slot_lt}
use Rattle.slots.specs.Ranges.{Range, Ranges, range_count_ok, range_at}
use Rattle.slots.specs.Merged.{Columns, before, joined, merge_in, merge_all, ranges_to, merged_of, merged_row, merged_ranges}
use Rattle.slots.specs.Atomic.{Base, base_row, atomise_row, atomise_of, starts_of_atoms}
use Rattle.slots.specs.Freeze.{freeze_row, freeze_of, ended_by, ends_by}
use Rattle.units.specs.declared.Settings.{Settings}
use Rattle.units.specs.declared.UnitSlots.{UnitSlots}
use Rattle.units.specs.Units.{unit_start, unit_end, unit_of}
use Rattle.units.specs.Answers.{written_as, units_row, unit_of_slot_row, unit_of_slot_is}
use Rattle.units.specs.Starts.{rotation_begins, unit_begins, rotation_starts, unit_starts, starts_row, rotation_starts_is, unit_starts_is}
use Rattle.units.specs.Domains.{available, able, domain, slot_domain, unit_domain, slot_domain_row, slot_domain_is, unit_domain_row, unit_domain_is}
use Rattle.units.proofs.Units.{units-within, unit-of-in}
use Rattle.owners.specs.Derived.{unassigned}
use Rattle.owners.specs.Entries.{owner_row, owner_is, unassigned_row, unassigned_is}
use Rattle.boltraven_c.specs.Numbers.{found_number, yes_no_number, run_number, run_first, run_last}
use Rattle.boltraven_c.specs.Numbers.{next_run_number, next_run_first, next_run_last, next_run_cursor, member_number, member_at, member_cursor}
use Rattle.boltraven_c.specs.Numbers.{minutes_written}
use Rattle.boltraven_c.specs.Units.{span_from, span_to}
use Rattle.promises.specs.Exports.{read_found, read_told, read_minutes, read_span, read_run, read_next_run, read_member}
use Rattle.promises.specs.Exports.{Read, ReadsAsMeant}
use Rattle.promises.proofs.Tests.{known-test}
use Rattle.promises.proofs.ReadRefusals.{units-back, slots-back, assign-back, play-back, draws-back, job-back}

-- ---- numbers, one by one

-- 65,536 and above is not what was asked, and the rest of it is the refusal
above : (n : ℕ) → ltb (65536 + n) 65536 ≡ false
above n = le-ltb (65536 + n) 65536 (omega arith)

rest : (n : ℕ) → 65536 + n - 65536 ≡ n
rest n = omega arith

read_is : (k : ℕ) → k < 65536 → Read (Ok k)
read_is k h = ap (λ (b : Bool). cond b (Ok k) (Err (k - 65536))) (lt-ltb k 65536 h)

read-refusal : (n : ℕ) → Read (Err n)
read-refusal n =
    ap (λ (b : Bool). cond b (Ok (65536 + n)) (Err (65536 + n - 65536))) (above n) ∙ ap Err (rest n)

read_number_lem : (n k : ℕ) → (n ≡ 0 → k < 65536) → Read (answer_as n k)
unfolding answer_as unless
read_number_lem n k h = by_cond (eqb n 0) (Ok k) (Err n) Read (λ t. read_is k (h (eqb-true n 0 t))) (λ f. read-refusal n)

-- a number that is not 0 added to 65,536 is not 65,536
not-nothing : (n : ℕ) → eqb n 0 ≡ false → eqb (65536 + n) 65536 ≡ false
not-nothing n f = ne_eqb (65536 + n) 65536 (λ z. eqb-false n 0 f (omega (arith, z)))

abbrev Small : Option ℕ → Type 0
Small (Some i) = i < 65536
Small None = Unit

read_small : (x : Option ℕ) → Small x → read_found (found_number (Ok x)) ≡ Ok x
read_small (Some i) h = ap (λ (b : Bool). cond b (Ok (Some i)) (cond (eqb i 65536) (Ok None) (Err (i - 65536)))) (lt-ltb i 65536 h)
read_small None h = refl

found-refused : (n : ℕ) → eqb n 0 ≡ false → read_found (65536 + n) ≡ Err n
found-refused n f =
    ap (λ (b : Bool). cond b (Ok (Some (65536 + n))) (cond (eqb (65536 + n) 65536) (Ok None) (Err (65536 + n - 65536))))
    (above n)
    ∙ ap (λ (b : Bool). cond b (Ok None) (Err (65536 + n - 65536))) (not-nothing n f) ∙ ap Err (rest n)

read_found_lem : (n : ℕ) (x : Option ℕ) → (n ≡ 0 → Small x) → read_found (found_number (answer_as n x)) ≡ answer_as n x
unfolding answer_as unless
read_found_lem n x h =
    by_cond (eqb n 0) (Ok x) (Err n) (λ y. read_found (found_number y) ≡ y) (λ t. read_small x (h (eqb-true n 0 t)))
    (λ f. found-refused n f)

first_small : (v : ℕ) (f : ℕ → ℕ) (len from : ℕ) (x : Option ℕ) → First v f len from x → len ≤ 1024 → Small x
first_small v f len from (Some i) h l = omega (arith, h.1, l)
first_small v f len from None h l = tt

last-small : (v : ℕ) (f : ℕ → ℕ) (len end : ℕ) (x : Option ℕ) → Last v f len end x → len ≤ 1024 → Small x
last-small v f len end (Some i) h l = omega (arith, h.1, l)
last-small v f len end None h l = tt

row-short : (ws : List ℕ) (people person len : ℕ) → number_of (person_row ws people person len) ≡ 0 → len ≤ 1024
unfolding person_row sets_row
row-short ws people person len e = leb-true len 1024 (passed (person_row ws people person len) refl e 1)

yes-no-refused : (n : ℕ) → read_told (65536 + n) ≡ Err n
yes-no-refused n =
    ap (λ (b : Bool). cond b (Ok (eqb (65536 + n) 1)) (Err (65536 + n - 65536))) (above n)
    ∙ ap Err (rest n)

told-back : (b : Bool) → read_told (yes_no_number (Ok b)) ≡ Ok b
told-back true = refl
told-back false = refl

read-answered : (n : ℕ) (b : Bool) → read_told (yes_no_number (answer_as n b)) ≡ answer_as n b
unfolding answer_as unless
read-answered n b =
    by_cond (eqb n 0) (Ok b) (Err n) (λ y. read_told (yes_no_number y) ≡ y) (λ t. told-back b) (λ f. yes-no-refused n)

-- ---- with what stands beside them

zero-refused : (n : ℕ) → eqb (65536 + n) 0 ≡ false
zero-refused n = ne_eqb (65536 + n) 0 (λ z. omega (arith, z))

-- what is read of a refusal, of three ways to tell
refused-way : {A : Type 0} (n : ℕ) (x y : A) (refused : ℕ → A) → eqb n 0 ≡ false
    → cond (eqb (65536 + n) 0) x (cond (eqb (65536 + n) 65536) y (refused (65536 + n - 65536))) ≡ refused n
refused-way {A} n x y refused f =
    ap (λ (b : Bool). cond b x (cond (eqb (65536 + n) 65536) y (refused (65536 + n - 65536)))) (zero-refused n)
    ∙ ap (λ (b : Bool). cond b y (refused (65536 + n - 65536))) (not-nothing n f) ∙ ap refused (rest n)

read-run : (n : ℕ) (f : ℕ → ℕ) (len i was was' : ℕ)
    → let x = run_as n f len i in read_run (run_number x) (run_first was x) (run_last was' x) ≡ x
unfolding answer_as run_at stretch_as unless
read-run n f len i was was' =
    let Reads : Result Run ℕ → Type 0 = λ x. read_run (run_number x) (run_first was x) (run_last was' x) ≡ x in
    let v = f i in
    let a = first_around v f len i in
    let b = last_around v f len i in
    let held = cond (eqb v 1) (run.Span a b) (run.Hole a b) in
    by_cond (eqb n 0) (Ok (cond (ltb i len) held run.Outside)) (Err n) Reads
    (λ t. by_cond (ltb i len) held run.Outside (λ x. Reads (Ok x))
    (λ e. by_cond (eqb v 1) (run.Span a b) (run.Hole a b) (λ x. Reads (Ok x)) (λ p. refl) (λ p. refl)) (λ e. refl))
    (λ g.
    ap (λ (c : Bool). cond c (Ok (run.Span was was')) (cond (eqb (65536 + n) 1) (Ok (run.Hole was was'))
    (cond (eqb (65536 + n) 65536) (Ok run.Outside) (Err (65536 + n - 65536))))) (zero-refused n)
    ∙ ap (λ (c : Bool). cond c (Ok (run.Hole was was')) (cond (eqb (65536 + n) 65536) (Ok run.Outside) (Err (65536 + n - 65536))))
    (ne_eqb (65536 + n) 1 (λ z. omega (arith, z)))
    ∙ ap (λ (c : Bool). cond c (Ok run.Outside) (Err (65536 + n - 65536))) (not-nothing n g) ∙ ap Err (rest n))

by-found : (x : Option ℕ) → (X : Option ℕ → Type 0) → ((i : ℕ) → X (Some i)) → X None → X x
by-found (Some i) X a b = a i
by-found None X a b = b

read-next-run : (n : ℕ) (f : ℕ → ℕ) (len at was was' was'' : ℕ)
    → let x = next_run_as n f len at in
    read_next_run (next_run_number x) (next_run_first was x) (next_run_last was' x) (next_run_cursor was'' x) ≡ x
unfolding answer_as unless
read-next-run n f len at was was' was'' =
    let Reads : Result (Option NextRun) ℕ → Type 0 = λ x.
    read_next_run (next_run_number x) (next_run_first was x) (next_run_last was' x) (next_run_cursor was'' x) ≡ x in
    by_cond (eqb n 0) (Ok (run_step f len (next_set f len at))) (Err n) Reads
    (λ t. by-found (next_set f len at) (λ y. Reads (Ok (run_step f len y))) (λ i. refl) refl)
    (λ g. refused-way n (Ok (Some (record { first = was; last = was'; next = record { at = was'' } }))) (Ok None) Err g)

read-member : (n : ℕ) (f : ℕ → ℕ) (len at was was' : ℕ)
    → let x = next_member_as n f len at in read_member (member_number x) (member_at was x) (member_cursor was' x) ≡ x
unfolding answer_as unless
read-member n f len at was was' =
    let Reads : Result (Option NextMember) ℕ → Type 0 = λ x. read_member (member_number x) (member_at was x) (member_cursor was' x) ≡ x in
    by_cond (eqb n 0) (Ok (member_step (next_set f len at))) (Err n) Reads
    (λ t. by-found (next_set f len at) (λ y. Reads (Ok (member_step y))) (λ i. refl) refl)
    (λ g. refused-way n (Ok (Some (record { at = was; next = record { at = was' } }))) (Ok None) Err g)

read-minutes : (n m was : ℕ) → read_minutes (answer_refusal (answer_as n m)) (minutes_written was (answer_as n m)) ≡ answer_as n m
unfolding answer_as unless
read-minutes n m was =
    by_cond (eqb n 0) (Ok m) (Err n) (λ x. read_minutes (answer_refusal x) (minutes_written was x) ≡ x) (λ t. refl)
    (λ f. ap (λ (b : Bool). cond b (Ok was) (Err n)) f)

read-span : (n : ℕ) (s : UnitSlots) (was was' : ℕ)
    → let x = answer_as n s in read_span (answer_refusal x) (span_from was x) (span_to was' x) ≡ x
unfolding answer_as unless
read-span n s was was' =
    by_cond (eqb n 0) (Ok s) (Err n) (λ x. read_span (answer_refusal x) (span_from was x) (span_to was' x) ≡ x) (λ t. refl)
    (λ f. ap {B = Result UnitSlots ℕ} (λ (b : Bool). cond b (Ok (record { from = was; to = was' })) (Err n)) f)

-- ---- counts and indexes are small

ones-most : (n : ℕ) (p : ℕ → Bool) → sum n (λ k. cond (p k) 1 0) ≤ n
unfolding sum
ones-most zero p = omega arith
ones-most (suc n) p =
    by_cond (p n) 1 0 (λ x. sum n (λ k. cond (p k) 1 0) + x ≤ suc n) (λ t. omega (arith, ones-most n p)) (λ f. omega (arith, ones-most n p))

count_most : (n : ℕ) (p : ℕ → Bool) → count n p ≤ n
unfolding count
count_most n p = ones-most n p

size-most : (ws : List ℕ) (person len : ℕ) → size (row_slots ws person) len ≤ len
size-most ws person len =
    omega (arith, size-members (row_slots ws person) len (slot_lt ws (16 * person)), among-le (λ k. eqb (row_slots ws person k) 1) len)

merge-in-most : (x : Range) (l : List Range) → length (merge_in x l) ≤ suc (length l)
unfolding merge_in
merge-in-most x [] = omega arith
merge-in-most x (y ∷ l) =
    by_cond (before x y) (x ∷ y ∷ l) (cond (before y x) (y ∷ merge_in x l) (merge_in (joined x y) l)) (λ z. length z ≤ suc (suc (length l)))
    (λ t. omega arith)
    (λ f.
    by_cond (before y x) (y ∷ merge_in x l) (merge_in (joined x y) l) (λ z. length z ≤ suc (suc (length l)))
    (λ t. omega (arith, merge-in-most x l)) (λ g. omega (arith, merge-in-most (joined x y) l)))

merge-all-most : (l : List Range) → length (merge_all l) ≤ length l
unfolding merge_all
merge-all-most [] = omega arith
merge-all-most (x ∷ l) =
    by_cond (ltb x.start x.end) (merge_in x (merge_all l)) (merge_all l) (λ z. length z ≤ suc (length l))
    (λ t. omega (arith, merge-in-most x (merge_all l), merge-all-most l)) (λ f. omega (arith, merge-all-most l))

ranges-to : (R : Ranges) (n : ℕ) → length (ranges_to R n) ≡ n
unfolding ranges_to
ranges-to R zero = refl
ranges-to R (suc n) = omega (arith, length-append (ranges_to R n) (range_at R n ∷ []), ranges-to R n)

merged-most : (R : Ranges) → length (merged_of R) ≤ R.count
unfolding merged_of
merged-most R = omega (arith, merge-all-most (ranges_to R R.count), ranges-to R R.count)

merged-read : (people : ℕ) (R : Ranges) (out : Columns) → Read (merged_ranges people R out).answer
unfolding merged_ranges merged_row range_count_ok
merged-read people R out =
    read_number_lem (number_of (merged_row people R out)) (length (merged_of R))
    (λ e. omega (arith, merged-most R, leb-true R.count 1024 (passed (merged_row people R out) refl e 1)))

atomise-read : (B : Base) → Read (atomise_of B).answer
unfolding atomise_of atomise_row base_row
atomise-read B =
    read_number_lem (number_of (atomise_row B)) (length (starts_of_atoms B))
    (λ e. omega (arith, leb-true (length (starts_of_atoms B)) 1024 (passed (atomise_row B) refl e 8)))

freeze-read : (slots : ℕ) (starts ends frozen : List ℕ) (instant : ℕ) → Read (freeze_of slots starts ends frozen instant).answer
unfolding freeze_of freeze_row ended_by
freeze-read slots starts ends frozen instant =
    read_number_lem (number_of (freeze_row slots starts ends frozen)) (count slots (ends_by ends instant))
    (λ e.
    omega (
      arith,
      count_most slots (ends_by ends instant),
      (slot-count-says slots (passed (freeze_row slots starts ends frozen) refl e 0)).1,
    ))

starts-few : (s : Settings) (slots : ℕ) (starts ends list : List ℕ) → number_of (starts_row s slots starts ends list) ≡ 0 → slots ≤ 1024
unfolding starts_row
starts-few s slots starts ends list e = (slot-count-says slots (passed (starts_row s slots starts ends list) refl e 0)).1

rotations-read : (s : Settings) (slots : ℕ) (starts ends list : List ℕ) → Read (rotation_starts_is s slots starts ends list).answer
unfolding rotation_starts_is written_as rotation_starts
rotations-read s slots starts ends list =
    let p = rotation_begins s.boundary s.value starts in
    read_number_lem (number_of (starts_row s slots starts ends list)) (length (among p slots))
    (λ e. omega (arith, among-le p slots, starts-few s slots starts ends list e))

units-read : (s : Settings) (slots : ℕ) (starts ends list : List ℕ) → Read (unit_starts_is s slots starts ends list).answer
unfolding unit_starts_is written_as unit_starts
units-read s slots starts ends list =
    let p = unit_begins s.lock s.boundary s.value starts in
    read_number_lem (number_of (starts_row s slots starts ends list)) (length (among p slots))
    (λ e. omega (arith, among-le p slots, starts-few s slots starts ends list e))

unit-of-read : (slots units : ℕ) (begins : List ℕ) (k : ℕ) → Read (unit_of_slot_is slots units begins k)
unfolding unit_of_slot_is unit_of_slot_row units_row
unit-of-read slots units begins k =
    read_number_lem (number_of (unit_of_slot_row slots units begins k)) (unit_of units begins k)
    (λ e.
    let x = passed (unit_of_slot_row slots units begins k) refl e in
    omega (
      arith,
      (unit-of-in slots units begins (x 2) k (ltb-true k slots (x 3))).known,
      units-within slots units begins (x 2),
      (slot-count-says slots (x 0)).1,
    ))

slot-domain-read : (avail : List ℕ) (people slots k : ℕ) (list : List ℕ) → Read (slot_domain_is avail people slots k list).answer
unfolding slot_domain_is written_as slot_domain slot_domain_row
slot-domain-read avail people slots k list =
    read_number_lem (number_of (slot_domain_row avail people slots k list)) (length (among (λ p. available avail p k) people))
    (λ e.
    omega (
      arith,
      among-le (λ p. available avail p k) people,
      (people-says people (passed (slot_domain_row avail people slots k list) refl e 0)).1,
    ))

unit-domain-read : (avail : List ℕ) (people slots units : ℕ) (begins : List ℕ) (u : ℕ) (list : List ℕ)
    → Read (unit_domain_is avail people slots units begins u list).answer
unfolding unit_domain_is written_as unit_domain domain unit_domain_row
unit-domain-read avail people slots units begins u list =
    let p = able avail (unit_start begins u) (unit_end slots units begins u) in
    read_number_lem (number_of (unit_domain_row avail people slots units begins u list)) (length (among p people))
    (λ e.
    omega (arith, among-le p people, (people-says people (passed (unit_domain_row avail people slots units begins u list) refl e 0)).1))

owner-read : (people slots : ℕ) (o : List ℕ) (k : ℕ) → Read (owner_is people slots o k)
unfolding owner_is owner_row
owner-read people slots o k =
    read_number_lem (number_of (owner_row people slots o k)) (get_or o k 0)
    (λ e.
    let x = passed (owner_row people slots o k) refl e in
    ⊎_elim (λ (q : get_or o k 0 ≡ nobody). omega (arith, q)) (λ (h : get_or o k 0 < people). omega (arith, h, (people-says people (x 0)).1))
    ((known-test people (get_or o k 0)).0 (x 4)))

unassigned-read : (people slots : ℕ) (o : List ℕ) → Read (unassigned_is people slots o)
unfolding unassigned_is unassigned_row unassigned
unassigned-read people slots o =
    read_number_lem (number_of (unassigned_row people slots o)) (count slots (λ k. eqb (get_or o k 0) nobody))
    (λ e.
    omega (
      arith,
      count_most slots (λ k. eqb (get_or o k 0) nobody),
      (slot-count-says slots (passed (unassigned_row people slots o) refl e 1)).1,
    ))

pub reads-as-meant : ReadsAsMeant
reads-as-meant = record {
  next = λ v ws people person len from.
      read_found_lem _ _ (λ e.
      first_small v (row_slots ws person) len from (next_with v (row_slots ws person) len from)
      (next-is v (row_slots ws person) len from) (row-short ws people person len e));
  prev = λ v ws people person len end.
      read_found_lem _ _ (λ e.
      last-small v (row_slots ws person) len end (last_below v (row_slots ws person) len end)
      (last-is v (row_slots ws person) len end) (row-short ws people person len e));
  yes-no = read-answered;
  run = read-run;
  next-run = read-next-run;
  next-member = read-member;
  minutes = read-minutes;
  span = read-span;
  count = λ ws people person len.
      read_number_lem _ _ (λ e. omega (arith, size-most ws person len, row-short ws people person len e));
  merged-ranges = merged-read;
  atomise = atomise-read;
  freeze-before = freeze-read;
  rotation-starts = rotations-read;
  unit-starts = units-read;
  unit-of-slot = unit-of-read;
  slot-domain = slot-domain-read;
  unit-domain = unit-domain-read;
  owner-of-slot = owner-read;
  unassigned-count = unassigned-read;
  recount = λ P avail units begins o D. units-back _ _ P avail units begins o D;
  recount-slots = slots-back;
  assign = assign-back;
  play = play-back;
  play-draws = draws-back;
  run-job = job-back;
}
