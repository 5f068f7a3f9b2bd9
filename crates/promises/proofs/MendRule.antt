-- A damaged rota mended, by its rule. Assumes nothing.
use Rattle.std.specs.Prelude.{Result, Ok, Err}
use mathlib.Core.Path.{◌≡◌, refl, sym, ap, ap₂, ◌∙◌}
use mathlib.Core.List.{List, [], ◌∷◌, ◌++◌}
use Prim.Native.Nat.{ℕ, ◌*◌, ◌≤◌, ◌<◌}
use native.Mathlib.Omega.{arith}
use borrow.Author.Tests.{le-leb, lt-leb}
use lib.Dec.{leb}
use lib.ListN.{length, get_or}
use Rattle.paper.specs.Limits.{people_ok, slot_count_ok, Test, test, number_of}
use Rattle.paper.specs.declared.Refusal.{Refusal}
use Rattle.paper.specs.Rows.{unless, answer_as}
use Rattle.paper.specs.Count.{all, all_in, sum, count, over, fill, onto, among}
use Rattle.paper.specs.Bits.{bit_of}
use Rattle.paper.proofs.Refusals.{number-pass, number-fail}
use Rattle.paper.proofs.Rows.{said, worked, kept}
use Rattle.slotset.specs.Slots.{slot, with_bit, put_slot, put_slots}
use Rattle.slotset.proofs.Refusals.{answer-is, answer-refused}
use Rattle.slots.specs.Lent.{slot_room_ok, slots_ok, slot_ok_at, slot_ok, prev_end, minutes_at}
use Rattle.units.specs.Units.{units_ok, start_ok, unit_end}
use Rattle.units.specs.Domains.{available}
use Rattle.owners.specs.Derived.{Plan, known_by, portion, uncovered, unassigned, held, sets_from, total_of, afresh}
use Rattle.owners.specs.Derived as figures
use Rattle.owners.specs.Recount.{available_for, known_at, available_at, even_at}
use Rattle.owners.proofs.RecountRefusals.{first_on, first_stops}
use Rattle.mend.specs.Mended.{may_keep, left_to, barred_cleared, uneven_cleared, mended}
use Rattle.mend.specs.Repairs.{Rota, rota, column, entries, flag_of, Repair, differs_at, repairs_of, repairs, numbers}
use Rattle.mend.specs.Answers.{Outcome, mended_rota, repairs_due, found_row, mend_row, mending}
use Rattle.mend.proofs.ListLaws.{numbers-length}
use Rattle.mend.proofs.Kept.{keeps-kept, kept-keeps, kept-or-nobody}
use Rattle.mend.proofs.Ending.{mendable}
use Rattle.mend.proofs.Meaning.{result-recounts, result-passes, passed-stays, passed-idle}
use Rattle.mend.proofs.Meaning.{due-applied, due-undone, due-tells, twice-once, twice-idle}
use Rattle.promises.specs.Table.{GivenByTests}
use Rattle.promises.specs.MendRule.{Damaged, mend_of, lent_tests, mended_of, due_of, RightRota, Words, mend_table, seven_found, MendByRule}
use Rattle.promises.proofs.Table.{given-as}
use Rattle.promises.proofs.Tables.{First, by_first, none, say-short, people-says, slots-says, columns-say, right-says, units-right}
use Rattle.promises.proofs.RotaRules.{rota-by-rule}

-- ---- what is lent

given : (d : Damaged) → GivenByTests (lent_tests d) (number_of (lent_tests d))
unfolding found_row
given d = given-as (lent_tests d) _ refl refl

first : (d : Damaged) → First (mend_table d) (number_of (lent_tests d))
unfolding number_of found_row
first d =
    people-says d.plan.people (slots-says d.plan.slots (columns-say d.plan.slots d.plan.starts d.plan.ends (λ r.
    say-short (16 * d.plan.people) (length d.avail) (λ a.
    say-short d.units (length d.begins) (λ q.
    say-short 16 (length d.frozen) (λ f.
    say-short d.plan.slots (length d.found.owners) (λ o.
    say-short (16 * d.plan.people) (length d.found.derived.sets) (λ s.
    say-short d.plan.people (length d.found.derived.minutes) (λ m.
    say-short 2 (length d.found.derived.totals) (λ t.
    right-says 9 d.plan.slots d.plan.starts d.plan.ends r (units-right d.plan.slots d.units d.begins q
    none)))))))))))

-- ---- the outcome, by the number

outcome-same : {a a' : Result ℕ ℕ} {R R' : Rota} {l l' : List ℕ} → a ≡ a' → R ≡ R' → l ≡ l'
    → ◌≡◌ {A = Outcome} (record { answer = a; rota = R; list = l }) (record { answer = a'; rota = R'; list = l' })
outcome-same {a} {a'} {R} {R'} {l} {l'} ea e_r el =
    ap₂ {C = Outcome} (λ (x : Result ℕ ℕ) (y : Rota). record { answer = x; rota = y; list = l }) ea e_r
    ∙ ap {B = Outcome} (λ (x : List ℕ). record { answer = a'; rota = R'; list = x }) el

module _ (d : Damaged) where
  abbrev due : List Repair
  due = due_of d d.found

  abbrev last : Test
  last = test 2 (leb (5 * length due) (length d.list))

  abbrev tests : List Test
  tests = mend_row d.plan d.avail d.units d.begins d.frozen d.found d.list

  on : number_of (lent_tests d) ≡ 0 → number_of tests ≡ number_of (last ∷ [])
  unfolding mend_row found_row
  on z =
      sym (said (lent_tests d ++ (last ∷ [])) refl) ∙ ap (λ (f : Refusal). f.number) (first_on (lent_tests d) (last ∷ []) refl z)
      ∙ said (last ∷ []) refl

  stops : (number_of (lent_tests d) ≡ 0 → ⊥) → number_of tests ≡ number_of (lent_tests d)
  unfolding mend_row
  stops n =
      sym (said (lent_tests d ++ (last ∷ [])) refl) ∙ ap (λ (f : Refusal). f.number) (first_stops (lent_tests d) (last ∷ []) n)
      ∙ said (lent_tests d) refl

  stays : (n : ℕ) → number_of tests ≡ n → (n ≡ 0 → ⊥) → mend_of d ≡ record { answer = Err n; rota = d.found; list = d.list }
  unfolding mending
  stays n e h =
      let some : number_of tests ≡ 0 → ⊥ = λ q. h (sym e ∙ q) in
      outcome-same (sym (answer-refused n (number_of tests) (sym e) h (length due))) (kept (number_of tests) d.found _ some)
      (kept (number_of tests) d.list _ some)

  is-short : number_of (lent_tests d) ≡ 0 → length d.list < 5 * length due
      → mend_of d ≡ record { answer = Err 2; rota = d.found; list = d.list }
  unfolding number_of
  is-short z h = stays 2 (on z ∙ number-fail last [] (lt-leb (5 * length due) (length d.list) h)) (λ q. omega arith)

  is-done : number_of (lent_tests d) ≡ 0 → 5 * length due ≤ length d.list → mend_of d ≡ record {
    answer = Ok (length due);
    rota = mended_of d d.found;
    list = onto (numbers due) d.list;
  }
  unfolding mending number_of
  is-done z h =
      let e : number_of tests ≡ 0 = on z ∙ number-pass last [] (le-leb (5 * length due) (length d.list) h) in
      outcome-same (sym (answer-is 0 (number_of tests) (sym e) refl (length due) (length due) refl))
      (worked (number_of tests) d.found (mended_of d d.found) e) (worked (number_of tests) d.list (onto (numbers due) d.list) e)

  -- ---- what comes out

  module _ (z : number_of (lent_tests d) ≡ 0) where
    right : RightRota d (mended_of d d.found)
    right =
        (rota-by-rule.recount d.plan d.avail d.units d.begins (mended_of d d.found).owners (mended_of d d.found
        ).derived).0
        (result-recounts d.plan d.avail d.units d.begins d.frozen d.found z)

    stays-right : Words d → RightRota d d.found → (mended_of d d.found ≡ d.found) × (due_of d d.found ≡ [])
    stays-right w R =
        let e = (rota-by-rule.recount d.plan d.avail d.units d.begins d.found.owners d.found.derived).1 R in (
          passed-stays d.plan d.avail d.units d.begins d.frozen d.found z w e,
          passed-idle d.plan d.avail d.units d.begins d.frozen d.found z w e,
        )

-- ---- all of it

seven : mend_of (seven_found 30) ≡ record {
  answer = Ok 6;
  rota = rota (255 ∷ 255 ∷ []) (figures.derived (Rattle.promises.specs.Marked.words 0) (0 ∷ []) (120 ∷ 2 ∷ []));
  list = 0 ∷ 0 ∷ 7 ∷ 255 ∷ 1 ∷ 0 ∷ 1 ∷ 0 ∷ 255 ∷ 0 ∷ 1 ∷ 0 ∷ 3 ∷ 0 ∷ 0 ∷ 2 ∷ 0 ∷ 120 ∷ 0 ∷ 0 ∷ 3 ∷ 0 ∷ 0 ∷ 120 ∷ 0 ∷ 3 ∷ 1 ∷ 0 ∷ 2 ∷ 0
      ∷ [];
}
unfolding mending mend_row found_row mended_rota repairs_due repairs repairs_of numbers differs_at column entries flag_of answer_as unless number_of
    people_ok slot_count_ok slot_room_ok slots_ok all slot_ok_at slot_ok prev_end units_ok start_ok mended barred_cleared uneven_cleared left_to may_keep
    known_at available_at known_by available_for available even_at all_in unit_end over fill onto among slot bit_of afresh sets_from held put_slots
    put_slot with_bit total_of uncovered unassigned count sum portion figures.worked minutes_at
seven = refl

seven-short : mend_of (seven_found 29) ≡ record { answer = Err 2; rota = (seven_found 29).found; list = lib.ListN.replicate 29 9 }
unfolding mending mend_row found_row mended_rota repairs_due repairs repairs_of numbers differs_at column entries flag_of answer_as unless number_of
    people_ok slot_count_ok slot_room_ok slots_ok all slot_ok_at slot_ok prev_end units_ok start_ok mended barred_cleared uneven_cleared left_to may_keep
    known_at available_at known_by available_for available even_at all_in unit_end over fill onto among slot bit_of afresh sets_from held put_slots
    put_slot with_bit total_of uncovered unassigned count sum portion figures.worked minutes_at
seven-short = refl

pub mend-by-rule : MendByRule
unfolding found_row mended_rota
mend-by-rule = record {
  by-table = λ d. by_first (mend_table d) (lent_tests d) _ refl refl (given d) (first d);
  refused = λ d n. stays d (number_of (lent_tests d)) (stops d n) n;
  short-list = is-short;
  mends = is-done;
  passes = right;
  accepted = λ d z. result-passes d.plan d.avail d.units d.begins d.frozen d.found z;
  unchanged = stays-right;
  twice = λ d z w. (
    twice-once d.plan d.avail d.units d.begins d.frozen d.found z w,
    twice-idle d.plan d.avail d.units d.begins d.frozen d.found z w,
  );
  tells = λ d z. due-tells d.plan d.avail d.units d.begins d.frozen d.found z;
  applies = λ d z. due-applied d.plan d.avail d.units d.begins d.frozen d.found z;
  undoes = λ d z. due-undone d.plan d.avail d.units d.begins d.frozen d.found z;
  five-each = numbers-length;
  keeps = λ d z k h K.
      let M = mendable d.plan d.avail d.units d.begins d.frozen d.found z in
      keeps-kept d.plan d.avail d.units d.begins d.found.owners M.units-ok M.owners-room k h K;
  keeps-only = λ d z k h n e.
      let M = mendable d.plan d.avail d.units d.begins d.frozen d.found z in
      kept-keeps d.plan d.avail d.units d.begins d.found.owners M.units-ok M.owners-room k h n e;
  or-nobody = λ d z k h n.
      let M = mendable d.plan d.avail d.units d.begins d.frozen d.found z in
      kept-or-nobody d.plan d.avail d.units d.begins d.found.owners M.units-ok M.owners-room k h n;
  example = seven;
  one-short = seven-short;
}
