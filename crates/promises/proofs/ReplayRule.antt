-- replay_block by its rule: its refusals, its reading in C, and the night that is worked out. Assumes nothing.
use Rattle.std.specs.Prelude.{Result, Ok, Err}
use mathlib.Core.Path.{◌≡◌, refl, sym, ap, ap₂, subst, ◌∙◌}
use mathlib.Core.Bool.{Bool, true, false, cond, ◌&&◌}
use mathlib.Core.List.{List, [], ◌∷◌, ◌++◌}
use mathlib.Core.Logic.{⊎_elim}
use Prim.Native.Nat.{ℕ, ◌%◌, ◌≤◌, ◌<◌}
use native.Mathlib.Omega.{arith}
use borrow.Author.Tests.{eqb-true, eqb-false, ne_eqb, le-leb, lt-leb, leb-true, leb-false}
use lib.Dec.{eqb, leb}
use lib.ListN.{get_or, take}
use Rattle.paper.specs.Limits.{people_ok, slot_count_ok, Test, test, number_of}
use Rattle.paper.specs.declared.Refusal.{Refusal}
use Rattle.paper.specs.Rows.{unless, refusal_of, test_refusal}
use Rattle.paper.specs.Bits.{bit_of}
use Rattle.paper.specs.Count.{all, all_in, sum, count, over, fill, among}
use Rattle.paper.proofs.Logic.{by-test, by_cond, both, lt-or-ge}
use Rattle.paper.proofs.Rows.{said}
use Rattle.paper.proofs.Refusals.{number-pass, number-fail}
use Rattle.paper.proofs.Count.{each_all, all-fails}
use Rattle.slotset.specs.Slots.{slot, with_bit, put_slot, put_slots}
use Rattle.slots.specs.Lent.{slot_ok, prev_end, slot_ok_at, slot_room_ok, slots_ok, minutes_at}
use Rattle.units.specs.Units.{unit_end, start_ok, units_ok}
use Rattle.units.specs.Domains.{available, able, unfrozen, clear, unit_frozen}
use Rattle.owners.specs.Derived.{Derived, derived, known_by, portion, worked, uncovered, unassigned, total_of, held, sets_from, afresh}
use Rattle.owners.specs.Recount.{first_fail, known_at, available_for, available_at, even_at, set_slot_at, set_at, minutes_ok_at, total_ok_at}
use Rattle.owners.specs.Recount.{recount_tests}
use Rattle.owners.specs.Entries.{lent_row, recount_row}
use Rattle.owners.proofs.Scans.{first-is}
use Rattle.rota.specs.declared.replay.Replayed.{Replayed}
use Rattle.rota.specs.declared.replay.Replayed.TheVariants as variant
use Rattle.rota.specs.Board.{owner_of, unowned}
use Rattle.rota.specs.Moves.{Draw, any_of, picked, reassigned, domain_of, decided}
use Rattle.rota.specs.Plays.{step, owners_after, answer, answers, draws_of}
use Rattle.rota.specs.Lent.{fits_unit, frozen_unit}
use Rattle.rota.specs.Entries.{play_room_ok, columns_enough}
use Rattle.rota.specs.Replays.{agrees_at, agreeing, block_played, answer_ok, replay_row, agrees_up_to, replayed_list}
use Rattle.boltraven_c.specs.Numbers.{refusal_number}
use Rattle.boltraven_c.specs.Replay.{replay_number, replay_place}
use Rattle.promises.specs.Entries.{Call, row_of, board_in}
use Rattle.promises.specs.Marked.{words}
use Rattle.promises.specs.ManyCalls.{Part, part_call}
use Rattle.promises.specs.Exports.{read_refusal, ReadsBack}
use Rattle.promises.specs.Table.{rules, Refuses}
use Rattle.promises.specs.Replay.{Replay, replay_of, replay_tests, block_draws, FirstDiffers, played_in, BlocksByRule}
use Rattle.promises.specs.ReplayRule.{refused_by, NoAnswer, read_replayed, ReplayRefuses, NightIs, night, second_block, second_owners}
use Rattle.promises.specs.ReplayRule.{WholeBreaks, LeftOutBreaks}
use Rattle.promises.proofs.Table.{given-as}
use Rattle.promises.proofs.ReadRefusals.{small-back, placeless-small, units-back}
use Rattle.promises.proofs.Replay.{blocks-by-rule}

-- a row whose numbers are at most m gives none above it
abbrev most : ℕ → List Test → Bool
most m [] = true
most m (t ∷ ts) = leb t.number m && most m ts

number-most : (m : ℕ) (ts : List Test) → most m ts ≡ true → number_of ts ≤ m
unfolding number_of
number-most m [] h = omega arith
number-most m (t ∷ ts) h =
    let x = both (leb t.number m) (most m ts) h in
    by-test t.passes _ (λ p. subst (λ (n : ℕ). n ≤ m) (sym (number-pass t ts p)) (number-most m ts x.1))
    (λ q. subst (λ (n : ℕ). n ≤ m) (sym (number-fail t ts q)) (leb-true t.number m x.0))

module _ (c : Call) (o : List ℕ) (D : Derived) (b : Part) where
  abbrev row : List Test
  row = row_of (part_call c o D b)

  abbrev ok : Bool
  ok = all b.count (answer_ok b.answers)

  abbrev r : Result Replayed Refusal
  r = (replay_of c o D b).answer

  -- what is answered, by the tests
  refused_as : (number_of (replay_tests c o D b) ≡ 0 → ⊥)
      → (r ≡ Err (refusal_of (replay_tests c o D b))) × ((replay_of c o D b).owners ≡ o) × ((replay_of c o D b).derived ≡ D)
  refused_as = blocks-by-rule.refused c o D b

  -- an accepted block agrees, or differs at a place
  answered : number_of (replay_tests c o D b) ≡ 0 → (X : Result Replayed Refusal → Type 0) → X (Ok variant.Agrees)
      → ((p : ℕ) → X (Ok (variant.Differs p))) → X r
  answered z X agreed differed =
      let same : ℕ → Bool = λ i. eqb (get_or (answers (board_in c) o (block_draws b)) i 0) (get_or b.answers i 0) in
      let F = first-is b.count same in
      let p = first_fail b.count same in
      ⊎_elim
      (λ (h : p < b.count).
      subst X (sym ((blocks-by-rule.differs c o D b p).1 (
        z,
        record {
          below = h;
          before = λ i g. eqb-true _ _ (F.before i g);
          here = eqb-false _ _ (F.fails h);
        },
      ))) (differed p))
      (λ (h : b.count ≤ p).
      subst X (sym ((blocks-by-rule.agrees c o D b).1 (z, λ i g. eqb-true _ _ (F.before i (omega arith))))) agreed)
      (lt-or-ge p b.count)

  number_is : refused_by r ≡ number_of (replay_tests c o D b)
  number_is =
      by-test (eqb (number_of (replay_tests c o D b)) 0) _
      (λ t. let z = eqb-true _ 0 t in answered z (λ x. refused_by x ≡ 0) refl (λ p. refl) ∙ sym z)
      (λ n. ap refused_by (refused_as (eqb-false _ 0 n)).0 ∙ said (replay_tests c o D b) refl)

  -- the recorded answers are all answers, or one of them is none
  ok_or : (NoAnswer b → ⊥) → ok ≡ true
  unfolding answer_ok
  ok_or n =
      each_all b.count (answer_ok b.answers) (λ i h.
      ⊎_elim (λ (g : 2 < get_or b.answers i 0). absurd (n (i, h, g))) (λ (g : get_or b.answers i 0 ≤ 2). le-leb _ 2 g)
      (lt-or-ge 2 (get_or b.answers i 0)))

  not-ok : ok ≡ false → NoAnswer b
  unfolding answer_ok
  not-ok f =
      let F = first-is b.count (answer_ok b.answers) in
      let i = first_fail b.count (answer_ok b.answers) in
      ⊎_elim (λ (h : i < b.count). (i, h, leb-false _ 2 (F.fails h)))
      (λ (h : b.count ≤ i).
      absurd (mathlib.Core.Bool.true≢false
      (sym (each_all b.count (answer_ok b.answers) (λ k l. F.before k (omega arith))) ∙ f)))
      (lt-or-ge i b.count)

  tests-pass : ok ≡ true → number_of (replay_tests c o D b) ≡ number_of row
  unfolding replay_row
  tests-pass k = number-pass (test 13 ok) row k

  tests-fail : ok ≡ false → number_of (replay_tests c o D b) ≡ 13
  unfolding replay_row
  tests-fail k = number-fail (test 13 ok) row k

  row-few : number_of row ≤ 10
  unfolding recount_row lent_row recount_tests
  row-few = number-most 10 row refl

  thirteen-there : refused_by r ≡ 13 → NoAnswer b
  thirteen-there e =
      by-test ok _ (λ k. absurd (omega (arith, e, number_is, tests-pass k, row-few))) not-ok

  thirteen-back : NoAnswer b → refused_by r ≡ 13
  unfolding answer_ok
  thirteen-back x =
      number_is ∙ tests-fail (all-fails b.count x.0 (answer_ok b.answers) x.1 (lt-leb (get_or b.answers x.0 0) 2 x.2))

  left-kept : (refused_by r ≡ 0 → ⊥) → ((replay_of c o D b).owners ≡ o) × ((replay_of c o D b).derived ≡ D)
  left-kept n = let w = refused_as (λ z. n (number_is ∙ z)) in (w.1, w.2)

  as-play : (NoAnswer b → ⊥)
      → Refuses {A = List ℕ × Derived} (rules row) (refused_by r) (o, D) (let y = replay_of c o D b in (y.owners, y.derived))
  unfolding recount_row lent_row recount_tests
  as-play n = record {
    given = given-as row _ refl (number_is ∙ tests-pass (ok_or n));
    kept = λ h. let w = left-kept h in ap₂ {C = List ℕ × Derived} (λ (x : List ℕ) (E : Derived). (x, E)) w.0 w.1;
  }

  -- ---- as a C caller reads it

  row_reads : ReadsBack (refusal_of (replay_tests c o D b))
  unfolding replay_row refusal_of
  row_reads =
      by_cond ok (refusal_of row) (test_refusal (test 13 ok)) ReadsBack
      (λ _. units-back _ _ c.plan c.avail c.units c.begins o D)
      (λ _. small-back _ (placeless-small 13 (omega arith)))

  refused-reads : (f : Refusal) → ReadsBack f → (f.number ≡ 0 → ⊥) → (place : ℕ)
      → read_replayed (refusal_number f) place ≡ Err f
  refused-reads f e n place =
      let v = refusal_number f in
      let m : v % 256 ≡ f.number = ap (λ (g : Refusal). g.number) e in
      let not-Agrees = ne_eqb v 0 (λ k. n (sym m ∙ ap (λ (j : ℕ). j % 256) k)) in
      let not-place = ne_eqb v 65536 (λ k. n (sym m ∙ ap (λ (j : ℕ). j % 256) k)) in
      ap₂ {C = Result Replayed Refusal} (λ (x y : Bool). cond x (Ok variant.Agrees) (cond y (Ok (variant.Differs place)) (Err (read_refusal v))))
      not-Agrees not-place
      ∙ ap {B = Result Replayed Refusal} (λ (g : Refusal). Err g) e

  reads : (was : ℕ) → read_replayed (replay_number r) (replay_place was r) ≡ r
  reads was =
      let Read : Result Replayed Refusal → Type 0 = λ x. read_replayed (replay_number x) (replay_place was x) ≡ x in
      by-test (eqb (number_of (replay_tests c o D b)) 0) _
      (λ t. answered (eqb-true _ 0 t) Read refl (λ p. refl))
      (λ n.
      let k = eqb-false _ 0 n in
      subst Read (sym (refused_as k).0)
      (refused-reads (refusal_of (replay_tests c o D b)) row_reads (λ q. k (sym (said (replay_tests c o D b) refl) ∙ q)) was))

pub replay-refuses : ReplayRefuses
replay-refuses = record {
  thirteen = λ c o D b. (thirteen-there c o D b, thirteen-back c o D b);
  as-play = as-play;
  kept = left-kept;
  reads = reads;
}

-- ---- the night

pub night-is : NightIs replay_of
unfolding replayed_list replay_row answer_ok refusal_of recount_row lent_row recount_tests play_room_ok columns_enough unless agrees_up_to agreeing
    agrees_at block_played people_ok slot_count_ok slot_room_ok slots_ok slot_ok_at slot_ok prev_end units_ok start_ok all all_in among count sum over
    fill first_fail known_at known_by available_for available_at available even_at unit_end set_at set_slot_at minutes_ok_at total_ok_at held worked
    portion minutes_at slot bit_of uncovered unassigned total_of sets_from put_slots put_slot with_bit afresh draws_of owners_after answers answer
    step decided any_of reassigned picked domain_of unowned owner_of frozen_unit unit_frozen clear unfrozen fits_unit able
night-is = record { agrees = refl; differs = refl }

-- ---- wrong replays

abbrev o : List ℕ
o = 0 ∷ 1 ∷ []

abbrev D : Derived
D = derived (words 1 ++ words 2) (60 ∷ 60 ∷ []) (0 ∷ 0 ∷ [])

abbrev two : List Draw
two = block_draws second_block

second_none : number_of (replay_tests night o D second_block) ≡ 0
unfolding replay_row answer_ok number_of recount_row lent_row recount_tests play_room_ok columns_enough people_ok slot_count_ok slot_room_ok slots_ok
    slot_ok_at slot_ok prev_end units_ok start_ok all all_in count sum known_at known_by available_for available_at available even_at unit_end set_at
    set_slot_at minutes_ok_at total_ok_at held worked portion minutes_at slot bit_of uncovered unassigned total_of
second_none = refl

-- its draws are answered 2, 0, 0; the first two leave 0 0, all three 0 1
second-plays : (answers (board_in night) o two ≡ 2 ∷ 0 ∷ 0 ∷ []) × (owners_after (board_in night) o (take 2 two) ≡ 0 ∷ 0 ∷ [])
    × (owners_after (board_in night) o two ≡ 0 ∷ 1 ∷ [])
unfolding draws_of owners_after answers answer step decided any_of reassigned picked domain_of among unowned owner_of frozen_unit unit_frozen
    clear unfrozen all_in all slot bit_of unit_end fits_unit able available fill
second-plays = (refl, refl, refl)

second-differs : FirstDiffers night o second_block 1
second-differs =
    let at : (i : ℕ) → get_or (answers (board_in night) o two) i 0 ≡ get_or (2 ∷ 0 ∷ 0 ∷ []) i 0 =
    λ i. ap (λ (l : List ℕ). get_or l i 0) second-plays.0 in
    record {
      below = omega arith;
      before = λ i h.
          let z : i ≡ 0 = omega arith in
          subst (λ (j : ℕ). get_or (answers (board_in night) o two) j 0 ≡ get_or (2 ∷ 1 ∷ 0 ∷ []) j 0) (sym z) (at 0);
      here = λ e. let q : ◌≡◌ {A = ℕ} 0 1 = sym (at 1) ∙ e in omega (arith, q);
    }

-- what the rule gives there
second-owners : (R : Replay) → BlocksByRule R → second_owners R ≡ 0 ∷ 0 ∷ []
second-owners R W =
    let e = (W.differs night o D second_block 1).1 (second_none, second-differs) in
    (W.played night o D second_block second_none).owners
    ∙ ap (λ (r : Result Replayed Refusal). owners_after (board_in night) o (played_in r second_block)) e ∙ second-plays.1

apart : (l : List ℕ) → l ≡ 0 ∷ 0 ∷ [] → l ≡ 0 ∷ 1 ∷ [] → ⊥
apart l p q = let z : ◌≡◌ {A = ℕ} 0 1 = ap (λ (x : List ℕ). get_or x 1 0) (sym p ∙ q) in omega (arith, z)

pub whole-breaks : WholeBreaks
whole-breaks R W e = apart (second_owners R) (second-owners R W) (e ∙ second-plays.2)

pub left-out-breaks : LeftOutBreaks
left-out-breaks R W e = apart (second_owners R) (second-owners R W) e
