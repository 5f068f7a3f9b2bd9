-- way_back by its rule: the laws of wayback, carried to calls of play. Assumes nothing.
use Rattle.std.specs.Prelude.{Result, Ok, Err}
use mathlib.Core.Path.{◌≡◌, refl, sym, ap, ap₂, subst, ◌∙◌}
use mathlib.Core.Bool.{Bool, true, cond}
use mathlib.Core.List.{List, [], ◌∷◌}
use mathlib.Core.Logic.{⊎_elim}
use Prim.Native.Nat.{ℕ, ◌%◌, ◌≤◌, ◌<◌}
use native.Mathlib.Omega.{arith}
use borrow.Author.Tests.{eqb-true, eqb-false, ne_eqb, le-leb}
use lib.Dec.{eqb}
use lib.ListN.{length, get_or, replicate, take, length-map, length-replicate, get_or-replicate}
use Rattle.paper.specs.Limits.{people_ok, slot_count_ok, Test, number_of}
use Rattle.paper.specs.declared.Refusal.{Refusal}
use Rattle.paper.specs.Rows.{refusal_of}
use Rattle.paper.specs.Bits.{bit_of}
use Rattle.paper.specs.Count.{all, all_in, among, count, sum, onto}
use Rattle.paper.proofs.Logic.{by-test, by_cond, lt-or-ge, and-true}
use Rattle.paper.proofs.Rows.{numbered, said}
use Rattle.paper.proofs.Count.{length-onto}
use Rattle.slotset.specs.Slots.{slot}
use Rattle.slots.specs.Lent.{slot_ok, prev_end, slot_ok_at, slot_room_ok, slots_ok, minutes_at}
use Rattle.units.specs.Units.{unit_end, start_ok, units_ok}
use Rattle.units.proofs.Units.{units-within}
use Rattle.units.specs.Domains.{available, able, unfrozen, clear, unit_frozen}
use Rattle.owners.specs.Derived.{known_by, portion, worked, held, afresh, uncovered, unassigned, total_of}
use Rattle.owners.specs.Recount.{first_fail, known_at, available_for, available_at, even_at, set_slot_at, set_at, minutes_ok_at, recount_tests, total_ok_at}
use Rattle.owners.specs.Entries as state
use Rattle.owners.proofs.Made.{afresh-owners}
use Rattle.owners.proofs.Entered.{recount-says, recount-asks}
use Rattle.owners.proofs.Scans.{first-is}
use Rattle.owners.proofs.RecountRefusals.{first_on, first_stops}
use Rattle.rota.specs.Board.{Board, BoardSound, Even, owner_of, unowned}
use Rattle.rota.specs.Moves.{Draw}
use Rattle.rota.specs.Plays.{draws_of, owners_after, answers}
use Rattle.rota.specs.Lent.{fits_unit, frozen_unit}
use Rattle.rota.specs.Entries.{play_room_ok, columns_enough}
use Rattle.rota.proofs.Readied.{board-sound}
use Rattle.rota.proofs.Entered.{recount-even}
use Rattle.wayback.specs.declared.Way.{Way}
use Rattle.wayback.specs.declared.Way.TheVariants as way
use Rattle.wayback.specs.Back.{differs, differing, place_in, back, kinds_of, firsts_of, seconds_of}
use Rattle.wayback.specs.Answers.{way_room_ok, remembered_row, way_row, in_the_way, InWay, first_in_way, Outcome, way_of, draws_written, way_back_of}
use Rattle.wayback.proofs.Returns.{returns, back-takes, back-few}
use Rattle.wayback.proofs.Searched.{WayAsks, way-asks}
use Rattle.wayback.proofs.Leading.{onto-in, onto-past, columns-hold, again-in, takes-again, can-again, first-in, first-lowest, first-none}
use Rattle.wayback.proofs.Leading.{stays-away, is-refused, is-blocked, is_found, found-says, blocked-says}
use Rattle.boltraven_c.specs.Numbers.{refusal_number}
use Rattle.boltraven_c.specs.Ways.{way_number, way_told}
use Rattle.promises.specs.Entries.{Call, built, enough_in, no_of, play_of, board_in, draws_in}
use Rattle.promises.specs.ManyCalls.{Part, part_call}
use Rattle.promises.specs.Accepts.{no_draw}
use Rattle.promises.specs.Exports.{read_refusal, ReadsBack}
use Rattle.promises.specs.Table.{rules, Refuses}
use Rattle.promises.specs.WayBackRule.{Asked, way_for, way_tests, way_refusal, read_way, Leads, Blocks, WayByRule}
use Rattle.promises.proofs.Calls.{accepted-is}
use Rattle.promises.proofs.ReadRefusals.{small-back, placeless-small, fault-small, units-back}
use Rattle.promises.proofs.Table.{given-as}
use Rattle.promises.proofs.ManyCalls.{accepted-number}

module _ (c : Call) (q : Asked) where
  abbrev B : Board
  B = board_in c

  abbrev a : List ℕ
  a = q.remembered

  abbrev o : List ℕ
  o = c.owners

  -- ---- where nothing is refused

  module _ (z : number_of (way_tests c q) ≡ 0) where
    A : WayAsks c.plan c.avail c.units c.begins c.frozen a o c.derived q.draws q.firsts q.seconds
    A =
        way-asks c.plan c.avail c.units c.begins c.frozen a o c.derived q.draws q.firsts q.seconds refl
        (said (way_tests c q) refl ∙ z)

    sound : BoardSound B
    sound =
        board-sound c.plan.people c.plan.slots c.units c.avail c.begins c.frozen A.asks.on.sound.people-few
        A.asks.units-ok

    even : Even B o
    even =
        recount-even c.plan c.avail c.units c.begins o c.derived c.frozen A.asks.units-ok A.asks.on.room
        (recount-says c.plan c.avail c.units c.begins o c.derived A.asks.passes)

    -- a play on the rota, with room, is accepted
    accepts : (w : Part) → w.count ≤ 1024 → w.count ≤ length w.draws → w.count ≤ length w.firsts
        → w.count ≤ length w.seconds → w.count ≤ length w.answers → no_of (part_call c o c.derived w) ≡ 0
    unfolding play_room_ok columns_enough
    accepts w few ks fs ss x =
        let room : play_room_ok c.units c.begins c.frozen w.count (enough_in (part_call c o c.derived w)) w.answers ≡ true =
        and-true _ _ (le-leb _ _ A.starts) (and-true _ _ (le-leb _ _ A.flags)
        (and-true _ _ (and-true _ _ (le-leb _ _ ks) (and-true _ _ (le-leb _ _ fs) (le-leb _ _ ss))) (le-leb _ _ x))) in
        let row : Bool → Bool → ℕ = λ m n. number_of (state.recount_row m n c.plan c.avail c.units c.begins o c.derived) in
        ap₂ row (le-leb w.count 1024 few) room ∙ ap (row true) (sym A.asks.room-ok) ∙ A.recounted

    -- ---- the draws

    abbrev ds : List Draw
    ds = back B a o

    -- those of an outcome y, n of them
    record LeadsBy (y : Outcome) (n : ℕ) : Type 0 where
      is-back : draws_of y.draws y.firsts y.seconds n ≡ ds
      past : (k : ℕ) → n ≤ k
          → (get_or y.draws k 0 ≡ get_or q.draws k 0) × (get_or y.firsts k 0 ≡ get_or q.firsts k 0)
          × (get_or y.seconds k 0 ≡ get_or q.seconds k 0)
      few : n ≤ 1024
      number : length ds ≡ n
      room : (n ≤ length y.draws) × (n ≤ length y.firsts) × (n ≤ length y.seconds)

    n-few : length ds ≤ c.plan.slots
    n-few = omega (arith, back-few B a o, A.units-within)

    columns : (g : Draw → ℕ) (old : List ℕ) → c.plan.slots ≤ length old
        → (length ds ≤ length (onto (mathlib.Core.List.map g ds) old))
        × ((k : ℕ) → length ds ≤ k → get_or (onto (mathlib.Core.List.map g ds) old) k 0 ≡ get_or old k 0)
    columns g old h = (
      omega (arith, length-onto (mathlib.Core.List.map g ds) old (omega (arith, length-map ds g, n-few)), n-few),
      λ k l. onto-past (mathlib.Core.List.map g ds) old k (omega (arith, length-map ds g)),
    )

    leads-by : LeadsBy (draws_written ds q.draws q.firsts q.seconds) (length ds)
    unfolding draws_written way_of kinds_of firsts_of seconds_of
    leads-by =
        let k = columns (λ d. d.kind) q.draws A.draws in
        let f = columns (λ d. d.first) q.firsts A.firsts in
        let s = columns (λ d. d.second) q.seconds A.seconds in
        record {
          is-back = columns-hold ds q.draws q.firsts q.seconds;
          past = λ i h. (k.1 i h, f.1 i h, s.1 i h);
          few = omega (arith, n-few, A.asks.on.sound.slots-few);
          number = refl;
          room = (k.0, f.0, s.0);
        }

    module _ (none : (u : ℕ) → InWay B a o u → ⊥) where
      abbrev a' : List ℕ
      a' = onto (take c.plan.slots a) o

      there : (owners_after B o ds ≡ a') × (answers B o ds ≡ replicate (length ds) 0)
      there =
          let lo = A.asks.on.room.owners-room in
          returns B sound a' o ds
          (can-again c.plan c.avail c.units c.begins c.frozen a o A.asks.units-ok A.owners-room lo A.remembered even
          none)
          (takes-again c.plan c.avail c.units c.begins c.frozen a o A.asks.units-ok A.owners-room lo A.remembered ds
          (back-takes B a o))

      module _ (y : Outcome) (n : ℕ) (L : LeadsBy y n) (x : List ℕ) (room : n ≤ length x) where
        abbrev v : Call
        v = part_call c o c.derived record { count = n; draws = y.draws; firsts = y.firsts; seconds = y.seconds; answers = x }

        taken : no_of v ≡ 0
        taken =
            accepts record { count = n; draws = y.draws; firsts = y.firsts; seconds = y.seconds; answers = x } L.few L.room.0
            L.room.1 L.room.2 room

        owners-there : (play_of v).owners ≡ a'
        owners-there = ap (λ (t : state.Outcome). t.owners) (accepted-is v taken) ∙ ap (owners_after B o) L.is-back ∙ there.0

        derived-there : (play_of v).derived ≡ afresh c.plan a c.derived
        derived-there =
            ap (λ (t : state.Outcome). t.derived) (accepted-is v taken)
            ∙ ap (λ (l : List ℕ). afresh c.plan l c.derived) (ap (owners_after B o) L.is-back ∙ there.0)
            ∙ afresh-owners c.plan a' a c.derived
            (λ k h. again-in c.plan.slots a o A.owners-room A.asks.on.room.owners-room k h)

        act-there : (i : ℕ) → i < n → get_or (play_of v).answers i 0 ≡ 0
        act-there i h =
            let k : answers B o (draws_in v) ≡ replicate n 0 =
            ap (answers B o) L.is-back ∙ there.1 ∙ ap (λ (j : ℕ). replicate j 0) L.number in
            ap (λ (t : state.Outcome). get_or t.answers i 0) (accepted-is v taken)
            ∙ ap (λ (l : List ℕ). get_or (onto l x) i 0) k
            ∙ onto-in (replicate n 0) x i (omega (arith, length-replicate {A = ℕ} n 0)) ∙ get_or-replicate n i 0 0 h

  leads : (n : ℕ) → (way_for c q).answer ≡ Ok (way.Draws n) → Leads built c q n
  leads n e =
      let r = found-says c.plan c.avail c.units c.begins c.frozen a o c.derived q.draws q.firsts q.seconds
      n e in
      let z = r.0 in
      let is = is_found c.plan c.avail c.units c.begins c.frozen a o c.derived q.draws q.firsts q.seconds
      z r.1 in
      let none : (u : ℕ) → InWay B a o u → ⊥ = λ u I. first-lowest B a o u (omega (arith, I.differ.known, r.1)) I in
      let y = way_for c q in
      let L : LeadsBy z y n = subst (LeadsBy z y) r.2 (subst (λ (t : Outcome). LeadsBy z t (length (back B a o))) (sym is)
      (leads-by z)) in
      record {
        is-back = L.is-back;
        past = L.past;
        accepted = λ x h. ap (λ (t : state.Outcome). t.refusal.number) (accepted-is (v z none y n L x h) (taken z none y n L x h));
        act = λ x h. act-there z none y n L x h;
        owners = λ x h. owners-there z none y n L x h;
        derived = λ x h. derived-there z none y n L x h;
      }

  blocks : (u : ℕ) → (way_for c q).answer ≡ Ok (way.NoWay u) → Blocks built c q u
  unfolding way_of
  blocks u e =
      let r = blocked-says c.plan c.avail c.units c.begins c.frozen a o c.derived q.draws q.firsts q.seconds u e in
      let z = r.0 in
      let is = is-blocked c.plan c.avail c.units c.begins c.frozen a o c.derived q.draws q.firsts q.seconds z r.1 in
      let I : InWay B a o u = subst (InWay B a o) r.2 (first-in B a o r.1) in
      record {
        in-way = I;
        lowest = λ v h. first-lowest B a o v (omega (arith, r.2));
        kept = (ap (λ (t : Outcome). t.draws) is, ap (λ (t : Outcome). t.firsts) is, ap (λ (t : Outcome). t.seconds) is);
        no_way = λ w n k.
            let v = part_call c o c.derived w in
            stays-away B a o (sound z) (even z) u I (draws_in v)
            (sym (ap (λ (t : state.Outcome). owner_of B t.owners u) (accepted-is v (accepted-number v n))) ∙ k);
      }

  refuses : Refuses {A = List ℕ × List ℕ × List ℕ} (rules (way_tests c q)) (way_refusal (way_for c q).answer)
      (q.draws, q.firsts, q.seconds) (let y = way_for c q in (y.draws, y.firsts, y.seconds))
  unfolding way_row state.recount_row state.lent_row recount_tests remembered_row way_of draws_written
  refuses =
      let P = c.plan in
      let number : way_refusal (way_for c q).answer ≡ number_of (way_tests c q) =
      by-test (eqb (number_of (way_tests c q)) 0) _
      (λ t.
      let z = eqb-true _ _ t in
      ⊎_elim
      (λ (h : first_in_way B a o < c.units).
      ap (λ (y : Outcome). way_refusal y.answer) (is-blocked P c.avail c.units c.begins c.frozen a o c.derived q.draws
      q.firsts q.seconds z h) ∙ sym z)
      (λ (h : c.units ≤ first_in_way B a o).
      ap (λ (y : Outcome). way_refusal y.answer) (is_found P c.avail c.units c.begins c.frozen a o c.derived q.draws
      q.firsts q.seconds z h) ∙ sym z)
      (lt-or-ge (first_in_way B a o) c.units))
      (λ n.
      ap (λ (y : Outcome). way_refusal y.answer) (is-refused P c.avail c.units c.begins c.frozen a o c.derived q.draws
      q.firsts q.seconds (eqb-false _ _ n)) ∙ said (way_tests c q) refl) in
      record {
        given = given-as (way_tests c q) _ refl number;
        kept = λ h.
            let is = is-refused P c.avail c.units c.begins c.frozen a o c.derived q.draws
            q.firsts q.seconds (λ k. h (number ∙ k)) in
            ap {B = List ℕ × List ℕ × List ℕ} (λ (y : Outcome). (y.draws, y.firsts, y.seconds)) is;
      }

  found-answer : number_of (way_tests c q) ≡ 0 → ((u : ℕ) → InWay B a o u → ⊥) → (way_for c q).answer ≡ Ok (way.Draws (length (back B a o)))
  unfolding draws_written way_of
  found-answer z none =
      ap (λ (y : Outcome). y.answer) (is_found c.plan c.avail c.units c.begins c.frozen a o c.derived q.draws
      q.firsts q.seconds z (first-none B a o none))

  refused-answer : (number_of (way_tests c q) ≡ 0 → ⊥) → (way_for c q).answer ≡ Err (refusal_of (way_tests c q))
  unfolding way_of
  refused-answer n =
      ap (λ (y : Outcome). y.answer) (is-refused c.plan c.avail c.units c.begins c.frozen a o c.derived q.draws
      q.firsts q.seconds n)

  -- ---- as a C caller reads it

  abbrev us : List Test
  us = remembered_row c.plan c.avail c.units c.begins a

  remembered-reads : c.units ≤ 1024 → ReadsBack (refusal_of us)
  unfolding remembered_row refusal_of
  remembered-reads few =
      let P = c.plan in
      let p = even_at P.slots c.units c.begins a in
      by_cond (all c.units p) _ _ ReadsBack
      (λ _. by_cond (all P.slots (known_at P.people a)) _ _ ReadsBack
      (λ _. by_cond (all P.slots (available_at c.avail a)) _ _ ReadsBack
      (λ _. small-back _ (placeless-small 0 (omega arith))) (λ _. small-back _ (placeless-small 12 (omega arith))))
      (λ _. small-back _ (placeless-small 11 (omega arith))))
      (λ _. small-back _ (fault-small 3 (first_fail c.units p) 0 (omega arith) (omega (arith, (first-is c.units p).within))
      (omega arith)))

  abbrev front : List Test
  front =
      state.recount_row true (way_room_ok c.plan.slots c.units c.begins c.frozen a q.draws q.firsts q.seconds) c.plan
      c.avail c.units c.begins o c.derived

  numbers : numbered front ≡ true
  unfolding state.recount_row state.lent_row recount_tests
  numbers = refl

  row_reads : ReadsBack (refusal_of (way_tests c q))
  unfolding way_row
  row_reads =
      let room = way_room_ok c.plan.slots c.units c.begins c.frozen a q.draws q.firsts q.seconds in
      by-test (eqb (number_of front) 0) _
      (λ t.
      let z = eqb-true _ _ t in
      let R = recount-asks c.plan c.avail c.units c.begins o c.derived true room z in
      subst ReadsBack (sym (first_on front us numbers z))
      (remembered-reads (omega (arith, units-within c.plan.slots c.units c.begins R.units-ok, R.on.sound.slots-few))))
      (λ n.
      subst ReadsBack (sym (first_stops front us (eqb-false _ _ n)))
      (units-back true room c.plan c.avail c.units c.begins o c.derived))

  -- a refusal's number is neither of the others
  refused-reads : (f : Refusal) → ReadsBack f → (f.number ≡ 0 → ⊥) → (told : ℕ) → read_way (refusal_number f) told ≡ Err f
  refused-reads f e n told =
      let v = refusal_number f in
      let m : v % 256 ≡ f.number = ap (λ (g : Refusal). g.number) e in
      let not-draws = ne_eqb v 0 (λ k. n (sym m ∙ ap (λ (j : ℕ). j % 256) k)) in
      let not-unit = ne_eqb v 65536 (λ k. n (sym m ∙ ap (λ (j : ℕ). j % 256) k)) in
      ap₂ {C = Result Way Refusal} (λ (x y : Bool). cond x (Ok (way.Draws told)) (cond y (Ok (way.NoWay told)) (Err (read_refusal v))))
      not-draws not-unit
      ∙ ap {B = Result Way Refusal} (λ (g : Refusal). Err g) e

  reads : (was : ℕ) → read_way (way_number (way_for c q).answer) (way_told was (way_for c q).answer) ≡ (way_for c q).answer
  unfolding way_of draws_written
  reads was =
      let P = c.plan in
      let Read : Result Way Refusal → Type 0 = λ w. read_way (way_number w) (way_told was w) ≡ w in
      by-test (eqb (number_of (way_tests c q)) 0) _
      (λ t.
      let z = eqb-true _ _ t in
      ⊎_elim
      (λ (h : first_in_way B a o < c.units).
      subst (λ (y : Outcome). Read y.answer) (sym (is-blocked P c.avail c.units c.begins c.frozen a o c.derived q.draws
      q.firsts q.seconds z h)) refl)
      (λ (h : c.units ≤ first_in_way B a o).
      subst (λ (y : Outcome). Read y.answer) (sym (is_found P c.avail c.units c.begins c.frozen a o c.derived q.draws
      q.firsts q.seconds z h)) refl)
      (lt-or-ge (first_in_way B a o) c.units))
      (λ n.
      subst (λ (y : Outcome). Read y.answer) (sym (is-refused P c.avail c.units c.begins c.frozen a o c.derived q.draws
      q.firsts q.seconds (eqb-false _ _ n)))
      (refused-reads (refusal_of (way_tests c q)) row_reads (λ k. eqb-false _ _ n (sym (said (way_tests c q) refl) ∙ k)) was))

-- two units, owners 0 and 1, remembered 1 and 1
example : way_for no_draw record { remembered = 1 ∷ 1 ∷ []; draws = replicate 2 9; firsts = replicate 2 9; seconds = replicate 2 9 }
    ≡ record { answer = Ok (way.Draws 1); draws = 0 ∷ 9 ∷ []; firsts = 0 ∷ 9 ∷ []; seconds = 1 ∷ 9 ∷ [] }
unfolding way_back_of way_row refusal_of state.recount_row state.lent_row recount_tests remembered_row way_room_ok columns_enough way_of draws_written
    people_ok slot_count_ok slot_room_ok slots_ok slot_ok_at slot_ok prev_end units_ok start_ok all all_in among count sum onto first_fail known_at
    known_by
    available_for available_at available even_at unit_end set_at set_slot_at held minutes_ok_at total_ok_at total_of uncovered unassigned worked
    portion minutes_at slot bit_of
    first_in_way in_the_way differs differing unowned owner_of frozen_unit unit_frozen clear unfrozen fits_unit able back place_in kinds_of firsts_of
    seconds_of
example = refl

pub way-by-rule : WayByRule built
way-by-rule = record {
  draws = leads;
  unit = blocks;
  found = found-answer;
  refused = refuses;
  with-place = refused-answer;
  reads = reads;
  example = example;
}
