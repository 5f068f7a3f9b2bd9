-- The way back: the laws of wayback over owners, carried to calls of play. Assumes nothing.
use mathlib.Core.Path.{◌≡◌, refl, sym, ap, subst, ◌∙◌}
use mathlib.Core.Bool.{true}
use mathlib.Core.List.{List, [], ◌∷◌, ◌++◌}
use mathlib.Core.Logic.{⊎_elim}
use Prim.Native.Nat.{ℕ, suc, ◌^◌, ◌≤◌, ◌<◌}
use native.Mathlib.Omega.{arith}
use borrow.Author.Tests.{le-leb, ltb-true}
use lib.Dec.{ltb}
use lib.ListN.{length, get_or, drop, replicate, length-replicate, get_or-replicate, get_or-append, get_or-eq_default}
use Rattle.paper.specs.Limits.{people_ok, slot_count_ok, counts_ok}
use Rattle.paper.specs.Bits.{bit_of}
use Rattle.paper.specs.Count.{all, all_in, among, sum, fill, onto, count}
use Rattle.paper.proofs.Logic.{lt-or-ge}
use Rattle.paper.proofs.Count.{all-each}
use Rattle.slotset.specs.Slots.{slot}
use Rattle.slots.specs.Lent.{slot_ok, prev_end, slot_ok_at, slot_room_ok, slots_ok, minutes_at}
use Rattle.units.specs.Units.{unit_end, start_ok, units_ok}
use Rattle.units.specs.Domains.{available, able, unfrozen, clear, unit_frozen}
use Rattle.owners.specs.Derived.{Derived, known_by, portion, worked, held, afresh, uncovered, unassigned, total_of}
use Rattle.owners.specs.Recount.{known_at, available_for, available_at, even_at, set_slot_at, set_at, minutes_ok_at, recounts, total_ok_at}
use Rattle.owners.specs.Entries.{Outcome}
use Rattle.owners.proofs.Entered.{recount-step}
use Rattle.owners.proofs.Steps.{afresh-again, afresh-same, afresh-fit}
use Rattle.rota.specs.Board.{Board, BoardSound, Even, owner_of, unowned, run_start, run_to, run_end}
use Rattle.rota.specs.Lent.{fits_unit, frozen_unit}
use Rattle.rota.specs.Moves.{Draw, any_of, decided, domain_of, picked, reassigned, runs_swapped, run_first, run_last, movable, covers}
use Rattle.rota.specs.Plays.{step, answer, owners_after, answers, draws_of}
use Rattle.rota.proofs.Entered.{asks-sound, asks-even, asks-few}
use Rattle.rota.proofs.Plays.{owners-append, draws-length, play-even}
use Rattle.rota.proofs.Drawn.{draw-acts-exactly}
use Rattle.wayback.specs.Back as wayback
use Rattle.wayback.specs.Back.{back}
use Rattle.wayback.proofs.SwapAgain.{swap-again}
use Rattle.wayback.proofs.Returns.{CanReturn, returns, after-returns, back_at, back-rises, back-takes, place_is, takes-exactly, takes-few}
use Rattle.promises.specs.Entries.{Call, built, enough_in, no_of, play_of, board_in, draws_in, owners_in}
use Rattle.promises.specs.Marked.{apart}
use Rattle.promises.specs.MoveRules.{draw_at, found_at}
use Rattle.promises.specs.Rota.{Words, second_call}
use Rattle.promises.specs.ManyCalls.{Part, part_call, draws_of_parts, AllAccepted, last_owners, last_derived}
use Rattle.promises.specs.WayBack.{again, ComesBack, SwapsComeBack, SwapsUndone, three_units, RunsDont, swap_two, OneOnlyBreaks}
use Rattle.promises.specs.WayBack.{BackListed, AsManyAsDiffer, OwnedBefore, Holds, BringsBack, WayBack, WayBackInAnyOrder, NeverUnowned, half_owned, ConditionNeeded}
use Rattle.promises.proofs.Calls.{accepted-is, Accepted, accepted-says, says-accepted, room_ok}
use Rattle.promises.proofs.TwoUnits.{accepted, apart-recounts}
use Rattle.promises.proofs.Rota.{asks, two-calls, covered-stay}
use Rattle.promises.proofs.ManyCalls.{accepted-number, parts-end-as-one}

-- ---- a call on what an accepted one left

module _ (c : Call) (e : no_of c ≡ 0) where
  sound : BoardSound (board_in c)
  sound =
      asks-sound c.plan c.avail c.units c.begins c.frozen c.count (enough_in c) c.owners c.derived
      c.answers (asks c e)

  even : Even (board_in c) c.owners
  even =
      asks-even c.plan c.avail c.units c.begins c.frozen c.count (enough_in c) c.owners c.derived
      c.answers (asks c e)

  units-few : c.units ≤ 1024
  units-few =
      asks-few c.plan c.avail c.units c.begins c.frozen c.count (enough_in c) c.owners c.derived
      c.answers (asks c e)

  owners-are : (play_of c).owners ≡ owners_in c
  owners-are = ap (λ (y : Outcome). y.owners) (accepted-is c e)

  module _ (f : Words c.derived.sets) where
    -- whatever it has to play, with room for it, is accepted
    next-accepted : (w : Part) → w.count ≤ 1024 → w.count ≤ length w.draws → w.count ≤ length w.firsts
        → w.count ≤ length w.seconds → w.count ≤ length w.answers → no_of (part_call c (play_of c).owners (play_of c).derived w) ≡ 0
    next-accepted w few ks fs ss x =
        let F = accepted-says (second_call built c c.count 0)
        (accepted-number (second_call built c c.count 0) (two-calls c c.count 0 (omega arith) e f).second) in
        says-accepted (part_call c (play_of c).owners (play_of c).derived w) record {
          counts = F.counts;
          few = le-leb w.count 1024 few;
          room = F.room;
          starts = F.starts;
          flags = F.flags;
          draws = ks;
          firsts = fs;
          seconds = ss;
          answers = x;
          slots = F.slots;
          units = F.units;
          recount = F.recount;
        }

    -- what is worked out afresh from the first owners is what was there, wherever the rota has been since
    derived-back : (o : List ℕ) → afresh c.plan c.owners (afresh c.plan o c.derived) ≡ c.derived
    derived-back o =
        let A = asks c e in
        let g = A.right.on in
        afresh-again c.plan o c.owners c.derived g.sound.slots-few g.room.sets-room f
        ∙ sym (afresh-same c.plan c.owners c.derived g.sound.slots-few f
        (recount-step c.plan c.avail c.units c.begins c.owners c.derived g.room A.recount))

    -- draws that act throughout and bring the owners back bring the rota back
    brings : (o : List ℕ) (E : Derived) → E ≡ afresh c.plan o c.derived → (ds : List Draw) (w : Part) → Holds w ds
        → no_of (part_call c o E w) ≡ 0
        → (owners_after (board_in c) o ds ≡ c.owners) × (answers (board_in c) o ds ≡ replicate (length ds) 0)
        → BringsBack built c c.owners c.derived o E w
    unfolding onto
    brings o E q ds w H a r =
        let v = part_call c o E w in
        let B = board_in c in
        let y = accepted-is v a in
        let own : owners_after B o (draws_in v) ≡ c.owners = ap (owners_after B o) H.these ∙ r.0 in
        let n : length ds ≡ w.count = ap length (sym H.these) ∙ draws-length w.draws w.firsts w.seconds w.count in
        let said : answers B o (draws_in v) ≡ replicate w.count 0 =
        ap (answers B o) H.these ∙ r.1 ∙ ap (λ (k : ℕ). replicate k 0) n in
        record {
          accepted = ap (λ (z : Outcome). z.refusal.number) y;
          act = λ i h.
              ap (λ (z : Outcome). get_or z.answers i 0) y
              ∙ ap (λ (l : List ℕ). get_or (l ++ drop (length l) w.answers) i 0) said
              ∙ get_or-append (replicate w.count 0) _ 0 i (omega (arith, length-replicate {A = ℕ} w.count 0))
              ∙ get_or-replicate w.count i 0 0 h;
          owners = ap (λ (z : Outcome). z.owners) y ∙ own;
          derived =
              ap (λ (z : Outcome). z.derived) y
              ∙ ap (λ (l : List ℕ). afresh c.plan l E) own
              ∙ ap (afresh c.plan c.owners) q ∙ derived-back o;
        }

-- ---- 1: a swap of units

module _ (c : Call) (e : no_of c ≡ 0) (f : Words c.derived.sets) (one : c.count ≡ 1) (low : 35 ≤ (draw_at c 0).kind)
    (high : (draw_at c 0).kind < 60) (z : get_or (play_of c).answers 0 0 ≡ 0) where
  abbrev B : Board
  B = board_in c

  abbrev o : List ℕ
  o = c.owners

  abbrev d : Draw
  d = draw_at c 0

  draw-is : draws_in c ≡ d ∷ []
  unfolding draws_of
  draw-is = ap (draws_of c.draws c.firsts c.seconds) one

  said : (l : List ℕ) → answers B l (draws_in c) ≡ answer B l d ∷ []
  unfolding answers
  said l = ap (answers B l) draw-is

  acts-first : answer B o d ≡ 0
  unfolding onto
  acts-first =
      sym (ap (λ (y : Outcome). get_or y.answers 0 0) (accepted-is c e)
      ∙ ap (λ (l : List ℕ). get_or (l ++ drop (length l) c.answers) 0 0) (said o)) ∙ z

  there : owners_in c ≡ step B o d
  unfolding owners_after
  there = ap (owners_after B o) draw-is

  swapped-back : (answer B (step B o d) d ≡ 0) × (step B (step B o d) d ≡ o)
  swapped-back = swap-again B (sound c e) o (even c e) d low high acts-first

  -- the answers' list after the first call is one 0 on what was lent
  answers-are : (play_of c).answers ≡ 0 ∷ drop 1 c.answers
  unfolding onto
  answers-are =
      ap (λ (y : Outcome). y.answers) (accepted-is c e)
      ∙ ap (λ (l : List ℕ). l ++ drop (length l) c.answers) (said o ∙ ap (λ (n : ℕ). n ∷ []) acts-first)

  abbrev same : Part
  same = record { count = c.count; draws = c.draws; firsts = c.firsts; seconds = c.seconds; answers = (play_of c).answers }

  holds : Holds same (d ∷ [])
  holds =
      let A = accepted-says c e in
      record {
        these = draw-is;
        draws = A.draws;
        firsts = A.firsts;
        seconds = A.seconds;
        answers = omega (arith, one, ap length answers-are);
      }

  taken : no_of (again built c) ≡ 0
  taken =
      next-accepted c e f same (omega (arith, one)) holds.draws holds.firsts holds.seconds holds.answers

  back-again : (owners_after B (play_of c).owners (d ∷ []) ≡ o) × (answers B (play_of c).owners (d ∷ []) ≡ 0 ∷ [])
  unfolding owners_after answers
  back-again =
      let q = owners-are c e ∙ there in (
        ap (λ (l : List ℕ). step B l d) q ∙ swapped-back.1,
        ap (λ (l : List ℕ). answer B l d ∷ []) q ∙ ap (λ (n : ℕ). n ∷ []) swapped-back.0,
      )

  comes_back : ComesBack built c
  unfolding onto
  comes_back =
      let r = brings c e f (play_of c).owners (play_of c).derived
      (ap (λ (y : Outcome). y.derived) (accepted-is c e) ∙ ap (λ (l : List ℕ). afresh c.plan l c.derived) (sym (owners-are c e)))
      (d ∷ []) same holds taken back-again in
      record {
        accepted = r.accepted;
        acts = r.act 0 (omega (arith, one));
        owners = r.owners;
        derived = r.derived;
        answers =
            ap (λ (y : Outcome). y.answers) (accepted-is (again built c) taken)
            ∙ ap (λ (l : List ℕ). l ++ drop (length l) (play_of c).answers) (ap (answers B (play_of c).owners) draw-is ∙ back-again.1)
            ∙ ap (λ (l : List ℕ). 0 ∷ drop 1 l) answers-are ∙ sym answers-are;
      }

pub swaps-come-back : SwapsComeBack built
swaps-come-back c e f one low high z = comes_back c e f one low high z

pub swaps-undone : SwapsUndone
unfolding draws_of owners_after
swaps-undone c e i low high same A =
    let B = board_in c in
    let d = draw_at c i in
    let o = found_at c i in
    let more : (j : ℕ) → found_at c (suc j) ≡ step B (found_at c j) (draw_at c j) =
    λ j. owners-append B c.owners (draws_of c.draws c.firsts c.seconds j) (draw_at c j ∷ []) in
    let r = swap-again B (sound c e) o
    (play-even B (sound c e) c.owners (draws_of c.draws c.firsts c.seconds i) (even c e)) d low high
    ((draw-acts-exactly B o d).acts.1 A) in (
      (draw-acts-exactly B (found_at c (suc i)) (draw_at c (suc i))).acts.0
          (ap (λ (l : List ℕ). answer B l (draw_at c (suc i))) (more i) ∙ ap (answer B (step B o d)) same ∙ r.0),
      more (suc i) ∙ ap (λ (l : List ℕ). step B l (draw_at c (suc i))) (more i) ∙ ap (step B (step B o d)) same ∙ r.1,
    )

-- ---- 2: reassigns

pub back-listed : BackListed
back-listed B a o = record {
  one_each = back-takes B a o;
  draw-0 = λ i h. ap (λ (d : Draw). d.kind) (back_at B a o i h);
  ascending = back-rises B a o;
  in-domain = λ i h p t.
      let u = (wayback.draw_at (back B a o) i).first in
      let r = place_is B u (owner_of B a u) p t in
      let s = (back-takes B a o).to i h in
      (subst (λ (k : ℕ). k < length (domain_of B u)) (sym s) r.0, ap (λ (k : ℕ). get_or (domain_of B u) k 0) s ∙ r.1);
}

pub as-many-as-differ : AsManyAsDiffer
as-many-as-differ = takes-exactly

-- the last of several calls is one that others may follow
last-accepted : (c : Call) (o : List ℕ) (D : Derived) (p : Part) (ps : List Part) → Words D.sets → AllAccepted built c o D (p ∷ ps)
    → (w : Part) → w.count ≤ 1024 → w.count ≤ length w.draws → w.count ≤ length w.firsts
    → w.count ≤ length w.seconds → w.count ≤ length w.answers
    → no_of (part_call c (last_owners built c o D (p ∷ ps)) (last_derived built c o D (p ∷ ps)) w) ≡ 0
unfolding AllAccepted last_owners last_derived
last-accepted c o D p [] f A w few ks fs ss x =
    let k = part_call c o D p in next-accepted k (accepted-number k A.0) f w few ks fs ss x
last-accepted c o D p (q ∷ ps) f A w few ks fs ss x =
    let k = part_call c o D p in
    let e = accepted-number k A.0 in
    let y = play_of k in
    let fit : Words y.derived.sets = subst (λ (d : Derived). Words d.sets)
    (sym (ap (λ (z : Outcome). z.derived) (accepted-is k e))) (afresh-fit c.plan (owners_in k) D f) in
    last-accepted c y.owners y.derived q ps fit A.1 w few ks fs ss x

pub way-back-in-any-order : WayBackInAnyOrder built
unfolding AllAccepted
way-back-in-any-order c a D p ps f A owned ds K w H =
    let k = part_call c a D p in
    let e = accepted-number k A.0 in
    let B = board_in c in
    let all = draws_of_parts (p ∷ ps) in
    let r = parts-end-as-one c a D p ps f A in
    let o = last_owners built c a D (p ∷ ps) in
    let R : CanReturn B a o = subst (CanReturn B a) (sym r.owners)
    (after-returns B (sound k e) a all (even k e) (subst (OwnedBefore B a) r.owners owned)) in
    let n : length ds ≡ w.count = ap length (sym H.these) ∙ draws-length w.draws w.firsts w.seconds w.count in
    let b = brings k e f o (last_derived built c a D (p ∷ ps)) r.derived ds w H
    (last-accepted c a D p ps f A w (omega (arith, takes-few B a o ds K, n, units-few k e)) H.draws H.firsts H.seconds H.answers)
    (returns B (sound k e) a o ds R K) in
    record { accepted = b.accepted; act = b.act; owners = b.owners; derived = b.derived }

pub way_back : WayBack built
unfolding AllAccepted last_owners last_derived
way_back c e f owned w H =
    let p : Part = record { count = c.count; draws = c.draws; firsts = c.firsts; seconds = c.seconds; answers = c.answers } in
    way-back-in-any-order c c.owners c.derived p [] f (ap (λ (y : Outcome). y.refusal.number) (accepted-is c e), tt) owned
    (back (board_in c) c.owners (play_of c).owners) (back-takes (board_in c) c.owners (play_of c).owners) w H

-- ---- the condition

pub never-unowned : NeverUnowned built
never-unowned c e k h none owned w n q =
    let v = part_call c (play_of c).owners (play_of c).derived w in
    covered-stay v (accepted-number v n) k h owned (ap (λ (l : List ℕ). get_or l k 0) q ∙ none)

-- ---- the two witnesses, computed

three-passes : Accepted three_units
unfolding counts_ok people_ok slot_count_ok slots_ok slot_room_ok slot_ok_at slot_ok prev_end all units_ok start_ok room_ok
    recounts all_in known_at known_by available_at available_for available even_at unit_end set_at set_slot_at held minutes_ok_at total_ok_at
    total_of uncovered unassigned count worked
    portion sum minutes_at slot bit_of
three-passes = record {
  counts = refl;
  few = refl;
  room = refl;
  starts = refl;
  flags = refl;
  draws = omega arith;
  firsts = omega arith;
  seconds = omega arith;
  answers = omega arith;
  slots = refl;
  units = refl;
  recount = refl;
}

three-accepted : no_of three_units ≡ 0
three-accepted = says-accepted three_units three-passes

abbrev three : Board
three = board_in three_units

-- the swap of runs on 0 1 0, and on what it leaves
three-first : (owners_after three (0 ∷ 1 ∷ 0 ∷ []) (draws_in three_units) ≡ 1 ∷ 0 ∷ 0 ∷ [])
    × (answers three (0 ∷ 1 ∷ 0 ∷ []) (draws_in three_units) ≡ 0 ∷ [])
unfolding draws_of owners_after answers answer step decided any_of runs_swapped run_first run_last run_start run_end run_to movable covers
    unowned owner_of
    frozen_unit unit_frozen clear unfrozen all_in all slot bit_of unit_end fits_unit able available fill
three-first = (refl, refl)

three-second : (owners_after three (1 ∷ 0 ∷ 0 ∷ []) (draws_in three_units) ≡ 0 ∷ 1 ∷ 1 ∷ [])
    × (answers three (1 ∷ 0 ∷ 0 ∷ []) (draws_in three_units) ≡ 0 ∷ [])
unfolding draws_of owners_after answers answer step decided any_of runs_swapped run_first run_last run_start run_end run_to movable covers
    unowned owner_of
    frozen_unit unit_frozen clear unfrozen all_in all slot bit_of unit_end fits_unit able available fill
three-second = (refl, refl)

-- its words are numbers of 64 bits
below : (l : List ℕ) → all (length l) (λ j. ltb (get_or l j 0) (2 ^ 64)) ≡ true → Words l
below l e j =
    ⊎_elim (λ (h : j < length l). ltb-true _ _ (all-each (length l) (λ i. ltb (get_or l i 0) (2 ^ 64)) e j h))
    (λ (h : length l ≤ j). subst (λ (w : ℕ). w < 2 ^ 64) (sym (get_or-eq_default l 0 h)) (omega arith)) (lt-or-ge j (length l))

three-words : Words three_units.derived.sets
unfolding all
three-words = below three_units.derived.sets refl

pub runs-dont : RunsDont built
unfolding onto
runs-dont =
    let c = three_units in
    let y = accepted-is c three-accepted in
    let own : (play_of c).owners ≡ 1 ∷ 0 ∷ 0 ∷ [] = owners-are c three-accepted ∙ three-first.0 in
    let said : (play_of c).answers ≡ 0 ∷ [] =
    ap (λ (z : Outcome). z.answers) y ∙ ap (λ (l : List ℕ). l ++ drop (length l) (9 ∷ [])) three-first.1 in
    let part : Part = record { count = 1; draws = c.draws; firsts = c.firsts; seconds = c.seconds; answers = (play_of c).answers } in
    let e = next-accepted c three-accepted three-words part (omega arith) (omega arith) (omega arith) (omega arith) (omega (
      arith,
      ap
          length said,
    )) in
    let z = accepted-is (again built c) e in
    record {
      accepted = (three-accepted, ap (λ (t : Outcome). t.refusal.number) z);
      acts = (
        said,
        ap (λ (t : Outcome). t.answers) z
            ∙ ap (λ (l : List ℕ). l ++ drop (length l) (play_of c).answers)
            (ap (λ (l : List ℕ). answers three l (draws_in c)) own ∙ three-second.1)
            ∙ ap (λ (l : List ℕ). 0 ∷ drop 1 l) said,
      );
      first = own;
      second =
          ap (λ (t : Outcome). t.owners) z ∙ ap (λ (l : List ℕ). owners_after three l (draws_in c)) own ∙ three-second.0;
    }

two-accepted : no_of swap_two ≡ 0
two-accepted =
    accepted apart 0 1 (35 ∷ []) (0 ∷ []) (1 ∷ []) (record { owners = []; sets = []; minutes = []; totals = []; answers = 9 ∷ [] })
    refl refl refl refl
    (omega arith) (apart-recounts 0 1 (35 ∷ []) (0 ∷ []) (1 ∷ []) (record {
      owners = [];
      sets = [];
      minutes = [];
      totals = [];
      answers = 9 ∷ [];
    }))

two-words : Words swap_two.derived.sets
unfolding all
two-words = below swap_two.derived.sets refl

pub one-only-breaks : OneOnlyBreaks
one-only-breaks C promise W =
    let back = promise swap_two two-accepted two-words refl (omega arith) (omega arith) W.acts in
    omega (arith, sym W.no_move ∙ back.acts)

half-accepted : no_of half_owned ≡ 0
unfolding recounts all all_in known_at known_by available_at available_for available even_at unit_end set_at set_slot_at held minutes_ok_at
    total_ok_at total_of uncovered unassigned count worked
    portion sum minutes_at slot bit_of
half-accepted =
    accepted (record {
      first = 255;
      second = 1;
      words0 = 0;
      words1 = 2;
      minutes0 = 0;
      minutes1 = 60;
      uncovered = 60;
      unassigned = 1;
    }) 0 1 (0 ∷ []) (0 ∷ []) (0 ∷ [])
    (record { owners = []; sets = []; minutes = []; totals = []; answers = 9 ∷ [] }) refl refl refl refl (omega arith) refl

half-plays : owners_in half_owned ≡ 0 ∷ 1 ∷ []
unfolding draws_of owners_after step decided any_of reassigned picked domain_of among unowned owner_of
    frozen_unit unit_frozen clear unfrozen all_in all slot bit_of unit_end fits_unit able available fill
half-plays = refl

pub condition-needed : ConditionNeeded built
condition-needed =
    let own : (play_of half_owned).owners ≡ 0 ∷ 1 ∷ [] = owners-are half_owned half-accepted ∙ half-plays in
    let first : get_or (play_of half_owned).owners 0 0 ≡ 0 = ap (λ (l : List ℕ). get_or l 0 0) own in
    record {
      accepted = half-accepted;
      owned = own;
      no_way = never-unowned half_owned half-accepted 0 (omega arith) refl (λ q. omega (arith, first));
    }
