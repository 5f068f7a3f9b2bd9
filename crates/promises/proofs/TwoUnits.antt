-- The rota of two slots, two units and two people who are available for both: it is accepted, and what a swap does to it.
-- Assumes nothing.
use mathlib.Core.Path.{◌≡◌, refl}
use mathlib.Core.Bool.{true}
use mathlib.Core.List.{List, [], ◌∷◌}
use Prim.Native.Nat.{ℕ, ◌≤◌}
use native.Mathlib.Omega.{arith}
use borrow.Author.Tests.{le-leb, leb-true}
use lib.Dec.{leb}
use lib.ListN.{length, drop}
use Rattle.paper.specs.Rows.{accepted as no-refusal}
use Rattle.paper.specs.Limits.{people_ok, slot_count_ok, counts_ok}
use Rattle.paper.specs.Bits.{bit_of}
use Rattle.paper.specs.Count.{all, all_in, sum, count, over, onto}
use Rattle.paper.proofs.Logic.{and-true}
use Rattle.slotset.specs.Slots.{slot, with_bit, put_slot, put_slots}
use Rattle.slots.specs.Lent.{slot_ok, prev_end, slot_ok_at, slot_room_ok, slots_ok, minutes_at}
use Rattle.units.specs.Units.{unit_end, start_ok, units_ok}
use Rattle.units.specs.Domains.{available, able, unfrozen, clear, unit_frozen}
use Rattle.rota.specs.Board.{owner_of, unowned}
use Rattle.rota.specs.Lent.{fits_unit, frozen_unit}
use Rattle.rota.specs.Moves.{any_of, decided, swapped}
use Rattle.rota.specs.Plays.{step, owners_after, answer, answers, draws_of}
use Rattle.owners.specs.Derived.{known_by, portion, worked, uncovered, unassigned, total_of, held, sets_from, afresh}
use Rattle.owners.specs.Recount.{known_at, available_for, available_at, even_at, set_slot_at, set_at, minutes_ok_at, total_ok_at, recounts}
use Rattle.promises.specs.Entries.{Call, no_of, play_of}
use Rattle.promises.specs.Marked.{Owned, apart, Spare, two_units}
use Rattle.promises.proofs.Calls.{room_ok, Accepted, says-accepted, accepted-is}

-- with as many draws as there are numbers for, and room for the answers, it is accepted
module _ (r : Owned) (frozen count : ℕ) (draws firsts seconds : List ℕ) (more : Spare) (few : leb count 1024 ≡ true)
    (k : leb count (length draws) ≡ true)
    (f : leb count (length firsts) ≡ true) (s : leb count (length seconds) ≡ true) (room : count ≤ length more.answers) where
  abbrev call : Call
  call = two_units r frozen count draws firsts seconds more

  rota-room : room_ok call.plan call.avail call.owners call.derived ≡ true
  unfolding room_ok slot_room_ok
  rota-room =
      let a : 2 ≤ length call.owners = omega arith in
      let b : 32 ≤ length call.derived.sets = omega arith in
      let d : 2 ≤ length call.derived.minutes = omega arith in
      let t : 2 ≤ length call.derived.totals = omega arith in
      and-true _ _ (le-leb 2 (length call.owners) a) (and-true _ _ (le-leb 32 (length call.derived.sets) b)
      (and-true _ _ (le-leb 2 (length call.derived.minutes) d) (le-leb 2 (length call.derived.totals) t)))

  passes : recounts call.plan call.avail 2 call.begins call.owners call.derived ≡ true → Accepted call
  unfolding counts_ok people_ok slot_count_ok slots_ok slot_room_ok slot_ok_at slot_ok prev_end all units_ok start_ok
  passes recount = record {
    counts = refl;
    few = few;
    room = rota-room;
    starts = refl;
    flags = refl;
    draws = leb-true count (length draws) k;
    firsts = leb-true count (length firsts) f;
    seconds = leb-true count (length seconds) s;
    answers = room;
    slots = refl;
    units = refl;
    recount = recount;
  }

  pub accepted : recounts call.plan call.avail 2 call.begins call.owners call.derived ≡ true → no_of call ≡ 0
  accepted recount = says-accepted call (passes recount)

-- owners 0 and 1 pass the recount
pub apart-recounts : (frozen count : ℕ) (draws firsts seconds : List ℕ) (more : Spare)
    → let c = two_units apart frozen count draws firsts seconds more in
    recounts c.plan c.avail 2 c.begins c.owners c.derived ≡ true
unfolding recounts all all_in known_at known_by available_at available_for available even_at unit_end set_at set_slot_at held minutes_ok_at worked
    portion sum minutes_at slot bit_of total_ok_at total_of uncovered unassigned count
apart-recounts frozen count draws firsts seconds more = refl

-- unit 1 frozen, the swap of both units: 1, and nothing changes
pub case-12 : (more : Spare) → 1 ≤ length more.answers
    → let c = two_units apart 2 1 (35 ∷ []) (0 ∷ []) (1 ∷ []) more in
    play_of c ≡ record { refusal = no-refusal; owners = c.owners; derived = c.derived; answers = 1 ∷ drop 1 more.answers }
unfolding draws_of owners_after answers answer step onto decided any_of swapped unowned owner_of frozen_unit unit_frozen clear unfrozen all_in
    all slot bit_of unit_end fits_unit able available afresh sets_from put_slots put_slot with_bit held over worked portion sum minutes_at
    total_of uncovered
    unassigned count
case-12 more room =
    accepted-is (two_units apart 2 1 (35 ∷ []) (0 ∷ []) (1 ∷ []) more) (accepted apart 2 1 (35 ∷ []) (0 ∷ []) (1 ∷ []) more
    refl refl refl refl room (apart-recounts 2 1 (35 ∷ []) (0 ∷ []) (1 ∷ []) more))
