-- Slots, units, availability and flags once they have moved: what was written by value is what is new. Assumes nothing.
use mathlib.Core.Path.{◌≡◌, refl, sym, ap, ap₂, ◌∙◌}
use mathlib.Core.Bool.{Bool, true, cond}
use mathlib.Core.List.{List}
use Prim.Native.Nat.{ℕ, zero, suc, ◌+◌, ◌-◌, ◌*◌, ◌≤◌, ◌<◌}
use native.Mathlib.Omega.{arith}
use borrow.Author.Tests.{lt-ltb}
use lib.Dec.{ltb}
use lib.ListN.{length, get_or}
use Rattle.paper.specs.Count.{over, onto}
use Rattle.paper.proofs.Count.{over-same, among_same, among-each, among-le, length-onto}
use Rattle.slotset.specs.Slots.{slot, put_slots}
use Rattle.slotset.proofs.Puts.{puts-same}
use Rattle.slots.specs.Lent.{slots_ok}
use Rattle.slots.specs.Ranges.{Ranges, available}
use Rattle.slots.specs.Atomic.{is_cut, atom_starts, atom_ends}
use Rattle.slots.specs.Availability.{rows, available_bit}
use Rattle.slots.proofs.SplitLaws.{atoms-even}
use Rattle.slots.proofs.Meaning.{onto-at, atoms-lent}
use Rattle.units.specs.declared.Settings.{Settings}
use Rattle.units.specs.Units.{unit_start, units_ok}
use Rattle.units.specs.Starts.{start_date, day_begins, rotation_begins, unit_begins, unit_starts}
use Rattle.units.specs.Dates.{date_of}
use Rattle.units.proofs.Units.{starts-below, starts-rise, units-within}
use Rattle.retire.specs.Rolled.{entry, rolled, rolled_column, begin_then}
use Rattle.retire.specs.Going.{start_from, gone_slots}
use Rattle.retire.specs.New.{New, new_starts, new_ends, new_count, new_bit, new_units}
use Rattle.retire.specs.Outcome.{Held, units_gone, slots_gone, slots_kept, units_kept, slots_then}
use Rattle.retire.specs.Outcome.{avail_then, begins_then, frozen_after}
use Rattle.retire.specs.Inside.{NewRight, Written, WordsAre, PlanRight, PlanMoved}
use Rattle.retire.proofs.Bits.{rolled-same}

-- ---- columns that agree on the slots

-- a column rolled with new entries that agree
pub rolled-column-same : (gone kept count n : ℕ) (new new' : ℕ → ℕ) (l : List ℕ) → count ≡ kept + n → ((k : ℕ) → k < n → new k ≡ new' k)
    → rolled_column gone kept count new l ≡ rolled_column gone kept count new' l
unfolding rolled_column
rolled-column-same gone kept count n new new' l e h =
    over-same _ _ count l (λ k b. rolled-same gone kept _ _ new new' k (λ _. refl) (λ g. h (k - kept) (omega arith)))

-- units of slots that start at the same minutes
date-same : (s s' : List ℕ) (k : ℕ) → get_or s k 0 ≡ get_or s' k 0 → start_date s k ≡ start_date s' k
date-same s s' k e = ap date_of e

day-same : (mask : ℕ) (s s' : List ℕ) (k : ℕ) → ((j : ℕ) → j ≤ k → get_or s j 0 ≡ get_or s' j 0) → day_begins mask s k ≡ day_begins mask s' k
unfolding day_begins
day-same mask s s' zero h = refl
day-same mask s s' (suc k) h =
    ap₂ (λ (x y : ℕ). mathlib.Core.Bool.◌&&◌ (mathlib.Core.Bool.not (lib.Dec.eqb x y)) (Rattle.units.specs.Dates.listed mask x))
    (date-same s s' (suc k) (h (suc k) (omega arith))) (date-same s s' k (h k (omega arith)))

pub units-same : (s : Settings) (n : ℕ) (l l' : List ℕ) → ((k : ℕ) → k < n → get_or l k 0 ≡ get_or l' k 0) → unit_starts s n l ≡ unit_starts s n l'
unfolding unit_starts unit_begins rotation_begins
units-same s n l l' h =
    among_same _ _ n (λ k b.
    ap (λ (x : Bool). mathlib.Core.Bool.◌||◌ (lib.Dec.eqb s.lock 0) (cond (lib.Dec.eqb s.boundary 0) (Rattle.units.specs.Starts.every_begins s.value k) x))
    (day-same s.value l l' k (λ j g. h j (omega arith))))

-- availability of slots with the same minutes
pub bit-same : (R : Ranges) (s e s' e' : List ℕ) (p k : ℕ) → get_or s k 0 ≡ get_or s' k 0 → get_or e k 0 ≡ get_or e' k 0
    → available_bit R s e p k ≡ available_bit R s' e' p k
unfolding available_bit
bit-same R s e s' e' p k a b = ap₂ (λ (x y : ℕ). Rattle.slotset.specs.Slots.value_of (available R p x y)) a b

-- everybody's rows with the same slots
pub rows_alike : (g h : ℕ → ℕ → ℕ) (slots p : ℕ) (ws : List ℕ) → ((q k : ℕ) → q < p → k < slots → g q k ≡ h q k)
    → rows g slots p ws ≡ rows h slots p ws
unfolding rows
rows_alike g h slots zero ws e = refl
rows_alike g h slots (suc p) ws e =
    puts-same (g p) (h p) (16 * p) 0 slots (rows g slots p ws) (λ k a b. e p k (omega arith) (omega arith))
    ∙ ap (put_slots (h p) (16 * p) 0 slots) (rows_alike g h slots p ws (λ q k a b. e q k (omega arith) b))

-- a column that was written keeps its length
pub written-long : (l column : List ℕ) (n : ℕ) → Written l column n → length column ≡ 1024
written-long l column n W =
    ap length W.entries ∙ length-onto l W.before (omega (arith, W.few, W.long)) ∙ W.long

-- ---- the counts

module _ (H : Held) (N : New) (P : PlanRight H N) where
  pub gone-start : slots_gone H ≡ unit_start H.lent.begins (units_gone H)
  unfolding gone_slots start_from
  gone-start = ap (λ (b : Bool). cond b (unit_start H.lent.begins (units_gone H)) H.slots) (lt-ltb (units_gone H) H.units P.rest)

  pub gone-below : slots_gone H < H.slots
  gone-below = omega (arith, gone-start, starts-below H.slots H.units H.lent.begins P.units-ok (units_gone H) P.rest)

  pub gone-kept : slots_gone H + slots_kept H ≡ H.slots
  gone-kept = omega (arith, gone-below)

  pub new-few : new_count H.people N ≤ 1024
  new-few = omega (arith, P.fits)

  pub starts-short : length (atom_starts (is_cut H.people N.ranges) N.count N.starts N.ends) ≤ 1024
  unfolding new_starts
  starts-short = new-few

  -- ---- what is new, as it was written

  module _ (S E : List ℕ) (n : ℕ) (WS : Written (atom_starts (is_cut H.people N.ranges) N.count N.starts N.ends) S n)
      (WE : Written (atom_ends (is_cut H.people N.ranges) N.count N.starts N.ends) E n) where
    pub count-is : n ≡ new_count H.people N
    unfolding new_starts
    count-is = WS.number

    ends-few : length (new_ends H.people N) ≡ new_count H.people N
    unfolding new_starts new_ends
    ends-few = sym (atoms-even (is_cut H.people N.ranges) N.count N.starts N.ends)

    pub starts-at : (k : ℕ) → k < n → get_or S k 0 ≡ entry (new_starts H.people N) k
    unfolding new_starts
    starts-at k h = ap (λ (l : List ℕ). get_or l k 0) WS.entries ∙ onto-at _ WS.before k (omega (arith, count-is))

    pub ends_at : (k : ℕ) → k < n → get_or E k 0 ≡ entry (new_ends H.people N) k
    unfolding new_starts new_ends
    ends_at k h =
        ap (λ (l : List ℕ). get_or l k 0) WE.entries
        ∙ onto-at _ WE.before k (omega (arith, count-is, ends-few))

    pub slots-right : slots_ok n S E ≡ true
    unfolding new_starts new_ends
    slots-right =
        let A = atom_starts (is_cut H.people N.ranges) N.count N.starts N.ends in
        let B = atom_ends (is_cut H.people N.ranges) N.count N.starts N.ends in
        let es : S ≡ onto A WS.before = WS.entries in
        let ee : E ≡ onto B WE.before = WE.entries in
        let en : n ≡ length A = count-is in
        ap (λ (x : ℕ). slots_ok x S E) en ∙ ap₂ (λ (x y : List ℕ). slots_ok (length A) x y) es ee
        ∙ atoms-lent (is_cut H.people N.ranges) N.count N.starts N.ends WS.before WE.before P.right.base_ok
        (omega (arith, WS.long, new-few)) (omega (arith, WE.long, new-few))

    pub right-then : NewRight H.people n S E N.ranges
    right-then = record {
      people-ok = P.right.people-ok;
      base-few = omega (arith, count-is, new-few);
      ranges-few = P.right.ranges-few;
      base_ok = slots-right;
      ranges-ok = P.right.ranges-ok;
    }

    count-then : slots_kept H + n ≡ slots_then H N
    count-then = ap (λ (x : ℕ). slots_kept H + x) count-is

    -- ---- the columns

    module _ (went gone kept : ℕ) (ew : went ≡ units_gone H) (eg : gone ≡ start_from H.slots H.units H.lent.begins went)
        (ek : kept ≡ H.slots - gone) where
      pub gone-is : gone ≡ slots_gone H
      unfolding gone_slots
      gone-is = eg ∙ ap (start_from H.slots H.units H.lent.begins) ew

      pub kept-is : kept ≡ slots_kept H
      kept-is = ek ∙ ap (λ (x : ℕ). H.slots - x) gone-is

      pub total-is : kept + n ≡ slots_then H N
      total-is = ap₂ ◌+◌ kept-is count-is

      pub minutes-then : (l F new : List ℕ) → ((k : ℕ) → k < n → get_or F k 0 ≡ entry new k) → (m : List ℕ)
          → m ≡ rolled_column gone kept (kept + n) (entry F) l → m ≡ rolled_column (slots_gone H) (slots_kept H) (slots_then H N) (entry new) l
      minutes-then l F new h m e =
          e ∙ rolled-column-same gone kept (kept + n) n (entry F) (entry new) l refl h
          ∙ ap₂ (λ (x y : ℕ). rolled_column x y (kept + n) (entry new) l) gone-is kept-is
          ∙ ap (λ (x : ℕ). rolled_column (slots_gone H) (slots_kept H) x (entry new) l) total-is

      pub frozen_then : (m : List ℕ) → m ≡ put_slots (rolled gone kept (slot H.lent.frozen 0) (λ _. 0)) 0 0 (kept + n) H.lent.frozen
          → m ≡ frozen_after H N
      frozen_then m e =
          e ∙ ap₂ (λ (x y : ℕ). put_slots (rolled x y (slot H.lent.frozen 0) (λ _. 0)) 0 0 (kept + n) H.lent.frozen) gone-is kept-is
          ∙ ap (λ (x : ℕ). put_slots (rolled (slots_gone H) (slots_kept H) (slot H.lent.frozen 0) (λ _. 0)) 0 0 x H.lent.frozen) total-is

      pub avail-then : (ws m : List ℕ) → WordsAre H.people n N.ranges S E ws
          → m ≡ rows (λ p. rolled gone kept (slot H.lent.avail (16 * p)) (slot ws (16 * p))) (kept + n) H.people H.lent.avail
          → m ≡ avail_then H N
      unfolding new_bit
      avail-then ws m W e =
          e ∙ rows_alike _ (λ p. rolled gone kept (slot H.lent.avail (16 * p)) (new_bit H.people N p)) (kept + n) H.people H.lent.avail
          (λ p k a b. rolled-same gone kept _ _ _ _ k (λ _. refl) (λ g.
          let l : k - kept < n = omega arith in
          W p (k - kept) a l ∙ bit-same N.ranges S E _ _ p (k - kept) (starts-at (k - kept) l) (ends_at (k - kept) l)))
          ∙ ap₂ (λ (x y : ℕ). rows (λ p. rolled x y (slot H.lent.avail (16 * p)) (new_bit H.people N p)) (kept + n) H.people H.lent.avail)
          gone-is kept-is
          ∙ ap (λ (x : ℕ). rows (λ p. rolled (slots_gone H) (slots_kept H) (slot H.lent.avail (16 * p)) (new_bit H.people N p)) x H.people H.lent.avail) total-is

      -- units

      module _ (U : List ℕ) (m : ℕ) (WU : Written (unit_starts N.settings n S) U m) where
        units-new : unit_starts N.settings n S ≡ new_units H.people N
        unfolding new_units
        units-new =
            units-same N.settings n S (new_starts H.people N) starts-at
            ∙ ap (λ (x : ℕ). unit_starts N.settings x (new_starts H.people N)) count-is

        pub new-units-few : length (new_units H.people N) ≤ new_count H.people N
        unfolding new_units unit_starts
        new-units-few = among-le _ (new_count H.people N)

        written-few : length (unit_starts N.settings n S) ≤ 1024
        written-few = omega (arith, ap length units-new, new-units-few, new-few)

        pub unit-count-is : m ≡ length (new_units H.people N)
        unit-count-is = WU.number ∙ ap length units-new

        pub unit-at : (u : ℕ) → u < m → get_or U u 0 ≡ entry (new_units H.people N) u
        unit-at u h =
            ap (λ (l : List ℕ). get_or l u 0) WU.entries
            ∙ onto-at _ WU.before u (omega (arith, WU.number)) ∙ ap (λ (l : List ℕ). get_or l u 0) units-new

        pub unit-long : length U ≡ 1024
        unit-long = written-long _ U m WU

        -- a new unit starts at a new slot
        pub unit-low : (u : ℕ) → u < length (new_units H.people N) → entry (new_units H.people N) u < new_count H.people N
        unfolding new_units unit_starts
        unit-low u h = (among-each _ (new_count H.people N) u h).0

        pub begins-then : (l : List ℕ)
            → l ≡ over (begin_then went (H.units - went) gone kept H.lent.begins U) (H.units - went + m) H.lent.begins → l ≡ begins_then H N
        unfolding begin_then
        begins-then l e =
            let lefts : H.units - went ≡ units_kept H = ap (λ (x : ℕ). H.units - x) ew in
            e ∙ over-same _ (begin_then went (H.units - went) gone kept H.lent.begins (new_units H.people N)) (H.units - went + m) H.lent.begins
            (λ k b. rolled-same went (H.units - went) _ _ _ _ k (λ _. refl) (λ g. ap (λ (x : ℕ). kept + x) (unit-at (k - (H.units - went)) (omega arith))))
            ∙ ap₂ (λ (x y : ℕ). over (begin_then x (H.units - x) y kept H.lent.begins (new_units H.people N)) (H.units - x + m) H.lent.begins) ew gone-is
            ∙ ap₂ (λ (x y : ℕ). over (begin_then (units_gone H) (units_kept H) (slots_gone H) x H.lent.begins (new_units H.people N)) (units_kept H + y) H.lent.begins) kept-is unit-count-is

-- ---- the rooms that the code's calls ask for

-- a unit further on starts that many slots further on, at least
starts-least : (slots units : ℕ) (begins : List ℕ) → units_ok slots units begins ≡ true → (a j : ℕ) → a + j < units
    → unit_start begins a + j ≤ unit_start begins (a + j)
starts-least slots units begins ok a zero h = let e : a + zero ≡ a = omega arith in omega (arith, ap (unit_start begins) e)
starts-least slots units begins ok a (suc j) h =
    let e : a + suc j ≡ a + j + 1 = omega arith in
    omega (
      arith,
      starts-least slots units begins ok a j (omega arith),
      starts-rise slots units begins ok (a + j) (omega arith),
      ap (unit_start begins) e,
    )

module _ (H : Held) (N : New) (P : PlanRight H N) where
  -- no more units than slots are left
  pub units-fewer : units_kept H ≤ slots_kept H
  units-fewer =
      let j = H.units - units_gone H - 1 in
      let last : units_gone H + j < H.units = omega (arith, P.rest) in
      omega (
        arith,
        P.rest,
        gone-start H N P,
        starts-least H.slots H.units H.lent.begins P.units-ok (units_gone H) j last,
        starts-below H.slots H.units H.lent.begins P.units-ok (units_gone H + j) last,
      )

  module _ (S E : List ℕ) (n : ℕ) (WS : Written (atom_starts (is_cut H.people N.ranges) N.count N.starts N.ends) S n)
      (WE : Written (atom_ends (is_cut H.people N.ranges) N.count N.starts N.ends) E n) (went gone : ℕ) (ew : went ≡ units_gone H)
      (eg : gone ≡ start_from H.slots H.units H.lent.begins went) where
    pub record Rooms : Type 0 where
      pub total : H.slots - gone + n ≤ 1024
      pub moved : gone + (H.slots - gone) ≤ 1024
      pub new : n ≤ 1024
      pub below : gone ≤ H.slots
      pub units-few : H.units ≤ 1024
      pub went-few : went ≤ H.units
      pub starts-long : length S ≡ 1024
      pub ends-long : length E ≡ 1024

    pub rooms : Rooms
    rooms =
        let t = total-is H N P S E n WS WE went gone (H.slots - gone) ew eg refl in
        let g = gone-is H N P S E n WS WE went gone (H.slots - gone) ew eg refl in
        record {
          total = omega (arith, t, P.fits);
          moved = omega (arith, g, gone-below H N P, P.slots-few);
          new = omega (arith, count-is H N P S E n WS WE, new-few H N P);
          below = omega (arith, g, gone-below H N P);
          units-few = omega (arith, units-within H.slots H.units H.lent.begins P.units-ok, P.slots-few);
          went-few = omega (arith, ew, P.rest);
          starts-long = written-long _ S n WS;
          ends-long = written-long _ E n WE;
        }

    module _ (U : List ℕ) (m : ℕ) (WU : Written (unit_starts N.settings n S) U m) where
      pub unit-room : H.units - went + m ≤ 1024
      unit-room =
          let c = unit-count-is H N P S E n WS WE went gone (H.slots - gone) ew eg refl U m WU in
          let f = new-units-few H N P S E n WS WE went gone (H.slots - gone) ew eg refl U m WU in
          let left : H.units - went ≡ units_kept H = ap (λ (x : ℕ). H.units - x) ew in
          omega (arith, c, f, left, units-fewer, P.fits)

      pub new-low : (u : ℕ) → u < m → get_or U u 0 ≤ 1024
      new-low u h =
          let c = unit-count-is H N P S E n WS WE went gone (H.slots - gone) ew eg refl U m WU in
          omega (
            arith,
            unit-at H N P S E n WS WE went gone (H.slots - gone) ew eg refl U m WU u h,
            unit-low H N P S E n WS WE went gone (H.slots - gone) ew eg refl U m WU u (omega (arith, c)),
            new-few H N P,
          )

      -- all of it
      pub plan-moved : (ws s e a b f : List ℕ) → WordsAre H.people n N.ranges S E ws
          → s ≡ rolled_column gone (H.slots - gone) (H.slots - gone + n) (entry S) H.lent.starts
          → e ≡ rolled_column gone (H.slots - gone) (H.slots - gone + n) (entry E) H.lent.ends
          → a ≡ rows (λ p. rolled gone (H.slots - gone) (slot H.lent.avail (16 * p)) (slot ws (16 * p))) (H.slots - gone + n) H.people H.lent.avail
          → b ≡ over (begin_then went (H.units - went) gone (H.slots - gone) H.lent.begins U) (H.units - went + m) H.lent.begins
          → f ≡ put_slots (rolled gone (H.slots - gone) (slot H.lent.frozen 0) (λ _. 0)) 0 0 (H.slots - gone + n) H.lent.frozen
          → PlanMoved H N (H.slots - gone + n) (H.units - went + m) s e a b f
      plan-moved ws s e a b f W es ee ea eb ef = record {
        slots-are = total-is H N P S E n WS WE went gone (H.slots - gone) ew eg refl;
        units-are = ap₂ ◌+◌ (ap (λ (x : ℕ). H.units - x) ew) (unit-count-is H N P S E n WS WE went gone (H.slots - gone) ew eg refl U m WU);
        starts-are = minutes-then H N P S E n WS WE went gone (H.slots - gone) ew eg refl H.lent.starts S (new_starts H.people N) (starts-at H N P S E n WS WE) s es;
        ends-are = minutes-then H N P S E n WS WE went gone (H.slots - gone) ew eg refl H.lent.ends E (new_ends H.people N) (ends_at H N P S E n WS WE) e ee;
        avail-are = avail-then H N P S E n WS WE went gone (H.slots - gone) ew eg refl ws a W ea;
        begins-are = begins-then H N P S E n WS WE went gone (H.slots - gone) ew eg refl U m WU b eb;
        frozen-are = frozen_then H N P S E n WS WE went gone (H.slots - gone) ew eg refl f ef;
      }
