-- Retiring loses no minute; what goes, what stays and what is new; a play and a published column follow. Assumes nothing.
use mathlib.Core.Path.{◌≡◌, refl, sym, ap, ap₂, ◌∙◌}
use mathlib.Core.Bool.{Bool, true, false, cond}
use mathlib.Core.List.{List, [], ◌∷◌}
use Prim.Native.Nat.{ℕ, ◌+◌, ◌-◌, ◌≤◌, ◌<◌}
use native.Mathlib.Omega.{arith}
use borrow.Author.Tests.{le-leb, lt-ltb, eq-eqb, ne_eqb}
use lib.ListN.{length}
use Rattle.paper.specs.Limits.{nobody, slot_count_ok}
use Rattle.paper.specs.Count.{sum}
use Rattle.paper.proofs.Logic.{people-says, slot-count-says, and-true}
use Rattle.paper.specs.Rows.{refusal_of}
use Rattle.paper.proofs.Rows.{all_pass, said}
use Rattle.paper.proofs.Count.{sum_same, sum-add, sum-after, get_d_over, among-le}
use Rattle.units.specs.Starts.{unit_starts}
use Rattle.slotset.specs.Slots.{slot}
use Rattle.slotset.proofs.Puts.{slot_lt, slot-puts-here}
use Rattle.slots.specs.Lent.{minutes_at, demand_of}
use Rattle.slots.specs.Atomic.{is_cut}
use Rattle.slots.proofs.LentLaws.{slots-each}
use Rattle.slots.proofs.SplitLaws.{atoms-demand}
use Rattle.units.specs.Units.{unit_start}
use Rattle.owners.specs.Derived.{worked, uncovered}
use Rattle.owners.proofs.Scans.{first-is}
use Rattle.owners.proofs.Minutes.{minutes-total}
use Rattle.owners.proofs.Entered.{Recounted, recount-says}
use Rattle.retire.specs.Rolled.{entry, rolled, begin_then}
use Rattle.retire.specs.Column.{column_row}
use Rattle.retire.specs.Going.{gone_units, frozen_whole, going_plan, prior_then, retired_then, priors_then, retired_column}
use Rattle.retire.specs.New.{New, new_starts, new_ends, new_count, new_bit, new_units}
use Rattle.retire.specs.Outcome.{Held, plan_of, units_gone, slots_gone, slots_kept, units_kept, slots_then, units_then, starts_then, ends_then}
use Rattle.retire.specs.Outcome.{held_then, retire_row, retire_of}
use Rattle.retire.specs.Inside.{PlanRight}
use Rattle.retire.specs.Promised.{Retires, standing, NoMinuteLost, Retirings, after_all, new_demand, StaysAndComes, ColumnFollows, ExactlyWhen}
use Rattle.retire.proofs.Rolls.{rolled-old, rolled-new}
use Rattle.retire.proofs.Bits.{rolled-lt}
use Rattle.retire.proofs.Asks.{whole_says}
use Rattle.retire.proofs.Moved.{gone-start, gone-below, units-fewer}
use Rattle.retire.proofs.Passes.{RetireRight, retire-says, plan-right, at_old, at_new, avail-at}
use Rattle.retire.proofs.Retires.{gone-most}

-- no more new units than new slots
new-units-few : (people : ℕ) (N : New) → length (new_units people N) ≤ new_count people N
unfolding new_units unit_starts
new-units-few people N = among-le _ (new_count people N)

module _ (H : Held) (N : New) (T : Retires H N) where
  pub right : RetireRight H N
  right = retire-says H N T.accepted

  pub P : PlanRight H N
  P = plan-right H N right T.some T.rest (gone-most H)

  pub C : Recounted (plan_of H) H.lent.avail H.units H.lent.begins H.lent.owners H.lent.derived
  C = recount-says (plan_of H) H.lent.avail H.units H.lent.begins H.lent.owners H.lent.derived (whole_says H right.whole_is).2

  starts-wide : slots_then H N ≤ length H.lent.starts
  starts-wide = omega (arith, P.fits, P.starts-room)

  ends-wide : slots_then H N ≤ length H.lent.ends
  ends-wide = omega (arith, P.fits, P.ends-room)

  pub owners-wide : slots_then H N ≤ length H.lent.owners
  owners-wide = omega (arith, P.fits, right.asked.owners-room)

  -- ---- the minutes

  each-person : (p : ℕ) → p < H.people
      → entry (held_then H N).lent.priors p ≡ entry H.lent.priors p + worked (going_plan (plan_of H) (slots_gone H)) H.lent.owners p
  unfolding held_then priors_then prior_then
  each-person p h = get_d_over _ H.people H.lent.priors p h (omega (arith, right.asked.priors-room))

  the-total : entry (held_then H N).lent.retired 0 ≡ entry H.lent.retired 0 + uncovered (going_plan (plan_of H) (slots_gone H)) H.lent.owners
  unfolding held_then retired_column retired_then
  the-total = get_d_over _ 1 H.lent.retired 0 (omega arith) (omega (arith, right.asked.retired-room))

  -- what went is what people and nobody had of it
  went-all : sum H.people (worked (going_plan (plan_of H) (slots_gone H)) H.lent.owners) + uncovered (going_plan (plan_of H) (slots_gone H)) H.lent.owners
      ≡ demand_of (slots_gone H) H.lent.starts H.lent.ends
  went-all =
      minutes-total (going_plan (plan_of H) (slots_gone H)) H.lent.owners (omega (arith, (people-says H.people P.people-ok).1))
      (λ k h. C.known k (omega (arith, gone-below H N P)))

  -- a slot that is left has the length that it had
  left-length : (k : ℕ) → k < slots_kept H → minutes_at (starts_then H N) (ends_then H N) k ≡ minutes_at H.lent.starts H.lent.ends (slots_gone H + k)
  unfolding minutes_at
  left-length k h =
      ap₂ ◌-◌
      (at_old (slots_gone H) (slots_kept H) (slots_then H N) (entry (new_ends H.people N)) H.lent.ends ends-wide k h (omega arith))
      (at_old (slots_gone H) (slots_kept H) (slots_then H N) (entry (new_starts H.people N)) H.lent.starts starts-wide k h (omega arith))

  new-length : (k : ℕ) → k < new_count H.people N
      → minutes_at (starts_then H N) (ends_then H N) (slots_kept H + k) ≡ minutes_at (new_starts H.people N) (new_ends H.people N) k
  unfolding minutes_at
  new-length k h =
      let q : slots_kept H + k - slots_kept H ≡ k = omega arith in
      ap₂ ◌-◌
      (at_new (slots_gone H) (slots_kept H) (slots_then H N) (entry (new_ends H.people N)) H.lent.ends ends-wide (slots_kept H + k) (omega arith) (omega arith)
      ∙ ap (entry (new_ends H.people N)) q)
      (at_new (slots_gone H) (slots_kept H) (slots_then H N) (entry (new_starts H.people N)) H.lent.starts starts-wide (slots_kept H + k) (omega arith) (omega arith)
      ∙ ap (entry (new_starts H.people N)) q)

  demand-split : demand_of H.slots H.lent.starts H.lent.ends
      ≡ demand_of (slots_gone H) H.lent.starts H.lent.ends + demand_of (slots_kept H) (starts_then H N) (ends_then H N)
  unfolding demand_of
  demand-split =
      let q : slots_gone H + slots_kept H ≡ H.slots = omega (arith, gone-below H N P) in
      ap (λ (n : ℕ). sum n (minutes_at H.lent.starts H.lent.ends)) (sym q)
      ∙ sum-after (slots_gone H) (slots_kept H) (minutes_at H.lent.starts H.lent.ends)
      ∙ ap (λ (x : ℕ). sum (slots_gone H) (minutes_at H.lent.starts H.lent.ends) + x)
      (sym (sum_same (slots_kept H) (minutes_at (starts_then H N) (ends_then H N)) (λ j. minutes_at H.lent.starts H.lent.ends (slots_gone H + j)) left-length))

  new-demand : demand_of (new_count H.people N) (new_starts H.people N) (new_ends H.people N) ≡ demand_of N.count N.starts N.ends
  unfolding new_starts new_ends
  new-demand =
      atoms-demand (is_cut H.people N.ranges) N.count N.starts N.ends (slots-each N.count N.starts N.ends P.right.base_ok)
      N.count (omega arith)

  demand-parts : demand_of (slots_then H N) (starts_then H N) (ends_then H N) ≡ demand_of (slots_kept H) (starts_then H N) (ends_then H N)
      + demand_of (new_count H.people N) (new_starts H.people N) (new_ends H.people N)
  unfolding demand_of
  demand-parts =
      sum-after (slots_kept H) (new_count H.people N) (minutes_at (starts_then H N) (ends_then H N))
      ∙ ap (λ (x : ℕ). sum (slots_kept H) (minutes_at (starts_then H N) (ends_then H N)) + x)
      (sum_same (new_count H.people N) (λ j. minutes_at (starts_then H N) (ends_then H N) (slots_kept H + j))
      (minutes_at (new_starts H.people N) (new_ends H.people N)) new-length)

  demand-then : demand_of (slots_then H N) (starts_then H N) (ends_then H N)
      ≡ demand_of (slots_kept H) (starts_then H N) (ends_then H N) + demand_of N.count N.starts N.ends
  demand-then = demand-parts ∙ ap (λ (x : ℕ). demand_of (slots_kept H) (starts_then H N) (ends_then H N) + x) new-demand

  sums : sum H.people (entry (held_then H N).lent.priors) + entry (held_then H N).lent.retired 0
      ≡ sum H.people (entry H.lent.priors) + entry H.lent.retired 0 + demand_of (slots_gone H) H.lent.starts H.lent.ends
  sums =
      omega (
        arith,
        sum_same H.people (entry (held_then H N).lent.priors)
            (λ p. entry H.lent.priors p + worked (going_plan (plan_of H) (slots_gone H)) H.lent.owners p) each-person,
        sum-add H.people (entry H.lent.priors) (worked (going_plan (plan_of H) (slots_gone H)) H.lent.owners),
        the-total,
        went-all,
      )

  pub no-minute-lost : NoMinuteLost H N
  unfolding standing held_then
  no-minute-lost = record {
    each = each-person;
    total = the-total;
    adds-up = omega (arith, sums, demand-split);
    grows = omega (arith, sums, demand-split, demand-then);
  }

-- ---- any number of them

pub all-adds-up : (H : Held) (Ns : List New) → Retirings H Ns → standing (after_all H Ns) ≡ standing H + new_demand Ns
unfolding after_all new_demand
all-adds-up H [] r = omega arith
all-adds-up H (N ∷ Ns) r =
    omega (arith, all-adds-up (held_then H N) Ns r.1, (no-minute-lost H N r.0).grows)

-- ---- what goes, what stays, what is new

module _ (H : Held) (N : New) (T : Retires H N) where
  plan-is : PlanRight H N
  plan-is = P H N T

  pub begins-room : units_then H N ≤ length H.lent.begins
  begins-room = omega (arith, units-fewer H N plan-is, new-units-few H.people N, plan-is.fits, plan-is.begins-room)

  pub begin-old : (u : ℕ) → u < units_kept H → unit_start (held_then H N).lent.begins u ≡ unit_start H.lent.begins (units_gone H + u) - slots_gone H
  unfolding held_then begin_then
  begin-old u h =
      get_d_over _ (units_then H N) H.lent.begins u (omega arith) (omega (arith, begins-room))
      ∙ rolled-old (units_gone H) (units_kept H) _ _ u h

  pub begin-new : (u : ℕ) → u < length (new_units H.people N)
      → unit_start (held_then H N).lent.begins (units_kept H + u) ≡ slots_kept H + entry (new_units H.people N) u
  unfolding held_then begin_then
  begin-new u h =
      let q : units_kept H + u - units_kept H ≡ u = omega arith in
      get_d_over _ (units_then H N) H.lent.begins (units_kept H + u) (omega arith) (omega (arith, begins-room))
      ∙ rolled-new (units_gone H) (units_kept H) _ _ (units_kept H + u) (omega arith)
      ∙ ap (λ (x : ℕ). slots_kept H + entry (new_units H.people N) x) q

  flags-lt : (k : ℕ) → rolled (slots_gone H) (slots_kept H) (slot H.lent.frozen 0) (λ _. 0) k < 2
  flags-lt = rolled-lt (slots_gone H) (slots_kept H) _ _ (slot_lt H.lent.frozen 0) (λ _. omega arith)

  flag_at : (k : ℕ) → k < slots_then H N
      → slot (held_then H N).lent.frozen 0 k ≡ rolled (slots_gone H) (slots_kept H) (slot H.lent.frozen 0) (λ _. 0) k
  unfolding held_then
  flag_at k h =
      slot-puts-here (rolled (slots_gone H) (slots_kept H) (slot H.lent.frozen 0) (λ _. 0)) 0 0 (slots_then H N) H.lent.frozen k flags-lt
      (omega (arith, plan-is.fits, plan-is.frozen-room))
      ∙ ap₂ (λ (a b : Bool). cond (mathlib.Core.Bool.◌&&◌ a b) (rolled (slots_gone H) (slots_kept H) (slot H.lent.frozen 0) (λ _. 0) k) (slot H.lent.frozen 0 k))
      (le-leb 0 k (omega arith)) (lt-ltb k (0 + slots_then H N) (omega arith))

  pub stays-and-comes : StaysAndComes H N
  unfolding held_then gone_units
  stays-and-comes =
      let F = first-is H.units (frozen_whole H.slots H.units H.lent.begins H.lent.frozen) in
      let so = owners-wide H N T in
      record {
        longest = record { within = F.within; whole = F.before; stops = F.fails };
        uncut = gone-start H N plan-is;
        starts = λ k h. at_old (slots_gone H) (slots_kept H) (slots_then H N) (entry (new_starts H.people N)) H.lent.starts (starts-wide H N T) k h (omega arith);
        ends = λ k h. at_old (slots_gone H) (slots_kept H) (slots_then H N) (entry (new_ends H.people N)) H.lent.ends (ends-wide H N T) k h (omega arith);
        owners = λ k h. at_old (slots_gone H) (slots_kept H) (slots_then H N) (λ _. nobody) H.lent.owners so k h (omega arith);
        avail = λ p k a h. avail-at H N plan-is p k a (omega arith) ∙ rolled-old (slots_gone H) (slots_kept H) _ _ k h;
        frozen = λ k h. flag_at k (omega arith) ∙ rolled-old (slots_gone H) (slots_kept H) _ _ k h;
        units = begin-old;
        new-starts = λ k h.
            let q : slots_kept H + k - slots_kept H ≡ k = omega arith in
            at_new (slots_gone H) (slots_kept H) (slots_then H N) (entry (new_starts H.people N)) H.lent.starts (starts-wide H N T) (slots_kept H + k) (omega arith) (omega arith)
            ∙ ap (entry (new_starts H.people N)) q;
        new-ends = λ k h.
            let q : slots_kept H + k - slots_kept H ≡ k = omega arith in
            at_new (slots_gone H) (slots_kept H) (slots_then H N) (entry (new_ends H.people N)) H.lent.ends (ends-wide H N T) (slots_kept H + k) (omega arith) (omega arith)
            ∙ ap (entry (new_ends H.people N)) q;
        new-avail = λ p k a h.
            let q : slots_kept H + k - slots_kept H ≡ k = omega arith in
            avail-at H N plan-is p (slots_kept H + k) a (omega arith) ∙ rolled-new (slots_gone H) (slots_kept H) _ _ (slots_kept H + k) (omega arith)
            ∙ ap (new_bit H.people N p) q;
        new-units = begin-new;
        unowned = λ k h.
            at_new (slots_gone H) (slots_kept H) (slots_then H N) (λ _. nobody) H.lent.owners so (slots_kept H + k) (omega arith) (omega arith);
        unfrozen = λ k h. flag_at (slots_kept H + k) (omega arith) ∙ rolled-new (slots_gone H) (slots_kept H) _ _ (slots_kept H + k) (omega arith);
      }

  -- ---- a published column follows

  pub column-follows : ColumnFollows H N
  unfolding column_row slot_count_ok
  column-follows column room =
      let below = gone-below H N plan-is in
      let some = slot-count-says H.slots (right H N T).asked.count-ok in
      all_pass (column_row H.slots (slots_gone H) (slots_then H N) column) (
        (right H N T).asked.count-ok,
        (
          and-true _ _ (le-leb 1 (slots_then H N) (omega arith)) (le-leb (slots_then H N) 1024 plan-is.fits),
          (
            le-leb (slots_gone H) H.slots (omega arith),
            (
              le-leb (H.slots - slots_gone H) (slots_then H N) (omega arith),
              (
                le-leb H.slots (length column) (omega (arith, plan-is.slots-few)),
                (le-leb (slots_then H N) (length column) (omega (arith, plan-is.fits)), tt),
              ),
            ),
          ),
        ),
      )

-- ---- the answers, exactly when

pub exactly-when : (H : Held) (N : New) → ExactlyWhen H N
unfolding retire_of
exactly-when H N =
    let number = said (retire_row H N) refl in
    record {
      nothing = λ z y. simp (eq-eqb (refusal_of (retire_row H N)).number 0 (number ∙ z), eq-eqb (units_gone H) 0 y);
      everything = λ z n y.
          simp (eq-eqb (refusal_of (retire_row H N)).number 0 (number ∙ z), ne_eqb (units_gone H) 0 n, eq-eqb (units_gone H) H.units y);
      retired = λ T.
          simp (
            eq-eqb (refusal_of (retire_row H N)).number 0 (number ∙ T.accepted),
            ne_eqb (units_gone H) 0 T.some,
            ne_eqb (units_gone H) H.units T.rest,
          );
      refused = λ n. simp (ne_eqb (refusal_of (retire_row H N)).number 0 (λ z. n (sym number ∙ z)));
    }
