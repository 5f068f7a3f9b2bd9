-- The marked cases 7 to 10 in both editions, computed through the outcome of `compute_targets`. Assumes nothing.
use mathlib.Core.Path.{◌≡◌, refl, sym, ap, ap₂, ◌∙◌}
use mathlib.Core.Bool.{true}
use mathlib.Core.List.{List, [], ◌∷◌, ◌++◌}
use Prim.Native.Nat.{ℕ, ◌*◌, ◌≤◌, zero-le}
use native.Mathlib.Nat.{le_refl, le_of_eq}
use lib.IntN.{ℤ, pos, negsuc}
use borrow.Author.Tests.{le-leb}
use lib.ListN.{length, drop}
use lib.Ieee.{Float, add, sub, mul, div, lt, eq, le, of_int}
use Rattle.paper.specs.Limits.{people_ok, slot_count_ok, counts_ok}
use Rattle.paper.specs.Count.{all, sum}
use Rattle.paper.proofs.Logic.{both}
use Rattle.paper.proofs.Rows.{all_pass}
use Rattle.slots.specs.Lent.{slot_ok, prev_end, slot_ok_at, slot_room_ok, slots_ok, minutes_at, demand_of}
use Rattle.targets.specs.Figures.{figures_ok, all_figures_ok}
use Rattle.targets.specs.Passes.{rounded, within, settled, pass, passes}
use Rattle.targets.specs.Remainder.{adjusted}
use Rattle.targets.specs.SecondEdition.{taking_part, is_smallest, is_largest, give_minute, take_minute, times, handed_out, spread, shared_out}
use Rattle.targets.specs.Outcome.{Given, given, targets_in, compute_targets}
use Rattle.targets.proofs.Accepted.{Lent}
use Rattle.targets.proofs.Promises.{number-lent, when-accepted}
use Rattle.promises.specs.Entries.{built}
use Rattle.promises.specs.Marked.{one, none, Shared}
use Rattle.promises.specs.EditionRules.{SecondCases}

-- from the targets of these figures to what is answered of them, whatever is lent
module _ (edition demand : ℕ) (capacities : List Float) (priors : List ℕ) (zs : List ℤ) where
  abbrev checked : List ℕ → Given
  checked avail = given (length capacities) 1 (0 ∷ []) (demand ∷ []) avail capacities priors 1 edition

  -- what is answered, and what the buffer holds then
  abbrev Gives : Type 0
  Gives =
      (avail : List ℕ) (out : List ℤ) → 16 * length capacities ≤ length avail → length capacities ≤ length out
      → compute_targets (checked avail) out ≡ record { number = 0; out = zs ++ drop (length capacities) out }

  shared : edition ≤ 1 → counts_ok (length capacities) 1 ≡ true → length priors ≡ length capacities
      → all_figures_ok (length capacities) capacities priors ≡ true → slot_room_ok 1 (0 ∷ []) (demand ∷ []) ≡ true
      → slots_ok 1 (0 ∷ []) (demand ∷ []) ≡ true → ((avail : List ℕ) → targets_in (checked avail) ≡ zs)
      → Gives
  unfolding counts_ok
  shared k a n f b e t avail out w r =
      let p = length capacities in
      let c = both (people_ok p) (slot_count_ok 1) a in
      let l : Lent (checked avail) (length out) = record {
        people-ok = c.0;
        slots-ok = c.1;
        columns = b;
        words = w;
        capacities-room = le_refl p;
        priors-room = le_of_eq (sym n);
        out-room = r;
      } in
      let z = number-lent (checked avail) out l e ∙ all_pass _ (f, (le-leb 1 1 (le_refl 1), (le-leb edition 1 k, tt))) in
      ap₂ (λ (k : ℕ) (o : List ℤ). record { number = k; out = o }) z
      (when-accepted (checked avail) out z ∙ ap (λ (x : List ℤ). x ++ drop p out) (t avail))

pub cases-7-to-10 : Shared built 100 (one ∷ one ∷ one ∷ []) (0 ∷ 0 ∷ 0 ∷ []) (pos 33 ∷ pos 33 ∷ pos 34 ∷ [])
    × Shared built 2 (one ∷ one ∷ one ∷ one ∷ []) (0 ∷ 0 ∷ 0 ∷ 0 ∷ []) (pos 1 ∷ pos 1 ∷ pos 1 ∷ negsuc 0 ∷ [])
    × Shared built 100 (one ∷ one ∷ []) (300 ∷ 0 ∷ []) (pos 0 ∷ pos 100 ∷ [])
    × Shared built 100 (none ∷ none ∷ []) (0 ∷ 0 ∷ []) (pos 0 ∷ pos 100 ∷ [])
unfolding counts_ok people_ok slot_count_ok all_figures_ok all figures_ok le lt eq slot_room_ok slots_ok slot_ok_at slot_ok prev_end
    demand_of sum minutes_at of_int mul add div sub rounded within settled pass passes shared_out adjusted
cases-7-to-10 = (
  shared 0 100 (one ∷ one ∷ one ∷ []) (0 ∷ 0 ∷ 0 ∷ []) (pos 33 ∷ pos 33 ∷ pos 34 ∷ []) zero-le refl refl refl refl refl (λ avail. refl),
  shared 0 2 (one ∷ one ∷ one ∷ one ∷ []) (0 ∷ 0 ∷ 0 ∷ 0 ∷ []) (pos 1 ∷ pos 1 ∷ pos 1 ∷ negsuc 0 ∷ [])
      zero-le refl refl refl refl refl (λ avail. refl),
  shared 0 100 (one ∷ one ∷ []) (300 ∷ 0 ∷ []) (pos 0 ∷ pos 100 ∷ []) zero-le refl refl refl refl refl (λ avail. refl),
  shared 0 100 (none ∷ none ∷ []) (0 ∷ 0 ∷ []) (pos 0 ∷ pos 100 ∷ []) zero-le refl refl refl refl refl (λ avail. refl),
)

pub second-cases : SecondCases built
unfolding counts_ok people_ok slot_count_ok all_figures_ok all figures_ok le lt eq slot_room_ok slots_ok slot_ok_at slot_ok prev_end
    demand_of sum minutes_at of_int mul add div sub rounded within settled pass passes shared_out spread handed_out taking_part times
    give_minute take_minute is_smallest is_largest
second-cases = record {
  case-7 = shared 1 100 (one ∷ one ∷ one ∷ []) (0 ∷ 0 ∷ 0 ∷ []) (pos 34 ∷ pos 33 ∷ pos 33 ∷ [])
      (le_refl 1) refl refl refl refl refl (λ avail. refl);
  case-8 = shared 1 2 (one ∷ one ∷ one ∷ one ∷ []) (0 ∷ 0 ∷ 0 ∷ 0 ∷ []) (pos 0 ∷ pos 0 ∷ pos 1 ∷ pos 1 ∷ [])
      (le_refl 1) refl refl refl refl refl (λ avail. refl);
  case-9 = shared 1 100 (one ∷ one ∷ []) (300 ∷ 0 ∷ []) (pos 0 ∷ pos 100 ∷ []) (le_refl 1) refl refl refl refl refl (λ avail. refl);
  case-10 = shared 1 100 (none ∷ none ∷ []) (0 ∷ 0 ∷ []) (pos 50 ∷ pos 50 ∷ []) (le_refl 1) refl refl refl refl refl (λ avail. refl);
}
