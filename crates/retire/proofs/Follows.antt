-- After retiring, slots and units pass rule 9 and the recount passes: a play follows. Assumes nothing.
use mathlib.Core.Path.{◌≡◌, sym, ap, ◌∙◌}
use mathlib.Core.Bool.{Bool, true}
use mathlib.Core.Logic.{⊎_elim}
use mathlib.Core.List.{List}
use Prim.Native.Nat.{ℕ, zero, suc, ◌+◌, ◌-◌, ◌≤◌, ◌<◌}
use native.Mathlib.Omega.{arith}
use borrow.Author.Tests.{le-leb, lt-ltb, eq-eqb}
use lib.ListN.{length, get_or}
use Rattle.paper.specs.Limits.{nobody}
use Rattle.paper.specs.Count.{among}
use Rattle.paper.proofs.Logic.{lt-or-ge, and-true}
use Rattle.paper.proofs.Count.{each_all, length_over, among-at, among-each, among-rises, among_none}
use Rattle.units.specs.Units.{unit_start, unit_end, start_ok, units_ok}
use Rattle.units.specs.Starts.{unit_begins, unit_starts}
use Rattle.units.proofs.Begins.{unit-zero}
use Rattle.units.proofs.Units.{starts-below, starts-rise, starts-far, ends_next, ends_last, unit-within}
use Rattle.owners.specs.Derived.{afresh}
use Rattle.owners.proofs.Steps.{afresh-step}
use Rattle.owners.proofs.Entered.{says-recount}
use Rattle.retire.specs.Rolled.{entry, begin_then}
use Rattle.retire.specs.New.{New, new_starts, new_count, new_units}
use Rattle.retire.specs.Outcome.{Held, units_gone, slots_gone, slots_kept, units_kept, slots_then, units_then, begins_then, avail_then}
use Rattle.retire.specs.Outcome.{owners_then, plan_then, held_then}
use Rattle.retire.specs.Inside.{PlanRight}
use Rattle.retire.specs.Promised.{Retires, PlayFollows}
use Rattle.retire.proofs.Moved.{gone-start, gone-below}
use Rattle.retire.proofs.Passes.{column-length, slots-pass, owner-old, owner-new, known-then, fits-then}
use Rattle.retire.proofs.Promises.{right, P, C, owners-wide, begins-room, begin-old, begin-new}

-- ---- the new units: the first starts with the first new slot, they rise, and stay among the new slots

module _ (people : ℕ) (N : New) where
  abbrev begin : ℕ → Bool
  begin = unit_begins N.settings.lock N.settings.boundary N.settings.value (new_starts people N)

  some-new : 0 < new_count people N → (0 < length (new_units people N)) × (entry (new_units people N) 0 ≡ 0)
  unfolding new_units unit_starts
  some-new h =
      let first = unit-zero N.settings.lock N.settings.boundary N.settings.value (new_starts people N) in
      let x = among-at begin (new_count people N) 0 h first in
      let z = among_none begin in
      (omega (arith, x.0, z), ap (λ (i : ℕ). get_or (among begin (new_count people N)) i 0) (sym z) ∙ x.1)

  new-rise : (u : ℕ) → suc u < length (new_units people N) → entry (new_units people N) u < entry (new_units people N) (suc u)
  unfolding new_units unit_starts
  new-rise u h = among-rises begin (new_count people N) u h

  new-low : (u : ℕ) → u < length (new_units people N) → entry (new_units people N) u < new_count people N
  unfolding new_units unit_starts
  new-low u h = (among-each begin (new_count people N) u h).0

module _ (H : Held) (N : New) (T : Retires H N) where
  Q : PlanRight H N
  Q = P H N T

  abbrev B : List ℕ
  B = begins_then H N

  gone-below-slots : slots_gone H < H.slots
  gone-below-slots = gone-below H N Q

  -- where a unit of those left, and of the new ones, starts
  old-at : (u : ℕ) → u < units_kept H → unit_start B u ≡ unit_start H.lent.begins (units_gone H + u) - slots_gone H
  unfolding held_then
  old-at u h = begin-old H N T u h

  new-at : (u : ℕ) → units_kept H ≤ u → u < units_then H N → unit_start B u ≡ slots_kept H + entry (new_units H.people N) (u - units_kept H)
  unfolding held_then
  new-at u h b =
      let q : units_kept H + (u - units_kept H) ≡ u = omega arith in
      ap (unit_start B) (sym q) ∙ begin-new H N T (u - units_kept H) (omega arith)

  -- an old unit that is left starts at the first slot left or after it, and below the count
  old-from : (u : ℕ) → u < units_kept H → slots_gone H ≤ unit_start H.lent.begins (units_gone H + u)
  old-from u h =
      omega (
        arith,
        gone-start H N Q,
        starts-far H.slots H.units H.lent.begins Q.units-ok (units_gone H) (units_gone H + u) (omega arith) (omega arith),
      )

  old_below : (u : ℕ) → u < units_kept H → unit_start H.lent.begins (units_gone H + u) < H.slots
  old_below u h = starts-below H.slots H.units H.lent.begins Q.units-ok (units_gone H + u) (omega arith)

  old-rise : (u : ℕ) → suc u < units_kept H → unit_start H.lent.begins (units_gone H + u) < unit_start H.lent.begins (units_gone H + suc u)
  old-rise u h =
      let q : units_gone H + u + 1 ≡ units_gone H + suc u = omega arith in
      omega (
        arith,
        starts-rise H.slots H.units H.lent.begins Q.units-ok (units_gone H + u) (omega arith),
        ap (unit_start H.lent.begins) q,
      )

  below_then : (u : ℕ) → u < units_then H N → unit_start B u < slots_then H N
  below_then u b =
      ⊎_elim (λ (h : u < units_kept H). omega (arith, old-at u h, old-from u h, old_below u h, gone-below-slots))
      (λ (h : units_kept H ≤ u). omega (arith, new-at u h b, new-low H.people N (u - units_kept H) (omega arith))) (lt-or-ge u (units_kept H))

  first_then : unit_start B 0 ≡ 0
  first_then =
      let e : units_gone H + 0 ≡ units_gone H = omega arith in
      omega (arith, old-at 0 (omega (arith, Q.rest)), gone-start H N Q, ap (unit_start H.lent.begins) e)

  rise-then : (u : ℕ) → suc u < units_then H N → unit_start B u < unit_start B (suc u)
  rise-then u b =
      ⊎_elim
      (λ (h : suc u < units_kept H). omega (arith, old-at u (omega arith), old-at (suc u) h, old-from u (omega arith), old-rise u h))
      (λ (h : units_kept H ≤ suc u).
      ⊎_elim
      (λ (g : u < units_kept H). omega (arith, old-at u g, old-from u g, old_below u g, new-at (suc u) h b, gone-below-slots))
      (λ (g : units_kept H ≤ u).
      let q : suc u - units_kept H ≡ suc (u - units_kept H) = omega arith in
      omega (
        arith,
        new-at u g (omega arith),
        new-at (suc u) h b,
        ap (entry (new_units H.people N)) q,
        new-rise H.people N (u - units_kept H) (omega arith),
      ))
      (lt-or-ge u (units_kept H)))
      (lt-or-ge (suc u) (units_kept H))

  start-then : (u : ℕ) → u < units_then H N → start_ok (slots_then H N) B u ≡ true
  unfolding start_ok
  start-then zero b = and-true _ _ (eq-eqb (unit_start B 0) 0 first_then) (lt-ltb (unit_start B 0) (slots_then H N) (below_then 0 b))
  start-then (suc u) b =
      and-true _ _ (lt-ltb (unit_start B u) (unit_start B (suc u)) (rise-then u b)) (lt-ltb (unit_start B (suc u)) (slots_then H N) (below_then (suc u) b))

  -- rule 9 of the units then
  pub units-pass : units_ok (slots_then H N) (units_then H N) B ≡ true
  unfolding units_ok
  units-pass =
      and-true _ _ (le-leb 1 (units_then H N) (omega (arith, Q.rest)))
      (and-true _ _
      (le-leb (units_then H N) (length B)
      (omega (
        arith,
        begins-room H N T,
        length_over (begin_then (units_gone H) (units_kept H) (slots_gone H) (slots_kept H) H.lent.begins (new_units H.people N)) (units_then H N) H.lent.begins,
      )))
      (each_all (units_then H N) (start_ok (slots_then H N) B) start-then))

  -- ---- each unit then has one owner

  none_then : new_count H.people N ≤ 0 → length (new_units H.people N) ≤ 0
  none_then s =
      ⊎_elim (λ (l : 0 < length (new_units H.people N)). absurd (omega (arith, new-low H.people N 0 l))) (λ l. l)
      (lt-or-ge 0 (length (new_units H.people N)))

  -- an old unit that is left ends where it ended
  end-then : (u : ℕ) → u < units_kept H
      → unit_end (slots_then H N) (units_then H N) B u ≡ unit_end H.slots H.units H.lent.begins (units_gone H + u) - slots_gone H
  end-then u h =
      ⊎_elim
      (λ (g : u + 1 < units_kept H).
      let q : units_gone H + u + 1 ≡ units_gone H + (u + 1) = omega arith in
      ends_next (slots_then H N) (units_then H N) B units-pass u (omega arith) ∙ old-at (u + 1) g
      ∙ ap (λ (x : ℕ). x - slots_gone H)
      (sym (ends_next H.slots H.units H.lent.begins Q.units-ok (units_gone H + u) (omega arith) ∙ ap (unit_start H.lent.begins) q)))
      (λ (g : units_kept H ≤ u + 1).
      last u h g ∙ ap (λ (x : ℕ). x - slots_gone H) (sym (ends_last H.slots H.units H.lent.begins Q.units-ok (units_gone H + u) (omega (arith, Q.rest)))))
      (lt-or-ge (u + 1) (units_kept H))
    where
      last : (u : ℕ) → u < units_kept H → units_kept H ≤ u + 1 → unit_end (slots_then H N) (units_then H N) B u ≡ H.slots - slots_gone H
      last u h g =
          ⊎_elim
          (λ (s : 0 < new_count H.people N).
          let x = some-new H.people N s in
          let z : u + 1 - units_kept H ≡ 0 = omega arith in
          ends_next (slots_then H N) (units_then H N) B units-pass u (omega (arith, x.0)) ∙ new-at (u + 1) g (omega (arith, x.0))
          ∙ omega (arith, ap (entry (new_units H.people N)) z, x.1))
          (λ (s : new_count H.people N ≤ 0).
          ends_last (slots_then H N) (units_then H N) B units-pass u (omega (arith, none_then s)) ∙ omega (arith, s))
          (lt-or-ge 0 (new_count H.people N))

  even-then : (u k : ℕ) → u < units_then H N → unit_start B u ≤ k → k < unit_end (slots_then H N) (units_then H N) B u
      → get_or (owners_then H N) k 0 ≡ get_or (owners_then H N) (unit_start B u) 0
  even-then u k b from to =
      let room = (right H N T).asked.owners-room in
      let counted = C H N T in
      let within : k < slots_then H N = omega (arith, unit-within (slots_then H N) (units_then H N) B units-pass u b, to) in
      ⊎_elim
      (λ (h : u < units_kept H).
      let e = end-then u h in
      let w = unit-within H.slots H.units H.lent.begins Q.units-ok (units_gone H + u) (omega arith) in
      let lo : unit_start B u < slots_kept H = omega (arith, old-at u h, old-from u h, old_below u h, gone-below-slots) in
      let hi : k < slots_kept H = omega (arith, to, e, w) in
      let at : slots_gone H + unit_start B u ≡ unit_start H.lent.begins (units_gone H + u) = omega (arith, old-at u h, old-from u h) in
      owner-old H N Q room counted k hi
      ∙ counted.even (units_gone H + u) (slots_gone H + k) (omega arith) (omega (arith, at, from)) (omega (arith, to, e))
      ∙ ap (λ (x : ℕ). get_or H.lent.owners x 0) (sym at) ∙ sym (owner-old H N Q room counted (unit_start B u) lo))
      (λ (h : units_kept H ≤ u).
      let lo : slots_kept H ≤ unit_start B u = omega (arith, new-at u h b) in
      owner-new H N Q room counted k (omega (arith, lo, from)) within ∙ sym (owner-new H N Q room counted (unit_start B u) lo (below_then u b)))
      (lt-or-ge u (units_kept H))

  -- ---- the recount

  pub play-follows : PlayFollows (held_then H N)
  unfolding held_then
  play-follows =
      let A = (right H N T).asked in
      let room = A.owners-room in
      let counted = C H N T in
      let known = known-then H N Q room counted in
      let J = afresh-step (plan_then H N) (owners_then H N) H.lent.derived Q.fits
      (omega (arith, column-length (slots_gone H) (slots_kept H) (slots_then H N) (λ _. nobody) H.lent.owners (owners-wide H N T), owners-wide H N T))
      A.sets-room A.minutes-room A.totals-room known in
      record {
        slots = slots-pass H N Q;
        units = units-pass;
        recount = says-recount (plan_then H N) (avail_then H N) (units_then H N) B (owners_then H N) (afresh (plan_then H N) (owners_then H N) H.lent.derived)
            (record {
              known = known;
              available = fits-then H N Q room counted;
              even = even-then;
              sets = J.sets;
              minutes = J.minutes;
              totals = J.totals;
            });
      }
