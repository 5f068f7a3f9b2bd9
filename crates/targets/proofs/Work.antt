-- The work behind the checks: what its calls give is the outcome. Assumes nothing.
use Rattle.std.proofs.Common.{◌≡◌, ℕ, Option, None, Some, ◌+◌, ◌-◌, ◌<◌, ◌≤◌, Bool, cond, List, ◌++◌, length, take, drop, replicate, ℤ, sym, refl, ap, ◌∙◌, arith}
use Rattle.paper.specs.declared.Refusal.{Refusal}
use Rattle.paper.specs.Limits.{number_of}
use Rattle.paper.specs.Rows.{refusal_of}
use Rattle.paper.proofs.Rows.{said, worked, kept}
use Rattle.slots.specs.Lent.{demand_of, demand_when_ok}
use Rattle.targets.specs.declared.Standing.{Standing}
use Rattle.targets.specs.Figures.{pad}
use Rattle.targets.specs.Passes.{again, passes}
use Rattle.targets.specs.Outcome.{Given, given, demand_in, standing_in, standings_in, targets_in, targets_row, compute_targets, Meets}
use Rattle.targets.specs.Inside.{targets_left, Small, PinnedZero, checks_row, Sound}
use Rattle.targets.proofs.Loops.{length-up_to}
use Rattle.targets.proofs.Sizes.{small-standings, zero-standings}
use Rattle.targets.proofs.Padding.{none-unguarded, some-guarded, some-targets}
use Rattle.targets.proofs.Accepted.{Accepted, accepted, with-guard, keeps-guard, breaks-guard, row-refused, row-eight}

-- demand, of slots that pass
pub demand-is : (g : Given) → Sound g → {d : ℕ} → d ≡ demand_when_ok g.slots g.starts g.ends → d ≡ demand_in g
unfolding demand_when_ok
demand-is g s e =
    e ∙ ap (λ (b : Bool). cond b (demand_of g.slots g.starts g.ends) 0) s.ordered

-- the standings are the same in each edition
pub sound-again : (g : Given) → Sound g
    → Sound (given g.people g.slots g.starts g.ends g.avail g.capacities g.priors g.fairness 0)
sound-again g s = record {
  somebody = s.somebody;
  few = s.few;
  slots-few = s.slots-few;
  words = s.words;
  capacities-room = s.capacities-room;
  priors-room = s.priors-room;
  figures = s.figures;
  flag = s.flag;
  edition-known = omega arith;
  ordered = s.ordered;
}

-- the standings are small
pub small-in : (g : Given) {ls : List Standing} → ls ≡ standings_in g ++ replicate (32 - g.people) pad → Small ls
small-in g e = rw e (small-standings (standing_in g) (λ k. refl) g.people (32 - g.people))

-- nobody is pinned yet but the standings that take no part
pub zero_in : (g : Given) {ls : List Standing} → ls ≡ standings_in g ++ replicate (32 - g.people) pad → PinnedZero ls
zero_in g e = rw e (zero-standings (standing_in g) (λ k. refl) g.people (32 - g.people))

-- a number that is given, and the buffer as it was
meets-kept : (g : Given) (out : List ℤ) {n : ℕ} → n ≡ number_of (targets_row g (length out)) → (n ≡ 0 → ⊥) → Meets g out n out
unfolding compute_targets
meets-kept g out e h = (e, sym (kept _ out (targets_in g ++ drop g.people out) (λ z. h (e ∙ z))))

-- refused before the work
pub meets-refused : (g : Given) (out : List ℤ) {n : ℕ} → n ≡ number_of (checks_row g (length out)) → (n ≡ 0 → ⊥) → Meets g out n out
meets-refused g out e h = meets-kept g out (e ∙ sym (row-refused g (length out) (λ z. h (e ∙ z)))) h

-- the checks found nothing
module _ (g : Given) (out : List ℤ) {r : Refusal} (E : r ≡ refusal_of (checks_row g (length out))) (Z : r.number ≡ 0) where
  clear : number_of (checks_row g (length out)) ≡ 0
  clear = sym (said _ E) ∙ Z

  pub fine : Accepted g (length out)
  fine = accepted g (length out) clear

  sound : Sound g
  sound = fine.sound

  -- what the calls are asked for
  pub work-asks : {ls : List Standing} → ls ≡ standings_in g ++ replicate (32 - g.people) pad →
      (0 < g.people) × (g.people ≤ 32) × Small ls × PinnedZero ls
  work-asks L = (sound.somebody, sound.few, small-in g L, zero_in g L)

  module _ {d : ℕ} {ls : List Standing} {a : Option (List ℤ)} (D : d ≡ demand_when_ok g.slots g.starts g.ends)
      (L : ls ≡ standings_in g ++ replicate (32 - g.people) pad)
      (A : a ≡ targets_left g.edition g.people d (passes (g.people + 1) d (again ls))) where
    -- the answer, of what is lent
    abbrev people-in : length (standings_in g) ≡ g.people
    people-in = length-up_to (standing_in g) g.people

    answer : a ≡ targets_left g.edition g.people (demand_in g)
        (passes (g.people + 1) (demand_in g) (again (standings_in g ++ replicate (32 - g.people) pad)))
    answer = rw (← demand-is g sound D, ← L) A

    -- refused by the work
    pub meets-eight : a ≡ None → Meets g out 8 out
    meets-eight r =
        let u = none-unguarded g.edition g.people (32 - g.people) (demand_in g) (standings_in g) people-in (sym r ∙ answer) in
        meets-kept g out (sym (row-eight g (length out) clear (breaks-guard g (length out) sound.ordered u))) (λ z. omega arith)

    -- done
    pub meets-done : {ts : List ℤ} → a ≡ Some ts → {o : List ℤ} → o ≡ take g.people ts ++ drop g.people out → Meets g out 0 o
    unfolding compute_targets
    meets-done r e =
        let s = sym r ∙ answer in
        let u = some-guarded g.edition g.people (32 - g.people) (demand_in g) (standings_in g) people-in s in
        let t = some-targets g.edition g.people (32 - g.people) (demand_in g) (standings_in g) people-in s sound.somebody in
        let z = with-guard g (length out) (keeps-guard g (length out) u) ∙ clear in
        (sym z, e ∙ ap (λ (x : List ℤ). x ++ drop g.people out) t ∙ sym (worked _ out (targets_in g ++ drop g.people out) z))
