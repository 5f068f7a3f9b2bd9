-- The outcome of retiring, from what the code's calls say. Assumes nothing.
use Rattle.std.specs.Prelude.{Ok, Err}
use mathlib.Core.Path.{◌≡◌, sym, ap, ap₂, ◌∙◌}
use mathlib.Core.Bool.{true, false}
use mathlib.Core.List.{List}
use Prim.Native.Nat.{ℕ, ◌+◌, ◌-◌, ◌≤◌, ◌<◌}
use native.Mathlib.Omega.{arith}
use borrow.Author.Tests.{leb-true, eq-eqb, ne_eqb}
use lib.Dec.{eqb, leb}
use lib.ListN.{length}
use Rattle.paper.specs.Limits.{last_minute, nobody, number_of}
use Rattle.paper.specs.declared.Refusal.{Refusal}
use Rattle.paper.specs.Rows.{refusal_of}
use Rattle.paper.specs.Count.{all, over}
use Rattle.paper.proofs.Logic.{both}
use Rattle.paper.proofs.Rows.{said}
use Rattle.paper.proofs.Count.{all-each, length_over}
use Rattle.owners.specs.Derived.{plan, Derived, derived, worked, uncovered, afresh}
use Rattle.owners.specs.Entries.{from_slots_row}
use Rattle.owners.proofs.Scans.{first-is}
use Rattle.owners.proofs.Entered.{recount-says}
use Rattle.retire.specs.declared.Retiring.TheVariants as retiring
use Rattle.retire.specs.Rolled.{entry, rolled_column}
use Rattle.retire.specs.Going.{gone_units, frozen_whole, gone_slots, start_from, prior_then, retired_then, priors_then, retired_column}
use Rattle.retire.specs.New.{New}
use Rattle.retire.specs.Outcome.{Columns, columns, Held, held, plan_of, units_gone, slots_gone, slots_kept, slots_then, units_then}
use Rattle.retire.specs.Outcome.{starts_then, ends_then, avail_then, begins_then, frozen_after, owners_then, plan_then, held_then}
use Rattle.retire.specs.Outcome.{retire_row, figures_then_ok, retire_of, Ended}
use Rattle.retire.specs.Inside.{plan_held, PlanRight, PlanMoved}
use Rattle.retire.proofs.Asks.{AskedRight, whole_says}
use Rattle.retire.proofs.Passes.{RetireRight, retire-says, plan-right, then-passes}
use Rattle.retire.proofs.Moved.{gone-below}

-- no more units go than there are
pub gone-most : (H : Held) → units_gone H ≤ H.units
unfolding gone_units
gone-most H = (first-is H.units (frozen_whole H.slots H.units H.lent.begins H.lent.frozen)).within

-- ---- the four answers

module _ (H : Held) (N : New) (f : Refusal) (ef : f ≡ refusal_of (retire_row H N)) where
  passes : f.number ≡ 0 → eqb (refusal_of (retire_row H N)).number 0 ≡ true
  passes z = eq-eqb _ 0 (sym (ap (λ (x : Refusal). x.number) ef) ∙ z)

  pub end_refused : (f.number ≡ 0 → ⊥) → Ended (retire_of H N) (Err f) H.lent
  unfolding retire_of
  end_refused n =
      let no : eqb (refusal_of (retire_row H N)).number 0 ≡ false = ne_eqb _ 0 (λ z. n (ap (λ (x : Refusal). x.number) ef ∙ z)) in
      record { said = simp no (ap Err ef); left = simp no }

  module _ (z : f.number ≡ 0) (went : ℕ) (ew : went ≡ units_gone H) where
    pub end-nothing : went ≡ 0 → Ended (retire_of H N) (Ok retiring.Nothing) H.lent
    unfolding retire_of
    end-nothing y =
        let no : eqb (units_gone H) 0 ≡ true = eq-eqb _ 0 (sym ew ∙ y) in
        record { said = simp (passes z, no); left = simp (passes z, no) }

    pub end-everything : (went ≡ 0 → ⊥) → went ≡ H.units → Ended (retire_of H N) (Ok retiring.Everything) H.lent
    unfolding retire_of
    end-everything n y =
        let some : eqb (units_gone H) 0 ≡ false = ne_eqb _ 0 (λ q. n (ew ∙ q)) in
        let whole : eqb (units_gone H) H.units ≡ true = eq-eqb _ _ (sym ew ∙ y) in
        record { said = simp (passes z, some, whole); left = simp (passes z, some, whole) }

    module _ (some : went ≡ 0 → ⊥) (rest : went ≡ H.units → ⊥) where
      right : RetireRight H N
      right = retire-says H N (sym (said (retire_row H N) ef) ∙ z)

      pub plan-of : PlanRight H N
      plan-of = plan-right H N right (λ q. some (ew ∙ q)) (λ q. rest (ew ∙ q)) (gone-most H)

      pub asked_of : AskedRight H N
      asked_of = right.asked

      pub end-retired : (gone n m : ℕ) (C : Columns) → gone ≡ slots_gone H → n ≡ slots_then H N → m ≡ units_then H N → C ≡ (held_then H N).lent
          → Ended (retire_of H N) (Ok (retiring.Retired gone n m)) C
      unfolding retire_of
      end-retired gone n m C eg en em ec =
          let a : eqb (units_gone H) 0 ≡ false = ne_eqb _ 0 (λ q. some (ew ∙ q)) in
          let b : eqb (units_gone H) H.units ≡ false = ne_eqb _ _ (λ q. rest (ew ∙ q)) in
          record {
            said = simp (passes z, a, b) (ap (λ (x : ℕ). Ok (retiring.Retired x n m)) eg ∙ ap₂ (λ (x y : ℕ). Ok (retiring.Retired (slots_gone H) x y)) en em);
            left = simp (passes z, a, b) ec;
          }

      -- ---- what the work's calls ask

      module _ (gone : ℕ) (eg' : gone ≡ start_from H.slots H.units H.lent.begins went) where
        pub gone-is : gone ≡ slots_gone H
        unfolding gone_slots
        gone-is = eg' ∙ ap (start_from H.slots H.units H.lent.begins) ew

        pub gone-under : gone ≤ H.slots
        gone-under = omega (arith, gone-is, gone-below H N plan-of)

        pub gone-few : gone ≤ 1024
        gone-few = omega (arith, gone-under, plan-of.slots-few)

        figures-parts : (all H.people (λ p. leb (prior_then (plan_of H) H.lent.owners H.lent.priors (slots_gone H) p) last_minute) ≡ true)
            × (leb (retired_then (plan_of H) H.lent.owners H.lent.retired (slots_gone H)) last_minute ≡ true)
        unfolding figures_then_ok
        figures-parts = both (all H.people _) _ right.figures

        prior-by : (p : ℕ) → prior_then (plan H.people gone H.lent.starts H.lent.ends) H.lent.owners H.lent.priors gone p
            ≡ prior_then (plan_of H) H.lent.owners H.lent.priors (slots_gone H) p
        unfolding prior_then
        prior-by p =
            ap (λ (x : ℕ). entry H.lent.priors p + worked (plan H.people x H.lent.starts H.lent.ends) H.lent.owners p) gone-is

        retired-by : retired_then (plan H.people gone H.lent.starts H.lent.ends) H.lent.owners H.lent.retired gone
            ≡ retired_then (plan_of H) H.lent.owners H.lent.retired (slots_gone H)
        unfolding retired_then
        retired-by =
            ap (λ (x : ℕ). entry H.lent.retired 0 + uncovered (plan H.people x H.lent.starts H.lent.ends) H.lent.owners) gone-is

        pub priors-low : (p : ℕ) → p < H.people
            → prior_then (plan H.people gone H.lent.starts H.lent.ends) H.lent.owners H.lent.priors gone p ≤ last_minute
        priors-low p h =
            omega (
              arith,
              prior-by p,
              leb-true (prior_then (plan_of H) H.lent.owners H.lent.priors (slots_gone H) p) last_minute (all-each H.people (λ q. leb (prior_then (plan_of H) H.lent.owners H.lent.priors (slots_gone H) q) last_minute)
                  figures-parts.0 p h),
            )

        pub retired-low : retired_then (plan H.people gone H.lent.starts H.lent.ends) H.lent.owners H.lent.retired gone ≤ last_minute
        retired-low = omega (arith, retired-by, leb-true (retired_then (plan_of H) H.lent.owners H.lent.retired (slots_gone H)) last_minute figures-parts.1)

        pub priors-are : (l : List ℕ) → l ≡ priors_then (plan H.people gone H.lent.starts H.lent.ends) H.lent.owners H.lent.priors gone
            → l ≡ priors_then (plan_of H) H.lent.owners H.lent.priors (slots_gone H)
        unfolding priors_then prior_then
        priors-are l e =
            e ∙ ap (λ (x : ℕ). over (λ p. entry H.lent.priors p + worked (plan H.people x H.lent.starts H.lent.ends) H.lent.owners p)
            H.people H.lent.priors) gone-is

        pub retired-are : (l : List ℕ) → l ≡ retired_column (plan H.people gone H.lent.starts H.lent.ends) H.lent.owners H.lent.retired gone
            → l ≡ retired_column (plan_of H) H.lent.owners H.lent.retired (slots_gone H)
        unfolding retired_column
        retired-are l e = e ∙ ap (λ (x : ℕ). over (λ _. x) 1 H.lent.retired) retired-by

        kept-is : H.slots - gone ≡ slots_kept H
        kept-is = ap (λ (x : ℕ). H.slots - x) gone-is

        -- slots, units, availability and flags have moved: owners may follow
        module _ (n m : ℕ) (s e a b g : List ℕ) (M : PlanMoved H N n m s e a b g) where
          owners-by : rolled_column gone (H.slots - gone) n (λ _. nobody) H.lent.owners ≡ owners_then H N
          owners-by =
              ap₂ (λ (x y : ℕ). rolled_column x y n (λ _. nobody) H.lent.owners) gone-is kept-is
              ∙ ap (λ (x : ℕ). rolled_column (slots_gone H) (slots_kept H) x (λ _. nobody) H.lent.owners) M.slots-are

          pub owners-room : (gone + (H.slots - gone) ≤ length H.lent.owners) × (n ≤ length H.lent.owners)
          owners-room = (
            omega (arith, gone-under, plan-of.slots-few, asked_of.owners-room),
            omega (arith, M.slots-are, plan-of.fits, asked_of.owners-room),
          )

          plan-by : plan H.people n s e ≡ plan_then H N
          plan-by =
              ap (λ (x : ℕ). plan H.people x s e) M.slots-are
              ∙ ap₂ (λ (x y : List ℕ). plan H.people (slots_then H N) x y) M.starts-are M.ends-are

          pub owners-pass : number_of (from_slots_row (plan H.people n s e) a (rolled_column gone (H.slots - gone) n (λ _. nobody) H.lent.owners) H.lent.derived) ≡ 0
          owners-pass =
              ap (λ (x : Rattle.owners.specs.Derived.Plan). number_of (from_slots_row x a (rolled_column gone (H.slots - gone) n (λ _. nobody) H.lent.owners) H.lent.derived)) plan-by
              ∙ ap₂ (λ (x y : List ℕ). number_of (from_slots_row (plan_then H N) x y H.lent.derived)) M.avail-are owners-by
              ∙ then-passes H N plan-of asked_of.owners-room
              (recount-says (plan_of H) H.lent.avail H.units H.lent.begins H.lent.owners H.lent.derived (whole_says H right.whole_is).2) asked_of

          pub all_moved : (o : List ℕ) (D : Derived) (p r : List ℕ) → o ≡ rolled_column gone (H.slots - gone) n (λ _. nobody) H.lent.owners
              → D ≡ afresh (plan H.people n s e) (rolled_column gone (H.slots - gone) n (λ _. nobody) H.lent.owners) H.lent.derived
              → p ≡ priors_then (plan H.people gone H.lent.starts H.lent.ends) H.lent.owners H.lent.priors gone
              → r ≡ retired_column (plan H.people gone H.lent.starts H.lent.ends) H.lent.owners H.lent.retired gone
              → columns s e a b g o D p r ≡ (held_then H N).lent
          unfolding held_then
          all_moved o D p r eo e_d ep er =
              ap₂ (λ (x y : List ℕ). columns x y a b g o D p r) M.starts-are M.ends-are
              ∙ ap₂ (λ (x y : List ℕ). columns (starts_then H N) (ends_then H N) x y g o D p r) M.avail-are M.begins-are
              ∙ ap₂ (λ (x y : List ℕ). columns (starts_then H N) (ends_then H N) (avail_then H N) (begins_then H N) x y D p r) M.frozen-are (eo ∙ owners-by)
              ∙ ap (λ (x : Derived). columns (starts_then H N) (ends_then H N) (avail_then H N) (begins_then H N) (frozen_after H N) (owners_then H N) x p r)
              (e_d ∙ ap₂ (λ (x : Rattle.owners.specs.Derived.Plan) (y : List ℕ). afresh x y H.lent.derived) plan-by owners-by)
              ∙ ap₂ (λ (x y : List ℕ). columns (starts_then H N) (ends_then H N) (avail_then H N) (begins_then H N) (frozen_after H N) (owners_then H N)
              (afresh (plan_then H N) (owners_then H N) H.lent.derived) x y) (priors-are p ep) (retired-are r er)

-- the part of a rota that moves first asks the same
pub plan-part : (people slots units : ℕ) (s e a b f o : List ℕ) (D : Derived) (p r : List ℕ) (N : New)
    → PlanRight (held people slots units (columns s e a b f o D p r)) N → PlanRight (plan_held people slots units s e a b f) N
plan-part people slots units s e a b f o D p r N P = record {
  people-ok = P.people-ok;
  slots-few = P.slots-few;
  starts-room = P.starts-room;
  ends-room = P.ends-room;
  avail-room = P.avail-room;
  begins-room = P.begins-room;
  frozen-room = P.frozen-room;
  right = P.right;
  settings-ok = P.settings-ok;
  slots-ok = P.slots-ok;
  units-ok = P.units-ok;
  fits = P.fits;
  after = P.after;
  some = P.some;
  rest = P.rest;
}

-- and what it becomes is that of the whole
pub part_moved : (people slots units : ℕ) (s e a b f o : List ℕ) (D : Derived) (p r : List ℕ) (N : New) (n m : ℕ) (s' e' a' b' f' : List ℕ)
    → PlanMoved (plan_held people slots units s e a b f) N n m s' e' a' b' f'
    → PlanMoved (held people slots units (columns s e a b f o D p r)) N n m s' e' a' b' f'
part_moved people slots units s e a b f o D p r N n m s' e' a' b' f' M = record {
  slots-are = M.slots-are;
  units-are = M.units-are;
  starts-are = M.starts-are;
  ends-are = M.ends-are;
  avail-are = M.avail-are;
  begins-are = M.begins-are;
  frozen-are = M.frozen-are;
}

pub priors-long : (P : Rattle.owners.specs.Derived.Plan) (o priors : List ℕ) (gone : ℕ) (l : List ℕ) → l ≡ priors_then P o priors gone → length l ≡ length priors
unfolding priors_then
priors-long P o priors gone l e = ap length e ∙ length_over _ P.people priors
