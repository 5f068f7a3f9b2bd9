-- A single assign: what its row leaves known, and the outcome. Assumes nothing.
use mathlib.Core.Path.{◌≡◌, refl, ap, ◌∙◌}
use mathlib.Core.Bool.{true}
use mathlib.Core.List.{List, [], ◌∷◌}
use Prim.Native.Nat.{ℕ, ◌+◌, ◌<◌}
use native.Mathlib.Omega.{arith}
use borrow.Author.Tests.{ltb-true}
use lib.Dec.{ltb}
use lib.ListN.{get_or, set}
use Rattle.paper.specs.Limits.{test, number_of}
use Rattle.paper.specs.declared.Refusal.{Refusal}
use Rattle.paper.specs.Rows.{refusal_of}
use Rattle.paper.proofs.Logic.{and-true}
use Rattle.paper.proofs.Count.{fill_none, fill_more}
use Rattle.paper.proofs.Rows.{Checked, checked-more, passed}
use Rattle.owners.specs.Derived.{Plan, Derived, known_by, afresh}
use Rattle.owners.specs.Inside.{InStep, OneOwner, HandedOver}
use Rattle.owners.specs.Recount.{available_for, recount_tests, recounts}
use Rattle.owners.specs.Entries.{lent_row, recount_slots_row, Ended}
use Rattle.owners.proofs.Entered.{LentRight, lent-right, Recounted, recount-says, recount-step, ended-refused, ended-yes}
use Rattle.rota.specs.Entries.{assign_row, assigned}

module _ (P : Plan) (avail o : List ℕ) (D : Derived) where
  module _ (k w : ℕ) where
    -- the recount's row, then the three tests of assign
    pub assign-number : {f r : Refusal} → f ≡ refusal_of (recount_slots_row P avail o D)
        → Checked f (test 11 (ltb k P.slots) ∷ test 11 (known_by P.people w) ∷ test 12 (available_for avail w k) ∷ []) r
        → r ≡ refusal_of (assign_row P avail o D k w)
    unfolding assign_row recount_slots_row lent_row recount_tests
    assign-number e q = checked-more (recount_slots_row P avail o D) _ refl e q

    -- what assign may do where nothing stands against it
    pub record Asks : Type 0 where
      pub on : LentRight P avail o D
      pub recount : Recounted P avail 0 [] o D
      pub slot : k < P.slots
      pub known : known_by P.people w ≡ true
      pub available : available_for avail w k ≡ true

    pub assign-asks : number_of (assign_row P avail o D k w) ≡ 0 → Asks
    unfolding assign_row recount_slots_row lent_row recount_tests recounts
    assign-asks z =
        let h = passed (assign_row P avail o D k w) refl z in
        record {
          on = lent-right P avail o D (h 0) (h 1) (h 4) (h 5) (h 6) (h 7) (h 8) (h 10);
          recount =
              recount-says P avail 0 [] o D
              (and-true _ _ (h 11) (and-true _ _ (h 12) (and-true _ _ (h 13) (and-true _ _ (h 14) (and-true _ _ (h 15) (h 16))))));
          slot = ltb-true _ _ (h 17);
          known = h 18;
          available = h 19;
        }

    pub asks-one : Asks → OneOwner o P.slots k (k + 1)
    asks-one A =
        record {
          some = omega arith;
          within = omega (arith, A.slot);
          each = λ j x y. let q : j ≡ k = omega arith in ap (λ (i : ℕ). get_or o i 0) q;
        }

    pub asks-in-step : Asks → InStep P o D
    asks-in-step A = recount-step P avail 0 [] o D A.on.room A.recount

    module _ (f : Refusal) (e : f ≡ refusal_of (assign_row P avail o D k w)) where
      pub assigned-refused : (f.number ≡ 0 → ⊥) → Ended (assigned P avail o D k w) f o D []
      unfolding assigned
      assigned-refused z = ended-refused f _ e o D [] _ _ _ z

      pub assigned-yes : (o' : List ℕ) (D' : Derived) → f.number ≡ 0 → HandedOver P o D k (k + 1) w o' D'
          → Ended (assigned P avail o D k w) f o' D' []
      unfolding assigned
      assigned-yes o' D' z O =
          let q : o' ≡ set o k w = O.owners ∙ fill_more w k k o (omega arith) ∙ ap (λ (l : List ℕ). set l k w) (fill_none w k o) in
          ended-yes f _ e o D [] _ _ _ z o' D' [] q (O.derived ∙ ap (λ (l : List ℕ). afresh P l D) q) refl
