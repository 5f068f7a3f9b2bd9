-- A way back, always: a swap of units that acts undoes itself when it is played at once again; and wherever a list of draws came to, reassigns
-- of the units whose owner differs bring the start back, every lent byte of it. Assumes nothing.
use Rattle.std.specs.Prelude.{◌≡◌, true, List, [], ◌∷◌, ◌++◌, ℕ, suc, ◌≤◌, ◌<◌, length, get_or}
use Rattle.paper.specs.Limits.{nobody}
use Rattle.owners.specs.Derived.{Derived, plan, derived}
use Rattle.rota.specs.Board.{Board, owner_of}
use Rattle.rota.specs.Moves.{Draw, domain_of}
use Rattle.rota.specs.Plays.{draws_of}
use Rattle.rota.specs.Acts as acts
use Rattle.wayback.specs.Back as wayback
use Rattle.wayback.specs.Back.{Differ, TakesBack, differing, back}
use Rattle.promises.specs.Entries.{Call, Component, no_of, on_rota, board_in}
use Rattle.promises.specs.Marked.{apart, words, two_units}
use Rattle.promises.specs.MoveRules.{draw_at, found_at}
use Rattle.promises.specs.Rota.{Words, before, after}
use Rattle.promises.specs.ManyCalls.{Part, part_call, AllAccepted, last_owners, last_derived}

-- ---- a swap of units, played at once again

-- the same call on what it leaves
abbrev pub again : Component → Call → Call
again C c = let y = C.play c in on_rota c y.owners y.derived y.answers

-- it is accepted, its draw acts, and the rota is as before both: owners and what is derived from them, whatever is lent past them included
pub record ComesBack (C : Component) (c : Call) : Type 0 where
  pub accepted : (C.play (again C c)).refusal.number ≡ 0
  pub acts : get_or (C.play (again C c)).answers 0 0 ≡ 0
  pub owners : (C.play (again C c)).owners ≡ c.owners
  pub derived : (C.play (again C c)).derived ≡ c.derived
  pub answers : (C.play (again C c)).answers ≡ (C.play c).answers

-- a swap of units that acts, played at once again, acts too, and owners and all that is derived from them are as before both
abbrev pub SwapsComeBack : Component → Type 0
SwapsComeBack C =
    (c : Call) → no_of c ≡ 0 → Words c.derived.sets → c.count ≡ 1 → 35 ≤ (draw_at c 0).kind → (draw_at c 0).kind < 60
    → get_or (C.play c).answers 0 0 ≡ 0 → ComesBack C c

-- anywhere in an accepted list: the same swap of units as the draw before it, which acts, acts too and leaves what that one found
abbrev pub SwapsUndone : Type 0
SwapsUndone =
    (c : Call) → no_of c ≡ 0 → (i : ℕ) → 35 ≤ (draw_at c i).kind → (draw_at c i).kind < 60 → draw_at c (suc i) ≡ draw_at c i
    → acts.Acts (board_in c) (found_at c i) (draw_at c i)
    → acts.Acts (board_in c) (found_at c (suc i)) (draw_at c (suc i)) × (found_at c (suc (suc i)) ≡ found_at c i)

-- "This isn't claimed for swapped runs": three units of one slot, owners 0 1 0; (75, 0, 1) acts and leaves 1 0 0; played again it acts and
-- leaves 0 1 1, for the run of unit 1 has grown together with unit 2
abbrev pub three_units : Call
three_units = record {
  plan = plan 2 3 (0 ∷ 60 ∷ 120 ∷ []) (60 ∷ 120 ∷ 180 ∷ []);
  avail = words 7 ++ words 7;
  units = 3;
  begins = 0 ∷ 1 ∷ 2 ∷ [];
  frozen = words 0;
  count = 1;
  draws = 75 ∷ [];
  firsts = 0 ∷ [];
  seconds = 1 ∷ [];
  owners = 0 ∷ 1 ∷ 0 ∷ [];
  derived = derived (words 5 ++ words 2) (120 ∷ 60 ∷ []) (0 ∷ 0 ∷ []);
  answers = 9 ∷ [];
}

pub record RunsDont (C : Component) : Type 0 where
  pub accepted : (no_of three_units ≡ 0) × ((C.play (again C three_units)).refusal.number ≡ 0)
  pub acts : ((C.play three_units).answers ≡ 0 ∷ []) × ((C.play (again C three_units)).answers ≡ 0 ∷ [])
  pub first : (C.play three_units).owners ≡ 1 ∷ 0 ∷ 0 ∷ []
  pub second : (C.play (again C three_units)).owners ≡ 0 ∷ 1 ∷ 1 ∷ []

-- a swap that moved one owner only: owners 0 and 1, (35, 0, 1) acts and leaves 1 and 1, where by the rule the same draw is no move
abbrev pub swap_two : Call
swap_two = two_units apart 0 1 (35 ∷ []) (0 ∷ []) (1 ∷ []) record { owners = []; sets = []; minutes = []; totals = []; answers = 9 ∷ [] }

pub record MovesOneOnly (C : Component) : Type 0 where
  pub acts : get_or (C.play swap_two).answers 0 0 ≡ 0
  pub owners : (C.play swap_two).owners ≡ 1 ∷ 1 ∷ []
  pub no_move : get_or (C.play (again C swap_two)).answers 0 0 ≡ 1

-- it would break the theorem
abbrev pub OneOnlyBreaks : Type 0
OneOnlyBreaks = (C : Component) → SwapsComeBack C → MovesOneOnly C → ⊥

-- ---- reassigns of the units whose owner differs

-- the list: "one for each such unit and no others", ascending, each draw 0 with the place of the owner in a in the unit's domain
pub record BackIs (B : Board) (a o : List ℕ) : Type 0 where
  pub one_each : TakesBack B a o (back B a o)
  pub draw-0 : (i : ℕ) → i < length (back B a o) → (wayback.draw_at (back B a o) i).kind ≡ 0
  pub ascending : (i j : ℕ) → i < j → j < length (back B a o)
      → (wayback.draw_at (back B a o) i).first < (wayback.draw_at (back B a o) j).first
  pub in-domain : (i : ℕ) → i < length (back B a o)
      → let d = wayback.draw_at (back B a o) i in
      let w = owner_of B a d.first in
      w < B.people → B.fits w d.first ≡ true
      → (d.second < length (domain_of B d.first)) × (get_or (domain_of B d.first) d.second 0 ≡ w)

abbrev pub BackListed : Type 0
BackListed = (B : Board) (a o : List ℕ) → BackIs B a o

-- any such list has as many draws as there are units whose owner differs
abbrev pub AsManyAsDiffer : Type 0
AsManyAsDiffer = (B : Board) (a o : List ℕ) (ds : List Draw) → TakesBack B a o ds → length ds ≡ length (differing B a o)

-- "each unit whose owner at the end differs from the start was owned at the start"
abbrev pub OwnedBefore : Board → List ℕ → List ℕ → Type 0
OwnedBefore B a o = (u : ℕ) → Differ B a o u → owner_of B a u ≡ nobody → ⊥

-- the draws of w are these, with room for them and for their answers
pub record Holds (w : Part) (ds : List Draw) : Type 0 where
  pub these : draws_of w.draws w.firsts w.seconds w.count ≡ ds
  pub draws : w.count ≤ length w.draws
  pub firsts : w.count ≤ length w.firsts
  pub seconds : w.count ≤ length w.seconds
  pub answers : w.count ≤ length w.answers

-- played on the rota o, E they are accepted, every one acts, and the rota a, D is back, whatever is lent past it included
pub record BringsBack (C : Component) (c : Call) (a : List ℕ) (D : Derived) (o : List ℕ) (E : Derived) (w : Part) : Type 0 where
  pub accepted : (C.play (part_call c o E w)).refusal.number ≡ 0
  pub act : (i : ℕ) → i < w.count → get_or (C.play (part_call c o E w)).answers i 0 ≡ 0
  pub owners : (C.play (part_call c o E w)).owners ≡ a
  pub derived : (C.play (part_call c o E w)).derived ≡ D

-- "take any accepted list from a rota that passes the recount .. Then there is a list of reassign draws, one for each such unit and no
-- others, in which every draw acts and which brings back the start exactly": it is `back`
abbrev pub WayBack : Component → Type 0
WayBack C =
    (c : Call) → no_of c ≡ 0 → Words c.derived.sets
    → let y = C.play c in
    OwnedBefore (board_in c) c.owners y.owners → (w : Part) → Holds w (back (board_in c) c.owners y.owners)
    → BringsBack C c c.owners c.derived y.owners y.derived w

-- the same of any order of these draws, by any draws that are reassigns, and after any number of calls, whatever they have in all
abbrev pub WayBackInAnyOrder : Component → Type 0
WayBackInAnyOrder C =
    (c : Call) (a : List ℕ) (D : Derived) (p : Part) (ps : List Part) → Words D.sets → AllAccepted C c a D (p ∷ ps)
    → let o = last_owners C c a D (p ∷ ps) in
    OwnedBefore (board_in c) a o → (ds : List Draw) → TakesBack (board_in c) a o ds → (w : Part) → Holds w ds
    → BringsBack C c a D o (last_derived C c a D (p ∷ ps)) w

-- ---- the condition is needed: what became owned stays owned, so that no list at all brings it back

abbrev pub NeverUnowned : Component → Type 0
NeverUnowned C =
    (c : Call) → no_of c ≡ 0 → (k : ℕ) → k < c.plan.slots → before c k ≡ nobody → (after C c k ≡ nobody → ⊥)
    → (w : Part) → (C.play (part_call c (C.play c).owners (C.play c).derived w)).refusal.number ≡ 0
    → (C.play (part_call c (C.play c).owners (C.play c).derived w)).owners ≡ c.owners → ⊥

-- such a rota: two units, nobody owns the first, and (0, 0, 0) gives it to person 0
abbrev pub half_owned : Call
half_owned =
    two_units record { first = 255; second = 1; words0 = 0; words1 = 2; minutes0 = 0; minutes1 = 60; uncovered = 60; unassigned = 1 }
    0 1 (0 ∷ []) (0 ∷ []) (0 ∷ [])
    record { owners = []; sets = []; minutes = []; totals = []; answers = 9 ∷ [] }

pub record ConditionNeeded (C : Component) : Type 0 where
  pub accepted : no_of half_owned ≡ 0
  pub owned : (C.play half_owned).owners ≡ 0 ∷ 1 ∷ []
  pub no_way : (w : Part) → (C.play (part_call half_owned (C.play half_owned).owners (C.play half_owned).derived w)).refusal.number ≡ 0
      → (C.play (part_call half_owned (C.play half_owned).owners (C.play half_owned).derived w)).owners ≡ half_owned.owners → ⊥
