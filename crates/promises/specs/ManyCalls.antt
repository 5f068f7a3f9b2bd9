-- Demand 3's last sentence over any number of calls: draws played part by part, each part in a call with draws and answers of its own, end
-- as in one call; and over parts that together pass the limit of one call, as the rules give for all draws as one list. Assumes nothing.
use Rattle.std.specs.Prelude.{◌≡◌, List, [], ◌∷◌, ◌++◌, ℕ, ◌≤◌, length, take}
use Rattle.paper.specs.Limits.{draws_most}
use Rattle.rota.specs.Moves.{Draw}
use Rattle.rota.specs.Plays.{draws_of, owners_after, answers}
use Rattle.owners.specs.Derived.{Derived, afresh}
use Rattle.rota.specs.declared.draws.Draw as struct
use Rattle.rota.specs.Draws.{draws, firsts, seconds}
use Rattle.promises.specs.Entries.{Call, Component, with_draws, on_rota, board_in}
use Rattle.promises.specs.Rota.{Words}

-- the draws of one call, in three columns, and the buffer that its answers go to
pub record Part : Type 0 where
  pub count : ℕ
  pub draws : List ℕ
  pub firsts : List ℕ
  pub seconds : List ℕ
  pub answers : List ℕ

-- a list of structs, and such a buffer
abbrev pub part_of : List struct.Draw → List ℕ → Part
part_of ds x = record { count = length ds; draws = draws ds; firsts = firsts ds; seconds = seconds ds; answers = x }

-- the call that plays a part on a rota; slots, units, availability and flags are those of c
abbrev pub part_call : Call → List ℕ → Derived → Part → Call
part_call c o D p = on_rota (with_draws c p.count p.draws p.firsts p.seconds) o D p.answers

-- all draws of all parts, as one list
unfoldable pub draws_of_parts : List Part → List Draw
draws_of_parts [] = []
draws_of_parts (p ∷ ps) = draws_of p.draws p.firsts p.seconds p.count ++ draws_of_parts ps

-- every part is accepted, each on what the one before it left
unfoldable pub AllAccepted : Component → Call → List ℕ → Derived → List Part → Type 0
AllAccepted C c o D [] = Unit
AllAccepted C c o D (p ∷ ps) =
    let y = C.play (part_call c o D p) in (y.refusal.number ≡ 0) × AllAccepted C c y.owners y.derived ps

-- what the last one leaves, and the answers of all
unfoldable pub last_owners : Component → Call → List ℕ → Derived → List Part → List ℕ
last_owners C c o D [] = o
last_owners C c o D (p ∷ ps) = let y = C.play (part_call c o D p) in last_owners C c y.owners y.derived ps

unfoldable pub last_derived : Component → Call → List ℕ → Derived → List Part → Derived
last_derived C c o D [] = D
last_derived C c o D (p ∷ ps) = let y = C.play (part_call c o D p) in last_derived C c y.owners y.derived ps

unfoldable pub all_answers : Component → Call → List ℕ → Derived → List Part → List ℕ
all_answers C c o D [] = []
all_answers C c o D (p ∷ ps) =
    let y = C.play (part_call c o D p) in take p.count y.answers ++ all_answers C c y.owners y.derived ps

-- parts of any number and length, each accepted, end in the rota that the rules give for all draws as one list, worked out afresh
pub record EndsAsOne (C : Component) (c : Call) (o : List ℕ) (D : Derived) (ps : List Part) : Type 0 where
  pub owners : last_owners C c o D ps ≡ owners_after (board_in c) o (draws_of_parts ps)
  pub derived : last_derived C c o D ps ≡ afresh c.plan (last_owners C c o D ps) D
  pub answers : all_answers C c o D ps ≡ answers (board_in c) o (draws_of_parts ps)

abbrev pub PartsEndAsOne : Component → Type 0
PartsEndAsOne C =
    (c : Call) (o : List ℕ) (D : Derived) (p : Part) (ps : List Part) → Words D.sets → AllAccepted C c o D (p ∷ ps)
    → EndsAsOne C c o D (p ∷ ps)

-- w has the draws of all parts, no more than one call takes, and room for them and their answers
pub record Whole (w : Part) (ps : List Part) : Type 0 where
  pub together : draws_of w.draws w.firsts w.seconds w.count ≡ draws_of_parts ps
  pub few : w.count ≤ draws_most
  pub draws : w.count ≤ length w.draws
  pub firsts : w.count ≤ length w.firsts
  pub seconds : w.count ≤ length w.seconds
  pub answers : w.count ≤ length w.answers

-- .. then one call of all of them is accepted too, and ends alike
pub record PlayedAsOne (C : Component) (c : Call) (o : List ℕ) (D : Derived) (w : Part) (ps : List Part) : Type 0 where
  pub accepted : (C.play (part_call c o D w)).refusal.number ≡ 0
  pub owners : (C.play (part_call c o D w)).owners ≡ last_owners C c o D ps
  pub derived : (C.play (part_call c o D w)).derived ≡ last_derived C c o D ps
  pub answers : take w.count (C.play (part_call c o D w)).answers ≡ all_answers C c o D ps

abbrev pub ManyCalls : Component → Type 0
ManyCalls C =
    (c : Call) (o : List ℕ) (D : Derived) (p : Part) (ps : List Part) → Words D.sets → AllAccepted C c o D (p ∷ ps)
    → (w : Part) → Whole w (p ∷ ps) → PlayedAsOne C c o D w (p ∷ ps)

-- lists of structs, cut anywhere: the list of both has the draws of both
abbrev pub StructsCut : Type 0
StructsCut =
    (ds es : List struct.Draw) (x y z : List ℕ) → length (ds ++ es) ≤ draws_most → length (ds ++ es) ≤ length z
    → Whole (part_of (ds ++ es) z) (part_of ds x ∷ part_of es y ∷ [])
