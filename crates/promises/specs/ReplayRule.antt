-- The function replay_block, by its rule: when it refuses, what a C caller reads, a night that is worked out, and two wrong replays that
-- the rule shuts out. Assumes nothing.
use Rattle.std.specs.Prelude.{◌≡◌, cond, List, [], ◌∷◌, ◌++◌, ◌↔◌, ℕ, ◌<◌, eqb, get_or, Result, Ok, Err}
use Rattle.paper.specs.declared.Refusal.{Refusal}
use Rattle.owners.specs.Derived.{Derived, plan, derived}
use Rattle.rota.specs.declared.replay.Replayed.{Replayed}
use Rattle.rota.specs.declared.replay.Replayed.TheVariants as variant
use Rattle.rota.specs.Plays.{owners_after}
use Rattle.boltraven_c.specs.Replay.{replay_number, replay_place}
use Rattle.promises.specs.Entries.{Call, row_of, board_in}
use Rattle.promises.specs.Marked.{words}
use Rattle.promises.specs.ManyCalls.{Part, part_call}
use Rattle.promises.specs.Exports.{read_refusal}
use Rattle.promises.specs.Table.{rules, Refuses}
use Rattle.promises.specs.Replay.{Replay, replay_of, block_draws, BlocksByRule}

-- the number of its refusal; 0 where it agrees or differs
abbrev pub refused_by : Result Replayed Refusal → ℕ
refused_by (Ok variant.Agrees) = 0
refused_by (Ok (variant.Differs p)) = 0
refused_by (Err f) = f.number

-- a recorded answer that is none
abbrev pub NoAnswer : Part → Type 0
NoAnswer b = (i : ℕ) × (i < b.count) × (2 < get_or b.answers i 0)

-- the answer that a C caller reads of its number and of the place beside it
abbrev pub read_replayed : ℕ → ℕ → Result Replayed Refusal
read_replayed v place = cond (eqb v 0) (Ok variant.Agrees) (cond (eqb v 65536) (Ok (variant.Differs place)) (Err (read_refusal v)))

pub record ReplayRefuses : Type 0 where
  -- 13, both ways, whatever else is lent
  pub thirteen : (c : Call) (o : List ℕ) (D : Derived) (b : Part) → (refused_by (replay_of c o D b).answer ≡ 13) ↔ NoAnswer b
  -- else by the table of a play whose answers are the recorded ones; refused, the rota is as it was
  pub as-play : (c : Call) (o : List ℕ) (D : Derived) (b : Part) → (NoAnswer b → ⊥)
      → Refuses {A = List ℕ × Derived} (rules (row_of (part_call c o D b))) (refused_by (replay_of c o D b).answer) (o, D)
      (let y = replay_of c o D b in (y.owners, y.derived))
  -- .. and by 13 it is too
  pub kept : (c : Call) (o : List ℕ) (D : Derived) (b : Part) → (refused_by (replay_of c o D b).answer ≡ 0 → ⊥)
      → ((replay_of c o D b).owners ≡ o) × ((replay_of c o D b).derived ≡ D)
  -- in C: the answer that was meant, whatever was lent for the place
  pub reads : (c : Call) (o : List ℕ) (D : Derived) (b : Part) (was : ℕ)
      → let r = (replay_of c o D b).answer in read_replayed (replay_number r) (replay_place was r) ≡ r

-- ---- a night: two slots of an hour, each a unit; person 0 is available for both, person 1 for the second; person 0 owns both

abbrev pub night : Call
night = record {
  plan = plan 2 2 (0 ∷ 60 ∷ []) (60 ∷ 120 ∷ []);
  avail = words 3 ++ words 2;
  units = 2;
  begins = 0 ∷ 1 ∷ [];
  frozen = words 0;
  count = 0;
  draws = [];
  firsts = [];
  seconds = [];
  owners = 0 ∷ 0 ∷ [];
  derived = derived (words 3 ++ words 0) (120 ∷ 0 ∷ []) (0 ∷ 0 ∷ []);
  answers = [];
}

-- the first block: (0, 1, 1), which acted
abbrev pub first_block : Part
first_block = record { count = 1; draws = 0 ∷ []; firsts = 1 ∷ []; seconds = 1 ∷ []; answers = 0 ∷ [] }

-- the second: (0, 0, 1), choice outside; (0, 1, 0), recorded as no move, but it acts; (0, 1, 1)
abbrev pub second_block : Part
second_block = record {
  count = 3;
  draws = 0 ∷ 0 ∷ 0 ∷ [];
  firsts = 0 ∷ 1 ∷ 1 ∷ [];
  seconds = 1 ∷ 0 ∷ 1 ∷ [];
  answers = 2 ∷ 1 ∷ 0 ∷ [];
}

-- the first agrees and hands unit 1 to person 1; the second differs at place 1, whose draw is played: unit 1 is person 0's again
pub record NightIs (R : Replay) : Type 0 where
  pub agrees : R night night.owners night.derived first_block
      ≡ record { answer = Ok variant.Agrees; owners = 0 ∷ 1 ∷ []; derived = derived (words 1 ++ words 2) (60 ∷ 60 ∷ []) (0 ∷ 0 ∷ []) }
  pub differs : R night (0 ∷ 1 ∷ []) (derived (words 1 ++ words 2) (60 ∷ 60 ∷ []) (0 ∷ 0 ∷ [])) second_block
      ≡ record { answer = Ok (variant.Differs 1); owners = 0 ∷ 0 ∷ []; derived = derived (words 3 ++ words 0) (120 ∷ 0 ∷ []) (0 ∷ 0 ∷ []) }

-- ---- wrong replays, on that second block

abbrev pub second_owners : Replay → List ℕ
second_owners R = (R night (0 ∷ 1 ∷ []) (derived (words 1 ++ words 2) (60 ∷ 60 ∷ []) (0 ∷ 0 ∷ [])) second_block).owners

-- the whole block is played after the difference: its last draw gives unit 1 to person 1 again
abbrev pub WholePlayed : Replay → Type 0
WholePlayed R = second_owners R ≡ owners_after (board_in night) (0 ∷ 1 ∷ []) (block_draws second_block)

-- the differing draw is left out
abbrev pub LeftOut : Replay → Type 0
LeftOut R = second_owners R ≡ 0 ∷ 1 ∷ []

abbrev pub WholeBreaks : Type 0
WholeBreaks = (R : Replay) → BlocksByRule R → WholePlayed R → ⊥

abbrev pub LeftOutBreaks : Type 0
LeftOutBreaks = (R : Replay) → BlocksByRule R → LeftOut R → ⊥
