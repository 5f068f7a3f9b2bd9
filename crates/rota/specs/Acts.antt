-- When a draw acts, and what it hands over: for each move the paper's conditions, as a proposition over the board. Assumes nothing.
use Rattle.std.specs.Prelude.{◌≡◌, Bool, true, false, cond, not, ◌&&◌, List, ◌⊎◌, ◌↔◌, ℕ, suc, ◌≤◌, ◌<◌, eqb}
use Rattle.paper.specs.Limits.{nobody}
use Rattle.paper.specs.Count.{count}
use Rattle.rota.specs.Board.{Board, owner_of, RunOf}
use Rattle.rota.specs.Moves.{Draw, covers, between}

-- r is 0 exactly when the draw acts, 2 exactly when its choice lies outside, and 1 exactly when neither
pub record GivenBy (r : ℕ) (Acting Beyond : Type 0) : Type 0 where
  pub acts : (r ≡ 0) ↔ Acting
  pub outside : (r ≡ 2) ↔ Beyond
  pub no_move : (r ≡ 1) ↔ (Acting → ⊥) × (Beyond → ⊥)

-- ---- a choice among the people who pass q, listed ascending

-- person p passes, and as many before them pass as the choice says
pub record Chosen (q : ℕ → Bool) (people choice p : ℕ) : Type 0 where
  pub known : p < people
  pub passes : q p ≡ true
  pub place : count p q ≡ choice

-- somebody passes, and the choice is not below the number of those who do
pub record Outside (q : ℕ → Bool) (people choice : ℕ) : Type 0 where
  pub some : 0 < count people q
  pub beyond : count people q ≤ choice

-- ---- reassign: the unit is not frozen, and the person chosen of those who fit it doesn't own it

pub record ReassignActs (B : Board) (o : List ℕ) (f s : ℕ) : Type 0 where
  pub to : ℕ
  pub unfrozen : B.frozen f ≡ false
  pub chosen : Chosen (λ p. B.fits p f) B.people s to
  pub other : to ≡ owner_of B o f → ⊥

pub record ReassignOutside (B : Board) (f s : ℕ) : Type 0 where
  pub unfrozen : B.frozen f ≡ false
  pub outside : Outside (λ p. B.fits p f) B.people s

-- ---- swap units: neither frozen, two units, both owned, by two people, each of whom fits the other's unit

pub record SwapActs (B : Board) (o : List ℕ) (f s : ℕ) : Type 0 where
  pub first-unfrozen : B.frozen f ≡ false
  pub second-unfrozen : B.frozen s ≡ false
  pub two-units : f ≡ s → ⊥
  pub first-owned : owner_of B o f ≡ nobody → ⊥
  pub second-owned : owner_of B o s ≡ nobody → ⊥
  pub two-owners : owner_of B o f ≡ owner_of B o s → ⊥
  pub first_fits : B.fits (owner_of B o s) f ≡ true
  pub second_fits : B.fits (owner_of B o f) s ≡ true

-- ---- moves of runs

-- unit f is not frozen and is owned, its run is first to last, and no unit of it is frozen
pub record RunMoves (B : Board) (o : List ℕ) (f first last : ℕ) : Type 0 where
  pub unfrozen : B.frozen f ≡ false
  pub owned : owner_of B o f ≡ nobody → ⊥
  pub run : RunOf B.units (owner_of B o) f first last
  pub clear : (u : ℕ) → first ≤ u → u ≤ last → B.frozen u ≡ false

-- somebody else than w who fits each unit from first to last
abbrev pub another : Board → ℕ → ℕ → ℕ → ℕ → Bool
another B w first last p = not (eqb p w) && covers B first last p

-- reassign run: the run may move, and the person is chosen of the others who can cover it
pub record ReassignRunActs (B : Board) (o : List ℕ) (f s : ℕ) : Type 0 where
  pub first : ℕ
  pub last : ℕ
  pub to : ℕ
  pub moves : RunMoves B o f first last
  pub chosen : Chosen (another B (owner_of B o f) first last) B.people s to

pub record ReassignRunOutside (B : Board) (o : List ℕ) (f s : ℕ) : Type 0 where
  pub first : ℕ
  pub last : ℕ
  pub moves : RunMoves B o f first last
  pub outside : Outside (another B (owner_of B o f) first last) B.people s

-- swap runs: both may move, they are two runs of two people, each of whom fits each unit of the other's run
pub record SwapRunsActs (B : Board) (o : List ℕ) (f s : ℕ) : Type 0 where
  pub first : ℕ
  pub last : ℕ
  pub first2 : ℕ
  pub last2 : ℕ
  pub moves : RunMoves B o f first last
  pub moves2 : RunMoves B o s first2 last2
  pub two_runs : first ≡ first2 → ⊥
  pub two-owners : owner_of B o f ≡ owner_of B o s → ⊥
  pub fits : (u : ℕ) → first ≤ u → u ≤ last → B.fits (owner_of B o s) u ≡ true
  pub fits2 : (u : ℕ) → first2 ≤ u → u ≤ last2 → B.fits (owner_of B o f) u ≡ true

-- ---- shift boundary

-- unit f is not frozen and is owned, and its run doesn't start at unit 0 but after unit `before`
pub record Boundary (B : Board) (o : List ℕ) (f before last : ℕ) : Type 0 where
  pub unfrozen : B.frozen f ≡ false
  pub owned : owner_of B o f ≡ nobody → ⊥
  pub run : RunOf B.units (owner_of B o) f (suc before) last

-- second 1: the predecessor is not frozen, and the owner fits it
pub record GrowActs (B : Board) (o : List ℕ) (f s : ℕ) : Type 0 where
  pub choice : s ≡ 1
  pub before : ℕ
  pub last : ℕ
  pub boundary : Boundary B o f before last
  pub before-unfrozen : B.frozen before ≡ false
  pub fits : B.fits (owner_of B o f) before ≡ true

-- second 0: the run has more than one unit, the predecessor is owned, the run's first unit is not frozen, and that owner fits it
pub record ShrinkActs (B : Board) (o : List ℕ) (f s : ℕ) : Type 0 where
  pub choice : s ≡ 0
  pub before : ℕ
  pub last : ℕ
  pub boundary : Boundary B o f before last
  pub more : suc before < last
  pub before-owned : owner_of B o before ≡ nobody → ⊥
  pub first-unfrozen : B.frozen (suc before) ≡ false
  pub fits : B.fits (owner_of B o before) (suc before) ≡ true

pub record ShiftOutside (B : Board) (o : List ℕ) (f s : ℕ) : Type 0 where
  pub unfrozen : B.frozen f ≡ false
  pub owned : owner_of B o f ≡ nobody → ⊥
  pub beyond : 1 < s

-- ---- a draw, by its number and the units it names

pub data Acts (B : Board) (o : List ℕ) (d : Draw) : Type 0 where
  reassigns : d.kind < 35 → d.first < B.units → ReassignActs B o d.first d.second → Acts B o d
  swaps : 35 ≤ d.kind → d.kind < 60 → d.first < B.units → d.second < B.units → SwapActs B o d.first d.second → Acts B o d
  reassigns-run : 60 ≤ d.kind → d.kind < 75 → d.first < B.units → ReassignRunActs B o d.first d.second → Acts B o d
  swaps-runs : 75 ≤ d.kind → d.kind < 90 → d.first < B.units → d.second < B.units → SwapRunsActs B o d.first d.second
      → Acts B o d
  grows : 90 ≤ d.kind → d.kind < 100 → d.first < B.units → GrowActs B o d.first d.second → Acts B o d
  shrinks : 90 ≤ d.kind → d.kind < 100 → d.first < B.units → ShrinkActs B o d.first d.second → Acts B o d

-- the choice lies outside: the draw's number, a unit that it names, or the choice that its move takes
pub data ChoiceOutside (B : Board) (o : List ℕ) (d : Draw) : Type 0 where
  number : 100 ≤ d.kind → ChoiceOutside B o d
  first-unit : B.units ≤ d.first → ChoiceOutside B o d
  swap-unit : 35 ≤ d.kind → d.kind < 60 → B.units ≤ d.second → ChoiceOutside B o d
  swap-run-unit : 75 ≤ d.kind → d.kind < 90 → B.units ≤ d.second → ChoiceOutside B o d
  person : d.kind < 35 → ReassignOutside B d.first d.second → ChoiceOutside B o d
  run-person : 60 ≤ d.kind → d.kind < 75 → ReassignRunOutside B o d.first d.second → ChoiceOutside B o d
  side : 90 ≤ d.kind → d.kind < 100 → ShiftOutside B o d.first d.second → ChoiceOutside B o d

-- ---- what an acting draw hands over

-- unit u is one of those handed over
abbrev pub HandsOver : (B : Board) (o : List ℕ) (d : Draw) → Acts B o d → ℕ → Type 0
HandsOver B o d (reassigns k f A) u = u ≡ d.first
HandsOver B o d (swaps k l f s A) u = (u ≡ d.first) ⊎ (u ≡ d.second)
HandsOver B o d (reassigns-run k l f A) u = (A.first ≤ u) × (u ≤ A.last)
HandsOver B o d (swaps-runs k l f s A) u = ((A.first ≤ u) × (u ≤ A.last)) ⊎ ((A.first2 ≤ u) × (u ≤ A.last2))
HandsOver B o d (grows k l f A) u = u ≡ A.before
HandsOver B o d (shrinks k l f A) u = u ≡ suc A.before

-- the owner of unit u then
unfoldable pub owner_then : (B : Board) (o : List ℕ) (d : Draw) → Acts B o d → ℕ → ℕ
owner_then B o d (reassigns k f A) u = cond (eqb u d.first) A.to (owner_of B o u)
owner_then B o d (swaps k l f s A) u =
    cond (eqb u d.first) (owner_of B o d.second) (cond (eqb u d.second) (owner_of B o d.first) (owner_of B o u))
owner_then B o d (reassigns-run k l f A) u = cond (between A.first A.last u) A.to (owner_of B o u)
owner_then B o d (swaps-runs k l f s A) u =
    cond (between A.first A.last u) (owner_of B o d.second)
    (cond (between A.first2 A.last2 u) (owner_of B o d.first) (owner_of B o u))
owner_then B o d (grows k l f A) u = cond (eqb u A.before) (owner_of B o d.first) (owner_of B o u)
owner_then B o d (shrinks k l f A) u = cond (eqb u (suc A.before)) (owner_of B o A.before) (owner_of B o u)
