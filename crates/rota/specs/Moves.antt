-- The five moves: what is judged, in the paper's order, and what is handed over. Assumes nothing.
use Rattle.std.specs.Prelude.{Bool, false, cond, not, ◌&&◌, ◌||◌, List, [], ◌∷◌, ℕ, suc, ◌-◌, eqb, ltb, leb, length, get_or}
use Rattle.paper.specs.Count.{all_in, among, fill}
use Rattle.rota.specs.declared.Pick.{Pick}
use Rattle.rota.specs.declared.Pick.TheVariants.{Nobody, Beyond, Person}
use Rattle.rota.specs.declared.Move.{Move}
use Rattle.rota.specs.declared.Move.TheVariants.{Stay, Give, Trade}
use Rattle.rota.specs.Board.{Board, owner_of, unowned, run_start, run_end}

-- one of the tests holds
unfoldable pub any_of : List Bool → Bool
any_of [] = false
any_of (t ∷ ts) = t || any_of ts

-- the draw answers n where one of the tests holds, else it is judged on
abbrev pub stay_if : List Bool → ℕ → Move → Move
stay_if ts n next = cond (any_of ts) (Stay n) next

-- units a to b, both included, go to person p
abbrev pub give : Board → ℕ → ℕ → ℕ → Move
give B a b p = Give (B.from a) (B.upto b) p

-- no unit from a to b is frozen; person p fits each of them
unfoldable pub movable : Board → ℕ → ℕ → Bool
movable B a b = all_in a (suc b) (λ u. not (B.frozen u))

unfoldable pub covers : Board → ℕ → ℕ → ℕ → Bool
covers B a b p = all_in a (suc b) (B.fits p)

-- the ends of the run of unit u
unfoldable pub run_first : Board → List ℕ → ℕ → ℕ
run_first B o u = run_start (owner_of B o) u

unfoldable pub run_last : Board → List ℕ → ℕ → ℕ
run_last B o u = run_end B.units (owner_of B o) u

-- ---- the choice from a list of people: none there 1, the choice not below their number 2

unfoldable pub picked : List ℕ → ℕ → Pick
picked l k = cond (eqb (length l) 0) Nobody (cond (leb (length l) k) Beyond (Person (get_or l k 0)))

abbrev pub on_pick : (ℕ → Move) → Pick → Move
on_pick g Nobody = Stay 1
on_pick g Beyond = Stay 2
on_pick g (Person p) = g p

-- ---- the moves

-- the people who fit a unit, ascending
unfoldable pub domain_of : Board → ℕ → List ℕ
domain_of B u = among (λ p. B.fits p u) B.people

-- reassign: unit frozen 1; domain empty 1; second not below its size 2; that person owns it already 1
unfoldable pub reassigned : Board → List ℕ → ℕ → ℕ → Move
reassigned B o f s =
    stay_if (B.frozen f ∷ []) 1
    (on_pick (λ p. stay_if (eqb p (owner_of B o f) ∷ []) 1 (give B f f p)) (picked (domain_of B f) s))

-- swap units f and s: either frozen, same unit, either unowned, same owner, either owner unfit for the other unit: 1
abbrev pub swap_stays : Board → List ℕ → ℕ → ℕ → List Bool
swap_stays B o f s =
    B.frozen f ∷ B.frozen s ∷ eqb f s ∷ unowned B o f ∷ unowned B o s ∷ eqb (owner_of B o f) (owner_of B o s)
    ∷ not (B.fits (owner_of B o s) f) ∷ not (B.fits (owner_of B o f) s) ∷ []

unfoldable pub swapped : Board → List ℕ → ℕ → ℕ → Move
swapped B o f s =
    stay_if (swap_stays B o f s) 1
    (Trade (B.from f) (B.upto f) (owner_of B o s) (B.from s) (B.upto s) (owner_of B o f))

-- those but w who can cover the units from a to b, ascending
unfoldable pub others : Board → ℕ → ℕ → ℕ → List ℕ
others B w a b = among (λ p. not (eqb p w) && covers B a b p) B.people

-- reassign run: unit frozen or unowned, a frozen unit in its run, nobody else able to cover it: 1; second not below their number 2
unfoldable pub run_reassigned : Board → List ℕ → ℕ → ℕ → Move
run_reassigned B o f s =
    let a = run_first B o f in
    let b = run_last B o f in
    stay_if (B.frozen f ∷ unowned B o f ∷ not (movable B a b) ∷ []) 1
    (on_pick (give B a b) (picked (others B (owner_of B o f) a b) s))

-- swap the runs of f and s: either unit frozen or unowned, same run, same owner, any unit frozen, either unfit: 1
abbrev pub runs_stay : Board → List ℕ → ℕ → ℕ → ℕ → ℕ → ℕ → ℕ → List Bool
runs_stay B o f s a b c d =
    B.frozen f ∷ B.frozen s ∷ unowned B o f ∷ unowned B o s ∷ eqb a c ∷ eqb (owner_of B o f) (owner_of B o s)
    ∷ not (movable B a b) ∷ not (movable B c d) ∷ not (covers B a b (owner_of B o s)) ∷ not (covers B c d (owner_of B o f)) ∷ []

unfoldable pub runs_swapped : Board → List ℕ → ℕ → ℕ → Move
runs_swapped B o f s =
    let a = run_first B o f in
    let b = run_last B o f in
    let c = run_first B o s in
    let d = run_last B o s in
    stay_if (runs_stay B o f s a b c d) 1
    (Trade (B.from a) (B.upto b) (owner_of B o s) (B.from c) (B.upto d) (owner_of B o f))

-- shift, second 1: run starts at unit 0, predecessor frozen, or owner unfit for it: 1; else the owner gets the predecessor
unfoldable pub grown : Board → ℕ → ℕ → Move
grown B w a =
    stay_if (eqb a 0 ∷ B.frozen (a - 1) ∷ not (B.fits w (a - 1)) ∷ []) 1 (give B (a - 1) (a - 1) w)

-- shift, second 0: run starts at unit 0 or has one unit, predecessor unowned, run's first unit frozen, or predecessor's owner unfit: 1;
-- else that owner gets the first unit
unfoldable pub shrunk : Board → List ℕ → ℕ → ℕ → Move
shrunk B o a b =
    stay_if (eqb a 0 ∷ eqb a b ∷ unowned B o (a - 1) ∷ B.frozen a ∷ not (B.fits (owner_of B o (a - 1)) a) ∷ []) 1
    (give B a a (owner_of B o (a - 1)))

-- shift boundary: unit frozen or unowned 1; second above 1: 2
unfoldable pub shifted : Board → List ℕ → ℕ → ℕ → Move
shifted B o f s =
    stay_if (B.frozen f ∷ unowned B o f ∷ []) 1
    (stay_if (ltb 1 s ∷ []) 2
    (cond (eqb s 1) (grown B (owner_of B o f) (run_first B o f)) (shrunk B o (run_first B o f) (run_last B o f))))

-- ---- a draw

pub record Draw : Type 0 where
  pub kind : ℕ
  pub first : ℕ
  pub second : ℕ

abbrev pub draw : ℕ → ℕ → ℕ → Draw
draw k f s = record { kind = k; first = f; second = s }

-- draw 100 or more, or a named unit not below the unit count, is 2 before all else; both swaps name two units
unfoldable pub decided : Board → List ℕ → Draw → Move
decided B o d =
    stay_if (leb 100 d.kind ∷ leb B.units d.first ∷ []) 2
    (cond (ltb d.kind 35) (reassigned B o d.first d.second)
    (cond (ltb d.kind 60) (stay_if (leb B.units d.second ∷ []) 2 (swapped B o d.first d.second))
    (cond (ltb d.kind 75) (run_reassigned B o d.first d.second)
    (cond (ltb d.kind 90) (stay_if (leb B.units d.second ∷ []) 2 (runs_swapped B o d.first d.second))
    (shifted B o d.first d.second)))))

-- the byte that a move answers: 0 acted, 1 no move, 2 choice outside
abbrev pub answer_of : Move → ℕ
answer_of (Stay n) = n
answer_of (Give a e p) = 0
answer_of (Trade a e p c g q) = 0

-- the owners that it leaves
abbrev pub act : Move → List ℕ → List ℕ
act (Stay n) o = o
act (Give a e p) o = fill p a (e - a) o
act (Trade a e p c g q) o = fill q c (g - c) (fill p a (e - a) o)

-- ---- the units that a draw hands over if it acts, from its kind and the runs at that step

abbrev pub between : ℕ → ℕ → ℕ → Bool
between a b u = leb a u && leb u b

unfoldable pub handed : Board → List ℕ → Draw → ℕ → Bool
handed B o d u =
    cond (ltb d.kind 35) (eqb u d.first)
    (cond (ltb d.kind 60) (eqb u d.first || eqb u d.second)
    (cond (ltb d.kind 75) (between (run_first B o d.first) (run_last B o d.first) u)
    (cond (ltb d.kind 90)
    (between (run_first B o d.first) (run_last B o d.first) u || between (run_first B o d.second) (run_last B o d.second) u)
    (cond (eqb d.second 1) (eqb (suc u) (run_first B o d.first)) (eqb u (run_first B o d.first))))))
