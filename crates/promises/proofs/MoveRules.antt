-- Demand 2, moves, by the laws of rota. Assumes nothing.
use mathlib.Core.Path.{◌≡◌, sym, ap, subst}
use mathlib.Core.List.{List}
use Prim.Native.Nat.{ℕ, ◌<◌}
use lib.ListN.{get_or}
use Rattle.rota.specs.Board.{Board, owner_of, RunOf}
use Rattle.rota.specs.Moves.{run_first, run_last}
use Rattle.rota.specs.Plays.{draws_of}
use Rattle.owners.specs.Entries.{Outcome}
use Rattle.rota.specs.Acts as acts
use Rattle.rota.proofs.Runs.{run_only}
use Rattle.rota.proofs.Acts.{run_of}
use Rattle.rota.proofs.Drawn.{draw-acts-exactly, handed-exactly}
use Rattle.rota.proofs.HandsOver.{draw-keeps}
use Rattle.rota.proofs.Promises.{answers-exactly, next-hands-over}
use Rattle.promises.specs.Entries.{Call, enough_in, no_of, play_of, board_in}
use Rattle.promises.specs.MoveRules.{draw_at, found_at, MovesByRule}
use Rattle.promises.proofs.Calls.{accepted-is}
use Rattle.promises.proofs.Rota.{asks}

play-answers : (c : Call) → no_of c ≡ 0 → (i : ℕ) → i < c.count
    → acts.GivenBy (get_or (play_of c).answers i 0) (acts.Acts (board_in c) (found_at c i) (draw_at c i))
    (acts.ChoiceOutside (board_in c) (found_at c i) (draw_at c i))
play-answers c e i h =
    subst (λ (r : ℕ). acts.GivenBy r (acts.Acts (board_in c) (found_at c i) (draw_at c i))
    (acts.ChoiceOutside (board_in c) (found_at c i) (draw_at c i)))
    (sym (ap (λ (y : Outcome). get_or y.answers i 0) (accepted-is c e)))
    (answers-exactly (board_in c) c.owners c.draws c.firsts c.seconds c.answers c.count i h)

run-one : (B : Board) (o : List ℕ) (u a b : ℕ) → u < B.units → RunOf B.units (owner_of B o) u a b
    → (a ≡ run_first B o u) × (b ≡ run_last B o u)
unfolding run_first run_last
run-one B o u a b h R = run_only (owner_of B o) B.units u a b h R

pub moves-by-rule : MovesByRule
moves-by-rule = record {
  answers = draw-acts-exactly;
  play = play-answers;
  hands-over = λ c e i A k h.
      next-hands-over c.plan c.avail c.units c.begins c.frozen c.count (enough_in c) c.owners
      c.derived c.answers (asks c e) (draws_of c.draws c.firsts c.seconds i) (draw_at c i) A k h;
  keeps = draw-keeps;
  handed = handed-exactly;
  run = run_of;
  one-run = run-one;
}
