-- What a play that was not refused leaves: owners known and available, their minutes, and U, which add up. Assumes nothing.
use mathlib.Core.Path.{◌≡◌, refl, sym, ap, ap₂, ◌∙◌}
use mathlib.Core.Bool.{Bool, true}
use mathlib.Core.List.{List}
use Prim.Native.Nat.{ℕ, ◌+◌, ◌≤◌, ◌<◌}
use native.Mathlib.Omega.{arith}
use lib.Dec.{eqb}
use lib.ListN.{get_or, replicate, length-replicate}
use Rattle.paper.specs.Limits.{nobody, number_of}
use Rattle.paper.proofs.Rows.{said}
use Rattle.paper.specs.Rows.{unless}
use Rattle.paper.specs.Count.{sum}
use Rattle.slotset.specs.Slots.{slot}
use Rattle.slots.specs.Lent.{demand_of}
use Rattle.owners.specs.Derived.{Plan, Derived, known_by, worked, uncovered, total_of, afresh}
use Rattle.owners.specs.Inside.{PlanSound}
use Rattle.owners.specs.Recount.{available_for, recounts}
use Rattle.rota.specs.Moves.{Draw}
use Rattle.rota.specs.Plays.{draws_of, owners_after}
use Rattle.rota.specs.Lent.{board_of}
use Rattle.owners.specs.Entries as state
use Rattle.rota.specs.Entries as rota
use Rattle.rota.proofs.Entered.{PlayAsks, play-asks}
use Rattle.owners.proofs.Entered.{Recounted, recount-says}
use Rattle.rota.proofs.Promises as promises
use Rattle.job.specs.Stages.{Ready, Draws, plan_of, play_of}
use Rattle.job.proofs.Prepares.{when-none}

module _ (R : Ready) (d : Draws) (o : List ℕ) (D : Derived) (e : (play_of R d o D).refusal.number ≡ 0) where
  abbrev P : Plan
  P = plan_of R

  abbrev enough : Bool
  enough = rota.columns_enough d.count d.draws d.firsts d.seconds

  no : number_of (rota.play_row P R.avail R.units R.begins R.frozen d.count enough o D (replicate 1024 0)) ≡ 0
  unfolding play_of rota.played_list state.outcome
  no = sym (said _ refl) ∙ e

  asks : PlayAsks P R.avail R.units R.begins R.frozen d.count enough o D (replicate 1024 0)
  asks = play-asks P R.avail R.units R.begins R.frozen d.count enough o D (replicate 1024 0) no

  -- ---- what the play asked

  pub plan-right : PlanSound P
  plan-right = asks.right.on.sound

  pub draws-few : d.count ≤ 1024
  draws-few = omega (arith, asks.right.answers, length-replicate {A = ℕ} 1024 0)

  -- ---- the owners after the draws, and what is worked out from them

  abbrev drawn : List Draw
  drawn = draws_of d.draws d.firsts d.seconds d.count

  after : List ℕ
  after = owners_after (board_of R.people R.slots R.units R.avail R.begins R.frozen) o drawn

  owners-are : (play_of R d o D).owners ≡ after
  unfolding play_of rota.played_list state.outcome unless after
  owners-are = sym (when-none _ after o e)

  derived-are : (play_of R d o D).derived ≡ afresh P after D
  unfolding play_of rota.played_list state.outcome unless after
  derived-are = sym (when-none _ (afresh P after D) D e)

  recounted : recounts P R.avail R.units R.begins (play_of R d o D).owners (play_of R d o D).derived ≡ true
  unfolding after
  recounted =
      ap₂ (λ (w : List ℕ) (E : Derived). recounts P R.avail R.units R.begins w E) owners-are derived-are
      ∙ promises.played-recounts P R.avail R.units R.begins R.frozen d.count enough o D (replicate 1024 0)
      asks drawn

  right : Recounted P R.avail R.units R.begins (play_of R d o D).owners (play_of R d o D).derived
  right = recount-says P R.avail R.units R.begins (play_of R d o D).owners (play_of R d o D).derived recounted

  -- every owner is nobody, or known and available
  pub owners-fit : (k : ℕ) → k < R.slots
      → (known_by R.people (get_or (play_of R d o D).owners k 0) ≡ true)
      × (available_for R.avail (get_or (play_of R d o D).owners k 0) k ≡ true)
  owners-fit k h = (right.known k h, right.available k h)

  pub minutes-are : (p : ℕ) → p < R.people → get_or (play_of R d o D).derived.minutes p 0 ≡ worked P (play_of R d o D).owners p
  minutes-are = right.minutes

  -- U is the stored total, which is that of the owners
  pub uncovered-is : get_or (play_of R d o D).derived.totals 0 0 ≡ uncovered P (play_of R d o D).owners
  unfolding total_of
  uncovered-is = right.totals 0 (omega arith)

  -- all persons' minutes and U are the total of the slots
  pub total-after : sum R.people (λ p. get_or (play_of R d o D).derived.minutes p 0) + get_or (play_of R d o D).derived.totals 0 0
      ≡ demand_of R.slots R.starts R.ends
  total-after =
      promises.minutes-and-uncovered P plan-right R.avail R.units R.begins (play_of R d o D).owners (play_of R d o D).derived
      recounted

  -- ---- what the draws keep

  -- a frozen slot keeps its owner
  pub frozen-keeps : (k : ℕ) → k < R.slots → eqb (slot R.frozen 0 k) 1 ≡ true → get_or (play_of R d o D).owners k 0 ≡ get_or o k 0
  unfolding after
  frozen-keeps k h z =
      ap (λ (w : List ℕ). get_or w k 0) owners-are
      ∙ promises.frozen-slots-keep P R.avail R.units R.begins R.frozen d.count enough o D (replicate 1024 0)
      asks drawn k h z

  -- a covered slot stays covered
  pub stays-covered : (k : ℕ) → k < R.slots → (get_or o k 0 ≡ nobody → ⊥) → get_or (play_of R d o D).owners k 0 ≡ nobody → ⊥
  unfolding after
  stays-covered k h n z =
      promises.covered-stays P R.avail R.units R.begins R.frozen d.count enough o D (replicate 1024 0)
      asks drawn k h n (ap (λ (w : List ℕ). get_or w k 0) (sym owners-are) ∙ z)
