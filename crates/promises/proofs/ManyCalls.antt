-- Draws played in any number of calls end as in one. Assumes nothing.
use mathlib.Core.Path.{◌≡◌, refl, sym, ap, ap₂, subst, ◌∙◌}
use mathlib.Core.List.{List, [], ◌∷◌, ◌++◌, map, append-nil}
use Prim.Native.Nat.{ℕ, suc, ◌≤◌}
use native.Mathlib.Omega.{arith}
use borrow.Author.Tests.{le-leb}
use lib.ListN.{length, take}
use lib.Seq.{take_at, take-length}
use Rattle.paper.proofs.Rows.{said as row_number}
use Rattle.paper.specs.Count.{onto}
use Rattle.rota.specs.Moves.{Draw}
use Rattle.rota.specs.Plays.{draws_of, owners_after, answers}
use Rattle.owners.specs.Derived.{Derived, afresh}
use Rattle.owners.specs.Entries.{Outcome, outcome}
use Rattle.rota.specs.Entries.{played_list}
use Rattle.rota.proofs.Plays.{owners-append, answers-append, answers-length, draws-length}
use Rattle.owners.proofs.Steps.{afresh-again, afresh-fit}
use Rattle.rota.specs.declared.draws.Draw as struct
use Rattle.rota.specs.Draws.{numbers, draws, firsts, seconds}
use Rattle.rota.proofs.Alike.{draws-same}
use Rattle.promises.specs.Entries.{Call, built, no_of, play_of, board_in, draws_in, row_of}
use Rattle.promises.specs.Rota.{Words}
use Rattle.promises.specs.ManyCalls.{Part, part_call, draws_of_parts, AllAccepted, last_owners, last_derived, all_answers, EndsAsOne}
use Rattle.promises.specs.ManyCalls.{PartsEndAsOne, ManyCalls, StructsCut}
use Rattle.promises.proofs.Calls.{accepted-is, accepted-says, says-accepted}
use Rattle.promises.proofs.Rota.{asks}

-- the answers of an accepted call, cut at their number
said : (c : Call) → no_of c ≡ 0 → take c.count (play_of c).answers ≡ answers (board_in c) c.owners (draws_in c)
unfolding onto
said c e =
    ap (λ (y : Outcome). take c.count y.answers) (accepted-is c e)
    ∙ take_at (answers (board_in c) c.owners (draws_in c)) _ c.count
    (answers-length (board_in c) c.owners (draws_in c) ∙ draws-length c.draws c.firsts c.seconds c.count)

pub accepted-number : (c : Call) → (play_of c).refusal.number ≡ 0 → no_of c ≡ 0
unfolding played_list outcome
accepted-number c e = sym (row_number (row_of c) refl) ∙ e

ends-one : (c : Call) (o : List ℕ) (D : Derived) (p : Part) (ps : List Part) → Words D.sets → AllAccepted built c o D (p ∷ ps)
    → EndsAsOne built c o D (p ∷ ps)
unfolding AllAccepted last_owners last_derived all_answers draws_of_parts owners_after answers
ends-one c o D p [] f A =
    let k = part_call c o D p in
    let e = accepted-number k A.0 in
    let B = board_in c in
    let w = accepted-is k e in
    let owners : (play_of k).owners ≡ owners_after B o (draws_in k) = ap (λ (y : Outcome). y.owners) w in
    record {
      owners = owners ∙ ap (owners_after B o) (sym (append-nil (draws_in k)));
      derived = ap (λ (y : Outcome). y.derived) w ∙ ap (λ (l : List ℕ). afresh c.plan l D) (sym owners);
      answers = append-nil _ ∙ said k e ∙ ap (answers B o) (sym (append-nil (draws_in k)));
    }
ends-one c o D p (q ∷ ps) f A =
    let k = part_call c o D p in
    let e = accepted-number k A.0 in
    let B = board_in c in
    let w = accepted-is k e in
    let y = play_of k in
    let owners : y.owners ≡ owners_after B o (draws_in k) = ap (λ (z : Outcome). z.owners) w in
    let derived : y.derived ≡ afresh c.plan (owners_after B o (draws_in k)) D = ap (λ (z : Outcome). z.derived) w in
    let fit : Words y.derived.sets = subst (λ (d : Derived). Words d.sets) (sym derived)
    (afresh-fit c.plan (owners_after B o (draws_in k)) D f) in
    let r = ends-one c y.owners y.derived q ps fit A.1 in
    let n = last_owners built c y.owners y.derived (q ∷ ps) in
    record {
      owners =
          r.owners ∙ ap (λ (l : List ℕ). owners_after B l (draws_of_parts (q ∷ ps))) owners
          ∙ sym (owners-append B o (draws_in k) (draws_of_parts (q ∷ ps)));
      derived =
          r.derived ∙ ap (afresh c.plan n) derived
          ∙ afresh-again c.plan (owners_after B o (draws_in k)) n D (asks k e).right.on.sound.slots-few
          (asks k e).right.on.room.sets-room f;
      answers =
          ap₂ ◌++◌ (said k e) (r.answers ∙ ap (λ (l : List ℕ). answers B l (draws_of_parts (q ∷ ps))) owners)
          ∙ sym (answers-append B o (draws_in k) (draws_of_parts (q ∷ ps)));
    }

pub parts-end-as-one : PartsEndAsOne built
parts-end-as-one = ends-one

pub many-calls : ManyCalls built
unfolding AllAccepted
many-calls c o D p ps f A w W =
    let k = part_call c o D p in
    let F = accepted-says k (accepted-number k A.0) in
    let v = part_call c o D w in
    let e : no_of v ≡ 0 = says-accepted v record {
      counts = F.counts;
      few = le-leb w.count 1024 W.few;
      room = F.room;
      starts = F.starts;
      flags = F.flags;
      draws = W.draws;
      firsts = W.firsts;
      seconds = W.seconds;
      answers = W.answers;
      slots = F.slots;
      units = F.units;
      recount = F.recount;
    } in
    let r = ends-one c o D p ps f A in
    let x = accepted-is v e in
    let B = board_in c in
    let owners : (play_of v).owners ≡ last_owners built c o D (p ∷ ps) =
    ap (λ (y : Outcome). y.owners) x ∙ ap (owners_after B o) W.together ∙ sym r.owners in
    record {
      accepted = ap (λ (y : Outcome). y.refusal.number) x;
      owners = owners;
      derived =
          ap (λ (y : Outcome). y.derived) x
          ∙ ap (λ (l : List ℕ). afresh c.plan l D) (sym (ap (λ (y : Outcome). y.owners) x) ∙ owners) ∙ sym r.derived;
      answers = said v e ∙ ap (answers B o) W.together ∙ sym r.answers;
    }

-- ---- lists of structs

struct-draws : (ds : List struct.Draw) → draws_of (draws ds) (firsts ds) (seconds ds) (length ds) ≡ map numbers ds
struct-draws ds = sym (draws-same ds (length ds) (omega arith)) ∙ ap (map numbers) (take-length ds)

map_both : (ds es : List struct.Draw) → map numbers (ds ++ es) ≡ map numbers ds ++ map numbers es
map_both [] es = refl
map_both (d ∷ ds) es = ap (λ (l : List Draw). numbers d ∷ l) (map_both ds es)

map-length : (g : struct.Draw → ℕ) (ds : List struct.Draw) → length (map g ds) ≡ length ds
map-length g [] = refl
map-length g (d ∷ ds) = ap suc (map-length g ds)

pub structs-cut : StructsCut
unfolding draws firsts seconds draws_of_parts
structs-cut ds es x y z few room =
    let l = ds ++ es in
    let at_most : (g : struct.Draw → ℕ) → length l ≤ length (map g l) = λ g. omega (arith, map-length g l) in
    record {
      together =
          struct-draws l ∙ map_both ds es
          ∙ ap₂ ◌++◌ (sym (struct-draws ds)) (sym (struct-draws es) ∙ sym (append-nil (draws_of (draws es) (firsts es) (seconds es) (length es))));
      few = few;
      draws = at_most (λ d. d.draw);
      firsts = at_most (λ d. d.first);
      seconds = at_most (λ d. d.second);
      answers = room;
    }
