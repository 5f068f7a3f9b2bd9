-- Only one outcome fits each contract. Assumes nothing.
use Rattle.std.specs.Prelude.{Result}
use mathlib.Core.Path.{◌≡◌, sym, ap, ap₂, ◌∙◌}
use mathlib.Core.List.{List}
use Prim.Native.Nat.{ℕ}
use lib.ListN.{replicate}
use Rattle.paper.specs.declared.Refusal.{Refusal}
use Rattle.paper.specs.Rows.{unless}
use Rattle.paper.proofs.Logic.{one-outcome}
use Rattle.slots.proofs.Meaning.{one-merged-end, one-atoms-end}
use Rattle.units.proofs.Answers as units
use Rattle.targets.proofs.Promises.{only_one}
use Rattle.owners.proofs.Entered as state
use Rattle.job.specs.Stages.{ready_of, owners_of, started_of}
use Rattle.job.specs.Begun.{no_ready, no_derived}
use Rattle.replay.specs.declared.BlockRead.{BlockRead}
use Rattle.replay.specs.Reading.{draws_in, fields_of}
use Rattle.promises.specs.Outcomes.{OneOutcome}

pair : {A B : Type 0} (x y : A × B) → x.0 ≡ y.0 → x.1 ≡ y.1 → x ≡ y
pair {A} {B} x y p q = ap₂ {C = A × B} (λ (a : A) (b : B). (a, b)) p q

triple : {A B C : Type 0} (x y : A × B × C) → x.0 ≡ y.0 → x.1 ≡ y.1 → x.2 ≡ y.2 → x ≡ y
triple {A} {B} {C} x y p q r =
    ap₂ {C = A × B × C} (λ (a : A) (b : B). (a, b, x.2)) p q ∙ ap {B = A × B × C} (λ (c : C). (y.0, y.1, c)) r

four : {A B C D : Type 0} (x y : A × B × C × D) → x.0 ≡ y.0 → x.1 ≡ y.1 → x.2 ≡ y.2 → x.3 ≡ y.3 → x ≡ y
four {A} {B} {C} {D} x y p q r s =
    ap₂ {C = A × B × C × D} (λ (a : A) (b : B). (a, b, x.2, x.3)) p q
    ∙ ap₂ {C = A × B × C × D} (λ (c : C) (d : D). (y.0, y.1, c, d)) r s

five : {A B C D E : Type 0} (x y : A × B × C × D × E) → x.0 ≡ y.0 → x.1 ≡ y.1 → x.2 ≡ y.2 → x.3 ≡ y.3 → x.4 ≡ y.4 → x ≡ y
five {A} {B} {C} {D} {E} x y p q r s t =
    ap₂ {C = A × B × C × D × E} (λ (a : A) (b : B). (a, b, x.2, x.3, x.4)) p q
    ∙ ap₂ {C = A × B × C × D × E} (λ (c : C) (d : D). (y.0, y.1, c, d, x.4)) r s
    ∙ ap {B = A × B × C × D × E} (λ (e : E). (y.0, y.1, y.2, y.3, e)) t

pub one-outcome-fits : OneOutcome
one-outcome-fits = record {
  equated = λ said r s. one-outcome said r s;
  equated-both = λ said left r s p q. pair r s (p.0 ∙ sym q.0) (p.1 ∙ sym q.1);
  merged-ranges = λ x r s p q.
      let e = one-merged-end x r.0 s.0 r.1 s.1 r.2 s.2 r.3 s.3 p q in four r s e.0 e.1 e.2 e.3;
  atomise = λ x r s p q.
      let e = one-atoms-end x r.0 s.0 r.1 s.1 r.2 s.2 p q in triple r s e.0 e.1 e.2;
  written = λ w r s p q. let e = units.one_written w r.0 s.0 r.1 s.1 p q in pair r s e.0 e.1;
  compute-targets = λ g out r s p q. let e = only_one g out r.0 s.0 r.1 s.1 p q in pair r s e.0 e.1;
  rota = λ y r s p q.
      let e = state.one-outcome y r.0 s.0 r.1 s.1 r.2 s.2 r.3 s.3 p q in four r s e.0 e.1 e.2 e.3;
  replay-block = λ y r s p q.
      triple r s (p.answer ∙ sym q.answer) (p.owners ∙ sym q.owners) (p.derived ∙ sym q.derived);
  begin = λ file room r q p t.
      let e = p.refusal ∙ sym t.refusal in (
        e,
        p.ready ∙ ap (λ (f : Refusal). unless f.number no_ready (ready_of file)) e ∙ sym t.ready,
        p.owners ∙ ap (λ (f : Refusal). unless f.number (replicate 1024 0) (owners_of file)) e ∙ sym t.owners,
        p.derived ∙ ap (λ (f : Refusal). unless f.number no_derived (started_of file).derived) e ∙ sym t.derived,
      );
  play-block = λ y r s p q.
      four r s (p.answer ∙ sym q.answer) (p.owners ∙ sym q.owners) (p.derived ∙ sym q.derived) (p.out ∙ sym q.out);
  begin-recording = λ y r s p q. pair r s (p.said ∙ sym q.said) (p.left ∙ sym q.left);
  read-block = λ t blocks ks fs ss rs r s p q.
      let e = p.said ∙ sym q.said in
      let same : (off : ℕ) (l : List ℕ) → fields_of t off (draws_in r.0) l ≡ fields_of t off (draws_in s.0) l =
      λ off l. ap (λ (a : Result BlockRead ℕ). fields_of t off (draws_in a) l) e in
      five r s e (p.draws ∙ same 4 ks ∙ sym q.draws) (p.firsts ∙ same 6 fs ∙ sym q.firsts) (p.seconds ∙ same 8 ss ∙ sym q.seconds)
      (p.recorded ∙ same 10 rs ∙ sym q.recorded);
  way_back = λ y r s p q.
      four r s (p.said ∙ sym q.said) (p.draws ∙ sym q.draws) (p.firsts ∙ sym q.firsts) (p.seconds ∙ sym q.seconds);
  mend = λ y r s p q. triple r s (p.said ∙ sym q.said) (p.left ∙ sym q.left) (p.list ∙ sym q.list);
  retire = λ y r s p q. pair r s (p.said ∙ sym q.said) (p.left ∙ sym q.left);
  run-job = λ y r s p q. pair r s (p.said ∙ sym q.said) (p.left ∙ sym q.left);
}
