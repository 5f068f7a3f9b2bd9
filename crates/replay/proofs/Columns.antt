-- Laws of a block's columns. Assumes nothing.
use Rattle.std.specs.Prelude.{Result, Err}
use mathlib.Core.Path.{◌≡◌, sym, ap, ◌∙◌}
use mathlib.Core.Bool.{Bool, true, false, cond}
use mathlib.Core.List.{List}
use Prim.Native.Nat.{ℕ, ◌+◌, ◌*◌, ◌≤◌}
use native.Mathlib.Omega.{arith}
use borrow.Author.Tests.{leb-true}
use lib.Dec.{leb}
use lib.ListN.{length, set}
use Rattle.paper.proofs.Logic.{four}
use Rattle.paper.proofs.Count.{over_none, length_over}
use Rattle.records.specs.Fields.{le, field_at}
use Rattle.records.proofs.Numbers.{field_is}
use Rattle.records.proofs.Walks.{over-turn}
use Rattle.replay.specs.declared.BlockRead.{BlockRead}
use Rattle.replay.specs.Reading.{block_read, draws_in, fields_of, columns_room, read_answer, ReadsAs}

pub fields-none : (t : List ℕ) (off : ℕ) (x : List ℕ) → x ≡ fields_of t off 0 x
unfolding fields_of
fields-none t off x = sym (over_none _ x)

pub fields-more : (t : List ℕ) (off j v : ℕ) (x y : List ℕ) → y ≡ fields_of t off j x → v ≡ field_at 2 t (j * 12 + off) → j * 12 + off + 2 ≤ length t
    → set y j v ≡ fields_of t off (j + 1) x
unfolding fields_of
fields-more t off j v x y e g h =
    over-turn (λ i. le 2 t (i * 12 + off)) x y j v e (g ∙ field_is 2 t (j * 12 + off) (omega arith) h)

pub fields-length : (t : List ℕ) (off j : ℕ) (x y : List ℕ) → y ≡ fields_of t off j x → length y ≡ length x
unfolding fields_of
fields-length t off j x y e = ap length e ∙ length_over _ j x

pub fields-done : (t : List ℕ) (off j n : ℕ) (x y : List ℕ) → j ≡ n → y ≡ fields_of t off j x → y ≡ fields_of t off n x
fields-done t off j n x y e h = h ∙ ap (λ (k : ℕ). fields_of t off k x) e

-- what the test of room says
pub room_says : (n : ℕ) (ks fs ss rs : List ℕ) → columns_room n ks fs ss rs ≡ true
    → (n ≤ length ks) × (n ≤ length fs) × (n ≤ length ss) × (n ≤ length rs)
unfolding columns_room
room_says n ks fs ss rs e =
    let x = four (leb n (length ks)) (leb n (length fs)) (leb n (length ss)) (leb n (length rs)) e in
    (leb-true _ _ x.0, leb-true _ _ x.1, leb-true _ _ x.2, leb-true _ _ x.3)

module _ (t : List ℕ) (blocks : ℕ) (ks fs ss rs : List ℕ) (r : Result BlockRead ℕ) (e : r ≡ block_read t blocks) (n : ℕ) (d : n ≡ draws_in r) where
  answer-by : (b : Bool) → columns_room n ks fs ss rs ≡ b → read_answer t blocks ks fs ss rs ≡ cond b r (Err 2)
  unfolding read_answer
  answer-by b g =
      ap (λ (x : Result BlockRead ℕ). cond (columns_room (draws_in x) ks fs ss rs) x (Err 2)) (sym e)
      ∙ ap (λ (k : ℕ). cond (columns_room k ks fs ss rs) r (Err 2)) (sym d)
      ∙ ap (λ (x : Bool). cond x r (Err 2)) g

  pub reads_all : (ks' fs' ss' rs' : List ℕ) → columns_room n ks fs ss rs ≡ true → ks' ≡ fields_of t 4 n ks → fs' ≡ fields_of t 6 n fs
      → ss' ≡ fields_of t 8 n ss → rs' ≡ fields_of t 10 n rs → ReadsAs t blocks ks fs ss rs r ks' fs' ss' rs'
  reads_all ks' fs' ss' rs' g a b c f = record {
    said = sym (answer-by true g);
    draws = a ∙ ap (λ (k : ℕ). fields_of t 4 k ks) d;
    firsts = b ∙ ap (λ (k : ℕ). fields_of t 6 k fs) d;
    seconds = c ∙ ap (λ (k : ℕ). fields_of t 8 k ss) d;
    recorded = f ∙ ap (λ (k : ℕ). fields_of t 10 k rs) d;
  }

  pub reads_short : columns_room n ks fs ss rs ≡ false → ReadsAs t blocks ks fs ss rs (Err 2) ks fs ss rs
  reads_short g = record {
    said = sym (answer-by false g);
    draws = fields-none t 4 ks;
    firsts = fields-none t 6 fs;
    seconds = fields-none t 8 ss;
    recorded = fields-none t 10 rs;
  }
