-- `boltraven_c::recording_c::boltraven_read_block` meets its contract. Assumes nothing.
use Rattle.std.specs.Prelude.{Result, Ok}
use mathlib.Core.Path.{◌≡◌, sym, ap, ◌∙◌, subst}
use mathlib.Core.List.{List}
use Prim.Native.Nat.{ℕ}
use Rattle.replay.specs.declared.BlockRead.{BlockRead}
use Rattle.replay.specs.Reading.{read_answer, ReadsAs}
use Rattle.boltraven_c.specs.Replay.{block_number, block_count, block_next, BlockEnds}
use Rattle.boltraven_c.proofs.recording_c.boltraven_read_block.Goals as goal

-- what was read, by what it is
ends : (t : List ℕ) (blocks : ℕ) (ks fs ss rs : List ℕ) (a b : Result BlockRead ℕ) (ks' fs' ss' rs' : List ℕ) (n₀ m₀ : ℕ)
    → ReadsAs t blocks ks fs ss rs a ks' fs' ss' rs' → a ≡ b
    → BlockEnds t blocks ks fs ss rs n₀ m₀ (block_number b) ks' fs' ss' rs' (block_count n₀ b) (block_next m₀ b)
ends t blocks ks fs ss rs a b ks' fs' ss' rs' n₀ m₀ E e =
    let d : b ≡ read_answer t blocks ks fs ss rs = sym e ∙ E.said in
    record {
      number = ap block_number d;
      columns = subst (λ (r : Result BlockRead ℕ). ReadsAs t blocks ks fs ss rs r ks' fs' ss' rs') E.said E;
      count = ap (block_count n₀) d;
      next = ap (block_next m₀) d;
    }

pub returns-in-Ok-Block : goal.returns-in-Ok-Block
returns-in-Ok-Block c = ends _ _ _ _ _ _ _ _ _ _ _ _ _ _ c.read_block.ensures (c.in-Ok-Block.is ∙ ap Ok c.in-Ok-Block.field-0-is)

pub returns-in-Ok-End : goal.returns-in-Ok-End
returns-in-Ok-End c = ends _ _ _ _ _ _ _ _ _ _ _ _ _ _ c.read_block.ensures (c.in-Ok-End.is ∙ ap Ok c.in-Ok-End.field-0-is)

pub returns-in-Err : goal.returns-in-Err
returns-in-Err c = ends _ _ _ _ _ _ _ _ _ _ _ _ _ _ c.read_block.ensures c.in-Err.is
