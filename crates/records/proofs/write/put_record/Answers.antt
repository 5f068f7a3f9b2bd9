-- `records::write::put_record` meets its contract. Assumes nothing.
use Rattle.std.proofs.Common.{refl, inl, inr, ◌/◌, ◌%◌, [], ◌∷◌, length, arith}
use Rattle.records.proofs.Writes.{record-none, record-put}
use Rattle.records.proofs.Puts.{length-put}
use Rattle.records.proofs.write.put_record.Goals.{then-area-size-via-then-area-size, then-area-size-via-else-area-size+then-area-size-2}
use Rattle.records.proofs.write.put_record.Goals as goal

pub returns-then-size-gt65535 : goal.returns-then-size-gt65535
returns-then-size-gt65535 c = let a = c.args in record-none a.kind a.body.now a.at _ (inl (omega arith))

pub put_bytes-requires-2 : goal.put_bytes-requires-2
put_bytes-requires-2 c =
    let a = c.args in
    let n = length a.body.now in
    omega (arith, length-put (n % 256 ∷ n / 256 % 256 ∷ a.kind % 256 ∷ a.kind / 256 % 256 ∷ []) a.at a.area.now (omega arith))

pub returns : goal.returns
returns c =
    let a = c.args in
    record-put a.kind a.body.now a.at a.area.now _ _ (length a.body.now) refl (omega arith) (omega arith)
    c.put_bytes.ensures c.put_bytes-2.ensures

pub returns-then-area-size : goal.returns-then-area-size
returns-then-area-size c = elim c.then-area-size.branch [
  | then-area-size-via-then-area-size w ↦ record-none _ _ _ _ (inr (omega arith))
  | then-area-size-via-else-area-size+then-area-size-2 w ↦ record-none _ _ _ _ (inr (omega arith))
]
