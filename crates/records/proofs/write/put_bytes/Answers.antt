-- `records::write::put_bytes` meets its contract. Assumes nothing.
use Rattle.std.proofs.Common.{◌≡◌, ◌+◌, ◌-◌, length, arith}
use Rattle.std.proofs.lemmas.List.{drop-drop}
use Rattle.records.specs.Puts.{put}
use Rattle.records.proofs.write.put_bytes.Goals as goal

pub returns : goal.returns
unfolding put
returns c =
    let k : c.args.at + length c.args.l.now - c.args.at ≡ length c.args.l.now = omega arith in
    rw (c.copy_from_slice.ensures.after, k, drop-drop)
