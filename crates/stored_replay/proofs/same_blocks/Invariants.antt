-- `stored_replay::same_blocks` meets its contract: no column changes its length. Assumes nothing.
use Rattle.std.proofs.Common.{◌≡◌, length}
use Rattle.stored_replay.proofs.same_blocks.Given as goal

abbrev pub invariant-loop-block : goal.invariant-loop-block
invariant-loop-block l = record {
  starts-room : length l.starts ≡ 1024;
  ends-room : length l.ends ≡ 1024;
  avail-room : length l.avail ≡ 512;
  begins-room : length l.begins ≡ 1024;
  frozen-room : length l.frozen ≡ 16;
  targets-room : length l.targets ≡ 32;
  owners-room : length l.owners ≡ 1024;
  sets-room : length l.sets ≡ 512;
  minutes-room : length l.minutes ≡ 32;
  totals-room : length l.totals ≡ 2;
}
