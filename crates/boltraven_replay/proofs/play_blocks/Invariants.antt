-- `boltraven_replay::play_blocks` meets its contract: the window lies in the buffer, and no column changes its length. Assumes nothing.
use Rattle.std.proofs.Common.{◌≡◌, ◌≤◌, length}
use Rattle.boltraven_replay.proofs.play_blocks.Given as goal

abbrev pub invariant-loop-block : goal.invariant-loop-block
invariant-loop-block g l = record {
  at : l.w.at ≤ l.w.count;
  count : l.w.count ≤ length l.buf;
  same : length l.buf ≡ length l.initial.buf;
  starts-room : length l.starts ≡ 1024;
  ends-room : length l.ends ≡ 1024;
  avail-room : length l.avail ≡ 512;
  begins-room : length l.begins ≡ 1024;
  frozen-room : length l.frozen ≡ 16;
  targets-room : length l.targets ≡ 32;
  owners-room : length l.owners ≡ 1024;
  sets-room : length l.sets ≡ 512;
  minutes-room : length l.minutes ≡ 32;
  totals-room : length l.totals ≡ 2;
  out-room : length l.out ≡ 65536;
}
