use Rattle.std.proofs.Common.{◌≡◌, take}
use Rattle.td_disk.specs.Record.{replay, synced, crash_image}
use Rattle.td_disk.proofs.memory.bytes_left.Given as goal

abbrev pub invariant-loop-call : goal.invariant-loop-call
invariant-loop-call l = record {
  read : l.read.items ≡ (replay (synced l.initial') (take l.call-index l.calls)).bytes;
  left : l.left.items ≡ crash_image l.fill (replay (synced l.initial') (take l.call-index l.calls));
}
