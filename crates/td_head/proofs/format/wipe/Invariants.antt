use Rattle.std.proofs.Common.{◌≡◌, ◌*◌}
use Rattle.std.specs.Prelude.{◌↔◌}
use Rattle.td_disk.specs.Disk.{SameOutside}
use Rattle.td_head.specs.Images.{IsZero}
use Rattle.td_head.specs.Layout.{size_of}
use Rattle.td_head.proofs.format.wipe.Given as goal

abbrev pub invariant-loop-i : goal.invariant-loop-i
invariant-loop-i g l = record {
  zero : (g.D.Disk.view l.fn.device).lawful → IsZero (4096 * l.i) (g.D.Disk.view l.device).state.bytes;
  others : (g.D.Disk.view l.fn.device).lawful → SameOutside 0 (size_of l.fn.shape) (g.D.Disk.view l.fn.device).state.bytes (g.D.Disk.view l.device).state.bytes;
  whole : l.bytes ≡ size_of l.fn.shape;
  size : (g.D.Disk.view l.device).capacity ≡ (g.D.Disk.view l.fn.device).capacity;
  lawful : (g.D.Disk.view l.fn.device).lawful ↔ (g.D.Disk.view l.device).lawful;
  count : (g.D.Disk.view l.device).failures ≡ (g.D.Disk.view l.fn.device).failures;
}
