use Rattle.std.proofs.Common.{◌≡◌, ◌<◌, length}
use Rattle.td_gate.specs.Reads.{IsRead}
use Rattle.td_live.specs.Readings.{LastReadings}
use Rattle.td_live.proofs.take.read_until_alike.Given as goal

-- so many readings, the last ones, gave the same bytes; of a lawful disk all that there were
abbrev pub invariant-loop : goal.invariant-loop
invariant-loop g l = record {
  few : l.alike < 3;
  size : length l.bytes ≡ (g.D.Disk.view l.disk).capacity;
  some : length l.piece ≡ length l.fn.piece;
  read : IsRead g.D.Disk.view l.fn.disk l.disk;
  count : (g.D.Disk.view l.disk).failures ≡ (g.D.Disk.view l.fn.disk).failures;
  readings : LastReadings g.D.Disk.read_gives l.alike l.bytes l.disk;
  lawful : (g.D.Disk.view l.fn.disk).lawful → 0 < l.alike → l.bytes ≡ (g.D.Disk.view l.disk).state.bytes;
  each : (g.D.Disk.view l.fn.disk).lawful → l.alike ≡ l.counter;
}
