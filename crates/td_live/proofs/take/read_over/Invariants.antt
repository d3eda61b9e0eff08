use Rattle.std.proofs.Common.{◌≡◌, ◌-◌, ◌≤◌, true, false, length, take, drop}
use Rattle.td_gate.specs.Reads.{IsRead}
use Rattle.td_live.specs.Readings.{IsReading}
use Rattle.td_live.proofs.take.read_over.Given as goal

-- what stands before the place was read, and what stands behind it is as it was
abbrev pub invariant-loop-at : goal.invariant-loop-at
invariant-loop-at g l = record {
  within : l.at ≤ length l.bytes;
  size : length l.bytes ≡ length l.fn.bytes;
  some : length l.piece ≡ length l.fn.piece;
  read : IsRead g.D.Disk.view l.fn.disk l.disk;
  count : (g.D.Disk.view l.disk).failures ≡ (g.D.Disk.view l.fn.disk).failures;
  reading : IsReading g.D.Disk.read_gives (take l.at l.bytes) l.fn.disk l.disk;
  rest : drop l.at l.bytes ≡ drop l.at l.fn.bytes;
  lawful : (g.D.Disk.view l.fn.disk).lawful → take l.at l.bytes ≡ take l.at (g.D.Disk.view l.fn.disk).state.bytes;
  same : l.is_same ≡ true → take l.at l.bytes ≡ take l.at l.fn.bytes;
  other : l.is_same ≡ false → take l.at l.bytes ≡ take l.at l.fn.bytes → ⊥;
}

abbrev pub decreases-loop-at : goal.decreases-loop-at
decreases-loop-at g l = length l.bytes - l.at
