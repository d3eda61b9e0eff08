use Rattle.std.proofs.Common.{◌≡◌, ◌*◌, ◌-◌, ◌^◌, ◌≤◌, length}
use Rattle.std.specs.Io.KnownBytes.{Consumes}
use Rattle.td_console.proofs.engine.read_all.Given as goal

-- what was read is what the reader lost; a reader that does not fail comes to its end within the reads that are left
abbrev pub invariant-loop-read : goal.invariant-loop-read
invariant-loop-read g l = record {
  so_far : Consumes (g.R.Source.remaining l.fn.reader) (g.R.Source.remaining l.reader) l.bytes.items;
  steady : g.R.Source.EndsWithin l.fn.reader (2 ^ 32) → g.R.Source.EndsWithin l.reader (2 ^ 32 - l.read);
  room : length l.piece ≡ 4096;
  few : length l.bytes.items ≤ 4096 * l.read;
}
