use Rattle.std.proofs.Common.{◌≡◌, ◌+◌, ◌^◌, ◌<◌, length}
use Rattle.td_gate.specs.Reads.{IsRead}
use Rattle.td_journal.specs.Cell.{cell_len}
use Rattle.td_journal.specs.Parsed.{AreKept}
use Rattle.td_journal.specs.Ring.{found, told_after}
use Rattle.td_journal.proofs.Reading.{joined, left_from}
use Rattle.td_journal.proofs.journal.Journal.read_each.Given as goal

abbrev pub invariant-loop-i : goal.invariant-loop-i
invariant-loop-i g l = record {
  told : AreKept g.K.Keeping.kept_of l.inputs
      (λ w. (g.D.Disk.view l.fn.device).lawful → told_after l.inputs l.self (g.D.Disk.view l.fn.device).state.bytes l.fn.floor l.checkpoint
      ≡ joined w (left_from (found l.inputs l.self (g.D.Disk.view l.fn.device).state.bytes) l.self.n l.checkpoint l.greatest l.i)) l.told.items;
  size : length l.bytes.items ≡ cell_len l.self.m + 1;
  count : length l.told.items ≡ l.i;
  below : l.checkpoint + l.i < 2 ^ 63;
  count_stays : (g.D.Disk.view l.device).failures ≡ (g.D.Disk.view l.fn.device).failures;
  read : IsRead g.D.Disk.view l.fn.device l.device;
}
