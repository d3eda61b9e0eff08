use Rattle.std.proofs.Common.{suc, ◌%◌}
use Rattle.td_gate.specs.Region.{opened}
use Rattle.td_journal.specs.Cell.{cell_of}
use Rattle.td_journal.specs.Ring.{found}
use Rattle.td_journal.proofs.Raised.{found_raised, ring_raised}
use Rattle.td_journal.proofs.laws.version_is_raised.Goals as goal

pub returns : goal.returns
returns c inputs j image checkpoint w told =
    ring_raised (found inputs j image) (λ e. found_raised inputs j.m e (e % j.n) (opened (cell_of j e) image)) j.n (suc checkpoint) w told
