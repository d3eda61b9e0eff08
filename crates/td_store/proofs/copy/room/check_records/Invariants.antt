use Rattle.std.proofs.Common.{◌≡◌, ◌+◌, drop}
use Rattle.td_store.specs.copy.Room.{large_epoch}
use Rattle.td_store.proofs.copy.room.check_records.Given as goal

-- none of the epochs before has too many records
abbrev pub invariant-loop-each : goal.invariant-loop-each
invariant-loop-each l = record {
  epoch : l.epoch ≡ l.first + l.each-index;
  rest : large_epoch l.most l.first l.submitted ≡ large_epoch l.most l.epoch (drop l.each-index l.submitted);
}
