use Rattle.std.proofs.Common.{◌≡◌, map, take, drop, length}
use Rattle.td_c.specs.Changes.{change_row}
use Rattle.td_c.proofs.output.put_changes.Given as goal

abbrev pub invariant-loop-at : goal.invariant-loop-at
invariant-loop-at l = record {
  written : take l.at l.rows ≡ map change_row (take l.at l.changes);
  others : drop (length l.changes) l.rows ≡ drop (length l.changes) l.initial.rows;
  long : length l.rows ≡ length l.initial.rows;
}
