use Rattle.std.proofs.Common.{◌≡◌, ◌-◌, ◌≤◌, ◌<◌, true, false}
use Rattle.td_reach.specs.Frontier.{has_passed}
use Rattle.td_core.proofs.collect.last_passed.Given as goal

abbrev pub invariant-loop-last : goal.invariant-loop-last
invariant-loop-last l = record {
  after : l.after ≤ l.last;
  before : l.last < l.after_it;
  within : l.after_it ≤ l.next;
  passed : l.after < l.last → has_passed l.table.stamps l.last ≡ true;
  stops : l.after_it < l.next → has_passed l.table.stamps l.after_it ≡ false;
}

abbrev pub decreases-loop-last : goal.decreases-loop-last
decreases-loop-last l = l.after_it - l.last
