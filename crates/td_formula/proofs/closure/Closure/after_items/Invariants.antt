use Rattle.std.proofs.Common.{◌≡◌, take}
use Rattle.td_formula.specs.Environments.{named}
use Rattle.td_formula.specs.Closures.{after_items}
use Rattle.td_formula.specs.Room.{settled}
use Rattle.td_formula.proofs.closure.Closure.after_items.Given as goal

abbrev pub invariant-loop-item : goal.invariant-loop-item
invariant-loop-item l = record {
  names : named l.at ≡ (after_items l.self (named l.fn.start) (take l.item-index l.items)).0;
  sent : (l.out.few.items, l.out.lost) ≡ settled l.room (after_items l.self (named l.fn.start) (take l.item-index l.items)).1;
}
