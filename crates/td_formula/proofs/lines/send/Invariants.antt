use Rattle.std.proofs.Common.{◌≡◌, take}
use Rattle.std.specs.Prelude.{fold}
use Rattle.td_formula.specs.Environments.{named}
use Rattle.td_formula.specs.Closures.{records_of}
use Rattle.td_formula.specs.Room.{with_record}
use Rattle.td_formula.proofs.lines.send.Given as goal

abbrev pub invariant-loop-line : goal.invariant-loop-line
invariant-loop-line l =
    (l.out.few.items, l.out.lost) ≡ fold (with_record l.room) (l.initial.out.few.items, l.initial.out.lost) (records_of (take l.line-index l.lines) (named l.at))
