-- A feed as a stint.
use Rattle.std.specs.Prelude.{◌≡◌, ℕ, Bool, List, Option, Result}
use Rattle.td_plan.specs.Lines.{Line}
use Rattle.td_calls.specs.Answers.{Answers}
use Rattle.td_disk.specs.Disk.{DiskView, DiskState}
use Rattle.td_keeper.specs.Keeping.{Keeping}
use Rattle.td_console.specs.declared.faults.Fault.{Fault}
use Rattle.td_feed.specs.Said.{Wanted, SaysFrom}

-- the keeper of a feed as it was found, with the watch that was attached to it, if there was one
abbrev pub found_by : {D : Type 0} {view : D → DiskView} {answers : Answers} {marks : Bool} {result : Result (Unit {0}) Fault} {plan : List Line}
    {alone : Bool} {disk left : D} {before after : Option (List ℕ)} {wanted : Wanted}
    → SaysFrom view answers marks result plan alone disk left before after wanted → Keeping D
found_by from = record from.keeper { watch = from.watch }
