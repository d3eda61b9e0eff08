-- A disk that was raised to version 2 of the format.
use Rattle.std.specs.Prelude.{ℕ, ◌≤◌, List, codes}
use Rattle.td_plan.specs.Lines.{Line}
use Rattle.td_disk.specs.Disk.{DiskState}
use Rattle.td_head.specs.declared.head.Head.{Head}
use Rattle.td_store.specs.standing.Standing.{Standing}
use Rattle.td_store.specs.standing.Tells.{Keeps}

-- what is written of it
abbrev pub version_line : List ℕ
version_line = codes "version 2\n"

-- A DISK WITH REQUEST NUMBERS: what it keeps stands under a head of version 2
pub record IsNumbered (plan : List Line) (state : DiskState) : Type 0 where
  pub head : Head
  pub version : 2 ≤ head.version
  pub side : ℕ
  pub standing : Standing
  pub keeps : Keeps plan head side standing state
