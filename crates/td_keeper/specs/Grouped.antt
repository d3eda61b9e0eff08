-- A group of batches that is submitted at once.
use Rattle.std.specs.Prelude.{◌⊎◌, ℕ, List, Ok}
use Rattle.td_plan.specs.Lines.{Line}
use Rattle.td_disk.specs.Disk.{DiskState}
use Rattle.td_journal.specs.declared.payload.Submitted.{Submitted}
use Rattle.td_store.specs.standing.Standing.{Standing, with_more}
use Rattle.td_store.specs.standing.Told.{Told}

-- ALL OR NONE: each image since a moment tells a standing, or that with the whole group.
abbrev pub AllOrNone : List Line → Standing → List Submitted → ℕ → DiskState → Type 0
AllOrNone plan s group moment state = (c : List ℕ) → state.since moment c → Told plan c (Ok s) ⊎ Told plan c (Ok (with_more s group))
