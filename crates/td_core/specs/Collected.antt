-- A hall when what has passed was collected.
use Rattle.std.specs.Prelude.{ℕ, ◌+◌, length}
use Rattle.td_core.specs.declared.hall.Parts.{Parts}
use Rattle.td_core.specs.Came.{passed_since, later_than}

-- the last epoch that has passed
abbrev pub last_of : Parts → ℕ
last_of parts = parts.collected + length (passed_since parts.table.stamps parts.collected parts.next)

-- nothing is left of the epochs up to it
abbrev pub without_passed : Parts → Parts
without_passed parts = record parts { collected = last_of parts; outputs = later_than (last_of parts) parts.outputs }
