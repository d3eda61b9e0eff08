-- What a put in progress holds: its region, and the reference to its disk. Clauses name it by these words, so that none names a
-- private field.
use Rattle.std.proofs.Common.{MutBor}
use Rattle.td_gate.specs.declared.region.Region.{Region}
use Rattle.td_gate.specs.declared.region.Closed.{Closed}
use Rattle.td_gate.specs.declared.region.Filled.{Filled}

abbrev pub closed_region : {D : Type 0} → Closed D → Region
closed_region s = s.region

abbrev pub closed_disk : {D : Type 0} → Closed D → MutBor D
closed_disk s = s.device

abbrev pub filled_region : {D : Type 0} → Filled D → Region
filled_region s = s.region

abbrev pub filled_disk : {D : Type 0} → Filled D → MutBor D
filled_disk s = s.device
