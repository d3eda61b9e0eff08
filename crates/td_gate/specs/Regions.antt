-- Several regions of one disk.
use Rattle.std.specs.Prelude.{◌≡◌, ◌⊎◌, ℕ, ◌+◌, ◌≤◌, List, [], ◌∷◌, Some}
use Rattle.td_disk.specs.Disk.{DiskState, SameOutside}
use Rattle.td_gate.specs.declared.region.Region.{Region}
use Rattle.td_gate.specs.Region.{opened, IsSettled, Puts}

-- The regions, each with its gate byte, have no byte in common.
abbrev pub Apart : Region → Region → Type 0
Apart r s = (r.at + r.len + 1 ≤ s.at) ⊎ (s.at + s.len + 1 ≤ r.at)

-- From old to new a settled region stayed settled, and each image since and what is read have it as it was read.
pub record KeepsRegion (s : Region) (old new : DiskState) : Type 0 where
  pub settled : IsSettled s new
  pub read : opened s new.bytes ≡ opened s old.bytes
  pub each : (c : List ℕ) → new.since old.moment c → opened s c ≡ opened s old.bytes

-- a payload for a region
pub record Put : Type 0 where
  pub region : Region
  pub payload : List ℕ

-- The region is apart from that of each put.
abbrev pub ApartFromAll : Region → List Put → Type 0
ApartFromAll s [] = Unit {0}
ApartFromAll s (put ∷ rest) = Apart put.region s × ApartFromAll s rest

-- Only the region changed, and it is open with the payload.
pub record Replaces (r : Region) (payload old new : List ℕ) : Type 0 where
  pub others : SameOutside r.at (r.len + 1) old new
  pub region : opened r new ≡ Some payload

-- Each put is done, one after another.
abbrev pub PutsDone : List Put → List ℕ → List ℕ → Type 0
PutsDone [] old new = new ≡ old
PutsDone (put ∷ rest) old new = (mid : List ℕ) × Replaces put.region put.payload old mid × PutsDone rest mid new

-- Some first puts are done, one after another, the next one is begun, and the others are not.
abbrev pub PutsInTurn : List Put → List ℕ → List ℕ → Type 0
PutsInTurn [] old new = new ≡ old
PutsInTurn (put ∷ rest) old new = Puts put.region put.payload old new ⊎ ((mid : List ℕ) × Replaces put.region put.payload old mid × PutsInTurn rest mid new)
