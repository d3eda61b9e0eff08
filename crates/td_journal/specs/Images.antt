-- What the laws of a ring say of two images.
use Rattle.std.specs.Prelude.{◌≡◌, ◌⊎◌, Some, true, ℕ, ◌+◌, ◌<◌, List, length, suc, Option, Ok}
use Rattle.td_disk.specs.Disk.{DiskState}
use Rattle.td_gate.specs.Region.{opened, Closes}
use Rattle.td_journal.specs.declared.journal.Journal.{Journal}
use Rattle.td_journal.specs.declared.payload.Submitted.{Submitted}
use Rattle.td_journal.specs.Cell.{cell, cell_of, bears}
use Rattle.td_journal.specs.Ring.{told_after}

-- What was submitted after a checkpoint is this, the cells have room for one epoch more, and its number is e.
pub record IsNext (inputs : List ℕ) (j : Journal) (image : List ℕ) (floor : Option ℕ) (checkpoint : ℕ) (w : List Submitted) (e : ℕ) : Type 0 where
  pub told : told_after inputs j image floor checkpoint ≡ Ok w
  pub room : length w < j.n
  pub epoch : e ≡ checkpoint + length w + 1

-- The cells hold the same in both images.
abbrev pub SameCells : Journal → List ℕ → List ℕ → Type 0
SameCells j old new = (i : ℕ) → i < j.n → opened (cell j i) new ≡ opened (cell j i) old

-- The cell of an epoch is open and bears it, valid or not.
abbrev pub IsBorne : Journal → List ℕ → ℕ → Type 0
IsBorne j image e = (bytes : List ℕ) × (opened (cell_of j e) image ≡ Some bytes) × (bears bytes e ≡ true)

-- Nothing follows an epoch in the ring.
abbrev pub NothingFollows : Journal → List ℕ → ℕ → Type 0
NothingFollows j image e = IsBorne j image (suc e) → ⊥

-- The cell of an epoch is closed where it is open and bears that epoch, and no other byte changes.
abbrev pub Clears : Journal → ℕ → List ℕ → List ℕ → Type 0
Clears j e old new = (new ≡ old) ⊎ (IsBorne j old e × Closes (cell_of j e) old new)

-- In no image does the cell of an epoch bear it.
abbrev pub IsGone : Journal → ℕ → DiskState → Type 0
IsGone j e state = (c : List ℕ) → state.images c → IsBorne j c e → ⊥
