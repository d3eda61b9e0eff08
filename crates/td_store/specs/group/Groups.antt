-- A group of epochs that is put on a ring at once.
use Rattle.std.specs.Prelude.{◌≡◌, ◌⊎◌, ℕ, suc, ◌+◌, ◌*◌, ◌^◌, ◌<◌, ◌≤◌, Bool, true, false, ◌&&◌, if◌then◌else◌, List, [], ◌∷◌, ◌++◌, length, slice_index, Option, Some, None}
use Rattle.td_disk.specs.Disk.{DiskState, bytes_at}
use Rattle.td_gate.specs.Reading.{Each}
use Rattle.td_gate.specs.declared.region.Region.{Region}
use Rattle.td_gate.specs.Region.{opened, Closes}
use Rattle.td_head.specs.Layout.{Sizes}
use Rattle.td_journal.specs.declared.journal.Journal.{Journal}
use Rattle.td_journal.specs.declared.payload.Submitted.{Submitted}
use Rattle.td_journal.specs.Cell.{cell_of, cell_len, cell_bytes, is_batch, FitsEntry, IsCellBatch}
use Rattle.td_journal.specs.Images.{IsBorne}
use Rattle.td_journal.specs.Numbers.{may_come, raised}
use Rattle.td_store.specs.standing.Standing.{Standing, last_epoch, last_request}
use Rattle.td_store.specs.standing.Told.{floor_of}

-- what is written for the epochs from one on
abbrev pub payloads : ℕ → ℕ → List Submitted → List (List ℕ)
payloads m e [] = []
payloads m e (x ∷ xs) = cell_bytes m e x.request x.batch ∷ payloads m (suc e) xs

-- The cells of the epochs from one on are open, with these payloads.
abbrev pub Hold : Journal → List ℕ → ℕ → List (List ℕ) → Type 0
Hold j image e [] = Unit {0}
Hold j image e (b ∷ bs) = (opened (cell_of j e) image ≡ Some b) × Hold j image (suc e) bs

-- the same with each gate behind its payload, one after another
abbrev pub gated : ℕ → ℕ → List Submitted → List ℕ
gated m e [] = []
gated m e (x ∷ xs) = (cell_bytes m e x.request x.batch ++ 0xA5 ∷ []) ++ gated m (suc e) xs

-- Each of n cells, of the epochs from one on, has a piece of these bytes, gate and all.
abbrev pub HasPieces : Journal → List ℕ → ℕ → ℕ → List ℕ → Type 0
HasPieces j image e n bytes = (k : ℕ) → k < n → bytes_at (cell_of j (e + k)).at (cell_len j.m + 1) image ≡ bytes_at (k * (cell_len j.m + 1)) (cell_len j.m + 1) bytes

-- No batch has more than m records.
abbrev pub AllFew : ℕ → List Submitted → Type 0
AllFew m [] = Unit {0}
AllFew m (x ∷ xs) = (length x.batch ≤ m) × AllFew m xs

-- The fields of all records fit, and so do the request numbers.
abbrev pub AllFit : List Submitted → Type 0
AllFit [] = Unit {0}
AllFit (x ∷ xs) = (Each FitsEntry x.batch × (x.request < 2 ^ 64)) × AllFit xs

-- Each batch is one of these inputs.
abbrev pub AreBatches : List ℕ → List Submitted → Type 0
AreBatches inputs [] = Unit {0}
AreBatches inputs (x ∷ xs) = (is_batch inputs x.batch ≡ true) × AreBatches inputs xs

-- Each of these may stand in a cell of m records.
abbrev pub AreCellBatches : List ℕ → ℕ → List Submitted → Type 0
AreCellBatches inputs m [] = Unit {0}
AreCellBatches inputs m (x ∷ xs) = IsCellBatch inputs m x × AreCellBatches inputs m xs

-- whether each number may come after those before it
abbrev pub may_follow : Option ℕ → List Submitted → Bool
may_follow floor [] = true
may_follow floor (x ∷ xs) = may_come floor x.request && may_follow (raised floor x.request) xs

-- The numbers of a group may come after a standing.
abbrev pub AreFresh : ℕ → Standing → List Submitted → Type 0
AreFresh version s xs = may_follow (floor_of version (last_request s)) xs ≡ true

-- The standing has room for k epochs more, of which the first has this number.
pub record HasRoomFor (sizes : Sizes) (s : Standing) (e k : ℕ) : Type 0 where
  pub some : 0 < k
  pub room : length s.submitted + k ≤ sizes.n
  pub epoch : e ≡ last_epoch s + 1
  pub small : e + k ≤ 2 ^ 63

-- a byte lies before a region, or behind its gate
abbrev pub IsBeside : Region → ℕ → Type 0
IsBeside r i = (i < r.at) ⊎ (r.at + r.len + 1 ≤ i)

-- Only the cells of n epochs from one on changed.
pub record ChangesCells (j : Journal) (e n : ℕ) (old new : List ℕ) : Type 0 where
  pub size : length new ≡ length old
  pub each : (i : ℕ) → ((k : ℕ) → k < n → IsBeside (cell_of j (e + k)) i) → slice_index new i ≡ slice_index old i

-- What is done before the first cell of a group is opened: only the cells of n epochs changed, and the first of them is as it was or closed.
pub record Spares (j : Journal) (e n : ℕ) (old new : List ℕ) : Type 0 where
  pub cells : ChangesCells j e n old new
  pub first : (opened (cell_of j e) new ≡ opened (cell_of j e) old) ⊎ (opened (cell_of j e) new ≡ None)

-- Only the cells of n epochs from one on changed, and each of them is as it was or closed.
pub record ClosesSome (j : Journal) (e n : ℕ) (old new : List ℕ) : Type 0 where
  pub cells : ChangesCells j e n old new
  pub each : (k : ℕ) → k < n → (opened (cell_of j (e + k)) new ≡ opened (cell_of j (e + k)) old) ⊎ (opened (cell_of j (e + k)) new ≡ None)

-- The cells of n epochs from one on are closed.
abbrev pub AreShut : Journal → List ℕ → ℕ → ℕ → Type 0
AreShut j image e n = (k : ℕ) → k < n → opened (cell_of j (e + k)) image ≡ None

-- No epoch of the standing stands in the cells of n epochs from this one on: it is the next one, and the ring has room for n more.
pub record AreFree (sizes : Sizes) (s : Standing) (e n : ℕ) : Type 0 where
  pub epoch : e ≡ last_epoch s + 1
  pub room : length s.submitted + n ≤ sizes.n

-- how many cells that may be: those of a group of k, and the one behind it, where the ring has one that no epoch of before uses
abbrev pub touched : Bool → ℕ → ℕ
touched is_full k = if is_full then k else suc k

-- The cell behind a group of k is closed, where the ring has one that no epoch of before uses, and no other byte changes; or nothing does.
abbrev pub ClosesNext : Journal → ℕ → ℕ → Bool → List ℕ → List ℕ → Type 0
ClosesNext j e k is_full old new = (new ≡ old) ⊎ ((is_full ≡ false) × Closes (cell_of j (e + k)) old new)

-- A disk on which a group waits for its first cell to be opened: that is closed, the others are open, and nothing follows them.
pub record IsReady (j : Journal) (e : ℕ) (xs : List Submitted) (is_full : Bool) (image : List ℕ) : Type 0 where
  pub closed : opened (cell_of j e) image ≡ None
  pub others : Hold j image (suc e) (payloads j.m (suc e) xs)
  pub nothing : is_full ≡ false → IsBorne j image (suc e + length xs) → ⊥

-- Each image of a disk is such.
abbrev pub EachReady : Journal → ℕ → List Submitted → Bool → DiskState → Type 0
EachReady j e xs is_full state = (c : List ℕ) → state.images c → IsReady j e xs is_full c
