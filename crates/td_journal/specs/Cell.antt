-- A cell of the ring: where it lies, what is written into it, and what it holds.
use Rattle.std.specs.Prelude.{◌≡◌, ℕ, ◌+◌, ◌*◌, ◌-◌, ◌%◌, ◌^◌, ◌<◌, ◌≤◌, FitsSigned, Bool, true, false, ◌&&◌, ◌==◌, nat_lt, List, ◌++◌, length, drop, flat_map, replicate, Option, Some, None}
use Rattle.std.specs.Int.{w64}
use Rattle.std.specs.List.{list_all, list_any}
use Rattle.std.specs.Ordering.{is_le}
use Rattle.td_stamp.specs.declared.values.Entry.{Entry}
use Rattle.td_stamp.specs.Orders.{entry_cmp}
use Rattle.td_gate.specs.Fields.{number_bytes, number_at, signed_at, signed_bytes, front_bytes, front_in, front_len, front_of, is_plain, each_in, is_chain}
use Rattle.td_gate.specs.Reading.{Each}
use Rattle.td_gate.specs.declared.region.Region.{Region}
use Rattle.td_journal.specs.declared.journal.Journal.{Journal}
use Rattle.td_journal.specs.declared.payload.Submitted.{Submitted}
use Rattle.td_journal.specs.Numbers.{may_come}

-- how many bytes a payload has, for so many records
abbrev pub cell_len : ℕ → ℕ
cell_len m = front_len + 24 * m

-- cell i
abbrev pub cell : Journal → ℕ → Region
cell j i = record { at = j.at + i * (cell_len j.m + 1); len = cell_len j.m }

-- the cell of an epoch
abbrev pub cell_of : Journal → ℕ → Region
cell_of j epoch = cell j (epoch % j.n)

-- how many bytes all cells have
abbrev pub ring_len : ℕ → ℕ → ℕ
ring_len m n = n * (cell_len m + 1)

-- a record, and back
abbrev pub entry_bytes : Entry → List ℕ
entry_bytes e = number_bytes 8 e.input ++ (number_bytes 8 e.rec.key ++ signed_bytes e.rec.val)

abbrev pub entry_in : List ℕ → Entry
entry_in bytes = record { input = number_at 8 0 bytes; rec = record { key = number_at 8 8 bytes; val = signed_at 16 bytes } }

-- what is written for an epoch's request and batch, with zeros up to m records
abbrev pub cell_bytes : ℕ → ℕ → ℕ → List Entry → List ℕ
cell_bytes m epoch request batch = front_bytes (front_of epoch request (length batch)) ++ (flat_map entry_bytes batch ++ replicate (24 * (m - length batch)) 0)

-- the records of a payload
abbrev pub batch_in : List ℕ → List Entry
batch_in bytes = each_in entry_in 24 (front_in bytes).count (drop front_len bytes)

-- the request and the batch of a payload
abbrev pub submitted_in : List ℕ → Submitted
submitted_in bytes = record { request = (front_in bytes).request; batch = batch_in bytes }

-- each names one of these inputs, and they are in order
abbrev pub is_batch : List ℕ → List Entry → Bool
is_batch inputs batch = list_all (λ e. list_any (λ v. v == e.input) inputs) batch && is_chain (λ x y. is_le (entry_cmp x y)) batch

-- whether a payload is that of a batch whose number may come after a floor
abbrev pub is_cell : List ℕ → Option ℕ → ℕ → List ℕ → Bool
is_cell inputs floor m bytes = is_plain m (front_in bytes) && (may_come floor (front_in bytes).request && is_batch inputs (batch_in bytes))

-- What a cell has for an epoch: nothing, what was submitted as it, or damage in the cell with this number
pub data Found : Type 0 where
  ended : Found
  submitted : Submitted → Found
  damaged : ℕ → Found

-- where a payload is valid, and where it bears the epoch
abbrev pub where_valid : Bool → ℕ → Submitted → Found
where_valid true i s = submitted s
where_valid false i s = damaged i

abbrev pub where_borne : Bool → Found → Found
where_borne true f = f
where_borne false f = ended

-- whether a payload bears an epoch. Epochs of 2 ^ 63 and above are never looked for
abbrev pub bears : List ℕ → ℕ → Bool
bears bytes epoch = nat_lt epoch (2 ^ 63) && ((front_in bytes).epoch == epoch)

-- of what is held in cell i, where the gate is open
abbrev pub found_in : List ℕ → Option ℕ → ℕ → ℕ → ℕ → Option (List ℕ) → Found
found_in inputs floor m epoch i None = ended
found_in inputs floor m epoch i (Some bytes) = where_borne (bears bytes epoch) (where_valid (is_cell inputs floor m bytes) i (submitted_in bytes))

-- a record whose fields fit
pub record FitsEntry (e : Entry) : Type 0 where
  pub input : e.input < 2 ^ 64
  pub key : e.rec.key < 2 ^ 64
  pub val : FitsSigned w64 e.rec.val

-- a request and a batch that may stand in a cell of m records
pub record IsCellBatch (inputs : List ℕ) (m : ℕ) (s : Submitted) : Type 0 where
  pub few : length s.batch ≤ m
  pub room : m < 2 ^ 32
  pub lawful : is_batch inputs s.batch ≡ true
  pub fits : Each FitsEntry s.batch
  pub request : s.request < 2 ^ 64
