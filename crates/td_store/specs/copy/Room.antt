-- Whether a disk of other sizes has room for a standing.
use Rattle.std.specs.Prelude.{ℕ, ◌+◌, ◌≤◌, nat_lt, if◌then◌else◌, List, [], ◌∷◌, length, All, Option, Some, None}
use Rattle.td_head.specs.Layout.{Sizes}
use Rattle.td_journal.specs.declared.payload.Submitted.{Submitted}
use Rattle.td_store.specs.standing.Standing.{Standing}
use Rattle.td_store.specs.declared.copy.error.CopyError.{CopyError}
use Rattle.td_store.specs.declared.copy.error.CopyError.TheVariants.{TooManyKeys, Full, TooManyRecords}

-- the first of some epochs that has more than m records, where the first has the number e
abbrev pub large_epoch : ℕ → ℕ → List Submitted → Option CopyError
large_epoch m e [] = None
large_epoch m e (x ∷ w) = if nat_lt m (length x.batch) then Some (TooManyRecords e (length x.batch) m) else large_epoch m (e + 1) w

-- WHAT A DISK OF THESE SIZES HAS NO ROOM FOR, first of a standing's states, then of its epochs, then of their records
abbrev pub room_fault : Sizes → Standing → Option CopyError
room_fault sizes s =
    if nat_lt sizes.k (length s.states) then Some (TooManyKeys (length s.states) sizes.k)
    else if nat_lt sizes.n (length s.submitted) then Some (Full (length s.submitted) sizes.n) else large_epoch sizes.m (s.epoch + 1) s.submitted

-- It has room for each batch, for all epochs, and for all states.
pub record HasRoomFor (sizes : Sizes) (s : Standing) : Type 0 where
  pub states : length s.states ≤ sizes.k
  pub epochs : length s.submitted ≤ sizes.n
  pub records : All (λ x. length x.batch ≤ sizes.m) s.submitted
