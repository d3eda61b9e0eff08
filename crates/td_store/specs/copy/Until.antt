-- What a disk tells up to an epoch.
use Rattle.std.specs.Prelude.{ℕ, ◌-◌, ◌||◌, nat_lt, if◌then◌else◌, take, Option, Some, None}
use Rattle.td_head.specs.Layout.{Sizes}
use Rattle.td_store.specs.standing.Standing.{Standing, last_epoch}
use Rattle.td_store.specs.declared.copy.error.CopyError.{CopyError}
use Rattle.td_store.specs.declared.copy.error.CopyError.TheVariants.{Until}
use Rattle.td_store.specs.copy.Room.{room_fault}

-- THE STANDING UP TO AN EPOCH: the same checkpoint, and of the epochs after it those up to that one
abbrev pub up_to : Standing → ℕ → Standing
up_to s e = record { epoch = s.epoch; states = s.states; last = s.last; submitted = take (e - s.epoch) s.submitted }

-- all of it, where no epoch is named
abbrev pub told_until : Option ℕ → Standing → Standing
told_until None s = s
told_until (Some e) s = up_to s e

-- no such epoch: it is before the checkpoint's, or after the last
abbrev pub until_fault : Option ℕ → Standing → Option CopyError
until_fault None s = None
until_fault (Some e) s = if nat_lt e s.epoch || nat_lt (last_epoch s) e then Some (Until e s.epoch (last_epoch s)) else None

-- the first of two faults
abbrev pub first_of : Option CopyError → Option CopyError → Option CopyError
first_of None b = b
first_of (Some a) b = Some a

-- WHY A STANDING UP TO AN EPOCH IS NOT COPIED to a disk of these sizes: there is no such epoch, or no room for what is told up to it
abbrev pub copy_fault : Option ℕ → Sizes → Standing → Option CopyError
copy_fault until sizes s = first_of (until_fault until s) (room_fault sizes (told_until until s))
