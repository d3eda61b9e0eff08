-- How many epochs are put on a disk at once.
use Rattle.std.specs.Prelude.{ℕ, ◌+◌, ◌-◌, ◌*◌, ◌/◌, ◌^◌, min, nat_le, length}
use Rattle.td_store.specs.standing.Standing.{last_epoch, last_request}
use Rattle.td_keeper.specs.Keeping.{Keeping}
use Rattle.td_orders.specs.declared.source.Room.{Room}

-- HOW MANY EPOCHS FORM A GROUP: as many as are asked for, 256 and 1 MiB of cells at most, and no more than there are free cells and numbers of epochs
abbrev pub epochs_of : {D : Type 0} → Keeping D → ℕ → ℕ
epochs_of k most = min (min (min (min most 256) (1048576 / (25 + 24 * k.head.shape.m))) (k.head.shape.n - length k.standing.submitted)) (2 ^ 63 - 1 - last_epoch k.standing)

-- and the room of a keeper for them
abbrev pub room_of : {D : Type 0} → Keeping D → ℕ → Room
room_of k most = record {
  told = last_epoch k.standing;
  last = last_request k.standing;
  is_numbered = nat_le 2 k.head.version;
  epochs = epochs_of k most;
  records = k.head.shape.m;
}
