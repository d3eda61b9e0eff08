-- What a disk stands for: a checkpoint, and the batches after it.
use Rattle.std.specs.Prelude.{ℕ, ◌+◌, List, [], ◌++◌, length, take, drop, map}
use Rattle.td_stamp.specs.declared.values.Entry.{Entry}
use Rattle.td_stamp.specs.States.{StateList}
use Rattle.td_slots.specs.declared.slots.Checkpoint.{Checkpoint}
use Rattle.td_journal.specs.declared.payload.Submitted.{Submitted}
use Rattle.td_journal.specs.Numbers.{greatest}

-- A STANDING: the epoch of the checkpoint, its states, the greatest request number of the epochs up to it (0 for none), and
-- the batches of the epochs after it, each with its request number (0 for none)
pub record Standing : Type 0 where
  pub epoch : ℕ
  pub states : StateList
  pub last : ℕ
  pub submitted : List Submitted

-- a checkpoint with what was submitted after it
abbrev pub standing_from : Checkpoint → List Submitted → Standing
standing_from c w = record { epoch = c.epoch; states = c.states; last = c.last; submitted = w }

-- the last epoch that a standing has
abbrev pub last_epoch : Standing → ℕ
last_epoch s = s.epoch + length s.submitted

-- the greatest request number that a standing has, 0 for none
abbrev pub last_request : Standing → ℕ
last_request s = greatest s.last s.submitted

-- the batches alone
abbrev pub batches_of : List Submitted → List (List Entry)
batches_of x = map (λ s. s.batch) x

-- a batch with its request number
abbrev pub submission : ℕ → List Entry → Submitted
submission request batch = record { request = request; batch = batch }

-- the standing with more batches after it
abbrev pub with_more : Standing → List Submitted → Standing
with_more s x = record { epoch = s.epoch; states = s.states; last = s.last; submitted = s.submitted ++ x }

-- the standing whose checkpoint went on by k of its epochs, to these states
abbrev pub cut_at : Standing → ℕ → StateList → Standing
cut_at s k states = record { epoch = s.epoch + k; states = states; last = greatest s.last (take k s.submitted); submitted = drop k s.submitted }

-- nothing yet, as after a format
abbrev pub nothing_told : Standing
nothing_told = record { epoch = 0; states = []; last = 0; submitted = [] }
