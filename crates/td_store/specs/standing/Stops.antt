-- A beginning of what was submitted, however often a device stops.
use Rattle.std.specs.Prelude.{◌≡◌, ℕ, ◌+◌, ◌≤◌, List, [], ◌++◌, length, take, drop}
use Rattle.td_stamp.specs.declared.values.Entry.{Entry}
use Rattle.td_stamp.specs.States.{StateList}
use Rattle.td_journal.specs.declared.payload.Submitted.{Submitted}
use Rattle.td_journal.specs.Numbers.{greatest}
use Rattle.td_store.specs.standing.Standing.{Standing, last_epoch, batches_of}

-- one list begins another
abbrev pub Begins : List Submitted → List Submitted → Type 0
Begins w whole = (rest : List Submitted) × (whole ≡ w ++ rest)

-- the standing has all epochs up to the n-th
abbrev pub Holds : Standing → ℕ → Type 0
Holds s n = n ≤ last_epoch s

module _ (run : StateList → List (List Entry) → StateList) where
  -- The checkpoint went on by k epochs of the first, and what follows them may be cut short.
  pub record Advance (s t : Standing) : Type 0 where
    pub k : ℕ
    pub most : k ≤ length s.submitted
    pub epoch : t.epoch ≡ s.epoch + k
    pub states : t.states ≡ run s.states (batches_of (take k s.submitted))
    pub last : t.last ≡ greatest s.last (take k s.submitted)
    pub submitted : Begins t.submitted (drop k s.submitted)

  -- The checkpoint is what the first batches of a list come to, and the list goes on with those after it.
  pub record Stands (s : Standing) (history : List Submitted) : Type 0 where
    pub before : List Submitted
    pub epochs : length before ≡ s.epoch
    pub states : s.states ≡ run [] (batches_of before)
    pub last : s.last ≡ greatest 0 before
    pub whole : history ≡ before ++ s.submitted
