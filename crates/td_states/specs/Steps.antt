-- The code's own steps: what its private functions say of one another, line by line. No public contract cites this file.
use Rattle.std.specs.Prelude.{◌≡◌, ◌⊎◌, ℕ, true, List, [], ◌∷◌, ◌++◌, length, Option, Some, None, Result, Ok, Err}
use Rattle.std.specs.Ordering.{is_lt}
use Rattle.td_stamp.specs.declared.values.State.{State}
use Rattle.td_stamp.specs.Orders.{state_key_cmp}
use Rattle.td_gate.specs.Fields.{is_chain}
use Rattle.td_slots.specs.declared.slots.Checkpoint.{Checkpoint}
use Rattle.td_slots.specs.Parsed.{last_place}
use Rattle.td_states.specs.declared.rename.Rename.{Rename}
use Rattle.td_states.specs.declared.line.StatesLine.{StatesLine}
use Rattle.td_states.specs.declared.line.StatesLine.TheVariants.{PassedOver, Kept, Last, Held}
use Rattle.td_states.specs.declared.error.StatesFault.{StatesFault}
use Rattle.td_states.specs.declared.error.StatesError.{StatesError}
use Rattle.td_states.specs.declared.error.StatesError.TheVariants.{Line, Memory}
use Rattle.td_states.specs.Spelled.{renamed, fault_after, AreRead}

-- a checkpoint whose epoch was read, with a request number, and with a state more
abbrev pub begun : ℕ → Checkpoint
begun epoch = record { slot = 0; epoch = epoch; last = 0; states = [] }

abbrev pub with_last : Checkpoint → ℕ → Checkpoint
with_last c request = record { slot = c.slot; epoch = c.epoch; last = request; states = c.states }

abbrev pub with_held : Checkpoint → (ℕ × ℕ) × State → Checkpoint
with_held c state = record { slot = c.slot; epoch = c.epoch; last = c.last; states = c.states ++ state ∷ [] }

-- what is read with a line more that has no fault
abbrev pub first_read : StatesLine → Option Checkpoint
first_read PassedOver = None
first_read (Kept epoch) = Some (begun epoch)
first_read (Last request) = None
first_read (Held vertex key state) = None

abbrev pub next_read : List Rename → Checkpoint → StatesLine → Checkpoint
next_read renames c PassedOver = c
next_read renames c (Kept epoch) = c
next_read renames c (Last request) = with_last c request
next_read renames c (Held vertex key state) = with_held c (renamed renames ((vertex, key), state))

abbrev pub read_on : List Rename → Option Checkpoint → Option StatesLine → Option Checkpoint
read_on renames read None = read
read_on renames None (Some said) = first_read said
read_on renames (Some c) (Some said) = Some (next_read renames c said)

-- that, or the fault of the line, which has the number n
abbrev pub or_fault : ℕ → Option Checkpoint → Option StatesFault → Result (Option Checkpoint) StatesError
or_fault n next None = Ok next
or_fault n next (Some fault) = Err (Line n fault)

abbrev pub with_line : List ℕ → List Rename → ℕ → Option Checkpoint → Option StatesLine → Result (Option Checkpoint) StatesError
with_line folds renames n read said = or_fault n (read_on renames read said) (fault_after folds renames read said)

-- a call gave this answer, or was refused a growth
abbrev pub Gives : Result (Option Checkpoint) StatesError → Result (Option Checkpoint) StatesError → Type 0
Gives (Ok read) wanted = wanted ≡ Ok read
Gives (Err e) wanted = (e ≡ Memory) ⊎ (wanted ≡ Err e)

-- the last place of a checkpoint whose states rise strictly
pub record EndsAt (c : Checkpoint) (place : Option (ℕ × ℕ)) : Type 0 where
  pub last : place ≡ last_place c.states
  pub rises : is_chain (λ x y. is_lt (state_key_cmp x.0 y.0)) c.states ≡ true

-- of some lines the first n are read so, and these are left
pub record IsReadUpTo (folds : List ℕ) (renames : List Rename) (lines rest : List (List ℕ)) (n : ℕ) (read : Option Checkpoint) : Type 0 where
  pub front : List (List ℕ)
  pub splits : lines ≡ front ++ rest
  pub number : n ≡ length front
  pub are_read : AreRead folds renames front read
