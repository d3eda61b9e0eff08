-- Keys with their states, and their items kept beside them.
use Rattle.std.specs.Prelude.{ℕ, List, [], ◌∷◌, Option, None}
use Rattle.td_stamp.specs.declared.values.Item.{Item}
use Rattle.td_stamp.specs.declared.values.State.{State}
use Rattle.td_machine.specs.State.{KeyItems}
use Rattle.td_task.specs.declared.keyed.Key.{Key}

-- each key with its items and its state
abbrev pub with_items : List Key → List (List Item) → List KeyItems
with_items (k ∷ keys) (items ∷ others) = record { key = k.key; items = items; state = k.state } ∷ with_items keys others
with_items _ _ = []

-- a group of arrivals, as a key for which no state is kept
abbrev pub without_state : ℕ × List Item → KeyItems
without_state g = record { key = g.0; items = g.1; state = None }

-- a key with another state
abbrev pub with_state : KeyItems → Option State → KeyItems
with_state k state = record { key = k.key; items = k.items; state = state }
