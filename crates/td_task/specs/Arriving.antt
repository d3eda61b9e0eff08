-- FOR PROOFS: how arrivals that come in order are put under their keys, one after another. What a maker of keys promises is told by
-- `groups` and rests on none of this.
use Rattle.std.specs.Prelude.{ℕ, ◌+◌, ◌==◌, Bool, true, false, cond, List, [], ◌∷◌, ◌++◌, Option, Some, None}
use Rattle.td_stamp.specs.declared.values.Item.{Item}
use Rattle.td_stamp.specs.declared.values.Arrival.{Arrival}
use Rattle.td_machine.specs.State.{KeyItems}

-- whether a key is the last one
abbrev pub is_key : Option ℕ → ℕ → Bool
is_key None key = false
is_key (Some last) key = last == key

-- the last of some keys
abbrev pub last_key : List KeyItems → Option ℕ
last_key [] = None
last_key (k ∷ []) = Some k.key
last_key (k ∷ next ∷ keys) = last_key (next ∷ keys)

-- one more item of the last key
abbrev pub into_last : List KeyItems → Item → List KeyItems
into_last [] item = []
into_last (k ∷ []) item = record { key = k.key; items = k.items ++ item ∷ []; state = k.state } ∷ []
into_last (k ∷ next ∷ keys) item = k ∷ into_last (next ∷ keys) item

-- an arrival under a key of its own
abbrev pub alone : Arrival → KeyItems
alone a = record { key = a.key; items = a.item ∷ []; state = None }

-- one more arrival, under the last key or under one of its own
abbrev pub with_arrival_by : Bool → List KeyItems → Arrival → List KeyItems
with_arrival_by true keys a = into_last keys a.item
with_arrival_by false keys a = keys ++ alone a ∷ []

-- one more arrival
abbrev pub with_arrival : List KeyItems → Arrival → List KeyItems
with_arrival keys a = with_arrival_by (is_key (last_key keys) a.key) keys a

-- all of them
abbrev pub with_arrivals : List KeyItems → List Arrival → List KeyItems
with_arrivals keys [] = keys
with_arrivals keys (a ∷ rest) = with_arrivals (with_arrival keys a) rest

-- how many keys these arrivals bring, where this is the last key before them
abbrev pub keys_after : Option ℕ → List Arrival → ℕ
keys_after last [] = 0
keys_after last (a ∷ rest) = cond (is_key last a.key) 0 1 + keys_after (Some a.key) rest
