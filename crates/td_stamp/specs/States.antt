-- Kept states: a map from (vertex, key) to a state, as the list of its entries in the order of (vertex, key).
use Rattle.std.specs.Prelude.{ℕ, ◌==◌, Bool, ◌&&◌, cond, List, Option, is_some, map, pos}
use Rattle.std.specs.Ordering.{int_eq}
use Rattle.std.specs.Map.{lookup, remove_entry, keys_of}
use Rattle.std.specs.BTreeMap.{insert_entry, is_at}
use Rattle.std.specs.List.Sorted.{IsStrictlySortedBy}
use Rattle.std.specs.Option.{unwrap_or}
use Rattle.td_stamp.specs.declared.values.State.{State}
use Rattle.td_stamp.specs.Orders.{state_key_cmp}

abbrev pub StateList : Type 0
StateList = List ((ℕ × ℕ) × State)

-- the state that a vertex keeps for a key
abbrev pub state_of : StateList → ℕ → ℕ → Option State
state_of states vertex key = lookup (is_at (state_key_cmp (vertex, key))) states

-- the states with this one at a vertex and key
abbrev pub with_state : StateList → ℕ → ℕ → State → StateList
with_state states vertex key state = insert_entry state_key_cmp states (vertex, key) state

-- the states with another one at a vertex and key that have one; else as they are
abbrev pub replaced : StateList → ℕ → ℕ → State → StateList
replaced states vertex key state = cond (is_some (state_of states vertex key)) (with_state states vertex key state) states

-- the states without that of a vertex and key
abbrev pub without_state : StateList → ℕ → ℕ → StateList
without_state states vertex key = remove_entry (is_at (state_key_cmp (vertex, key))) states

-- a list that is such a map: its keys rise strictly
abbrev pub AreStates : StateList → Type 0
AreStates states = IsStrictlySortedBy state_key_cmp (keys_of states)

-- whether two entries are the same
abbrev pub same_entry : (ℕ × ℕ) × State → (ℕ × ℕ) × State → Bool
same_entry d e = (d.0.0 == e.0.0 && d.0.1 == e.0.1) && (int_eq d.1.a e.1.a && int_eq d.1.b e.1.b)

-- ---- how they are kept: each is found at its vertex and key, and those stand in order beside

-- whether two places are the same
abbrev pub same_place : ℕ × ℕ → ℕ × ℕ → Bool
same_place p q = p.0 == q.0 && p.1 == q.1

-- the state that is found at a place where there is one
abbrev pub found_at : (ℕ × ℕ → Option State) → ℕ × ℕ → State
found_at find place = unwrap_or (find place) (record { a = pos 0; b = pos 0 })

-- the states at some places, in the order of these
abbrev pub listed : List (ℕ × ℕ) → (ℕ × ℕ → Option State) → StateList
listed places find = map (λ p. (p, found_at find p)) places
