-- The states after an epoch, read where they are kept.
use Rattle.std.specs.Prelude.{◌≡◌, ℕ, List, ◌++◌, filter, nat_le, Option, Some, option_map}
use Rattle.std.specs.List.{filter_map, AllByRecursion}
use Rattle.std.specs.Map.{keys_of}
use Rattle.td_stamp.specs.declared.values.State.{State}
use Rattle.td_stamp.specs.Bag.{set_of}
use Rattle.td_stamp.specs.Orders.{state_key_cmp}
use Rattle.td_stamp.specs.States.{StateList, state_of, AreStates}
use Rattle.td_machine.specs.declared.records.StateLeft.{StateLeft}
use Rattle.td_machine.specs.State.{with_left}
use Rattle.td_shard.specs.declared.versions.Version.{Version}
use Rattle.td_shard.specs.Versions.{IsLatestAt}

-- the states after an epoch: those of a base, and then what folds left up to the epoch
abbrev pub states_after : ℕ → StateList → List StateLeft → StateList
states_after epoch base left = with_left base (filter (λ k. nat_le k.epoch epoch) left)

-- the state at a place, with the place, if there is one
abbrev pub entry_at : StateList → ℕ × ℕ → Option ((ℕ × ℕ) × State)
entry_at states place = option_map (λ s. (place, s)) (state_of states place.0 place.1)

-- those at some places, in the order of these
abbrev pub entries_at : StateList → List (ℕ × ℕ) → StateList
entries_at states places = filter_map (entry_at states) places

-- the places of two lists of states, each once, in order
abbrev pub places_of : StateList → StateList → List (ℕ × ℕ)
places_of some others = set_of state_key_cmp (keys_of some ++ keys_of others)

-- entries of which each is found where it says
abbrev pub AreFound : StateList → StateList → Type 0
AreFound states entries = AllByRecursion (λ e. state_of states e.0.0 e.0.1 ≡ Some e.1) entries

-- what is gone through in no order: entries of a base that stands in order, and then places with their last versions
abbrev pub AreParts : ℕ → StateList → List StateLeft → StateList → List ((ℕ × ℕ) × Option Version) → Type 0
AreParts epoch base left kept latest = AreStates base × AreFound base kept × AllByRecursion (λ e. IsLatestAt epoch left e.0 e.1) latest
