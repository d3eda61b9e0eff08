-- What folds left for their keys above a base: the versions, each kept with its vertex and key.
use Rattle.std.specs.Prelude.{◌≡◌, ◌≢◌, ℕ, cond, List, [], ◌∷◌, map, filter, fold, nat_le, Option, Some, None, is_some}
use Rattle.std.specs.declared.cmp.Ordering.{Ordering}
use Rattle.std.specs.Ordering.{ordering_then, nat_cmp, is_gt}
use Rattle.std.specs.Option.{option_cmp}
use Rattle.td_stamp.specs.Bag.{bag_remove, join}
use Rattle.td_stamp.specs.Rises.{Rises}
use Rattle.td_stamp.specs.declared.values.State.{State}
use Rattle.td_stamp.specs.States.{StateList, state_of, replaced, without_state, AreStates}
use Rattle.td_batch.specs.Meaning.{with_kept}
use Rattle.td_machine.specs.declared.records.StateLeft.{StateLeft}
use Rattle.td_machine.specs.State.{state_cmp, left_cmp, with_left}
use Rattle.td_shard.specs.declared.versions.Version.{Version}

-- vertices and keys in order, each with its versions
abbrev pub VersionList : Type 0
VersionList = List ((ℕ × ℕ) × List Version)

-- a version, as what was left for a vertex and key
abbrev pub left_of : ℕ × ℕ → Version → StateLeft
left_of place version = record { epoch = version.epoch; vertex = place.0; key = place.1; state = version.state }

-- all that was left, in the order of epochs
abbrev pub left_in : VersionList → List StateLeft
left_in [] = []
left_in (e ∷ es) = join left_cmp (map (left_of e.0) e.1) (left_in es)

-- the order of the versions of one vertex and key: that in which they were left
abbrev pub version_cmp : Version → Version → Ordering
version_cmp x y = ordering_then (nat_cmp x.epoch y.epoch) (option_cmp state_cmp x.state y.state)

-- how the versions of a vertex and key are kept: there are some, and they stand in order
abbrev pub AreVersions : List Version → Type 0
AreVersions versions = (versions ≢ []) × Rises version_cmp versions

-- so are those of each
abbrev pub AreKept : VersionList → Type 0
AreKept [] = Unit {0}
AreKept (e ∷ es) = AreVersions e.1 × AreKept es

-- the later of two versions
abbrev pub later : Option Version → Version → Option Version
later None y = Some y
later (Some x) y = Some (cond (is_gt (version_cmp y x)) y x)

-- the last of some versions
abbrev pub latest : List Version → Option Version
latest versions = fold later None versions

-- a state, or what a version says in its place
abbrev pub version_or : Option Version → Option State → Option State
version_or None s = s
version_or (Some v) s = v.state

-- those up to an epoch
abbrev pub up_to : ℕ → List Version → List Version
up_to epoch versions = filter (λ k. nat_le k.epoch epoch) versions

-- states in which a vertex keeps for a key what a version says, if there is one
abbrev pub with_version : StateList → ℕ × ℕ → Option Version → StateList
with_version states place None = states
with_version states place (Some version) = with_kept states place.0 place.1 version.state

-- states with the last versions up to an epoch, one key after another
abbrev pub with_latest : ℕ → StateList → VersionList → StateList
with_latest epoch states [] = states
with_latest epoch states (e ∷ es) = with_latest epoch (with_version states e.0 (latest (up_to epoch e.1))) es

-- a last version that sets a state, and one that removes one
abbrev pub set_there : Option Version → Option Version
set_there None = None
set_there (Some v) = cond (is_some v.state) (Some v) None

abbrev pub removed_there : Option Version → Option Version
removed_there None = None
removed_there (Some v) = cond (is_some v.state) None (Some v)

-- states with some of the last versions up to an epoch
abbrev pub with_some : (Option Version → Option Version) → ℕ → StateList → VersionList → StateList
with_some pick epoch states [] = states
with_some pick epoch states (e ∷ es) = with_some pick epoch (with_version states e.0 (pick (latest (up_to epoch e.1)))) es

-- states with a change taken back: with the state that was kept before at a place, if any
abbrev pub with_change_back : StateList → (ℕ × ℕ) × Option State → StateList
with_change_back states (place, None) = without_state states place.0 place.1
with_change_back states (place, Some was) = replaced states place.0 place.1 was

-- with all of them, the last first
abbrev pub with_changes_back : StateList → List ((ℕ × ℕ) × Option State) → StateList
with_changes_back states [] = states
with_changes_back states (e ∷ es) = with_change_back (with_changes_back states es) e

-- what was left, without some of it
abbrev pub taken_back : List StateLeft → List StateLeft → List StateLeft
taken_back left some = fold (λ rest one. bag_remove left_cmp one rest) left some

-- that this is the last version of a place up to an epoch, if there is one: of any states it alone decides which state stands there after what was left
abbrev pub IsLatestAt : ℕ → List StateLeft → ℕ × ℕ → Option Version → Type 0
IsLatestAt epoch left place version =
    (states : StateList) → AreStates states → state_of (with_left states (filter (λ k. nat_le k.epoch epoch) left)) place.0 place.1 ≡ version_or version (state_of states place.0 place.1)
