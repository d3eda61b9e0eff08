-- What a vertex does with what arrives (Naiad, section 2.2, OnRecv and OnNotify), kind by kind.
use Rattle.std.specs.Prelude.{ℕ, Bool, true, false, not, List, [], ◌∷◌, ◌++◌, map, filter, flat_map, Option, if◌then◌else◌}
use Rattle.std.specs.List.{enumerate_from}
use Rattle.td_stamp.specs.declared.values.Rec.{Rec}
use Rattle.td_stamp.specs.declared.values.Item.{Item}
use Rattle.td_stamp.specs.declared.values.State.{State}
use Rattle.td_stamp.specs.declared.values.Arrival.{Arrival}
use Rattle.td_stamp.specs.Orders.{rec_cmp}
use Rattle.td_stamp.specs.Bag.{bag_of, set_of, has}
use Rattle.td_stamp.specs.Groups.{arrival_of, rec_of, groups}
use Rattle.td_plan.specs.declared.vertex.Kind.{Kind}
use Rattle.td_plan.specs.declared.vertex.Kind.TheVariants.{Input, Map, Distinct, Group, Fold}
use Rattle.td_calls.specs.Answers.{Answers}

-- what arrives at a vertex, where these are the bags at its ports 0, 1, .. They are one for each port, since two edges of one
-- source may carry different records while messages fly
abbrev pub arrivals : List (List Rec) → List Arrival
arrivals bags = flat_map (λ b. map (arrival_of b.0) b.1) (enumerate_from 0 bags)

-- What a vertex has kept of a time so far: the records that a distinct has seen, and the arrivals that a group or a fold
-- keeps for its notification
pub record Kept : Type 0 where
  pub seen : List Rec
  pub buffered : List Arrival

abbrev pub nothing_kept : Kept
nothing_kept = record { seen = []; buffered = [] }

-- What a callback adds to that, and what it sends. It is an addition, so that an engine can keep what it has as data
pub record Added : Type 0 where
  pub seen : List Rec
  pub buffered : List Arrival
  pub sent : List Rec

abbrev pub only_sent : List Rec → Added
only_sent sent = record { seen = []; buffered = []; sent = sent }

-- of a record that arrives (OnRecv); what is at the edge of a loop, and an output, pass it on
abbrev pub on_arrival : Answers → Kind → Kept → Arrival → Added
on_arrival answers Input kept a = only_sent []
on_arrival answers (Map code) kept a = only_sent (answers.emit code a.item.port (rec_of a))
on_arrival answers Distinct kept a =
    if has rec_cmp (rec_of a) kept.seen then only_sent [] else record { seen = rec_of a ∷ []; buffered = []; sent = rec_of a ∷ [] }
on_arrival answers (Group code) kept a = record { seen = []; buffered = a ∷ []; sent = [] }
on_arrival answers (Fold code) kept a = record { seen = []; buffered = a ∷ []; sent = [] }
on_arrival answers _ kept a = only_sent (rec_of a ∷ [])

-- of a notification (OnNotify), for a key with its state and its sorted items: the state that is kept, and what is sent
abbrev pub on_notification : Answers → Kind → ℕ → Option State → List Item → Option State × List Rec
on_notification answers (Group code) key state items = (state, answers.group code key items)
on_notification answers (Fold code) key state items = answers.fold code key state items
on_notification answers _ key state items = (state, [])

-- whether a vertex of this kind keeps what arrives for its notification
abbrev pub is_notified : Kind → Bool
is_notified (Group code) = true
is_notified (Fold code) = true
is_notified _ = false

-- what is sent at the notification of the keys of these arrivals, one key after another. `state` tells the state of each
-- key before the epoch
abbrev pub sent_when_notified : Answers → (ℕ → Option State) → Kind → List Arrival → List Rec
sent_when_notified answers state kind arrived = flat_map (λ g. (on_notification answers kind g.0 (state g.0) g.1).1) (groups arrived)

-- All that a vertex sends at a time from now on, where it has kept this much of the time so far, and these records still arrive,
-- in whatever order. The batch meaning and an engine share it, by the laws in `Laws`
abbrev pub sends : Answers → (ℕ → Option State) → Kind → Kept → List Arrival → List Rec
sends answers state Input kept arrived = []
sends answers state (Map code) kept arrived = bag_of rec_cmp (flat_map (λ a. answers.emit code a.item.port (rec_of a)) arrived)
sends answers state Distinct kept arrived = filter (λ r. not (has rec_cmp r kept.seen)) (set_of rec_cmp (map rec_of arrived))
sends answers state (Group code) kept arrived = bag_of rec_cmp (sent_when_notified answers state (Group code) (kept.buffered ++ arrived))
sends answers state (Fold code) kept arrived = bag_of rec_cmp (sent_when_notified answers state (Fold code) (kept.buffered ++ arrived))
sends answers state _ kept arrived = bag_of rec_cmp (map rec_of arrived)

-- HOW AN ENGINE GETS THERE: what is kept once a callback has added to it
abbrev pub with_added : Kept → Added → Kept
with_added kept added = record { seen = added.seen ++ kept.seen; buffered = added.buffered ++ kept.buffered }

-- what the callbacks of some arrivals add and send, one after another
abbrev pub on_arrivals : Answers → Kind → Kept → List Arrival → Added
on_arrivals answers kind kept [] = only_sent []
on_arrivals answers kind kept (a ∷ rest) =
    let added = on_arrival answers kind kept a in
    let more = on_arrivals answers kind (with_added kept added) rest in
    record { seen = more.seen ++ added.seen; buffered = more.buffered ++ added.buffered; sent = added.sent ++ more.sent }

-- the arrivals of the keys that pass a test, as those of one shard
abbrev pub of_keys : (ℕ → Bool) → List Arrival → List Arrival
of_keys p arrived = filter (λ a. p a.key) arrived

abbrev pub without_keys : (ℕ → Bool) → Kept → Kept
without_keys p kept = record kept { buffered = of_keys (λ key. not (p key)) kept.buffered }
