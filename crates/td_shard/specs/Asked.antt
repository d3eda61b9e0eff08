-- Items that wait for a notification, and the notifications that a shard asked for (Naiad, section 2.2: NotifyAt).
use Rattle.std.specs.Prelude.{ℕ, List, ◌++◌, Option, Some, None}
use Rattle.std.specs.declared.cmp.Ordering.{Ordering}
use Rattle.std.specs.Ordering.{ordering_then, nat_cmp}
use Rattle.std.specs.Map.{lookup, remove_entry, set_value}
use Rattle.std.specs.BTreeMap.{insert_entry, is_at}
use Rattle.td_stamp.specs.declared.values.Arrival.{Arrival}
use Rattle.td_stamp.specs.Bag.{bag_of}
use Rattle.td_stamp.specs.Orders.{arrival_cmp}
use Rattle.td_stamp.specs.Time.{Timestamp, time_cmp}
use Rattle.td_shard.specs.declared.waiting.Noted.{Noted}

-- asked notifications, each with the bag of its items, in the order of the notifications
abbrev pub AskedList : Type 0
AskedList = List (Noted × List Arrival)

-- the order of asked notifications: by epoch, then by counters as a list from the outermost, then by vertex
abbrev pub noted_cmp : Noted → Noted → Ordering
noted_cmp m n = ordering_then (time_cmp m.time n.time) (nat_cmp m.vertex n.vertex)

abbrev pub noted_at : ℕ → Timestamp → Noted
noted_at v t = record { time = t; vertex = v }

-- the items that wait at a vertex and time, where its notification is asked for
abbrev pub items_at : AskedList → ℕ → Timestamp → Option (List Arrival)
items_at asked v t = lookup (is_at (noted_cmp (noted_at v t))) asked

abbrev pub with_items_by : Option (List Arrival) → AskedList → Noted → List Arrival → AskedList
with_items_by (Some items) asked n more = set_value (is_at (noted_cmp n)) asked (bag_of arrival_cmp (items ++ more))
with_items_by None asked n more = insert_entry noted_cmp asked n (bag_of arrival_cmp more)

-- with more items at a vertex and time: at the first its notification is asked for
abbrev pub with_items : AskedList → ℕ → Timestamp → List Arrival → AskedList
with_items asked v t more = with_items_by (items_at asked v t) asked (noted_at v t) more

-- without the items at a vertex and time, and its notification
abbrev pub without_items : AskedList → ℕ → Timestamp → AskedList
without_items asked v t = remove_entry (is_at (noted_cmp (noted_at v t))) asked
