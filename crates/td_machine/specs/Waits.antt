-- A notification, by what waits for it in its shard.
use Rattle.std.specs.Prelude.{◌≡◌, ℕ, ◌==◌, ◌&&◌, Bool, false, not, List, map, filter}
use Rattle.std.specs.List.{AllByRecursion}
use Rattle.td_stamp.specs.declared.values.Arrival.{Arrival}
use Rattle.td_stamp.specs.Bag.{join, set_of, IsBag}
use Rattle.td_stamp.specs.Groups.{groups}
use Rattle.td_stamp.specs.Time.{Timestamp}
use Rattle.td_machine.specs.declared.records.Message.{Message}
use Rattle.td_machine.specs.declared.records.Notification.{Notification}
use Rattle.td_machine.specs.State.{HallState, message_cmp, notification_cmp, shard_of_key, is_there}
use Rattle.td_machine.specs.Steps.{asked_at, is_for, to_notify, with_state_of, waiting}

-- a message waits for the notification of its shard, its vertex and its time
abbrev pub WaitsByPlace : Type 0
WaitsByPlace = (S : HallState) (s v : ℕ) (t : Timestamp) (c : Message)
    → is_for S (asked_at S s v t) c ≡ (shard_of_key S.workers c.rec.key == s && is_there v t c.vertex c.time)

-- where these items of a shard wait at a vertex and time beside others, which wait for something else, the notification is
-- taken with their groups, and when it is given, the others are left
abbrev pub WhatWaits : Type 0
WhatWaits = (S : HallState) (s v : ℕ) (t : Timestamp) (items : List Arrival) (others : List Message)
    → S.buffered ≡ join message_cmp (map (waiting v t) items) others → IsBag message_cmp others
    → AllByRecursion (λ a. shard_of_key S.workers a.key ≡ s) items
    → AllByRecursion (λ c. is_for S (asked_at S s v t) c ≡ false) others
    → (to_notify S s v t ≡ map (with_state_of S v t) (groups items)) × (filter (λ c. not (is_for S (asked_at S s v t) c)) S.buffered ≡ others)

-- of a set of notifications those that pass a test are the set of those that pass
abbrev pub AskedPassing : Type 0
AskedPassing = (p : Notification → Bool) (xs : List Notification) → filter p (set_of notification_cmp xs) ≡ set_of notification_cmp (filter p xs)
