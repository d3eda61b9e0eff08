-- The messages of a shard, in the order in which they were posted, and the tasks that are taken of them.
use Rattle.std.specs.Prelude.{◌≡◌, ℕ, zero, suc, ◌-◌, ◌==◌, Bool, ◌&&◌, cond, List, [], ◌∷◌, map, flat_map, filter, take, reverse, Option, Some, None}
use Rattle.std.specs.List.{AllByRecursion, remove, slice_get}
use Rattle.std.specs.Cmp.Lexicographic.{pointwise}
use Rattle.td_stamp.specs.Time.{Timestamp}
use Rattle.td_stamp.specs.declared.values.Rec.{Rec}
use Rattle.td_machine.specs.declared.records.Message.{Message}
use Rattle.td_machine.specs.Steps.{task_size}
use Rattle.td_shard.specs.declared.outlet.Outlet.{Outlet}

-- What a mailbox holds: how many more runs of messages, and how many more messages in all, may be posted without memory; and the
-- messages that were posted and not taken, in the order posted
pub record Mailboxed : Type 0 where
  pub runs : ℕ
  pub room : ℕ
  pub messages : List Message

-- whether two times are equal, as a derived test of their parts computes it
abbrev pub equal_times : Timestamp → Timestamp → Bool
equal_times t u = (t.epoch == u.epoch) && pointwise (λ i j. i == j) (reverse t.turns) (reverse u.turns)

-- whether two messages are on one edge, and bear one time
abbrev pub same_edge : Message → Message → Bool
same_edge c d = (c.vertex == d.vertex) && ((c.port == d.port) && equal_times c.time d.time)

-- a message is on the edge of another, and bears its time
abbrev pub IsBeside : Message → Message → Type 0
IsBeside c d = (d.vertex ≡ c.vertex) × (d.port ≡ c.port) × (d.time ≡ c.time)

-- a list without the first n of its elements that pass a test
abbrev pub without_first : {X : Type 0} → (X → Bool) → ℕ → List X → List X
without_first p zero xs = xs
without_first p (suc n) [] = []
without_first p (suc n) (x ∷ xs) = cond (p x) (without_first p n xs) (x ∷ without_first p (suc n) xs)

-- how many more messages a task has at most than the one with which it begins
abbrev pub task_rest : ℕ
task_rest = task_size - 1

-- a task that begins with a message: of the others the first on its edge and of its time come with it, as many as a task has
abbrev pub task_by : Option Message → List Message → List Message
task_by None others = []
task_by (Some c) others = c ∷ take task_rest (filter (same_edge c) others)

-- what stays of the others
abbrev pub left_by : Option Message → List Message → List Message
left_by None others = others
left_by (Some c) others = without_first (same_edge c) task_rest others

-- the task that begins with the message at a place, and the messages that are left then
abbrev pub task_at : ℕ → List Message → List Message
task_at pick messages = task_by (slice_get messages pick) (remove messages pick)

abbrev pub left_at : ℕ → List Message → List Message
left_at pick messages = left_by (slice_get messages pick) (remove messages pick)

-- a record that goes out at a time
abbrev pub on_outlet : Timestamp → Rec → Outlet → Message
on_outlet t r o = record { vertex = o.reader; port = o.port; time = t; rec = r }

-- RECORDS ON EACH OF SOME OUTLETS: record by record, and then outlet by outlet
abbrev pub on_each : List Outlet → Timestamp → List Rec → List Message
on_each outlets t recs = flat_map (λ r. map (on_outlet t r) outlets) recs

-- no two outlets lead to one port of one vertex
abbrev pub AreApart : List Outlet → Type 0
AreApart [] = Unit {0}
AreApart (o ∷ os) = AllByRecursion (λ q. o.reader ≡ q.reader → o.port ≡ q.port → ⊥) os × AreApart os
