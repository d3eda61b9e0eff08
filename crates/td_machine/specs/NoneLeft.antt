-- Where a shard has no task, and which epoch has not passed.
use Rattle.std.specs.Prelude.{◌≡◌, ℕ, ◌+◌, nat_lt, true, false, filter, Some, None}
use Rattle.std.specs.List.{AllByRecursion}
use Rattle.td_stamp.specs.Time.{Timestamp}
use Rattle.td_batch.specs.Flow.{numbers_from}
use Rattle.td_machine.specs.State.{HallState, Task, shard_of_key}
use Rattle.td_machine.specs.Active.{stamp_at, Frontier, has_passed, released_after, unpassed}
use Rattle.td_machine.specs.Steps.{MayTake, is_asked}

-- no message of the shard is there, and none of its notifications is in the frontier: then it has no task
abbrev pub NoneToTake : Type 0
NoneToTake = (S : HallState) (s : ℕ) → AllByRecursion (λ c. shard_of_key S.workers c.rec.key ≡ s → ⊥) S.messages
    → ((v : ℕ) (t : Timestamp) → is_asked S s v t ≡ true → Frontier S (stamp_at v t) → ⊥)
    → (task : Task) → MayTake S s task → ⊥

-- where so many of the epochs after the base have passed, and these are the first ones, the next one is the least that has not
abbrev pub FirstUnpassed : Type 0
FirstUnpassed = (S : HallState) (many : ℕ) → filter (has_passed S) (released_after S S.base) ≡ numbers_from (S.base + 1) many
    → unpassed S ≡ elim (nat_lt (S.base + 1 + many) S.next) [ true ↦ Some (S.base + 1 + many) | false ↦ None ]
