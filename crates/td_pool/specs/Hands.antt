-- What a seat holds between a take and its give.
use Rattle.std.specs.Prelude.{◌≡◌, ◌⊎◌, ℕ, ◌+◌, Bool, true, false, cond, Option, Some, None}
use Rattle.td_plan.specs.declared.vertex.Kind.{Kind}
use Rattle.td_machine.specs.State.{Task}
use Rattle.td_core.specs.declared.error.HallError.TheVariants.{Stranger, Busy, Spent}
use Rattle.td_pool.specs.declared.hand.Hand.{Hand}
use Rattle.td_pool.specs.declared.hand.Hand.TheVariants.{Empty, Taken, Ready}
use Rattle.td_pool.specs.declared.error.PoolError.{PoolError}
use Rattle.td_pool.specs.declared.error.PoolError.TheVariants.{NotAll, NoCall, Hall as OfHall, Memory}

module _ {X : Type 0} where
  abbrev pub is_empty : Hand X → Bool
  is_empty Empty = true
  is_empty (Taken task) = false
  is_empty (Ready done) = false

  -- how many tasks it holds
  abbrev pub held_in : Hand X → ℕ
  held_in hand = cond (is_empty hand) 0 1

  -- whether it holds a task that was run
  abbrev pub is_ready : Hand X → Bool
  is_ready Empty = false
  is_ready (Taken task) = false
  is_ready (Ready done) = true

  -- the task that a hand holds, run or not
  abbrev pub task_of : Hand X → Option Task
  task_of Empty = None
  task_of (Taken task) = Some task
  task_of (Ready done) = Some done

  -- WHAT STAYS in a seat where work ends by a refusal: the task whose closure is lacking, of which the refusal tells the vertex and the
  -- code; at want of memory whatever it held, and at a refusal of the hall nothing
  abbrev pub Stays : (Kind → Option ℕ) → PoolError → Hand X → Type 0
  Stays lacks NotAll hand = ⊥
  Stays lacks (NoCall vertex code) Empty = ⊥
  Stays lacks (NoCall vertex code) (Taken task) = (task.vertex ≡ vertex) × (lacks task.kind ≡ Some code)
  Stays lacks (NoCall vertex code) (Ready done) = ⊥
  Stays lacks (OfHall error) hand = (is_empty hand ≡ true) × ((error ≡ Busy) ⊎ ((error ≡ Spent) ⊎ (error ≡ Stranger)))
  Stays lacks Memory hand = Unit {0}

-- WHAT IS LOST where work ends by a refusal: a task whose give was refused as a stranger's may be out, and nobody holds it; no other is
abbrev pub Strays : PoolError → ℕ → ℕ → Type 0
Strays error old new = (new ≡ old) ⊎ ((error ≡ OfHall Stranger) × (new ≡ old + 1))
