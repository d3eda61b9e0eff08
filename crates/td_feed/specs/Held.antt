-- Outputs that are held until the consumer has seen them.
use Rattle.std.specs.Prelude.{◌≡◌, ◌⊎◌, ℕ, ◌≤◌, max, Bool, true, false, List, [], ◌∷◌, ◌++◌, Option, Some, None, Result, OnOk, IsErr}
use Rattle.td_console.specs.declared.faults.Fault.{Fault}
use Rattle.td_keeper.specs.declared.command.Command.{Command}
use Rattle.td_keeper.specs.declared.command.Command.TheVariants.{Cut, CutUpTo}
use Rattle.td_keeper.specs.Keeping.{Keeping}
use Rattle.td_orders.specs.declared.order.Order.{Order}
use Rattle.td_orders.specs.declared.order.Order.TheVariants as order
use Rattle.td_feed.specs.declared.under_way.Pace.{Pace}
use Rattle.td_feed.specs.declared.under_way.Pace.TheVariants.{AtEnd, Live}
use Rattle.td_orders.specs.declared.source.Asked.{Asked}
use Rattle.td_orders.specs.declared.source.Asked.TheVariants.{One, Epochs}

-- the last epoch that was seen, after an order, and a last one before it
abbrev pub seen_then : ℕ → Order → ℕ
seen_then last (order.Seen line epoch) = max last epoch
seen_then last _ = last

-- and after some orders
abbrev pub seen_after : ℕ → List Order → ℕ
seen_after last [] = last
seen_after last (order ∷ orders) = seen_after (seen_then last order) orders

-- the last epoch that was seen, where outputs are held; at first it is the one that the disk keeps
abbrev pub first_seen : Bool → ℕ → Option ℕ
first_seen true kept = Some kept
first_seen false kept = None

abbrev pub seen_at : Pace → ℕ → Option ℕ
seen_at AtEnd kept = None
seen_at (Live every hold) kept = first_seen hold kept

-- and after some orders, or after what was asked for
abbrev pub then_seen : Option ℕ → List Order → Option ℕ
then_seen None orders = None
then_seen (Some last) orders = Some (seen_after last orders)

abbrev pub asked_seen : ℕ → Asked → ℕ
asked_seen last (One order) = seen_then last order
asked_seen last (Epochs group) = last

abbrev pub seen_with : Option ℕ → Asked → Option ℕ
seen_with None asked = None
seen_with (Some last) asked = Some (asked_seen last asked)

-- the last epoch that was told to be seen, where one was told before, and where outputs are held
abbrev pub told_seen : Option ℕ → Option ℕ → Option ℕ
told_seen before None = before
told_seen before (Some seen) = Some seen

-- WHICH EPOCH WAS SEEN LAST IS TOLD, where outputs are held: at first the one that the disk keeps, and then that of each line that was taken,
-- after Ok of all. At a refusal before the first nothing is told
pub record TellsSeen (result : Result (Unit {0}) Fault) (first : Option ℕ) (orders : List Order) (before after : Option ℕ) : Type 0 where
  pub taken : List Order
  pub later : List Order
  pub parts : orders ≡ taken ++ later
  pub whole : OnOk result (later ≡ [])
  pub told : (after ≡ told_seen before (then_seen first taken)) ⊎ (IsErr result × (after ≡ before))

-- a keeper's plan, its head and its base are as they were
pub record SameBase {D : Type 0} (old new : Keeping D) : Type 0 where
  pub plan : new.plan ≡ old.plan
  pub head : new.head ≡ old.head
  pub base : new.base ≡ old.base

-- its base goes no further than an epoch
pub record GoesUpTo {D : Type 0} (epoch : ℕ) (old new : Keeping D) : Type 0 where
  pub plan : new.plan ≡ old.plan
  pub base : (last : ℕ) → epoch ≤ last → old.base ≤ last → new.base ≤ last

-- NOTHING IS KEPT BEYOND WHAT WAS SEEN, where outputs are held
abbrev pub KeepsTo : {D : Type 0} → Option ℕ → Keeping D → Keeping D → Type 0
KeepsTo None old new = Unit {0}
KeepsTo (Some seen) old new = GoesUpTo seen old new

-- ONLY A CUT moves the base
abbrev pub MovesBase : {D : Type 0} → Command → Keeping D → Keeping D → Type 0
MovesBase Cut old new = Unit {0}
MovesBase (CutUpTo epoch) old new = GoesUpTo epoch old new
MovesBase _ old new = SameBase old new
