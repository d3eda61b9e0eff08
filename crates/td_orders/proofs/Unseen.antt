-- Orders that say nothing of what was seen.
use Rattle.std.proofs.Common.{◌≡◌, List, [], ◌∷◌, ◌++◌}
use Rattle.td_journal.specs.declared.payload.Submitted.{Submitted}
use Rattle.td_orders.specs.declared.order.Order.{Order}
use Rattle.td_orders.specs.declared.order.Order.TheVariants as order
use Rattle.td_orders.specs.Orders.{submissions}
use Rattle.td_orders.specs.Scripts.{SeeNothing}

-- orders that say nothing, one after another
pub see_nothing-append : (xs ys : List Order) → SeeNothing xs → SeeNothing ys → SeeNothing (xs ++ ys)
see_nothing-append [] ys a b = b
see_nothing-append (order.Submit batch ∷ xs) ys a b = see_nothing-append xs ys a b
see_nothing-append (order.SubmitAs request batch ∷ xs) ys a b = see_nothing-append xs ys a b
see_nothing-append (order.SubmitAt place request batch ∷ xs) ys a b = see_nothing-append xs ys a b
see_nothing-append (order.Cut ∷ xs) ys a b = see_nothing-append xs ys a b
see_nothing-append (order.Seen line epoch ∷ xs) ys a b = absurd a
see_nothing-append (order.Answer vertex wanted ∷ xs) ys a b = see_nothing-append xs ys a b
see_nothing-append (order.Copy copy ∷ xs) ys a b = see_nothing-append xs ys a b
see_nothing-append (order.Say note ∷ xs) ys a b = see_nothing-append xs ys a b

-- one that submits an epoch says nothing
pub submits_only : (o : Order) (s : Submitted) → submissions (o ∷ []) ≡ s ∷ [] → SeeNothing (o ∷ [])
submits_only (order.Submit batch) s is = tt
submits_only (order.SubmitAs request batch) s is = tt
submits_only (order.SubmitAt place request batch) s is = tt
submits_only order.Cut s is = tt
submits_only (order.Seen line epoch) s is = let no = is in cc
submits_only (order.Answer vertex wanted) s is = tt
submits_only (order.Copy copy) s is = tt
submits_only (order.Say note) s is = tt
