-- Which epochs are new, and the greatest request number after them.
use Rattle.std.proofs.Common.{◌≡◌, ℕ, List, ◌++◌, sym, ap, ◌∙◌}
use Rattle.td_plan.specs.Lines.{Line}
use Rattle.td_calls.specs.Answers.{Answers}
use Rattle.td_journal.specs.Numbers.{greatest}
use Rattle.td_journal.specs.declared.payload.Submitted.{Submitted}
use Rattle.td_store.specs.standing.Standing.{Standing, last_request}
use Rattle.td_store.specs.standing.Stops.{Stands}
use Rattle.td_store.specs.standing.Advanced.{states_by}
use Rattle.td_keeper.specs.Keeping.{Keeping}
use Rattle.td_orders.specs.Orders.{new_after}
use Rattle.td_feed.specs.Carried.{Carries, new_to}
use Rattle.td_orders.specs.OrderProofs.{greatest-append, new_after-append}

-- what is new to a keeper that has gone on with what was new
pub new_on : {D : Type 0} (answers : Answers) (old there : Keeping D) (x y : List Submitted) → Carries answers old there (new_to old x) → new_to old (x ++ y) ≡ new_to old x ++ new_to there y
new_on answers old there x y first = new_after-append (last_request old.standing) x y ∙ ap (λ (q : ℕ). new_to old x ++ new_after q y) (sym first.last)

-- the greatest number of a standing is that of the history for which it stands
pub last_of_history : (answers : Answers) (plan : List Line) (s : Standing) (history : List Submitted) → Stands (states_by answers plan) s history → last_request s ≡ greatest 0 history
last_of_history answers plan s history is =
    ap (λ (q : ℕ). greatest q s.submitted) is.last ∙ (sym (greatest-append 0 is.before s.submitted) ∙ ap (greatest 0) (sym is.whole))
