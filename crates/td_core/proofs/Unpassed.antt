-- The least released epoch that has not passed, by the pointstamps of a table.
use Rattle.std.proofs.Common.{◌≡◌, ℕ, ◌+◌, ◌-◌, ◌<◌, ◌≤◌, nat_lt, Bool, true, false, not, cond, find, Some, None, ap, sym, ◌∙◌, arith}
use Rattle.td_batch.specs.Flow.{numbers_from}
use Rattle.td_reach.specs.Frontier.{has_passed}
use Rattle.td_progress.specs.Bag.{IsSameBag}
use Rattle.td_machine.specs.State.{HallState}
use Rattle.td_machine.specs.Active.{active, unpassed}
use Rattle.td_core.specs.declared.hall.Parts.{Parts}
use Rattle.td_core.specs.Parts.{state_of}
use Rattle.td_core.specs.Came.{next_below}
use Rattle.td_core.proofs.CollectSteps.{PassedAlike}

module _ (alike : PassedAlike) (parts : Parts) (counted : IsSameBag parts.table.stamps (active (state_of parts))) where
  first_here : find (λ e. not (has_passed parts.table.stamps e)) (numbers_from (parts.base + 1) (parts.next - (parts.base + 1))) ≡ unpassed (state_of parts)
  first_here = λ i. find (λ e. not (alike parts.table.stamps (active (state_of parts)) e counted i)) (numbers_from (parts.base + 1) (parts.next - (parts.base + 1)))

  pub is_unpassed : (last : ℕ) (b : Bool) (S : HallState) → state_of parts ≡ S
      → find (λ e. not (has_passed parts.table.stamps e)) (numbers_from (parts.base + 1) (parts.next - (parts.base + 1))) ≡ next_below (last + 1) parts.next
      → nat_lt (last + 1) parts.next ≡ b → cond b (Some (last + 1)) None ≡ unpassed S
  is_unpassed last b S is found test = sym (ap (λ d. cond d (Some (last + 1)) None) test) ∙ (sym found ∙ (first_here ∙ ap unpassed is))

pub below : (a b : ℕ) → a < b → nat_lt a b ≡ true
below a b h = grind (arith)

pub not_below : (a b : ℕ) → b ≤ a → nat_lt a b ≡ false
not_below a b h = grind (arith)
