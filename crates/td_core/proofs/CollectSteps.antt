-- A hall that is collected takes the machine's step.
use Rattle.std.proofs.Common.{◌≡◌, ℕ, ◌+◌, ◌-◌, List, map, filter, length, Result, Ok, Err, IfOk, OnOk, OnErr, Vec, Global, ap, sym, ◌∙◌, subst}
use Rattle.td_stamp.specs.declared.epoch_out.EpochOut.{EpochOut}
use Rattle.td_calls.specs.Answers.{Answers}
use Rattle.td_batch.specs.Flow.{numbers_from}
use Rattle.td_reach.specs.declared.stamp.Stamp.{Stamp}
use Rattle.td_reach.specs.Frontier.{has_passed}
use Rattle.td_progress.specs.Bag.{IsSameBag}
use Rattle.td_machine.specs.State.{HallState}
use Rattle.td_machine.specs.Active.{active}
use Rattle.td_machine.specs.Steps.{Event, Answer, Step, collect_step, collected_to, to_collect}
use Rattle.td_machine.specs.Steps.Event.{collect}
use Rattle.td_machine.specs.Steps.Answer.{has_collected}
use Rattle.td_machine.specs.Reached.{IsReached}
use Rattle.td_core.specs.declared.hall.Parts.{Parts}
use Rattle.td_core.specs.declared.error.HallError.{HallError}
use Rattle.td_core.specs.Parts.{state_of, IsHall}
use Rattle.td_core.specs.Came.{out_of, passed_since}
use Rattle.td_core.specs.Collected.{without_passed}

-- passed epochs are those of any list with the same pointstamps
abbrev pub PassedAlike : Type 0
PassedAlike = (xs ys : List Stamp) (epoch : ℕ) → IsSameBag xs ys → has_passed xs epoch ≡ has_passed ys epoch

-- each step leads to a state that plays reach
abbrev pub ReachedByStep : Answers → Type 0
ReachedByStep answers = (S T : HallState) (event : Event) (answer : Answer) → IsReached answers S → Step answers S event answer T → IsReached answers T

module _ (alike : PassedAlike) (parts : Parts) (counted : IsSameBag parts.table.stamps (active (state_of parts))) where
  pub passed_here : passed_since parts.table.stamps parts.collected parts.next ≡ to_collect (state_of parts)
  passed_here = λ i. filter (λ e. alike parts.table.stamps (active (state_of parts)) e counted i) (numbers_from (parts.collected + 1) (parts.next - (parts.collected + 1)))

  pub stepped : collect_step (state_of parts) ≡ (has_collected (map (out_of parts.outputs) (passed_since parts.table.stamps parts.collected parts.next)), state_of (without_passed parts))
  stepped = sym (λ i. (has_collected (map (out_of parts.outputs) (passed_here i)), collected_to (state_of parts) (parts.collected + length (passed_here i))))

module _ (answers : Answers) (alike : PassedAlike) (steps : ReachedByStep answers) (parts new : Parts) (inv : IsHall answers parts) where
  kept : IsHall answers (without_passed parts)
  kept = record {
    reached = steps (state_of parts) (state_of (without_passed parts)) collect _ inv.reached (stepped alike parts inv.counted);
    counted = inv.counted;
    inputs = inv.inputs;
    shards = inv.shards;
    few = inv.few;
    next = inv.next;
    routes = inv.routes;
  }

  pub still_hall : (r : Result (Vec EpochOut Global) HallError) → OnOk r (new ≡ without_passed parts) → OnErr r (new ≡ parts) → IsHall answers new
  still_hall (Ok outs) e f = subst (IsHall answers) (sym e) kept
  still_hall (Err why) e f = subst (IsHall answers) (sym f) inv

  pub answered : (r : Result (Vec EpochOut Global) HallError) → IfOk r (λ outs. outs.items ≡ map (out_of parts.outputs) (passed_since parts.table.stamps parts.collected parts.next))
      → OnOk r (new ≡ without_passed parts) → (S : HallState) → state_of parts ≡ S → IfOk r (λ outs. collect_step S ≡ (has_collected outs.items, state_of new))
  answered (Ok outs) e f S is = ap collect_step (sym is) ∙ (stepped alike parts inv.counted ∙ sym (λ i. (has_collected (e i), state_of (f i))))
  answered (Err why) e f S is = tt
