-- Notifications are asked for at groups and folds alone.
use Rattle.std.proofs.Common.{◌≡◌, true}
use Rattle.std.specs.List.{AllByRecursion}
use Rattle.td_calls.specs.Answers.{Answers}
use Rattle.td_calls.specs.Callbacks.{is_notified}
use Rattle.td_machine.specs.Active.{kind_of}
use Rattle.td_machine.specs.Below.{Below}
use Rattle.td_machine.specs.Reached.{IsReached}
use Rattle.td_machine.specs.State.{HallState}
use Rattle.td_machine.proofs.InOrder.{origin_of, history_of}
use Rattle.td_machine.proofs.Lists.{all_at}
use Rattle.td_machine.proofs.OfPlan.{has_at}
use Rattle.td_machine.proofs.Releases.{asked_is}

module _ (below : Below) where
  pub asked_notified : (answers : Answers) (S : HallState) → IsReached answers S → AllByRecursion (λ a. is_notified (kind_of S.plan a.vertex) ≡ true) S.asked
  asked_notified answers S r =
      let h = history_of below answers S r in
      all_at (λ a. is_notified (kind_of S.plan a.vertex) ≡ true) S.asked (λ i a at. (asked_is below answers (origin_of below answers S r) S h.0 h.1.running a (has_at S.asked i a at)).1)
