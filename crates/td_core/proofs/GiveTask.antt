-- A hall to which a task was given back, whatever the task had to do.
use Rattle.std.proofs.Common.{◌≡◌, ◌≤◌, ◌<◌, Result, Ok, Err, OnOk, OnErr, refl, sym, ap, ◌∙◌, subst, arith}
use Rattle.std.specs.List.{Contains}
use Rattle.td_calls.specs.Answers.{Answers}
use Rattle.td_reach.specs.declared.stamp.Stamp.{Stamp}
use Rattle.td_progress.specs.Bag.{occurrences}
use Rattle.td_machine.specs.State.{HallState, Task, Content}
use Rattle.td_machine.specs.State.Content.{messages, notification}
use Rattle.td_machine.specs.Moves.{gone_given}
use Rattle.td_machine.specs.Steps.{Gives, effect, is_given, ends}
use Rattle.td_machine.specs.Steps.Answer.{has_given, refused}
use Rattle.td_machine.specs.Steps.Gives.{gives, is_stranger}
use Rattle.td_machine.specs.Steps.Refusal.{stranger}
use Rattle.td_core.specs.declared.error.HallError.{HallError}
use Rattle.td_core.specs.declared.hall.Parts.{Parts}
use Rattle.td_core.specs.Parts.{state_of, IsHall}
use Rattle.td_core.specs.Given.{IsAnswered, IsEnded, IsUntouched}
use Rattle.td_core.specs.Routes.{IsRoutes}
use Rattle.td_core.proofs.DeliverSteps as deliver
use Rattle.td_core.proofs.DeliverSteps.{DeliverLaws}
use Rattle.td_core.proofs.GiveSteps.{untouched_state, untouched_hall}
use Rattle.td_core.proofs.NotifyGiven as notify
use Rattle.td_core.proofs.NotifySteps.{NotifyLaws}

module _ (answers : Answers) (laws : DeliverLaws answers) (waits : NotifyLaws) (old mid : Parts) (task : Task) (out : Contains old.out.items task) (inv : IsHall answers old) where
  -- what stays as it is until the task ends
  same_out : (content : Content) → IsAnswered answers task content old mid → mid.out ≡ old.out
  same_out (messages port recs) is = ap (λ (f : Parts). f.out) is.fields
  same_out (notification items) is = ap (λ (f : Parts). f.out) is.fields

  same_given : (content : Content) → IsAnswered answers task content old mid → mid.given ≡ old.given
  same_given (messages port recs) is = ap (λ (f : Parts). f.given) is.fields
  same_given (notification items) is = ap (λ (f : Parts). f.given) is.fields

  same_routes : (content : Content) → IsAnswered answers task content old mid → IsRoutes mid.table.plan mid.routes
  same_routes (messages port recs) is =
      subst (λ s. IsRoutes mid.table.plan s) (sym (ap (λ (f : Parts). f.routes) is.fields)) (subst (λ p. IsRoutes p old.routes) (sym is.plan) inv.routes)
  same_routes (notification items) is =
      subst (λ s. IsRoutes mid.table.plan s) (sym (ap (λ (f : Parts). f.routes) is.fields)) (subst (λ p. IsRoutes p old.routes) (sym is.plan) inv.routes)

  enough_for : (content : Content) → task.content ≡ content → IsAnswered answers task content old mid
      → (p : Stamp) → occurrences p (gone_given (state_of mid) task task.content) ≤ occurrences p mid.table.stamps
  enough_for (messages port recs) c is = deliver.enough answers laws old mid task port recs c inv out is
  enough_for (notification items) c is = notify.enough answers laws waits old mid task items c out inv is

  stepped_for : (content : Content) → task.content ≡ content → IsAnswered answers task content old mid → (end : Parts) → IsEnded task mid end
      → state_of end ≡ is_given (effect answers (state_of old) task task.content) task
  stepped_for (messages port recs) c is end ended = deliver.stepped answers laws old mid task port recs c inv out is end ended
  stepped_for (notification items) c is end ended = notify.stepped answers laws waits old mid task items c out inv is end ended

  kept_for : (content : Content) → task.content ≡ content → IsAnswered answers task content old mid → (end : Parts) → IsEnded task mid end → IsHall answers end
  kept_for (messages port recs) c is end ended = deliver.kept answers laws old mid task port recs c inv out is end ended
  kept_for (notification items) c is end ended = notify.kept answers laws waits old mid task items c out inv is end ended

  module _ (is : IsAnswered answers task task.content old mid) where
    pub out_still : mid.out ≡ old.out
    out_still = same_out task.content is

    pub routes_still : IsRoutes mid.table.plan mid.routes
    routes_still = same_routes task.content is

    -- one more may be counted, since this one was taken
    pub more_given : mid.given < ends
    more_given =
        let numbers = laws.numbers (state_of old) inv.reached in
        let sum = numbers.given in
        let most = numbers.taken in
        let one = out.1 in
        let same = same_given task.content is in
        omega (arith, sum, most, one, same)

    pub enough : (p : Stamp) → occurrences p (gone_given (state_of mid) task task.content) ≤ occurrences p mid.table.stamps
    enough = enough_for task.content refl is

    pub stepped : (end : Parts) → IsEnded task mid end → state_of end ≡ is_given (effect answers (state_of old) task task.content) task
    stepped end ended = stepped_for task.content refl is end ended

    pub kept : (end : Parts) → IsEnded task mid end → IsHall answers end
    kept end ended = kept_for task.content refl is end ended

-- A CALL OF GIVE: the hall is one still, and its step is the machine's
module _ {T : Type 0} (answers : Answers) (old new : Parts) where
  pub hall_still : (r : Result T HallError) → OnOk r (IsHall answers new) → OnErr r (IsUntouched old new) → IsHall answers old → IsHall answers new
  hall_still (Ok x) is same inv = is
  hall_still (Err e) is same inv = untouched_hall old new same answers inv

  pub has_given_it : (S : HallState) (task : Task) (r : Result T HallError) (x : T) → r ≡ Ok x → state_of old ≡ S → Contains old.out.items task
      → OnOk r (state_of new ≡ is_given (effect answers (state_of old) task task.content) task) → Gives answers S task has_given (state_of new)
  has_given_it S task r x e view there is =
      let now : state_of new ≡ is_given (effect answers (state_of old) task task.content) task =
      subst (λ q. OnOk q (state_of new ≡ is_given (effect answers (state_of old) task task.content) task)) e is in
      subst (λ U. Gives answers U task has_given (state_of new)) view (subst (Gives answers (state_of old) task has_given) (sym now) (gives there))

  pub as_it_was : (S : HallState) (r : Result T HallError) (e : HallError) → r ≡ Err e → state_of old ≡ S → OnErr r (IsUntouched old new) → state_of new ≡ S
  as_it_was S r e is view same = untouched_state old new (subst (λ q. OnErr q (IsUntouched old new)) is same) ∙ view

pub is_no_task : (answers : Answers) (S : HallState) (task : Task) → (Contains S.out task → ⊥) → Gives answers S task (refused stranger) S
is_no_task answers S task none = is_stranger none
