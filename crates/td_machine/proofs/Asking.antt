-- The notifications for which records ask.
use Rattle.std.proofs.Common.{◌≡◌, ℕ, List, [], ◌∷◌, map, filter, refl, ap, ◌∙◌, Bool, true, false, ◌||◌}
use Rattle.std.specs.List.{AllByRecursion}
use Rattle.std.specs.Ordering.{is_eq}
use Rattle.std.proofs.lemmas.Cmp.{tied_itself}
use Rattle.td_stamp.specs.Bag.{has}
use Rattle.td_plan.specs.Lines.{Line}
use Rattle.td_calls.specs.Callbacks.{is_notified}
use Rattle.td_machine.specs.declared.records.Message.{Message}
use Rattle.td_machine.specs.declared.records.Notification.{Notification}
use Rattle.td_machine.specs.State.{notification_cmp, asked_of}
use Rattle.td_machine.specs.Active.{kind_of}
use Rattle.td_machine.proofs.History.{asking}
use Rattle.td_machine.proofs.Orders.{notification_total}
use Rattle.td_machine.proofs.Lists.{filter_yes, filter_no, all_weaken, from_filter}

pub or_yes : (b : Bool) → (b || true) ≡ true
or_yes true = refl
or_yes false = refl

-- one more asks, and what was asked for still is
stands_on : (a b : Notification) (more : List Notification) → has notification_cmp a more ≡ true → has notification_cmp a (b ∷ more) ≡ true
stands_on a b more h = ap (λ d. is_eq (notification_cmp a b) || d) h ∙ or_yes (is_eq (notification_cmp a b))

-- each record's own is among those of all
pub each_asked : (workers : ℕ) (cs : List Message) → AllByRecursion (λ c. has notification_cmp (asked_of workers c) (map (asked_of workers) cs) ≡ true) cs
each_asked workers [] = tt
each_asked workers (c ∷ cs) = (
  ap (λ o. is_eq o || has notification_cmp (asked_of workers c) (map (asked_of workers) cs)) (tied_itself notification_total (asked_of workers c)),
  all_weaken (λ d. has notification_cmp (asked_of workers d) (map (asked_of workers) cs) ≡ true) (λ d. has notification_cmp (asked_of workers d) (map (asked_of workers) (c ∷ cs)) ≡ true)
      (λ d h. stands_on (asked_of workers d) (asked_of workers c) (map (asked_of workers) cs) h) cs (each_asked workers cs),
)

module _ (plan : List Line) (workers : ℕ) where
  abbrev groups_here : Message → Bool
  groups_here c = is_notified (kind_of plan c.vertex)

  pub all_asking : (cs : List Message) → AllByRecursion (λ c. is_notified (kind_of plan c.vertex) ≡ true → has notification_cmp (asked_of workers c) (asking plan workers cs) ≡ true) cs
  all_asking cs = from_filter (λ c. has notification_cmp (asked_of workers c) (asking plan workers cs) ≡ true) groups_here cs (each_asked workers (filter groups_here cs))

  pub asking_more : (a : Notification) (c : Message) (cs : List Message) → has notification_cmp a (asking plan workers cs) ≡ true → has notification_cmp a (asking plan workers (c ∷ cs)) ≡ true
  asking_more a c cs h = by (groups_here c) refl
    where
      by : (b : Bool) → groups_here c ≡ b → has notification_cmp a (asking plan workers (c ∷ cs)) ≡ true
      by true e = ap (λ l. has notification_cmp a (map (asked_of workers) l)) (filter_yes groups_here c cs e) ∙ stands_on a (asked_of workers c) (asking plan workers cs) h
      by false e = ap (λ l. has notification_cmp a (map (asked_of workers) l)) (filter_no groups_here c cs e) ∙ h
