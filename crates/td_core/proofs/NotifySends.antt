-- What a notification sends: at its own time, on the outlets of its vertex, or nothing.
use Rattle.std.proofs.Common.{◌≡◌, ℕ, List, [], ◌∷◌, ◌++◌, map, length, ◌⊎◌, inl, inr, refl, ap, sym, ◌∙◌, subst}
use Rattle.std.specs.List.{AllByRecursion}
use Rattle.td_stamp.specs.declared.values.Rec.{Rec}
use Rattle.td_stamp.specs.Time.{Timestamp}
use Rattle.td_plan.specs.declared.vertex.Kind.{Kind}
use Rattle.td_plan.specs.declared.vertex.Kind.TheVariants.{Input, Map, Distinct, Group, Fold, Enter, Feedback, Leave, Output}
use Rattle.td_plan.specs.Lines.{Line}
use Rattle.td_calls.specs.Answers.{Answers}
use Rattle.td_calls.specs.Callbacks.{on_notification}
use Rattle.td_reach.specs.declared.stamp.Stamp.{Stamp}
use Rattle.td_reach.specs.Paths.{IsOf}
use Rattle.td_progress.specs.Bag.{occurrences, is_stamp}
use Rattle.td_machine.specs.State.{Task, KeyItems}
use Rattle.td_machine.specs.State.Content.{notification}
use Rattle.td_machine.specs.Sends.{SendsOfPlan}
use Rattle.td_machine.specs.Active.{kind_of, bound_of}
use Rattle.td_machine.specs.ByEdge.{StampsByEdge, stamps_by_edge, times_from}
use Rattle.td_machine.specs.Moves.{stamps_of, come_given}
use Rattle.td_machine.specs.Steps.{sending_times, posts, stamped, notified_sends}
use Rattle.td_core.specs.declared.hall.Parts.{Parts}
use Rattle.td_core.specs.Parts.{state_of}
use Rattle.td_core.specs.declared.post.Change.{Change}
use Rattle.td_shard.specs.declared.outlet.Outlet.{Outlet}
use Rattle.td_core.specs.declared.hall.Routes.{Routes}
use Rattle.td_core.specs.Routes.{IsRoutes}
use Rattle.td_core.specs.Posted.{stamp_on_outlet, stamps_on}
use Rattle.td_shard.specs.Messages.{on_each}
use Rattle.td_core.specs.Given.{outlets_for}
use Rattle.td_core.proofs.Sending.{posted_on, active_on, outlets_of_plan}

-- where nothing is sent for each key
none_sent : (answers : Answers) (kind : Kind) (items : List KeyItems) → ((k : KeyItems) → (on_notification answers kind k.key k.state k.items).1 ≡ []) → notified_sends answers kind items ≡ []
none_sent answers kind [] none = refl
none_sent answers kind (k ∷ items) none = ap (λ l. l ++ notified_sends answers kind items) (none k) ∙ none_sent answers kind items none

-- by its kind a vertex sends nothing when it is notified, or at the time of the notification
pub sends_now : (answers : Answers) (kind : Kind) (items : List KeyItems) (bound : ℕ) (t : Timestamp) → (notified_sends answers kind items ≡ []) ⊎ (sending_times kind bound t ≡ t ∷ [])
sends_now answers Input items bound t = inr refl
sends_now answers (Map code) items bound t = inr refl
sends_now answers Distinct items bound t = inr refl
sends_now answers (Group code) items bound t = inr refl
sends_now answers (Fold code) items bound t = inr refl
sends_now answers Enter items bound t = inl (none_sent answers Enter items (λ k. refl))
sends_now answers Feedback items bound t = inl (none_sent answers Feedback items (λ k. refl))
sends_now answers Leave items bound t = inl (none_sent answers Leave items (λ k. refl))
sends_now answers Output items bound t = inr refl

module _ (plan : List Line) (routes : Routes) (are : IsRoutes plan routes) (v : ℕ) (t : Timestamp) where
  abbrev pub there : List Rec → List Outlet
  there recs = outlets_for routes v recs

  abbrev pub AtOnceOrNone : List Rec → Type 0
  AtOnceOrNone recs = (recs ≡ []) ⊎ (times_from plan v t ≡ t ∷ [])

  -- THE MESSAGES
  pub posted_there : (recs : List Rec) → AtOnceOrNone recs → posts plan (stamped v t recs) ≡ on_each (there recs) t recs
  posted_there [] when = refl
  posted_there (r ∷ recs) (inl none) = absurd (cc)
  posted_there (r ∷ recs) (inr now) = posted_on plan v t t now (r ∷ recs) ∙ ap (λ os. on_each os t (r ∷ recs)) (sym (are.outlets v))

  -- their pointstamps
  pub active_there : StampsByEdge → (recs : List Rec) → AtOnceOrNone recs → (p : Stamp)
      → occurrences p (stamps_of plan (posts plan (stamped v t recs))) ≡ occurrences p (stamps_on (there recs) t (length recs))
  active_there by_edge [] when p = refl
  active_there by_edge (r ∷ recs) (inl none) p = absurd (cc)
  active_there by_edge (r ∷ recs) (inr now) p =
      by_edge plan v t (r ∷ recs) (is_stamp p)
      ∙ ap (occurrences p) (active_on plan v t t now (length (r ∷ recs)) ∙ ap (λ os. stamps_on os t (length (r ∷ recs))) (sym (are.outlets v)))

  -- which are of the plan
  pub of_plan_there : ((many : ℕ) → AllByRecursion (IsOf plan) (stamps_by_edge plan v t many)) → (recs : List Rec) → AtOnceOrNone recs
      → AllByRecursion (λ o. IsOf plan (stamp_on_outlet t o)) (there recs)
  of_plan_there of_plan [] when = tt
  of_plan_there of_plan (r ∷ recs) (inl none) = absurd (cc)
  of_plan_there of_plan (r ∷ recs) (inr now) = subst (AllByRecursion (λ o. IsOf plan (stamp_on_outlet t o))) (sym (are.outlets v)) (outlets_of_plan plan v t t now of_plan)

abbrev pub change_on : Timestamp → ℕ → Outlet → Change
change_on t times o = record { stamp = stamp_on_outlet t o; times = times }

pub all_changed : (plan : List Line) (t : Timestamp) (times : ℕ) (os : List Outlet) → AllByRecursion (λ o. IsOf plan (stamp_on_outlet t o)) os
    → AllByRecursion (λ r. IsOf plan r.stamp) (map (change_on t times) os)
all_changed plan t times [] h = tt
all_changed plan t times (o ∷ os) h = (h.0, all_changed plan t times os h.1)

-- whether nothing is sent, or at the vertex's own time
abbrev pub NowOrNone : List Line → ℕ → Timestamp → List Rec → Type 0
NowOrNone plan v t recs = (recs ≡ []) ⊎ (times_from plan v t ≡ t ∷ [])

-- so it is with what a notification sends
pub now_or_none : (answers : Answers) (plan : List Line) (kind : Kind) (v : ℕ) (t : Timestamp) (items : List KeyItems) (recs : List Rec)
    → kind ≡ kind_of plan v → recs ≡ notified_sends answers kind items → NowOrNone plan v t recs
now_or_none answers plan kind v t items recs k e = by (sends_now answers kind items (bound_of plan v) t)
  where
    by : (notified_sends answers kind items ≡ []) ⊎ (sending_times kind (bound_of plan v) t ≡ t ∷ []) → NowOrNone plan v t recs
    by (inl none) = inl (e ∙ none)
    by (inr now) = inr (ap (λ (k : Kind). sending_times k (bound_of plan v) t) (sym k) ∙ now)

-- A NOTIFICATION whose task is out, and what is sent for it on these outlets
module _ (answers : Answers) (parts : Parts) (task : Task) (items : List KeyItems) (recs : List Rec) (os : List Outlet) (routes : IsRoutes parts.table.plan parts.routes)
    (kind : task.kind ≡ kind_of parts.table.plan task.vertex) (sends : SendsOfPlan (state_of parts) task)
    (sent : recs ≡ notified_sends answers task.kind items) (outlets : os ≡ outlets_for parts.routes task.vertex recs) where
  when : NowOrNone parts.table.plan task.vertex task.time recs
  when = now_or_none answers parts.table.plan task.kind task.vertex task.time items recs kind sent

  pub are_of_plan : AllByRecursion (λ o. IsOf parts.table.plan (stamp_on_outlet task.time o)) os
  are_of_plan =
      subst (AllByRecursion (λ o. IsOf parts.table.plan (stamp_on_outlet task.time o))) (sym outlets)
      (of_plan_there parts.table.plan parts.routes routes task.vertex task.time sends.sent recs when)

  pub mail_is : on_each os task.time recs ≡ posts parts.table.plan (stamped task.vertex task.time (notified_sends answers task.kind items))
  mail_is =
      ap (λ l. on_each l task.time recs) outlets
      ∙ (sym (posted_there parts.table.plan parts.routes routes task.vertex task.time recs when) ∙ ap (λ l. posts parts.table.plan (stamped task.vertex task.time l)) sent)

  pub come_is : StampsByEdge → (p : Stamp) → occurrences p (stamps_on os task.time (length recs)) ≡ occurrences p (come_given answers (state_of parts) task (notification items))
  come_is by_edge p =
      ap (λ l. occurrences p (stamps_on l task.time (length recs))) outlets
      ∙ (sym (active_there parts.table.plan parts.routes routes task.vertex task.time by_edge recs when p)
      ∙ ap (λ l. occurrences p (stamps_of parts.table.plan (posts parts.table.plan (stamped task.vertex task.time l)))) sent)
