-- A record that is answered keeps the invariant: nothing new is active that the record's message could not result in.
use Rattle.std.proofs.Common.{◌≡◌, ℕ, ◌<◌, List, [], ◌∷◌, ◌++◌, map, refl, ap, sym, ◌∙◌, subst, Bool, true, false, ◌||◌}
use Rattle.std.specs.List.{AllByRecursion}
use Rattle.std.specs.Ordering.{is_eq}
use Rattle.std.specs.declared.cmp.Ordering.{Ordering}
use Rattle.std.specs.declared.cmp.Ordering.TheVariants.{Less, Equal, Greater}
use Rattle.td_stamp.specs.declared.values.Rec.{Rec}
use Rattle.td_stamp.specs.declared.values.Arrival.{Arrival}
use Rattle.td_stamp.specs.Time.{Timestamp}
use Rattle.td_stamp.specs.Bag.{bag_insert, bag_of, has, IsBag}
use Rattle.td_plan.specs.declared.vertex.Kind.{Kind}
use Rattle.td_plan.specs.declared.vertex.Edge.{Edge}
use Rattle.td_plan.specs.Lines.{Line}
use Rattle.td_plan.specs.Blocks.{edges, kind_at}
use Rattle.td_reach.specs.declared.stamp.Stamp.{Stamp}
use Rattle.td_plan.specs.Times.{sent_by}
use Rattle.td_reach.specs.Paths.{Could}
use Rattle.td_calls.specs.Answers.{Answers}
use Rattle.td_calls.specs.Callbacks.{Added}
use Rattle.td_machine.specs.declared.records.Message.{Message}
use Rattle.td_machine.specs.declared.records.Notification.{Notification}
use Rattle.td_machine.specs.State.{HallState, message_cmp, notification_cmp, asked_of}
use Rattle.td_machine.specs.Active.{kind_of, bound_of, active, IsFree, stamp_of_message, stamp_of_asked, stamp_at, stamps_of_inputs}
use Rattle.td_machine.specs.Steps.{posts, posted, stamped, on_edge, sending_times, with_asked, waiting, called, delivered}
use Rattle.td_machine.proofs.History.{Origin, History, Running, IsOnEdge, asking, also_delivered}
use Rattle.td_machine.proofs.PlanFacts.{PlanFacts, IsFound}
use Rattle.td_machine.specs.Examples.{sent_by-epoch}
use Rattle.td_machine.proofs.Orders.{notification_apart}
use Rattle.td_machine.proofs.Lists.{all_app, from_app, all_map, from_map, all_flat, all_weaken, all_everywhere}
use Rattle.td_machine.proofs.Asking.{asking_more}
use Rattle.td_machine.proofs.Told.{removed, delivered_told}
use Rattle.td_machine.proofs.Answered.{delivered_answered}
use Rattle.td_machine.proofs.Times.{all_posted}
use Rattle.td_machine.proofs.Paths.{sending_is, edge_not_vertex, could_arrive, could_from_message, could_through}
use Rattle.td_machine.proofs.Bags.{bag_insert_cancel, bag_insert-join, join-IsBag, all_set_insert, all_join, from_insert}
use Rattle.td_machine.specs.Below.{Below}

module _ (below : Below) where
  -- what is found holds what all hold
  pub all_has : (P : Notification → Type 0) (a : Notification) (xs : List Notification) → AllByRecursion P xs → has notification_cmp a xs ≡ true → P a
  all_has P a [] all h = cc
  all_has P a (x ∷ xs) all h = by (notification_cmp a x) refl (all_has P a xs all.1) h
    where
      by : (o : Ordering) → notification_cmp a x ≡ o → (has notification_cmp a xs ≡ true → P a) → (is_eq o || has notification_cmp a xs) ≡ true → P a
      by Equal e rest f = subst P (sym (notification_apart a x e)) all.0
      by Less e rest f = rest f
      by Greater e rest f = rest f

  -- what all active pointstamps hold, by where they stand
  abbrev pub ActiveHold : HallState → (Stamp → Type 0) → Type 0
  ActiveHold S P = AllByRecursion (λ c. P (stamp_of_message S.plan c)) S.messages × AllByRecursion (λ a. P (stamp_of_asked a)) S.asked × AllByRecursion P (stamps_of_inputs S.plan S.next S.closed)

  pub from_active : (S : HallState) (P : Stamp → Type 0) → AllByRecursion P (active S) → ActiveHold S P
  from_active S P h =
      let a = from_app P (map (stamp_of_message S.plan) S.messages) (map stamp_of_asked S.asked ++ stamps_of_inputs S.plan S.next S.closed) h in
      let b = from_app P (map stamp_of_asked S.asked) (stamps_of_inputs S.plan S.next S.closed) a.1 in
      (from_map P (stamp_of_message S.plan) S.messages a.0, from_map P stamp_of_asked S.asked b.0, b.1)

  pub to_active : (S : HallState) (P : Stamp → Type 0) → ActiveHold S P → AllByRecursion P (active S)
  to_active S P h =
      all_app P (map (stamp_of_message S.plan) S.messages) (map stamp_of_asked S.asked ++ stamps_of_inputs S.plan S.next S.closed) (all_map P (stamp_of_message S.plan) S.messages h.0)
      (all_app P (map stamp_of_asked S.asked) (stamps_of_inputs S.plan S.next S.closed) (all_map P stamp_of_asked S.asked h.1) h.2)

  all_asked : (P : Notification → Type 0) (xs ys : List Notification) → AllByRecursion P xs → AllByRecursion P ys → AllByRecursion P (with_asked xs ys)
  all_asked P [] ys h k = k
  all_asked P (x ∷ xs) ys h k = all_set_insert notification_cmp P x (with_asked xs ys) h.0 (all_asked P xs ys h.1 k)

  -- the messages of what a vertex sends: what is known of their edges, and their times
  module _ (plan : List Line) (E : Edge → Type 0) (known : AllByRecursion E (edges plan)) (P : Message → Type 0) (v : ℕ) (t : Timestamp) (each : (e : Edge) (later : Timestamp) (r : Rec) → E e → e.source ≡ v → later ≡ sent_by (kind_at plan e.source) t → P (on_edge later r e)) where
    posted_of : (r : Rec) → AllByRecursion P (posted plan (record { vertex = v; time = t; rec = r }))
    posted_of r = all_posted plan P (record { vertex = v; time = t; rec = r }) (all_weaken E (λ e. e.source ≡ v → AllByRecursion (λ later. P (on_edge later r e)) (sending_times (kind_of plan v) (bound_of plan v) t))
        (λ e found s. all_weaken (λ later. later ≡ sent_by (kind_at plan v) t) (λ later. P (on_edge later r e)) (λ later w. each e later r found s (w ∙ ap (λ u. sent_by (kind_at plan u) t) (sym s))) (sending_times (kind_of plan v) (bound_of plan v) t) (sending_is plan v t)) (edges plan) known)

    pub all_posts_of : (rs : List Rec) → AllByRecursion P (posts plan (stamped v t rs))
    all_posts_of rs = all_flat P (posted plan) (stamped v t rs) (all_map (λ x. AllByRecursion P (posted plan x)) (λ r. record { vertex = v; time = t; rec = r }) rs (all_everywhere (λ r. AllByRecursion P (posted plan (record { vertex = v; time = t; rec = r }))) posted_of rs))

  -- the messages of what a vertex sends: their edges and times
  module _ (plan : List Line) (facts : PlanFacts plan) (P : Message → Type 0) (v : ℕ) (t : Timestamp) (each : (e : Edge) (later : Timestamp) (r : Rec) → IsFound plan e → e.source ≡ v → later ≡ sent_by (kind_at plan e.source) t → P (on_edge later r e)) where
    pub posted_one : (r : Rec) → AllByRecursion P (posted plan (record { vertex = v; time = t; rec = r }))
    posted_one r = all_posted plan P (record { vertex = v; time = t; rec = r }) (all_weaken (IsFound plan) (λ e. e.source ≡ v → AllByRecursion (λ later. P (on_edge later r e)) (sending_times (kind_of plan v) (bound_of plan v) t))
        (λ e found s. all_weaken (λ later. later ≡ sent_by (kind_at plan v) t) (λ later. P (on_edge later r e)) (λ later w. each e later r found s (w ∙ ap (λ u. sent_by (kind_at plan u) t) (sym s))) (sending_times (kind_of plan v) (bound_of plan v) t) (sending_is plan v t)) (edges plan) facts.found)

    pub all_posts : (rs : List Rec) → AllByRecursion P (posts plan (stamped v t rs))
    all_posts rs = all_flat P (posted plan) (stamped v t rs) (all_map (λ x. AllByRecursion P (posted plan x)) (λ r. record { vertex = v; time = t; rec = r }) rs (all_everywhere (λ r. AllByRecursion P (posted plan (record { vertex = v; time = t; rec = r }))) posted_one rs))

  -- a bag without one of its members
  pub rest_bag : (c : Message) (rest : List Message) → IsBag message_cmp (bag_insert message_cmp c rest) → IsBag message_cmp rest
  rest_bag c rest b = bag_insert_cancel message_cmp below.messages c (bag_of message_cmp rest) rest (sym (bag_insert-join message_cmp below.messages c rest []) ∙ b)

  module _ (answers : Answers) (origin : Origin) (S : HallState) (H : History) (facts : PlanFacts S.plan) (c : Message) (rest : List Message)
      (here : S.messages ≡ bag_insert message_cmp c rest) (runs : Running answers origin S H) where
    abbrev kind : Kind
    kind = kind_of S.plan c.vertex

    abbrev added : Added
    added = called answers S kind c

    abbrev after : HallState
    after = delivered answers S kind c

    on_edge_here : IsOnEdge S.plan c × AllByRecursion (IsOnEdge S.plan) rest
    on_edge_here = from_insert message_cmp (IsOnEdge S.plan) c rest (subst (AllByRecursion (IsOnEdge S.plan)) here runs.on_edges)

    -- what the message holds, and the others
    split : (P : Message → Type 0) → AllByRecursion P S.messages → P c × AllByRecursion P rest
    split P h = from_insert message_cmp P c rest (subst (AllByRecursion P) here h)

    all_messages : (P : Message → Type 0) → AllByRecursion P (posts S.plan (stamped c.vertex c.time added.sent)) → AllByRecursion P rest → AllByRecursion P after.messages
    all_messages P h k = all_join message_cmp P (posts S.plan (stamped c.vertex c.time added.sent)) _ h (subst (AllByRecursion P) (sym (removed below c S.messages rest here)) k)

    -- what is active now
    active_after : (P : Stamp → Type 0)
        → ((e : Edge) (later : Timestamp) (r : Rec) → IsFound S.plan e → e.source ≡ c.vertex → later ≡ sent_by (kind_at S.plan e.source) c.time → P (stamp_of_message S.plan c) → P (stamp_of_message S.plan (on_edge later r e)))
        → (P (stamp_of_message S.plan c) → P (stamp_at c.vertex c.time)) → AllByRecursion P (active S) → AllByRecursion P (active after)
    active_after P post ask h =
        let was = from_active S P h in
        let both = split (λ c. P (stamp_of_message S.plan c)) was.0 in
        to_active after P (
          all_messages (λ c. P (stamp_of_message S.plan c)) (all_posts S.plan facts (λ c. P (stamp_of_message S.plan c)) c.vertex c.time (λ e later r f s w. post e later r f s w both.0) added.sent) both.1,
          all_asked (λ a. P (stamp_of_asked a)) (map (λ a. asked_of S.workers (waiting c.vertex c.time a)) added.buffered) S.asked
              (all_map (λ a. P (stamp_of_asked a)) (λ a. asked_of S.workers (waiting c.vertex c.time a)) added.buffered (all_everywhere (λ (a : Arrival). P (stamp_at c.vertex c.time)) (λ a. ask both.0) added.buffered)) was.1,
          was.2,
        )

    -- WHAT NOTHING HELD BACK, nothing holds back now
    pub stays_free : (v : ℕ) (t : Timestamp) → IsFree S (stamp_at v t) → IsFree after (stamp_at v t)
    stays_free v t free =
        let Q : Stamp → Type 0 = λ q. ((q ≡ stamp_at v t) → ⊥) → Could S.plan q (stamp_at v t) → ⊥ in
        active_after Q
        (λ e later r found s when was ne k. was (edge_not_vertex _ v c.time t) (could_from_message S.plan e later c.time found when (stamp_at v t) k c on_edge_here.0 s refl))
        (λ was ne k. was (edge_not_vertex _ v c.time t) (could_through S.plan c on_edge_here.0 v t k)) free

    -- a record comes to no vertex where its shard was notified
    waits : (b : Bool) → has notification_cmp (asked_of S.workers c) H.notified ≡ b → has notification_cmp (asked_of S.workers c) H.notified ≡ false
    waits false e = e
    waits true e =
        let free = all_has (λ a. IsFree S (stamp_of_asked a)) (asked_of S.workers c) H.notified runs.settled e in
        let Q : Stamp → Type 0 = λ q. ((q ≡ stamp_at c.vertex c.time) → ⊥) → Could S.plan q (stamp_at c.vertex c.time) → ⊥ in
        absurd ((split (λ c. Q (stamp_of_message S.plan c)) (from_active S Q free).0).0 (edge_not_vertex _ c.vertex c.time c.time) (could_arrive S.plan c on_edge_here.0))

    later_here : (S.base < c.time.epoch) × (S.collected < c.time.epoch)
    later_here = (split (λ c. (S.base < c.time.epoch) × (S.collected < c.time.epoch)) (from_active S (λ p. (S.base < p.time.epoch) × (S.collected < p.time.epoch)) runs.later).0).0

    pub delivered_runs : Running answers origin (delivered answers S (kind_of S.plan c.vertex) c) (also_delivered answers S H c)
    delivered_runs = record {
      told = delivered_told below answers origin S H c rest here runs.told (λ g. waits (has notification_cmp (asked_of S.workers c) H.notified) refl) later_here.1;
      answered = delivered_answered below answers origin S H facts c rest here runs.told runs.answered (λ g. waits (has notification_cmp (asked_of S.workers c) H.notified) refl) later_here.0;
      on_edges = all_messages (IsOnEdge S.plan) (all_posts S.plan facts (IsOnEdge S.plan) c.vertex c.time (λ e later r found s w. (e, found, refl)) added.sent) on_edge_here.1;
      messages_bag = join-IsBag message_cmp below.messages (posts S.plan (stamped c.vertex c.time added.sent)) _ (subst (IsBag message_cmp) (sym (removed below c S.messages rest here)) (rest_bag c rest (subst (IsBag message_cmp) here runs.messages_bag)));
      later = active_after (λ p. (S.base < p.time.epoch) × (S.collected < p.time.epoch))
          (λ e later r found s when was. subst (λ n. (S.base < n) × (S.collected < n)) (sym (ap (λ (t : Timestamp). t.epoch) when ∙ sent_by-epoch (kind_at S.plan e.source) c.time)) was) (λ was. was) runs.later;
      settled = all_weaken (λ a. IsFree S (stamp_of_asked a)) (λ a. IsFree after (stamp_of_asked a)) (λ a free. stays_free a.vertex a.time free) H.notified runs.settled;
      notified_times = runs.notified_times;
      notified_once = runs.notified_once;
      notified_asked = all_weaken (λ a. has notification_cmp a (asking S.plan S.workers H.arrived) ≡ true) (λ a. has notification_cmp a (asking S.plan S.workers (c ∷ H.arrived)) ≡ true)
          (λ a h. asking_more S.plan S.workers a c H.arrived h) H.notified runs.notified_asked;
    }
