-- A task that is given keeps the invariant.
use Rattle.std.proofs.Common.{◌≡◌, ℕ, ◌-◌, List, [], ◌∷◌, length, map, filter, refl, ap, sym, ◌∙◌, subst, Bool, true, false, not, ◌||◌, ◌&&◌, ◌==◌, arith}
use Rattle.std.specs.Prelude.{◌≤◌, nat_le, nat_lt}
use Rattle.std.specs.List.{AllByRecursion}
use Rattle.std.specs.declared.cmp.Ordering.{Ordering}
use Rattle.std.specs.declared.cmp.Ordering.TheVariants.{Less, Equal, Greater}
use Rattle.std.specs.Ordering.{is_eq}
use Rattle.std.proofs.lemmas.Bool.{eqb-true, ltb-true, ltb-false, lt-leb}
use Rattle.std.proofs.lemmas.Cmp.{tied_itself}
use Rattle.td_stamp.specs.declared.values.Rec.{Rec}
use Rattle.td_stamp.specs.declared.values.Arrival.{Arrival}
use Rattle.td_stamp.specs.Time.{Timestamp}
use Rattle.td_stamp.specs.Bag.{bag_insert, bag_remove, join, bag_of, has, IsBag}
use Rattle.td_calls.specs.Answers.{Answers}
use Rattle.td_machine.specs.declared.records.Message.{Message}
use Rattle.td_machine.specs.declared.records.Notification.{Notification}
use Rattle.td_machine.specs.declared.records.StateLeft.{StateLeft}
use Rattle.td_machine.specs.State.{HallState, Task, Content, KeyItems, message_cmp, notification_cmp, shard_of_key, left_cmp, asked_of, arrival, states_at, with_left}
use Rattle.td_machine.specs.State.Content.{messages, notification}
use Rattle.td_machine.specs.Active.{kind_of, IsFree, stamp_at, stamp_of_message}
use Rattle.td_machine.specs.Steps.{posts, stamped, coming, asked_at, notified, notified_sends, leaves, called, delivered, all_delivered, with_asked, waiting, to_notify, with_state_of, is_for}
use Rattle.td_machine.proofs.History.{Origin, History, Running, Stands, StandsOut, recs_in, also_delivered, IsOnEdge, has_answer, IsTime, Gained}
use Rattle.td_machine.proofs.PlanFacts.{PlanFacts}
use Rattle.td_machine.proofs.Orders.{message_total, message_apart, notification_apart, tied}
use Rattle.td_machine.proofs.Lists.{filter_none, filter_filter, filter_alike, all_filter, all_weaken, all_map, all_everywhere}
use Rattle.td_machine.proofs.Told.{removed}
use Rattle.td_machine.proofs.Notified.{has_passing, settled_here, fresh_at, stays_free as stays_free_now}
use Rattle.td_machine.proofs.Releases.{asked_is, no_turns}
use Rattle.td_machine.proofs.StatesLeft.{InOrder, states_in_order, left_keeps, others_left}
use Rattle.td_machine.proofs.Plain.{eqb-same}
use Rattle.td_stamp.specs.Groups.{groups}
use Rattle.td_plan.specs.declared.vertex.Kind.{Kind}
use Rattle.td_plan.specs.declared.vertex.Kind.TheVariants.{Input, Map, Distinct, Group, Fold, Enter, Feedback, Leave, Output}
use Rattle.td_plan.specs.Blocks.{bounds, reading_loops_at}
use Rattle.td_batch.specs.Flow.{AreBelow}
use Rattle.td_stamp.specs.States.{state_of, AreStates}
use Rattle.td_stamp.specs.declared.values.Item.{Item}
use Rattle.td_reach.specs.declared.stamp.Stamp.{Stamp}
use Rattle.td_reach.specs.Paths.{Could}
use Rattle.td_machine.proofs.Paths.{edge_not_vertex, could_arrive}
use Rattle.td_machine.proofs.Delivered.{delivered_runs, stays_free, from_active}
use Rattle.td_machine.proofs.Bags.{join-swap, join-assoc, join_cancel, join-bag_insert, bag_insert-bag_insert, bag_remove-bag_insert, has-bag_insert, bag_of-IsBag, filter-join, has-set_insert, from_insert, IsBag-filter}
use Rattle.td_machine.specs.Below.{Below}

module _ (below : Below) where
  or_yes : (a : Bool) → (a || true) ≡ true
  or_yes true = refl
  or_yes false = refl

  -- one that is there may be taken out of a bag
  take_out : (c : Message) (ys : List Message) → has message_cmp c ys ≡ true → bag_of message_cmp ys ≡ bag_insert message_cmp c (bag_of message_cmp (bag_remove message_cmp c ys))
  take_out c [] h = cc
  take_out c (y ∷ ys) h = by (message_cmp c y) refl h (take_out c ys)
    where
      later : is_eq (message_cmp c y) ≡ false → bag_remove message_cmp c (y ∷ ys) ≡ y ∷ bag_remove message_cmp c ys
      later e = by_cmp (message_cmp c y) refl e
        where
          by_cmp : (o : Ordering) → message_cmp c y ≡ o → is_eq (message_cmp c y) ≡ false → bag_remove message_cmp c (y ∷ ys) ≡ y ∷ bag_remove message_cmp c ys
          by_cmp Less f e = rw (f, bag_remove) refl
          by_cmp Greater f e = rw (f, bag_remove) refl
          by_cmp Equal f e = let no : true ≡ false = sym (ap is_eq f) ∙ e in cc

      next : is_eq (message_cmp c y) ≡ false → bag_of message_cmp ys ≡ bag_insert message_cmp c (bag_of message_cmp (bag_remove message_cmp c ys)) → bag_of message_cmp (y ∷ ys) ≡ bag_insert message_cmp c (bag_of message_cmp (bag_remove message_cmp c (y ∷ ys)))
      next e rest =
          ap (bag_insert message_cmp y) rest ∙ bag_insert-bag_insert message_cmp below.messages y c (bag_of message_cmp (bag_remove message_cmp c ys))
          ∙ ap (λ l. bag_insert message_cmp c (bag_of message_cmp l)) (sym (later e))

      by : (o : Ordering) → message_cmp c y ≡ o → (is_eq o || has message_cmp c ys) ≡ true → (has message_cmp c ys ≡ true → bag_of message_cmp ys ≡ bag_insert message_cmp c (bag_of message_cmp (bag_remove message_cmp c ys)))
          → bag_of message_cmp (y ∷ ys) ≡ bag_insert message_cmp c (bag_of message_cmp (bag_remove message_cmp c (y ∷ ys)))
      by Equal e k rest =
          let gone : bag_remove message_cmp c (y ∷ ys) ≡ ys = rw (e, bag_remove) refl in
          ap (λ x. bag_insert message_cmp x (bag_of message_cmp ys)) (sym (message_apart c y e)) ∙ ap (λ l. bag_insert message_cmp c (bag_of message_cmp l)) (sym gone)
      by Less e k rest = next (ap is_eq e) (rest k)
      by Greater e k rest = next (ap is_eq e) (rest k)

  has_join : (c : Message) (xs ys : List Message) → has message_cmp c (join message_cmp xs ys) ≡ (has message_cmp c xs || has message_cmp c ys)
  has_join c [] ys = refl
  has_join c (x ∷ xs) ys = has-bag_insert message_cmp below.messages c x (join message_cmp xs ys) ∙ ap (λ b. is_eq (message_cmp c x) || b) (has_join c xs ys) ∙ assoc (is_eq (message_cmp c x)) (has message_cmp c xs) (has message_cmp c ys)
    where
      assoc : (a b d : Bool) → (a || (b || d)) ≡ ((a || b) || d)
      assoc true b d = refl
      assoc false b d = refl

  -- a bag's part beside others is a bag
  other_bag : (xs ys : List Message) → IsBag message_cmp (join message_cmp xs ys) → IsBag message_cmp ys
  other_bag xs ys b = join_cancel message_cmp below.messages xs (bag_of message_cmp ys) ys (sym (join-assoc message_cmp below.messages xs ys []) ∙ b)

  -- WITHOUT ONE THAT IS NOT AMONG THESE, a bag still has these
  pub still_has : (c : Message) (rest xs ys all : List Message) → IsBag message_cmp all → all ≡ bag_insert message_cmp c rest → all ≡ join message_cmp xs ys → has message_cmp c xs ≡ false → (more : List Message) × (rest ≡ join message_cmp xs more)
  still_has c rest xs ys all b here there n =
      let bag : IsBag message_cmp ys = other_bag xs ys (subst (IsBag message_cmp) there b) in
      let found : has message_cmp c ys ≡ true =
      sym (ap (λ b. b || has message_cmp c ys) n) ∙ sym (has_join c xs ys) ∙ ap (has message_cmp c) (sym there ∙ here) ∙ has-bag_insert message_cmp below.messages c c rest
      ∙ ap (λ o. is_eq o || has message_cmp c rest) (tied_itself message_total c) in
      let less : List Message = bag_of message_cmp (bag_remove message_cmp c ys) in
      let out : ys ≡ bag_insert message_cmp c less = sym bag ∙ take_out c ys found in
      (less, sym (removed below c all rest here) ∙ ap (bag_remove message_cmp c) (there ∙ ap (join message_cmp xs) out ∙ join-bag_insert message_cmp below.messages xs c less) ∙ bag_remove-bag_insert message_cmp below.messages c (join message_cmp xs less))

  -- a record of another shard is not among those of a task
  pub not_among : (workers s : ℕ) (c : Message) → ((shard_of_key workers c.rec.key ≡ s) → ⊥) → (v port : ℕ) (t : Timestamp) (recs : List Rec) → AllByRecursion (λ r. shard_of_key workers r.key ≡ s) recs → has message_cmp c (coming v port t recs) ≡ false
  not_among workers s c n v port t [] h = refl
  not_among workers s c n v port t (r ∷ recs) h = by (message_cmp c (record { vertex = v; port = port; time = t; rec = r })) refl (not_among workers s c n v port t recs h.1)
    where
      by : (o : Ordering) → message_cmp c (record { vertex = v; port = port; time = t; rec = r }) ≡ o → has message_cmp c (coming v port t recs) ≡ false → (is_eq (message_cmp c (record { vertex = v; port = port; time = t; rec = r })) || has message_cmp c (coming v port t recs)) ≡ false
      by Less e rest = ap (λ o. is_eq o || has message_cmp c (coming v port t recs)) e ∙ rest
      by Greater e rest = ap (λ o. is_eq o || has message_cmp c (coming v port t recs)) e ∙ rest
      by Equal e rest = let p = message_apart c (record { vertex = v; port = port; time = t; rec = r }) e in absurd (n (ap (λ (x : Message). shard_of_key workers x.rec.key) p ∙ h.0))

  asked_still : (a : Notification) (xs ys : List Notification) → has notification_cmp a ys ≡ true → has notification_cmp a (with_asked xs ys) ≡ true
  asked_still a [] ys h = h
  asked_still a (x ∷ xs) ys h = has-set_insert notification_cmp below.notifications a x (with_asked xs ys) ∙ ap (λ b. is_eq (notification_cmp a x) || b) (asked_still a xs ys h) ∙ or_yes (is_eq (notification_cmp a x))

  -- what is known of a task that is out, at another shard than this
  abbrev pub OutBeside : HallState → ℕ → Task → Type 0
  OutBeside S s task = ((task.shard ≡ s) → ⊥) × (task.kind ≡ kind_of S.plan task.vertex) × AllByRecursion (λ r. shard_of_key S.workers r.key ≡ task.shard) (recs_in task.content) × StandsOut S task task.content

  -- A RECORD that is answered
  module _ (answers : Answers) (origin : Origin) (S : HallState) (H : History) (facts : PlanFacts S.plan) (c : Message) (rest : List Message)
      (here : S.messages ≡ bag_insert message_cmp c rest) (runs : Running answers origin S H) where
    abbrev after : HallState
    after = delivered answers S (kind_of S.plan c.vertex) c

    -- nothing comes where a notification may be given
    comes_not : IsFree S (stamp_at c.vertex c.time) → ⊥
    comes_not free =
        let Q : Stamp → Type 0 = λ q. ((q ≡ stamp_at c.vertex c.time) → ⊥) → Could S.plan q (stamp_at c.vertex c.time) → ⊥ in
        let on = (from_insert message_cmp (IsOnEdge S.plan) c rest (subst (AllByRecursion (IsOnEdge S.plan)) here runs.on_edges)).0 in
        (from_insert message_cmp (λ c. Q (stamp_of_message S.plan c)) c rest (subst (AllByRecursion (λ c. Q (stamp_of_message S.plan c))) here (from_active below S Q free).0)).0
        (edge_not_vertex _ c.vertex c.time c.time) (could_arrive S.plan c on)

    buffered_bag : IsBag message_cmp S.buffered
    buffered_bag = subst (IsBag message_cmp) (sym runs.told.buffered) (bag_of-IsBag message_cmp below.messages (filter (λ c. not (has_answer S.plan S.workers H.notified c)) H.arrived))

    notify_same : (s v : ℕ) (t : Timestamp) → IsFree S (stamp_at v t) → to_notify after s v t ≡ to_notify S s v t
    notify_same s v t free =
        let a : Notification = record { shard = s; vertex = v; time = t } in
        let added : List Arrival = (called answers S (kind_of S.plan c.vertex) c).buffered in
        let none : filter (is_for S a) (map (waiting c.vertex c.time) added) ≡ [] = filter_none (is_for S a) (map (waiting c.vertex c.time) added) (all_map (λ x. is_for S a x ≡ false) (waiting c.vertex c.time) added (all_everywhere (λ (b : Arrival). is_for S a (waiting c.vertex c.time b) ≡ false)
        (λ b. not_for b (notification_cmp a (asked_of S.workers (waiting c.vertex c.time b))) refl) added)) in
        ap (λ l. map (with_state_of S v t) (groups (map arrival l))) (filter-join message_cmp below.messages (is_for S a) (map (waiting c.vertex c.time) added) S.buffered buffered_bag ∙ ap (λ l. join message_cmp l (filter (is_for S a) S.buffered)) none)
      where
        not_for : (b : Arrival) → (o : Ordering) → notification_cmp (record { shard = s; vertex = v; time = t }) (asked_of S.workers (waiting c.vertex c.time b)) ≡ o → is_eq (notification_cmp (record { shard = s; vertex = v; time = t }) (asked_of S.workers (waiting c.vertex c.time b))) ≡ false
        not_for b Less e = ap is_eq e
        not_for b Greater e = ap is_eq e
        not_for b Equal e = let p = notification_apart (record { shard = s; vertex = v; time = t }) (asked_of S.workers (waiting c.vertex c.time b)) e in absurd (comes_not (subst (λ (a : Notification). IsFree S (stamp_at a.vertex a.time)) p free))

    other_stands : (s : ℕ) (task : Task) (content : Content) → shard_of_key S.workers c.rec.key ≡ s → ((task.shard ≡ s) → ⊥) → AllByRecursion (λ r. shard_of_key S.workers r.key ≡ task.shard) (recs_in content) → StandsOut S task content → StandsOut after task content
    other_stands s task (messages port recs) mine n all h =
        let sent : List Message = posts S.plan (stamped c.vertex c.time (called answers S (kind_of S.plan c.vertex) c).sent) in
        let more = still_has c rest (coming task.vertex port task.time recs) h.0 S.messages runs.messages_bag here h.1 (not_among S.workers task.shard c (λ e. n (sym e ∙ mine)) task.vertex port task.time recs all) in
        (join message_cmp sent more.0, ap (join message_cmp sent) (removed below c S.messages rest here ∙ more.1) ∙ join-swap message_cmp below.messages sent (coming task.vertex port task.time recs) more.0)
    other_stands s task (notification items) mine n all h =
        (asked_still (record { shard = task.shard; vertex = task.vertex; time = task.time }) (map (λ a. asked_of S.workers (waiting c.vertex c.time a)) (called answers S (kind_of S.plan c.vertex) c).buffered) S.asked h.0, stays_free below answers origin S H facts c rest here runs task.vertex task.time h.1, h.2 ∙ sym (notify_same task.shard task.vertex task.time h.1))

    pub others_stand : (s : ℕ) → shard_of_key S.workers c.rec.key ≡ s → (tasks : List Task) → AllByRecursion (OutBeside S s) tasks → AllByRecursion (OutBeside after s) tasks
    others_stand s mine tasks h = all_weaken (OutBeside S s) (OutBeside after s) (λ task k. (k.0, k.1, k.2, other_stands s task task.content mine k.0 k.2 k.3)) tasks h

  -- the plain facts stay
  stands_after : (answers : Answers) (origin : Origin) (S : HallState) (kind : Kind) (c : Message) → Stands origin S → Stands origin (delivered answers S kind c)
  stands_after answers origin S kind c h = record { plan = h.plan; workers = h.workers; next = h.next; first = h.first; states = h.states; base = h.base; collected = h.collected; batches = h.batches }

  -- ALL RECORDS of a task
  abbrev pub RunsOn : Answers → Origin → HallState → List Task → ℕ → Type 0
  RunsOn answers origin S tasks s = ((H : History) × Running answers origin S H) × Stands origin S × AllByRecursion (OutBeside S s) tasks

  pub all_delivered_run : (answers : Answers) (origin : Origin) (s v port : ℕ) (t : Timestamp) (kind : Kind) (tasks : List Task) (recs : List Rec) (S : HallState) (H : History) (rest : List Message) → PlanFacts S.plan → kind ≡ kind_of S.plan v
      → S.messages ≡ join message_cmp (coming v port t recs) rest → AllByRecursion (λ r. shard_of_key S.workers r.key ≡ s) recs → Running answers origin S H → Stands origin S → AllByRecursion (OutBeside S s) tasks
      → (on : RunsOn answers origin (all_delivered answers kind S (coming v port t recs)) tasks s) × ((all_delivered answers kind S (coming v port t recs)).out ≡ S.out) × ((all_delivered answers kind S (coming v port t recs)).workers ≡ S.workers)
      × Gained (length recs) 0 H on.0.0
  all_delivered_run answers origin s v port t kind tasks [] S H rest facts k here mine runs stands others = (((H, runs), stands, others), refl, refl, (omega arith, omega arith))
  all_delivered_run answers origin s v port t kind tasks (r ∷ recs) S H rest facts k here mine runs stands others =
      let c : Message = record { vertex = v; port = port; time = t; rec = r } in
      let sent : List Message = posts S.plan (stamped v t (called answers S kind c).sent) in
      let now = delivered answers S kind c in
      let left : List Message = join message_cmp (coming v port t recs) rest in
      let runs_now : Running answers origin now (also_delivered answers S H c) = subst (λ x. Running answers origin (delivered answers S x c) (also_delivered answers S H c)) (sym k) (delivered_runs below answers origin S H facts c left here runs) in
      let others_now : AllByRecursion (OutBeside now s) tasks = subst (λ x. AllByRecursion (OutBeside (delivered answers S x c) s) tasks) (sym k) (others_stand answers origin S H facts c left here runs s mine.0 tasks others) in
      let here_now : now.messages ≡ join message_cmp (coming v port t recs) (join message_cmp sent rest) =
      ap (join message_cmp sent) (removed below c S.messages left here) ∙ join-swap message_cmp below.messages sent (coming v port t recs) rest in
      let z = all_delivered_run answers origin s v port t kind tasks recs now (also_delivered answers S H c) (join message_cmp sent rest) facts k here_now mine.1 runs_now (stands_after answers origin S kind c stands) others_now in
      let more = z.3.0 in
      (z.0, z.1, z.2, (omega (arith, more), z.3.1))

  -- A NOTIFICATION that is answered
  module _ (answers : Answers) (origin : Origin) (S : HallState) (H : History) (facts : PlanFacts S.plan) (s v : ℕ) (t : Timestamp) (runs : Running answers origin S H)
      (first : 1 ≤ origin.first) (ordered : AreStates origin.states) (asked : has notification_cmp (record { shard = s; vertex = v; time = t }) S.asked ≡ true) (free : IsFree S (stamp_at v t)) where
    abbrev it : Notification
    it = record { shard = s; vertex = v; time = t }

    abbrev fresh : List StateLeft
    fresh = leaves answers (kind_of S.plan v) t.epoch v (to_notify S s v t)

    abbrev then : HallState
    then = notified answers S it (kind_of S.plan v) (to_notify S s v t)

    base_in_order : InOrder S.base_states
    base_in_order = subst InOrder (sym runs.told.base_states) (left_keeps (filter (λ k. nat_le k.epoch S.base) H.left) origin.states (states_in_order origin.states ordered))

    fresh_here : AllByRecursion (λ (x : StateLeft). (x.epoch ≡ t.epoch) × (x.vertex ≡ v)) fresh
    fresh_here = fresh_at below answers origin S H facts s v t runs first ordered asked free

    left_bag : IsBag left_cmp S.left
    left_bag = subst (IsBag left_cmp) (sym runs.told.left) (IsBag-filter left_cmp below.left (λ k. nat_lt S.base k.epoch) H.left runs.told.left_bag)

    -- the states that another notification was given
    same_state : (w : ℕ) (u : Timestamp) → IsTime origin S.next S.plan w u → IsFree S (stamp_at w u) → (key : ℕ) → state_of (states_at then (u.epoch - 1)) w key ≡ state_of (states_at S (u.epoch - 1)) w key
    same_state w u h f key = by (kind_of S.plan v) refl
      where
        upto : StateLeft → Bool
        upto = λ k. nat_le k.epoch (u.epoch - 1)

        in_two : filter (λ k. nat_le k.epoch (u.epoch - 1)) then.left ≡ join left_cmp (filter (λ k. nat_le k.epoch (u.epoch - 1)) fresh) (filter (λ k. nat_le k.epoch (u.epoch - 1)) S.left)
        in_two = filter-join left_cmp below.left (λ k. nat_le k.epoch (u.epoch - 1)) fresh S.left left_bag

        no_new : filter (λ k. nat_le k.epoch (u.epoch - 1)) fresh ≡ [] → state_of (states_at then (u.epoch - 1)) w key ≡ state_of (states_at S (u.epoch - 1)) w key
        no_new n = ap (λ l. state_of (with_left S.base_states l) w key) (in_two ∙ ap (λ l. join left_cmp l (filter (λ k. nat_le k.epoch (u.epoch - 1)) S.left)) n)

        none : (k : Kind) → kind_of S.plan v ≡ k → leaves answers k t.epoch v (to_notify S s v t) ≡ [] → state_of (states_at then (u.epoch - 1)) w key ≡ state_of (states_at S (u.epoch - 1)) w key
        none k e n = no_new (ap (filter (λ k. nat_le k.epoch (u.epoch - 1))) (ap (λ k. leaves answers k t.epoch v (to_notify S s v t)) e ∙ n))

        turns_of : (code : ℕ) (z : Timestamp) → kind_of S.plan v ≡ Fold code → AreBelow z.turns (bounds (reading_loops_at S.plan v)) → z.turns ≡ []
        turns_of code z e b = no_turns below z.turns (subst (λ l. AreBelow z.turns (bounds l)) (facts.folds v code e) b)

        folds : (code : ℕ) → kind_of S.plan v ≡ Fold code → (b : Bool) → (w == v) ≡ b → (d : Bool) → nat_lt t.epoch u.epoch ≡ d → state_of (states_at then (u.epoch - 1)) w key ≡ state_of (states_at S (u.epoch - 1)) w key
        folds code e false g d l =
            ap (λ l. state_of (with_left S.base_states l) w key) in_two
            ∙ others_left w (filter (λ k. nat_le k.epoch (u.epoch - 1)) fresh) (filter (λ k. nat_le k.epoch (u.epoch - 1)) S.left)
            (all_weaken (λ (x : StateLeft). ((x.epoch ≡ t.epoch) × (x.vertex ≡ v)) × (nat_le x.epoch (u.epoch - 1) ≡ true)) (λ x. (x.vertex ≡ w) → ⊥) (λ x h q. let no : true ≡ false = sym (eqb-same below w) ∙ ap (λ n. w == n) (sym q ∙ h.0.1) ∙ g in cc)
            (filter (λ k. nat_le k.epoch (u.epoch - 1)) fresh) (all_filter (λ (x : StateLeft). (x.epoch ≡ t.epoch) × (x.vertex ≡ v)) (λ k. nat_le k.epoch (u.epoch - 1)) fresh fresh_here)) S.base_states base_in_order key
        folds code e true g false l =
            no_new (filter_none (λ k. nat_le k.epoch (u.epoch - 1)) fresh (all_weaken (λ (x : StateLeft). (x.epoch ≡ t.epoch) × (x.vertex ≡ v)) (λ x. nat_le x.epoch (u.epoch - 1) ≡ false)
            (λ x k. lt-leb x.epoch (u.epoch - 1) (omega (arith, k.0, ltb-false t.epoch u.epoch l, first, h.0))) fresh fresh_here))
        folds code e true g true l =
            let same : w ≡ v = eqb-true w v g in
            absurd (settled_here below answers origin S H facts s v t runs first ordered asked free u (turns_of code t e (asked_is below answers origin S H runs it asked).0.2)
            (turns_of code u e (subst (λ n. AreBelow u.turns (bounds (reading_loops_at S.plan n))) same h.2)) (ltb-true t.epoch u.epoch l) (subst (λ n. IsFree S (stamp_at n u)) same f))

        by : (k : Kind) → kind_of S.plan v ≡ k → state_of (states_at then (u.epoch - 1)) w key ≡ state_of (states_at S (u.epoch - 1)) w key
        by Input e = none Input e refl
        by (Map code) e = none (Map code) e refl
        by Distinct e = none Distinct e refl
        by (Group code) e = none (Group code) e refl
        by Enter e = none Enter e refl
        by Feedback e = none Feedback e refl
        by Leave e = none Leave e refl
        by Output e = none Output e refl
        by (Fold code) e = folds code e (w == v) refl (nat_lt t.epoch u.epoch) refl

    with_states : (w : ℕ) (u : Timestamp) → ((key : ℕ) → state_of (states_at then (u.epoch - 1)) w key ≡ state_of (states_at S (u.epoch - 1)) w key) → (gs : List (ℕ × List Item)) → map (with_state_of then w u) gs ≡ map (with_state_of S w u) gs
    with_states w u h [] = refl
    with_states w u h (g ∷ gs) = λ i. (let x : KeyItems = record { key = g.0; items = g.1; state = h g.0 i } in x) ∷ with_states w u h gs i

    other_waits : (task : Task) → ((task.shard ≡ s) → ⊥) → filter (is_for S (asked_at S task.shard task.vertex task.time)) (filter (λ c. not (is_for S it c)) S.buffered) ≡ filter (is_for S (asked_at S task.shard task.vertex task.time)) S.buffered
    other_waits task n =
        let a : Notification = asked_at S task.shard task.vertex task.time in
        filter_filter (is_for S a) (λ c. not (is_for S it c)) S.buffered ∙ filter_alike (λ c. not (is_for S it c) && is_for S a c) (is_for S a) S.buffered (all_everywhere (λ c. (not (is_for S it c) && is_for S a c) ≡ is_for S a c) (λ c. each c (is_for S it c) refl) S.buffered)
      where
        each : (c : Message) (b : Bool) → is_for S it c ≡ b → (not (is_for S it c) && is_for S (asked_at S task.shard task.vertex task.time) c) ≡ is_for S (asked_at S task.shard task.vertex task.time) c
        each c false e = ap (λ b. not b && is_for S (asked_at S task.shard task.vertex task.time) c) e
        each c true e =
            let p = notification_apart it (asked_of S.workers c) (tied (notification_cmp it (asked_of S.workers c)) e) in
            ap (λ b. not b && is_for S (asked_at S task.shard task.vertex task.time) c) e ∙ sym (not_both c (notification_cmp (asked_at S task.shard task.vertex task.time) (asked_of S.workers c)) refl (sym (ap (λ (a : Notification). a.shard) p)))
          where
            not_both : (c : Message) (o : Ordering) → notification_cmp (asked_at S task.shard task.vertex task.time) (asked_of S.workers c) ≡ o → (asked_of S.workers c).shard ≡ s → is_for S (asked_at S task.shard task.vertex task.time) c ≡ false
            not_both c Less f q = ap is_eq f
            not_both c Greater f q = ap is_eq f
            not_both c Equal f q = absurd (n (ap (λ (a : Notification). a.shard) (notification_apart (asked_at S task.shard task.vertex task.time) (asked_of S.workers c) f) ∙ q))

    other_stands_now : (task : Task) (content : Content) → ((task.shard ≡ s) → ⊥) → StandsOut S task content → StandsOut then task content
    other_stands_now task (messages port recs) n h =
        let sent : List Message = posts S.plan (stamped v t (notified_sends answers (kind_of S.plan v) (to_notify S s v t))) in
        (join message_cmp sent h.0, ap (join message_cmp sent) h.1 ∙ join-swap message_cmp below.messages sent (coming task.vertex port task.time recs) h.0)
    other_stands_now task (notification items) n h =
        let a : Notification = asked_at S task.shard task.vertex task.time in (
          has_passing below (λ b. not (is_eq (notification_cmp it b))) a S.asked ∙ (λ i. not (apart a (λ q. n q) (notification_cmp it a) refl i) && h.0 i),
          stays_free_now below answers origin S H facts s v t runs first ordered asked free task.vertex task.time h.1,
          h.2 ∙ sym (ap (λ l. map (with_state_of then task.vertex task.time) (groups (map arrival l))) (other_waits task n) ∙ with_states task.vertex task.time (same_state task.vertex task.time (asked_is below answers origin S H runs a h.0).0 h.1) (groups (map arrival (filter (is_for S a) S.buffered)))),
        )
      where
        apart : (a : Notification) → ((a.shard ≡ s) → ⊥) → (o : Ordering) → notification_cmp it a ≡ o → is_eq (notification_cmp it a) ≡ false
        apart a n Less e = ap is_eq e
        apart a n Greater e = ap is_eq e
        apart a n Equal e = absurd (n (sym (ap (λ (a : Notification). a.shard) (notification_apart it a e))))

    pub others_stand_now : (tasks : List Task) → AllByRecursion (OutBeside S s) tasks → AllByRecursion (OutBeside then s) tasks
    others_stand_now tasks h = all_weaken (OutBeside S s) (OutBeside then s) (λ task k. (k.0, k.1, k.2, other_stands_now task task.content k.0 k.3)) tasks h
