-- A notification that is answered keeps the invariant.
use Rattle.std.proofs.Common.{◌≡◌, ℕ, ◌-◌, ◌<◌, ◌≤◌, ◌⊎◌, inl, inr, List, [], ◌∷◌, ◌++◌, map, flat_map, filter, not, refl, ap, sym, ◌∙◌, subst, Bool, true, false, ◌||◌, ◌&&◌, arith, ◌==◌}
use Rattle.std.specs.Prelude.{nat_lt, nat_le, Option, Some, None}
use Rattle.std.specs.List.{AllByRecursion}
use Rattle.std.specs.List.Sorted.{IsStrictlySortedBy}
use Rattle.std.proofs.lemmas.Bool.{lt-ltb, ltb-true, ltb-false, le-leb, lt-leb, le-ltb, eqb-true}
use Rattle.std.proofs.lemmas.Grind.{flat_map-append}
use Rattle.std.proofs.lemmas.List.Concat.{flat_map_single}
use Rattle.std.proofs.lemmas.List.Folds.{flat_map-map}
use Rattle.std.proofs.lemmas.Cmp.{tied_itself}
use Rattle.std.specs.declared.cmp.Ordering.{Ordering}
use Rattle.std.specs.declared.cmp.Ordering.TheVariants.{Less, Equal, Greater}
use Rattle.std.specs.Ordering.{is_eq, is_gt, nat_cmp, ordering_then}
use Rattle.std.specs.Cmp.{nat_cmp_total}
use Rattle.std.specs.Option.{option_cmp}
use Rattle.td_stamp.specs.declared.values.Rec.{Rec}
use Rattle.td_stamp.specs.declared.values.Item.{Item}
use Rattle.td_stamp.specs.declared.values.Arrival.{Arrival}
use Rattle.td_stamp.specs.Orders.{rec_cmp}
use Rattle.td_stamp.specs.Time.{Timestamp}
use Rattle.td_stamp.specs.Bag.{join, bag_of, set_of, has, IsBag}
use Rattle.td_stamp.specs.Groups.{groups, items_of}
use Rattle.td_stamp.specs.States.{StateList, state_of, AreStates}
use Rattle.td_stamp.specs.Rises.{Rises}
use Rattle.td_plan.specs.declared.vertex.Kind.{Kind}
use Rattle.td_plan.specs.declared.vertex.Kind.TheVariants.{Input, Map, Distinct, Group, Fold, Enter, Feedback, Leave, Output}
use Rattle.td_plan.specs.declared.vertex.Edge.{Edge}
use Rattle.td_plan.specs.Blocks.{bounds, reading_loops_at, edges, edge_at, kind_at}
use Rattle.td_plan.specs.Faults.{is_fold}
use Rattle.td_reach.specs.declared.stamp.Stamp.{Stamp}
use Rattle.td_reach.specs.declared.stamp.Place.{Place}
use Rattle.td_reach.specs.declared.stamp.Place.TheVariants as places
use Rattle.td_plan.specs.Times.{sent_by}
use Rattle.td_reach.specs.Paths.{Could}
use Rattle.td_machine.specs.Examples.{sent_by-epoch}
use Rattle.td_machine.proofs.Paths.{could_from_vertex}
use Rattle.td_machine.proofs.Plain.{eqb-same}
use Rattle.td_calls.specs.Answers.{Answers}
use Rattle.td_calls.specs.Callbacks.{on_notification, is_notified}
use Rattle.td_batch.specs.Meaning.{EpochInput, answer}
use Rattle.td_batch.specs.Flow.{AreBelow}
use Rattle.td_machine.specs.declared.records.Message.{Message}
use Rattle.td_machine.specs.declared.records.Stamped.{Stamped}
use Rattle.td_machine.specs.declared.records.Notification.{Notification}
use Rattle.td_machine.specs.declared.records.StateLeft.{StateLeft}
use Rattle.td_machine.specs.State.{HallState, KeyItems, message_cmp, notification_cmp, left_cmp, state_cmp, is_there, arrival, asked_of, with_left, states_at}
use Rattle.td_machine.specs.Active.{kind_or, kind_of, active, IsFree, stamp_at, stamp_of_asked, stamp_of_message}
use Rattle.td_machine.specs.Steps.{posts, posted, stamped, notified, notified_sends, leaves, to_notify, with_state_of, is_for, on_edge}
use Rattle.td_machine.proofs.History.{Origin, History, IsTold, AreAnswered, Running, IsTime, IsOnEdge, has_answer, asking, also_notified, epoch_from, sent_at, came_at, is_left_at, left_by}
use Rattle.td_machine.proofs.PlanFacts.{PlanFacts, IsFound, LeadsAway, InTurn}
use Rattle.td_machine.proofs.Orders.{notification_apart, there_is, there_itself}
use Rattle.td_machine.proofs.Lists.{filter_yes, filter_no, filter_all, filter_none, filter_filter, filter_alike, filter_map, all_app, all_map, all_everywhere, all_weaken, all_filter, all_both}
use Rattle.td_machine.proofs.Times.{posts_times, sent_app, sent_here, sent_elsewhere}
use Rattle.td_machine.proofs.Delivered.{all_has, from_active, to_active, all_posts, all_posts_of}
use Rattle.td_machine.proofs.Cuts.{states_in_two}
use Rattle.td_machine.proofs.Releases.{asked_is}
use Rattle.td_machine.proofs.StatesLeft.{states_in_order, others_left}
use Rattle.td_machine.proofs.Keyed.{eq_swap, came_other, answered_split, waiting_groups, mine}
use Rattle.td_machine.proofs.Bags.{join-assoc, join-bag_of, bag_of-append, join-IsBag, set_of-IsStrictlySortedBy, IsBag-from_Rises, Rises-from_IsBag, filter-bag_of, filter-join, all_join}
use Rattle.td_machine.specs.Below.{Below}

module _ (below : Below) where
  -- an element of a filtered list
  pub has_passing : (p : Notification → Bool) (a : Notification) (xs : List Notification) → has notification_cmp a (filter p xs) ≡ (p a && has notification_cmp a xs)
  has_passing p a [] = sym (no (p a))
    where
      no : (b : Bool) → (b && false) ≡ false
      no true = refl
      no false = refl
  has_passing p a (x ∷ xs) = by (p x) refl (notification_cmp a x) refl (has_passing p a xs)
    where
      yes : (b : Bool) → b ≡ true → (c : Bool) → true ≡ (b && (true || c))
      yes b e c = λ i. sym e i && true

      by : (b : Bool) → p x ≡ b → (o : Ordering) → notification_cmp a x ≡ o → has notification_cmp a (filter p xs) ≡ (p a && has notification_cmp a xs) → has notification_cmp a (filter p (x ∷ xs)) ≡ (p a && has notification_cmp a (x ∷ xs))
      by true e Equal f rest = ap (has notification_cmp a) (filter_yes p x xs e) ∙ ap (λ o. is_eq o || has notification_cmp a (filter p xs)) f ∙ yes (p a) (ap p (notification_apart a x f) ∙ e) (has notification_cmp a xs) ∙ sym (ap (λ o. p a && (is_eq o || has notification_cmp a xs)) f)
      by true e Less f rest = ap (has notification_cmp a) (filter_yes p x xs e) ∙ ap (λ o. is_eq o || has notification_cmp a (filter p xs)) f ∙ rest ∙ sym (ap (λ o. p a && (is_eq o || has notification_cmp a xs)) f)
      by true e Greater f rest = ap (has notification_cmp a) (filter_yes p x xs e) ∙ ap (λ o. is_eq o || has notification_cmp a (filter p xs)) f ∙ rest ∙ sym (ap (λ o. p a && (is_eq o || has notification_cmp a xs)) f)
      by false e Equal f rest = ap (has notification_cmp a) (filter_no p x xs e) ∙ rest ∙ none (p a) (ap p (notification_apart a x f) ∙ e) (has notification_cmp a xs) (is_eq (notification_cmp a x) || has notification_cmp a xs)
        where
          none : (b : Bool) → b ≡ false → (c d : Bool) → (b && c) ≡ (b && d)
          none b g c d = λ i. ((λ j. g j && c) ∙ (λ j. sym g j && d)) i
      by false e Less f rest = ap (has notification_cmp a) (filter_no p x xs e) ∙ rest ∙ sym (ap (λ o. p a && (is_eq o || has notification_cmp a xs)) f)
      by false e Greater f rest = ap (has notification_cmp a) (filter_no p x xs e) ∙ rest ∙ sym (ap (λ o. p a && (is_eq o || has notification_cmp a xs)) f)

  -- no answer now: no answer before, and not for this notification
  still_none : (g e h : Bool) → (not (not g || h) && not e) ≡ not (not g || (e || h))
  still_none true true true = refl
  still_none true true false = refl
  still_none true false true = refl
  still_none true false false = refl
  still_none false e h = refl

  -- what a fold leaves is in the order of keys
  module _ (epoch : EpochInput) (code e v : ℕ) (arrived : List Arrival) where
    abbrev of_key : ℕ → StateLeft
    of_key k = left_by epoch code e v (k, items_of k arrived)

    below_key : (j k : ℕ) → nat_cmp j k ≡ Less → is_gt (left_cmp (of_key j) (of_key k)) ≡ false
    below_key j k h =
        let p : nat_cmp e e ≡ Equal = tied_itself nat_cmp_total e in
        let q : nat_cmp v v ≡ Equal = tied_itself nat_cmp_total v in
        λ i. is_gt (ordering_then (p i) (ordering_then (q i) (ordering_then (h i) (option_cmp state_cmp (of_key j).state (of_key k).state))))

    keys_rise : (ks : List ℕ) → IsStrictlySortedBy nat_cmp ks → Rises left_cmp (map of_key ks)
    unfolding IsStrictlySortedBy
    keys_rise [] h = tt
    keys_rise (k ∷ ks) h = (all_map (λ x. is_gt (left_cmp (of_key k) x) ≡ false) of_key ks (all_weaken (λ j. nat_cmp k j ≡ Less) (λ j. is_gt (left_cmp (of_key k) (of_key j)) ≡ false) (λ j l. below_key k j l) ks h.0), keys_rise ks h.1)

    pub left_is_bag : IsBag left_cmp (map (left_by epoch code e v) (groups arrived))
    left_is_bag = IsBag-from_Rises left_cmp below.left (map (left_by epoch code e v) (groups arrived)) (subst (Rises left_cmp) (sym (maps (set_of nat_cmp (map (λ a. a.key) arrived)))) (keys_rise (set_of nat_cmp (map (λ a. a.key) arrived)) (set_of-IsStrictlySortedBy nat_cmp below.number_sets (map (λ a. a.key) arrived))))
      where
        maps : (ks : List ℕ) → map (left_by epoch code e v) (map (λ key. (key, items_of key arrived)) ks) ≡ map (λ k. left_by epoch code e v (k, items_of k arrived)) ks
        maps [] = refl
        maps (k ∷ ks) = ap (λ l. left_by epoch code e v (k, items_of k arrived) ∷ l) (maps ks)

  -- the epochs up to the one before
  before_epoch : (k e : ℕ) → 1 ≤ e → nat_le k (e - 1) ≡ nat_lt k e
  before_epoch k e h = by (nat_lt k e) refl
    where
      by : (b : Bool) → nat_lt k e ≡ b → nat_le k (e - 1) ≡ nat_lt k e
      by true f = le-leb k (e - 1) (omega (arith, h, ltb-true k e f)) ∙ sym f
      by false f = lt-leb k (e - 1) (omega (arith, h, ltb-false k e f)) ∙ sym f

  maps_twice : {A B C : Type 0} (g : B → C) (f : A → B) (xs : List A) → map g (map f xs) ≡ map (λ x. g (f x)) xs
  maps_twice g f [] = refl
  maps_twice g f (x ∷ xs) = ap (λ l. g (f x) ∷ l) (maps_twice g f xs)

  empty_turns : (turns : List ℕ) → AreBelow turns [] → turns ≡ []
  empty_turns [] h = refl
  empty_turns (k ∷ turns) h = absurd h

  module _ (answers : Answers) (origin : Origin) (S : HallState) (H : History) (facts : PlanFacts S.plan) (s v : ℕ) (t : Timestamp) (runs : Running answers origin S H)
      (first : 1 ≤ origin.first) (ordered : AreStates origin.states) (asked : has notification_cmp (record { shard = s; vertex = v; time = t }) S.asked ≡ true) (free : IsFree S (stamp_at v t)) where
    abbrev it : Notification
    it = record { shard = s; vertex = v; time = t }

    abbrev kind : Kind
    kind = kind_of S.plan v

    abbrev items : List KeyItems
    items = to_notify S s v t

    abbrev sends : List Rec
    sends = notified_sends answers kind items

    abbrev fresh : List StateLeft
    fresh = leaves answers kind t.epoch v items

    abbrev after : HallState
    after = notified answers S it kind items

    abbrev history : History
    history = also_notified answers S H it items

    abbrev told : IsTold origin S H
    told = runs.told

    abbrev known : AreAnswered answers origin S H
    known = runs.answered

    is : IsTime origin S.next S.plan v t × (is_notified (kind_of S.plan v) ≡ true) × (has notification_cmp it H.notified ≡ false) × (has notification_cmp it (asking S.plan S.workers H.arrived) ≡ true)
    is = asked_is below answers origin S H runs it asked

    abbrev ready : Message → Bool
    ready = has_answer S.plan S.workers H.notified

    abbrev ready_now : Message → Bool
    ready_now = has_answer S.plan S.workers (it ∷ H.notified)

    abbrev shard_items : List Arrival
    shard_items = mine below S.plan S.workers H.notified s v t is.1 is.2 H.arrived

    later_here : (S.base < t.epoch) × (S.collected < t.epoch)
    later_here = all_has below (λ a. (S.base < a.time.epoch) × (S.collected < a.time.epoch)) it S.asked (from_active below S (λ p. (S.base < p.time.epoch) × (S.collected < p.time.epoch)) runs.later).1 asked

    groups_items : groups (map arrival (filter (is_for S it) S.buffered)) ≡ groups shard_items
    groups_items = ap (λ l. groups (map arrival (filter (is_for S it) l))) told.buffered ∙ waiting_groups below S.plan S.workers H.notified s v t is.1 is.2 H.arrived

    -- WHAT IS LEFT
    fresh_by : (k : Kind) → AllByRecursion (λ (x : StateLeft). (x.epoch ≡ t.epoch) × (x.vertex ≡ v)) (leaves answers k t.epoch v items)
    fresh_by (Fold code) = all_map (λ (x : StateLeft). (x.epoch ≡ t.epoch) × (x.vertex ≡ v)) _ items (all_everywhere (λ (g : KeyItems). (t.epoch ≡ t.epoch) × (v ≡ v)) (λ g. (refl, refl)) items)
    fresh_by Input = tt
    fresh_by (Map code) = tt
    fresh_by Distinct = tt
    fresh_by (Group code) = tt
    fresh_by Enter = tt
    fresh_by Feedback = tt
    fresh_by Leave = tt
    fresh_by Output = tt

    pub fresh_at : AllByRecursion (λ (x : StateLeft). (x.epoch ≡ t.epoch) × (x.vertex ≡ v)) fresh
    fresh_at = fresh_by kind

    left_filter : (p : StateLeft → Bool) → filter p history.left ≡ join left_cmp (filter p fresh) (filter p H.left)
    left_filter p = filter-join left_cmp below.left p fresh H.left told.left_bag

    no_fresh : (p : StateLeft → Bool) → ((x : StateLeft) → x.epoch ≡ t.epoch → x.vertex ≡ v → p x ≡ false) → filter p history.left ≡ filter p H.left
    no_fresh p n = left_filter p ∙ ap (λ l. join left_cmp l (filter p H.left)) (filter_none p fresh (all_weaken (λ (x : StateLeft). (x.epoch ≡ t.epoch) × (x.vertex ≡ v)) (λ x. p x ≡ false) (λ x h. n x h.0 h.1) fresh fresh_at))

    -- what an epoch is computed from, up to this one
    same_epoch : (e : ℕ) → e ≤ t.epoch → epoch_from answers origin history.left e ≡ epoch_from answers origin H.left e
    same_epoch e l = λ i. record (epoch_from answers origin H.left e) { states = with_left origin.states (no_fresh (λ k. nat_lt k.epoch e) (λ x p q. le-ltb x.epoch e (omega (arith, l, p))) i) }

    abbrev now : EpochInput
    now = epoch_from answers origin H.left t.epoch

    rises : Rises left_cmp H.left
    rises = Rises-from_IsBag left_cmp below.left H.left told.left_bag

    states_here : states_at S (t.epoch - 1) ≡ now.states
    states_here =
        (λ i. with_left (told.base_states i) (filter (λ k. nat_le k.epoch (t.epoch - 1)) (told.left i))) ∙ states_in_two below S.base (t.epoch - 1) (omega (arith, later_here.0)) origin.states H.left rises
        ∙ ap (with_left origin.states) (filter_alike (λ k. nat_le k.epoch (t.epoch - 1)) (λ k. nat_lt k.epoch t.epoch) H.left (all_everywhere (λ k. nat_le k.epoch (t.epoch - 1) ≡ nat_lt k.epoch t.epoch) (λ k. before_epoch k.epoch t.epoch (omega (arith, later_here.0))) H.left))

    -- WHAT IS SENT AND LEFT, of the groups
    sends_is : (k : Kind) → notified_sends answers k items ≡ flat_map (λ g. (on_notification answers k g.0 (state_of now.states v g.0) g.1).1) (groups shard_items)
    sends_is k =
        flat_map-map (λ (g : KeyItems). (on_notification answers k g.key g.state g.items).1) (with_state_of S v t) (groups (map arrival (filter (is_for S it) S.buffered)))
        ∙ (λ i. flat_map (λ g. (on_notification answers k g.0 (state_of (states_here i) v g.0) g.1).1) (groups_items i))

    leaves_is : (code : ℕ) → leaves answers (Fold code) t.epoch v items ≡ map (left_by now code t.epoch v) (groups shard_items)
    leaves_is code =
        maps_twice _ (with_state_of S v t) (groups (map arrival (filter (is_for S it) S.buffered)))
        ∙ (λ i. map (λ g. let x : StateLeft = record { epoch = t.epoch; vertex = v; key = g.0; state = (on_notification answers (Fold code) g.0 (state_of (states_here i) v g.0) g.1).0 } in x) (groups_items i))

    abbrev came : ℕ → Timestamp → List Arrival
    came w u = came_at (filter ready H.arrived) w u

    abbrev came_now : ℕ → Timestamp → List Arrival
    came_now w u = came_at (filter ready_now H.arrived) w u

    sent_groups : (f : ℕ × List Item → List Rec) → join rec_cmp (flat_map f (groups shard_items)) (bag_of rec_cmp (flat_map f (groups (came v t)))) ≡ bag_of rec_cmp (flat_map f (groups (came_now v t)))
    sent_groups f =
        sym (join-bag_of rec_cmp below.recs (flat_map f (groups shard_items)) (bag_of rec_cmp (flat_map f (groups (came v t)))))
        ∙ sym (answered_split below S.plan S.workers H.notified s v t is.1 is.2 H.arrived rec_cmp below.recs f)

    sent_kind : (k : Kind) → is_notified k ≡ true → join rec_cmp (notified_sends answers k items) (answer now v k (came v t)) ≡ answer now v k (came_now v t)
    sent_kind Input e = cc
    sent_kind (Map code) e = cc
    sent_kind Distinct e = cc
    sent_kind Enter e = cc
    sent_kind Feedback e = cc
    sent_kind Leave e = cc
    sent_kind Output e = cc
    sent_kind (Group code) e = ap (λ l. join rec_cmp l (answer now v (Group code) (came v t))) (sends_is (Group code)) ∙ sent_groups (λ g. (on_notification answers (Group code) g.0 (state_of now.states v g.0) g.1).1)
    sent_kind (Fold code) e = ap (λ l. join rec_cmp l (answer now v (Fold code) (came v t))) (sends_is (Fold code)) ∙ sent_groups (λ g. (on_notification answers (Fold code) g.0 (state_of now.states v g.0) g.1).1)

    -- THE LISTS
    abbrev new : List Stamped
    new = stamped v t sends

    balance : join message_cmp after.messages (bag_of message_cmp H.arrived) ≡ bag_of message_cmp (posts S.plan (new ++ H.sent))
    balance =
        join-assoc message_cmp below.messages (posts S.plan new) S.messages (bag_of message_cmp H.arrived) ∙ ap (join message_cmp (posts S.plan new)) told.balance
        ∙ sym (bag_of-append message_cmp below.messages (posts S.plan new) (posts S.plan H.sent)) ∙ ap (bag_of message_cmp) (sym (flat_map-append (posted S.plan) new H.sent))

    abbrev none : Message → Bool
    none = λ c. not (ready c)

    abbrev none_now : Message → Bool
    none_now = λ c. not (ready_now c)

    fewer_none : filter (λ c. not (is_for S it c)) (filter none H.arrived) ≡ filter none_now H.arrived
    fewer_none = filter_filter (λ c. not (is_for S it c)) none H.arrived ∙ filter_alike (λ c. none c && not (is_for S it c)) none_now H.arrived (all_everywhere (λ c. (none c && not (is_for S it c)) ≡ none_now c)
        (λ c. ap (λ b. none c && not b) (eq_swap below it (asked_of S.workers c)) ∙ still_none (is_notified (kind_of S.plan c.vertex)) (is_eq (notification_cmp (asked_of S.workers c) it)) (has notification_cmp (asked_of S.workers c) H.notified)) H.arrived)

    buffered : after.buffered ≡ bag_of message_cmp (filter none_now H.arrived)
    buffered = ap (filter (λ c. not (is_for S it c))) told.buffered ∙ filter-bag_of message_cmp below.messages (λ c. not (is_for S it c)) (filter none H.arrived) ∙ ap (bag_of message_cmp) fewer_none

    asked_after : (b : Notification) → has notification_cmp b after.asked ≡ has notification_cmp b (map (asked_of S.workers) (filter none_now H.arrived))
    asked_after b =
        let p : Notification → Bool = λ b. not (is_eq (notification_cmp it b)) in
        has_passing p b S.asked ∙ ap (λ c. p b && c) (told.asked b) ∙ sym (has_passing p b (map (asked_of S.workers) (filter none H.arrived)))
        ∙ ap (has notification_cmp b) (filter_map p (asked_of S.workers) (filter none H.arrived) ∙ ap (map (asked_of S.workers)) fewer_none)

    left_after : after.left ≡ filter (λ k. nat_lt S.base k.epoch) history.left
    left_after =
        ap (join left_cmp fresh) told.left ∙ ap (λ l. join left_cmp l (filter (λ k. nat_lt S.base k.epoch) H.left)) (sym (filter_all (λ k. nat_lt S.base k.epoch) fresh (all_weaken (λ (x : StateLeft). (x.epoch ≡ t.epoch) × (x.vertex ≡ v)) (λ x. nat_lt S.base x.epoch ≡ true)
        (λ x h. lt-ltb S.base x.epoch (omega (arith, h.0, later_here.0))) fresh fresh_at))) ∙ sym (left_filter (λ k. nat_lt S.base k.epoch))

    notified_told : IsTold origin after history
    notified_told = record {
      balance = balance;
      buffered = buffered;
      asked = asked_after;
      seen = told.seen;
      outputs = told.outputs;
      left_bag = join-IsBag left_cmp below.left fresh H.left told.left_bag;
      left = left_after;
      base_states = told.base_states ∙ ap (with_left origin.states) (sym (no_fresh (λ k. nat_le k.epoch S.base) (λ x p q. lt-leb x.epoch S.base (omega (arith, p, later_here.0)))));
    }

    -- WHAT WAS SENT
    -- a fold's notification holds back the later ones at the vertex, so none of these was given
    pub settled_here : (u : Timestamp) → t.turns ≡ [] → u.turns ≡ [] → t.epoch < u.epoch → IsFree S (stamp_at v u) → ⊥
    settled_here u none_t none_u l f =
        let Q : Stamp → Type 0 = λ q. ((q ≡ stamp_at v u) → ⊥) → Could S.plan q (stamp_at v u) → ⊥ in
        all_has below (λ a. Q (stamp_of_asked a)) it S.asked (from_active below S Q f).1 asked (λ e. let p : t.epoch ≡ u.epoch = ap (λ (q : Stamp). q.time.epoch) e in omega (arith, p, l))
        (record { first = v; path = []; begins = refl; is_path = tt; ends = inl refl; in_time = record { epoch = omega (arith, l); turns = inr (none_t ∙ sym none_u) } })

    nothing_later : (w : ℕ) (u : Timestamp) → w ≡ v → t.turns ≡ [] → u.turns ≡ [] → t.epoch < u.epoch → came w u ≡ []
    nothing_later w u e a b l = ap (map arrival) (filter_none (λ c. is_there w u c.vertex c.time) (filter ready H.arrived) (all_weaken (λ c. Unit {0} × (ready c ≡ true)) (λ c. is_there w u c.vertex c.time ≡ false) (λ c h. by c h.1 (is_there w u c.vertex c.time) refl)
        (filter ready H.arrived) (all_filter (λ c. Unit {0}) ready H.arrived (all_everywhere (λ c. Unit {0}) (λ c. tt) H.arrived))))
      where
        with_notice : (g h : Bool) → g ≡ true → (not g || h) ≡ true → h ≡ true
        with_notice true h e f = f
        with_notice false h e f = cc

        by : (c : Message) → ready c ≡ true → (d : Bool) → is_there w u c.vertex c.time ≡ d → is_there w u c.vertex c.time ≡ false
        by c r false f = f
        by c r true f =
            let p = there_is w c.vertex u c.time f in
            let h = with_notice (is_notified (kind_of S.plan c.vertex)) (has notification_cmp (asked_of S.workers c) H.notified) (ap (λ n. is_notified (kind_of S.plan n)) (p.0 ∙ e) ∙ is.1) r in
            absurd (settled_here u a b l (subst (λ x. IsFree S (stamp_at v x)) p.1 (subst (λ n. IsFree S (stamp_at n c.time)) (p.0 ∙ e) (all_has below (λ a. IsFree S (stamp_of_asked a)) (asked_of S.workers c) H.notified runs.settled h))))

    abbrev States : ℕ → Timestamp → Type 0
    States w u = ((key : ℕ) → state_of (epoch_from answers origin history.left u.epoch).states w key ≡ state_of (epoch_from answers origin H.left u.epoch).states w key) ⊎ (came w u ≡ [])

    same_or_nothing : (w code : ℕ) (u : Timestamp) → kind_of S.plan w ≡ Fold code → IsTime origin S.next S.plan w u → States w u
    same_or_nothing w code u k h = by (w == v) refl
      where
        outside : (x : ℕ) (z : Timestamp) → kind_of S.plan x ≡ Fold code → AreBelow z.turns (bounds (reading_loops_at S.plan x)) → z.turns ≡ []
        outside x z k b = empty_turns z.turns (subst (λ l. AreBelow z.turns (bounds l)) (facts.folds x code k) b)

        by : (b : Bool) → (w == v) ≡ b → States w u
        by false e = inl (λ key. ap (λ l. state_of (with_left origin.states l) w key) (left_filter (λ k. nat_lt k.epoch u.epoch))
            ∙ others_left w (filter (λ k. nat_lt k.epoch u.epoch) fresh) (filter (λ k. nat_lt k.epoch u.epoch) H.left)
            (all_weaken (λ (x : StateLeft). ((x.epoch ≡ t.epoch) × (x.vertex ≡ v)) × (nat_lt x.epoch u.epoch ≡ true)) (λ x. (x.vertex ≡ w) → ⊥) (λ x g q. let no : true ≡ false = sym (eqb-same below w) ∙ ap (λ n. w == n) (sym q ∙ g.0.1) ∙ e in cc)
            (filter (λ k. nat_lt k.epoch u.epoch) fresh) (all_filter (λ (x : StateLeft). (x.epoch ≡ t.epoch) × (x.vertex ≡ v)) (λ k. nat_lt k.epoch u.epoch) fresh fresh_at)) origin.states (states_in_order origin.states ordered) key)
        by true e =
            let same : w ≡ v = eqb-true w v e in
            by_epoch same (nat_lt t.epoch u.epoch) refl
          where
            by_epoch : w ≡ v → (c : Bool) → nat_lt t.epoch u.epoch ≡ c → States w u
            by_epoch same false f = inl (λ key. ap (λ (ep : EpochInput). state_of ep.states w key) (same_epoch u.epoch (ltb-false t.epoch u.epoch f)))
            by_epoch same true f = inr (nothing_later w u same (outside v t (ap (kind_of S.plan) (sym same) ∙ k) is.0.2) (outside w u k h.2) (ltb-true t.epoch u.epoch f))

    sends_alike : (code w : ℕ) (st su : StateList) (gs : List (ℕ × List Item)) → ((key : ℕ) → state_of st w key ≡ state_of su w key)
        → flat_map (λ g. (on_notification answers (Fold code) g.0 (state_of st w g.0) g.1).1) gs ≡ flat_map (λ g. (on_notification answers (Fold code) g.0 (state_of su w g.0) g.1).1) gs
    sends_alike code w st su [] h = refl
    sends_alike code w st su (g ∷ gs) h = λ i. (on_notification answers (Fold code) g.0 (h g.0 i) g.1).1 ++ sends_alike code w st su gs h i

    leaves_alike : (code w e : ℕ) (st su : StateList) (gs : List (ℕ × List Item)) → ((key : ℕ) → state_of st w key ≡ state_of su w key)
        → map (λ g. let x : StateLeft = record { epoch = e; vertex = w; key = g.0; state = (on_notification answers (Fold code) g.0 (state_of st w g.0) g.1).0 } in x) gs
        ≡ map (λ g. let x : StateLeft = record { epoch = e; vertex = w; key = g.0; state = (on_notification answers (Fold code) g.0 (state_of su w g.0) g.1).0 } in x) gs
    leaves_alike code w e st su [] h = refl
    leaves_alike code w e st su (g ∷ gs) h = λ i. (let x : StateLeft = record { epoch = e; vertex = w; key = g.0; state = (on_notification answers (Fold code) g.0 (h g.0 i) g.1).0 } in x) ∷ leaves_alike code w e st su gs h i

    answer_same : (w : ℕ) (u : Timestamp) (k : Kind) → kind_of S.plan w ≡ k → IsTime origin S.next S.plan w u → answer (epoch_from answers origin history.left u.epoch) w k (came w u) ≡ answer (epoch_from answers origin H.left u.epoch) w k (came w u)
    answer_same w u Input e h = refl
    answer_same w u (Map code) e h = refl
    answer_same w u Distinct e h = refl
    answer_same w u (Group code) e h = refl
    answer_same w u Enter e h = refl
    answer_same w u Feedback e h = refl
    answer_same w u Leave e h = refl
    answer_same w u Output e h = refl
    answer_same w u (Fold code) e h = by (same_or_nothing w code u e h)
      where
        by : States w u → answer (epoch_from answers origin history.left u.epoch) w (Fold code) (came w u) ≡ answer (epoch_from answers origin H.left u.epoch) w (Fold code) (came w u)
        by (inl a) = ap (bag_of rec_cmp) (sends_alike code w (epoch_from answers origin history.left u.epoch).states (epoch_from answers origin H.left u.epoch).states (groups (came w u)) a)
        by (inr n) = ap (answer (epoch_from answers origin history.left u.epoch) w (Fold code)) n ∙ sym (ap (answer (epoch_from answers origin H.left u.epoch) w (Fold code)) n)

    sent_elsewhere' : (w : ℕ) (u : Timestamp) → is_there w u v t ≡ false → IsTime origin S.next S.plan w u
        → bag_of rec_cmp (sent_at (new ++ H.sent) w u) ≡ answer (epoch_from answers origin history.left u.epoch) w (kind_of S.plan w) (came_now w u)
    sent_elsewhere' w u n h =
        ap (bag_of rec_cmp) (sent_app w u new H.sent ∙ ap (λ l. l ++ sent_at H.sent w u) (sent_elsewhere w v u t sends n)) ∙ known.sent w u h ∙ sym (answer_same w u (kind_of S.plan w) refl h)
        ∙ ap (answer (epoch_from answers origin history.left u.epoch) w (kind_of S.plan w)) (sym (came_other below S.plan S.workers H.notified s v t is.1 is.2 w u n H.arrived))

    sent_here' : bag_of rec_cmp (sent_at (new ++ H.sent) v t) ≡ answer (epoch_from answers origin history.left t.epoch) v (kind_of S.plan v) (came_now v t)
    sent_here' =
        ap (bag_of rec_cmp) (sent_app v t new H.sent ∙ ap (λ l. l ++ sent_at H.sent v t) (sent_here v t sends)) ∙ bag_of-append rec_cmp below.recs sends (sent_at H.sent v t) ∙ ap (join rec_cmp sends) (known.sent v t is.0)
        ∙ sent_kind kind is.1 ∙ ap (λ ep. answer ep v kind (came_now v t)) (sym (same_epoch t.epoch (omega arith)))

    sent_now : (w : ℕ) (u : Timestamp) → IsTime origin S.next S.plan w u → bag_of rec_cmp (sent_at (new ++ H.sent) w u) ≡ answer (epoch_from answers origin history.left u.epoch) w (kind_of S.plan w) (came_now w u)
    sent_now w u h = by (is_there w u v t) refl
      where
        by : (b : Bool) → is_there w u v t ≡ b → bag_of rec_cmp (sent_at (new ++ H.sent) w u) ≡ answer (epoch_from answers origin history.left u.epoch) w (kind_of S.plan w) (came_now w u)
        by false e = sent_elsewhere' w u e h
        by true e =
            let p = there_is w v u t e in
            let P : ℕ → Timestamp → Type 0 = λ w u. bag_of rec_cmp (sent_at (new ++ H.sent) w u) ≡ answer (epoch_from answers origin history.left u.epoch) w (kind_of S.plan w) (came_now w u) in
            subst (λ w. P w u) p.0 (subst (λ u. P v u) p.1 sent_here')

    -- WHAT FOLDS LEFT
    abbrev at_start : ℕ → Timestamp
    at_start e = record { epoch = e; turns = [] }

    abbrev LeftAt : ℕ → ℕ → ℕ → Type 0
    LeftAt w code e = filter (is_left_at e w) history.left ≡ map (left_by (epoch_from answers origin history.left e) code e w) (groups (came_now w (at_start e)))

    v_turns : (code : ℕ) → kind_of S.plan v ≡ Fold code → t.turns ≡ []
    v_turns code k = empty_turns t.turns (subst (λ l. AreBelow t.turns (bounds l)) (facts.folds v code k) is.0.2)

    left_elsewhere : (w code e : ℕ) → kind_of S.plan w ≡ Fold code → origin.first ≤ e → e < S.next → is_there w (at_start e) v t ≡ false → LeftAt w code e
    left_elsewhere w code e k l h n =
        no_fresh (is_left_at e w) (λ x p q. by x p q (is_left_at e w x) refl) ∙ known.left w code e k l h ∙ sym (alike (same_or_nothing w code (at_start e) k (l, h, subst (λ l. AreBelow [] (bounds l)) (sym (facts.folds w code k)) tt)))
        ∙ ap (λ l. map (left_by (epoch_from answers origin history.left e) code e w) (groups l)) (sym (came_other below S.plan S.workers H.notified s v t is.1 is.2 w (at_start e) n H.arrived))
      where
        both : (a b : Bool) → (a && b) ≡ true → (a ≡ true) × (b ≡ true)
        both true b e = (refl, e)
        both false b e = cc

        by : (x : StateLeft) → x.epoch ≡ t.epoch → x.vertex ≡ v → (b : Bool) → is_left_at e w x ≡ b → is_left_at e w x ≡ false
        by x p q false f = f
        by x p q true f =
            let g = both (x.epoch == e) (x.vertex == w) f in
            let same_v : v ≡ w = sym q ∙ eqb-true x.vertex w g.1 in
            let same_e : t.epoch ≡ e = sym p ∙ eqb-true x.epoch e g.0 in
            let same_t : at_start e ≡ t = λ i. record { epoch = sym same_e i; turns = sym (v_turns code (ap (kind_of S.plan) same_v ∙ k)) i } in
            let no : true ≡ false = sym (there_itself v t) ∙ (λ i. is_there (same_v i) (sym same_t i) v t) ∙ n in cc

        alike : States w (at_start e) → map (left_by (epoch_from answers origin history.left e) code e w) (groups (came w (at_start e))) ≡ map (left_by (epoch_from answers origin H.left e) code e w) (groups (came w (at_start e)))
        alike (inl a) = leaves_alike code w e (epoch_from answers origin history.left e).states (epoch_from answers origin H.left e).states (groups (came w (at_start e))) a
        alike (inr z) = ap (λ l. map (left_by (epoch_from answers origin history.left e) code e w) (groups l)) z ∙ sym (ap (λ l. map (left_by (epoch_from answers origin H.left e) code e w) (groups l)) z)

    left_here : (code : ℕ) → kind_of S.plan v ≡ Fold code → LeftAt v code t.epoch
    left_here code k =
        let start : at_start t.epoch ≡ t = λ i. record { epoch = t.epoch; turns = sym (v_turns code k) i } in
        let h : List Arrival → List StateLeft = λ l. map (left_by now code t.epoch v) (groups l) in
        let single : (l : List Arrival) → flat_map (λ g. left_by now code t.epoch v g ∷ []) (groups l) ≡ h l = λ l. flat_map_single (left_by now code t.epoch v) (groups l) in
        let bag : (l : List Arrival) → bag_of left_cmp (flat_map (λ g. left_by now code t.epoch v g ∷ []) (groups l)) ≡ h l = λ l. ap (bag_of left_cmp) (single l) ∙ left_is_bag now code t.epoch v l in
        left_filter (is_left_at t.epoch v)
        ∙ (λ i. join left_cmp ((filter_all (is_left_at t.epoch v) fresh (all_weaken (λ (x : StateLeft). (x.epoch ≡ t.epoch) × (x.vertex ≡ v)) (λ x. is_left_at t.epoch v x ≡ true) (λ x h. λ i. (ap (λ n. n == t.epoch) h.0 ∙ eqb-same below t.epoch) i && (ap (λ n. n == v) h.1 ∙ eqb-same below v) i) fresh fresh_at)
        ∙ ap (λ k. leaves answers k t.epoch v items) k ∙ leaves_is code) i) ((known.left v code t.epoch k is.0.0 is.0.1 ∙ ap (λ u. map (left_by now code t.epoch v) (groups (came v u))) start) i))
        ∙ (λ i. join left_cmp (sym (left_is_bag now code t.epoch v shard_items) i) (sym (bag (came v t)) i))
        ∙ ap (λ l. join left_cmp (bag_of left_cmp l) (bag_of left_cmp (flat_map (λ g. left_by now code t.epoch v g ∷ []) (groups (came v t))))) (sym (single shard_items))
        ∙ sym (answered_split below S.plan S.workers H.notified s v t is.1 is.2 H.arrived left_cmp below.left (λ g. left_by now code t.epoch v g ∷ []))
        ∙ bag (came_now v t) ∙ (λ i. map (left_by (sym (same_epoch t.epoch (omega arith)) i) code t.epoch v) (groups (came_now v (sym start i))))

    left_now : (w code e : ℕ) → kind_of S.plan w ≡ Fold code → origin.first ≤ e → e < S.next → LeftAt w code e
    left_now w code e k l h = by (is_there w (at_start e) v t) refl
      where
        by : (b : Bool) → is_there w (at_start e) v t ≡ b → LeftAt w code e
        by false f = left_elsewhere w code e k l h f
        by true f =
            let p = there_is w v (at_start e) t f in
            let q : t.epoch ≡ e = ap (λ (x : Timestamp). x.epoch) p.1 in
            subst (λ w. LeftAt w code e) p.0 (subst (λ e. LeftAt v code e) q (left_here code (ap (kind_of S.plan) p.0 ∙ k)))

    folds_fresh : (k : Kind) → kind_of S.plan v ≡ k → AllByRecursion (λ (x : StateLeft). (is_fold (kind_of S.plan x.vertex) ≡ true) × (origin.first ≤ x.epoch) × (x.epoch < S.next)) (leaves answers k t.epoch v items)
    folds_fresh Input e = tt
    folds_fresh (Map code) e = tt
    folds_fresh Distinct e = tt
    folds_fresh (Group code) e = tt
    folds_fresh Enter e = tt
    folds_fresh Feedback e = tt
    folds_fresh Leave e = tt
    folds_fresh Output e = tt
    folds_fresh (Fold code) e = all_map (λ (x : StateLeft). (is_fold (kind_of S.plan x.vertex) ≡ true) × (origin.first ≤ x.epoch) × (x.epoch < S.next)) _ items (all_everywhere (λ (g : KeyItems). (is_fold (kind_of S.plan v) ≡ true) × (origin.first ≤ t.epoch) × (t.epoch < S.next)) (λ g. (ap is_fold e, is.0.0, is.0.1)) items)

    new_times : AllByRecursion (λ (x : Stamped). IsTime origin S.next S.plan x.vertex x.time) new
    new_times = all_map (λ (x : Stamped). IsTime origin S.next S.plan x.vertex x.time) (λ r. record { vertex = v; time = t; rec = r }) sends (all_everywhere (λ (r : Rec). IsTime origin S.next S.plan v t) (λ r. is.0) sends)

    notified_answered : AreAnswered answers origin after history
    notified_answered = record {
      sent_times = all_app (λ (x : Stamped). IsTime origin S.next S.plan x.vertex x.time) new H.sent new_times known.sent_times;
      message_times = all_join message_cmp (λ (c : Message). IsTime origin S.next S.plan c.vertex c.time) (posts S.plan new) S.messages (posts_times S.plan facts origin S.next new new_times) known.message_times;
      arrived_times = known.arrived_times;
      sent = sent_now;
      left = left_now;
      folds_left = all_join left_cmp (λ (x : StateLeft). (is_fold (kind_of S.plan x.vertex) ≡ true) × (origin.first ≤ x.epoch) × (x.epoch < S.next)) fresh H.left (folds_fresh kind refl) known.folds_left;
    }

    -- WHAT IS ACTIVE
    active_after : (P : Stamp → Type 0)
        → ((e : Edge) (later : Timestamp) (r : Rec) → IsFound S.plan e × LeadsAway S.plan e → e.source ≡ v → later ≡ sent_by (kind_at S.plan e.source) t → P (stamp_at v t) → P (stamp_of_message S.plan (on_edge later r e)))
        → AllByRecursion P (active S) → AllByRecursion P (active after)
    active_after P post h =
        let all = from_active below S P h in
        let here = all_has below (λ a. P (stamp_of_asked a)) it S.asked all.1 asked in
        to_active below after P (
          all_join message_cmp (λ c. P (stamp_of_message S.plan c)) (posts S.plan new) S.messages
              (all_posts_of below S.plan (λ e. IsFound S.plan e × LeadsAway S.plan e) (all_both (IsFound S.plan) (LeadsAway S.plan) (edges S.plan) facts.found facts.away) (λ c. P (stamp_of_message S.plan c)) v t (λ e later r f s w. post e later r f s w here) sends) all.0,
          all_weaken (λ a. P (stamp_of_asked a) × (not (is_eq (notification_cmp it a)) ≡ true)) (λ a. P (stamp_of_asked a)) (λ a k. k.0) (filter (λ b. not (is_eq (notification_cmp it b))) S.asked) (all_filter (λ a. P (stamp_of_asked a)) (λ b. not (is_eq (notification_cmp it b))) S.asked all.1),
          all.2,
        )

    sent_same : (o : Option Kind) → is_notified (kind_or o) ≡ true → sent_by o t ≡ t
    sent_same None e = refl
    sent_same (Some Input) e = refl
    sent_same (Some (Map code)) e = refl
    sent_same (Some Distinct) e = refl
    sent_same (Some (Group code)) e = refl
    sent_same (Some (Fold code)) e = refl
    sent_same (Some Enter) e = cc
    sent_same (Some Feedback) e = cc
    sent_same (Some Leave) e = cc
    sent_same (Some Output) e = refl

    pub stays_free : (w : ℕ) (u : Timestamp) → IsFree S (stamp_at w u) → IsFree after (stamp_at w u)
    stays_free w u f =
        active_after (λ q. ((q ≡ stamp_at w u) → ⊥) → Could S.plan q (stamp_at w u) → ⊥) (λ e later r known_e source when was ne k. by e later known_e source when was k (is_there w u v t) refl) f
      where
        by : (e : Edge) (later : Timestamp) → IsFound S.plan e × LeadsAway S.plan e → e.source ≡ v → later ≡ sent_by (kind_at S.plan e.source) t → (((stamp_at v t ≡ stamp_at w u) → ⊥) → Could S.plan (stamp_at v t) (stamp_at w u) → ⊥)
            → Could S.plan (record { time = later; place = places.Edge (edge_at S.plan e.reader e.port) }) (stamp_at w u) → (b : Bool) → is_there w u v t ≡ b → ⊥
        by e later ks source when was k false n =
            was (λ same. let vertex_same : v ≡ w = vertex_of v w (ap (λ (q : Stamp). q.place) same) in
            let time_same : t ≡ u = ap (λ (q : Stamp). q.time) same in
            let no : true ≡ false = sym (there_itself v t) ∙ (λ i. is_there (vertex_same i) (time_same i) v t) ∙ n in cc)
            (subst (λ x. Could S.plan (stamp_at x t) (stamp_at w u)) source (could_from_vertex S.plan e later t ks.0 when (stamp_at w u) k))
          where
            vertex_of : (x y : ℕ) → places.Vertex x ≡ places.Vertex y → x ≡ y
            vertex_of x y p = ap (λ (q : Place). elim q [ places.Vertex z ↦ z | places.Edge z ↦ x ]) p
        by e later ks source when was k true n =
            let p = there_is w v u t n in
            let groups_there : is_notified (kind_of S.plan e.source) ≡ true = ap (λ x. is_notified (kind_of S.plan x)) source ∙ is.1 in
            let then : later ≡ t = when ∙ sent_same (kind_at S.plan e.source) groups_there in
            ks.1 t (subst (λ x. InTurn S.plan x t) (sym source) is.0.2) groups_there
            (subst (λ x. Could S.plan (record { time = x; place = places.Edge (edge_at S.plan e.reader e.port) }) (stamp_at e.source t)) then
            (subst (λ x. Could S.plan (record { time = later; place = places.Edge (edge_at S.plan e.reader e.port) }) (stamp_at x t)) (sym (source ∙ p.0))
            (subst (λ x. Could S.plan (record { time = later; place = places.Edge (edge_at S.plan e.reader e.port) }) (stamp_at w x)) (sym p.1) k)))

    pub notified_runs : Running answers origin (notified answers S it (kind_of S.plan v) (to_notify S s v t)) (also_notified answers S H it (to_notify S s v t))
    notified_runs = record {
      told = notified_told;
      answered = notified_answered;
      on_edges = all_join message_cmp (IsOnEdge S.plan) (posts S.plan new) S.messages (all_posts below S.plan facts (IsOnEdge S.plan) v t (λ e later r f s w. (e, f, refl)) sends) runs.on_edges;
      messages_bag = join-IsBag message_cmp below.messages (posts S.plan new) S.messages runs.messages_bag;
      later = active_after (λ p. (S.base < p.time.epoch) × (S.collected < p.time.epoch))
          (λ e later r f s when was. subst (λ n. (S.base < n) × (S.collected < n)) (sym (ap (λ (x : Timestamp). x.epoch) when ∙ sent_by-epoch (kind_at S.plan e.source) t)) was) runs.later;
      settled = (stays_free v t free, all_weaken (λ a. IsFree S (stamp_of_asked a)) (λ a. IsFree after (stamp_of_asked a)) (λ a f. stays_free a.vertex a.time f) H.notified runs.settled);
      notified_times = (is.0, runs.notified_times);
      notified_once = (is.2, runs.notified_once);
      notified_asked = (is.3, runs.notified_asked);
    }
