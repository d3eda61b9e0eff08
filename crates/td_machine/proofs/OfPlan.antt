-- Each active pointstamp is of the plan.
use Rattle.std.proofs.Common.{◌≡◌, ℕ, zero, suc, ◌+◌, ◌<◌, Bool, true, false, List, [], ◌∷◌, length, map, filter, refl, ap, sym, ◌∙◌, subst}
use Rattle.std.specs.Prelude.{Option, Some, None, not, ◌||◌}
use Rattle.std.specs.List.{AllByRecursion, slice_get}
use Rattle.std.specs.Ordering.{is_eq}
use Rattle.std.proofs.Math.Nat.{mod-lt}
use Rattle.std.proofs.lemmas.Cmp.{tied_itself}
use Rattle.std.proofs.lemmas.List.{length-map}
use Rattle.std.proofs.lemmas.Option.{slice_get_within}
use Rattle.td_stamp.specs.Bag.{has}
use Rattle.td_plan.specs.declared.vertex.Kind.{Kind}
use Rattle.td_plan.specs.declared.vertex.Loop.{Loop}
use Rattle.td_plan.specs.Lines.{Line}
use Rattle.td_plan.specs.Blocks.{PlacedVertex, vertices, edge_at, bounds, kind_at, reading_loops_at, read_loops_at}
use Rattle.td_plan.specs.Faults.{IsPlan, is_input}
use Rattle.td_plan.specs.Laid.{AreLaid}
use Rattle.td_plan.specs.Tree.{Nodes, tree_of, size, placed_in}
use Rattle.td_plan.specs.Tree.Nodes.{done, node, block}
use Rattle.td_calls.specs.Answers.{Answers}
use Rattle.td_calls.specs.Callbacks.{is_notified}
use Rattle.td_reach.specs.Paths.{IsOf, HasDepth}
use Rattle.td_machine.specs.declared.records.Message.{Message}
use Rattle.td_machine.specs.declared.records.Notification.{Notification}
use Rattle.td_machine.specs.State.{HallState, notification_cmp, asked_of, shard_of_key}
use Rattle.td_machine.specs.Active.{kind_of, kind_or, inputs_of, active, stamp_of_message, stamp_of_asked, stamp_of_input, stamps_of_inputs}
use Rattle.td_machine.specs.Reached.{IsReached}
use Rattle.td_machine.proofs.History.{Origin, History, Invariant, IsTime, IsOnEdge, has_answer}
use Rattle.td_machine.proofs.Orders.{notification_total}
use Rattle.td_machine.proofs.Lists.{all_app, all_at, all_both, all_map, all_weaken, all_filter}
use Rattle.td_machine.proofs.Delivered.{all_has, to_active}
use Rattle.td_machine.proofs.Lawful.{plan_facts, input_kind}
use Rattle.td_machine.proofs.Away.{as_many, grouping_within}
use Rattle.td_machine.proofs.InOrder.{origin_of, history_of}
use Rattle.td_machine.specs.Below.{Below}

-- a notification is in the list in which it stands
asked_itself : (a : Notification) → is_eq (notification_cmp a a) ≡ true
asked_itself a = ap is_eq (tied_itself notification_total a)

or_true : (b : Bool) → (b || true) ≡ true
or_true true = refl
or_true false = refl

pub has_at : (xs : List Notification) (i : ℕ) (a : Notification) → slice_get xs i ≡ Some a → has notification_cmp a xs ≡ true
has_at [] i a h = absurd (cc)
has_at (x ∷ xs) zero a h = let same : x ≡ a = cc in ap (λ y. is_eq (notification_cmp a y) || has notification_cmp a xs) same ∙ ap (λ b. b || has notification_cmp a xs) (asked_itself a)
has_at (x ∷ xs) (suc i) a h = ap (λ b. is_eq (notification_cmp a x) || b) (has_at xs i a h) ∙ or_true (is_eq (notification_cmp a x))

waits_for : (b c : Bool) → not (not b || c) ≡ true → b ≡ true
waits_for true c e = refl
waits_for false c e = absurd (cc)

-- the look-up by its number tells a vertex's kind
abbrev IsKindThere : List Line → PlacedVertex → Type 0
IsKindThere plan p = kind_at plan p.vertex.number ≡ Some p.vertex.kind

kinds_there : (plan : List Line) (nodes : Nodes) (loops : List Loop) (n : ℕ) (own : List ℕ) → AreLaid plan own nodes → AllByRecursion (IsKindThere plan) (placed_in loops n nodes)
kinds_there plan done loops n own h = tt
kinds_there plan (node v rest) loops n own h = (h.0.kind, kinds_there plan rest loops (n + 1) own h.1)
kinds_there plan (block b body rest) loops n own h =
    all_app (IsKindThere plan) (placed_in (record { first = n; bound = b } ∷ loops) n body) (placed_in loops (n + size body) rest)
    (kinds_there plan body (record { first = n; bound = b } ∷ loops) n (b ∷ own) h.0) (kinds_there plan rest loops (n + size body) own h.1)

-- a number that has a kind has a vertex
kind_within : (plan : List Line) (v : ℕ) (kind : Kind) → kind_at plan v ≡ Some kind → v < length (vertices plan)
kind_within plan v kind h = by (slice_get (vertices plan) v) refl
  where
    by : (o : Option PlacedVertex) → slice_get (vertices plan) v ≡ o → v < length (vertices plan)
    by None e = absurd (let none : None ≡ Some kind = sym (ap (λ (x : Option PlacedVertex). elim x [ None ↦ None | Some p ↦ Some p.vertex.kind ]) e) ∙ h in cc)
    by (Some p) e = slice_get_within (vertices plan) v p e

module _ (below : Below) where
  module _ (plan : List Line) (lawful : IsPlan plan) where
    -- INPUTS read on the outermost block
    pub inputs_of_plan : (next : ℕ) → AllByRecursion (λ v. IsOf plan (stamp_of_input next v)) (inputs_of plan)
    inputs_of_plan next = all_map (λ v. IsOf plan (stamp_of_input next v)) (λ (p : PlacedVertex). p.vertex.number) (filter (λ (p : PlacedVertex). is_input p.vertex.kind) (vertices plan))
        (all_weaken (λ (p : PlacedVertex). IsKindThere plan p × (is_input p.vertex.kind ≡ true)) (λ p. IsOf plan (stamp_of_input next p.vertex.number)) one (filter (λ (p : PlacedVertex). is_input p.vertex.kind) (vertices plan))
        (all_filter (IsKindThere plan) (λ (p : PlacedVertex). is_input p.vertex.kind) (vertices plan)
        (subst (AllByRecursion (IsKindThere plan)) (below.in_order plan lawful) (kinds_there plan (tree_of plan) [] 0 [] (below.laid plan lawful)))))
      where
        one : (p : PlacedVertex) → IsKindThere plan p × (is_input p.vertex.kind ≡ true) → IsOf plan (stamp_of_input next p.vertex.number)
        one p h = (
          kind_within plan p.vertex.number p.vertex.kind h.0,
          sym (ap length ((plan_facts below plan lawful).inputs p.vertex.number (ap kind_or h.0 ∙ input_kind below p.vertex.kind h.1))),
        )

    inputs_active : (next : ℕ) (closed : Bool) → AllByRecursion (IsOf plan) (stamps_of_inputs plan next closed)
    inputs_active next true = tt
    inputs_active next false = all_map (IsOf plan) (stamp_of_input next) (inputs_of plan) (inputs_of_plan next)

    -- MESSAGES are on an edge, whose source is read where its reader reads
    message_of_plan : (origin : Origin) (next : ℕ) (c : Message) → IsOnEdge plan c → IsTime origin next plan c.vertex c.time → IsOf plan (stamp_of_message plan c)
    message_of_plan origin next c on time = (on.0, on.1, subst (λ o. HasDepth plan o c.time) (sym (there ∙ ap (λ v. Some (reading_loops_at plan v)) on.2)) many)
      where
        there : read_loops_at plan on.0.source ≡ Some (reading_loops_at plan on.0.reader)
        there = below.read_there plan lawful on.0.reader on.0.port on.0.source (below.edge_sources plan lawful (edge_at plan c.vertex c.port) on.0 on.1)

        many : length c.time.turns ≡ length (reading_loops_at plan c.vertex)
        many = as_many below c.time.turns (bounds (reading_loops_at plan c.vertex)) time.2 ∙ length-map (reading_loops_at plan c.vertex) (λ l. l.bound)

  -- NOTIFICATIONS are asked for by what came to groups and folds
  module _ (answers : Answers) (origin : Origin) (S : HallState) (H : History) (inv : Invariant answers origin S H) where
    pub own_shard : (key : ℕ) → shard_of_key S.workers key < S.workers
    own_shard key = mod-lt key inv.stands.workers

    -- each notification that is asked is of the plan, in a released epoch
    abbrev pub IsGood : Notification → Type 0
    IsGood a = IsOf S.plan (stamp_of_asked a) × (a.time.epoch < S.next) × (a.shard < S.workers)

    abbrev waits : Message → Bool
    waits c = not (has_answer S.plan S.workers H.notified c)

    pub good : (a : Notification) → has notification_cmp a S.asked ≡ true → IsGood a
    good a h = all_has below IsGood a (map (asked_of S.workers) (filter waits H.arrived)) (all_map IsGood (asked_of S.workers) (filter waits H.arrived) (all_weaken (λ c. IsTime origin S.next S.plan c.vertex c.time × (waits c ≡ true)) (λ c. IsGood (asked_of S.workers c)) of_one (filter waits H.arrived)
        (all_filter (λ c. IsTime origin S.next S.plan c.vertex c.time) waits H.arrived inv.running.answered.arrived_times))) (sym (inv.running.told.asked a) ∙ h)
      where
        of_one : (c : Message) → IsTime origin S.next S.plan c.vertex c.time × (waits c ≡ true) → IsGood (asked_of S.workers c)
        of_one c h = (
          (
            grouping_within below S.plan c.vertex (waits_for (is_notified (kind_of S.plan c.vertex)) (has notification_cmp (asked_of S.workers c) H.notified) h.1),
            as_many below c.time.turns (bounds (reading_loops_at S.plan c.vertex)) h.0.2 ∙ length-map (reading_loops_at S.plan c.vertex) (λ l. l.bound),
          ),
          h.0.1,
          own_shard c.rec.key,
        )

    all_of_plan : AllByRecursion (IsOf S.plan) (active S)
    all_of_plan = to_active below S (IsOf S.plan) (
      all_weaken (λ c. IsOnEdge S.plan c × IsTime origin S.next S.plan c.vertex c.time) (λ c. IsOf S.plan (stamp_of_message S.plan c)) (λ c h. message_of_plan S.plan inv.stands.plan origin S.next c h.0 h.1) S.messages
          (all_both (IsOnEdge S.plan) (λ c. IsTime origin S.next S.plan c.vertex c.time) S.messages inv.running.on_edges inv.running.answered.message_times),
      all_at (λ a. IsOf S.plan (stamp_of_asked a)) S.asked (λ i a at. (good a (has_at S.asked i a at)).0),
      inputs_active S.plan inv.stands.plan S.next S.closed,
    )

  pub active_of_plan : (answers : Answers) (S : HallState) → IsReached answers S → AllByRecursion (IsOf S.plan) (active S)
  active_of_plan answers S r = let h = history_of below answers S r in all_of_plan answers (origin_of below answers S r) S h.0 h.1
