-- What comes with a step is of the plan, and where vertices can turn times.
use Rattle.std.proofs.Common.{◌≡◌, ℕ, zero, suc, ◌+◌, ◌<◌, ◌≤◌, Bool, true, false, List, [], ◌∷◌, ◌++◌, length, map, flat_map, replicate, refl, ap, sym, ◌∙◌, subst, arith}
use Rattle.std.specs.Prelude.{Option, Some, None, Contains, find, fold, is_none, drop, nat_le, nat_lt, not, ◌&&◌, ◌==◌, if◌then◌else◌, unwrap_or}
use Rattle.std.specs.List.{AllByRecursion, slice_get}
use Rattle.std.proofs.lemmas.Bool.{eqb-true, leb-false}
use Rattle.std.proofs.lemmas.List.{length-map}
use Rattle.std.proofs.lemmas.Option.{slice_get_within}
use Rattle.td_stamp.specs.declared.values.Rec.{Rec}
use Rattle.td_stamp.specs.declared.values.Entry.{Entry}
use Rattle.td_stamp.specs.Time.{Timestamp, depth, outer_turns, raised, again}
use Rattle.td_stamp.specs.Bag.{join}
use Rattle.td_plan.specs.declared.vertex.Kind.{Kind}
use Rattle.td_plan.specs.declared.vertex.Kind.TheVariants.{Enter, Feedback, Leave, Output}
use Rattle.td_plan.specs.declared.vertex.Edge.{Edge}
use Rattle.td_plan.specs.declared.vertex.Loop.{Loop}
use Rattle.td_plan.specs.Lines.{Line}
use Rattle.td_plan.specs.Lines.Line.{vertex, loop, end}
use Rattle.td_plan.specs.Blocks.{PlacedVertex, Scope, no_scope, scope_after, vertices, edges, edge_at, bounds, reading_loops, read_loops, reading_loops_at, read_loops_at}
use Rattle.td_plan.specs.Faults.{IsPlan, fault_of, has_fault, faults, is_faultless, is_in_loop, is_input}
use Rattle.td_plan.specs.Inputs.{is_input_of}
use Rattle.td_plan.specs.Standing.{may_stand, IsBounded}
use Rattle.td_calls.specs.Answers.{Answers}
use Rattle.td_calls.specs.Callbacks.{is_notified}
use Rattle.td_reach.specs.declared.stamp.Stamp.{Stamp}
use Rattle.td_reach.specs.Paths.{IsOf, HasDepth}
use Rattle.td_machine.specs.declared.records.Message.{Message}
use Rattle.td_machine.specs.State.{HallState, Task, Content, message_cmp}
use Rattle.td_machine.specs.State.Content.{messages, notification}
use Rattle.td_machine.specs.Active.{kind_of, kind_or, bound_of, inputs_of, stamp_at, stamp_of_message, stamp_of_asked, stamp_of_input}
use Rattle.td_machine.specs.Steps.{Event, Answer, Step, Gives, IsContent, accepts, coming, entered, posts, posted, stamped, edges_from, sending_times, again_below, asked_at, is_asked, notified_sends}
use Rattle.td_machine.specs.Steps.Event.{release, taking, give, collect, cut, cut_at, close}
use Rattle.td_machine.specs.Steps.Answer.{has_released}
use Rattle.td_machine.specs.Steps.Gives.{gives, is_stranger}
use Rattle.td_machine.specs.AtOnce.{added_at_once}
use Rattle.td_machine.specs.ByEdge.{stamp_on, times_from, stamps_by_edge}
use Rattle.td_machine.specs.InOrder.{StillThere}
use Rattle.td_machine.specs.Moves.{stamps_of, newly_asked, come_given, come_by}
use Rattle.td_machine.specs.Reached.{IsReached}
use Rattle.td_machine.specs.Sends.{CanTurn, TurnsOfPlan, SentOfPlan, SendsOfPlan, TasksOfPlan, ComeOfPlan}
use Rattle.td_machine.proofs.History.{Origin, History, Invariant, IsTime, IsOnEdge}
use Rattle.td_machine.proofs.Lists.{all_app, all_at, all_both, all_map, all_flat, all_weaken, all_filter, all_everywhere, one_of}
use Rattle.td_machine.proofs.Bags.{from_join}
use Rattle.td_machine.proofs.Times.{all_posted}
use Rattle.td_machine.proofs.Delivered.{ActiveHold, all_has, from_active}
use Rattle.td_machine.proofs.Away.{as_many}
use Rattle.td_machine.proofs.PlanFacts.{PlanFacts}
use Rattle.td_machine.proofs.Lawful.{plan_facts}
use Rattle.td_machine.proofs.OfPlan.{inputs_of_plan, good}
use Rattle.td_machine.proofs.Orders.{and_true}
use Rattle.td_machine.proofs.Played.{at_index}
use Rattle.td_machine.proofs.InOrder.{origin_of, history_of, tasks_in_order}
use Rattle.td_machine.specs.Below.{Below}

-- AT MOST THREE LOOPS are open in a plan's lines, so round each vertex
none_found : {X : Type 0} (p : X → Bool) (xs : List X) → is_none (find p xs) ≡ true → AllByRecursion (λ x. p x ≡ false) xs
none_found p [] h = tt
none_found p (x ∷ xs) h = by (p x) refl (none_found p xs)
  where
    by : (b : Bool) → p x ≡ b → (is_none (find p xs) ≡ true → AllByRecursion (λ x. p x ≡ false) xs) → AllByRecursion (λ x. p x ≡ false) (x ∷ xs)
    by true e rest = absurd (let no : is_none (find p (x ∷ xs)) ≡ false = rw (e, find) refl in let f : true ≡ false = sym h ∙ no in cc)
    by false e rest = (e, rest (sym (let same : find p (x ∷ xs) ≡ find p xs = rw (e, find) refl in ap is_none same) ∙ h))

abbrev AreFew : List Loop → Type 0
AreFew loops = length loops ≤ 3

abbrev HasFew : Scope → Type 0
HasFew scope = AreFew scope.loops × AllByRecursion (λ p. AreFew p.loops) scope.vertices

fewer : (loops : List Loop) → AreFew loops → AreFew (drop 1 loops)
fewer [] h = h
fewer (l ∷ outer) h = omega (arith, h)

few_after : (scope : Scope) (line : Line) → is_none (fault_of scope line) ≡ true → HasFew scope → HasFew (scope_after scope line)
few_after scope (vertex v) e h = (h.0, all_app (λ (p : PlacedVertex). AreFew p.loops) scope.vertices (record { vertex = v; loops = scope.loops } ∷ []) h.1 (h.0, tt))
few_after scope (loop n) e h =
    let room : nat_le 3 (length scope.loops) ≡ false = (none_found (has_fault scope (loop n)) faults e).1.1.1.1.1.1.1.0 in
    let fits : length scope.loops < 3 = leb-false 3 (length scope.loops) room in
    (omega (arith, fits), h.1)
few_after scope end e h = (fewer scope.loops h.0, h.1)

few_in : (lines : List Line) (scope : Scope) → is_faultless scope lines ≡ true → HasFew scope → HasFew (fold scope_after scope lines)
few_in [] scope e h = h
few_in (line ∷ lines) scope e h =
    let both = and_true (is_none (fault_of scope line)) (is_faultless (scope_after scope line) lines) e in
    few_in lines (scope_after scope line) both.1 (few_after scope line both.0 h)

few_loops : (plan : List Line) → IsPlan plan → (v : ℕ) (p : PlacedVertex) → slice_get (vertices plan) v ≡ Some p → AreFew p.loops
few_loops plan lawful v p at = one_of (λ (p : PlacedVertex). AreFew p.loops) (vertices plan) (few_in plan no_scope lawful.faultless (omega arith, tt)).1 v p at

-- A VERTEX CAN TURN the times at which it reads
can_turn : (kind : Kind) (loops : List Loop) (t : Timestamp) → may_stand (is_in_loop loops) kind ≡ true → AllByRecursion IsBounded loops → AreFew loops
    → depth t ≡ length (reading_loops kind loops) → CanTurn kind (unwrap_or (slice_get (bounds loops) 0) 0) t
can_turn Enter [] t stands bounded few h = absurd (cc)
can_turn Enter (l ∷ outer) t stands bounded few h = omega (arith, few, h)
can_turn Leave [] t stands bounded few h = absurd (cc)
can_turn Leave (l ∷ outer) t stands bounded few h = omega (arith, h)
can_turn Feedback [] t stands bounded few h = absurd (cc)
can_turn Feedback (l ∷ outer) t stands bounded few h = (omega (arith, h), bounded.0.0, bounded.0.1)
can_turn _ loops t stands bounded few h = tt

-- AND WHAT IT TURNS THEM INTO is as deep as where it is read
once_more : (bound : ℕ) (t : Timestamp) (turns : List ℕ) (many : ℕ) → t.turns ≡ turns → length turns ≡ many → AllByRecursion (λ later. depth later ≡ many) (again_below bound t turns)
once_more bound t [] many e h = tt
once_more bound t (k ∷ outer) many e h = by (nat_lt (suc k) bound)
  where
    by : (b : Bool) → AllByRecursion (λ (later : Timestamp). depth later ≡ many) (if b then again t ∷ [] else [])
    by true = (ap (λ ts. length (raised 1 ts)) e ∙ h, tt)
    by false = tt

one_fewer : (turns : List ℕ) (many : ℕ) → length turns ≡ suc many → length (outer_turns turns) ≡ many
one_fewer [] many h = absurd (omega (arith, h))
one_fewer (k ∷ outer) many h = omega (arith, h)

sent_depth : (kind : Kind) (loops there : List Loop) (bound : ℕ) (t : Timestamp) → may_stand (is_in_loop loops) kind ≡ true → read_loops kind loops ≡ Some there
    → depth t ≡ length (reading_loops kind loops) → AllByRecursion (λ later. depth later ≡ length there) (sending_times kind bound t)
sent_depth Enter [] there bound t stands is h = absurd (cc)
sent_depth Enter (l ∷ outer) there bound t stands is h = let home : l ∷ outer ≡ there = cc in (ap suc h ∙ ap length home, tt)
sent_depth Leave [] there bound t stands is h = absurd (cc)
sent_depth Leave (l ∷ outer) there bound t stands is h = let home : outer ≡ there = cc in (one_fewer t.turns (length outer) h ∙ ap length home, tt)
sent_depth Feedback loops there bound t stands is h = let home : loops ≡ there = cc in once_more bound t t.turns (length there) refl (h ∙ ap length home)
sent_depth Output loops there bound t stands is h = absurd (cc)
sent_depth _ loops there bound t stands is h = let home : loops ≡ there = cc in (h ∙ ap length home, tt)

module _ (below : Below) where
  module _ (plan : List Line) (lawful : IsPlan plan) where
    -- what the look-ups of a vertex say
    kind_here : (v : ℕ) (p : PlacedVertex) → slice_get (vertices plan) v ≡ Some p → kind_of plan v ≡ p.vertex.kind
    kind_here v p at = ap (λ (o : Option PlacedVertex). kind_or (elim o [ None ↦ None | Some q ↦ Some q.vertex.kind ])) at

    bound_here : (v : ℕ) (p : PlacedVertex) → slice_get (vertices plan) v ≡ Some p → bound_of plan v ≡ unwrap_or (slice_get (bounds p.loops) 0) 0
    bound_here v p at = ap (λ (o : Option PlacedVertex). unwrap_or (slice_get (bounds (elim o [ None ↦ [] | Some q ↦ q.loops ])) 0) 0) at

    reads_here : (v : ℕ) (p : PlacedVertex) → slice_get (vertices plan) v ≡ Some p → reading_loops_at plan v ≡ reading_loops p.vertex.kind p.loops
    reads_here v p at = ap (λ (x : Option PlacedVertex). elim x [ None ↦ [] | Some p ↦ reading_loops p.vertex.kind p.loops ]) at

    read_here : (v : ℕ) (p : PlacedVertex) → slice_get (vertices plan) v ≡ Some p → read_loops_at plan v ≡ read_loops p.vertex.kind p.loops
    read_here v p at = ap (λ (x : Option PlacedVertex). elim x [ None ↦ None | Some p ↦ read_loops p.vertex.kind p.loops ]) at

    -- a number that is within the plan has a vertex
    placed_at : (xs : List PlacedVertex) (v : ℕ) → v < length xs → (p : PlacedVertex) × (slice_get xs v ≡ Some p)
    placed_at [] v l = absurd (omega (arith, l))
    placed_at (x ∷ xs) zero l = (x, refl)
    placed_at (x ∷ xs) (suc v) l = placed_at xs v (omega (arith, l))

    pub turns : (v : ℕ) (t : Timestamp) → IsOf plan (stamp_at v t) → CanTurn (kind_of plan v) (bound_of plan v) t
    turns v t h =
        let here = placed_at (vertices plan) v h.0 in
        let p : PlacedVertex = here.0 in
        let at = here.1 in
        subst (λ k. CanTurn k (bound_of plan v) t) (sym (kind_here v p at))
        (subst (λ b. CanTurn p.vertex.kind b t) (sym (bound_here v p at))
        (can_turn p.vertex.kind p.loops t (below.kinds_stand plan lawful v p at) (below.bounds_stand plan lawful v p at) (few_loops plan lawful v p at) (h.1 ∙ ap length (reads_here v p at))))

    -- WHAT A VERTEX SENDS: on an edge out of it
    abbrev IsOn : Edge → Timestamp → Type 0
    IsOn e later = IsOf plan (stamp_on plan later e)

    module _ (v : ℕ) (t : Timestamp) (own : IsOf plan (stamp_at v t)) where
      abbrev when : List Timestamp
      when = times_from plan v t

      on_each : (i : ℕ) (e : Edge) → slice_get (edges plan) i ≡ Some e → e.source ≡ v → AllByRecursion (IsOn e) when
      on_each i e at s =
          let here = placed_at (vertices plan) v own.0 in
          let p : PlacedVertex = here.0 in
          let there : List _ = reading_loops_at plan e.reader in
          let is : read_loops_at plan e.source ≡ Some there = below.read_there plan lawful e.reader e.port e.source (below.edge_sources plan lawful i e at) in
          let from : read_loops_at plan v ≡ Some there = ap (read_loops_at plan) (sym s) ∙ is in
          let found : slice_get (edges plan) (edge_at plan e.reader e.port) ≡ Some e = ap (slice_get (edges plan)) (below.edge_numbers plan lawful i e at) ∙ at in
          let deep : AllByRecursion (λ (later : Timestamp). depth later ≡ length there) (sending_times p.vertex.kind (bound_of plan v) t) =
          sent_depth p.vertex.kind p.loops there (bound_of plan v) t (below.kinds_stand plan lawful v p here.1) (sym (read_here v p here.1) ∙ from) (own.1 ∙ ap length (reads_here v p here.1)) in
          all_weaken (λ (later : Timestamp). depth later ≡ length there) (IsOn e) (λ later d. (e, found, subst (λ o. HasDepth plan o later) (sym is) d)) when
          (subst (λ k. AllByRecursion (λ (later : Timestamp). depth later ≡ length there) (sending_times k (bound_of plan v) t)) (sym (kind_here v p here.1)) deep)

      -- at all its times, on all its edges
      at_all : AllByRecursion (λ e. e.source ≡ v → AllByRecursion (IsOn e) when) (edges plan)
      at_all = all_at (λ e. e.source ≡ v → AllByRecursion (IsOn e) when) (edges plan) on_each

      at_out : AllByRecursion (λ e. AllByRecursion (IsOn e) when) (edges_from plan v)
      at_out = all_weaken (λ e. (e.source ≡ v → AllByRecursion (IsOn e) when) × ((e.source == v) ≡ true)) (λ e. AllByRecursion (IsOn e) when) (λ e k. k.0 (eqb-true e.source v k.1)) (edges_from plan v)
          (all_filter (λ e. e.source ≡ v → AllByRecursion (IsOn e) when) (λ e. e.source == v) (edges plan) at_all)

      so_often : (many : ℕ) (p : Stamp) → IsOf plan p → AllByRecursion (IsOf plan) (replicate many p)
      so_often zero p h = tt
      so_often (suc many) p h = (h, so_often many p h)

      by_time : (many : ℕ) (ts : List Timestamp) → AllByRecursion (λ e. AllByRecursion (IsOn e) ts) (edges_from plan v)
          → AllByRecursion (IsOf plan) (flat_map (λ later. flat_map (λ e. replicate many (stamp_on plan later e)) (edges_from plan v)) ts)
      by_time many [] h = tt
      by_time many (u ∷ us) h = all_app (IsOf plan) (flat_map (λ e. replicate many (stamp_on plan u e)) (edges_from plan v)) (flat_map (λ later. flat_map (λ e. replicate many (stamp_on plan later e)) (edges_from plan v)) us)
          (all_flat (IsOf plan) (λ e. replicate many (stamp_on plan u e)) (edges_from plan v)
          (all_weaken (λ e. AllByRecursion (IsOn e) (u ∷ us)) (λ e. AllByRecursion (IsOf plan) (replicate many (stamp_on plan u e))) (λ e k. so_often many (stamp_on plan u e) k.0) (edges_from plan v) h))
          (by_time many us (all_weaken (λ e. AllByRecursion (IsOn e) (u ∷ us)) (λ e. AllByRecursion (IsOn e) us) (λ e k. k.1) (edges_from plan v) h))

      pub sent_by_edge : (many : ℕ) → AllByRecursion (IsOf plan) (stamps_by_edge plan v t many)
      sent_by_edge many = by_time many when at_out

      -- a record that it sends
      posted_of_plan : (r : Rec) → AllByRecursion (λ c. IsOf plan (stamp_of_message plan c)) (posted plan (record { vertex = v; time = t; rec = r }))
      posted_of_plan r = all_posted plan (λ c. IsOf plan (stamp_of_message plan c)) (record { vertex = v; time = t; rec = r }) at_all

      pub posts_of_plan : (recs : List Rec) → AllByRecursion (IsOf plan) (stamps_of plan (posts plan (stamped v t recs)))
      posts_of_plan recs = all_map (IsOf plan) (stamp_of_message plan) (posts plan (stamped v t recs))
          (all_flat (λ c. IsOf plan (stamp_of_message plan c)) (posted plan) (stamped v t recs)
          (all_map (λ x. AllByRecursion (λ c. IsOf plan (stamp_of_message plan c)) (posted plan x)) (λ r. record { vertex = v; time = t; rec = r }) recs
          (all_everywhere (λ r. AllByRecursion (λ c. IsOf plan (stamp_of_message plan c)) (posted plan (record { vertex = v; time = t; rec = r }))) posted_of_plan recs)))

    -- A BATCH
    module _ (next : ℕ) where
      abbrev facts : PlanFacts plan
      facts = plan_facts below plan lawful

      entry_of_plan : (input : ℕ) → is_input_of plan input ≡ true → IsOf plan (stamp_of_input next input)
      entry_of_plan input h = by (slice_get (vertices plan) input) refl
        where
          by : (o : Option PlacedVertex) → slice_get (vertices plan) input ≡ o → IsOf plan (stamp_of_input next input)
          by None at = absurd (let no : false ≡ true = sym (ap (λ (x : Option PlacedVertex). elim x [ None ↦ false | Some q ↦ is_input q.vertex.kind ]) at) ∙ h in cc)
          by (Some p) at = (slice_get_within (vertices plan) input p at, sym (ap length (facts.inputs input (facts.accepted input h))))

      entries_of_plan : (batch : List Entry) → accepts plan batch ≡ true → AllByRecursion (λ c. IsOf plan (stamp_of_message plan c)) (posts plan (map (entered next) batch))
      entries_of_plan [] h = tt
      entries_of_plan (entry ∷ batch) h =
          let both = and_true (is_input_of plan entry.input) (accepts plan batch) h in
          all_app (λ c. IsOf plan (stamp_of_message plan c)) (posted plan (entered next entry)) (posts plan (map (entered next) batch))
          (posted_of_plan entry.input (record { epoch = next; turns = [] }) (entry_of_plan entry.input both.0) entry.rec) (entries_of_plan batch both.1)

      pub batch_of_plan : (batch : List Entry) → accepts plan batch ≡ true
          → AllByRecursion (IsOf plan) (stamps_of plan (posts plan (map (entered next) batch)) ++ map (stamp_of_input (next + 1)) (inputs_of plan))
      batch_of_plan batch h = all_app (IsOf plan) (stamps_of plan (posts plan (map (entered next) batch))) (map (stamp_of_input (next + 1)) (inputs_of plan))
          (all_map (IsOf plan) (stamp_of_message plan) (posts plan (map (entered next) batch)) (entries_of_plan batch h))
          (all_map (IsOf plan) (stamp_of_input (next + 1)) (inputs_of plan) (inputs_of_plan below plan lawful (next + 1)))

  -- A TASK that is out
  module _ (answers : Answers) (S : HallState) (r : IsReached answers S) where
    abbrev origin : Origin
    origin = origin_of below answers S r

    abbrev history : (H : History) × Invariant answers origin S H
    history = history_of below answers S r

    lawful : IsPlan S.plan
    lawful = history.1.stands.plan

    -- where a message comes
    reader_within : (c : Message) → IsOnEdge S.plan c → c.vertex < length (vertices S.plan)
    reader_within c on = by (slice_get (vertices S.plan) on.0.reader) refl
      where
        by : (o : Option PlacedVertex) → slice_get (vertices S.plan) on.0.reader ≡ o → c.vertex < length (vertices S.plan)
        by None at = absurd (
            let source = below.edge_sources S.plan lawful (edge_at S.plan c.vertex c.port) on.0 on.1 in
            let none : None ≡ Some on.0.source = sym (ap (λ (o : Option PlacedVertex). slice_get (elim o [ None ↦ [] | Some q ↦ q.vertex.sources ]) on.0.port) at) ∙ source in cc)
        by (Some p) at = subst (λ v. v < length (vertices S.plan)) on.2 (slice_get_within (vertices S.plan) on.0.reader p at)

    -- a vertex and a time of the plan, in a released epoch after the base
    abbrev IsThere : ℕ → Timestamp → Type 0
    IsThere v t = IsOf S.plan (stamp_at v t) × (S.base < t.epoch) × (t.epoch < S.next)

    arrives : (c : Message) → IsOnEdge S.plan c → IsTime origin S.next S.plan c.vertex c.time → S.base < c.time.epoch → IsThere c.vertex c.time
    arrives c on time later = (
      (reader_within c on, as_many below c.time.turns (bounds (reading_loops_at S.plan c.vertex)) time.2 ∙ length-map (reading_loops_at S.plan c.vertex) (λ l. l.bound)),
      later,
      time.1,
    )

    active_ones : ActiveHold below S (λ p. (S.base < p.time.epoch) × (S.collected < p.time.epoch))
    active_ones = from_active below S (λ p. (S.base < p.time.epoch) × (S.collected < p.time.epoch)) history.1.running.later

    arriving : AllByRecursion (λ c. IsThere c.vertex c.time) S.messages
    arriving =
        let On : Message → Type 0 = IsOnEdge S.plan in
        let Time : Message → Type 0 = λ c. IsTime origin S.next S.plan c.vertex c.time in
        let Later : Message → Type 0 = λ c. (S.base < c.time.epoch) × (S.collected < c.time.epoch) in
        all_weaken (λ c. (On c × Time c) × Later c) (λ c. IsThere c.vertex c.time) (λ c h. arrives c h.0.0 h.0.1 h.1.0) S.messages
        (all_both (λ c. On c × Time c) Later S.messages (all_both On Time S.messages history.1.running.on_edges history.1.running.answered.message_times) active_ones.0)

    first_there : (v port : ℕ) (t : Timestamp) (recs : List Rec) (rest : List Message) → 0 < length recs → S.messages ≡ join message_cmp (coming v port t recs) rest → IsThere v t
    first_there v port t [] rest some here = absurd (omega (arith, some))
    first_there v port t (r ∷ recs) rest some here = (from_join message_cmp (λ c. IsThere c.vertex c.time) (coming v port t (r ∷ recs)) rest (subst (AllByRecursion (λ c. IsThere c.vertex c.time)) here arriving)).0.0

    content_there : (s v : ℕ) (t : Timestamp) (content : Content) → IsContent S s v t content → IsThere v t
    content_there s v t (messages port recs) h = first_there v port t recs h.3.0 h.0 h.3.1
    content_there s v t (notification items) h =
        let good_one = good below answers origin S history.0 history.1 (asked_at S s v t) h.0 in
        (good_one.0, (all_has below (λ a. (S.base < a.time.epoch) × (S.collected < a.time.epoch)) (asked_at S s v t) S.asked active_ones.1 h.0).0, good_one.1)

    pub task_there : (task : Task) → Contains S.out task → IsThere task.vertex task.time
    task_there task out =
        let there = at_index below (StillThere S) S.out out.0 task (tasks_in_order below answers S r).there out.1 out.2 in
        content_there task.shard task.vertex task.time task.content there.2

    pub sends : (task : Task) → Contains S.out task → SendsOfPlan S task
    sends task out =
        let h = task_there task out in
        record { own = h.0; sent = sent_by_edge S.plan lawful task.vertex task.time h.0; after_base = h.1; released = h.2 }

    -- WHAT COMES
    asks_of_plan : (task : Task) → IsOf S.plan (stamp_at task.vertex task.time) → AllByRecursion (IsOf S.plan) (map stamp_of_asked (newly_asked S task))
    asks_of_plan task h = by (is_notified task.kind && not (is_asked S task.shard task.vertex task.time))
      where
        by : (b : Bool) → AllByRecursion (IsOf S.plan) (map stamp_of_asked (elim b [ true ↦ asked_at S task.shard task.vertex task.time ∷ [] | false ↦ [] ]))
        by true = (h, tt)
        by false = tt

    given_of_plan : (task : Task) (content : Content) → IsOf S.plan (stamp_at task.vertex task.time) → AllByRecursion (IsOf S.plan) (come_given answers S task content)
    given_of_plan task (messages port recs) h =
        let sent : List Rec = (added_at_once answers S.seen task.kind task.vertex port task.time recs).sent in
        all_app (IsOf S.plan) (stamps_of S.plan (posts S.plan (stamped task.vertex task.time sent))) (map stamp_of_asked (newly_asked S task))
        (posts_of_plan S.plan lawful task.vertex task.time h sent) (asks_of_plan task h)
    given_of_plan task (notification items) h = posts_of_plan S.plan lawful task.vertex task.time h (notified_sends answers task.kind items)

    gives_of_plan : (task : Task) (answer : Answer) (after : HallState) → Gives answers S task answer after → AllByRecursion (IsOf S.plan) (come_by answers S (give task) answer)
    gives_of_plan task _ _ (gives out) = given_of_plan task task.content (task_there task out).0
    gives_of_plan task _ _ (is_stranger n) = tt

    released_of_plan : (batch : List Entry) (answer : Answer) → accepts S.plan batch ≡ true → AllByRecursion (IsOf S.plan) (come_by answers S (release batch) answer)
    released_of_plan batch (has_released e) h = batch_of_plan S.plan lawful S.next batch h
    released_of_plan batch _ h = tt

    pub come : (event : Event) (answer : Answer) (after : HallState) → Step answers S event answer after → AllByRecursion (IsOf S.plan) (come_by answers S event answer)
    come (release batch) answer after h = released_of_plan batch answer h.0
    come (taking s) answer after h = tt
    come (give task) answer after h = gives_of_plan task answer after h
    come collect answer after h = tt
    come cut answer after h = tt
    come (cut_at e) answer after h = tt
    come close answer after h = tt

pub turns_of_plan : Below → TurnsOfPlan
turns_of_plan below plan v t lawful h = turns below plan lawful v t h

pub tasks_of_plan : (below : Below) (answers : Answers) → TasksOfPlan answers
tasks_of_plan below answers S task r out = sends below answers S r task out

pub come_of_plan : (below : Below) (answers : Answers) → ComeOfPlan answers
come_of_plan below answers S after event answer r step = come below answers S r event answer after step

pub sent_of_plan : Below → SentOfPlan
sent_of_plan below plan v t lawful h many = sent_by_edge below plan lawful v t h many
