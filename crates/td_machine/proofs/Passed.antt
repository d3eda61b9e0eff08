-- Of a passed epoch: all that was sent came and has its answer. So what each vertex sent solves the flat equations.
use Rattle.std.proofs.Common.{◌≡◌, ℕ, ◌+◌, ◌<◌, ◌⊎◌, inl, inr, List, [], ◌∷◌, ◌++◌, map, flat_map, filter, not, refl, ap, sym, ◌∙◌, Bool, true, false, ◌&&◌, arith, suc, ◌==◌, if◌then◌else◌}
use Rattle.std.specs.Prelude.{nat_lt}
use Rattle.std.specs.List.{AllByRecursion, enumerate_from}
use Rattle.std.proofs.lemmas.List.{append-nil}
use Rattle.std.proofs.lemmas.List.Folds.{flat_map-map}
use Rattle.td_stamp.specs.declared.values.Rec.{Rec}
use Rattle.td_stamp.specs.declared.values.Arrival.{Arrival}
use Rattle.td_stamp.specs.Orders.{rec_cmp, arrival_cmp}
use Rattle.td_stamp.specs.Time.{Timestamp, enter, leave, again}
use Rattle.td_stamp.specs.Bag.{join, bag_of, has}
use Rattle.td_stamp.specs.Groups.{arrival_of}
use Rattle.td_plan.specs.declared.vertex.Kind.{Kind}
use Rattle.td_plan.specs.declared.vertex.Kind.TheVariants.{Input, Map, Distinct, Group, Fold, Enter, Feedback, Leave, Output}
use Rattle.td_plan.specs.declared.vertex.Edge.{Edge}
use Rattle.td_plan.specs.Lines.{Line}
use Rattle.td_plan.specs.Blocks.{edges}
use Rattle.td_calls.specs.Answers.{Answers}
use Rattle.td_calls.specs.Callbacks.{arrivals}
use Rattle.td_batch.specs.Meaning.{EpochInput, answer}
use Rattle.td_batch.specs.Flow.{Flow}
use Rattle.td_reach.specs.declared.stamp.Stamp.{Stamp}
use Rattle.td_machine.specs.declared.records.Message.{Message}
use Rattle.td_machine.specs.declared.records.Stamped.{Stamped}
use Rattle.td_machine.specs.State.{HallState, message_cmp, notification_cmp, is_there, same_time, arrival, asked_of}
use Rattle.td_machine.specs.Active.{kind_of, bound_of, active}
use Rattle.td_machine.specs.Steps.{posts, posted, on_edge, edges_from, sending_times, again_below}
use Rattle.td_machine.proofs.History.{Origin, History, Running, IsTime, has_answer, epoch_from, sent_at, came_at}
use Rattle.td_machine.proofs.Flows.{at_time, sent_to, flow_of, edge_to}
use Rattle.td_machine.proofs.Orders.{there_is}
use Rattle.td_machine.proofs.Lists.{filter_yes, filter_no, filter_none, filter_filter, filter_alike, filter_map, filter_app, all_weaken, all_everywhere, from_filter}
use Rattle.td_machine.proofs.Asking.{each_asked}
use Rattle.td_machine.proofs.Delivered.{all_has, from_active}
use Rattle.td_machine.proofs.Exchanges.{parts_alike, exchanged}
use Rattle.td_machine.proofs.Bags.{bag_of-IsBag, filter-join, filter-bag_of, mapped_bag, mapped_alike}
use Rattle.td_machine.specs.Below.{Below}

module _ (below : Below) where
  -- one time of sending, or none
  AtMostOne : List Timestamp → Type 0
  AtMostOne ts = (ts ≡ []) ⊎ ((t : Timestamp) × (ts ≡ t ∷ []))

  again_once : (bound : ℕ) (t : Timestamp) (turns : List ℕ) → AtMostOne (again_below bound t turns)
  unfolding AtMostOne
  again_once bound t [] = inl refl
  again_once bound t (k ∷ outer) = by (nat_lt (suc k) bound)
    where
      by : (b : Bool) → AtMostOne (if b then again t ∷ [] else [])
      by true = inr (again t, refl)
      by false = inl refl

  sends_once : (kind : Kind) (bound : ℕ) (t : Timestamp) → AtMostOne (sending_times kind bound t)
  unfolding AtMostOne
  sends_once Enter bound t = inr (enter t, refl)
  sends_once Leave bound t = inr (leave t, refl)
  sends_once Feedback bound t = again_once bound t t.turns
  sends_once Input bound t = inr (t, refl)
  sends_once (Map code) bound t = inr (t, refl)
  sends_once Distinct bound t = inr (t, refl)
  sends_once (Group code) bound t = inr (t, refl)
  sends_once (Fold code) bound t = inr (t, refl)
  sends_once Output bound t = inr (t, refl)

  and_yes : (b : Bool) → (b && true) ≡ b
  and_yes true = refl
  and_yes false = refl

  and_no : (b : Bool) → (b && false) ≡ false
  and_no true = refl
  and_no false = refl

  and_swap : (a b : Bool) → (a && b) ≡ (b && a)
  and_swap true b = sym (and_yes b)
  and_swap false b = sym (and_no b)

  pub map_flat : {A B C : Type 0} (f : B → C) (g : A → List B) (xs : List A) → map f (flat_map g xs) ≡ flat_map (λ x. map f (g x)) xs
  map_flat f g [] = refl
  map_flat {B = B} f g (x ∷ xs) = map_app (g x) (flat_map g xs) ∙ ap (λ l. map f (g x) ++ l) (map_flat f g xs)
    where
      map_app : (ys zs : List B) → map f (ys ++ zs) ≡ map f ys ++ map f zs
      map_app [] zs = refl
      map_app (y ∷ ys) zs = ap (λ l. f y ∷ l) (map_app ys zs)

  pub filter_flat : {A B : Type 0} (p : B → Bool) (g : A → List B) (xs : List A) → filter p (flat_map g xs) ≡ flat_map (λ x. filter p (g x)) xs
  filter_flat p g [] = refl
  filter_flat p g (x ∷ xs) = filter_app p (g x) (flat_map g xs) ∙ ap (λ l. filter p (g x) ++ l) (filter_flat p g xs)

  maps_twice : {A B C : Type 0} (g : B → C) (f : A → B) (xs : List A) → map g (map f xs) ≡ map (λ x. g (f x)) xs
  maps_twice g f [] = refl
  maps_twice g f (x ∷ xs) = ap (λ l. g (f x) ∷ l) (maps_twice g f xs)

  enumerate_map : {A B : Type 0} (f : A → B) (n : ℕ) (xs : List A) → enumerate_from n (map f xs) ≡ map (λ (p : ℕ × A). (p.0, f p.1)) (enumerate_from n xs)
  enumerate_map f n [] = refl
  enumerate_map f n (x ∷ xs) = ap (λ l. (n, f x) ∷ l) (enumerate_map f (n + 1) xs)

  -- ONE RECORD THAT WAS SENT, as it comes to a vertex: on each port whose source sent it
  module _ (plan : List Line) (v : ℕ) (sources : List ℕ) (into : filter (λ e. e.reader == v) (edges plan) ≡ map (edge_to v) (enumerate_from 0 sources)) (t : Timestamp) (x : Stamped) where
    abbrev ports : List (ℕ × ℕ)
    ports = enumerate_from 0 sources

    abbrev there : Message → Bool
    there = λ c. is_there v t c.vertex c.time

    abbrev from_port : List Timestamp → ℕ × ℕ → List Arrival
    from_port ts p = map (arrival_of p.0) (if p.1 == x.vertex then flat_map (at_time t x.rec) ts else [])

    -- the edges from its vertex to this one
    edges_between : filter (λ e. e.reader == v) (edges_from plan x.vertex) ≡ map (edge_to v) (filter (λ (p : ℕ × ℕ). p.1 == x.vertex) ports)
    edges_between =
        filter_filter (λ (e : Edge). e.reader == v) (λ e. e.source == x.vertex) (edges plan)
        ∙ filter_alike (λ (e : Edge). (e.source == x.vertex) && (e.reader == v)) (λ e. (e.reader == v) && (e.source == x.vertex)) (edges plan) (all_everywhere (λ (e : Edge). ((e.source == x.vertex) && (e.reader == v)) ≡ ((e.reader == v) && (e.source == x.vertex))) (λ e. and_swap (e.source == x.vertex) (e.reader == v)) (edges plan))
        ∙ sym (filter_filter (λ (e : Edge). e.source == x.vertex) (λ e. e.reader == v) (edges plan)) ∙ ap (filter (λ (e : Edge). e.source == x.vertex)) into ∙ filter_map (λ (e : Edge). e.source == x.vertex) (edge_to v) ports

    none_from : (b : Bool) → (let l : List Rec = if b then [] else [] in l) ≡ []
    none_from true = refl
    none_from false = refl

    by_port : (later : Timestamp) → same_time later t ≡ true → (ps : List (ℕ × ℕ)) → map (λ (p : ℕ × ℕ). arrival_of p.0 x.rec) (filter (λ (p : ℕ × ℕ). p.1 == x.vertex) ps) ≡ flat_map (from_port (later ∷ [])) ps
    by_port later e [] = refl
    by_port later e (p ∷ ps) = by (p.1 == x.vertex) refl (by_port later e ps)
      where
        given : at_time t x.rec later ≡ x.rec ∷ []
        given = ap (λ b. let l : List Rec = if b then x.rec ∷ [] else [] in l) e

        by : (b : Bool) → (p.1 == x.vertex) ≡ b → map (λ (p : ℕ × ℕ). arrival_of p.0 x.rec) (filter (λ (p : ℕ × ℕ). p.1 == x.vertex) ps) ≡ flat_map (from_port (later ∷ [])) ps
            → map (λ (p : ℕ × ℕ). arrival_of p.0 x.rec) (filter (λ (p : ℕ × ℕ). p.1 == x.vertex) (p ∷ ps)) ≡ flat_map (from_port (later ∷ [])) (p ∷ ps)
        by true f rest =
            let given_here : (let l : List Rec = if p.1 == x.vertex then flat_map (at_time t x.rec) (later ∷ []) else [] in l) ≡ x.rec ∷ [] = ap (λ b. let l : List Rec = if b then flat_map (at_time t x.rec) (later ∷ []) else [] in l) f ∙ ap (λ l. l ++ []) given in
            ap (map (λ (p : ℕ × ℕ). arrival_of p.0 x.rec)) (filter_yes (λ (p : ℕ × ℕ). p.1 == x.vertex) p ps f)
            ∙ ap (λ l. arrival_of p.0 x.rec ∷ l) rest ∙ ap (λ l. map (arrival_of p.0) l ++ flat_map (from_port (later ∷ [])) ps) (sym given_here)
        by false f rest =
            let not_here : (let l : List Rec = if p.1 == x.vertex then flat_map (at_time t x.rec) (later ∷ []) else [] in l) ≡ [] = ap (λ b. let l : List Rec = if b then flat_map (at_time t x.rec) (later ∷ []) else [] in l) f in
            ap (map (λ (p : ℕ × ℕ). arrival_of p.0 x.rec)) (filter_no (λ (p : ℕ × ℕ). p.1 == x.vertex) p ps f) ∙ rest ∙ ap (λ l. map (arrival_of p.0) l ++ flat_map (from_port (later ∷ [])) ps) (sym not_here)

    no_port : (ts : List Timestamp) → flat_map (at_time t x.rec) ts ≡ [] → (ps : List (ℕ × ℕ)) → flat_map (from_port ts) ps ≡ []
    no_port ts e [] = refl
    no_port ts e (p ∷ ps) =
        let none : (let l : List Rec = if p.1 == x.vertex then flat_map (at_time t x.rec) ts else [] in l) ≡ [] = ap (λ l. let m : List Rec = if p.1 == x.vertex then l else [] in m) e ∙ none_from (p.1 == x.vertex) in
        ap (λ l. map (arrival_of p.0) l ++ flat_map (from_port ts) ps) none ∙ no_port ts e ps

    comes : (ts : List Timestamp) → AtMostOne ts → map arrival (filter there (flat_map (λ later. map (on_edge later x.rec) (edges_from plan x.vertex)) ts)) ≡ flat_map (from_port ts) ports
    unfolding AtMostOne
    comes ts (inl e) = ap (λ ts. map arrival (filter there (flat_map (λ later. map (on_edge later x.rec) (edges_from plan x.vertex)) ts))) e ∙ sym (no_port ts (ap (flat_map (at_time t x.rec)) e) ports)
    comes ts (inr (later, e)) =
        ap (λ ts. map arrival (filter there (flat_map (λ later. map (on_edge later x.rec) (edges_from plan x.vertex)) ts))) e
        ∙ ap (λ l. map arrival (filter there l)) (append-nil (map (on_edge later x.rec) (edges_from plan x.vertex))) ∙ by (same_time later t) refl ∙ ap (λ ts. flat_map (from_port ts) ports) (sym e)
      where
        by : (b : Bool) → same_time later t ≡ b → map arrival (filter there (map (on_edge later x.rec) (edges_from plan x.vertex))) ≡ flat_map (from_port (later ∷ [])) ports
        by true f =
            ap (map arrival) (filter_map there (on_edge later x.rec) (edges_from plan x.vertex))
            ∙ ap (λ l. map arrival (map (on_edge later x.rec) l)) (filter_alike (λ (e : Edge). (e.reader == v) && same_time later t) (λ e. e.reader == v) (edges_from plan x.vertex) (all_everywhere (λ (e : Edge). ((e.reader == v) && same_time later t) ≡ (e.reader == v)) (λ e. ap (λ b. (e.reader == v) && b) f ∙ and_yes (e.reader == v)) (edges_from plan x.vertex)) ∙ edges_between)
            ∙ maps_twice arrival (on_edge later x.rec) (map (edge_to v) (filter (λ (p : ℕ × ℕ). p.1 == x.vertex) ports)) ∙ maps_twice (λ e. arrival (on_edge later x.rec e)) (edge_to v) (filter (λ (p : ℕ × ℕ). p.1 == x.vertex) ports)
            ∙ by_port later f ports
        by false f =
            ap (map arrival) (filter_map there (on_edge later x.rec) (edges_from plan x.vertex))
            ∙ ap (λ l. map arrival (map (on_edge later x.rec) l)) (filter_none (λ (e : Edge). (e.reader == v) && same_time later t) (edges_from plan x.vertex) (all_everywhere (λ (e : Edge). ((e.reader == v) && same_time later t) ≡ false) (λ e. ap (λ b. (e.reader == v) && b) f ∙ and_no (e.reader == v)) (edges_from plan x.vertex)))
            ∙ sym (no_port (later ∷ []) (ap (λ b. (let l : List Rec = if b then x.rec ∷ [] else [] in l) ++ []) f) ports)

    pub one_comes : map arrival (filter (λ c. is_there v t c.vertex c.time) (posted plan x)) ≡ flat_map (λ (p : ℕ × ℕ). map (arrival_of p.0) (sent_to plan p.1 t x)) (enumerate_from 0 sources)
    one_comes = comes (sending_times (kind_of plan x.vertex) (bound_of plan x.vertex) x.time) (sends_once (kind_of plan x.vertex) (bound_of plan x.vertex) x.time)

  -- all that was sent, as it comes to a vertex
  module _ (plan : List Line) (sent : List Stamped) (v : ℕ) (sources : List ℕ) (into : filter (λ e. e.reader == v) (edges plan) ≡ map (edge_to v) (enumerate_from 0 sources)) (e : ℕ) (counters : List ℕ) where
    abbrev now : Timestamp
    now = record { epoch = e; turns = counters }

    posts_come : map arrival (filter (λ c. is_there v now c.vertex c.time) (posts plan sent)) ≡ flat_map (λ x. flat_map (λ (p : ℕ × ℕ). map (arrival_of p.0) (sent_to plan p.1 now x)) (enumerate_from 0 sources)) sent
    posts_come = ap (map arrival) (filter_flat (λ c. is_there v now c.vertex c.time) (posted plan) sent) ∙ map_flat arrival (λ x. filter (λ c. is_there v now c.vertex c.time) (posted plan x)) sent ∙ each sent
      where
        each : (xs : List Stamped) → flat_map (λ x. map arrival (filter (λ c. is_there v now c.vertex c.time) (posted plan x))) xs ≡ flat_map (λ x. flat_map (λ (p : ℕ × ℕ). map (arrival_of p.0) (sent_to plan p.1 now x)) (enumerate_from 0 sources)) xs
        each [] = refl
        each (x ∷ xs) = λ i. one_comes plan v sources into now x i ++ each xs i

    pub all_come : bag_of arrival_cmp (came_at (posts plan sent) v now) ≡ bag_of arrival_cmp (arrivals (map (λ s. flow_of plan sent e s counters) sources))
    all_come =
        ap (bag_of arrival_cmp) posts_come
        ∙ exchanged arrival_cmp below.arrivals (λ x (p : ℕ × ℕ). map (arrival_of p.0) (sent_to plan p.1 now x)) sent (enumerate_from 0 sources)
        ∙ parts_alike arrival_cmp below.arrivals (λ (p : ℕ × ℕ). flat_map (λ x. map (arrival_of p.0) (sent_to plan p.1 now x)) sent) (λ (p : ℕ × ℕ). map (arrival_of p.0) (flow_of plan sent e p.1 counters))
        (λ p. ap (bag_of arrival_cmp) (sym (map_flat (arrival_of p.0) (sent_to plan p.1 now) sent)) ∙ sym (mapped_bag rec_cmp arrival_cmp below.arrivals (arrival_of p.0) (flat_map (sent_to plan p.1 now) sent))) (enumerate_from 0 sources)
        ∙ ap (bag_of arrival_cmp) (sym (ap (flat_map (λ (b : ℕ × List Rec). map (arrival_of b.0) b.1)) (enumerate_map (λ s. flow_of plan sent e s counters) 0 sources) ∙ flat_map-map (λ (b : ℕ × List Rec). map (arrival_of b.0) b.1) (λ (p : ℕ × ℕ). (p.0, flow_of plan sent e p.1 counters)) (enumerate_from 0 sources)))

  -- OF A PASSED EPOCH
  module _ (answers : Answers) (origin : Origin) (S : HallState) (H : History) (runs : Running answers origin S H) (e : ℕ) (passed : AllByRecursion (λ (p : Stamp). e < p.time.epoch) (active S)) where
    abbrev ready : Message → Bool
    ready = has_answer S.plan S.workers H.notified

    abbrev none : Message → Bool
    none = λ c. not (ready c)

    -- nothing of this epoch waits
    pub waiting_later : AllByRecursion (λ (c : Message). none c ≡ true → e < c.time.epoch) H.arrived
    waiting_later = from_filter (λ (c : Message). e < c.time.epoch) none H.arrived (all_weaken (λ c. has notification_cmp (asked_of S.workers c) (map (asked_of S.workers) (filter none H.arrived)) ≡ true) (λ (c : Message). e < c.time.epoch)
        (λ c h. all_has below (λ a. e < a.time.epoch) (asked_of S.workers c) S.asked (from_active below S (λ p. e < p.time.epoch) passed).1 (runs.told.asked (asked_of S.workers c) ∙ h)) (filter none H.arrived) (each_asked S.workers (filter none H.arrived)))

    pub all_ready : (v : ℕ) (t : Timestamp) → t.epoch ≡ e → came_at (filter ready H.arrived) v t ≡ came_at H.arrived v t
    all_ready v t same =
        let there : Message → Bool = λ c. is_there v t c.vertex c.time in
        ap (map arrival) (filter_filter there ready H.arrived ∙ filter_alike (λ c. ready c && there c) there H.arrived (all_weaken (λ c. none c ≡ true → e < c.time.epoch) (λ c. (ready c && there c) ≡ there c) (λ c k. by c k (ready c) refl (there c) refl) H.arrived waiting_later))
      where
        by : (c : Message) → (none c ≡ true → e < c.time.epoch) → (b : Bool) → ready c ≡ b → (d : Bool) → is_there v t c.vertex c.time ≡ d → (ready c && is_there v t c.vertex c.time) ≡ is_there v t c.vertex c.time
        by c k true f d g = ap (λ b. b && is_there v t c.vertex c.time) f
        by c k false f false g = ap (λ b. ready c && b) g ∙ and_no (ready c) ∙ sym g
        by c k false f true g =
            let late : e < c.time.epoch = k (ap not f) in
            let here : c.time.epoch ≡ t.epoch = ap (λ (u : Timestamp). u.epoch) (there_is v c.vertex t c.time g).1 in
            absurd (omega (arith, late, here, same))

    -- nothing is on its way
    pub came_is_posted : (v : ℕ) (t : Timestamp) → t.epoch ≡ e → bag_of arrival_cmp (came_at H.arrived v t) ≡ bag_of arrival_cmp (came_at (posts S.plan H.sent) v t)
    came_is_posted v t same =
        let there : Message → Bool = λ c. is_there v t c.vertex c.time in
        let A : List Message = H.arrived in
        let P : List Message = posts S.plan H.sent in
        let empty : filter there S.messages ≡ [] = filter_none there S.messages (all_weaken (λ (c : Message). e < c.time.epoch) (λ c. there c ≡ false) (λ c late. by c late (there c) refl) S.messages (from_active below S (λ p. e < p.time.epoch) passed).0) in
        let bags : bag_of message_cmp (filter there A) ≡ bag_of message_cmp (filter there P) =
        sym (filter-join message_cmp below.messages there S.messages (bag_of message_cmp A) (bag_of-IsBag message_cmp below.messages A)
        ∙ (λ i. join message_cmp (empty i) (filter-bag_of message_cmp below.messages there A i)))
        ∙ ap (filter there) runs.told.balance ∙ filter-bag_of message_cmp below.messages there P in
        mapped_alike message_cmp arrival_cmp below.arrivals arrival (filter there A) (filter there P) bags
      where
        by : (c : Message) → e < c.time.epoch → (b : Bool) → is_there v t c.vertex c.time ≡ b → is_there v t c.vertex c.time ≡ false
        by c late false f = f
        by c late true f = let here : c.time.epoch ≡ t.epoch = ap (λ (u : Timestamp). u.epoch) (there_is v c.vertex t c.time f).1 in absurd (omega (arith, late, here, same))

    abbrev epoch : EpochInput
    epoch = epoch_from answers origin H.left e

    abbrev flow : Flow
    flow = flow_of S.plan H.sent e

    -- WHAT A VERTEX SENT IN ANSWER TO A TIME is what it answers to what its sources sent to that time
    pub answered_by_flow : (v : ℕ) (sources : List ℕ) (into : filter (λ e. e.reader == v) (edges S.plan) ≡ map (edge_to v) (enumerate_from 0 sources)) (kind : Kind) → kind_of S.plan v ≡ kind → (counters : List ℕ) → IsTime origin S.next S.plan v (record { epoch = e; turns = counters })
        → bag_of rec_cmp (sent_at H.sent v (record { epoch = e; turns = counters })) ≡ answer epoch v kind (arrivals (map (λ s. flow s counters) sources))
    answered_by_flow v sources into kind k counters h =
        let t : Timestamp = record { epoch = e; turns = counters } in
        runs.answered.sent v t h ∙ ap (λ k. answer epoch v k (came_at (filter ready H.arrived) v t)) k ∙ ap (answer epoch v kind) (all_ready v t refl)
        ∙ below.answer_alike epoch v kind (came_at H.arrived v t) (arrivals (map (λ s. flow s counters) sources)) (came_is_posted v t refl ∙ all_come S.plan H.sent v sources into e counters)
