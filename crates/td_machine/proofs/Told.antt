-- A record that is answered: the lists of the state after it are told by the history with it.
use Rattle.std.proofs.Common.{◌≡◌, ℕ, ◌<◌, List, [], ◌∷◌, ◌++◌, map, filter, flat_map, refl, ap, sym, ◌∙◌, Bool, true, false, not, ◌||◌}
use Rattle.std.specs.Prelude.{nat_lt}
use Rattle.std.proofs.lemmas.Bool.{lt-ltb}
use Rattle.std.proofs.lemmas.Cmp.{tied_itself}
use Rattle.std.proofs.lemmas.Grind.{flat_map-append}
use Rattle.std.specs.declared.cmp.Ordering.{Ordering}
use Rattle.std.specs.declared.cmp.Ordering.TheVariants.{Less, Equal, Greater}
use Rattle.std.specs.Ordering.{is_eq, nat_cmp, ordering_then}
use Rattle.std.specs.Cmp.{nat_cmp_total}
use Rattle.std.specs.FinMap.{IsAntisymmetric}
use Rattle.td_stamp.specs.declared.values.Rec.{Rec}
use Rattle.td_stamp.specs.Orders.{rec_cmp}
use Rattle.td_stamp.specs.Time.{Timestamp, time_cmp}
use Rattle.td_stamp.specs.Bag.{bag_insert, bag_remove, join, bag_of, has}
use Rattle.td_machine.proofs.Orders.{time_total}
use Rattle.td_plan.specs.declared.vertex.Kind.{Kind}
use Rattle.td_plan.specs.declared.vertex.Kind.TheVariants.{Input, Map, Distinct, Group, Fold, Enter, Feedback, Leave, Output}
use Rattle.td_calls.specs.Answers.{Answers}
use Rattle.td_calls.specs.Callbacks.{Added, on_arrival, is_notified}
use Rattle.td_machine.specs.declared.records.Message.{Message}
use Rattle.td_machine.specs.declared.records.Stamped.{Stamped}
use Rattle.td_machine.specs.declared.records.Notification.{Notification}
use Rattle.td_machine.specs.declared.records.OutputAt.{OutputAt}
use Rattle.td_machine.specs.State.{HallState, message_cmp, stamped_cmp, notification_cmp, output_at_cmp, is_there, arrival, asked_of, local_at}
use Rattle.td_machine.specs.Active.{kind_of}
use Rattle.td_machine.specs.Steps.{posts, posted, stamped, comes_out, with_asked, waiting, called, delivered}
use Rattle.td_machine.proofs.History.{Origin, History, IsTold, is_distinct, stamped_of, has_answer, also_delivered}
use Rattle.td_machine.proofs.Orders.{stamped_apart, there_is, there_itself}
use Rattle.td_machine.proofs.Lists.{filter_yes, filter_no, filter_app}
use Rattle.td_machine.proofs.Callings.{where_true, buffers, sees, sees_none}
use Rattle.td_machine.proofs.Bags.{join-assoc, join-bag_insert, bag_insert-join, bag_remove-bag_insert, bag_of-append, has-bag_insert, has-set_insert}
use Rattle.td_machine.specs.Below.{Below}

module _ (below : Below) where
  -- an element that is there may be put in again
  absorbed : {X : Type 0} (cmp : X → X → Ordering) → IsAntisymmetric cmp → (y : X) (ys : List X) → has cmp y ys ≡ true → (x : X) → has cmp x ys ≡ (is_eq (cmp x y) || has cmp x ys)
  absorbed cmp same y ys h x = by (cmp x y) refl
    where
      by : (o : Ordering) → cmp x y ≡ o → has cmp x ys ≡ (is_eq (cmp x y) || has cmp x ys)
      by Less e = sym (ap (λ o. is_eq o || has cmp x ys) e)
      by Greater e = sym (ap (λ o. is_eq o || has cmp x ys) e)
      by Equal e = ap (λ w. has cmp w ys) (same x y e) ∙ h ∙ sym (ap (λ o. is_eq o || has cmp x ys) e)

  -- what a distinct has seen at a vertex and time, and what it has seen
  pub seen_there : (v : ℕ) (t : Timestamp) (r : Rec) (xs : List Stamped) → has rec_cmp r (map (λ x. x.rec) (filter (λ x. is_there v t x.vertex x.time) xs)) ≡ has stamped_cmp (record { vertex = v; time = t; rec = r }) xs
  seen_there v t r [] = refl
  seen_there v t r (x ∷ xs) = by (is_there v t x.vertex x.time) refl (seen_there v t r xs)
    where
      it : Stamped
      it = record { vertex = v; time = t; rec = r }

      other : is_there v t x.vertex x.time ≡ false → (o : Ordering) → stamped_cmp (record { vertex = v; time = t; rec = r }) x ≡ o → is_eq (stamped_cmp (record { vertex = v; time = t; rec = r }) x) ≡ false
      other e Less f = ap is_eq f
      other e Greater f = ap is_eq f
      other e Equal f = let s = stamped_apart (record { vertex = v; time = t; rec = r }) x f in let no : true ≡ false = sym (there_itself v t) ∙ (λ i. is_there v t (s i).vertex (s i).time) ∙ e in cc

      by : (b : Bool) → is_there v t x.vertex x.time ≡ b → has rec_cmp r (map (λ x. x.rec) (filter (λ x. is_there v t x.vertex x.time) xs)) ≡ has stamped_cmp (record { vertex = v; time = t; rec = r }) xs
          → has rec_cmp r (map (λ x. x.rec) (filter (λ x. is_there v t x.vertex x.time) (x ∷ xs))) ≡ has stamped_cmp (record { vertex = v; time = t; rec = r }) (x ∷ xs)
      by true e rest =
          let s = there_is v x.vertex t x.time e in
          let p : nat_cmp v x.vertex ≡ Equal = ap (nat_cmp v) s.0 ∙ tied_itself nat_cmp_total v in
          let q : time_cmp t x.time ≡ Equal = ap (time_cmp t) s.1 ∙ tied_itself time_total t in
          ap (λ l. has rec_cmp r (map (λ x. x.rec) l)) (filter_yes (λ x. is_there v t x.vertex x.time) x xs e)
          ∙ (λ i. is_eq (ordering_then (sym p i) (ordering_then (sym q i) (rec_cmp r x.rec))) || rest i)
      by false e rest =
          ap (λ l. has rec_cmp r (map (λ x. x.rec) l)) (filter_no (λ x. is_there v t x.vertex x.time) x xs e) ∙ rest
          ∙ sym (ap (λ b. b || has stamped_cmp (record { vertex = v; time = t; rec = r }) xs) (other e (stamped_cmp (record { vertex = v; time = t; rec = r }) x) refl))

  pub distinct_is : (kind : Kind) → is_distinct kind ≡ true → kind ≡ Distinct
  distinct_is Input e = cc
  distinct_is (Map code) e = cc
  distinct_is Distinct e = refl
  distinct_is (Group code) e = cc
  distinct_is (Fold code) e = cc
  distinct_is Enter e = cc
  distinct_is Feedback e = cc
  distinct_is Leave e = cc
  distinct_is Output e = cc

  recent_out : (collected : ℕ) (kind : Kind) (c : Message) → collected < c.time.epoch → filter (λ o. nat_lt collected o.epoch) (comes_out kind c) ≡ comes_out kind c
  recent_out collected Input c h = refl
  recent_out collected (Map code) c h = refl
  recent_out collected Distinct c h = refl
  recent_out collected (Group code) c h = refl
  recent_out collected (Fold code) c h = refl
  recent_out collected Enter c h = refl
  recent_out collected Feedback c h = refl
  recent_out collected Leave c h = refl
  recent_out collected Output c h = filter_yes (λ o. nat_lt collected o.epoch) (record { epoch = c.time.epoch; output = record { vertex = c.vertex; rec = c.rec } }) [] (lt-ltb collected c.time.epoch h)

  pub removed : (c : Message) (messages rest : List Message) → messages ≡ bag_insert message_cmp c rest → bag_remove message_cmp c messages ≡ rest
  removed c messages rest here = ap (bag_remove message_cmp c) here ∙ bag_remove-bag_insert message_cmp below.messages c rest

  module _ (answers : Answers) (origin : Origin) (S : HallState) (H : History) (c : Message) (rest : List Message)
      (here : S.messages ≡ bag_insert message_cmp c rest) (told : IsTold origin S H)
      (waits : is_notified (kind_of S.plan c.vertex) ≡ true → has notification_cmp (asked_of S.workers c) H.notified ≡ false) (recent : S.collected < c.time.epoch) where
    abbrev kind : Kind
    kind = kind_of S.plan c.vertex

    abbrev added : Added
    added = called answers S kind c

    abbrev after : HallState
    after = delivered answers S kind c

    abbrev no_answer : Message → Bool
    no_answer = λ c. not (has_answer S.plan S.workers H.notified c)

    abbrev new : List Stamped
    new = stamped c.vertex c.time added.sent

    balance : join message_cmp after.messages (bag_of message_cmp (c ∷ H.arrived)) ≡ bag_of message_cmp (posts S.plan (new ++ H.sent))
    balance =
        let B = bag_of message_cmp H.arrived in
        join-assoc message_cmp below.messages (posts S.plan new) (bag_remove message_cmp c S.messages) (bag_insert message_cmp c B)
        ∙ ap (join message_cmp (posts S.plan new)) (ap (λ l. join message_cmp l (bag_insert message_cmp c B)) (removed c S.messages rest here)
        ∙ join-bag_insert message_cmp below.messages rest c B ∙ sym (bag_insert-join message_cmp below.messages c rest B) ∙ ap (λ l. join message_cmp l B) (sym here) ∙ told.balance)
        ∙ sym (bag_of-append message_cmp below.messages (posts S.plan new) (posts S.plan H.sent)) ∙ ap (bag_of message_cmp) (sym (flat_map-append (posted S.plan) new H.sent))

    unanswered : is_notified kind ≡ true → no_answer c ≡ true
    unanswered e = λ i. not (not (e i) || waits e i)

    answered : is_notified kind ≡ false → no_answer c ≡ false
    answered e = λ i. not (not (e i) || has notification_cmp (asked_of S.workers c) H.notified)

    kept_of : (b : Bool) → is_notified kind ≡ b → added.buffered ≡ (where_true below) b (arrival c)
    kept_of b e = buffers below answers kind (local_at S c.vertex c.time) (arrival c) ∙ ap (λ b. where_true below b (arrival c)) e

    buffered : (b : Bool) → is_notified kind ≡ b → after.buffered ≡ bag_of message_cmp (filter no_answer (c ∷ H.arrived))
    buffered true e =
        ap (λ l. join message_cmp (map (waiting c.vertex c.time) l) S.buffered) (kept_of true e) ∙ ap (bag_insert message_cmp c) told.buffered
        ∙ ap (bag_of message_cmp) (sym (filter_yes no_answer c H.arrived (unanswered e)))
    buffered false e =
        ap (λ l. join message_cmp (map (waiting c.vertex c.time) l) S.buffered) (kept_of false e) ∙ told.buffered
        ∙ ap (bag_of message_cmp) (sym (filter_no no_answer c H.arrived (answered e)))

    asked : (b : Bool) → is_notified kind ≡ b → (a : Notification) → has notification_cmp a after.asked ≡ has notification_cmp a (map (asked_of S.workers) (filter no_answer (c ∷ H.arrived)))
    asked true e a =
        ap (λ l. has notification_cmp a (with_asked (map (λ a. asked_of S.workers (waiting c.vertex c.time a)) l) S.asked)) (kept_of true e)
        ∙ has-set_insert notification_cmp below.notifications a (asked_of S.workers c) S.asked ∙ ap (λ b. is_eq (notification_cmp a (asked_of S.workers c)) || b) (told.asked a)
        ∙ ap (λ l. has notification_cmp a (map (asked_of S.workers) l)) (sym (filter_yes no_answer c H.arrived (unanswered e)))
    asked false e a =
        ap (λ l. has notification_cmp a (with_asked (map (λ a. asked_of S.workers (waiting c.vertex c.time a)) l) S.asked)) (kept_of false e) ∙ told.asked a
        ∙ ap (λ l. has notification_cmp a (map (asked_of S.workers) l)) (sym (filter_no no_answer c H.arrived (answered e)))

    abbrev is_once : Message → Bool
    is_once = λ c. is_distinct (kind_of S.plan c.vertex)

    seen_new : (b : Bool) → has rec_cmp c.rec (local_at S c.vertex c.time).seen ≡ b → (x : Stamped) → has stamped_cmp x (join stamped_cmp (stamped c.vertex c.time (where_true below (not b) c.rec)) S.seen) ≡ (is_eq (stamped_cmp x (stamped_of c)) || has stamped_cmp x S.seen)
    seen_new true e x = absorbed stamped_cmp stamped_apart (stamped_of c) S.seen (sym (seen_there c.vertex c.time c.rec S.seen) ∙ e) x
    seen_new false e x = has-bag_insert stamped_cmp below.stamped x (stamped_of c) S.seen

    seen : (b : Bool) → is_distinct kind ≡ b → (x : Stamped) → S.base < x.time.epoch → has stamped_cmp x after.seen ≡ has stamped_cmp x (map stamped_of (filter is_once (c ∷ H.arrived)))
    seen true e x l =
        ap (λ l. has stamped_cmp x (join stamped_cmp (stamped c.vertex c.time l) S.seen)) (ap (λ k. (on_arrival answers k (local_at S c.vertex c.time) (arrival c)).seen) (distinct_is kind e) ∙ sees below answers (local_at S c.vertex c.time) (arrival c))
        ∙ seen_new (has rec_cmp c.rec (local_at S c.vertex c.time).seen) refl x ∙ ap (λ b. is_eq (stamped_cmp x (stamped_of c)) || b) (told.seen x l)
        ∙ ap (λ l. has stamped_cmp x (map stamped_of l)) (sym (filter_yes is_once c H.arrived e))
    seen false e x l =
        ap (λ l. has stamped_cmp x (join stamped_cmp (stamped c.vertex c.time l) S.seen)) (sees_none below answers kind (local_at S c.vertex c.time) (arrival c) e) ∙ told.seen x l
        ∙ ap (λ l. has stamped_cmp x (map stamped_of l)) (sym (filter_no is_once c H.arrived e))

    abbrev is_new : OutputAt → Bool
    is_new = λ o. nat_lt S.collected o.epoch

    abbrev out_of : Message → List OutputAt
    out_of = λ c. comes_out (kind_of S.plan c.vertex) c

    outputs : after.outputs ≡ bag_of output_at_cmp (filter is_new (flat_map out_of (c ∷ H.arrived)))
    outputs =
        ap (join output_at_cmp (comes_out kind c)) told.outputs ∙ sym (bag_of-append output_at_cmp below.outputs_at (comes_out kind c) (filter is_new (flat_map out_of H.arrived)))
        ∙ ap (λ l. bag_of output_at_cmp (l ++ filter is_new (flat_map out_of H.arrived))) (sym (recent_out S.collected kind c recent))
        ∙ ap (bag_of output_at_cmp) (sym (filter_app is_new (comes_out kind c) (flat_map out_of H.arrived)))

    pub delivered_told : IsTold origin (delivered answers S (kind_of S.plan c.vertex) c) (also_delivered answers S H c)
    delivered_told = record {
      balance = balance;
      buffered = buffered (is_notified kind) refl;
      asked = asked (is_notified kind) refl;
      seen = seen (is_distinct kind) refl;
      outputs = outputs;
      left_bag = told.left_bag;
      left = told.left;
      base_states = told.base_states;
    }
