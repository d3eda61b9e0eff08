-- A release keeps the invariant.
use Rattle.std.proofs.Common.{◌≡◌, ℕ, ◌+◌, ◌-◌, ◌<◌, ◌≤◌, List, [], ◌∷◌, ◌++◌, map, filter, drop, length, get_or, refl, ap, sym, ◌∙◌, subst, Bool, true, false, not, ◌&&◌, ◌||◌, arith, suc, zero, ◌==◌}
use Rattle.std.specs.Prelude.{nat_lt}
use Rattle.std.specs.Ordering.{is_eq}
use Rattle.std.proofs.lemmas.Bool.{ltb-true, ltb-false, eqb-true}
use Rattle.std.proofs.lemmas.Cmp.{tied_itself}
use Rattle.std.proofs.lemmas.List.{append-nil}
use Rattle.td_machine.proofs.Orders.{time_total}
use Rattle.std.specs.List.{AllByRecursion}
use Rattle.std.proofs.lemmas.Grind.{flat_map-append}
use Rattle.td_stamp.specs.declared.values.Entry.{Entry}
use Rattle.td_stamp.specs.Orders.{rec_cmp}
use Rattle.td_stamp.specs.Time.{Timestamp}
use Rattle.td_stamp.specs.Bag.{join, bag_of, has}
use Rattle.td_stamp.specs.Batch.{records_for}
use Rattle.td_stamp.specs.Groups.{groups}
use Rattle.td_plan.specs.Inputs.{is_input_of}
use Rattle.td_plan.specs.declared.vertex.Kind.{Kind}
use Rattle.td_plan.specs.declared.vertex.Kind.TheVariants.{Input, Map, Distinct, Group, Fold, Enter, Feedback, Leave, Output}
use Rattle.td_plan.specs.Blocks.{bounds, reading_loops_at}
use Rattle.td_plan.specs.Faults.{is_fold}
use Rattle.td_calls.specs.Callbacks.{is_notified}
use Rattle.td_batch.specs.Meaning.{EpochInput, answer}
use Rattle.td_batch.specs.Flow.{AreBelow}
use Rattle.td_reach.specs.declared.stamp.Stamp.{Stamp}
use Rattle.td_reach.specs.Paths.{Could}
use Rattle.td_calls.specs.Answers.{Answers}
use Rattle.td_machine.specs.declared.records.Message.{Message}
use Rattle.td_machine.specs.declared.records.Stamped.{Stamped}
use Rattle.td_machine.specs.declared.records.StateLeft.{StateLeft}
use Rattle.td_machine.specs.declared.records.Notification.{Notification}
use Rattle.td_machine.specs.State.{HallState, Task, Content, message_cmp, notification_cmp, shard_of_key, is_there, arrival, asked_of}
use Rattle.td_machine.specs.State.Content.{messages, notification}
use Rattle.td_machine.specs.Active.{kind_of, inputs_of, active, IsFree, stamp_at, stamp_of_message, stamp_of_asked, stamp_of_input, stamps_of_inputs}
use Rattle.td_machine.specs.Steps.{posts, posted, entered, with_batch, accepts, coming}
use Rattle.td_machine.proofs.History.{Origin, History, IsTold, AreAnswered, Running, StandsOut, Invariant, IsTime, IsOnEdge, has_answer, asking, epoch_from, sent_at, came_at, is_left_at, left_by, recs_in}
use Rattle.td_machine.proofs.PlanFacts.{PlanFacts}
use Rattle.td_machine.specs.Examples.{could-epoch}
use Rattle.td_machine.proofs.Orders.{there_is}
use Rattle.td_machine.proofs.Lists.{all_app, all_map, all_flat, all_weaken, all_everywhere, all_filter, all_both, filter_yes, filter_no, filter_none}
use Rattle.td_machine.proofs.Asking.{all_asking}
use Rattle.td_machine.proofs.Callings.{answer_nothing}
use Rattle.td_machine.proofs.Times.{posts_times, posted_epochs, sent_app}
use Rattle.td_machine.proofs.Delivered.{all_has, from_active, to_active, posted_one}
use Rattle.td_machine.proofs.Plain.{all_true}
use Rattle.td_machine.proofs.Bags.{join-assoc, join-swap, join-IsBag, bag_of-append, all_join}
use Rattle.td_machine.specs.Below.{Below}

module _ (below : Below) where
  no_answer_is : (g h : Bool) → not (not g || h) ≡ true → (g ≡ true) × (h ≡ false)
  no_answer_is true true e = cc
  no_answer_is true false e = (refl, refl)
  no_answer_is false h e = cc

  -- what is asked for is of a time that was released, at a group or a fold, was not notified, and a record asks for it
  pub asked_is : (answers : Answers) (origin : Origin) (S : HallState) (H : History) → Running answers origin S H → (a : Notification) → has notification_cmp a S.asked ≡ true
      → IsTime origin S.next S.plan a.vertex a.time × (is_notified (kind_of S.plan a.vertex) ≡ true) × (has notification_cmp a H.notified ≡ false) × (has notification_cmp a (asking S.plan S.workers H.arrived) ≡ true)
  asked_is answers origin S H runs a h =
      let P : Notification → Type 0 = λ a. IsTime origin S.next S.plan a.vertex a.time × (is_notified (kind_of S.plan a.vertex) ≡ true) × (has notification_cmp a H.notified ≡ false) × (has notification_cmp a (asking S.plan S.workers H.arrived) ≡ true) in
      let no : Message → Bool = λ c. not (has_answer S.plan S.workers H.notified c) in
      let Timed : Message → Type 0 = λ c. IsTime origin S.next S.plan c.vertex c.time in
      let Asks : Message → Type 0 = λ c. is_notified (kind_of S.plan c.vertex) ≡ true → has notification_cmp (asked_of S.workers c) (asking S.plan S.workers H.arrived) ≡ true in
      let known : AllByRecursion (λ c. Timed c × Asks c) H.arrived = all_both Timed Asks H.arrived runs.answered.arrived_times (all_asking S.plan S.workers H.arrived) in
      all_has below P a (map (asked_of S.workers) (filter no H.arrived)) (all_map P (asked_of S.workers) (filter no H.arrived) (all_weaken (λ c. (Timed c × Asks c) × (no c ≡ true)) (λ c. P (asked_of S.workers c))
      (λ c k. let n = no_answer_is (is_notified (kind_of S.plan c.vertex)) (has notification_cmp (asked_of S.workers c) H.notified) k.1 in (k.0.0, n.0, n.1, k.0.1 n.0)) (filter no H.arrived) (all_filter (λ c. Timed c × Asks c) no H.arrived known))) (sym (runs.told.asked a) ∙ h)

  pub get_before : {X : Type 0} (xs ys : List X) (i : ℕ) (d : X) → i < length xs → get_or (xs ++ ys) i d ≡ get_or xs i d
  get_before [] ys i d h = absurd (omega (arith, h))
  get_before (x ∷ xs) ys zero d h = refl
  get_before (x ∷ xs) ys (suc i) d h = get_before xs ys i d (omega (arith, h))

  get_last : {X : Type 0} (xs : List X) (x : X) (i : ℕ) (d : X) → i ≡ length xs → get_or (xs ++ x ∷ []) i d ≡ x
  get_last [] x zero d h = refl
  get_last [] x (suc i) d h = absurd (omega (arith, h))
  get_last (y ∷ xs) x zero d h = absurd (omega (arith, h))
  get_last (y ∷ xs) x (suc i) d h = get_last xs x i d (omega (arith, h))

  drop_before : {X : Type 0} (n : ℕ) (xs ys : List X) → n ≤ length xs → drop n (xs ++ ys) ≡ drop n xs ++ ys
  drop_before zero xs ys h = refl
  drop_before (suc n) [] ys h = absurd (omega (arith, h))
  drop_before (suc n) (x ∷ xs) ys h = drop_before n xs ys (omega (arith, h))

  length_push : {X : Type 0} (xs : List X) (x : X) → length (xs ++ x ∷ []) ≡ length xs + 1
  length_push [] x = refl
  length_push (y ∷ xs) x = let e = length_push xs x in omega (arith, e)

  pub no_turns : (turns : List ℕ) → AreBelow turns [] → turns ≡ []
  no_turns [] h = refl
  no_turns (k ∷ turns) h = absurd h

  -- elsewhere, of another epoch
  not_there : (v w : ℕ) (t u : Timestamp) → ((u.epoch ≡ t.epoch) → ⊥) → is_there v t w u ≡ false
  not_there v w t u n = by (is_there v t w u) refl
    where
      by : (b : Bool) → is_there v t w u ≡ b → is_there v t w u ≡ false
      by false e = e
      by true e = absurd (n (ap (λ (x : Timestamp). x.epoch) (there_is v w t u e).1))

  and_yes : (b : Bool) → (b && true) ≡ b
  and_yes true = refl
  and_yes false = refl

  other : (m n : ℕ) → ((m ≡ n) → ⊥) → (m == n) ≡ false
  other m n h = by (m == n) refl
    where
      by : (b : Bool) → (m == n) ≡ b → (m == n) ≡ false
      by false e = e
      by true e = absurd (h (eqb-true m n e))

  module _ (answers : Answers) (origin : Origin) (S : HallState) (H : History) (facts : PlanFacts S.plan) (batch : List Entry) (accepted : accepts S.plan batch ≡ true) (inv : Invariant answers origin S H) where
    abbrev after : HallState
    after = with_batch S batch

    abbrev pub origin_after : Origin
    origin_after = record origin { batches = origin.batches ++ batch ∷ [] }

    abbrev new : List Stamped
    new = map (entered S.next) batch

    abbrev pub also_released : History
    also_released = record H { sent = map (entered S.next) batch ++ H.sent }

    abbrev runs : Running answers origin S H
    runs = inv.running

    abbrev told : IsTold origin S H
    told = inv.running.told

    abbrev known : AreAnswered answers origin S H
    known = inv.running.answered

    abbrev ready : Message → Bool
    ready = has_answer S.plan S.workers H.notified

    abbrev Released : ℕ → Timestamp → Type 0
    Released v t = IsTime origin S.next S.plan v t

    abbrev ReleasedNow : ℕ → Timestamp → Type 0
    ReleasedNow v t = IsTime origin_after (S.next + 1) S.plan v t

    wider : (v : ℕ) (t : Timestamp) → Released v t → ReleasedNow v t
    wider v t h = (h.0, omega (arith, h.1), h.2)

    -- the entries name inputs
    are_inputs : AllByRecursion (λ (e : Entry). kind_of S.plan e.input ≡ Input) batch
    are_inputs = all_weaken (λ (e : Entry). is_input_of S.plan e.input ≡ true) (λ e. kind_of S.plan e.input ≡ Input) (λ e h. facts.accepted e.input h) batch
        (all_true below answers origin S H (λ (e : Entry). is_input_of S.plan e.input) batch accepted)

    first_next : origin.first ≤ S.next
    first_next = omega (arith, inv.stands.next)

    new_times : AllByRecursion (λ (x : Stamped). ReleasedNow x.vertex x.time) new
    new_times = all_map (λ (x : Stamped). ReleasedNow x.vertex x.time) (entered S.next) batch (all_weaken (λ (e : Entry). kind_of S.plan e.input ≡ Input) (λ e. ReleasedNow e.input (record { epoch = S.next; turns = [] }))
        (λ e k. (first_next, omega arith, subst (λ l. AreBelow [] (bounds l)) (sym (facts.inputs e.input k)) tt)) batch are_inputs)

    balance : join message_cmp after.messages (bag_of message_cmp H.arrived) ≡ bag_of message_cmp (posts S.plan (new ++ H.sent))
    balance =
        join-assoc message_cmp below.messages (posts S.plan new) S.messages (bag_of message_cmp H.arrived) ∙ ap (join message_cmp (posts S.plan new)) told.balance
        ∙ sym (bag_of-append message_cmp below.messages (posts S.plan new) (posts S.plan H.sent)) ∙ ap (bag_of message_cmp) (sym (flat_map-append (posted S.plan) new H.sent))

    -- of an epoch released before
    same_epoch : (e : ℕ) → origin.first ≤ e → e < S.next → epoch_from answers origin_after H.left e ≡ epoch_from answers origin H.left e
    same_epoch e m l = λ i. record (epoch_from answers origin H.left e) { batch = get_before origin.batches (batch ∷ []) (e - origin.first) [] (omega (arith, m, l, inv.stands.next)) i }

    sent_new_earlier : (v : ℕ) (t : Timestamp) → t.epoch < S.next → sent_at new v t ≡ []
    sent_new_earlier v t l = ap (map (λ (x : Stamped). x.rec)) (filter_none (λ (x : Stamped). is_there v t x.vertex x.time) new (all_map (λ (x : Stamped). is_there v t x.vertex x.time ≡ false) (entered S.next) batch
        (all_everywhere (λ (e : Entry). is_there v t e.input (record { epoch = S.next; turns = [] }) ≡ false) (λ e. not_there v e.input t (record { epoch = S.next; turns = [] }) (λ s. omega (arith, l, s))) batch)))

    -- before its release, nothing of an epoch was sent or came
    sent_old : (v : ℕ) (t : Timestamp) → t.epoch ≡ S.next → sent_at H.sent v t ≡ []
    sent_old v t l = ap (map (λ (x : Stamped). x.rec)) (filter_none (λ (x : Stamped). is_there v t x.vertex x.time) H.sent (all_weaken (λ (x : Stamped). Released x.vertex x.time) (λ (x : Stamped). is_there v t x.vertex x.time ≡ false)
        (λ x h. not_there v x.vertex t x.time (λ s. omega (arith, l, s, h.1))) H.sent known.sent_times))

    came_old : (v : ℕ) (t : Timestamp) → t.epoch ≡ S.next → came_at (filter ready H.arrived) v t ≡ []
    came_old v t l = ap (map arrival) (filter_none (λ (c : Message). is_there v t c.vertex c.time) (filter ready H.arrived) (all_weaken (λ (c : Message). Released c.vertex c.time × (ready c ≡ true)) (λ (c : Message). is_there v t c.vertex c.time ≡ false)
        (λ c h. not_there v c.vertex t c.time (λ s. omega (arith, l, s, h.0.1))) (filter ready H.arrived) (all_filter (λ (c : Message). Released c.vertex c.time) ready H.arrived known.arrived_times)))

    -- what inputs send
    sent_input : (v : ℕ) (t : Timestamp) → t ≡ record { epoch = S.next; turns = [] } → (es : List Entry) → sent_at (map (entered S.next) es) v t ≡ records_for v es
    sent_input v t s [] = refl
    sent_input v t s (e ∷ es) = by (e.input == v) refl (sent_input v t s es)
      where
        same : is_there v t e.input (record { epoch = S.next; turns = [] }) ≡ (e.input == v)
        same = ap (λ u. is_there v u e.input (record { epoch = S.next; turns = [] })) s ∙ (λ i. (e.input == v) && is_eq (tied_itself time_total (record { epoch = S.next; turns = [] }) i)) ∙ and_yes (e.input == v)

        by : (b : Bool) → (e.input == v) ≡ b → sent_at (map (entered S.next) es) v t ≡ records_for v es → sent_at (map (entered S.next) (e ∷ es)) v t ≡ records_for v (e ∷ es)
        by true f rest =
            ap (map (λ (x : Stamped). x.rec)) (filter_yes (λ (x : Stamped). is_there v t x.vertex x.time) (entered S.next e) (map (entered S.next) es) (same ∙ f)) ∙ ap (λ l. e.rec ∷ l) rest
            ∙ ap (map (λ (e : Entry). e.rec)) (sym (filter_yes (λ (e : Entry). e.input == v) e es f))
        by false f rest =
            ap (map (λ (x : Stamped). x.rec)) (filter_no (λ (x : Stamped). is_there v t x.vertex x.time) (entered S.next e) (map (entered S.next) es) (same ∙ f)) ∙ rest
            ∙ ap (map (λ (e : Entry). e.rec)) (sym (filter_no (λ (e : Entry). e.input == v) e es f))

    no_input : (v : ℕ) (t : Timestamp) → ((kind_of S.plan v ≡ Input) → ⊥) → sent_at new v t ≡ []
    no_input v t n = ap (map (λ (x : Stamped). x.rec)) (filter_none (λ (x : Stamped). is_there v t x.vertex x.time) new (all_map (λ (x : Stamped). is_there v t x.vertex x.time ≡ false) (entered S.next) batch
        (all_weaken (λ (e : Entry). kind_of S.plan e.input ≡ Input) (λ (e : Entry). is_there v t e.input (record { epoch = S.next; turns = [] }) ≡ false) (λ e k. by (is_there v t e.input (record { epoch = S.next; turns = [] })) e k refl) batch are_inputs)))
      where
        by : (b : Bool) (e : Entry) → kind_of S.plan e.input ≡ Input → is_there v t e.input (record { epoch = S.next; turns = [] }) ≡ b → is_there v t e.input (record { epoch = S.next; turns = [] }) ≡ false
        by false e k f = f
        by true e k f = absurd (n (ap (kind_of S.plan) (sym (there_is v e.input t (record { epoch = S.next; turns = [] }) f).0) ∙ k))

    abbrev now : EpochInput
    now = epoch_from answers origin_after H.left S.next

    batch_now : now.batch ≡ batch
    batch_now = get_last origin.batches batch (S.next - origin.first) [] (omega (arith, inv.stands.next))

    sent_now : (v : ℕ) (t : Timestamp) (kind : Kind) → kind_of S.plan v ≡ kind → t.epoch ≡ S.next → AreBelow t.turns (bounds (reading_loops_at S.plan v)) → bag_of rec_cmp (sent_at new v t) ≡ answer now v kind []
    sent_now v t Input k e b =
        let turns : t.turns ≡ [] = no_turns t.turns (subst (λ l. AreBelow t.turns (bounds l)) (facts.inputs v k) b) in
        ap (bag_of rec_cmp) (sent_input v t (λ i. record { epoch = e i; turns = turns i }) batch) ∙ ap (λ l. bag_of rec_cmp (records_for v l)) (sym batch_now)
    sent_now v t (Map code) k e b = ap (bag_of rec_cmp) (no_input v t (λ i. let no : Map code ≡ Input = sym k ∙ i in cc)) ∙ sym (answer_nothing below now v (Map code) (λ p. cc))
    sent_now v t Distinct k e b = ap (bag_of rec_cmp) (no_input v t (λ i. let no : Distinct ≡ Input = sym k ∙ i in cc)) ∙ sym (answer_nothing below now v Distinct (λ p. cc))
    sent_now v t (Group code) k e b = ap (bag_of rec_cmp) (no_input v t (λ i. let no : Group code ≡ Input = sym k ∙ i in cc)) ∙ sym (answer_nothing below now v (Group code) (λ p. cc))
    sent_now v t (Fold code) k e b = ap (bag_of rec_cmp) (no_input v t (λ i. let no : Fold code ≡ Input = sym k ∙ i in cc)) ∙ sym (answer_nothing below now v (Fold code) (λ p. cc))
    sent_now v t Enter k e b = ap (bag_of rec_cmp) (no_input v t (λ i. let no : Enter ≡ Input = sym k ∙ i in cc)) ∙ sym (answer_nothing below now v Enter (λ p. cc))
    sent_now v t Feedback k e b = ap (bag_of rec_cmp) (no_input v t (λ i. let no : Feedback ≡ Input = sym k ∙ i in cc)) ∙ sym (answer_nothing below now v Feedback (λ p. cc))
    sent_now v t Leave k e b = ap (bag_of rec_cmp) (no_input v t (λ i. let no : Leave ≡ Input = sym k ∙ i in cc)) ∙ sym (answer_nothing below now v Leave (λ p. cc))
    sent_now v t Output k e b = ap (bag_of rec_cmp) (no_input v t (λ i. let no : Output ≡ Input = sym k ∙ i in cc)) ∙ sym (answer_nothing below now v Output (λ p. cc))

    sent : (v : ℕ) (t : Timestamp) → ReleasedNow v t → bag_of rec_cmp (sent_at (new ++ H.sent) v t) ≡ answer (epoch_from answers origin_after H.left t.epoch) v (kind_of S.plan v) (came_at (filter ready H.arrived) v t)
    sent v t h = by (nat_lt t.epoch S.next) refl
      where
        by : (b : Bool) → nat_lt t.epoch S.next ≡ b → bag_of rec_cmp (sent_at (new ++ H.sent) v t) ≡ answer (epoch_from answers origin_after H.left t.epoch) v (kind_of S.plan v) (came_at (filter ready H.arrived) v t)
        by true f =
            let l : t.epoch < S.next = ltb-true t.epoch S.next f in
            ap (bag_of rec_cmp) (sent_app v t new H.sent ∙ ap (λ l. l ++ sent_at H.sent v t) (sent_new_earlier v t l)) ∙ known.sent v t (h.0, l, h.2)
            ∙ ap (λ ep. answer ep v (kind_of S.plan v) (came_at (filter ready H.arrived) v t)) (sym (same_epoch t.epoch h.0 l))
        by false f =
            let e : t.epoch ≡ S.next = omega (arith, ltb-false t.epoch S.next f, h.1) in
            ap (bag_of rec_cmp) (sent_app v t new H.sent ∙ ap (λ l. sent_at new v t ++ l) (sent_old v t e) ∙ append-nil (sent_at new v t)) ∙ sent_now v t (kind_of S.plan v) refl e h.2
            ∙ (λ i. answer (epoch_from answers origin_after H.left (sym e i)) v (kind_of S.plan v) (sym (came_old v t e) i))

    left : (v code e : ℕ) → kind_of S.plan v ≡ Fold code → origin.first ≤ e → e < S.next + 1
        → filter (is_left_at e v) H.left ≡ map (left_by (epoch_from answers origin_after H.left e) code e v) (groups (came_at (filter ready H.arrived) v (record { epoch = e; turns = [] })))
    left v code e k m h = by (nat_lt e S.next) refl
      where
        by : (b : Bool) → nat_lt e S.next ≡ b → filter (is_left_at e v) H.left ≡ map (left_by (epoch_from answers origin_after H.left e) code e v) (groups (came_at (filter ready H.arrived) v (record { epoch = e; turns = [] })))
        by true f =
            let l : e < S.next = ltb-true e S.next f in
            known.left v code e k m l ∙ ap (λ ep. map (left_by ep code e v) (groups (came_at (filter ready H.arrived) v (record { epoch = e; turns = [] })))) (sym (same_epoch e m l))
        by false f =
            let s : e ≡ S.next = omega (arith, ltb-false e S.next f, h) in
            filter_none (is_left_at e v) H.left (all_weaken (λ (k : StateLeft). (is_fold (kind_of S.plan k.vertex) ≡ true) × (origin.first ≤ k.epoch) × (k.epoch < S.next)) (λ k. is_left_at e v k ≡ false)
            (λ k g. λ i. other k.epoch e (λ p. omega (arith, p, s, g.2)) i && (k.vertex == v)) H.left known.folds_left)
            ∙ ap (λ l. map (left_by (epoch_from answers origin_after H.left e) code e v) (groups l)) (sym (came_old v (record { epoch = e; turns = [] }) s))

    -- WHAT NOTHING HELD BACK, of an epoch released before
    active_after : (P : Stamp → Type 0) → ((c : Message) → c.time.epoch ≡ S.next → P (stamp_of_message S.plan c)) → ((v : ℕ) → P (stamp_of_input (S.next + 1) v)) → AllByRecursion P (active S) → AllByRecursion P (active after)
    active_after P post ask h =
        let was = from_active below S P h in
        to_active below after P (
          all_join message_cmp (λ c. P (stamp_of_message S.plan c)) (posts S.plan new) S.messages
              (all_weaken (λ (c : Message). c.time.epoch ≡ S.next) (λ c. P (stamp_of_message S.plan c)) post (posts S.plan new) new_epochs) was.0,
          was.1,
          by S.closed,
        )
      where
        new_epochs : AllByRecursion (λ (c : Message). c.time.epoch ≡ S.next) (posts S.plan new)
        new_epochs = all_flat (λ (c : Message). c.time.epoch ≡ S.next) (posted S.plan) new (all_map (λ (x : Stamped). AllByRecursion (λ (c : Message). c.time.epoch ≡ S.next) (posted S.plan x)) (entered S.next) batch
            (all_everywhere (λ (e : Entry). AllByRecursion (λ (c : Message). c.time.epoch ≡ S.next) (posted S.plan (entered S.next e))) (λ e. posted_epochs S.plan (entered S.next e)) batch))

        by : (closed : Bool) → AllByRecursion P (stamps_of_inputs S.plan (S.next + 1) closed)
        by true = tt
        by false = all_map P (stamp_of_input (S.next + 1)) (inputs_of S.plan) (all_everywhere (λ v. P (stamp_of_input (S.next + 1) v)) ask (inputs_of S.plan))

    stays_free : (v : ℕ) (t : Timestamp) → t.epoch < S.next → IsFree S (stamp_at v t) → IsFree after (stamp_at v t)
    stays_free v t l free =
        active_after (λ q. ((q ≡ stamp_at v t) → ⊥) → Could S.plan q (stamp_at v t) → ⊥) (λ c e ne k. omega (arith, l, e, could-epoch S.plan _ _ k)) (λ w ne k. omega (arith, l, could-epoch S.plan _ _ k)) free

    still_out : (task : Task) (content : Content) → StandsOut S task content → StandsOut after task content
    still_out task (messages port recs) h =
        (join message_cmp (posts S.plan new) h.0, ap (join message_cmp (posts S.plan new)) h.1 ∙ join-swap message_cmp below.messages (posts S.plan new) (coming task.vertex port task.time recs) h.0)
    still_out task (notification items) h = (h.0, stays_free task.vertex task.time (asked_is answers origin S H runs (record { shard = task.shard; vertex = task.vertex; time = task.time }) h.0).0.1 h.1, h.2)

    pub released_keeps : Invariant answers origin_after (with_batch S batch) also_released
    released_keeps = record {
      stands = record {
        plan = inv.stands.plan;
        workers = inv.stands.workers;
        first = inv.stands.first;
        states = inv.stands.states;
        collected = (inv.stands.collected.0, omega (arith, inv.stands.collected.1));
        base = (inv.stands.base.0, omega (arith, inv.stands.base.1));
        next = let n = length_push origin.batches batch in omega (arith, n, inv.stands.next);
        batches = ap (λ l. l ++ batch ∷ []) inv.stands.batches ∙ sym (drop_before (S.base + 1 - origin.first) origin.batches (batch ∷ []) (omega (arith, inv.stands.base.1, inv.stands.next)));
      };
      running = record {
        told = record { balance = balance; buffered = told.buffered; asked = told.asked; seen = told.seen; outputs = told.outputs; left_bag = told.left_bag; left = told.left; base_states = told.base_states };
        answered = record {
          sent_times = all_app (λ (x : Stamped). ReleasedNow x.vertex x.time) new H.sent new_times (all_weaken (λ (x : Stamped). Released x.vertex x.time) (λ (x : Stamped). ReleasedNow x.vertex x.time) (λ x h. wider x.vertex x.time h) H.sent known.sent_times);
          message_times = all_join message_cmp (λ (c : Message). ReleasedNow c.vertex c.time) (posts S.plan new) S.messages (posts_times S.plan facts origin_after (S.next + 1) new new_times)
              (all_weaken (λ (c : Message). Released c.vertex c.time) (λ (c : Message). ReleasedNow c.vertex c.time) (λ c h. wider c.vertex c.time h) S.messages known.message_times);
          arrived_times = all_weaken (λ (c : Message). Released c.vertex c.time) (λ (c : Message). ReleasedNow c.vertex c.time) (λ c h. wider c.vertex c.time h) H.arrived known.arrived_times;
          sent = sent;
          left = left;
          folds_left = all_weaken (λ (k : StateLeft). (is_fold (kind_of S.plan k.vertex) ≡ true) × (origin.first ≤ k.epoch) × (k.epoch < S.next)) (λ (k : StateLeft). (is_fold (kind_of S.plan k.vertex) ≡ true) × (origin.first ≤ k.epoch) × (k.epoch < S.next + 1)) (λ k h. (h.0, h.1, omega (arith, h.2))) H.left known.folds_left;
        };
        on_edges = all_join message_cmp (IsOnEdge S.plan) (posts S.plan new) S.messages
            (all_flat (IsOnEdge S.plan) (posted S.plan) new (all_map (λ (x : Stamped). AllByRecursion (IsOnEdge S.plan) (posted S.plan x)) (entered S.next) batch (all_everywhere (λ (e : Entry). AllByRecursion (IsOnEdge S.plan) (posted S.plan (entered S.next e)))
            (λ e. posted_one below S.plan facts (IsOnEdge S.plan) e.input (record { epoch = S.next; turns = [] }) (λ edge later r found s w. (edge, found, refl)) e.rec) batch))) runs.on_edges;
        messages_bag = join-IsBag message_cmp below.messages (posts S.plan new) S.messages runs.messages_bag;
        later = active_after (λ (p : Stamp). (S.base < p.time.epoch) × (S.collected < p.time.epoch)) (λ c e. (omega (arith, e, inv.stands.base.1), omega (arith, e, inv.stands.collected.1))) (λ v. (omega (arith, inv.stands.base.1), omega (arith, inv.stands.collected.1))) runs.later;
        settled = all_weaken (λ (a : Notification). IsFree S (stamp_of_asked a) × Released a.vertex a.time) (λ (a : Notification). IsFree after (stamp_of_asked a)) (λ a h. stays_free a.vertex a.time h.1.1 h.0) H.notified
            (all_both (λ (a : Notification). IsFree S (stamp_of_asked a)) (λ (a : Notification). Released a.vertex a.time) H.notified runs.settled runs.notified_times);
        notified_times = all_weaken (λ (a : Notification). Released a.vertex a.time) (λ (a : Notification). ReleasedNow a.vertex a.time) (λ a h. wider a.vertex a.time h) H.notified runs.notified_times;
        notified_once = inv.running.notified_once;
        notified_asked = inv.running.notified_asked;
      };
      tasks = record {
        stand = all_weaken (λ task. (task.kind ≡ kind_of S.plan task.vertex) × AllByRecursion (λ r. shard_of_key S.workers r.key ≡ task.shard) (recs_in task.content) × StandsOut S task task.content)
            (λ task. (task.kind ≡ kind_of S.plan task.vertex) × AllByRecursion (λ r. shard_of_key S.workers r.key ≡ task.shard) (recs_in task.content) × StandsOut after task task.content)
            (λ task h. (h.0, h.1, still_out task task.content h.2)) S.out inv.tasks.stand;
        once = inv.tasks.once;
      };
    }
