-- A record that is answered: what was sent answers what came, in the history with it.
use Rattle.std.proofs.Common.{◌≡◌, ℕ, ◌<◌, List, [], ◌∷◌, ◌++◌, map, filter, refl, ap, sym, ◌∙◌, subst, Bool, true, false, not, ◌||◌}
use Rattle.std.specs.List.{AllByRecursion}
use Rattle.td_stamp.specs.declared.values.Rec.{Rec}
use Rattle.td_stamp.specs.Orders.{rec_cmp}
use Rattle.td_stamp.specs.Time.{Timestamp}
use Rattle.td_stamp.specs.Bag.{bag_insert, join, bag_of, has}
use Rattle.td_stamp.specs.Groups.{rec_of, groups}
use Rattle.td_plan.specs.declared.vertex.Kind.{Kind}
use Rattle.td_plan.specs.declared.vertex.Kind.TheVariants.{Distinct, Fold}
use Rattle.td_plan.specs.Lines.{Line}
use Rattle.td_calls.specs.Answers.{Answers}
use Rattle.td_calls.specs.Callbacks.{Added, is_notified}
use Rattle.td_batch.specs.Meaning.{answer}
use Rattle.td_machine.specs.declared.records.Message.{Message}
use Rattle.td_machine.specs.declared.records.Stamped.{Stamped}
use Rattle.td_machine.specs.State.{HallState, message_cmp, notification_cmp, is_there, arrival, asked_of, local_at}
use Rattle.td_machine.specs.Active.{kind_of}
use Rattle.td_machine.specs.Steps.{posts, stamped, called, delivered}
use Rattle.td_machine.proofs.History.{Origin, History, IsTold, AreAnswered, IsTime, is_distinct, stamped_of, has_answer, also_delivered, epoch_from, sent_at, came_at, left_by}
use Rattle.td_machine.proofs.PlanFacts.{PlanFacts}
use Rattle.td_machine.proofs.Orders.{there_is}
use Rattle.td_machine.proofs.Lists.{filter_yes, filter_no, all_app, all_map, all_everywhere}
use Rattle.td_machine.proofs.Callings.{groups_send_later, answer_step}
use Rattle.td_machine.proofs.Told.{seen_there, distinct_is, removed}
use Rattle.td_machine.proofs.Times.{posts_times, sent_app, sent_here, sent_elsewhere, came_here, came_elsewhere}
use Rattle.td_machine.proofs.Bags.{bag_of-append, all_join, from_insert}
use Rattle.td_machine.specs.Below.{Below}

module _ (below : Below) where
  is_distinct_of : (kind : Kind) → kind ≡ Distinct → is_distinct kind ≡ true
  is_distinct_of kind e = ap is_distinct e

  not_grouping : (kind : Kind) → is_distinct kind ≡ true → is_notified kind ≡ false
  not_grouping kind e = ap is_notified (distinct_is below kind e)

  -- what came to a distinct at a time is all that came to it
  module _ (plan : List Line) (ready : Message → Bool) (always : (c : Message) → is_notified (kind_of plan c.vertex) ≡ false → ready c ≡ true) (v : ℕ) (t : Timestamp) (k : kind_of plan v ≡ Distinct) where
    abbrev once : Message → Bool
    once = λ c. is_distinct (kind_of plan c.vertex)

    abbrev Left : List Message → List Rec
    Left cs = map (λ (x : Stamped). x.rec) (filter (λ x. is_there v t x.vertex x.time) (map stamped_of cs))

    abbrev Right : List Message → List Rec
    Right cs = map rec_of (came_at cs v t)

    came_distinct : (cs : List Message) → Left (filter once cs) ≡ Right (filter ready cs)
    came_distinct [] = refl
    came_distinct (c ∷ cs) = by (is_there v t c.vertex c.time) refl (is_distinct (kind_of plan c.vertex)) refl (ready c) refl (came_distinct cs)
      where
        left_yes : is_there v t c.vertex c.time ≡ true → (cs : List Message) → Left (c ∷ cs) ≡ c.rec ∷ Left cs
        left_yes e cs = ap (map (λ (x : Stamped). x.rec)) (filter_yes (λ x. is_there v t x.vertex x.time) (stamped_of c) (map stamped_of cs) e)

        left_no : is_there v t c.vertex c.time ≡ false → (cs : List Message) → Left (c ∷ cs) ≡ Left cs
        left_no e cs = ap (map (λ (x : Stamped). x.rec)) (filter_no (λ x. is_there v t x.vertex x.time) (stamped_of c) (map stamped_of cs) e)

        right_no : is_there v t c.vertex c.time ≡ false → (cs : List Message) → Right (c ∷ cs) ≡ Right cs
        right_no e cs = ap (map rec_of) (came_elsewhere v t c cs e)

        mine : is_there v t c.vertex c.time ≡ true → kind_of plan c.vertex ≡ Distinct
        mine e = ap (kind_of plan) (there_is v c.vertex t c.time e).0 ∙ k

        by : (a : Bool) → is_there v t c.vertex c.time ≡ a → (b : Bool) → is_distinct (kind_of plan c.vertex) ≡ b → (d : Bool) → ready c ≡ d
            → Left (filter once cs) ≡ Right (filter ready cs) → Left (filter once (c ∷ cs)) ≡ Right (filter ready (c ∷ cs))
        by true e b f d g rest =
            let yes : is_distinct (kind_of plan c.vertex) ≡ true = is_distinct_of (kind_of plan c.vertex) (mine e) in
            let ans : ready c ≡ true = always c (not_grouping (kind_of plan c.vertex) yes) in
            ap Left (filter_yes once c cs yes) ∙ left_yes e (filter once cs) ∙ ap (λ l. c.rec ∷ l) rest ∙ ap (map rec_of) (sym (came_here v t c (filter ready cs) e)) ∙ ap Right (sym (filter_yes ready c cs ans))
        by false e true f true g rest = ap Left (filter_yes once c cs f) ∙ left_no e (filter once cs) ∙ rest ∙ sym (right_no e (filter ready cs)) ∙ ap Right (sym (filter_yes ready c cs g))
        by false e true f false g rest = ap Left (filter_yes once c cs f) ∙ left_no e (filter once cs) ∙ rest ∙ ap Right (sym (filter_no ready c cs g))
        by false e false f true g rest = ap Left (filter_no once c cs f) ∙ rest ∙ sym (right_no e (filter ready cs)) ∙ ap Right (sym (filter_yes ready c cs g))
        by false e false f false g rest = ap Left (filter_no once c cs f) ∙ rest ∙ ap Right (sym (filter_no ready c cs g))

  module _ (answers : Answers) (origin : Origin) (S : HallState) (H : History) (facts : PlanFacts S.plan) (c : Message) (rest : List Message)
      (here : S.messages ≡ bag_insert message_cmp c rest) (told : IsTold origin S H) (known : AreAnswered answers origin S H)
      (waits : is_notified (kind_of S.plan c.vertex) ≡ true → has notification_cmp (asked_of S.workers c) H.notified ≡ false) (after_base : S.base < c.time.epoch) where
    abbrev kind : Kind
    kind = kind_of S.plan c.vertex

    abbrev added : Added
    added = called answers S kind c

    abbrev ready : Message → Bool
    ready = has_answer S.plan S.workers H.notified

    abbrev new : List Stamped
    new = stamped c.vertex c.time added.sent

    abbrev Placed : Message → Type 0
    Placed c = IsTime origin S.next S.plan c.vertex c.time

    abbrev Sent : Stamped → Type 0
    Sent x = IsTime origin S.next S.plan x.vertex x.time

    placed : Placed c × AllByRecursion Placed rest
    placed = from_insert message_cmp Placed c rest (subst (AllByRecursion Placed) here known.message_times)

    new_times : AllByRecursion Sent new
    new_times = all_map Sent (λ r. record { vertex = c.vertex; time = c.time; rec = r }) added.sent (all_everywhere (λ r. Placed c) (λ r. placed.0) added.sent)

    message_times : AllByRecursion Placed (delivered answers S kind c).messages
    message_times =
        all_join message_cmp Placed (posts S.plan new) _ (posts_times S.plan facts origin S.next new new_times)
        (subst (AllByRecursion Placed) (sym (removed below c S.messages rest here)) placed.1)

    answered : is_notified kind ≡ false → ready c ≡ true
    answered e = λ i. not (e i) || has notification_cmp (asked_of S.workers c) H.notified

    unanswered : is_notified kind ≡ true → ready c ≡ false
    unanswered e = λ i. not (e i) || waits e i

    -- elsewhere nothing more is answered
    came_other : (v : ℕ) (t : Timestamp) → is_there v t c.vertex c.time ≡ false → (b : Bool) → ready c ≡ b → came_at (filter ready (c ∷ H.arrived)) v t ≡ came_at (filter ready H.arrived) v t
    came_other v t e true g = ap (λ l. came_at l v t) (filter_yes ready c H.arrived g) ∙ came_elsewhere v t c (filter ready H.arrived) e
    came_other v t e false g = ap (λ l. came_at l v t) (filter_no ready c H.arrived g)

    came_same : is_notified kind ≡ true → (v : ℕ) (t : Timestamp) → came_at (filter ready (c ∷ H.arrived)) v t ≡ came_at (filter ready H.arrived) v t
    came_same e v t = ap (λ l. came_at l v t) (filter_no ready c H.arrived (unanswered e))

    came_more : is_notified kind ≡ false → (v : ℕ) (t : Timestamp) → is_there v t c.vertex c.time ≡ true → came_at (filter ready (c ∷ H.arrived)) v t ≡ arrival c ∷ came_at (filter ready H.arrived) v t
    came_more e v t here = ap (λ l. came_at l v t) (filter_yes ready c H.arrived (answered e)) ∙ came_here v t c (filter ready H.arrived) here

    abbrev answer_at : ℕ → Timestamp → List Message → List Rec
    answer_at v t cs = answer (epoch_from answers origin H.left t.epoch) v (kind_of S.plan v) (came_at (filter ready cs) v t)

    sent_new : (v : ℕ) (t : Timestamp) → bag_of rec_cmp (sent_at (new ++ H.sent) v t) ≡ join rec_cmp (sent_at new v t) (bag_of rec_cmp (sent_at H.sent v t))
    sent_new v t = ap (bag_of rec_cmp) (sent_app v t new H.sent) ∙ bag_of-append rec_cmp below.recs (sent_at new v t) (sent_at H.sent v t)

    -- what a distinct has seen there is what came there
    has_seen : kind ≡ Distinct → has rec_cmp c.rec (local_at S c.vertex c.time).seen ≡ has rec_cmp c.rec (map rec_of (came_at (filter ready H.arrived) c.vertex c.time))
    has_seen k =
        seen_there below c.vertex c.time c.rec S.seen ∙ told.seen (stamped_of c) after_base ∙ sym (seen_there below c.vertex c.time c.rec (map stamped_of (filter (λ c. is_distinct (kind_of S.plan c.vertex)) H.arrived)))
        ∙ ap (has rec_cmp c.rec) (came_distinct S.plan ready (λ c e. λ i. not (e i) || has notification_cmp (asked_of S.workers c) H.notified) c.vertex c.time k H.arrived)

    sent_here_by : (b : Bool) → is_notified kind ≡ b → IsTime origin S.next S.plan c.vertex c.time → (here : is_there c.vertex c.time c.vertex c.time ≡ true) → bag_of rec_cmp (sent_at (new ++ H.sent) c.vertex c.time) ≡ answer_at c.vertex c.time (c ∷ H.arrived)
    sent_here_by true e p h =
        sent_new c.vertex c.time ∙ ap (λ l. join rec_cmp l (bag_of rec_cmp (sent_at H.sent c.vertex c.time))) (sent_here c.vertex c.time added.sent ∙ groups_send_later below answers kind (local_at S c.vertex c.time) (arrival c) e)
        ∙ known.sent c.vertex c.time p ∙ ap (answer (epoch_from answers origin H.left c.time.epoch) c.vertex kind) (sym (came_same e c.vertex c.time))
    sent_here_by false e p h =
        sent_new c.vertex c.time ∙ ap (λ l. join rec_cmp l (bag_of rec_cmp (sent_at H.sent c.vertex c.time))) (sent_here c.vertex c.time added.sent)
        ∙ ap (join rec_cmp added.sent) (known.sent c.vertex c.time p)
        ∙ sym (answer_step below (epoch_from answers origin H.left c.time.epoch) c.vertex kind (local_at S c.vertex c.time) (arrival c) (came_at (filter ready H.arrived) c.vertex c.time) e has_seen)
        ∙ ap (answer (epoch_from answers origin H.left c.time.epoch) c.vertex kind) (sym (came_more e c.vertex c.time h))

    sent_by : (v : ℕ) (t : Timestamp) (b : Bool) → is_there v t c.vertex c.time ≡ b → IsTime origin S.next S.plan v t → bag_of rec_cmp (sent_at (new ++ H.sent) v t) ≡ answer_at v t (c ∷ H.arrived)
    sent_by v t true e p =
        let s = there_is v c.vertex t c.time e in
        let P : ℕ → Timestamp → Type 0 = λ v t. IsTime origin S.next S.plan v t → is_there v t c.vertex c.time ≡ true → bag_of rec_cmp (sent_at (new ++ H.sent) v t) ≡ answer_at v t (c ∷ H.arrived) in
        subst (λ w. P w t) s.0 (subst (λ u. P c.vertex u) s.1 (sent_here_by (is_notified kind) refl)) p e
    sent_by v t false e p =
        sent_new v t ∙ ap (λ l. join rec_cmp l (bag_of rec_cmp (sent_at H.sent v t))) (sent_elsewhere v c.vertex t c.time added.sent e)
        ∙ known.sent v t p ∙ ap (answer (epoch_from answers origin H.left t.epoch) v (kind_of S.plan v)) (sym (came_other v t e (ready c) refl))

    -- at a fold nothing more is answered
    came_fold : (v code : ℕ) (t : Timestamp) → kind_of S.plan v ≡ Fold code → (b : Bool) → is_there v t c.vertex c.time ≡ b → came_at (filter ready (c ∷ H.arrived)) v t ≡ came_at (filter ready H.arrived) v t
    came_fold v code t k true e = came_same (ap (λ w. is_notified (kind_of S.plan w)) (there_is v c.vertex t c.time e).0 ∙ ap is_notified k) v t
    came_fold v code t k false e = came_other v t e (ready c) refl

    pub delivered_answered : AreAnswered answers origin (delivered answers S (kind_of S.plan c.vertex) c) (also_delivered answers S H c)
    delivered_answered = record {
      sent_times = all_app Sent new H.sent new_times known.sent_times;
      message_times = message_times;
      arrived_times = (placed.0, known.arrived_times);
      sent = λ v t p. sent_by v t (is_there v t c.vertex c.time) refl p;
      left = λ v code e k l h.
          known.left v code e k l h ∙ ap (λ l. map (left_by (epoch_from answers origin H.left e) code e v) (groups l)) (sym (came_fold v code (record { epoch = e; turns = [] }) k (is_there v (record { epoch = e; turns = [] }) c.vertex c.time) refl));
      folds_left = known.folds_left;
    }
