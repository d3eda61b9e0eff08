-- Records that are delivered, by the kind of their vertex: what was sent, or kept.
use Rattle.std.proofs.Common.{◌≡◌, ℕ, zero, suc, ◌+◌, ◌<◌, Bool, true, false, not, ◌&&◌, ◌||◌, ◌⊎◌, inl, inr, List, [], ◌∷◌, ◌++◌, map, flat_map, get_or, set, length, replicate, is_some, refl, ap, sym, ◌∙◌, subst, arith, Contains}
use Rattle.std.specs.List.{AllByRecursion, enumerate_from}
use Rattle.td_stamp.specs.declared.values.Rec.{Rec}
use Rattle.td_stamp.specs.Bag.{join}
use Rattle.td_stamp.specs.BagLaws.{SetLaws}
use Rattle.td_stamp.specs.Time.{Timestamp}
use Rattle.td_plan.specs.declared.vertex.Kind.{Kind}
use Rattle.td_plan.specs.declared.vertex.Edge.{Edge}
use Rattle.td_reach.specs.Paths.{IsOf}
use Rattle.td_plan.specs.declared.vertex.Kind.TheVariants.{Group, Fold, Enter, Feedback, Leave}
use Rattle.td_calls.specs.Answers.{Answers}
use Rattle.td_calls.specs.Callbacks.{Added, is_notified}
use Rattle.td_reach.specs.declared.stamp.Stamp.{Stamp}
use Rattle.td_progress.specs.Bag.{occurrences, is_stamp}
use Rattle.td_machine.specs.declared.records.Stamped.{Stamped}
use Rattle.td_machine.specs.declared.records.OutputAt.{OutputAt}
use Rattle.td_machine.specs.State.{HallState, Task, stamped_cmp, notification_cmp, output_at_cmp, shard_of_key}
use Rattle.td_machine.specs.State.Content.{messages}
use Rattle.td_machine.specs.Active.{stamp_of_asked, stamp_at, kind_of, bound_of}
use Rattle.td_machine.specs.Steps.{posts, stamped, is_asked, asked_at, edges_from, sending_times, IsContent}
use Rattle.td_machine.specs.AtOnce.{added_at_once}
use Rattle.td_machine.specs.ByEdge.{StampsByEdge, stamps_by_edge, times_from, stamp_on, comes_out_at_once}
use Rattle.td_machine.specs.InOrder.{TasksInOrder, NumbersInOrder, StillThere}
use Rattle.td_machine.specs.Reached.{IsReached}
use Rattle.td_machine.specs.Sends.{TasksOfPlan, TurnsOfPlan, CanTurn}
use Rattle.td_machine.specs.Moves.{come_given, newly_asked, stamps_of}
use Rattle.td_shard.specs.Asked.{AskedList, items_at, with_items}
use Rattle.td_shard.specs.declared.shard.Shard.{Shard}
use Rattle.td_core.specs.declared.hall.Parts.{Parts}
use Rattle.td_core.specs.Parts.{state_of, IsHall, asked_in, asked_of_shard}
use Rattle.td_core.specs.Posted.{mails_with, waits}
use Rattle.td_core.specs.Delivered.{IsDelivered, IsSent, IsNoted, CanSend, added_by, waiting_with, waiting_at_shard, asked_now}
use Rattle.td_core.proofs.CloseSteps.{CountsAppend}
use Rattle.td_core.proofs.PostSteps.{none_posted}
use Rattle.td_core.proofs.OutTasks.{of_one}
use Rattle.td_core.proofs.WaitsAsked.{asks, is_in, in_two, in_set, asked_here, not_elsewhere}
use Rattle.td_core.proofs.WaitsAll.{asked_all, asked_by_lists, then_waits, same_waits, past_waits, elsewhere, in_its_own, more}

-- WHETHER A SHARD ASKED for a notification is told by its list
module _ (s v : ℕ) (t : Timestamp) where
  none_later : (k : ℕ) (lists : List AskedList) → s < k → is_in (asks s v t) (asked_all k lists) ≡ false
  none_later k [] l = refl
  none_later k (w ∷ ws) l =
      in_two (asks s v t) (map (asked_of_shard k) w) (asked_all (k + 1) ws)
      ∙ (ap (λ b. b || is_in (asks s v t) (asked_all (k + 1) ws)) (not_elsewhere s v t k (λ e. absurd (omega (arith, e, l))) w) ∙ none_later (k + 1) ws (omega (arith, l)))

  or_false : (b : Bool) → (b || false) ≡ b
  or_false true = refl
  or_false false = refl

  by_its_list : (k i : ℕ) (lists : List AskedList) → s ≡ k + i → is_in (asks s v t) (asked_all k lists) ≡ is_some (items_at (get_or lists i []) v t)
  by_its_list k i [] e = refl
  by_its_list k zero (w ∷ ws) e =
      let same : k ≡ s = omega (arith, e) in
      in_two (asks s v t) (map (asked_of_shard k) w) (asked_all (k + 1) ws)
      ∙ (ap (λ b. is_in (asks s v t) (map (asked_of_shard k) w) || b) (none_later (k + 1) ws (omega (arith, e))) ∙ (or_false (is_in (asks s v t) (map (asked_of_shard k) w))
      ∙ (ap (λ n. is_in (asks s v t) (map (asked_of_shard n) w)) same ∙ asked_here s v t w)))
  by_its_list k (suc i) (w ∷ ws) e =
      in_two (asks s v t) (map (asked_of_shard k) w) (asked_all (k + 1) ws)
      ∙ (ap (λ b. b || is_in (asks s v t) (asked_all (k + 1) ws)) (not_elsewhere s v t k (λ f. absurd (omega (arith, e, f))) w) ∙ by_its_list (k + 1) i ws (omega (arith, e)))

  pub is_asked_there : SetLaws notification_cmp → (h : Parts) → is_asked (state_of h) s v t ≡ is_some (items_at (waiting_at_shard s h) v t)
  is_asked_there laws h =
      in_set laws (asks s v t) (flat_map asked_in (enumerate_from 0 h.shards.items))
      ∙ (ap (is_in (asks s v t)) (asked_by_lists 0 h.shards.items) ∙ by_its_list 0 s (waits h.shards.items) (omega arith))

-- THE LISTS OF ALL SHARDS, with more items in one
module _ (task : Task) (port : ℕ) (recs : List Rec) (noted : is_notified task.kind ≡ true) where
  in_one : (k i : ℕ) (shards : List Shard) → task.shard ≡ k + i → i < length shards
      → set (waits shards) i (with_items (get_or (waits shards) i []) task.vertex task.time (more task port recs)) ≡ then_waits task port recs k shards
  in_one k i [] e l = absurd (omega (arith, l))
  in_one k zero (s ∷ ss) e l =
      sym (λ j. in_its_own task port recs noted k (omega (arith, e)) s j ∷ past_waits task port recs (k + 1) ss (omega (arith, e)) j)
  in_one k (suc i) (s ∷ ss) e l =
      ap (λ w. w ∷ set (waits ss) i (with_items (get_or (waits ss) i []) task.vertex task.time (more task port recs))) (sym (elsewhere task port recs k (λ f. absurd (omega (arith, e, f))) s))
      ∙ ap (λ l. waiting_with task port recs (k, s) ∷ l) (in_one (k + 1) i ss (omega (arith, e)) (omega (arith, l)))

module _ (answers : Answers) (append : CountsAppend) (task : Task) (port : ℕ) (recs : List Rec) (old new : Parts) where
  abbrev v : ℕ
  v = task.vertex

  abbrev t : Timestamp
  t = task.time

  abbrev added : Added
  added = added_by answers old task port recs

  abbrev S : HallState
  S = state_of old

  -- what comes of what is sent, and of what is asked for
  abbrev on_edges : List Rec → List Stamp
  on_edges sent = stamps_of old.table.plan (posts old.table.plan (stamped v t sent))

  come_two : (p : Stamp) → occurrences p (come_given answers S task (messages port recs) ++ old.table.stamps)
      ≡ occurrences p (on_edges added.sent) + occurrences p (map stamp_of_asked (newly_asked S task)) + occurrences p old.table.stamps
  come_two p =
      append p (on_edges added.sent ++ map stamp_of_asked (newly_asked S task)) old.table.stamps
      ∙ ap (λ n. n + occurrences p old.table.stamps) (append p (on_edges added.sent) (map stamp_of_asked (newly_asked S task)))

  -- RECORDS THAT ARE SENT at once
  pub sent_delivered : StampsByEdge → is_notified task.kind ≡ false → (sent : List Rec) (seen : List Stamped) (outputs : List OutputAt) → IsSent v t sent seen outputs old new
      → added.sent ≡ sent → join stamped_cmp (stamped v t added.seen) old.seen ≡ seen → join output_at_cmp (comes_out_at_once task.kind v t recs) old.outputs ≡ outputs
      → IsDelivered answers task port recs old new
  sent_delivered by_edge plain sent seen outputs is sent_is seen_is outputs_is = record {
    fields = is.fields ∙ sym (λ i. record old { table = new.table; shards = new.shards; seen = seen_is i; outputs = outputs_is i });
    plan = is.plan;
    stamps = λ p.
        let none : newly_asked S task ≡ [] = ap (λ b. elim (b && not (is_asked S task.shard v t)) [ true ↦ asked_at S task.shard v t ∷ [] | false ↦ [] ]) plain in
        let asked : occurrences p (map stamp_of_asked (newly_asked S task)) ≡ 0 = ap (λ l. occurrences p (map stamp_of_asked l)) none in
        let edges = by_edge old.table.plan v t sent (is_stamp p) in
        let same = ap (λ l. occurrences p (on_edges l)) sent_is in
        let now = is.stamps p ∙ append p (stamps_by_edge old.table.plan v t (length sent)) old.table.stamps in
        let come = come_two p in
        omega (arith, asked, edges, same, now, come);
    mails = is.mails ∙ ap (λ l. mails_with (posts old.table.plan (stamped v t l)) old.shards.items) (sym sent_is);
    waits = is.waiting ∙ sym (same_waits task port recs plain 0 old.shards.items);
  }

  -- RECORDS THAT WAIT for a notification
  newly_now : is_notified task.kind ≡ true → (a : Bool) → is_asked S task.shard v t ≡ a → map stamp_of_asked (newly_asked S task) ≡ asked_now v t a
  newly_now noted a e =
      (λ i. map stamp_of_asked (elim (noted i && not (e i)) [ true ↦ asked_at S task.shard v t ∷ [] | false ↦ [] ])) ∙ by a
    where
      by : (b : Bool) → map stamp_of_asked (elim (true && not b) [ true ↦ asked_at S task.shard v t ∷ [] | false ↦ [] ]) ≡ asked_now v t b
      by true = refl
      by false = refl

  pub kept_delivered : SetLaws notification_cmp → is_notified task.kind ≡ true → task.shard < length old.shards.items → IsNoted task.shard v t (more task port recs) old new
      → added.sent ≡ [] → added.seen ≡ [] → comes_out_at_once task.kind v t recs ≡ []
      → IsDelivered answers task port recs old new
  kept_delivered sets noted within is sent_is seen_is outputs_is = record {
    fields = is.fields ∙ sym (λ i. record old {
      table = new.table;
      shards = new.shards;
      seen = join stamped_cmp (stamped v t (seen_is i)) old.seen;
      outputs = join output_at_cmp (outputs_is i) old.outputs;
    });
    plan = is.plan;
    stamps = λ p.
        let none : occurrences p (on_edges added.sent) ≡ 0 = ap (λ l. occurrences p (on_edges l)) sent_is in
        let asked = ap (occurrences p) (newly_now noted (is_some (items_at (waiting_at_shard task.shard old) v t)) (is_asked_there task.shard v t sets old)) in
        let now = is.stamps p ∙ append p (asked_now v t (is_some (items_at (waiting_at_shard task.shard old) v t))) old.table.stamps in
        let come = come_two p in
        omega (arith, none, asked, now, come);
    mails = is.mails ∙ (sym (none_posted (length old.shards.items) 0 old.shards.items) ∙ ap (λ l. mails_with (posts old.table.plan (stamped v t l)) old.shards.items) (sym sent_is));
    waits = is.waits ∙ in_one task port recs noted 0 task.shard old.shards.items (omega arith) within;
  }

  -- BY THE KIND of the task's vertex
  abbrev added_as : Kind → Added
  added_as kind = added_at_once answers old.seen kind v port t recs

  pub sent_as : StampsByEdge → (kind : Kind) → task.kind ≡ kind → is_notified kind ≡ false → (sent : List Rec) (seen : List Stamped) (outputs : List OutputAt) → IsSent v t sent seen outputs old new
      → (added_as kind).sent ≡ sent → join stamped_cmp (stamped v t (added_as kind).seen) old.seen ≡ seen → join output_at_cmp (comes_out_at_once kind v t recs) old.outputs ≡ outputs
      → IsDelivered answers task port recs old new
  sent_as by_edge kind e plain sent seen outputs is sent_is seen_is outputs_is =
      sent_delivered by_edge (ap is_notified e ∙ plain) sent seen outputs is (ap (λ k. (added_as k).sent) e ∙ sent_is)
      (ap (λ k. join stamped_cmp (stamped v t (added_as k).seen) old.seen) e ∙ seen_is) (ap (λ k. join output_at_cmp (comes_out_at_once k v t recs) old.outputs) e ∙ outputs_is)

  -- those that pass records on
  pub passed_on : StampsByEdge → (task.kind ≡ Enter) ⊎ (task.kind ≡ Feedback) ⊎ (task.kind ≡ Leave) → IsSent v t recs old.seen old.outputs old new → IsDelivered answers task port recs old new
  passed_on by_edge (inl e) is = sent_as by_edge Enter e refl recs old.seen old.outputs is refl refl refl
  passed_on by_edge (inr (inl e)) is = sent_as by_edge Feedback e refl recs old.seen old.outputs is refl refl refl
  passed_on by_edge (inr (inr e)) is = sent_as by_edge Leave e refl recs old.seen old.outputs is refl refl refl

  -- those that keep them
  pub kept_as : SetLaws notification_cmp → ((code : ℕ) × (task.kind ≡ Group code)) ⊎ ((code : ℕ) × (task.kind ≡ Fold code)) → task.shard < length old.shards.items
      → IsNoted task.shard v t (more task port recs) old new → IsDelivered answers task port recs old new
  kept_as sets (inl (code, e)) within is =
      kept_delivered sets (ap is_notified e) within is (ap (λ k. (added_as k).sent) e) (ap (λ k. (added_as k).seen) e) (ap (λ k. comes_out_at_once k v t recs) e)
  kept_as sets (inr (code, e)) within is =
      kept_delivered sets (ap is_notified e) within is (ap (λ k. (added_as k).sent) e) (ap (λ k. (added_as k).seen) e) (ap (λ k. comes_out_at_once k v t recs) e)

-- NOTHING IS SENT
pub nothing_sent : (old : Parts) (v : ℕ) (t : Timestamp) → IsSent v t [] old.seen old.outputs old old
nothing_sent old v t = record {
  fields = refl;
  plan = refl;
  stamps = λ p. ap (λ l. occurrences p (l ++ old.table.stamps)) (sym (on_none (times_from old.table.plan v t)));
  mails = sym (none_posted (length old.shards.items) 0 old.shards.items);
  waiting = refl;
}
  where
    of_none : (later : Timestamp) (edges : List Edge) → flat_map (λ e. replicate 0 (stamp_on old.table.plan later e)) edges ≡ []
    of_none later [] = refl
    of_none later (e ∷ es) = of_none later es

    on_none : (times : List Timestamp) → flat_map (λ later. flat_map (λ e. replicate 0 (stamp_on old.table.plan later e)) (edges_from old.table.plan v)) times ≡ []
    on_none [] = refl
    on_none (later ∷ times) = ap (λ l. l ++ flat_map (λ u. flat_map (λ e. replicate 0 (stamp_on old.table.plan u e)) (edges_from old.table.plan v)) times) (of_none later (edges_from old.table.plan v)) ∙ on_none times

-- WHAT IS KNOWN OF A TASK that is out, of a vertex and a time
module _ (answers : Answers) (h : Parts) (task : Task) (inv : IsHall answers h) (out : Contains h.out.items task) (v : ℕ) (t : Timestamp) (of_vertex : v ≡ task.vertex) (of_time : t ≡ task.time) where
  pub can_send : ((S : HallState) → IsReached answers S → NumbersInOrder S) → TasksOfPlan answers → TurnsOfPlan → CanSend v t h
  can_send numbers sends turns =
      let known = sends (state_of h) task inv.reached out in
      subst (λ (p : ℕ × Timestamp). CanSend p.0 p.1 h) (sym (λ i. (of_vertex i, of_time i))) (record {
        routes = inv.routes;
        some = (numbers (state_of h) inv.reached).workers;
        few = inv.few;
        enters = λ e. subst (λ k. CanTurn k (bound_of h.table.plan task.vertex) task.time) e (turns h.table.plan task.vertex task.time (numbers (state_of h) inv.reached).plan known.own);
        of_plan = known.sent;
      })

  pub own_place : TasksOfPlan answers → IsOf h.table.plan (stamp_at v t)
  own_place sends = subst (λ (p : ℕ × Timestamp). IsOf h.table.plan (stamp_at p.0 p.1)) (sym (λ i. (of_vertex i, of_time i))) (sends (state_of h) task inv.reached out).own

  pub one_time : ((S : HallState) → IsReached answers S → TasksInOrder S) → (kind : Kind) → task.kind ≡ kind → ((bound : ℕ) → sending_times kind bound t ≡ t ∷ [])
      → sending_times (kind_of h.table.plan v) (bound_of h.table.plan v) t ≡ t ∷ []
  one_time tasks kind e plain =
      let is : task.kind ≡ kind_of h.table.plan task.vertex = (of_one (StillThere (state_of h)) h.out.items task (tasks (state_of h) inv.reached).there out).0 in
      ap (λ w. sending_times (kind_of h.table.plan w) (bound_of h.table.plan v) t) of_vertex ∙ (ap (λ k. sending_times k (bound_of h.table.plan v) t) (sym is ∙ e) ∙ plain (bound_of h.table.plan v))

-- and of its records
module _ (answers : Answers) (h : Parts) (task : Task) (port : ℕ) (recs : List Rec) (inv : IsHall answers h) (out : Contains h.out.items task) (content : task.content ≡ messages port recs)
    (tasks : (S : HallState) → IsReached answers S → TasksInOrder S) (numbers : (S : HallState) → IsReached answers S → NumbersInOrder S) where
  still : IsContent (state_of h) task.shard task.vertex task.time (messages port recs)
  still = subst (IsContent (state_of h) task.shard task.vertex task.time) content (of_one (StillThere (state_of h)) h.out.items task (tasks (state_of h) inv.reached).there out).2

  pub some_records : 0 < length recs
  some_records = still.0

  pub shard_there : task.shard < length h.shards.items
  shard_there = by recs still.0 still.2
    where
      by : (rs : List Rec) → 0 < length rs → AllByRecursion (λ r. shard_of_key (length h.shards.items) r.key ≡ task.shard) rs → task.shard < length h.shards.items
      by [] l k = absurd (omega (arith, l))
      by (r ∷ rs) l k = let mine = k.0 in let some = (numbers (state_of h) inv.reached).workers in omega (arith, mine, some)
