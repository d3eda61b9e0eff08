-- Every step keeps the invariant, so each play from the opening has a history.
use Rattle.std.proofs.Common.{◌≡◌, ℕ, ◌+◌, ◌-◌, ◌<◌, ◌≤◌, List, [], ◌∷◌, ◌++◌, filter, length, get_or, refl, ap, sym, ◌∙◌, subst, Bool, true, false, not, ◌==◌, arith, suc, zero, append_assoc}
use Rattle.std.specs.Prelude.{Contains, Option, Some, None, find, length, nat_lt, cond, drop}
use Rattle.std.specs.List.{AllByRecursion}
use Rattle.std.proofs.lemmas.List.{append-nil}
use Rattle.std.proofs.lemmas.Bool.{ltb-true, ltb-false}
use Rattle.td_plan.specs.declared.vertex.Kind.{Kind}
use Rattle.td_stamp.specs.declared.values.Entry.{Entry}
use Rattle.td_stamp.specs.States.{StateList, AreStates}
use Rattle.td_plan.specs.Lines.{Line}
use Rattle.td_plan.specs.Faults.{IsPlan}
use Rattle.td_batch.specs.Flow.{numbers_from}
use Rattle.td_reach.specs.declared.stamp.Stamp.{Stamp}
use Rattle.td_calls.specs.Answers.{Answers}
use Rattle.td_machine.specs.declared.records.Message.{Message}
use Rattle.td_machine.specs.State.{HallState, Task, Content, KeyItems, shard_of_key, states_at}
use Rattle.td_machine.specs.State.Content.{messages, notification}
use Rattle.td_machine.specs.Active.{kind_of, active, stamp_of_input, inputs_of, has_passed, unpassed}
use Rattle.td_machine.specs.Steps.{Event, Answer, Step, Plays, Takes, Gives, opened, release_by, ends, collect_step, cut_by, cut_at_by, cut_to, with_task, accepts, coming, delivered, effect, is_given, all_delivered, notified, asked_at, to_notify}
use Rattle.td_machine.specs.Steps.Refusal.{stranger, busy, not_passed, inputs_closed, out_of_epochs, spent}
use Rattle.td_machine.specs.Steps.Answer.{refused, has_taken, has_given, has_cut, has_closed}
use Rattle.td_machine.specs.Steps.Event.{release, taking, give, collect, cut, cut_at, close}
use Rattle.td_machine.specs.Steps.Takes.{is_busy, has_none, is_spent, takes}
use Rattle.td_machine.specs.Steps.Gives.{gives, is_stranger}
use Rattle.td_machine.specs.Sound.{batch_by, batches_of}
use Rattle.td_machine.specs.Tally.{records_in, notes_in, tally_by, tally}
use Rattle.td_machine.proofs.History.{Origin, History, no_history, Running, Stands, OneAShard, StandsOut, Invariant, recs_in, also_notified, Gained}
use Rattle.td_machine.proofs.PlanFacts.{PlanFacts}
use Rattle.td_machine.proofs.Lists.{all_weaken, all_filter, all_map, all_everywhere, filter_yes, filter_no}
use Rattle.td_machine.proofs.Plain.{taken_keeps, closed_keeps, collected_keeps, passed_from, eqb-same}
use Rattle.td_machine.proofs.Cuts.{cut_keeps}
use Rattle.td_machine.proofs.Releases.{released_keeps, origin_after, also_released}
use Rattle.td_machine.proofs.Notified.{notified_runs}
use Rattle.td_machine.proofs.Given.{OutBeside, RunsOn, all_delivered_run, others_stand_now}
use Rattle.td_machine.specs.Below.{Below}

module _ (below : Below) where
  pub at_index : (P : Task → Type 0) (xs : List Task) (i : ℕ) (x : Task) → AllByRecursion P xs → i < length xs → get_or xs i x ≡ x → P x
  at_index P [] i x h l e = absurd (omega (arith, l))
  at_index P (y ∷ ys) zero x h l e = subst P e h.0
  at_index P (y ∷ ys) (suc i) x h l e = at_index P ys i x h.1 (omega (arith, l)) e

  pub fewer_shards : (p : Task → Bool) (xs : List Task) → OneAShard xs → OneAShard (filter p xs)
  fewer_shards p [] h = tt
  fewer_shards p (x ∷ xs) h = by (p x) refl (fewer_shards p xs h.1)
    where
      by : (b : Bool) → p x ≡ b → OneAShard (filter p xs) → OneAShard (filter p (x ∷ xs))
      by true e rest = subst OneAShard (sym (filter_yes p x xs e)) (all_weaken (λ (o : Task). (x.shard ≡ o.shard → ⊥) × (p o ≡ true)) (λ o. x.shard ≡ o.shard → ⊥) (λ o k. k.0) (filter p xs) (all_filter (λ (o : Task). x.shard ≡ o.shard → ⊥) p xs h.0), rest)
      by false e rest = subst OneAShard (sym (filter_no p x xs e)) rest

  -- the same lists without a task
  given_runs : (answers : Answers) (origin : Origin) (S : HallState) (H : History) (task : Task) → Running answers origin S H → Running answers origin (is_given S task) H
  given_runs answers origin S H task runs =
      let told = runs.told in
      let answered = runs.answered in
      record {
        told = record { balance = told.balance; buffered = told.buffered; asked = told.asked; seen = told.seen; outputs = told.outputs; left_bag = told.left_bag; left = told.left; base_states = told.base_states };
        answered = record { sent_times = answered.sent_times; message_times = answered.message_times; arrived_times = answered.arrived_times; sent = answered.sent; left = answered.left; folds_left = answered.folds_left };
        on_edges = runs.on_edges;
        messages_bag = runs.messages_bag;
        later = runs.later;
        settled = runs.settled;
        notified_times = runs.notified_times;
        notified_once = runs.notified_once;
        notified_asked = runs.notified_asked;
      }

  given_stands : (origin : Origin) (S : HallState) (task : Task) → Stands origin S → Stands origin (is_given S task)
  given_stands origin S task h = record { plan = h.plan; workers = h.workers; next = h.next; first = h.first; states = h.states; base = h.base; collected = h.collected; batches = h.batches }

  stands_notified : (answers : Answers) (origin : Origin) (S : HallState) (task : Task) (items : List KeyItems) → Stands origin S → Stands origin (notified answers S (asked_at S task.shard task.vertex task.time) task.kind items)
  stands_notified answers origin S task items h = record { plan = h.plan; workers = h.workers; next = h.next; first = h.first; states = h.states; base = h.base; collected = h.collected; batches = h.batches }

  still_given : (X : HallState) (task other : Task) (content : Content) → StandsOut X other content → StandsOut (is_given X task) other content
  still_given X task other (messages port recs) h = h
  still_given X task other (notification items) h = h

  module _ (answers : Answers) (origin : Origin) (S : HallState) (H : History) (facts : PlanFacts S.plan) (inv : Invariant answers origin S H) (task : Task) (out : Contains S.out task) where
    abbrev Known : Task → Type 0
    Known other = (other.kind ≡ kind_of S.plan other.vertex) × AllByRecursion (λ r. shard_of_key S.workers r.key ≡ other.shard) (recs_in other.content) × StandsOut S other other.content

    it_stands : Known task
    it_stands = at_index Known S.out out.0 task inv.tasks.stand out.1 out.2

    abbrev is_other : Task → Bool
    is_other = λ t. not (t.shard == task.shard)

    others : AllByRecursion (OutBeside below S task.shard) (filter is_other S.out)
    others = all_weaken (λ other. Known other × (is_other other ≡ true)) (OutBeside below S task.shard) (λ other k. ((λ e. let no : false ≡ true = sym (ap not (ap (λ n. n == task.shard) e ∙ eqb-same below task.shard)) ∙ k.1 in cc), k.0.0, k.0.1, k.0.2)) (filter is_other S.out) (all_filter Known is_other S.out inv.tasks.stand)

    finish : (X : HallState) (n m : ℕ) (r : RunsOn below answers origin X (filter is_other S.out) task.shard) → X.out ≡ S.out → Gained n m H r.0.0 → (H' : History) × Invariant answers origin (is_given X task) H' × Gained n m H H'
    finish X n m r e more = (
      r.0.0,
      record {
        stands = given_stands origin X task r.1;
        running = given_runs answers origin X r.0.0 task r.0.1;
        tasks = record {
          stand = subst (λ l. AllByRecursion (λ other. (other.kind ≡ kind_of X.plan other.vertex) × AllByRecursion (λ r. shard_of_key X.workers r.key ≡ other.shard) (recs_in other.content) × StandsOut (is_given X task) other other.content) (filter is_other l)) (sym e)
              (all_weaken (OutBeside below X task.shard) (λ other. (other.kind ≡ kind_of X.plan other.vertex) × AllByRecursion (λ r. shard_of_key X.workers r.key ≡ other.shard) (recs_in other.content) × StandsOut (is_given X task) other other.content) (λ other k. (k.1, k.2, still_given X task other other.content k.3)) (filter is_other S.out) r.2);
          once = subst (λ l. OneAShard (filter is_other l)) (sym e) (fewer_shards is_other S.out inv.tasks.once);
        };
      },
      more,
    )

    give_content : (content : Content) → StandsOut S task content → AllByRecursion (λ r. shard_of_key S.workers r.key ≡ task.shard) (recs_in content) → (H' : History) × Invariant answers origin (is_given (effect answers S task content) task) H' × Gained (records_in content) (notes_in content) H H'
    give_content (messages port recs) h mine =
        let r = all_delivered_run below answers origin task.shard task.vertex port task.time task.kind (filter is_other S.out) recs S H h.0 facts it_stands.0 h.1 mine inv.running inv.stands others in
        finish (effect answers S task (messages port recs)) (length recs) 0 r.0 r.1 r.3
    give_content (notification items) h mine =
        let P : HallState → Type 0 = λ X. (H' : History) × Invariant answers origin (is_given X task) H' × Gained 0 1 H H' in
        let same : notified answers S (asked_at S task.shard task.vertex task.time) (kind_of S.plan task.vertex) (to_notify S task.shard task.vertex task.time) ≡ effect answers S task (notification items) =
        λ i. notified answers S (asked_at S task.shard task.vertex task.time) (sym it_stands.0 i) (sym h.2 i) in
        let stands : Stands origin (notified answers S (asked_at S task.shard task.vertex task.time) (kind_of S.plan task.vertex) (to_notify S task.shard task.vertex task.time)) =
        subst (λ k. Stands origin (notified answers S (asked_at S task.shard task.vertex task.time) k (to_notify S task.shard task.vertex task.time))) it_stands.0 (stands_notified answers origin S task (to_notify S task.shard task.vertex task.time) inv.stands) in
        subst P same (finish (notified answers S (asked_at S task.shard task.vertex task.time) (kind_of S.plan task.vertex) (to_notify S task.shard task.vertex task.time)) 0 1 (
          (also_notified answers S H (asked_at S task.shard task.vertex task.time) (to_notify S task.shard task.vertex task.time), notified_runs below answers origin S H facts task.shard task.vertex task.time inv.running inv.stands.first inv.stands.states h.0 h.1),
          stands,
          others_stand_now below answers origin S H facts task.shard task.vertex task.time inv.running inv.stands.first inv.stands.states h.0 h.1 (filter is_other S.out) others,
        ) refl (omega arith, omega arith))

    pub given_keeps : (H' : History) × Invariant answers origin (is_given (effect answers S task task.content) task) H' × Gained (records_in task.content) (notes_in task.content) H H'
    given_keeps = give_content task.content it_stands.2 it_stands.1

  -- the plan and the number of shards stay
  abbrev pub SameHall : HallState → HallState → Type 0
  SameHall S after = (after.plan ≡ S.plan) × (after.workers ≡ S.workers)

  -- STEPS
  pub record Goes (answers : Answers) (origin : Origin) (S : HallState) (H : History) (event : Event) (answer : Answer) (after : HallState) : Type 0 where
    pub origin_then : Origin
    pub history_then : History
    pub states_same : origin_then.states ≡ origin.states
    pub first_same : origin_then.first ≡ origin.first
    pub batches_more : origin_then.batches ≡ origin.batches ++ batch_by event answer
    pub same_hall : SameHall S after
    pub holds : Invariant answers origin_then after history_then
    pub gained : Gained (tally_by records_in event answer) (tally_by notes_in event answer) H history_then

  module _ (answers : Answers) (origin : Origin) (S : HallState) (H : History) (facts : PlanFacts S.plan) (inv : Invariant answers origin S H) where
    stays : (event : Event) (answer : Answer) → batch_by event answer ≡ [] → (after : HallState) → SameHall S after → (H' : History) → Gained (tally_by records_in event answer) (tally_by notes_in event answer) H H' → Invariant answers origin after H' → Goes answers origin S H event answer after
    stays event answer none after p H' more h = record { origin_then = origin; history_then = H'; states_same = refl; first_same = refl; batches_more = sym (ap (λ l. origin.batches ++ l) none ∙ append-nil origin.batches); same_hall = p; holds = h; gained = more }

    releases : (batch : List Entry) → accepts S.plan batch ≡ true → (b c : Bool) → (let r : Answer × HallState = release_by S b c batch in Goes answers origin S H (release batch) r.0 r.1)
    releases batch a true c = stays (release batch) (refused inputs_closed) refl S (refl, refl) H (omega arith, omega arith) inv
    releases batch a false true = stays (release batch) (refused out_of_epochs) refl S (refl, refl) H (omega arith, omega arith) inv
    releases batch a false false = record { origin_then = origin_after below answers origin S H facts batch a inv; history_then = also_released below answers origin S H facts batch a inv; states_same = refl; first_same = refl; batches_more = refl; same_hall = (refl, refl); holds = released_keeps below answers origin S H facts batch a inv; gained = (omega arith, omega arith) }

    -- the released epochs have passed where none is found that has not
    all_passed : (k n : ℕ) → find (λ e. not (has_passed S e)) (numbers_from k n) ≡ None → (e : ℕ) → k ≤ e → e < k + n → has_passed S e ≡ true
    all_passed k zero h e l m = absurd (omega (arith, l, m))
    all_passed k (suc n) h e l m = by (has_passed S k) refl h (all_passed (suc k) n)
      where
        by : (b : Bool) → has_passed S k ≡ b → find (λ e. not (has_passed S e)) (numbers_from k (suc n)) ≡ None → (find (λ e. not (has_passed S e)) (numbers_from (suc k) n) ≡ None → (e : ℕ) → suc k ≤ e → e < suc k + n → has_passed S e ≡ true) → has_passed S e ≡ true
        by false f h rest = let no : Some k ≡ None = ap (λ b. cond (not b) (Some k) (find (λ e. not (has_passed S e)) (numbers_from (suc k) n))) (sym f) ∙ h in cc
        by true f h rest = at (nat_lt k e) refl
          where
            at : (c : Bool) → nat_lt k e ≡ c → has_passed S e ≡ true
            at true g = rest (ap (λ b. cond (not b) (Some k) (find (λ e. not (has_passed S e)) (numbers_from (suc k) n))) (sym f) ∙ h) e (omega (arith, ltb-true k e g)) (omega (arith, m))
            at false g = let same : k ≡ e = omega (arith, ltb-false k e g, l) in ap (has_passed S) (sym same) ∙ f

    base_passed : has_passed S S.base ≡ true
    base_passed = passed_from below answers origin S H S.base (all_weaken (λ (p : Stamp). (S.base < p.time.epoch) × (S.collected < p.time.epoch)) (λ p. S.base < p.time.epoch) (λ p k. k.0) (active S) inv.running.later)

    pub last_passed : unpassed S ≡ None → has_passed S (S.next - 1) ≡ true
    last_passed none = by (nat_lt S.base (S.next - 1)) refl
      where
        by : (b : Bool) → nat_lt S.base (S.next - 1) ≡ b → has_passed S (S.next - 1) ≡ true
        by true f = let l = ltb-true S.base (S.next - 1) f in all_passed (S.base + 1) (S.next - (S.base + 1)) none (S.next - 1) (omega (arith, l)) (omega (arith, l))
        by false f = let same : S.base ≡ S.next - 1 = omega (arith, ltb-false S.base (S.next - 1) f, inv.stands.base.1) in ap (has_passed S) (sym same) ∙ base_passed

    cuts : (o : Option ℕ) → unpassed S ≡ o → (let r : Answer × HallState = cut_by S o (S.next - 1) in Goes answers origin S H cut r.0 r.1)
    cuts (Some e) h = stays cut (refused (not_passed e)) refl S (refl, refl) H (omega arith, omega arith) inv
    cuts None h = stays cut (has_cut (S.next - 1) (states_at S (S.next - 1))) refl (cut_to S (S.next - 1)) (refl, refl) H (omega arith, omega arith) (cut_keeps below answers origin S H (S.next - 1) (omega (arith, inv.stands.base.1)) (omega (arith, inv.stands.base.1)) (last_passed h) inv)

    cuts_at : (e : ℕ) → S.base ≤ e → e < S.next → (b : Bool) → has_passed S e ≡ b → (let r : Answer × HallState = cut_at_by S b e in Goes answers origin S H (cut_at e) r.0 r.1)
    cuts_at e l m true h = stays (cut_at e) (has_cut e (states_at S e)) refl (cut_to S e) (refl, refl) H (omega arith, omega arith) (cut_keeps below answers origin S H e l m h inv)
    cuts_at e l m false h = stays (cut_at e) _ refl S (refl, refl) H (omega arith, omega arith) inv

    takes_goes : (s : ℕ) (answer : Answer) (after : HallState) → Takes S s answer after → Goes answers origin S H (taking s) answer after
    takes_goes s _ _ (is_busy e) = stays (taking s) (refused busy) refl S (refl, refl) H (omega arith, omega arith) inv
    takes_goes s _ _ (has_none e n) = stays (taking s) (has_taken None) refl S (refl, refl) H (omega arith, omega arith) inv
    takes_goes s _ _ (is_spent e task may l) = stays (taking s) (refused spent) refl S (refl, refl) H (omega arith, omega arith) inv
    takes_goes s _ _ (takes e task may l) = stays (taking s) (has_taken (Some task)) refl (with_task S task) (refl, refl) H (omega arith, omega arith) (taken_keeps below answers origin S H s task e may inv)

    gives_goes : (task : Task) (answer : Answer) (after : HallState) → Gives answers S task answer after → Goes answers origin S H (give task) answer after
    gives_goes task _ _ (gives out) = let r = given_keeps answers origin S H facts inv task out in stays (give task) has_given refl (is_given (effect answers S task task.content) task) (same task.content) r.0 r.2 r.1
      where
        each : (kind : Kind) (cs : List Message) (X : HallState) → SameHall X (all_delivered answers kind X cs)
        each kind [] X = (refl, refl)
        each kind (c ∷ cs) X = each kind cs (delivered answers X kind c)

        same : (content : Content) → SameHall S (effect answers S task content)
        same (messages port recs) = each task.kind (coming task.vertex port task.time recs) S
        same (notification items) = (refl, refl)
    gives_goes task _ _ (is_stranger n) = stays (give task) (refused stranger) refl S (refl, refl) H (omega arith, omega arith) inv

    -- EVERY STEP keeps the invariant
    pub step_goes : (event : Event) (answer : Answer) (after : HallState) → Step answers S event answer after → Goes answers origin S H event answer after
    step_goes (release batch) answer after h = subst (λ (p : Answer × HallState). Goes answers origin S H (release batch) p.0 p.1) h.1 (releases batch h.0 S.closed (S.next == ends))
    step_goes (taking s) answer after h = takes_goes s answer after h
    step_goes (give task) answer after h = gives_goes task answer after h
    step_goes collect answer after h = subst (λ (p : Answer × HallState). Goes answers origin S H collect p.0 p.1) h (stays collect (collect_step S).0 refl (collect_step S).1 (refl, refl) H (omega arith, omega arith) (collected_keeps below answers origin S H inv))
    step_goes cut answer after h = subst (λ (p : Answer × HallState). Goes answers origin S H cut p.0 p.1) h (cuts (unpassed S) refl)
    step_goes (cut_at e) answer after h = subst (λ (p : Answer × HallState). Goes answers origin S H (cut_at e) p.0 p.1) h.2 (cuts_at e h.0 h.1 (has_passed S e) refl)
    step_goes close answer after h = subst (λ (p : Answer × HallState). Goes answers origin S H close p.0 p.1) h (stays close has_closed refl (record S { closed = true }) (refl, refl) H (omega arith, omega arith) (closed_keeps below answers origin S H inv))

  -- so does each play: what it released is added to the origin
  pub plays_go : (answers : Answers) (events : List Event) (replies : List Answer) (origin : Origin) (S : HallState) (H : History) (after : HallState) → PlanFacts S.plan → Invariant answers origin S H → Plays answers S events replies after
      → (H' : History) × Invariant answers (record origin { batches = origin.batches ++ batches_of events replies }) after H' × SameHall S after × Gained (tally records_in events replies) (tally notes_in events replies) H H'
  plays_go answers [] [] origin S H after facts inv p =
      (H, subst (λ X. Invariant answers (record origin { batches = origin.batches ++ [] }) X H) (sym p) (subst (λ l. Invariant answers (record origin { batches = l }) S H) (sym (append-nil origin.batches)) inv), (ap (λ (X : HallState). X.plan) p, ap (λ (X : HallState). X.workers) p), (omega arith, omega arith))
  plays_go answers [] (answer ∷ replies) origin S H after facts inv p = absurd p
  plays_go answers (event ∷ events) [] origin S H after facts inv p = absurd p
  plays_go answers (event ∷ events) (answer ∷ replies) origin S H after facts inv p =
      let g = step_goes answers origin S H facts inv event answer p.0 p.1 in
      let now : Origin = record origin { batches = origin.batches ++ batch_by event answer } in
      let same : g.origin_then ≡ now = λ i. record { states = g.states_same i; first = g.first_same i; batches = g.batches_more i } in
      let r = plays_go answers events replies now p.0 g.history_then after (subst PlanFacts (sym g.same_hall.0) facts) (subst (λ o. Invariant answers o p.0 g.history_then) same g.holds) p.2 in
      (r.0, subst (λ l. Invariant answers (record origin { batches = l }) after r.0) (append_assoc origin.batches (batch_by event answer) (batches_of events replies)) r.1, (r.2.0 ∙ g.same_hall.0, r.2.1 ∙ g.same_hall.1), (let a = g.gained.0 in let b = r.3.0 in omega (arith, a, b), let a = g.gained.1 in let b = r.3.1 in omega (arith, a, b)))

  -- THE OPENING
  abbrev pub origin_at : StateList → ℕ → Origin
  origin_at states first = record { states = states; first = first; batches = [] }

  pub opened_holds : (answers : Answers) (plan : List Line) (states : StateList) (first workers : ℕ) → IsPlan plan → PlanFacts plan → AreStates states → 1 ≤ first → 1 ≤ workers → Invariant answers (origin_at states first) (opened plan states first workers) no_history
  opened_holds answers plan states first workers lawful facts ordered l m = record {
    stands = record { plan = lawful; workers = m; next = omega arith; first = l; states = ordered; base = (omega (arith, l), omega (arith, l)); collected = (omega (arith, l), omega (arith, l)); batches = none (first - 1 + 1 - first) };
    running = record {
      told = record { balance = refl; buffered = refl; asked = λ a. refl; seen = λ x l. refl; outputs = refl; left_bag = refl; left = refl; base_states = refl };
      answered = record {
        sent_times = tt;
        message_times = tt;
        arrived_times = tt;
        sent = λ v t h. absurd (omega (arith, h.0, h.1));
        left = λ v code e k a b. absurd (omega (arith, a, b));
        folds_left = tt;
      };
      on_edges = tt;
      messages_bag = refl;
      later = all_map (λ (p : Stamp). (first - 1 < p.time.epoch) × (first - 1 < p.time.epoch)) (stamp_of_input first) (inputs_of plan) (all_everywhere (λ (v : ℕ). (first - 1 < first) × (first - 1 < first)) (λ v. (omega (arith, l), omega (arith, l))) (inputs_of plan));
      settled = tt;
      notified_times = tt;
      notified_once = tt;
      notified_asked = tt;
    };
    tasks = record { stand = tt; once = tt };
  }
    where
      none : (n : ℕ) → [] ≡ drop n (let l : List (List Entry) = [] in l)
      none zero = refl
      none (suc n) = refl

  -- EACH PLAY FROM THE OPENING has a history, in which as much happened as it gave
  pub play_has : (answers : Answers) (plan : List Line) (states : StateList) (first workers : ℕ) (events : List Event) (replies : List Answer) (S : HallState)
      → IsPlan plan → PlanFacts plan → AreStates states → 1 ≤ first → 1 ≤ workers → Plays answers (opened plan states first workers) events replies S
      → (H : History) × Invariant answers (record { states = states; first = first; batches = batches_of events replies }) S H × (S.plan ≡ plan) × (S.workers ≡ workers)
      × (length H.arrived ≡ tally records_in events replies) × (length H.notified ≡ tally notes_in events replies)
  play_has answers plan states first workers events replies S lawful facts ordered l m p =
      let r = plays_go answers events replies (origin_at states first) (opened plan states first workers) no_history S facts (opened_holds answers plan states first workers lawful facts ordered l m) p in
      let records : length r.0.arrived ≡ tally records_in events replies + 0 = r.3.0 in
      let notes : length r.0.notified ≡ tally notes_in events replies + 0 = r.3.1 in
      (r.0, r.1, r.2.0, r.2.1, omega (arith, records), omega (arith, notes))
