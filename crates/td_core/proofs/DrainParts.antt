-- A drain leads from one parts of a hall to another, turn by turn.
use Rattle.std.proofs.Common.{◌≡◌, ℕ, ◌+◌, ◌*◌, ◌==◌, ◌≤◌, ◌<◌, Bool, true, false, not, cond, List, [], ◌∷◌, filter, Option, Some, None, refl, ap, sym, ◌∙◌, subst, arith, eq-eqb, below_more}
use Rattle.td_stamp.specs.Time.{Timestamp}
use Rattle.td_calls.specs.Answers.{Answers}
use Rattle.td_machine.specs.State.{HallState, Task, Content}
use Rattle.td_machine.specs.State.Content.{messages, notification}
use Rattle.td_machine.specs.Steps.{Answer, Takes, Gives, MayTake, IsContent, with_task, effect, is_given, ends, task_size}
use Rattle.td_machine.specs.Steps.Answer.{has_taken, has_given}
use Rattle.td_machine.specs.Steps.Takes.{is_busy, has_none, is_spent, takes}
use Rattle.td_machine.specs.Steps.Gives.{gives, is_stranger}
use Rattle.td_machine.specs.Tally.{records_in, notes_in}
use Rattle.td_machine.specs.InOrder.{NumbersInOrder}
use Rattle.td_machine.specs.Reached.{IsReached}
use Rattle.td_core.specs.declared.hall.Parts.{Parts}
use Rattle.td_core.specs.declared.drain.Drained.{Drained}
use Rattle.td_core.specs.Parts.{state_of, IsHall}
use Rattle.td_core.specs.Drained.{Works, IsKept, IsTurn, IsTurnIf, IsIdle, IsFurther}
use Rattle.td_core.proofs.DrainSteps.{Joined, GivenByBoth, none_worked, works_on, effect_kept, kept_as_is, kept_on, take_kept, give_kept}

-- A TAKE that answers a task
abbrev taken_in : Answer → Task → Task
taken_in (has_taken (Some task)) other = task
taken_in _ other = other

abbrev is_taken : Answer → Bool
is_taken (has_taken (Some task)) = true
is_taken _ = false

true_is_false : true ≡ false → ⊥
true_is_false e = cc

pub record Took (S : HallState) (s : ℕ) (task : Task) (T : HallState) : Type 0 where
  pub may : MayTake S s task
  pub less : S.taken < ends
  pub after : T ≡ with_task S task

took_by : (S T : HallState) (s : ℕ) (answer : Answer) (task : Task) → Takes S s answer T → answer ≡ has_taken (Some task) → Took S s task T
took_by S T s answer task (is_busy b) e = absurd (true_is_false (sym (ap is_taken e)))
took_by S T s answer task (has_none b none) e = absurd (true_is_false (sym (ap is_taken e)))
took_by S T s answer task (is_spent b other may all) e = absurd (true_is_false (sym (ap is_taken e)))
took_by S T s answer task (takes b other may more) e =
    let same : other ≡ task = ap (λ a. taken_in a task) e in
    subst (λ t. Took S s t T) same (record { may = may; less = more; after = refl })

pub took : (S T : HallState) (s : ℕ) (task : Task) → Takes S s (has_taken (Some task)) T → Took S s task T
took S T s task t = took_by S T s (has_taken (Some task)) task t refl

-- A GIVE that was not refused
abbrev is_given_back : Answer → Bool
is_given_back has_given = true
is_given_back _ = false

gave_by : (answers : Answers) (S T : HallState) (task : Task) (answer : Answer) → Gives answers S task answer T → answer ≡ has_given → T ≡ is_given (effect answers S task task.content) task
gave_by answers S T task answer (gives there) e = refl
gave_by answers S T task answer (is_stranger away) e = absurd (true_is_false (sym (ap is_given_back e)))

few_records : (S : HallState) (s v : ℕ) (t : Timestamp) (content : Content) → IsContent S s v t content → records_in content ≤ task_size
few_records S s v t (messages port recs) is = is.1
few_records S s v t (notification items) is = omega arith

few_notes : (content : Content) → notes_in content ≤ 1
few_notes (messages port recs) = omega arith
few_notes (notification items) = omega arith

-- A TURN: one more task was taken and given, and none is out
pub record IsOneMore (S : HallState) (delivered : Drained) (T : HallState) : Type 0 where
  pub taken : T.taken ≡ S.taken + 1
  pub given : T.given ≡ S.given + 1
  pub less : S.taken < ends
  pub records : delivered.messages ≤ task_size
  pub notifications : delivered.notes ≤ 1
  pub plan : T.plan ≡ S.plan
  pub workers : T.workers ≡ S.workers
  pub none_out : S.out ≡ [] → T.out ≡ []

none_stays : (task : Task) (out : List Task) → out ≡ task ∷ [] → filter (λ t. not (t.shard == task.shard)) out ≡ []
none_stays task out e =
    let same : (task.shard == task.shard) ≡ true = eq-eqb task.shard task.shard refl in
    ap (filter (λ t. not (t.shard == task.shard))) e ∙ ap (λ b. cond (not b) (task ∷ []) []) same

pub one_more : (answers : Answers) (S T : HallState) (s : ℕ) (delivered : Drained) → IsTurn answers S s delivered T → IsOneMore S delivered T
one_more answers S T s delivered turn =
    let U = turn.between in
    let task = turn.task in
    let t = took S U s task turn.takes in
    let after = gave_by answers U T task has_given turn.gives refl in
    let e = effect_kept answers U task task.content in
    let few = few_records S s task.vertex task.time task.content t.may.content in
    let m = turn.messages in
    let n = turn.notes in
    let one = few_notes task.content in
    let taken = e.taken in
    let given = e.given in
    record {
      taken = ap (λ S. S.taken) after ∙ (e.taken ∙ ap (λ S. S.taken) t.after);
      given = ap (λ S. S.given) after ∙ (ap (λ n. n + 1) (e.given ∙ ap (λ S. S.given) t.after));
      less = t.less;
      records = omega (arith, few, m);
      notifications = omega (arith, one, n);
      plan = ap (λ S. S.plan) after ∙ (e.kept.plan ∙ ap (λ S. S.plan) t.after);
      workers = ap (λ S. S.workers) after ∙ (e.kept.workers ∙ ap (λ S. S.workers) t.after);
      none_out = λ none.
          ap (λ S. S.out) after ∙ none_stays task _ (e.out ∙ (ap (λ S. S.out) t.after ∙ ap (λ out. (with_task (record S { out = out }) task).out) none));
    }

-- what a turn leaves as it was, and that no task is out after it
pub kept_by_turn : (answers : Answers) (S T : HallState) (s : ℕ) (o : Option Drained) → IsTurnIf answers S s o T → IsKept S T
kept_by_turn answers S T s None turn = subst (IsKept S) (sym turn.0) (kept_as_is S)
kept_by_turn answers S T s (Some delivered) turn =
    kept_on S turn.between T (take_kept answers S turn.between s (has_taken (Some turn.task)) turn.takes) (give_kept answers turn.between T turn.task has_given turn.gives)

pub none_out_by_turn : (answers : Answers) (S T : HallState) (s : ℕ) (o : Option Drained) → IsTurnIf answers S s o T → S.out ≡ [] → T.out ≡ []
none_out_by_turn answers S T s None turn none = ap (λ S. S.out) turn.0 ∙ none
none_out_by_turn answers S T s (Some delivered) turn none = (one_more answers S T s delivered turn).none_out none

pub turn_of : (answers : Answers) (S T : HallState) (s : ℕ) (o : Option Drained) (delivered : Drained) → o ≡ Some delivered → IsTurnIf answers S s o T → IsTurn answers S s delivered T
turn_of answers S T s o delivered e turn = subst (λ o. IsTurnIf answers S s o T) e turn

module _ (answers : Answers) where
  -- nothing was done, but for room and the order in which messages stand
  pub as_before : (parts new : Parts) (delivered : Drained) → IsIdle answers parts delivered → IsHall answers new → state_of new ≡ state_of parts
      → IsFurther answers parts delivered new delivered
  as_before parts new delivered idle hall same =
      let given : new.given ≡ parts.given = ap (λ S. S.given) same in
      let taken : new.taken ≡ parts.taken = ap (λ S. S.taken) same in
      let m = idle.messages in
      let n = idle.notes in
      record {
        idle = record { hall = hall; none_out = ap (λ S. S.out) same ∙ idle.none_out; messages = subst (λ k. delivered.messages ≤ task_size * k) (sym given) m; notes = omega (arith, n, given) };
        worked = λ S w. subst (Works answers S delivered.messages delivered.notes) (sym same) w;
        taken = omega (arith, taken);
        same = λ e. same;
        plan = ap (λ S. S.plan) same;
        shards = ap (λ S. S.workers) same;
      }

  pub not_begun : (parts : Parts) (delivered : Drained) → IsIdle answers parts delivered → IsFurther answers parts delivered parts delivered
  not_begun parts delivered idle = as_before parts parts delivered idle idle.hall refl

  -- one after another
  pub further_on : (parts between new : Parts) (before then after : Drained) → IsFurther answers parts before between then → IsFurther answers between then new after
      → IsFurther answers parts before new after
  further_on parts between new before then after f g =
      let t = f.taken in
      let u = g.taken in
      record {
        idle = g.idle;
        worked = λ S w. g.worked S (f.worked S w);
        taken = omega (arith, t, u);
        same = λ e.
            let first : between.taken ≡ parts.taken = omega (arith, t, u, e) in
            let second : new.taken ≡ between.taken = omega (arith, t, u, e) in
            g.same second ∙ f.same first;
        plan = g.plan ∙ f.plan;
        shards = g.shards ∙ f.shards;
      }

  -- a turn
  pub turn_on : Joined answers → GivenByBoth answers → (parts new : Parts) (s : ℕ) (before delivered : Drained) → IsIdle answers parts before → IsHall answers new
      → IsTurn answers (state_of parts) s delivered (state_of new)
      → IsFurther answers parts before new (record { messages = before.messages + delivered.messages; notes = before.notes + delivered.notes })
  turn_on joined counts parts new s before delivered idle hall turn =
      let is = one_more answers (state_of parts) (state_of new) s delivered turn in
      let given : new.given ≡ parts.given + 1 = is.given in
      let taken : new.taken ≡ parts.taken + 1 = is.taken in
      let m = idle.messages in
      let n = idle.notes in
      let few = is.records in
      let one = is.notifications in
      record {
        idle = record { hall = hall; none_out = is.none_out idle.none_out; messages = omega (arith, m, few, given); notes = omega (arith, n, one, given) };
        worked = λ S w.
            let on = works_on answers joined counts S (state_of parts) turn.between (state_of new) before.messages before.notes s turn.task w turn.takes turn.gives in
            subst (λ k. Works answers S (before.messages + delivered.messages) (before.notes + k) (state_of new)) (sym turn.notes)
            (subst (λ k. Works answers S (before.messages + k) (before.notes + notes_in turn.task.content) (state_of new)) (sym turn.messages) on);
        taken = omega (arith, taken);
        same = λ e. absurd (omega (arith, taken, e));
        plan = is.plan;
        shards = is.workers;
      }

-- so few tasks are taken that what they deliver can be counted
module _ (answers : Answers) (numbers : (S : HallState) → IsReached answers S → NumbersInOrder S) where
  pub counted_few : (parts : Parts) (delivered : Drained) → IsIdle answers parts delivered → (delivered.messages ≤ task_size * ends) × (delivered.notes ≤ ends)
  counted_few parts delivered idle =
      let order = numbers (state_of parts) idle.hall.reached in
      let given = order.given in
      let taken = order.taken in
      let m = idle.messages in
      let n = idle.notes in
      (omega (arith, m, given, taken), omega (arith, n, given, taken))

  pub taken_few : (parts : Parts) (delivered : Drained) → IsIdle answers parts delivered → parts.taken ≤ ends
  taken_few parts delivered idle = (numbers (state_of parts) idle.hall.reached).taken

-- THE WHOLE of a drain, from parts of which nothing is counted yet
abbrev pub no_delivery : Drained
no_delivery = record { messages = 0; notes = 0 }

module _ (answers : Answers) (parts new : Parts) (after : Drained) (further : IsFurther answers parts no_delivery new after) (S : HallState) (is : state_of parts ≡ S) where
  pub did : Works answers S after.messages after.notes (state_of new)
  did = subst (λ S. Works answers S after.messages after.notes (state_of new)) is (further.worked (state_of parts) (none_worked answers (state_of parts)))

-- where nothing was taken in a round so far, no shard that was asked has a task
module _ (answers : Answers) (parts between new : Parts) (before then after : Drained) (k : ℕ) (f : IsFurther answers parts before between then) (g : IsFurther answers between then new after) where
  pub none_on : (between.taken ≡ parts.taken → (s : ℕ) → s < k → Takes (state_of between) s (has_taken None) (state_of between)) → Takes (state_of new) k (has_taken None) (state_of new)
      → new.taken ≡ parts.taken → (s : ℕ) → s < k + 1 → Takes (state_of new) s (has_taken None) (state_of new)
  none_on asked last e =
      let t = f.taken in
      let u = g.taken in
      let first : between.taken ≡ parts.taken = omega (arith, t, u, e) in
      let second : new.taken ≡ between.taken = omega (arith, t, u, e) in
      below_more _ _ (λ s l. subst (λ S. Takes S s (has_taken None) S) (sym (g.same second)) (asked first s l)) last
