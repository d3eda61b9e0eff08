-- A drain plays takes and gives, one after another.
use Rattle.std.proofs.Common.{◌≡◌, ℕ, zero, suc, ◌+◌, ◌-◌, ◌≤◌, ◌<◌, Bool, true, false, not, cond, List, [], ◌∷◌, ◌++◌, find, Option, Some, None, refl, ap, sym, ◌∙◌, subst, arith}
use Rattle.std.specs.List.{AllByRecursion}
use Rattle.td_stamp.specs.declared.values.Entry.{Entry}
use Rattle.td_calls.specs.Answers.{Answers}
use Rattle.td_plan.specs.declared.vertex.Kind.{Kind}
use Rattle.td_batch.specs.Flow.{numbers_from}
use Rattle.td_machine.specs.declared.records.Message.{Message}
use Rattle.td_machine.specs.State.{HallState, Task, Content}
use Rattle.td_machine.specs.State.Content.{messages, notification}
use Rattle.td_machine.specs.Active.{has_passed, unpassed}
use Rattle.td_machine.specs.Steps.{Event, Answer, Step, Plays, Takes, Gives, release_by, cut_by, cut_at_by, effect, all_delivered, delivered, coming}
use Rattle.td_machine.specs.Steps.Event.{release, taking, give, collect, cut, cut_at, close}
use Rattle.td_machine.specs.Steps.Answer.{has_taken, has_given}
use Rattle.td_machine.specs.Steps.Takes.{is_busy, has_none, is_spent, takes}
use Rattle.td_machine.specs.Steps.Gives.{gives, is_stranger}
use Rattle.td_machine.specs.Sound.{batches_of, NeverStuck}
use Rattle.td_machine.specs.Tally.{records_in, notes_in, tally, tally_by}
use Rattle.td_machine.specs.Work.{Records, Notes}
use Rattle.td_machine.specs.Exact.{ExactWorkDrained}
use Rattle.td_machine.specs.Reached.{IsReached}
use Rattle.td_core.specs.Drained.{Works, IsWork, IsKept, IsExact, IsExactFresh}

-- what one vertex is given leaves the rest of a hall as it was
pub kept_as_is : (S : HallState) → IsKept S S
kept_as_is S = record { plan = refl; workers = refl; base = refl; base_states = refl; batches = refl; next = refl; closed = refl; collected = refl }

pub kept_on : (S T U : HallState) → IsKept S T → IsKept T U → IsKept S U
kept_on S T U k l = record {
  plan = l.plan ∙ k.plan;
  workers = l.workers ∙ k.workers;
  base = l.base ∙ k.base;
  base_states = l.base_states ∙ k.base_states;
  batches = l.batches ∙ k.batches;
  next = l.next ∙ k.next;
  closed = l.closed ∙ k.closed;
  collected = l.collected ∙ k.collected;
}

-- what a task's effect leaves as it was beside that
pub record IsEffect (S T : HallState) : Type 0 where
  pub kept : IsKept S T
  pub out : T.out ≡ S.out
  pub taken : T.taken ≡ S.taken
  pub given : T.given ≡ S.given

module _ (answers : Answers) where
  all_kept : (kind : Kind) (S : HallState) (cs : List Message) → IsEffect S (all_delivered answers kind S cs)
  all_kept kind S [] = record { kept = kept_as_is S; out = refl; taken = refl; given = refl }
  all_kept kind S (c ∷ cs) =
      let later = all_kept kind (delivered answers S kind c) cs in
      record {
        kept = record { plan = later.kept.plan; workers = later.kept.workers; base = later.kept.base; base_states = later.kept.base_states; batches = later.kept.batches; next = later.kept.next; closed = later.kept.closed; collected = later.kept.collected };
        out = later.out;
        taken = later.taken;
        given = later.given;
      }

  pub effect_kept : (S : HallState) (task : Task) (content : Content) → IsEffect S (effect answers S task content)
  effect_kept S task (messages port recs) = all_kept task.kind S (coming task.vertex port task.time recs)
  effect_kept S task (notification items) = record { kept = record { plan = refl; workers = refl; base = refl; base_states = refl; batches = refl; next = refl; closed = refl; collected = refl }; out = refl; taken = refl; given = refl }

  -- takes and gives
  pub take_kept : (S T : HallState) (s : ℕ) (answer : Answer) → Takes S s answer T → IsKept S T
  take_kept S T s answer (is_busy b) = kept_as_is S
  take_kept S T s answer (has_none b none) = kept_as_is S
  take_kept S T s answer (is_spent b task may all) = kept_as_is S
  take_kept S T s answer (takes b task may more) = record { plan = refl; workers = refl; base = refl; base_states = refl; batches = refl; next = refl; closed = refl; collected = refl }

  pub give_kept : (S T : HallState) (task : Task) (answer : Answer) → Gives answers S task answer T → IsKept S T
  give_kept S T task answer (gives there) = let e = (effect_kept S task task.content).kept in record { plan = e.plan; workers = e.workers; base = e.base; base_states = e.base_states; batches = e.batches; next = e.next; closed = e.closed; collected = e.collected }
  give_kept S T task answer (is_stranger away) = kept_as_is S

  step_kept : (S T : HallState) (event : Event) (answer : Answer) → IsWork event → Step answers S event answer T → IsKept S T
  step_kept S T (release batch) answer w step = absurd w
  step_kept S T (taking s) answer w step = take_kept S T s answer step
  step_kept S T (give task) answer w step = give_kept S T task answer step
  step_kept S T collect answer w step = absurd w
  step_kept S T cut answer w step = absurd w
  step_kept S T (cut_at e) answer w step = absurd w
  step_kept S T close answer w step = absurd w

  plays_kept : (S T : HallState) (events : List Event) (replies : List Answer) → AllByRecursion IsWork events → Plays answers S events replies T → IsKept S T
  plays_kept S T [] [] w p = subst (IsKept S) (sym p) (kept_as_is S)
  plays_kept S T [] (answer ∷ more) w p = absurd p
  plays_kept S T (event ∷ events) [] w p = absurd p
  plays_kept S T (event ∷ events) (answer ∷ more) w p = kept_on S p.0 T (step_kept S p.0 event answer w.0 p.1) (plays_kept p.0 T events more w.1 p.2)

  pub works_kept : (S T : HallState) (records notifications : ℕ) → Works answers S records notifications T → IsKept S T
  works_kept S T records notifications w = plays_kept S T w.events w.replies w.alone w.plays

  -- nothing was done so far
  pub none_worked : (S : HallState) → Works answers S 0 0 S
  none_worked S = record { events = []; replies = []; alone = tt; plays = refl; messages = refl; notes = refl }

-- plays after one another are one
abbrev pub Joined : Answers → Type 0
Joined answers = (S T U : HallState) (events more : List Event) (replies others : List Answer)
    → Plays answers S events replies T → Plays answers T more others U → Plays answers S (events ++ more) (replies ++ others) U

-- which released what both released
abbrev pub ReleasedByBoth : Answers → Type 0
ReleasedByBoth answers = (S T : HallState) (events more : List Event) (replies others : List Answer)
    → Plays answers S events replies T → batches_of (events ++ more) (replies ++ others) ≡ batches_of events replies ++ batches_of more others

-- and gave what both gave
abbrev pub GivenByBoth : Answers → Type 0
GivenByBoth answers = (count : Content → ℕ) (S T : HallState) (events more : List Event) (replies others : List Answer)
    → Plays answers S events replies T → tally count (events ++ more) (replies ++ others) ≡ tally count events replies + tally count more others

both_alone : (events more : List Event) → AllByRecursion IsWork events → AllByRecursion IsWork more → AllByRecursion IsWork (events ++ more)
both_alone [] more w v = v
both_alone (event ∷ events) more w v = (w.0, both_alone events more w.1 v)

-- takes and gives release nothing
nothing_by : (event : Event) (answer : Answer) → IsWork event → batches_of (event ∷ []) (answer ∷ []) ≡ []
nothing_by (release batch) answer w = absurd w
nothing_by (taking s) answer w = refl
nothing_by (give task) answer w = refl
nothing_by collect answer w = refl
nothing_by cut answer w = refl
nothing_by (cut_at e) answer w = refl
nothing_by close answer w = refl

end_nothing : {X : Type 0} (xs : List X) → xs ++ [] ≡ xs
end_nothing [] = refl
end_nothing (x ∷ xs) = ap (λ l. x ∷ l) (end_nothing xs)

none_released : (events : List Event) (replies : List Answer) → AllByRecursion IsWork events → batches_of events replies ≡ []
none_released [] replies w = refl
none_released (event ∷ events) [] w = refl
none_released (event ∷ events) (answer ∷ more) w =
    ap (λ l. l ++ batches_of events more) (sym (end_nothing _) ∙ nothing_by event answer w.0) ∙ none_released events more w.1

module _ (answers : Answers) (joined : Joined answers) (given : GivenByBoth answers) where
  -- one more task was taken and given
  pub works_on : (S T U V : HallState) (records notifications s : ℕ) (task : Task) → Works answers S records notifications T
      → Takes T s (has_taken (Some task)) U → Gives answers U task has_given V
      → Works answers S (records + records_in task.content) (notifications + notes_in task.content) V
  works_on S T U V records notifications s task w take done =
      let more : List Event = taking s ∷ give task ∷ [] in
      let others : List Answer = has_taken (Some task) ∷ has_given ∷ [] in
      let counts : (count : Content → ℕ) (many : ℕ) → tally count w.events w.replies ≡ many → tally count (w.events ++ more) (w.replies ++ others) ≡ many + count task.content =
      λ count many so_far.
      let one : 0 + (count task.content + 0) ≡ count task.content = omega arith in
      given count S T w.events more w.replies others w.plays ∙ λ i. so_far i + one i
      in
      record {
        events = w.events ++ more;
        replies = w.replies ++ others;
        alone = both_alone w.events more w.alone (tt, (tt, tt));
        plays = joined S T V w.events more w.replies others w.plays (U, take, (V, done, refl));
        messages = counts records_in records w.messages;
        notes = counts notes_in notifications w.notes;
      }

-- each step leaves the number of shards as it was, and gives no task back twice
pub record IsLater (S T : HallState) : Type 0 where
  pub workers : T.workers ≡ S.workers
  pub given : S.given ≤ T.given

later_as_is : (S : HallState) → IsLater S S
later_as_is S = record { workers = refl; given = omega arith }

released_later : (S : HallState) (closed at_end : Bool) (batch : List Entry) → IsLater S (release_by S closed at_end batch).1
released_later S true at_end batch = later_as_is S
released_later S false true batch = later_as_is S
released_later S false false batch = record { workers = refl; given = omega arith }

cut_later : (S : HallState) (least : Option ℕ) (e : ℕ) → IsLater S (cut_by S least e).1
cut_later S (Some d) e = later_as_is S
cut_later S None e = record { workers = refl; given = omega arith }

cut_at_later : (S : HallState) (passed : Bool) (e : ℕ) → IsLater S (cut_at_by S passed e).1
cut_at_later S true e = record { workers = refl; given = omega arith }
cut_at_later S false e = later_as_is S

take_later : (S T : HallState) (s : ℕ) (answer : Answer) → Takes S s answer T → IsLater S T
take_later S T s answer (is_busy b) = later_as_is S
take_later S T s answer (has_none b none) = later_as_is S
take_later S T s answer (is_spent b task may all) = later_as_is S
take_later S T s answer (takes b task may more) = record { workers = refl; given = omega arith }

module _ (answers : Answers) where
  give_later : (S T : HallState) (task : Task) (answer : Answer) → Gives answers S task answer T → IsLater S T
  give_later S T task answer (gives there) = let e = effect_kept answers S task task.content in let g = e.given in record { workers = e.kept.workers; given = omega (arith, g) }
  give_later S T task answer (is_stranger away) = later_as_is S

  step_later : (S T : HallState) (event : Event) (answer : Answer) → Step answers S event answer T → IsLater S T
  step_later S T (release batch) answer step = subst (IsLater S) (ap (λ p. p.1) step.1) (released_later S S.closed _ batch)
  step_later S T (taking s) answer step = take_later S T s answer step
  step_later S T (give task) answer step = give_later S T task answer step
  step_later S T collect answer step = subst (IsLater S) (ap (λ p. p.1) step) (record { workers = refl; given = omega arith })
  step_later S T cut answer step = subst (IsLater S) (ap (λ p. p.1) step) (cut_later S (unpassed S) (S.next - 1))
  step_later S T (cut_at e) answer step = subst (IsLater S) (ap (λ p. p.1) step.2) (cut_at_later S (has_passed S e) e)
  step_later S T close answer step = subst (IsLater S) (ap (λ p. p.1) step) (record { workers = refl; given = omega arith })

  plays_later : (S T : HallState) (events : List Event) (replies : List Answer) → Plays answers S events replies T → IsLater S T
  plays_later S T [] [] p = subst (IsLater S) (sym p) (later_as_is S)
  plays_later S T [] (answer ∷ more) p = absurd p
  plays_later S T (event ∷ events) [] p = absurd p
  plays_later S T (event ∷ events) (answer ∷ more) p =
      let first = step_later S p.0 event answer p.1 in
      let rest = plays_later p.0 T events more p.2 in
      let g = first.given in let h = rest.given in
      record { workers = rest.workers ∙ first.workers; given = omega (arith, g, h) }

  -- where nothing was given, nothing is told
  none_told_by : (count : Content → ℕ) (S T : HallState) (event : Event) (answer : Answer) → Step answers S event answer T → T.given ≡ 0 → tally_by count event answer ≡ 0
  none_told_by count S T (give task) answer (gives there) none = absurd (omega (arith, none))
  none_told_by count S T (give task) answer (is_stranger away) none = refl
  none_told_by count S T (release batch) answer step none = refl
  none_told_by count S T (taking s) answer step none = refl
  none_told_by count S T collect answer step none = refl
  none_told_by count S T cut answer step none = refl
  none_told_by count S T (cut_at e) answer step none = refl
  none_told_by count S T close answer step none = refl

  none_told : (count : Content → ℕ) (S T : HallState) (events : List Event) (replies : List Answer) → Plays answers S events replies T → T.given ≡ 0 → tally count events replies ≡ 0
  none_told count S T [] replies p none = refl
  none_told count S T (event ∷ events) [] p none = absurd p
  none_told count S T (event ∷ events) (answer ∷ more) p none =
      let later = (plays_later p.0 T events more p.2).given in
      let before : p.0.given ≡ 0 = omega (arith, later, none) in
      λ i. none_told_by count S p.0 event answer p.1 before i + none_told count p.0 T events more p.2 none i

-- THE WORK of a drain is exact
module _ (answers : Answers) (joined : Joined answers) (given : GivenByBoth answers) (released : ReleasedByBoth answers) (drained : ExactWorkDrained answers) where
  pub exact : (S T : HallState) (records notifications : ℕ) → Works answers S records notifications T
      → ((shard : ℕ) → shard < T.workers → Takes T shard (has_taken None) T) → IsExact answers S records notifications
  exact S T records notifications w none plan states first workers events replies lawful ordered from_one some plays =
      let all = joined _ S T events w.events replies w.replies plays w.plays in
      let many : T.workers ≡ workers = (plays_later answers S T w.events w.replies w.plays).workers ∙ (plays_later answers _ S events replies plays).workers in
      let is = drained plan states first workers (events ++ w.events) (replies ++ w.replies) T lawful ordered from_one some all (λ s l. none s (subst (λ n. s < n) (sym many) l)) in
      let same : batches_of (events ++ w.events) (replies ++ w.replies) ≡ batches_of events replies =
      released _ S events w.events replies w.replies plays ∙ (ap (λ l. batches_of events replies ++ l) (none_released w.events w.replies w.alone) ∙ end_nothing _)
      in (
        ap (λ n. tally records_in events replies + n) (sym w.messages) ∙ (sym (given records_in _ S events w.events replies w.replies plays) ∙ (is.records ∙ ap (λ l. Records answers plan states l) same)),
        ap (λ n. tally notes_in events replies + n) (sym w.notes) ∙ (sym (given notes_in _ S events w.events replies w.replies plays) ∙ (is.notes ∙ ap (λ l. Notes workers answers plan states l) same)),
      )

-- where nothing was taken before, it is all that is delivered
module _ (answers : Answers) where
  pub exact_fresh : (S : HallState) (records notifications : ℕ) → (S.taken ≡ 0 → S.given ≡ 0) → IsExact answers S records notifications → IsExactFresh answers S records notifications
  exact_fresh S records notifications untouched is plan states first workers events replies lawful ordered from_one some plays none =
      let both = is plan states first workers events replies lawful ordered from_one some plays in
      let no_records = none_told answers records_in _ S events replies plays (untouched none) in
      let no_notes = none_told answers notes_in _ S events replies plays (untouched none) in
      let e = both.0 in
      let f = both.1 in
      (omega (arith, e, no_records), omega (arith, f, no_notes))

-- EVERY RELEASED EPOCH HAS PASSED
module _ (answers : Answers) (stuck : NeverStuck answers) where
  pub all_passed : (T : HallState) → IsReached answers T → ((shard : ℕ) → shard < T.workers → Takes T shard (has_taken None) T)
      → (epoch : ℕ) → epoch < T.next → has_passed T epoch ≡ true
  all_passed T r none =
      let many : T.workers ≡ r.workers = (plays_later answers _ T r.events r.replies r.plays).workers in
      stuck r.plan r.states r.first r.workers r.events r.replies T r.lawful r.ordered r.from_one r.some_worker r.plays (λ s l. none s (subst (λ n. s < n) (sym many) l))

none_found : (p : ℕ → Bool) (k n : ℕ) → ((e : ℕ) → e < k + n → p e ≡ false) → find p (numbers_from k n) ≡ None
none_found p k zero h = refl
none_found p k (suc n) h =
    ap (λ b. cond b (Some k) (find p (numbers_from (suc k) n))) (h k (omega arith)) ∙ none_found p (suc k) n (λ e l. h e (omega (arith, l)))

pub none_unpassed : (T : HallState) → T.base < T.next → ((epoch : ℕ) → epoch < T.next → has_passed T epoch ≡ true) → unpassed T ≡ None
none_unpassed T some passed =
    none_found (λ e. not (has_passed T e)) (T.base + 1) (T.next - (T.base + 1)) (λ e l. let m : e < T.next = omega (arith, l, some) in ap not (passed e m))
