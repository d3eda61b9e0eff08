-- A hall to which a task is given back takes the machine's step, and one that refuses it stays as it was.
use Rattle.std.proofs.Common.{◌≡◌, ℕ, zero, suc, ◌+◌, ◌==◌, ◌≤◌, ◌<◌, ◌↔◌, Bool, true, false, not, cond, List, [], ◌∷◌, ◌++◌, flat_map, filter, replicate, length, Option, Some, None, refl, ap, sym, ◌∙◌, subst, arith}
use Rattle.std.specs.List.{AllByRecursion, Contains, slice_get, enumerate_from, remove}
use Rattle.td_stamp.specs.declared.values.Rec.{Rec}
use Rattle.std.proofs.lemmas.List.{length-map}
use Rattle.std.proofs.lemmas.List.FromFn.{length-enumerate_from}
use Rattle.td_stamp.specs.Bag.{bag_of, set_of}
use Rattle.td_plan.specs.Faults.{IsPlan}
use Rattle.td_calls.specs.Answers.{Answers}
use Rattle.td_reach.specs.declared.stamp.Stamp.{Stamp}
use Rattle.td_reach.specs.declared.stamp.Place.TheVariants as places
use Rattle.td_reach.specs.Paths.{IsOf}
use Rattle.td_progress.specs.Bag.{occurrences, is_stamp, IsSameBag}
use Rattle.td_machine.specs.declared.records.Message.{Message}
use Rattle.td_machine.specs.ByEdge.{StampsOfTask}
use Rattle.td_task.specs.Contents.{IsSized}
use Rattle.td_machine.specs.State.{HallState, Task, Content, message_cmp, notification_cmp}
use Rattle.td_machine.specs.State.Content.{messages, notification}
use Rattle.td_machine.specs.Active.{active, inputs_of}
use Rattle.td_machine.specs.InOrder.{OneAShard}
use Rattle.td_machine.specs.Moves.{StampsMove, come_given, gone_given}
use Rattle.td_machine.specs.Steps.{effect, is_given, ends}
use Rattle.td_machine.specs.Steps.Event.{give}
use Rattle.td_machine.specs.Steps.Answer.{has_given}
use Rattle.td_machine.specs.Steps.Gives.{gives}
use Rattle.td_machine.specs.Reached.{IsReached}
use Rattle.td_shard.specs.declared.shard.Shard.{Shard}
use Rattle.td_core.specs.declared.hall.Parts.{Parts}
use Rattle.td_core.specs.Parts.{state_of, IsHall, IsShard, in_mailboxes, with_tasks}
use Rattle.td_core.specs.Given.{IsUntouched, took}
use Rattle.td_core.specs.Posted.{of_shard, mails, mails_with}
use Rattle.td_core.specs.Routes.{IsRoutes, edge_in}
use Rattle.td_core.specs.declared.hall.Routes.{Routes}
use Rattle.td_core.proofs.CollectSteps.{ReachedByStep}
use Rattle.td_core.proofs.CloseSteps.{CountsAppend}
use Rattle.td_core.proofs.OutTasks.{of_one, same_number, is_itself}
use Rattle.td_core.proofs.PostSteps.{as_many_mails, roomier_shards, same_buffered, same_asked}
use Rattle.td_core.proofs.RouteLists.{small_number}

-- THE TASK at a place of those that are out is one of them
abbrev or_else : {X : Type 0} → X → Option X → X
or_else x None = x
or_else x (Some y) = y

pub is_some_of : {X : Type 0} {x y : X} → Some x ≡ Some y → x ≡ y
is_some_of {X} {x} {y} e = ap (or_else x) e

pub among : {X : Type 0} (xs : List X) (i : ℕ) (x : X) → slice_get xs i ≡ Some x → Contains xs x
among [] i x e = absurd (cc)
among (y ∷ ys) zero x e = (0, omega arith, is_some_of e)
among (y ∷ ys) (suc i) x e = let rest = among ys i x e in (suc (rest.0), omega (arith, rest.1), rest.2)

-- without it the others are left, which are of other shards
module _ (task : Task) where
  abbrev others : List Task → List Task
  others tasks = filter (λ t. not (t.shard == task.shard)) tasks

  all_stay : (tasks : List Task) → AllByRecursion (λ other. task.shard ≡ other.shard → ⊥) tasks → others tasks ≡ tasks
  all_stay [] h = refl
  all_stay (t ∷ ts) h = by (t.shard == task.shard) refl (all_stay ts h.1)
    where
      by : (b : Bool) → (t.shard == task.shard) ≡ b → others ts ≡ ts → cond (not b) (t ∷ others ts) (others ts) ≡ t ∷ ts
      by true e rest = absurd (h.0 (sym (same_number t.shard task.shard e)))
      by false e rest = ap (λ l. t ∷ l) rest

  one_stays : (t : Task) (ts : List Task) → (t.shard ≡ task.shard → ⊥) → others (t ∷ ts) ≡ t ∷ others ts
  one_stays t ts other = by (t.shard == task.shard) refl
    where
      by : (b : Bool) → (t.shard == task.shard) ≡ b → cond (not b) (t ∷ others ts) (others ts) ≡ t ∷ others ts
      by true e = absurd (other (same_number t.shard task.shard e))
      by false e = refl

  pub others_left : (tasks : List Task) (place : ℕ) → slice_get tasks place ≡ Some task → OneAShard tasks → remove tasks place ≡ others tasks
  others_left [] place e once = absurd (cc)
  others_left (t ∷ ts) zero e once =
      let is : t ≡ task = is_some_of e in
      let here : (t.shard == task.shard) ≡ true = ap (λ (u : Task). u.shard == task.shard) is ∙ is_itself task.shard in
      sym (ap (λ b. cond (not b) (t ∷ others ts) (others ts)) here ∙ all_stay ts (subst (λ (u : Task). AllByRecursion (λ other. u.shard ≡ other.shard → ⊥) ts) is once.0))
  others_left (t ∷ ts) (suc place) e once =
      let differs : t.shard ≡ task.shard → ⊥ = of_one (λ (u : Task). t.shard ≡ u.shard → ⊥) ts task once.0 (among ts place task e) in
      ap (λ l. t ∷ l) (others_left ts place e once.1) ∙ sym (one_stays t ts differs)

-- what goes with a task depends on the plan alone
pub gone_by_plan : (S T : HallState) (task : Task) (content : Content) → S.plan ≡ T.plan → gone_given S task content ≡ gone_given T task content
gone_by_plan S T task (messages port recs) e = ap (λ p. gone_given (record S { plan = p }) task (messages port recs)) e
gone_by_plan S T task (notification items) e = refl

-- A TASK that is out, and the pointstamps that come and go when it is given
module _ (answers : Answers) (steps : ReachedByStep answers) (moves : StampsMove answers) (append : CountsAppend) (old : Parts) (task : Task)
    (there : Contains old.out.items task) (inv : IsHall answers old) where
  abbrev pub after : HallState
  after = is_given (effect answers (state_of old) task task.content) task

  moved : (p : Stamp) → occurrences p (come_given answers (state_of old) task task.content ++ active (state_of old)) ≡ occurrences p (gone_given (state_of old) task task.content ++ active after)
  moved p = moves (state_of old) after (give task) has_given inv.reached (gives there) (is_stamp p)

  -- when those came that come, those are there that go
  module _ (mid : Parts) (plan : mid.table.plan ≡ old.table.plan) (come : IsSameBag mid.table.stamps (come_given answers (state_of old) task task.content ++ old.table.stamps)) where
    pub enough : (p : Stamp) → occurrences p (gone_given (state_of mid) task task.content) ≤ occurrences p mid.table.stamps
    enough p =
        let same = ap (occurrences p) (gone_by_plan (state_of mid) (state_of old) task task.content plan) in
        let m = moved p in
        let c = come p in
        let i = inv.counted p in
        let one = append p (come_given answers (state_of old) task task.content) (active (state_of old)) in
        let two = append p (come_given answers (state_of old) task task.content) old.table.stamps in
        let three = append p (gone_given (state_of old) task task.content) (active after) in
        omega (arith, same, m, c, i, one, two, three)

    -- and when they are gone, the active ones of the state after are left
    module _ (end : Parts) (gone : IsSameBag mid.table.stamps (gone_given (state_of mid) task task.content ++ end.table.stamps)) (is : state_of end ≡ after) where
      still_counted : IsSameBag end.table.stamps (active after)
      still_counted p =
          let same = ap (occurrences p) (gone_by_plan (state_of mid) (state_of old) task task.content plan) in
          let m = moved p in
          let c = come p in
          let g = gone p in
          let i = inv.counted p in
          let one = append p (come_given answers (state_of old) task task.content) (active (state_of old)) in
          let two = append p (come_given answers (state_of old) task task.content) old.table.stamps in
          let three = append p (gone_given (state_of old) task task.content) (active after) in
          let four = append p (gone_given (state_of mid) task task.content) end.table.stamps in
          omega (arith, same, m, c, g, i, one, two, three, four)

      -- the hall is one still
      pub given_hall : end.inputs.items ≡ old.inputs.items → end.table.plan ≡ old.table.plan → end.routes ≡ old.routes → end.next ≡ old.next
          → length end.shards.items ≡ length old.shards.items → AllByRecursion (IsShard (length end.shards.items)) (enumerate_from 0 end.shards.items) → IsHall answers end
      given_hall inputs plan_end routes next many shards = record {
        reached = subst (λ S. IsReached answers S) (sym is) (steps (state_of old) after (give task) has_given inv.reached (gives there));
        counted = subst (λ S. IsSameBag end.table.stamps (active S)) (sym is) still_counted;
        inputs = inputs ∙ (inv.inputs ∙ ap inputs_of (sym plan_end));
        shards = shards;
        few = subst (λ n. n ≤ 16) (sym many) inv.few;
        next = subst (λ n. n ≤ ends) (sym next) inv.next;
        routes = subst (λ s. IsRoutes end.table.plan s) (sym routes) (subst (λ p. IsRoutes p old.routes) (sym plan_end) inv.routes);
      }

-- A HALL THAT IS UNTOUCHED but for room is as it was
mail_by_lists : (shards : List Shard) → in_mailboxes shards ≡ flat_map (λ m. m) (mails shards)
mail_by_lists [] = refl
mail_by_lists (s ∷ shards) = ap (λ l. s.mailbox.messages ++ l) (mail_by_lists shards)

module _ (old new : Parts) (same : IsUntouched old new) where
  abbrev olds : List Shard
  olds = old.shards.items

  abbrev news : List Shard
  news = new.shards.items

  many : length news ≡ length olds
  many = as_many_mails olds news same.shards.mails

  mail : in_mailboxes news ≡ in_mailboxes olds
  mail = mail_by_lists news ∙ (ap (flat_map (λ m. m)) same.shards.mails ∙ sym (mail_by_lists olds))

  pub untouched_state : state_of new ≡ state_of old
  untouched_state = ap state_of same.fields ∙ (λ i. record (state_of old) {
    plan = same.plan i;
    workers = many i;
    messages = bag_of message_cmp (mail i ++ with_tasks old.out.items);
    buffered = bag_of message_cmp (same_buffered olds news same.shards.waiting i);
    asked = set_of notification_cmp (same_asked 0 olds news same.shards.waiting i);
  })

  pub untouched_hall : (answers : Answers) → IsHall answers old → IsHall answers new
  untouched_hall answers inv = record {
    reached = subst (IsReached answers) (sym untouched_state) inv.reached;
    counted = λ p. same.stamps p ∙ (inv.counted p ∙ ap (λ S. occurrences p (active S)) (sym untouched_state));
    inputs = ap (λ (f : Parts). f.inputs.items) same.fields ∙ (inv.inputs ∙ ap inputs_of (sym same.plan));
    shards = roomier_shards olds news same.shards inv.shards;
    few = subst (λ n. n ≤ 16) (sym many) inv.few;
    next = subst (λ n. n ≤ ends) (sym (ap (λ (f : Parts). f.next) same.fields)) inv.next;
    routes = subst (λ s. IsRoutes new.table.plan s) (sym (ap (λ (f : Parts). f.routes) same.fields)) (subst (λ p. IsRoutes p old.routes) (sym same.plan) inv.routes);
  }

-- as many shards when messages were posted
pub as_many_posted : (cs : List Message) (old new : List Shard) → mails new ≡ mails_with cs old → length new ≡ length old
as_many_posted cs old new e =
    sym (length-map new (λ s. s.mailbox.messages))
    ∙ (ap length e ∙ (length-map (enumerate_from 0 old) (λ p. p.1.mailbox.messages ++ of_shard (length old) p.0 cs) ∙ length-enumerate_from 0 old))

-- THE POINTSTAMP of what a task took up
pub so_often : ((p q : Stamp) → (is_stamp p q ≡ true) ↔ (p ≡ q)) → (append : CountsAppend) → (p : Stamp) (n : ℕ) → occurrences p (replicate n p) ≡ n
so_often same append p zero = refl
so_often same append p (suc n) =
    let one : occurrences p (p ∷ []) ≡ 1 = ap (λ b. 0 + cond b 1 0) ((same p p).1 refl) in
    let two = append p (p ∷ []) (replicate n p) in
    let rest = so_often same append p n in
    omega (arith, one, two, rest)

module _ (S : HallState) (routes : Routes) (are : IsRoutes S.plan routes) (own : StampsOfTask) (task : Task) where
  -- it goes as often as it came
  pub gone_is_took : (content : Content) → gone_given S task content ≡ replicate (took routes task content).times (took routes task content).stamp
  gone_is_took (messages port recs) =
      own S.plan task.vertex port task.time recs ∙ ap (λ e. replicate (length recs) (record { time = task.time; place = places.Edge e })) (sym (are.edge task.vertex port))
  gone_is_took (notification items) = refl

  -- the number of its edge fits
  pub edge_is_small : ((p : Stamp) (xs : List Stamp) → Contains xs p ↔ (0 < occurrences p xs)) → ((p q : Stamp) → (is_stamp p q ≡ true) ↔ (p ≡ q)) → (append : CountsAppend)
      → (stamps : List Stamp) → ((p : Stamp) → occurrences p (gone_given S task task.content) ≤ occurrences p stamps) → AllByRecursion (IsOf S.plan) stamps → IsPlan S.plan → IsSized task.content
      → (port : ℕ) (recs : List Rec) → task.content ≡ messages port recs → edge_in routes task.vertex port < 256
  edge_is_small contains same append stamps enough each lawful sized port recs content =
      let p : Stamp = record { time = task.time; place = places.Edge (edge_in routes task.vertex port) } in
      let some = (subst IsSized content sized).0 in
      let many = ap (occurrences p) (ap (gone_given S task) content ∙ gone_is_took (messages port recs)) ∙ so_often same append p (length recs) in
      let least = enough p in
      let there : Contains stamps p = (contains p stamps).1 (omega (arith, some, many, least)) in
      let of = of_one (IsOf S.plan) stamps p each there in
      small_number S.plan lawful (edge_in routes task.vertex port) of.0 of.1
