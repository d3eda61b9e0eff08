-- The lists and the tasks of each state that plays lead to are in order.
use Rattle.std.proofs.Common.{◌≡◌, ℕ, ◌+◌, ◌<◌, ◌≤◌, List, [], ◌∷◌, ◌++◌, length, map, flat_map, filter, refl, ap, sym, ◌∙◌, subst, Bool, true, false, not, ◌||◌, ◌==◌, arith}
use Rattle.std.specs.Prelude.{Option, Some, None, Contains, zero, suc, nat_lt, nat_le}
use Rattle.std.specs.List.{AllByRecursion}
use Rattle.std.specs.List.Sorted.{IsStrictlySortedBy}
use Rattle.std.specs.declared.cmp.Ordering.{Ordering}
use Rattle.std.specs.declared.cmp.Ordering.TheVariants.{Less, Equal, Greater}
use Rattle.std.specs.Ordering.{is_eq, is_gt}
use Rattle.std.specs.Cmp.{IsTotalOrder, on_total, nat_cmp_total}
use Rattle.std.specs.FinMap.{nat_cmp-IsAntisymmetric}
use Rattle.td_stamp.specs.declared.values.State.{State}
use Rattle.td_stamp.specs.declared.values.Entry.{Entry}
use Rattle.td_stamp.specs.Orders.{rec_cmp, state_key_cmp}
use Rattle.td_stamp.specs.Bag.{bag_insert, set_insert, join, has, IsBag}
use Rattle.td_stamp.specs.Rises.{Rises}
use Rattle.td_stamp.specs.States.{StateList, AreStates}
use Rattle.td_plan.specs.declared.vertex.Kind.{Kind}
use Rattle.td_plan.specs.declared.vertex.Kind.TheVariants.{Distinct}
use Rattle.td_calls.specs.Answers.{Answers}
use Rattle.td_machine.specs.declared.records.Message.{Message}
use Rattle.td_machine.specs.declared.records.Notification.{Notification}
use Rattle.td_machine.specs.State.{HallState, Task, Content, message_cmp, stamped_cmp, notification_cmp, output_at_cmp, left_cmp, task_cmp, shard_of_key, arrival, asked_of, local_at, is_out}
use Rattle.td_machine.specs.State.Content.{messages, notification}
use Rattle.td_machine.specs.Active.{kind_of, active, stamp_of_message, stamp_of_asked, stamps_of_inputs, unpassed, has_passed}
use Rattle.td_machine.specs.Steps.{opened, Event, Answer, Step, Plays, Takes, Gives, IsContent, MayTake, task_size, ends, release_by, cut_by, cut_at_by, cut_to, collect_step, close_step, with_task, with_asked, waiting, stamped, called, delivered, all_delivered, effect, is_given, coming, comes_out}
use Rattle.td_machine.specs.Steps.Event.{release, taking, give, collect, cut, cut_at, close}
use Rattle.td_machine.specs.Steps.Takes.{is_busy, has_none, is_spent, takes}
use Rattle.td_machine.specs.Steps.Gives.{gives, is_stranger}
use Rattle.td_machine.specs.Sound.{batches_of}
use Rattle.td_machine.specs.Reached.{IsReached}
use Rattle.td_machine.specs.InOrder.{ListsInOrder, TasksInOrder, NumbersInOrder, StillThere, OneAShard}
use Rattle.td_machine.proofs.History.{Origin, History, Invariant, StandsOut, recs_in, is_distinct, has_answer}
use Rattle.td_machine.proofs.Orders.{stamped_total, notification_total, notification_apart}
use Rattle.td_machine.proofs.Lists.{all_weaken, all_both, all_filter, all_map, filter_yes, filter_no, filter_all}
use Rattle.td_machine.proofs.Bags.{turned_back, insert_past, insert_before_less, insert_before_equal, set_insert_past, set_insert_less, set_insert_equal, all_insert, all_set_insert, IsBag-from_Rises, bag_of-IsBag, IsBag-filter}
use Rattle.td_machine.proofs.Callings.{where_true, sees, sees_none}
use Rattle.td_machine.proofs.Told.{seen_there, distinct_is}
use Rattle.td_machine.proofs.StatesLeft.{InOrder, states_in_order, left_keeps}
use Rattle.td_machine.proofs.Lawful.{plan_facts}
use Rattle.td_machine.proofs.Played.{play_has, at_index, fewer_shards}
use Rattle.td_machine.proofs.Plain.{eqb-same, one_more, free_shard}
use Rattle.std.proofs.lemmas.Bool.{eqb-true}
use Rattle.td_machine.specs.Below.{Below}

-- each element is below all later ones
abbrev pub Strict : {X : Type 0} → (X → X → Ordering) → List X → Type 0
Strict cmp [] = Unit {0}
Strict cmp (x ∷ xs) = AllByRecursion (λ y. cmp x y ≡ Less) xs × Strict cmp xs

strictly : {X : Type 0} (cmp : X → X → Ordering) (xs : List X) → Strict cmp xs → IsStrictlySortedBy cmp xs
unfolding IsStrictlySortedBy
strictly cmp [] h = tt
strictly cmp (x ∷ xs) h = (h.0, strictly cmp xs h.1)

strict_rises : {X : Type 0} (cmp : X → X → Ordering) (xs : List X) → Strict cmp xs → Rises cmp xs
strict_rises cmp [] h = tt
strict_rises cmp (x ∷ xs) h = (all_weaken (λ y. cmp x y ≡ Less) (λ y. is_gt (cmp x y) ≡ false) (λ y e. ap is_gt e) xs h.0, strict_rises cmp xs h.1)

strict_filter : {X : Type 0} (cmp : X → X → Ordering) (p : X → Bool) (xs : List X) → Strict cmp xs → Strict cmp (filter p xs)
strict_filter cmp p [] h = tt
strict_filter cmp p (x ∷ xs) h = by (p x) refl (strict_filter cmp p xs h.1)
  where
    by : (b : Bool) → p x ≡ b → Strict cmp (filter p xs) → Strict cmp (filter p (x ∷ xs))
    by true e rest = subst (Strict cmp) (sym (filter_yes p x xs e))
        (all_weaken (λ y. (cmp x y ≡ Less) × (p y ≡ true)) (λ y. cmp x y ≡ Less) (λ y k. k.0) (filter p xs) (all_filter (λ y. cmp x y ≡ Less) p xs h.0), rest)
    by false e rest = subst (Strict cmp) (sym (filter_no p x xs e)) rest

module _ {X : Type 0} (cmp : X → X → Ordering) (total : IsTotalOrder cmp) where
  pub strict_set_insert : (x : X) (ys : List X) → Strict cmp ys → Strict cmp (set_insert cmp x ys)
  strict_set_insert x [] h = (tt, tt)
  strict_set_insert x (y ∷ ys) h = by (cmp x y) refl (strict_set_insert x ys h.1)
    where
      by : (o : Ordering) → cmp x y ≡ o → Strict cmp (set_insert cmp x ys) → Strict cmp (set_insert cmp x (y ∷ ys))
      by Less e rest = subst (Strict cmp) (sym (set_insert_less cmp x y ys e)) ((e, all_weaken (λ z. cmp y z ≡ Less) (λ z. cmp x z ≡ Less) (λ z l. total.trans x y z e l) ys h.0), h)
      by Equal e rest = subst (Strict cmp) (sym (set_insert_equal cmp x y ys e)) h
      by Greater e rest = subst (Strict cmp) (sym (set_insert_past cmp x y ys e)) (all_set_insert cmp (λ z. cmp y z ≡ Less) x ys (turned_back cmp total x y e) h.0, rest)

  -- one that ties with none
  strict_bag_insert : (x : X) (ys : List X) → AllByRecursion (λ y. cmp x y ≡ Equal → ⊥) ys → Strict cmp ys → Strict cmp (bag_insert cmp x ys)
  strict_bag_insert x [] n h = (tt, tt)
  strict_bag_insert x (y ∷ ys) n h = by (cmp x y) refl (strict_bag_insert x ys n.1 h.1)
    where
      by : (o : Ordering) → cmp x y ≡ o → Strict cmp (bag_insert cmp x ys) → Strict cmp (bag_insert cmp x (y ∷ ys))
      by Less e rest = subst (Strict cmp) (sym (insert_before_less cmp x y ys e)) ((e, all_weaken (λ z. cmp y z ≡ Less) (λ z. cmp x z ≡ Less) (λ z l. total.trans x y z e l) ys h.0), h)
      by Equal e rest = absurd (n.0 e)
      by Greater e rest = subst (Strict cmp) (sym (insert_past cmp x y ys e)) (all_insert cmp (λ z. cmp y z ≡ Less) x ys (turned_back cmp total x y e) h.0, rest)

not_tied : {X : Type 0} (cmp : X → X → Ordering) (x : X) (ys : List X) → has cmp x ys ≡ false → AllByRecursion (λ y. cmp x y ≡ Equal → ⊥) ys
not_tied cmp x [] h = tt
not_tied cmp x (y ∷ ys) h = by (is_eq (cmp x y)) refl h (not_tied cmp x ys)
  where
    by : (b : Bool) → is_eq (cmp x y) ≡ b → (b || has cmp x ys) ≡ false → (has cmp x ys ≡ false → AllByRecursion (λ y. cmp x y ≡ Equal → ⊥) ys) → AllByRecursion (λ y. cmp x y ≡ Equal → ⊥) (y ∷ ys)
    by true e k rest = cc
    by false e k rest = ((λ q. let no : true ≡ false = sym (ap is_eq q) ∙ e in cc), rest k)

strict_asked : (xs ys : List Notification) → Strict notification_cmp ys → Strict notification_cmp (with_asked xs ys)
strict_asked [] ys h = h
strict_asked (x ∷ xs) ys h = strict_set_insert notification_cmp notification_total x (with_asked xs ys) (strict_asked xs ys h)

-- a task has one record at least, and not too many
abbrev IsSized : Content → Type 0
IsSized (messages port recs) = (0 < length recs) × (length recs ≤ task_size)
IsSized (notification items) = Unit {0}

-- WHAT STEPS KEEP in order by themselves
pub record Ordered (S : HallState) : Type 0 where
  pub seen : Strict stamped_cmp S.seen
  pub asked : Strict notification_cmp S.asked
  pub out : Strict task_cmp S.out
  pub numbers : AllByRecursion (λ task. task.number ≤ S.taken) S.out
  pub sizes : AllByRecursion (λ task. IsSized task.content) S.out
  pub once : OneAShard S.out
  pub many : S.given + length S.out ≡ S.taken
  pub taken : S.taken ≤ ends

-- a notification that was asked for is active
has_contains : (a : Notification) (xs : List Notification) → has notification_cmp a xs ≡ true → Contains xs a
has_contains a [] h = absurd (cc)
has_contains a (x ∷ xs) h = by (notification_cmp a x) refl h (has_contains a xs)
  where
    next : Contains xs a → Contains (x ∷ xs) a
    next c = (suc c.0, (let l = c.1 in omega (arith, l)), c.2)

    by : (o : Ordering) → notification_cmp a x ≡ o → (is_eq o || has notification_cmp a xs) ≡ true → (has notification_cmp a xs ≡ true → Contains xs a) → Contains (x ∷ xs) a
    by Less e k rest = next (rest k)
    by Greater e k rest = next (rest k)
    by Equal e k rest = (0, omega arith, sym (notification_apart a x e))

map_contains : {X Y : Type 0} (f : X → Y) (xs : List X) (x : X) → Contains xs x → Contains (map f xs) (f x)
map_contains f [] x c = absurd (let l = c.1 in omega (arith, l))
map_contains f (y ∷ xs) x (zero, l, e) = (0, omega arith, ap f e)
map_contains f (y ∷ xs) x (suc k, l, e) = let r = map_contains f xs x (k, omega (arith, l), e) in (suc r.0, (let m = r.1 in omega (arith, m)), r.2)

after_contains : {X : Type 0} (xs ys : List X) (x : X) → Contains ys x → Contains (xs ++ ys) x
after_contains [] ys x c = c
after_contains (y ∷ xs) ys x c = let r = after_contains xs ys x c in (suc r.0, (let m = r.1 in omega (arith, m)), r.2)

before_contains : {X : Type 0} (xs ys : List X) (x : X) → Contains xs x → Contains (xs ++ ys) x
before_contains [] ys x c = absurd (let l = c.1 in omega (arith, l))
before_contains (y ∷ xs) ys x (zero, l, e) = (0, omega arith, e)
before_contains (y ∷ xs) ys x (suc k, l, e) = let r = before_contains xs ys x (k, omega (arith, l), e) in (suc r.0, (let m = r.1 in omega (arith, m)), r.2)

asked_active : (S : HallState) (a : Notification) → has notification_cmp a S.asked ≡ true → Contains (active S) (stamp_of_asked a)
asked_active S a h =
    after_contains (map (stamp_of_message S.plan) S.messages) (map stamp_of_asked S.asked ++ stamps_of_inputs S.plan S.next S.closed) (stamp_of_asked a)
    (before_contains (map stamp_of_asked S.asked) (stamps_of_inputs S.plan S.next S.closed) (stamp_of_asked a) (map_contains stamp_of_asked S.asked a (has_contains a S.asked h)))

task_total : IsTotalOrder task_cmp
task_total = on_total (λ t. t.number) nat_cmp_total

module _ (below : Below) (answers : Answers) where
  seen_ordered : (S : HallState) (kind : Kind) (c : Message) → Strict stamped_cmp S.seen → (b : Bool) → is_distinct kind ≡ b
      → Strict stamped_cmp (join stamped_cmp (stamped c.vertex c.time (called answers S kind c).seen) S.seen)
  seen_ordered S kind c h false e = subst (λ l. Strict stamped_cmp (join stamped_cmp (stamped c.vertex c.time l) S.seen))
      (sym (sees_none below answers kind (local_at S c.vertex c.time) (arrival c) e)) h
  seen_ordered S kind c h true e = subst (λ k. Strict stamped_cmp (join stamped_cmp (stamped c.vertex c.time (called answers S k c).seen) S.seen)) (sym (distinct_is below kind e))
      (by (has rec_cmp c.rec (local_at S c.vertex c.time).seen) refl)
    where
      by : (b : Bool) → has rec_cmp c.rec (local_at S c.vertex c.time).seen ≡ b → Strict stamped_cmp (join stamped_cmp (stamped c.vertex c.time (called answers S Distinct c).seen) S.seen)
      by true f = subst (λ l. Strict stamped_cmp (join stamped_cmp (stamped c.vertex c.time l) S.seen))
          (sym (sees below answers (local_at S c.vertex c.time) (arrival c) ∙ ap (λ b. where_true below (not b) c.rec) f)) h
      by false f =
          subst (λ l. Strict stamped_cmp (join stamped_cmp (stamped c.vertex c.time l) S.seen))
          (sym (sees below answers (local_at S c.vertex c.time) (arrival c) ∙ ap (λ b. where_true below (not b) c.rec) f))
          (strict_bag_insert stamped_cmp stamped_total _ S.seen
          (not_tied stamped_cmp (record { vertex = c.vertex; time = c.time; rec = c.rec }) S.seen (sym (seen_there below c.vertex c.time c.rec S.seen) ∙ f)) h)

  delivered_ordered : (S : HallState) (kind : Kind) (c : Message) → Ordered S → Ordered (delivered answers S kind c)
  delivered_ordered S kind c h = record {
    seen = seen_ordered S kind c h.seen (is_distinct kind) refl;
    asked = strict_asked (map (λ a. asked_of S.workers (waiting c.vertex c.time a)) (called answers S kind c).buffered) S.asked h.asked;
    out = h.out;
    numbers = h.numbers;
    sizes = h.sizes;
    once = h.once;
    many = h.many;
    taken = h.taken;
  }

  all_ordered : (cs : List Message) (S : HallState) (kind : Kind) → Ordered S → Ordered (all_delivered answers kind S cs)
  all_ordered [] S kind h = h
  all_ordered (c ∷ cs) S kind h = all_ordered cs (delivered answers S kind c) kind (delivered_ordered S kind c h)

  effect_ordered : (S : HallState) (task : Task) (content : Content) → Ordered S → Ordered (effect answers S task content)
  effect_ordered S task (messages port recs) h = all_ordered (coming task.vertex port task.time recs) S task.kind h
  effect_ordered S task (notification items) h =
      record { seen = h.seen; asked = strict_filter notification_cmp _ S.asked h.asked; out = h.out; numbers = h.numbers; sizes = h.sizes; once = h.once; many = h.many; taken = h.taken }

  -- one task fewer is out
  one_less : (task : Task) (xs : List Task) → OneAShard xs → Contains xs task → length xs ≡ 1 + length (filter (λ t. not (t.shard == task.shard)) xs)
  one_less task [] h (k, l, e) = absurd (omega (arith, l))
  one_less task (x ∷ xs) h (zero, l, e) =
      let mine : (x.shard == task.shard) ≡ true = ap (λ (t : Task). t.shard == task.shard) e ∙ eqb-same below task.shard in
      let all : AllByRecursion (λ (t : Task). not (t.shard == task.shard) ≡ true) xs =
      all_weaken (λ (t : Task). x.shard ≡ t.shard → ⊥) (λ t. not (t.shard == task.shard) ≡ true)
      (λ t n. other t (λ same. n (ap (λ (t : Task). t.shard) e ∙ sym same)) (t.shard == task.shard) refl) xs h.0 in
      let rest : filter (λ t. not (t.shard == task.shard)) (x ∷ xs) ≡ xs =
      filter_no (λ t. not (t.shard == task.shard)) x xs (ap not mine) ∙ filter_all (λ t. not (t.shard == task.shard)) xs all in
      let n = ap length rest in omega (arith, n)
    where
      other : (t : Task) → ((t.shard ≡ task.shard) → ⊥) → (b : Bool) → (t.shard == task.shard) ≡ b → not (t.shard == task.shard) ≡ true
      other t n true f = absurd (n (eqb-true t.shard task.shard f))
      other t n false f = ap not f
  one_less task (x ∷ xs) h (suc k, l, e) =
      let differ : x.shard ≡ task.shard → ⊥ = at_index below (λ (t : Task). x.shard ≡ t.shard → ⊥) xs k task h.0 (omega (arith, l)) e in
      let rest = one_less task xs h.1 (k, omega (arith, l), e) in
      let n = ap length (filter_yes (λ t. not (t.shard == task.shard)) x xs (by differ (x.shard == task.shard) refl)) in
      omega (arith, n, rest)
    where
      by : ((x.shard ≡ task.shard) → ⊥) → (b : Bool) → (x.shard == task.shard) ≡ b → not (x.shard == task.shard) ≡ true
      by n true f = absurd (n (eqb-true x.shard task.shard f))
      by n false f = ap not f

  -- what a task does leaves the others out
  same_outs : (cs : List Message) (kind : Kind) (S : HallState) → (all_delivered answers kind S cs).out ≡ S.out
  same_outs [] kind S = refl
  same_outs (c ∷ cs) kind S = same_outs cs kind (delivered answers S kind c)

  same_out : (S : HallState) (task : Task) (content : Content) → (effect answers S task content).out ≡ S.out
  same_out S task (messages port recs) = same_outs (coming task.vertex port task.time recs) task.kind S
  same_out S task (notification items) = refl

  given_ordered : (S : HallState) (task : Task) → Contains S.out task → Ordered S → Ordered (is_given S task)
  given_ordered S task out h = record {
    seen = h.seen;
    asked = h.asked;
    out = strict_filter task_cmp (λ t. not (t.shard == task.shard)) S.out h.out;
    numbers = filtered (λ task. task.number ≤ S.taken) h.numbers;
    sizes = filtered (λ task. IsSized task.content) h.sizes;
    once = fewer_shards below (λ t. not (t.shard == task.shard)) S.out h.once;
    many = let n = one_less task S.out h.once out in let m = h.many in omega (arith, n, m);
    taken = h.taken;
  }
    where
      filtered : (P : Task → Type 0) → AllByRecursion P S.out → AllByRecursion P (filter (λ t. not (t.shard == task.shard)) S.out)
      filtered P k = all_weaken (λ t. P t × (not (t.shard == task.shard) ≡ true)) P (λ t q. q.0) (filter (λ t. not (t.shard == task.shard)) S.out)
          (all_filter P (λ t. not (t.shard == task.shard)) S.out k)

  length_more : (x : Task) (ys : List Task) → length (bag_insert task_cmp x ys) ≡ 1 + length ys
  length_more x [] = refl
  length_more x (y ∷ ys) = by (task_cmp x y) refl (length_more x ys)
    where
      by : (o : Ordering) → task_cmp x y ≡ o → length (bag_insert task_cmp x ys) ≡ 1 + length ys → length (bag_insert task_cmp x (y ∷ ys)) ≡ 1 + length (y ∷ ys)
      by Less e rest = let n = ap length (insert_before_less task_cmp x y ys e) in omega (arith, n)
      by Equal e rest = let n = ap length (insert_before_equal task_cmp x y ys e) in omega (arith, n)
      by Greater e rest = let n = ap length (insert_past task_cmp x y ys e) in omega (arith, n, rest)

  taken_ordered : (S : HallState) (s : ℕ) (task : Task) → is_out S s ≡ false → MayTake S s task → S.taken < ends → Ordered S → Ordered (with_task S task)
  taken_ordered S s task free may room h = record {
    seen = h.seen;
    asked = h.asked;
    out = strict_bag_insert task_cmp task_total task S.out
        (all_weaken (λ (t : Task). t.number ≤ S.taken) (λ t. task_cmp task t ≡ Equal → ⊥)
        (λ t l e. let same = nat_cmp-IsAntisymmetric task.number t.number e in let n = may.number in omega (arith, l, same, n)) S.out h.numbers) h.out;
    numbers = all_insert task_cmp (λ (t : Task). t.number ≤ S.taken + 1) task S.out (let n = may.number in omega (arith, n))
        (all_weaken (λ (t : Task). t.number ≤ S.taken) (λ t. t.number ≤ S.taken + 1) (λ t l. omega (arith, l)) S.out h.numbers);
    sizes = all_insert task_cmp (λ (t : Task). IsSized t.content) task S.out (sized task.content may.content) h.sizes;
    once = one_more below task S.out (all_weaken (λ (t : Task). t.shard ≡ s → ⊥) (λ t. t.shard ≡ task.shard → ⊥) (λ t n e. n (e ∙ may.shard)) S.out (free_shard below s S.out free)) h.once;
    many = let n = length_more task S.out in let m = h.many in omega (arith, n, m);
    taken = omega (arith, room);
  }
    where
      sized : (content : Content) → IsContent S s task.vertex task.time content → IsSized content
      sized (messages port recs) c = (c.0, c.1)
      sized (notification items) c = tt

  takes_ordered : (S : HallState) (s : ℕ) (answer : Answer) (after : HallState) → Takes S s answer after → Ordered S → Ordered after
  takes_ordered S s _ _ (is_busy e) h = h
  takes_ordered S s _ _ (has_none e n) h = h
  takes_ordered S s _ _ (is_spent e task may l) h = h
  takes_ordered S s _ _ (takes e task may l) h = taken_ordered S s task e may l h

  gives_ordered : (S : HallState) (task : Task) (answer : Answer) (after : HallState) → Gives answers S task answer after → Ordered S → Ordered after
  gives_ordered S task _ _ (gives out) h = given_ordered (effect answers S task task.content) task (subst (λ l. Contains l task) (sym (same_out S task task.content)) out)
      (effect_ordered S task task.content h)
  gives_ordered S task _ _ (is_stranger n) h = h

  -- what changes nothing of these
  alike : (S T : HallState) → Ordered S → T.seen ≡ S.seen → T.asked ≡ S.asked → T.out ≡ S.out → T.taken ≡ S.taken → T.given ≡ S.given → Ordered T
  alike S T h a b c d e = record {
    seen = subst (Strict stamped_cmp) (sym a) h.seen;
    asked = subst (Strict notification_cmp) (sym b) h.asked;
    out = subst (Strict task_cmp) (sym c) h.out;
    numbers = subst (λ l. AllByRecursion (λ (t : Task). t.number ≤ T.taken) l) (sym c) (subst (λ n. AllByRecursion (λ (t : Task). t.number ≤ n) S.out) (sym d) h.numbers);
    sizes = subst (AllByRecursion (λ (t : Task). IsSized t.content)) (sym c) h.sizes;
    once = subst OneAShard (sym c) h.once;
    many = (λ i. e i + length (c i)) ∙ h.many ∙ sym d;
    taken = subst (λ n. n ≤ ends) (sym d) h.taken;
  }

  cut_ordered : (S : HallState) (e : ℕ) → Ordered S → Ordered (cut_to S e)
  cut_ordered S e h = record {
    seen = strict_filter stamped_cmp
        (λ x. nat_lt e x.time.epoch) S.seen h.seen;
    asked = h.asked;
    out = h.out;
    numbers = h.numbers;
    sizes = h.sizes;
    once = h.once;
    many = h.many;
    taken = h.taken;
  }

  releases_ordered : (S : HallState) (batch : List Entry) (b c : Bool) → Ordered S → Ordered (release_by S b c batch).1
  releases_ordered S batch true c h = h
  releases_ordered S batch false true h = h
  releases_ordered S batch false false h = alike S _ h refl refl refl refl refl

  cuts_ordered : (S : HallState) (o : Option ℕ) (last : ℕ) → Ordered S → Ordered (cut_by S o last).1
  cuts_ordered S (Some e) last h = h
  cuts_ordered S None last h = cut_ordered S last h

  cuts_at_ordered : (S : HallState) (b : Bool) (e : ℕ) → Ordered S → Ordered (cut_at_by S b e).1
  cuts_at_ordered S true e h = cut_ordered S e h
  cuts_at_ordered S false e h = h

  step_ordered : (S : HallState) (event : Event) (answer : Answer) (after : HallState) → Step answers S event answer after → Ordered S → Ordered after
  step_ordered S (release batch) answer after h k = subst (λ (p : Answer × HallState). Ordered p.1) h.1 (releases_ordered S batch S.closed (S.next == ends) k)
  step_ordered S (taking s) answer after h k = takes_ordered S s answer after h k
  step_ordered S (give task) answer after h k = gives_ordered S task answer after h k
  step_ordered S collect answer after h k = subst (λ (p : Answer × HallState). Ordered p.1) h (alike S (collect_step S).1 k refl refl refl refl refl)
  step_ordered S cut answer after h k = subst (λ (p : Answer × HallState). Ordered p.1) h (cuts_ordered S (unpassed S) _ k)
  step_ordered S (cut_at e) answer after h k = subst (λ (p : Answer × HallState). Ordered p.1) h.2 (cuts_at_ordered S (has_passed S e) e k)
  step_ordered S close answer after h k = subst (λ (p : Answer × HallState). Ordered p.1) h (alike S (close_step S).1 k refl refl refl refl refl)

  plays_ordered : (events : List Event) (replies : List Answer) (S after : HallState) → Plays answers S events replies after → Ordered S → Ordered after
  plays_ordered [] [] S after p h = subst Ordered (sym p) h
  plays_ordered [] (answer ∷ replies) S after p h = absurd p
  plays_ordered (event ∷ events) [] S after p h = absurd p
  plays_ordered (event ∷ events) (answer ∷ replies) S after p h = plays_ordered events replies p.0 after p.2 (step_ordered S event answer p.0 p.1 h)

  -- EACH STATE THAT IS REACHED
  states_are : (states : StateList) → InOrder states → AreStates states
  unfolding IsStrictlySortedBy
  states_are [] h = tt
  states_are (e ∷ es) h = (all_map (λ k. state_key_cmp e.0 k ≡ Less) (λ (d : (ℕ × ℕ) × State). d.0) es h.0, states_are es h.1)

  still_content : (S : HallState) (task : Task) (content : Content) → IsSized content → AllByRecursion (λ r. shard_of_key S.workers r.key ≡ task.shard) (recs_in content)
      → StandsOut S task content → IsContent S task.shard task.vertex task.time content
  still_content S task (messages port recs) sized of_shard h = (sized.0, sized.1, of_shard, h)
  still_content S task (notification items) sized of_shard h = (h.0, record { is_active = asked_active S _ h.0; is_free = h.1 }, h.2)

  abbrev pub origin_of : (S : HallState) → IsReached answers S → Origin
  origin_of S r = record { states = r.states; first = r.first; batches = batches_of r.events r.replies }

  pub history_of : (S : HallState) (r : IsReached answers S) → (H : History) × Invariant answers (origin_of S r) S H
  history_of S r = let p = play_has below answers r.plan r.states r.first r.workers r.events r.replies S r.lawful (plan_facts below r.plan r.lawful) r.ordered r.from_one r.some_worker r.plays in
      (p.0, p.1)

  pub ordered_of : (S : HallState) → IsReached answers S → Ordered S
  ordered_of S r = plays_ordered r.events r.replies (opened r.plan r.states r.first r.workers) S r.plays
      (record { seen = tt; asked = tt; out = tt; numbers = tt; sizes = tt; once = tt; many = refl; taken = omega arith })

  pub lists_in_order : (S : HallState) → IsReached answers S → ListsInOrder S
  lists_in_order S r =
      let h = history_of S r in
      let told = h.1.running.told in
      let o = ordered_of S r in
      record {
        messages = h.1.running.messages_bag;
        buffered = subst (IsBag message_cmp) (sym told.buffered) (bag_of-IsBag message_cmp below.messages (filter (λ c. not (has_answer S.plan S.workers h.0.notified c)) h.0.arrived));
        seen = IsBag-from_Rises stamped_cmp below.stamped S.seen (strict_rises stamped_cmp S.seen o.seen);
        seen_once = strictly stamped_cmp S.seen o.seen;
        left = subst (IsBag left_cmp) (sym told.left) (IsBag-filter left_cmp below.left (λ k. nat_lt S.base k.epoch) h.0.left told.left_bag);
        asked = strictly notification_cmp S.asked o.asked;
        outputs = subst (IsBag output_at_cmp) (sym told.outputs)
            (bag_of-IsBag output_at_cmp below.outputs_at (filter (λ o. nat_lt S.collected o.epoch) (flat_map (λ c. comes_out (kind_of S.plan c.vertex) c) h.0.arrived)));
        base_states = states_are S.base_states (subst InOrder (sym told.base_states) (left_keeps (filter (λ k. nat_le k.epoch S.base) h.0.left) r.states (states_in_order r.states r.ordered)));
      }

  pub tasks_in_order : (S : HallState) → IsReached answers S → TasksInOrder S
  tasks_in_order S r =
      let h = history_of S r in
      let o = ordered_of S r in
      let Stand : Task → Type 0 = λ task. (task.kind ≡ kind_of S.plan task.vertex) × AllByRecursion (λ r. shard_of_key S.workers r.key ≡ task.shard)
      (recs_in task.content) × StandsOut S task task.content in
      let Rest : Task → Type 0 = λ task. (task.number ≤ S.taken) × IsSized task.content in
      let rest : AllByRecursion Rest S.out = all_both (λ (task : Task). task.number ≤ S.taken) (λ task. IsSized task.content) S.out o.numbers o.sizes in
      record {
        there = all_weaken (λ task. Stand task × Rest task) (StillThere S) (λ task k. (k.0.0, k.1.0, still_content S task task.content k.1.1 k.0.1 k.0.2)) S.out
            (all_both Stand Rest S.out h.1.tasks.stand rest);
        one_a_shard = h.1.tasks.once;
        in_order = strictly task_cmp S.out o.out;
      }

  pub numbers_in_order : (S : HallState) → IsReached answers S → NumbersInOrder S
  numbers_in_order S r =
      let stands = (history_of S r).1.stands in
      let o = ordered_of S r in
      record { plan = stands.plan; workers = stands.workers; base = stands.base.1; collected = stands.collected.1; given = o.many; taken = o.taken }
