-- A hall from which a task was taken, and one to which it was put back.
use Rattle.std.proofs.Common.{◌≡◌, inl, inr, ℕ, ◌+◌, ◌-◌, ◌<◌, ◌≤◌, true, false, List, [], ◌∷◌, ◌++◌, map, flat_map, length, get_or, slice_get, HoldsAt, Option, Some, None, is_some, refl, ap, sym, ◌∙◌, subst, arith, append-nil, append_assoc, length-append, pos, Result, Ok, Err, IfOk, IfErr, OnErr, IsTrue, true≢false}
use Rattle.std.specs.declared.cmp.Ordering.{Ordering}
use Rattle.std.specs.declared.cmp.Ordering.TheVariants.{Less, Equal, Greater}
use Rattle.std.specs.Ordering.{nat_cmp}
use Rattle.std.specs.FinMap.{IsAntisymmetric}
use Rattle.std.specs.List.{AllByRecursion, enumerate_from}
use Rattle.std.specs.BTreeMap.{is_at}
use Rattle.std.specs.Map.{remove_entry}
use Rattle.std.proofs.lemmas.Bool.Decides.{nat_tests}
use Rattle.std.proofs.lemmas.List.{length-map}
use Rattle.td_stamp.specs.declared.values.Rec.{Rec}
use Rattle.td_stamp.specs.declared.values.Arrival.{Arrival}
use Rattle.td_stamp.specs.Bag.{bag_of, bag_insert, set_of, join}
use Rattle.td_stamp.specs.BagLaws.{BagLaws, SetLaws}
use Rattle.td_stamp.specs.Groups.{groups}
use Rattle.td_stamp.specs.Time.{Timestamp, time_cmp}
use Rattle.td_calls.specs.Answers.{Answers}
use Rattle.td_progress.specs.Bag.{IsSameBag}
use Rattle.td_machine.specs.Reached.{IsReached}
use Rattle.td_machine.specs.declared.records.Message.{Message}
use Rattle.td_machine.specs.Active.{active, kind_of}
use Rattle.td_machine.specs.InOrder.{ListsInOrder, TasksInOrder, NumbersInOrder, StillThere}
use Rattle.td_machine.specs.State.{HallState, Task, Content, message_cmp, notification_cmp, task_cmp, shard_of_key, is_out}
use Rattle.td_machine.specs.State.Content.{messages, notification}
use Rattle.td_machine.specs.Steps.{Answer, Takes, MayTake, IsContent, coming, with_task, with_state_of, to_notify, task_size, ends}
use Rattle.td_machine.specs.Steps.Event.{taking}
use Rattle.td_machine.specs.Steps.Answer.{has_taken}
use Rattle.td_machine.specs.Steps.Takes.{takes, has_none, is_spent, is_busy}
use Rattle.td_machine.specs.Steps.Refusal.{spent}
use Rattle.td_machine.specs.NoneLeft.{NoneToTake}
use Rattle.std.proofs.lemmas.Option.{slice_get-get_or}
use Rattle.td_core.specs.declared.error.HallError.{HallError}
use Rattle.td_core.specs.declared.error.HallError.TheVariants.{Memory}
use Rattle.td_machine.specs.Waits.{WaitsByPlace, WhatWaits}
use Rattle.td_shard.specs.declared.waiting.Noted.{Noted}
use Rattle.td_shard.specs.declared.shard.Shard.{Shard}
use Rattle.td_shard.specs.Asked.{noted_cmp, items_at}
use Rattle.td_shard.specs.Messages.{IsBeside, task_at, left_at}
use Rattle.td_core.specs.declared.hall.Parts.{Parts}
use Rattle.td_core.specs.declared.take.Candidate.{Candidate}
use Rattle.td_core.specs.declared.take.Candidate.TheVariants as candidates
use Rattle.td_core.specs.Parts.{state_of, IsHall, IsShard, empty_shard, in_mailboxes, with_tasks, taken_up, waiting_in, asked_in}
use Rattle.td_core.specs.Posted.{mails, waits}
use Rattle.td_core.specs.Taking.{IsReady, IsPicked, IsTaskFor, IsSame, IsPickTaken, IsPickRefused, IsTakeRefused, IsLastTake, mails_without, changed_at}
use Rattle.td_core.proofs.CollectSteps.{ReachedByStep}
use Rattle.td_core.proofs.PostSteps.{as_many_waits, same_buffered, same_asked}
use Rattle.td_core.proofs.ShardParts.{IsMail, mail_of, waiting_of, united}
use Rattle.td_core.proofs.Waits.{waiting_all}
use Rattle.td_core.proofs.WaitsAll.{waiting_by_lists, IsWaiting}
use Rattle.td_core.proofs.TakeLists.{IsKeyOf, weaker, of_two, of_first, of_second, in_bag, of_bag, come_back, flat, flat_mails, less_there, more_there, same_bag, mails_stay, at_own, get_map}
use Rattle.td_core.proofs.TakeSteps.{InAnyOrder, key_there, split_all, all_else, items_own, in_state, asked_there, none_here}

-- what is known of the tasks of a mailbox
abbrev pub Parted : Type 0
Parted = (ms : List Message) (pick : ℕ) → pick < length ms → bag_of message_cmp (task_at pick ms ++ left_at pick ms) ≡ bag_of message_cmp ms

abbrev pub HaveSome : Type 0
HaveSome = (ms : List Message) (pick : ℕ) → pick < length ms → 0 < length (task_at pick ms)

abbrev pub AreFew : Type 0
AreFew = (ms : List Message) (pick : ℕ) → length (task_at pick ms) ≤ task_size

abbrev pub AreBeside : Type 0
AreBeside = (ms : List Message) (pick : ℕ) (c : Message) → slice_get ms pick ≡ Some c → AllByRecursion (IsBeside c) (task_at pick ms)

-- TASKS that are out
pub with_one_more : (out : List Task) (task : Task) → with_tasks (out ++ task ∷ []) ≡ with_tasks out ++ taken_up task.vertex task.time task.content
with_one_more [] task = append-nil (taken_up task.vertex task.time task.content)
with_one_more (t ∷ ts) task = ap (λ l. taken_up t.vertex t.time t.content ++ l) (with_one_more ts task) ∙ sym (append_assoc (taken_up t.vertex t.time t.content) (with_tasks ts) (taken_up task.vertex task.time task.content))

greater : (a b : ℕ) → b < a → nat_cmp a b ≡ Greater
greater a b l = grind (arith, nat_tests)

-- a task with a greater number comes last
pub inserted_last : (task : Task) (out : List Task) → AllByRecursion (λ (t : Task). t.number < task.number) out → bag_insert task_cmp task out ≡ out ++ task ∷ []
inserted_last task [] h = refl
inserted_last task (t ∷ ts) h = by (task_cmp task t) (greater task.number t.number h.0) (inserted_last task ts h.1)
  where
    by : (o : Ordering) → o ≡ Greater → bag_insert task_cmp task ts ≡ ts ++ task ∷ [] → elim o [ Greater ↦ t ∷ bag_insert task_cmp task ts | _ ↦ task ∷ t ∷ ts ] ≡ t ∷ ts ++ task ∷ []
    by Less e later = absurd (cc)
    by Equal e later = absurd (cc)
    by Greater e later = ap (λ l. t ∷ l) later

key_of_recs : (workers s v port : ℕ) (t : Timestamp) (recs : List Rec) → AllByRecursion (IsKeyOf workers s) (coming v port t recs) → AllByRecursion (λ r. shard_of_key workers r.key ≡ s) recs
key_of_recs workers s v port t [] h = tt
key_of_recs workers s v port t (r ∷ rs) h = (h.0, key_of_recs workers s v port t rs h.1)

keys_of_coming : (workers s v port : ℕ) (t : Timestamp) (recs : List Rec) → AllByRecursion (λ r. shard_of_key workers r.key ≡ s) recs → AllByRecursion (IsKeyOf workers s) (coming v port t recs)
keys_of_coming workers s v port t [] h = tt
keys_of_coming workers s v port t (r ∷ rs) h = (h.0, keys_of_coming workers s v port t rs h.1)

pub some_of : {X : Type 0} (o : Option X) → is_some o ≡ true → (x : X) × (o ≡ Some x)
some_of None e = absurd (cc)
some_of (Some x) e = (x, refl)

module _ (answers : Answers) (parts : Parts) (inv : IsHall answers parts) (bags : BagLaws message_cmp) (sets : SetLaws notification_cmp) (apart : IsAntisymmetric time_cmp)
    (frontier : InAnyOrder) (lists : ListsInOrder (state_of parts)) (tasks : TasksInOrder (state_of parts)) (numbers : NumbersInOrder (state_of parts)) where
  abbrev S : HallState
  S = state_of parts

  abbrev shards : List Shard
  shards = parts.shards.items

  abbrev W : ℕ
  W = length shards

  abbrev two : List Message → List Message → List Message
  two xs ys = join message_cmp xs ys

  -- the messages of a state, by mailboxes
  by_mails : (ms : List (List Message)) (zs : List Message) → bag_of message_cmp (flat ms ++ zs) ≡ two (flat ms) (bag_of message_cmp zs)
  by_mails ms zs = bags.append (flat ms) zs []

  module _ (parted : Parted) (s : ℕ) (l : s < W) where
    abbrev here : Shard
    here = get_or shards s empty_shard

    mail_here : get_or (mails shards) s [] ≡ here.mailbox.messages
    mail_here = get_map (λ (x : Shard). x.mailbox.messages) shards s empty_shard [] l

    within : s < length (mails shards)
    within = let many = length-map shards (λ s. s.mailbox.messages) in omega (arith, many, l)

    -- without a task's messages
    pub less_mail : (place : ℕ) → place < length here.mailbox.messages → (zs : List Message)
        → two (flat (mails shards)) zs ≡ two (task_at place here.mailbox.messages) (two (flat (changed_at (left_at place) s (mails shards))) zs)
    less_mail place under zs = less_there bags (left_at place) (task_at place here.mailbox.messages) (mails shards) s within
        (λ ys. ap (λ m. two m ys) mail_here
        ∙ (sym (same_bag bags (task_at place here.mailbox.messages ++ left_at place here.mailbox.messages) here.mailbox.messages ys (parted here.mailbox.messages place under))
        ∙ (bags.append (task_at place here.mailbox.messages) (left_at place here.mailbox.messages) ys ∙ ap (λ m. two (task_at place here.mailbox.messages) (two (left_at place m) ys)) (sym mail_here)))) zs

    own_here : AllByRecursion (IsKeyOf W s) here.mailbox.messages
    own_here =
        let zero_too : 0 + s ≡ s = omega arith in
        subst (AllByRecursion (IsKeyOf W s)) mail_here (subst (λ n. AllByRecursion (IsKeyOf W n) (get_or (mails shards) s [])) zero_too (at_own W 0 (mails shards) s within (mail_of W 0 shards inv.shards)))

    both_own : (place : ℕ) → place < length here.mailbox.messages → AllByRecursion (IsKeyOf W s) (task_at place here.mailbox.messages ++ left_at place here.mailbox.messages)
    both_own place under =
        of_bag message_cmp (IsKeyOf W s) (task_at place here.mailbox.messages ++ left_at place here.mailbox.messages)
        (subst (AllByRecursion (IsKeyOf W s)) (sym (parted here.mailbox.messages place under)) (in_bag message_cmp (IsKeyOf W s) here.mailbox.messages own_here))

    -- A TASK OF MESSAGES may be taken
    pub may_messages : HaveSome → AreFew → (place v port : ℕ) (t : Timestamp) (recs : List Rec) → place < length here.mailbox.messages → coming v port t recs ≡ task_at place here.mailbox.messages
        → IsContent S s v t (messages port recs)
    may_messages some few place v port t recs under are =
        let many : length recs ≡ length (task_at place here.mailbox.messages) = sym (length-map recs _) ∙ ap length are in
        let least = some here.mailbox.messages place under in
        let most = few here.mailbox.messages place in
        let others = flat (changed_at (left_at place) s (mails shards)) in
        let tasks_of = with_tasks parts.out.items in (
          omega (arith, many, least),
          omega (arith, many, most),
          key_of_recs W s v port t recs (subst (AllByRecursion (IsKeyOf W s)) (sym are) (of_first (IsKeyOf W s) (task_at place here.mailbox.messages) (left_at place here.mailbox.messages) (both_own place under))),
          (
            bag_of message_cmp (others ++ tasks_of),
            ap (λ m. bag_of message_cmp (m ++ tasks_of)) (flat_mails shards) ∙ (by_mails (mails shards) tasks_of ∙ (less_mail place under (bag_of message_cmp tasks_of)
                ∙ ((λ i. two (sym are i) (sym (by_mails (changed_at (left_at place) s (mails shards)) tasks_of) i))))),
          ),
        )

    -- A NOTIFICATION that is in the frontier may be taken
    pub may_notify : WaitsByPlace → WhatWaits → (n : Noted) (before after : List Noted) → map (λ w. w.0) here.waiting ≡ before ++ n ∷ after → IsReady parts.table n
        → (keys : Content) → ((items : List Arrival) → items_at here.waiting n.vertex n.time ≡ Some items → keys ≡ notification (map (with_state_of S n.vertex n.time) (groups items)))
        → IsContent S s n.vertex n.time keys
    may_notify place waits_for n before after e ready keys are =
        let asked = key_there n here.waiting before after e in
        let at = some_of (items_at here.waiting n.vertex n.time) asked in
        let items = at.0 in
        let ws = waits shards in
        let zero_too : s ≡ 0 + s = omega arith in
        let wait_here : get_or ws s [] ≡ here.waiting = get_map (λ (x : Shard). x.waiting) shards s empty_shard [] l in
        let found : items_at (get_or ws s []) n.vertex n.time ≡ Some items = ap (λ es. items_at es n.vertex n.time) wait_here ∙ at.1 in
        let short : s < length ws = let many = length-map shards (λ x. x.waiting) in omega (arith, many, l) in
        let rest = flat_map waiting_all (changed_at (remove_entry (is_at (noted_cmp n))) s ws) in
        let waiting_for = (waits_for S s n.vertex n.time items (bag_of message_cmp rest)
        (ap (bag_of message_cmp) (waiting_by_lists shards) ∙ split_all bags apart n items ws s short found [])
        (bags.associative rest [] [])
        (subst (λ m. AllByRecursion (λ a. shard_of_key W a.key ≡ m) items) (sym zero_too) (items_own bags apart n items W 0 ws s short (waiting_of W 0 shards inv.shards) found))
        (in_bag message_cmp _ rest (all_else bags apart n items S s place 0 ws s zero_too (waiting_of W 0 shards inv.shards)))).0 in
        subst (IsContent S s n.vertex n.time) (sym (are items at.1)) (
          asked_there answers parts inv bags sets apart frontier lists tasks numbers s n.vertex n.time empty_shard l ∙ asked,
          in_state answers parts inv bags sets apart frontier lists tasks numbers n ready,
          sym waiting_for,
        )

  -- THE STATE when a task was taken
  module _ (s : ℕ) (l : s < W) (new : Parts) (task : Task) (number : task.number ≡ parts.taken + 1)
      (fields : new ≡ record parts { shards = new.shards; out = new.out; taken = parts.taken + 1 }) (out : new.out.items ≡ parts.out.items ++ task ∷ [])
      (waiting_same : waits new.shards.items ≡ waits shards)
      (mail : (zs : List Message) → two (flat (mails shards)) zs ≡ two (taken_up task.vertex task.time task.content) (two (flat (mails new.shards.items)) zs)) where
    abbrev its : List Message
    its = taken_up task.vertex task.time task.content

    same_messages : bag_of message_cmp (in_mailboxes new.shards.items ++ with_tasks new.out.items) ≡ S.messages
    same_messages =
        let wo = with_tasks parts.out.items in
        let fn = flat (mails new.shards.items) in
        (λ i. bag_of message_cmp (flat_mails new.shards.items i ++ (ap with_tasks out ∙ with_one_more parts.out.items task) i))
        ∙ (by_mails (mails new.shards.items) (wo ++ its)
        ∙ (ap (two fn) (bags.append wo its [] ∙ bags.swaps wo its [])
        ∙ (bags.swaps fn its (two wo [])
        ∙ (sym (mail (two wo [])) ∙ (sym (by_mails (mails shards) wo) ∙ ap (λ m. bag_of message_cmp (m ++ wo)) (sym (flat_mails shards)))))))

    below : AllByRecursion (λ (t : Task). t.number < task.number) parts.out.items
    below = weaker (StillThere S) (λ (t : Task). t.number < task.number) (λ t still. let most = still.1 in omega (arith, most, number)) parts.out.items tasks.there

    pub stepped : state_of new ≡ with_task S task
    stepped = ap state_of fields ∙ (λ i. record S {
      workers = as_many_waits shards new.shards.items waiting_same i;
      messages = same_messages i;
      buffered = bag_of message_cmp (same_buffered shards new.shards.items waiting_same i);
      asked = set_of notification_cmp (same_asked 0 shards new.shards.items waiting_same i);
      out = (out ∙ sym (inserted_last task parts.out.items below)) i;
      taken = parts.taken + 1;
    })

    pub kept : ReachedByStep answers → Takes S s (has_taken (Some task)) (with_task S task) → AllByRecursion (IsMail W) (enumerate_from 0 (mails new.shards.items)) → IsHall answers new
    kept steps step own = subst (IsHall answers) (sym fields) (record {
      reached = subst (λ f. IsReached answers (state_of f)) fields (subst (IsReached answers) (sym stepped) (steps S (with_task S task) (taking s) (has_taken (Some task)) inv.reached step));
      counted = subst (λ T. IsSameBag parts.table.stamps (active T)) (sym stepped ∙ ap state_of fields) inv.counted;
      inputs = inv.inputs;
      shards = subst (λ n. AllByRecursion (IsShard n) (enumerate_from 0 new.shards.items)) (sym (as_many_waits shards new.shards.items waiting_same))
          (united W 0 new.shards.items own (subst (λ ws. AllByRecursion (IsWaiting W) (enumerate_from 0 ws)) (sym waiting_same) (waiting_of W 0 shards inv.shards)));
      few = subst (λ n. n ≤ 16) (sym (as_many_waits shards new.shards.items waiting_same)) inv.few;
      next = inv.next;
      routes = inv.routes;
    })

  -- PARTS with no more than room are the same hall
  pub same_state : (new : Parts) → IsSame parts new → state_of new ≡ S
  same_state new is = ap state_of is.fields ∙ (λ i. record S {
    workers = length (is.shards i);
    messages = bag_of message_cmp (in_mailboxes (is.shards i) ++ with_tasks (is.out i));
    buffered = bag_of message_cmp (flat_map waiting_in (is.shards i));
    asked = set_of notification_cmp (flat_map asked_in (enumerate_from 0 (is.shards i)));
    out = is.out i;
  })

  pub same_hall : (new : Parts) → IsSame parts new → IsHall answers new
  same_hall new is = subst (IsHall answers) (sym is.fields) (record {
    reached = subst (IsReached answers) (sym (same_state new is) ∙ ap state_of is.fields) inv.reached;
    counted = subst (λ T. IsSameBag parts.table.stamps (active T)) (sym (same_state new is) ∙ ap state_of is.fields) inv.counted;
    inputs = inv.inputs;
    shards = subst (λ ss. AllByRecursion (IsShard (length ss)) (enumerate_from 0 ss)) (sym is.shards) inv.shards;
    few = subst (λ ss. length ss ≤ 16) (sym is.shards) inv.few;
    next = inv.next;
    routes = inv.routes;
  })

  -- WHAT A TAKE ANSWERS
  module _ (parted : Parted) (some : HaveSome) (few : AreFew) (beside : AreBeside) (place_law : WaitsByPlace) (waits_law : WhatWaits) (none : NoneToTake) (steps : ReachedByStep answers)
      (s pick : ℕ) (l : s < W) (free : is_out S s ≡ false) where
    abbrev at_shard : Shard
    at_shard = get_or shards s empty_shard

    pub may_take : (c : Candidate) (task : Task) → IsPicked parts.table at_shard pick (Some c) → IsTaskFor parts s at_shard c task → MayTake S s task
    may_take (candidates.Message place) task picked is = record {
      shard = is.shard_is;
      number = is.number;
      kind = is.kind;
      content = subst (IsContent S s task.vertex task.time) (sym is.content.2) (may_messages parted s l some few place task.vertex is.content.0 task.time is.content.1 picked.0 is.content.3);
    }
    may_take (candidates.Notification n) task picked is = record {
      shard = is.shard_is;
      number = is.number;
      kind = is.kind;
      content = subst (λ (x : ℕ × Timestamp). IsContent S s x.0 x.1 task.content) (λ i. (sym is.content.0 i, sym is.content.1 i))
          (may_notify parted s l place_law waits_law n picked.1.0 picked.1.1 picked.1.3 picked.1.6 task.content is.content.2);
    }

    nothing : Message
    nothing = record { vertex = 0; port = 0; time = record { epoch = 0; turns = [] }; rec = record { key = 0; val = pos 0 } }

    -- there is a task for each candidate
    pub some_task : (c : Candidate) → IsPicked parts.table at_shard pick (Some c) → (task : Task) × MayTake S s task
    some_task (candidates.Message place) picked =
        let ms = at_shard.mailbox.messages in
        let m = get_or ms place nothing in
        let found : slice_get ms place ≡ Some m = slice_get-get_or ms place nothing picked.0 in
        let recs = map (λ (x : Message). x.rec) (task_at place ms) in (
          record { shard = s; number = parts.taken + 1; vertex = m.vertex; kind = kind_of parts.table.plan m.vertex; time = m.time; content = messages m.port recs },
          record {
            shard = refl;
            number = refl;
            kind = refl;
            content = may_messages parted s l some few place m.vertex m.port m.time recs picked.0 (come_back m (task_at place ms) (beside ms place m found));
          },
        )
    some_task (candidates.Notification n) picked = (
      record { shard = s; number = parts.taken + 1; vertex = n.vertex; kind = kind_of parts.table.plan n.vertex; time = n.time; content = notification (to_notify S s n.vertex n.time) },
      record {
        shard = refl;
        number = refl;
        kind = refl;
        content = (
          asked_there answers parts inv bags sets apart frontier lists tasks numbers s n.vertex n.time empty_shard l ∙ key_there n at_shard.waiting picked.1.0 picked.1.1 picked.1.3,
          in_state answers parts inv bags sets apart frontier lists tasks numbers n picked.1.6,
          refl,
        );
      },
    )

    -- a shard that has a candidate has a task, and the other way round
    pub has_one : (r : Option Candidate) → HoldsAt (λ x. IsPicked parts.table x pick r) shards s → (IsTrue (is_some r) → (is_out S s ≡ false) × ((task : Task) × MayTake S s task))
        × ((is_out S s ≡ false) × ((task : Task) × MayTake S s task) → IsTrue (is_some r))
    has_one None picked = (λ t. absurd (true≢false (sym t)), λ h. absurd (none_here answers parts inv bags sets apart frontier lists tasks numbers none s free l picked h.1.0 h.1.1))
    has_one (Some c) picked = (λ t. (free, some_task c (picked empty_shard)), λ h. refl)

    -- what is no longer in mailboxes is with the task
    mail_moved : (c : Candidate) (new : Parts) (task : Task) → IsPicked parts.table at_shard pick (Some c) → IsTaskFor parts s at_shard c task → mails new.shards.items ≡ mails_without c s (mails shards)
        → (zs : List Message) → two (flat (mails shards)) zs ≡ two (taken_up task.vertex task.time task.content) (two (flat (mails new.shards.items)) zs)
    mail_moved (candidates.Message place) new task picked is left zs =
        let its : taken_up task.vertex task.time task.content ≡ task_at place at_shard.mailbox.messages = ap (taken_up task.vertex task.time) is.content.2 ∙ is.content.3 in
        less_mail parted s l place picked.0 zs ∙ (λ i. two (sym its i) (two (flat (sym left i)) zs))
    mail_moved (candidates.Notification n) new task picked is left zs =
        let at = some_of (items_at at_shard.waiting n.vertex n.time) (key_there n at_shard.waiting picked.1.0 picked.1.1 picked.1.3) in
        let its : taken_up task.vertex task.time task.content ≡ [] = ap (taken_up task.vertex task.time) (is.content.2 at.0 at.1) in
        λ i. two (sym its i) (two (flat (sym left i)) zs)

    own_mail : (c : Candidate) (new : Parts) → IsPicked parts.table at_shard pick (Some c) → mails new.shards.items ≡ mails_without c s (mails shards) → AllByRecursion (IsMail W) (enumerate_from 0 (mails new.shards.items))
    own_mail (candidates.Message place) new picked left =
        let zero_too : s ≡ 0 + s = omega arith in
        subst (λ ms. AllByRecursion (IsMail W) (enumerate_from 0 ms)) (sym left)
        (mails_stay W 0 (left_at place) (mails shards) s
        (λ m is _. subst (λ n. AllByRecursion (IsKeyOf W n) (left_at place m)) zero_too
        (subst (λ x. AllByRecursion (IsKeyOf W s) (left_at place x)) (sym (is ∙ mail_here parted s l)) (of_second (IsKeyOf W s) (task_at place at_shard.mailbox.messages) (left_at place at_shard.mailbox.messages) (both_own parted s l place picked.0))))
        (mail_of W 0 shards inv.shards))
    own_mail (candidates.Notification n) new picked left = subst (λ ms. AllByRecursion (IsMail W) (enumerate_from 0 ms)) (sym left) (mail_of W 0 shards inv.shards)

    module _ (new : Parts) where
      taken_state : (task : Task) → IsPickTaken s pick parts new (Some task) → state_of new ≡ with_task S task
      taken_state task t =
          stepped s l new task (t.1 empty_shard).1.number t.2.fields t.2.out t.2.waiting (mail_moved t.0 new task (t.1 empty_shard).0 (t.1 empty_shard).1 t.2.mails)

      takes_it : (task : Task) → IsPickTaken s pick parts new (Some task) → Takes S s (has_taken (Some task)) (with_task S task)
      takes_it task t = takes free task (may_take t.0 task (t.1 empty_shard).0 (t.1 empty_shard).1) t.3

      pub answered : (r : Result (Option Task) HallError) → IfOk r (IsPickTaken s pick parts new) → IfOk r (λ task. Takes S s (has_taken task) (state_of new))
      answered (Err why) t = tt
      answered (Ok None) t = subst (λ f. Takes S s (has_taken None) (state_of f)) (sym t.1) (has_none free (none_here answers parts inv bags sets apart frontier lists tasks numbers none s free l t.0))
      answered (Ok (Some task)) t = subst (Takes S s (has_taken (Some task))) (sym (taken_state task t)) (takes_it task t)

      pub still_hall : (r : Result (Option Task) HallError) → IfOk r (IsPickTaken s pick parts new) → OnErr r (IsSame parts new) → IsHall answers new
      still_hall (Err why) t same = same_hall new same
      still_hall (Ok None) t same = subst (IsHall answers) (sym t.1) inv
      still_hall (Ok (Some task)) t same =
          kept s l new task (t.1 empty_shard).1.number t.2.fields t.2.out t.2.waiting (mail_moved t.0 new task (t.1 empty_shard).0 (t.1 empty_shard).1 t.2.mails) steps (takes_it task t) (own_mail t.0 new (t.1 empty_shard).0 t.2.mails)

    pub refused_so : (r : Result (Option Task) HallError) → IfErr r (IsPickRefused s pick parts) → IfErr r (IsTakeRefused S s)
    refused_so (Ok task) h = tt
    refused_so (Err why) (inl m) = inl m.0
    refused_so (Err why) (inr h) = let one = some_task h.2.0 (h.2.1 empty_shard) in inr (spent, h.0, is_spent free one.0 one.1 h.1)

    -- want of memory comes last
    pub memory_last : (r : Result (Option Task) HallError) → IfErr r (IsPickRefused s pick parts) → IfErr r (λ e. e ≡ Memory → (is_out S s ≡ false) × (S.taken < ends))
    memory_last (Ok task) h = tt
    memory_last (Err why) (inl m) = λ is. (free, m.1)
    memory_last (Err why) (inr h) = λ is. absurd (let other = h.0 in cc)

-- PUT BACK
last_of : {X : Type 0} (xs ys : List X) (x y : X) → xs ++ x ∷ [] ≡ ys ++ y ∷ [] → (xs ≡ ys) × (x ≡ y)
last_of [] [] x y e = (refl, cc)
last_of [] (z ∷ []) x y e = absurd (cc)
last_of [] (z ∷ w ∷ ys) x y e = absurd (cc)
last_of (z ∷ []) [] x y e = absurd (cc)
last_of (z ∷ w ∷ xs) [] x y e = absurd (cc)
last_of (z ∷ xs) (w ∷ ys) x y e =
    let first : z ≡ w = cc in
    let rest : xs ++ x ∷ [] ≡ ys ++ y ∷ [] = cc in
    let later = last_of xs ys x y rest in
    ((λ i. first i ∷ later.0 i), later.1)

-- the state to which the last take led
led_to : (S : HallState) (s : ℕ) (answer : Answer) (T : HallState) → Takes S s answer T → (task : Task) → answer ≡ has_taken (Some task) → (T ≡ with_task S task) × MayTake S s task
led_to S s _ _ (is_busy e) task is = absurd (cc)
led_to S s _ _ (has_none e n) task is = absurd (cc)
led_to S s _ _ (is_spent e one may l) task is = absurd (cc)
led_to S s _ _ (takes e one may l) task is = let same : one ≡ task = cc in ((λ i. with_task S (same i)), subst (MayTake S s) same may)

module _ (answers : Answers) (parts : Parts) (inv : IsHall answers parts) (bags : BagLaws message_cmp) (numbers : NumbersInOrder (state_of parts))
    (order : (S : HallState) → IsReached answers S → TasksInOrder S) (s : ℕ) (l : s < length parts.shards.items) where
  -- the state before the last take is known by the tasks that are out
  module _ (S : HallState) (task : Task) (last : IsLastTake answers S s task (state_of parts)) where
    led : (state_of parts ≡ with_task S task) × MayTake S s task
    led = led_to S s (has_taken (Some task)) (state_of parts) last.1 task refl

    lower : AllByRecursion (λ (t : Task). t.number < task.number) S.out
    lower = weaker (StillThere S) (λ (t : Task). t.number < task.number) (λ t still. let most = still.1 in let one = led.1.number in omega (arith, most, one)) S.out (order S last.0).there

    pub was_out : parts.out.items ≡ S.out ++ task ∷ []
    was_out = ap (λ (T : HallState). T.out) led.0 ∙ inserted_last task S.out lower

    pub some_out : 0 < length parts.out.items
    some_out = let many = ap length was_out ∙ length-append S.out (task ∷ []) in omega (arith, many)

  pub some_taken : (xs : List Task) (t : Task) → parts.out.items ≡ xs ++ t ∷ [] → 1 ≤ parts.taken
  some_taken xs t e = let all = numbers.given in let many = ap length e ∙ length-append xs (t ∷ []) in omega (arith, all, many)

  -- the parts after
  module _ (then : Parts) (popped : Task) (out : parts.out.items ≡ then.out.items ++ popped ∷ [])
      (mail : mails then.shards.items ≡ changed_at (λ ms. ms ++ taken_up popped.vertex popped.time popped.content) s (mails parts.shards.items)) (waiting_same : waits then.shards.items ≡ waits parts.shards.items) where
    abbrev back : Parts
    back = record parts { shards = then.shards; out = then.out; taken = parts.taken - 1 }

    abbrev gone : List Message
    gone = taken_up popped.vertex popped.time popped.content

    messages_back : bag_of message_cmp (in_mailboxes then.shards.items ++ with_tasks then.out.items) ≡ (state_of parts).messages
    messages_back =
        let wo = with_tasks then.out.items in
        let fo = flat (mails parts.shards.items) in
        let many = length-map parts.shards.items (λ x. x.mailbox.messages) in
        ap (λ m. bag_of message_cmp (m ++ wo)) (flat_mails then.shards.items ∙ ap flat mail)
        ∙ (bags.append (flat (changed_at (λ ms. ms ++ gone) s (mails parts.shards.items))) wo []
        ∙ (more_there bags gone (mails parts.shards.items) s (omega (arith, many, l)) (join message_cmp wo [])
        ∙ (bags.swaps gone fo (join message_cmp wo [])
        ∙ (ap (join message_cmp fo) (bags.swaps gone wo [] ∙ sym (bags.append wo gone []))
        ∙ (sym (bags.append fo (wo ++ gone) [])
        ∙ (λ i. bag_of message_cmp (sym (flat_mails parts.shards.items) i ++ sym (ap with_tasks out ∙ with_one_more then.out.items popped) i)))))))

    module _ (S : HallState) (task : Task) (last : IsLastTake answers S s task (state_of parts)) where
      same : (then.out.items ≡ S.out) × (popped ≡ task)
      same = last_of then.out.items S.out popped task (sym out ∙ was_out S task last)

      -- THE STATE is the one before the take
      pub is_back : state_of back ≡ S
      is_back =
          let count : parts.taken - 1 ≡ S.taken = let one = ap (λ (T : HallState). T.taken) (led S task last).0 in omega (arith, one) in
          (λ i. record (state_of parts) {
            workers = as_many_waits parts.shards.items then.shards.items waiting_same i;
            messages = messages_back i;
            buffered = bag_of message_cmp (same_buffered parts.shards.items then.shards.items waiting_same i);
            asked = set_of notification_cmp (same_asked 0 parts.shards.items then.shards.items waiting_same i);
            out = same.0 i;
            taken = count i;
          })
          ∙ (λ i. record ((led S task last).0 i) { out = S.out; taken = S.taken })

      its_own : AllByRecursion (IsKeyOf (length parts.shards.items) s) gone
      its_own =
          let workers : length parts.shards.items ≡ S.workers = ap (λ (T : HallState). T.workers) (led S task last).0 in
          subst (λ (t : Task). AllByRecursion (IsKeyOf (length parts.shards.items) s) (taken_up t.vertex t.time t.content)) (sym same.1)
          (subst (λ n. AllByRecursion (IsKeyOf n s) (taken_up task.vertex task.time task.content)) (sym workers) (own task.content (led S task last).1.content))
        where
          own : (content : Content) → IsContent S s task.vertex task.time content → AllByRecursion (IsKeyOf S.workers s) (taken_up task.vertex task.time content)
          own (notification items) is = tt
          own (messages port recs) is = keys_of_coming S.workers s task.vertex port task.time recs is.2

      pub hall_back : IsHall answers back
      hall_back =
          let zero_too : s ≡ 0 + s = omega arith in
          let W = length parts.shards.items in
          record {
            reached = subst (IsReached answers) (sym is_back) last.0;
            counted = subst (λ T. IsSameBag parts.table.stamps (active T)) (sym is_back) (subst (λ T. IsSameBag parts.table.stamps (active T)) (led S task last).0 inv.counted);
            inputs = inv.inputs;
            shards = subst (λ n. AllByRecursion (IsShard n) (enumerate_from 0 then.shards.items)) (sym (as_many_waits parts.shards.items then.shards.items waiting_same))
                (united W 0 then.shards.items
                (subst (λ ms. AllByRecursion (IsMail W) (enumerate_from 0 ms)) (sym mail)
                (mails_stay W 0 (λ ms. ms ++ gone) (mails parts.shards.items) s
                (λ m is own. of_two (IsKeyOf W (0 + s)) m gone own (subst (λ n. AllByRecursion (IsKeyOf W n) gone) zero_too its_own)) (mail_of W 0 parts.shards.items inv.shards)))
                (subst (λ ws. AllByRecursion (IsWaiting W) (enumerate_from 0 ws)) (sym waiting_same) (waiting_of W 0 parts.shards.items inv.shards)));
            few = subst (λ n. n ≤ 16) (sym (as_many_waits parts.shards.items then.shards.items waiting_same)) inv.few;
            next = inv.next;
            routes = inv.routes;
          }
