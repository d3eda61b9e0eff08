-- A take of a hall is the machine's step.
use Rattle.std.proofs.Common.{◌≡◌, ◌⊎◌, inl, inr, ℕ, zero, suc, ◌+◌, ◌<◌, ◌≤◌, ◌==◌, Bool, true, false, not, ◌&&◌, ◌||◌, cond, List, [], ◌∷◌, ◌++◌, map, filter, flat_map, length, get_or, HoldsAt, Some, None, is_some, refl, ap, sym, ◌∙◌, subst, arith, append_assoc, true≢false, Contains, ◌↔◌}
use Rattle.std.specs.declared.cmp.Ordering.{Ordering}
use Rattle.std.specs.declared.cmp.Ordering.TheVariants.{Less, Equal, Greater}
use Rattle.std.specs.Ordering.{is_eq, nat_cmp}
use Rattle.std.specs.FinMap.{IsAntisymmetric, nat_cmp-IsAntisymmetric}
use Rattle.std.specs.Map.{remove_entry, keys_of}
use Rattle.std.specs.BTreeMap.{is_at}
use Rattle.std.specs.List.{AllByRecursion, enumerate_from, list_any}
use Rattle.std.specs.List.Sorted.{IsStrictlySortedBy}
use Rattle.std.proofs.lemmas.Bool.Decides.{nat_tests}
use Rattle.std.proofs.lemmas.Cmp.{tied_itself}
use Rattle.td_stamp.specs.declared.values.Rec.{Rec}
use Rattle.td_stamp.specs.declared.values.Arrival.{Arrival}
use Rattle.td_stamp.specs.ProvedOrders.{both_tie}
use Rattle.td_machine.specs.declared.records.Notification.{Notification}
use Rattle.td_stamp.specs.Bag.{join}
use Rattle.td_stamp.specs.BagLaws.{BagLaws, SetLaws}
use Rattle.td_stamp.specs.Time.{Timestamp, time_cmp}
use Rattle.td_machine.specs.declared.records.Message.{Message}
use Rattle.std.proofs.lemmas.Nat.{mod_below}
use Rattle.td_calls.specs.Answers.{Answers}
use Rattle.td_plan.specs.Lines.{Line}
use Rattle.td_reach.specs.declared.stamp.Stamp.{Stamp}
use Rattle.td_reach.specs.Frontier as frontiers
use Rattle.td_reach.specs.Paths.{IsOf}
use Rattle.td_progress.specs.Bag.{IsSameBag, occurrences}
use Rattle.td_calls.specs.Callbacks.{is_notified}
use Rattle.td_machine.specs.Active.{active, kind_of, stamp_at, stamp_of_asked, stamp_of_message, Frontier}
use Rattle.td_machine.specs.InOrder.{ListsInOrder, TasksInOrder, NumbersInOrder, StillThere}
use Rattle.td_machine.specs.NoneLeft.{NoneToTake}
use Rattle.td_machine.specs.State.{HallState, Task, Content, message_cmp, notification_cmp, shard_of_key, is_there, is_out}
use Rattle.td_machine.specs.State.Content.{messages, notification}
use Rattle.td_machine.specs.Steps.{asked_at, is_asked, is_for, waiting, coming, IsContent, MayTake}
use Rattle.td_machine.specs.Waits.{WaitsByPlace}
use Rattle.td_progress.specs.Bag.{Active}
use Rattle.td_shard.specs.declared.waiting.Noted.{Noted}
use Rattle.td_shard.specs.declared.shard.Shard.{Shard}
use Rattle.td_shard.specs.Asked.{AskedList, noted_cmp, noted_at, items_at}
use Rattle.td_shard.specs.ProvedOrders.{noted_total}
use Rattle.td_core.specs.declared.hall.Parts.{Parts}
use Rattle.td_core.specs.Parts.{state_of, IsHall, IsShard, empty_shard, in_mailboxes, with_tasks, taken_up, waiting_at, asked_in, asked_of_shard}
use Rattle.td_core.specs.Posted.{mails}
use Rattle.td_core.specs.Taking.{AreAsked, IsReady, AreReady, IsPicked, changed_at, stamp_of_noted}
use Rattle.td_core.proofs.NotifyLists.{there_is, removed, is_other}
use Rattle.td_core.proofs.TakeLists.{every, weaker, of_two, of_first, of_second, in_bag, flat, flat_mails, none_of, get_map}
use Rattle.td_core.proofs.ShardParts.{mail_of}
use Rattle.td_core.proofs.Waits.{noted_apart, waiting_all, as_messages}
use Rattle.td_core.proofs.WaitsAll.{IsWaiting}
use Rattle.td_core.proofs.WaitsAsked.{asks, is_in, in_two, in_set, asked_here, not_elsewhere}

-- the frontier is that of the bag
abbrev pub InAnyOrder : Type 0
InAnyOrder = (plan : List Line) (xs ys : List Stamp) (p : Stamp) → IsSameBag xs ys → frontiers.Frontier plan xs p → frontiers.Frontier plan ys p

-- WHAT IS ASKED FOR at a vertex and time
module _ (v : ℕ) (t : Timestamp) where
  or_false : (b : Bool) → (b || false) ≡ b
  or_false true = refl
  or_false false = refl

  pub nowhere : (s k : ℕ) (shards : List Shard) → (s < k) ⊎ (k + length shards ≤ s) → is_in (asks s v t) (flat_map asked_in (enumerate_from k shards)) ≡ false
  nowhere s k [] h = refl
  nowhere s k (x ∷ xs) h =
      in_two (asks s v t) (map (asked_of_shard k) x.waiting) (flat_map asked_in (enumerate_from (k + 1) xs))
      ∙ (λ i. not_elsewhere s v t k (apart h) x.waiting i || nowhere s (k + 1) xs (later h) i)
    where
      apart : (s < k) ⊎ (k + length (x ∷ xs) ≤ s) → s ≡ k → ⊥
      apart (inl l) e = absurd (omega (arith, l, e))
      apart (inr l) e = absurd (omega (arith, l, e))

      later : (s < k) ⊎ (k + length (x ∷ xs) ≤ s) → (s < k + 1) ⊎ (k + 1 + length xs ≤ s)
      later (inl l) = inl (omega (arith, l))
      later (inr l) = inr (omega (arith, l))

  pub there : (k : ℕ) (shards : List Shard) (i : ℕ) (d : Shard) → i < length shards → is_in (asks (k + i) v t) (flat_map asked_in (enumerate_from k shards)) ≡ is_some (items_at (get_or shards i d).waiting v t)
  there k [] i d h = absurd (omega (arith, h))
  there k (x ∷ xs) zero d h =
      let here : k + 0 ≡ k = omega arith in
      ap (λ n. is_in (asks n v t) (flat_map asked_in (enumerate_from k (x ∷ xs)))) here
      ∙ (in_two (asks k v t) (map (asked_of_shard k) x.waiting) (flat_map asked_in (enumerate_from (k + 1) xs))
      ∙ ((λ i. asked_here k v t x.waiting i || nowhere k (k + 1) xs (inl (omega arith)) i) ∙ or_false (is_some (items_at x.waiting v t))))
  there k (x ∷ xs) (suc i) d h =
      let next : k + suc i ≡ k + 1 + i = omega arith in
      in_two (asks (k + suc i) v t) (map (asked_of_shard k) x.waiting) (flat_map asked_in (enumerate_from (k + 1) xs))
      ∙ (ap (λ b. b || is_in (asks (k + suc i) v t) (flat_map asked_in (enumerate_from (k + 1) xs))) (not_elsewhere (k + suc i) v t k (λ e. absurd (omega (arith, e))) x.waiting)
      ∙ (ap (λ n. is_in (asks n v t) (flat_map asked_in (enumerate_from (k + 1) xs))) next ∙ there (k + 1) xs i d (omega (arith, h))))

  tie : (o : Ordering) → is_eq o ≡ true → o ≡ Equal
  tie Less e = absurd (cc)
  tie Equal e = refl
  tie Greater e = absurd (cc)

  -- where none is in the frontier, this one is not, if it is asked for
  pub none_ready : IsAntisymmetric time_cmp → (active : Active) (es : AskedList) → AreReady active (map (λ w. w.0) es) [] → is_some (items_at es v t) ≡ true → IsReady active (noted_at v t) → ⊥
  none_ready apart active [] are e is = absurd (cc)
  none_ready apart active (w ∷ es) (inr h) e is = absurd (let no = h.1.1 in cc)
  none_ready apart active (w ∷ es) (inl h) e is = by (is_at (noted_cmp (noted_at v t)) w.0) refl e (λ some. none_ready apart active es h.1 some is)
    where
      by : (b : Bool) → is_at (noted_cmp (noted_at v t)) w.0 ≡ b → is_some (cond b (Some w.1) (items_at es v t)) ≡ true → (is_some (items_at es v t) ≡ true → ⊥) → ⊥
      by true here some later = h.0 (subst (IsReady active) (noted_apart apart (noted_at v t) w.0 (tie (noted_cmp (noted_at v t) w.0) here)) is)
      by false other some later = later some

-- one that stands there is asked for
pub key_there : (n : Noted) (es : AskedList) (before after : List Noted) → map (λ w. w.0) es ≡ before ++ n ∷ after → is_some (items_at es n.vertex n.time) ≡ true
key_there n [] [] after e = absurd (cc)
key_there n [] (m ∷ before) after e = absurd (cc)
key_there n (w ∷ es) [] after e =
    let same : w.0 ≡ n = cc in
    let here : is_at (noted_cmp n) w.0 ≡ true = ap (λ m. is_at (noted_cmp n) m) same ∙ ap is_eq (tied_itself noted_total n) in
    ap (λ b. is_some (cond b (Some w.1) (items_at es n.vertex n.time))) here
key_there n (w ∷ es) (m ∷ before) after e =
    let rest : map (λ x. x.0) es ≡ before ++ n ∷ after = cc in
    by (is_at (noted_cmp n) w.0) (key_there n es before after rest)
  where
    by : (b : Bool) → is_some (items_at es n.vertex n.time) ≡ true → is_some (cond b (Some w.1) (items_at es n.vertex n.time)) ≡ true
    by true later = refl
    by false later = later

-- what is true of one that is asked for
each_key : (P : Noted → Type 0) (before xs : List Noted) → ((b a : List Noted) (n : Noted) → before ++ xs ≡ b ++ n ∷ a → P n) → AllByRecursion P xs
each_key P before [] f = tt
each_key P before (x ∷ xs) f = (f before xs x refl, each_key P (before ++ x ∷ []) xs (λ b a n e. f b a n (sym (append_assoc before (x ∷ []) xs) ∙ e)))

pub every_key : (P : Noted → Type 0) (xs : List Noted) → ((b a : List Noted) (n : Noted) → xs ≡ b ++ n ∷ a → P n) → AllByRecursion P xs
every_key P xs f = each_key P [] xs f

pub in_asked : IsAntisymmetric time_cmp → (P : ℕ → Timestamp → Type 0) (x : Notification) (ys : List Notification) → is_in x ys ≡ true → AllByRecursion (λ (y : Notification). P y.vertex y.time) ys → P x.vertex x.time
in_asked apart P x [] e h = absurd (cc)
in_asked apart P x (y ∷ ys) e h = by (notification_cmp x y) refl e (λ later. in_asked apart P x ys later h.1)
  where
    by : (o : Ordering) → notification_cmp x y ≡ o → (is_eq o || is_in x ys) ≡ true → (is_in x ys ≡ true → P x.vertex x.time) → P x.vertex x.time
    by Less same some later = later some
    by Greater same some later = later some
    by Equal same some later =
        let first = both_tie (nat_cmp x.vertex y.vertex) _ same in
        let second = both_tie (time_cmp x.time y.time) (nat_cmp x.shard y.shard) first.1 in
        subst (λ (z : ℕ × Timestamp). P z.0 z.1) (λ i. (sym (nat_cmp-IsAntisymmetric x.vertex y.vertex first.0) i, sym (apart x.time y.time second.0) i)) h.0

-- WHAT WAITS for it, beside all else
module _ (laws : BagLaws message_cmp) (apart : IsAntisymmetric time_cmp) (n : Noted) (items : List Arrival) where
  abbrev test : Noted → Bool
  test = is_at (noted_cmp n)

  abbrev its : List Message
  its = as_messages n items

  equal : (o : Ordering) → is_eq o ≡ true → o ≡ Equal
  equal Less e = absurd (cc)
  equal Equal e = refl
  equal Greater e = absurd (cc)

  some_is : (x y : List Arrival) → Some x ≡ Some y → x ≡ y
  some_is x y e = cc

  split_in : (es : AskedList) → items_at es n.vertex n.time ≡ Some items → (zs : List Message)
      → join message_cmp (waiting_all es) zs ≡ join message_cmp its (join message_cmp (waiting_all (remove_entry test es)) zs)
  split_in [] e zs = absurd (cc)
  split_in (w ∷ es) e zs = by (test w.0) refl e (λ later. split_in es later zs)
    where
      by : (b : Bool) → test w.0 ≡ b → cond b (Some w.1) (items_at es n.vertex n.time) ≡ Some items
          → (items_at es n.vertex n.time ≡ Some items → join message_cmp (waiting_all es) zs ≡ join message_cmp its (join message_cmp (waiting_all (remove_entry test es)) zs))
          → join message_cmp (waiting_all (w ∷ es)) zs ≡ join message_cmp its (join message_cmp (waiting_all (cond b es (w ∷ remove_entry test es))) zs)
      by true here same rest =
          let key : n ≡ w.0 = noted_apart apart n w.0 (equal (noted_cmp n w.0) here) in
          laws.append (waiting_at w) (waiting_all es) zs ∙ (λ i. join message_cmp (as_messages (sym key i) (some_is w.1 items same i)) (join message_cmp (waiting_all es) zs))
      by false other later rest =
          laws.append (waiting_at w) (waiting_all es) zs
          ∙ (ap (join message_cmp (waiting_at w)) (rest later)
          ∙ (laws.swaps (waiting_at w) its (join message_cmp (waiting_all (remove_entry test es)) zs)
          ∙ ap (join message_cmp its) (sym (laws.append (waiting_at w) (waiting_all (remove_entry test es)) zs))))

  -- in all shards
  abbrev all_waits : List AskedList → List Message
  all_waits ws = flat_map waiting_all ws

  pub split_all : (ws : List AskedList) (i : ℕ) → i < length ws → items_at (get_or ws i []) n.vertex n.time ≡ Some items → (zs : List Message)
      → join message_cmp (all_waits ws) zs ≡ join message_cmp its (join message_cmp (all_waits (changed_at (remove_entry test) i ws)) zs)
  split_all [] i h e zs = absurd (omega (arith, h))
  split_all (w ∷ ws) zero h e zs =
      laws.append (waiting_all w) (all_waits ws) zs ∙ (split_in w e (join message_cmp (all_waits ws) zs)
      ∙ ap (join message_cmp its) (sym (laws.append (waiting_all (remove_entry test w)) (all_waits ws) zs)))
  split_all (w ∷ ws) (suc i) h e zs =
      laws.append (waiting_all w) (all_waits ws) zs ∙ (ap (join message_cmp (waiting_all w)) (split_all ws i (omega (arith, h)) e zs)
      ∙ (laws.swaps (waiting_all w) its (join message_cmp (all_waits (changed_at (remove_entry test) i ws)) zs)
      ∙ ap (join message_cmp its) (sym (laws.append (waiting_all w) (all_waits (changed_at (remove_entry test) i ws)) zs))))

  -- all else is for others
  module _ (S : HallState) (s : ℕ) (place : WaitsByPlace) where
    abbrev IsElse : Message → Type 0
    IsElse c = is_for S (asked_at S s n.vertex n.time) c ≡ false

    and_false : (b : Bool) → (b && false) ≡ false
    and_false true = refl
    and_false false = refl

    else_by_key : (w : Noted × List Arrival) (came : List Arrival) (k : ℕ) → (k ≡ s → ⊥) → AllByRecursion (λ a. shard_of_key S.workers a.key ≡ k) came
        → AllByRecursion IsElse (map (waiting w.0.vertex w.0.time) came)
    else_by_key w [] k other h = tt
    else_by_key w (a ∷ came) k other h =
        let no : (shard_of_key S.workers a.key == s) ≡ false = ap (λ x. x == s) h.0 ∙ differ k s other in
        (place S s n.vertex n.time (waiting w.0.vertex w.0.time a) ∙ ap (λ b. b && is_there n.vertex n.time w.0.vertex w.0.time) no, else_by_key w came k other h.1)
      where
        differ : (a b : ℕ) → (a ≡ b → ⊥) → (a == b) ≡ false
        differ a b d = grind (arith, nat_tests)

    else_by_place : (w : Noted × List Arrival) (came : List Arrival) → test w.0 ≡ false → AllByRecursion IsElse (map (waiting w.0.vertex w.0.time) came)
    else_by_place w [] other = tt
    else_by_place w (a ∷ came) other = (
      place S s n.vertex n.time (waiting w.0.vertex w.0.time a) ∙ (ap (λ b. (shard_of_key S.workers a.key == s) && b) (there_is n.vertex n.time w.0 ∙ other) ∙ and_false (shard_of_key S.workers a.key == s)),
      else_by_place w came other,
    )

    others_here : (es : AskedList) → AllByRecursion IsElse (waiting_all (filter (is_other n) es))
    others_here [] = tt
    others_here (w ∷ es) = by (test w.0) refl (others_here es)
      where
        by : (b : Bool) → test w.0 ≡ b → AllByRecursion IsElse (waiting_all (filter (is_other n) es)) → AllByRecursion IsElse (waiting_all (cond (not b) (w ∷ filter (is_other n) es) (filter (is_other n) es)))
        by true here later = later
        by false other later = of_two IsElse (waiting_at w) (waiting_all (filter (is_other n) es)) (else_by_place w w.1 other) later

    others_there : (es : AskedList) (k : ℕ) → (k ≡ s → ⊥) → AllByRecursion (λ w. AllByRecursion (λ a. shard_of_key S.workers a.key ≡ k) w.1) es → AllByRecursion IsElse (waiting_all es)
    others_there [] k other h = tt
    others_there (w ∷ es) k other h = of_two IsElse (waiting_at w) (waiting_all es) (else_by_key w w.1 k other h.0) (others_there es k other h.1)

    else_all : (k : ℕ) (ws : List AskedList) → s < k → AllByRecursion (IsWaiting S.workers) (enumerate_from k ws) → AllByRecursion IsElse (all_waits ws)
    else_all k [] l are = tt
    else_all k (w ∷ ws) l are =
        of_two IsElse (waiting_all w) (all_waits ws) (others_there w k (λ e. absurd (omega (arith, l, e))) are.0.items) (else_all (k + 1) ws (omega (arith, l)) are.1)

    pub all_else : (k : ℕ) (ws : List AskedList) (i : ℕ) → s ≡ k + i → AllByRecursion (IsWaiting S.workers) (enumerate_from k ws) → AllByRecursion IsElse (all_waits (changed_at (remove_entry test) i ws))
    all_else k [] i e are = tt
    all_else k (w ∷ ws) zero e are =
        of_two IsElse (waiting_all (remove_entry test w)) (all_waits ws) (subst (λ es. AllByRecursion IsElse (waiting_all es)) (sym (removed n w are.0.once)) (others_here w)) (else_all (k + 1) ws (omega (arith, e)) are.1)
    all_else k (w ∷ ws) (suc i) e are =
        of_two IsElse (waiting_all w) (all_waits (changed_at (remove_entry test) i ws)) (others_there w k (λ f. absurd (omega (arith, e, f))) are.0.items) (all_else (k + 1) ws i (omega (arith, e)) are.1)

  -- its items are of the shard
  found_own : (P : Arrival → Type 0) (es : AskedList) → AllByRecursion (λ w. AllByRecursion P w.1) es → items_at es n.vertex n.time ≡ Some items → AllByRecursion P items
  found_own P [] h e = absurd (cc)
  found_own P (w ∷ es) h e = by (test w.0) e (λ later. found_own P es h.1 later)
    where
      by : (b : Bool) → cond b (Some w.1) (items_at es n.vertex n.time) ≡ Some items → (items_at es n.vertex n.time ≡ Some items → AllByRecursion P items) → AllByRecursion P items
      by true same rest = subst (AllByRecursion P) (some_is w.1 items same) h.0
      by false later rest = rest later

  pub items_own : (workers k : ℕ) (ws : List AskedList) (i : ℕ) → i < length ws → AllByRecursion (IsWaiting workers) (enumerate_from k ws) → items_at (get_or ws i []) n.vertex n.time ≡ Some items
      → AllByRecursion (λ a. shard_of_key workers a.key ≡ k + i) items
  items_own workers k [] i l are e = absurd (omega (arith, l))
  items_own workers k (w ∷ ws) zero l are e =
      let here : k + 0 ≡ k = omega arith in
      subst (λ m. AllByRecursion (λ a. shard_of_key workers a.key ≡ m) items) (sym here) (found_own (λ a. shard_of_key workers a.key ≡ k) w are.0.items e)
  items_own workers k (w ∷ ws) (suc i) l are e =
      let next : k + suc i ≡ k + 1 + i = omega arith in
      subst (λ m. AllByRecursion (λ a. shard_of_key workers a.key ≡ m) items) (sym next) (items_own workers (k + 1) ws i (omega (arith, l)) are.1 e)

-- A HALL from which a task is taken
module _ (answers : Answers) (parts : Parts) (inv : IsHall answers parts) (bags : BagLaws message_cmp) (sets : SetLaws notification_cmp) (apart : IsAntisymmetric time_cmp)
    (frontier : InAnyOrder) (lists : ListsInOrder (state_of parts)) (tasks : TasksInOrder (state_of parts)) (numbers : NumbersInOrder (state_of parts)) where
  abbrev S : HallState
  S = state_of parts

  abbrev shards : List Shard
  shards = parts.shards.items

  abbrev W : ℕ
  W = length shards

  -- in the frontier by the table, and of the state
  pub in_state : (n : Noted) → IsReady parts.table n → Frontier S (stamp_at n.vertex n.time)
  in_state n h = frontier S.plan parts.table.stamps (active S) (stamp_at n.vertex n.time) inv.counted h

  pub in_table : (n : Noted) → Frontier S (stamp_at n.vertex n.time) → IsReady parts.table n
  in_table n h = frontier S.plan (active S) parts.table.stamps (stamp_at n.vertex n.time) (λ p. sym (inv.counted p)) h

  -- what is asked for in a shard
  pub asked_there : (s v : ℕ) (t : Timestamp) (d : Shard) → s < W → is_asked S s v t ≡ is_some (items_at (get_or shards s d).waiting v t)
  asked_there s v t d l =
      let here : s ≡ 0 + s = omega arith in
      in_set sets (asks s v t) (flat_map asked_in (enumerate_from 0 shards))
      ∙ (ap (λ m. is_in (asks m v t) (flat_map asked_in (enumerate_from 0 shards))) here ∙ there v t 0 shards s d l)

  -- the messages of tasks are of the shards at which they are out
  with_task_none : (s : ℕ) (t : Task) (content : Content) → IsContent S t.shard t.vertex t.time content → (t.shard ≡ s → ⊥) → AllByRecursion (λ c. shard_of_key W c.rec.key ≡ s → ⊥) (taken_up t.vertex t.time content)
  with_task_none s t (notification items) is other = tt
  with_task_none s t (messages port recs) is other = come recs is.2
    where
      come : (rs : List Rec) → AllByRecursion (λ r. shard_of_key W r.key ≡ t.shard) rs → AllByRecursion (λ c. shard_of_key W c.rec.key ≡ s → ⊥) (coming t.vertex port t.time rs)
      come [] h = tt
      come (r ∷ rs) h = (λ e. other (sym h.0 ∙ e), come rs h.1)

  pub tasks_none : (s : ℕ) (out : List Task) → AllByRecursion (StillThere S) out → list_any (λ t. t.shard == s) out ≡ false → AllByRecursion (λ c. shard_of_key W c.rec.key ≡ s → ⊥) (with_tasks out)
  tasks_none s [] h e = tt
  tasks_none s (t ∷ ts) h e =
      let two = neither (t.shard == s) (list_any (λ t. t.shard == s) ts) e in
      of_two (λ c. shard_of_key W c.rec.key ≡ s → ⊥) (taken_up t.vertex t.time t.content) (with_tasks ts)
      (with_task_none s t t.content h.0.2 (λ same. differs t.shard s two.0 same)) (tasks_none s ts h.1 two.1)
    where
      neither : (a b : Bool) → (a || b) ≡ false → (a ≡ false) × (b ≡ false)
      neither true b e = absurd (cc)
      neither false b e = (refl, e)

      differs : (a b : ℕ) → (a == b) ≡ false → a ≡ b → ⊥
      differs a b e f = grind (arith, nat_tests)

  -- NONE at a shard that has no candidate
  module _ (none : NoneToTake) (s : ℕ) (free : is_out S s ≡ false) where
    pub none_here : s < W → HoldsAt (λ x. IsPicked parts.table x 0 None) shards s → (task : Task) → MayTake S s task → ⊥
    none_here l picked = none S s
        (in_bag message_cmp (λ c. shard_of_key W c.rec.key ≡ s → ⊥) (in_mailboxes shards ++ with_tasks parts.out.items)
        (of_two (λ c. shard_of_key W c.rec.key ≡ s → ⊥) (in_mailboxes shards) (with_tasks parts.out.items)
        (subst (AllByRecursion (λ c. shard_of_key W c.rec.key ≡ s → ⊥)) (sym (flat_mails shards)) (subst (λ m. AllByRecursion (λ c. shard_of_key W c.rec.key ≡ m → ⊥) (flat (mails shards))) zero_too (none_of W 0 (mails shards) s no_mail (mail_of W 0 shards inv.shards))))
        (tasks_none s parts.out.items tasks.there free)))
        (λ v t is ready. none_ready v t apart parts.table (get_or shards s empty_shard).waiting (picked empty_shard).1 (sym (asked_there s v t empty_shard l) ∙ is) (in_table (noted_at v t) ready))
      where
        zero_too : 0 + s ≡ s
        zero_too = omega arith

        no_mail : get_or (mails shards) s [] ≡ []
        no_mail = get_map (λ (x : Shard). x.mailbox.messages) shards s empty_shard [] l ∙ (picked empty_shard).0

    pub none_beyond : W ≤ s → (task : Task) → MayTake S s task → ⊥
    none_beyond l = none S s
        (every (λ (c : Message). shard_of_key W c.rec.key ≡ s → ⊥) (λ c e. let some = numbers.workers in let below = mod_below c.rec.key W some in absurd (omega (arith, e, below, l))) S.messages)
        (λ v t is ready. let no = in_set sets (asks s v t) (flat_map asked_in (enumerate_from 0 shards)) ∙ nowhere v t s 0 shards (inr (omega (arith, l))) in absurd (true≢false (sym is ∙ no)))

  -- THE POINTSTAMPS of what is asked for are of the plan
  pub noted_of_plan : AllByRecursion (IsOf S.plan) (active S) → (s : ℕ) (d : Shard) → s < W → AllByRecursion (λ n. IsOf parts.table.plan (stamp_of_noted n)) (map (λ w. w.0) (get_or shards s d).waiting)
  noted_of_plan all s d l = every_key (λ n. IsOf parts.table.plan (stamp_of_noted n)) (map (λ w. w.0) (get_or shards s d).waiting)
      (λ b a n e. in_asked apart (λ v t. IsOf parts.table.plan (stamp_at v t)) (asks s n.vertex n.time) S.asked (asked_there s n.vertex n.time d l ∙ key_there n (get_or shards s d).waiting b a e) asked_of_plan)
    where
      from_map : {X : Type 0} (P : Stamp → Type 0) (f : X → Stamp) (xs : List X) → AllByRecursion P (map f xs) → AllByRecursion (λ x. P (f x)) xs
      from_map P f [] h = tt
      from_map P f (x ∷ xs) h = (h.0, from_map P f xs h.1)

      asked_of_plan : AllByRecursion (λ (y : Notification). IsOf parts.table.plan (stamp_at y.vertex y.time)) S.asked
      asked_of_plan = from_map (IsOf parts.table.plan) stamp_of_asked S.asked (of_first (IsOf parts.table.plan) (map stamp_of_asked S.asked) _ (of_second (IsOf parts.table.plan) (map (stamp_of_message S.plan) S.messages) _ all))

  -- ALL THAT IS ASKED for there: it is active, and at vertices that are notified
  module _ (contains : (p : Stamp) (xs : List Stamp) → Contains xs p ↔ (0 < occurrences p xs)) (notified : AllByRecursion (λ (a : Notification). is_notified (kind_of S.plan a.vertex) ≡ true) S.asked) where
    after : (p : Stamp) (before xs : List Stamp) → Contains xs p → Contains (before ++ xs) p
    after p [] xs h = h
    after p (x ∷ before) xs h = let rest = after p before xs h in (suc (rest.0), omega (arith, rest.1), rest.2)

    before : (p : Stamp) (xs more : List Stamp) → Contains xs p → Contains (xs ++ more) p
    before p [] more (i, l, e) = absurd (omega (arith, l))
    before p (x ∷ xs) more (zero, l, e) = (0, omega arith, e)
    before p (x ∷ xs) more (suc i, l, e) = let rest = before p xs more (i, omega (arith, l), e) in (suc (rest.0), omega (arith, rest.1), rest.2)

    each_among : (ns : List Notification) → AllByRecursion (λ (a : Notification). Contains (map stamp_of_asked ns) (stamp_of_asked a)) ns
    each_among [] = tt
    each_among (x ∷ ns) = (
      (0, omega arith, refl),
      weaker (λ (a : Notification). Contains (map stamp_of_asked ns) (stamp_of_asked a)) (λ (a : Notification). Contains (stamp_of_asked x ∷ map stamp_of_asked ns) (stamp_of_asked a))
          (λ a h. after (stamp_of_asked a) (stamp_of_asked x ∷ []) (map stamp_of_asked ns) h) ns (each_among ns),
    )

    each_active : AllByRecursion (λ (a : Notification). Contains parts.table.stamps (stamp_at a.vertex a.time)) S.asked
    each_active = weaker (λ (a : Notification). Contains (map stamp_of_asked S.asked) (stamp_of_asked a)) (λ (a : Notification). Contains parts.table.stamps (stamp_at a.vertex a.time)) one S.asked (each_among S.asked)
      where
        one : (a : Notification) → Contains (map stamp_of_asked S.asked) (stamp_of_asked a) → Contains parts.table.stamps (stamp_at a.vertex a.time)
        one a h =
            let p = stamp_of_asked a in
            let some = (contains p (active S)).0 (after p (map (stamp_of_message S.plan) S.messages) _ (before p (map stamp_of_asked S.asked) _ h)) in
            (contains p parts.table.stamps).1 (subst (λ n. 0 < n) (sym (inv.counted p)) some)

    once_at : (k i : ℕ) (xs : List Shard) (d : Shard) → i < length xs → AllByRecursion (IsShard W) (enumerate_from k xs) → IsStrictlySortedBy noted_cmp (keys_of (get_or xs i d).waiting)
    once_at k i [] d l are = absurd (omega (arith, l))
    once_at k zero (x ∷ xs) d l are = are.0.once
    once_at k (suc i) (x ∷ xs) d l are = once_at (k + 1) i xs d (omega (arith, l)) are.1

    -- one that stands in a shard is asked for there
    of_key : (P : ℕ → Timestamp → Type 0) (s : ℕ) (d : Shard) → s < W → AllByRecursion (λ (a : Notification). P a.vertex a.time) S.asked
        → AllByRecursion (λ n. P n.vertex n.time) (map (λ w. w.0) (get_or shards s d).waiting)
    of_key P s d l all = every_key (λ n. P n.vertex n.time) (map (λ w. w.0) (get_or shards s d).waiting)
        (λ b a n e. in_asked apart P (asks s n.vertex n.time) S.asked (asked_there s n.vertex n.time d l ∙ key_there n (get_or shards s d).waiting b a e) all)

    pub are_asked : AllByRecursion (IsOf S.plan) (active S) → (s : ℕ) (d : Shard) → s < W → AreAsked parts.table (map (λ w. w.0) (get_or shards s d).waiting)
    are_asked all s d l = record {
      of_plan = noted_of_plan all s d l;
      are_active = of_key (λ v t. Contains parts.table.stamps (stamp_at v t)) s d l each_active;
      notified = of_key (λ v t. is_notified (kind_of S.plan v) ≡ true) s d l notified;
      once = once_at 0 s shards d l inv.shards;
    }
