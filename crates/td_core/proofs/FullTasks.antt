-- The task that is taken has all messages that wait on its edge, of its time and in its shard, or 64 of them.
use Rattle.std.proofs.Common.{◌≡◌, ◌⊎◌, inl, inr, ℕ, zero, suc, ◌+◌, ◌<◌, ◌≤◌, ◌==◌, ◌&&◌, min, Bool, true, false, cond, List, [], ◌∷◌, ◌++◌, filter, length, get_or, slice_get, Option, Some, None, refl, ap, sym, ◌∙◌, subst, arith, Result, Ok, Err, IfOk, IfSome, pos}
use Rattle.std.specs.declared.cmp.Ordering.{Ordering}
use Rattle.std.specs.declared.cmp.Ordering.TheVariants.{Less, Equal, Greater}
use Rattle.std.specs.Ordering.{is_eq}
use Rattle.std.specs.FinMap.{IsAntisymmetric}
use Rattle.std.specs.List.{AllByRecursion, enumerate_from}
use Rattle.std.proofs.lemmas.Bool.{eqb-true, eq-eqb}
use Rattle.std.proofs.lemmas.Cmp.{tied_itself}
use Rattle.std.proofs.lemmas.List.{length-map}
use Rattle.std.proofs.lemmas.Option.{slice_get-get_or}
use Rattle.td_stamp.specs.declared.values.Rec.{Rec}
use Rattle.td_stamp.specs.BagLaws.{BagLaws, SetLaws}
use Rattle.td_stamp.specs.Time.{Timestamp, time_cmp}
use Rattle.td_calls.specs.Answers.{Answers}
use Rattle.td_machine.specs.declared.records.Message.{Message}
use Rattle.td_machine.specs.InOrder.{ListsInOrder, TasksInOrder, NumbersInOrder}
use Rattle.td_machine.specs.State.{HallState, Task, message_cmp, notification_cmp, shard_of_key, is_there, is_out}
use Rattle.td_machine.specs.Steps.{coming, task_size}
use Rattle.td_shard.specs.declared.shard.Shard.{Shard}
use Rattle.td_shard.specs.Asked.{items_at}
use Rattle.td_shard.specs.Messages.{IsBeside, task_at, left_at}
use Rattle.td_shard.specs.ProvedOrders.{time_total}
use Rattle.td_core.specs.declared.error.HallError.{HallError}
use Rattle.td_core.specs.declared.hall.Parts.{Parts}
use Rattle.td_core.specs.declared.take.Candidate.{Candidate}
use Rattle.td_core.specs.declared.take.Candidate.TheVariants as candidates
use Rattle.td_core.specs.Parts.{state_of, IsHall, empty_shard, in_mailboxes, with_tasks}
use Rattle.td_core.specs.Posted.{mails}
use Rattle.td_core.specs.Picks.{IsFullOf, IsFull}
use Rattle.td_core.specs.Taking.{IsPicked, IsTaskFor, IsPickTaken}
use Rattle.td_core.proofs.ShardParts.{IsMail, mail_of}
use Rattle.td_core.proofs.TakeLists.{IsKeyOf, flat, flat_mails, get_map, not_before}
use Rattle.td_core.proofs.TakeSteps.{InAnyOrder, key_there, tasks_none}
use Rattle.td_core.proofs.TakenHall.{Parted, HaveSome, AreFew, AreBeside, some_of}
use Rattle.td_core.proofs.PickNamed.{in_bag_too, of_both, others_mail}

-- a task of a mailbox has 64 messages, or all that there are beside the one with which it begins
abbrev pub AreFull : Type 0
AreFull = (ms : List Message) (pick : ℕ) (c : Message) → slice_get ms pick ≡ Some c → (length (task_at pick ms) ≡ task_size) ⊎ AllByRecursion (λ d. IsBeside c d → ⊥) (left_at pick ms)

one_or_none : (b : Bool) (x : Message) (xs : List Message) → length (cond b (x ∷ xs) xs) ≡ cond b 1 0 + length xs
one_or_none true x xs = omega arith
one_or_none false x xs = omega arith

equal : (a b : ℕ) → a ≡ b → (a == b) ≡ true
equal a b e = eq-eqb a b e

differ : (a b : ℕ) → (a ≡ b → ⊥) → (a == b) ≡ false
differ a b d = by (a == b) refl
  where
    by : (o : Bool) → (a == b) ≡ o → (a == b) ≡ false
    by true e = absurd (d (eqb-true a b e))
    by false e = e

-- HOW MANY of a shard pass a test
module _ (workers s : ℕ) (p : Message → Bool) where
  abbrev own : Message → Bool
  own c = (shard_of_key workers c.rec.key == s) && p c

  all_own : (xs : List Message) → AllByRecursion (IsKeyOf workers s) xs → length (filter own xs) ≡ length (filter p xs)
  all_own [] h = refl
  all_own (x ∷ xs) h =
      ap (λ b. length (cond (b && p x) (x ∷ filter own xs) (filter own xs))) (equal (shard_of_key workers x.rec.key) s h.0)
      ∙ (one_or_none (p x) x (filter own xs) ∙ (ap (λ n. cond (p x) 1 0 + n) (all_own xs h.1) ∙ sym (one_or_none (p x) x (filter p xs))))

  none_own : (xs : List Message) → AllByRecursion (λ c. IsKeyOf workers s c → ⊥) xs → length (filter own xs) ≡ 0
  none_own [] h = refl
  none_own (x ∷ xs) h = ap (λ b. length (cond (b && p x) (x ∷ filter own xs) (filter own xs))) (differ (shard_of_key workers x.rec.key) s h.0) ∙ none_own xs h.1

own_mail : (workers : ℕ) (p : Message → Bool) (k : ℕ) (ms : List (List Message)) (i : ℕ) → i < length ms → AllByRecursion (IsMail workers) (enumerate_from k ms)
    → length (filter (own workers (k + i) p) (flat ms)) ≡ length (filter p (get_or ms i []))
own_mail workers p k [] i l h = absurd (omega (arith, l))
own_mail workers p k (m ∷ ms) zero l h =
    let here : k ≡ k + 0 = omega arith in
    let mine = all_own workers (k + 0) p m (subst (λ n. AllByRecursion (IsKeyOf workers n) m) here h.0) in
    let none = none_own workers (k + 0) p (flat ms) (not_before workers (k + 1) (k + 0) ms (omega arith) h.1) in
    let both = of_both message_cmp (own workers (k + 0) p) m (flat ms) in
    omega (arith, mine, none, both)
own_mail workers p k (m ∷ ms) (suc i) l h =
    let there : k + 1 + i ≡ k + suc i = omega arith in
    let none = none_own workers (k + suc i) p m (others_mail workers k (k + suc i) m (λ e. absurd (omega (arith, e))) h.0) in
    let rest = subst (λ n. length (filter (own workers n p) (flat ms)) ≡ length (filter p (get_or ms i []))) there (own_mail workers p (k + 1) ms i (omega (arith, l)) h.1) in
    let both = of_both message_cmp (own workers (k + suc i) p) m (flat ms) in
    omega (arith, none, rest, both)

-- THOSE ON AN EDGE and of a time
module _ (v port : ℕ) (t : Timestamp) where
  abbrev on : Message → Bool
  on c = (c.port == port) && is_there v t c.vertex c.time

  all_on : (recs : List Rec) → length (filter on (coming v port t recs)) ≡ length recs
  all_on [] = refl
  all_on (r ∷ rs) =
      let here : on (record { vertex = v; port = port; time = t; rec = r }) ≡ true = λ i. equal port port refl i && (equal v v refl i && is_eq (tied_itself time_total t i)) in
      ap (λ b. length (cond b (record { vertex = v; port = port; time = t; rec = r } ∷ filter on (coming v port t rs)) (filter on (coming v port t rs)))) here ∙ ap suc (all_on rs)

  both_true : (a b : Bool) → (a && b) ≡ true → (a ≡ true) × (b ≡ true)
  both_true true b e = (refl, e)
  both_true false b e = absurd (cc)

  tie : (o : Ordering) → is_eq o ≡ true → o ≡ Equal
  tie Less e = absurd (cc)
  tie Equal e = refl
  tie Greater e = absurd (cc)

  -- what passes is beside one that is on it
  is_on : IsAntisymmetric time_cmp → (c d : Message) → c.vertex ≡ v → c.port ≡ port → c.time ≡ t → on d ≡ true → IsBeside c d
  is_on apart c d ev ep et e =
      let fields = both_true (d.port == port) (is_there v t d.vertex d.time) e in
      let place = both_true (d.vertex == v) (is_eq (time_cmp d.time t)) fields.1 in
      (eqb-true d.vertex v place.0 ∙ sym ev, eqb-true d.port port fields.0 ∙ sym ep, apart d.time t (tie (time_cmp d.time t) place.1) ∙ sym et)

  none_on : IsAntisymmetric time_cmp → (c : Message) → c.vertex ≡ v → c.port ≡ port → c.time ≡ t → (xs : List Message) → AllByRecursion (λ d. IsBeside c d → ⊥) xs → length (filter on xs) ≡ 0
  none_on apart c ev ep et [] h = refl
  none_on apart c ev ep et (x ∷ xs) h = by (on x) refl (none_on apart c ev ep et xs h.1)
    where
      by : (b : Bool) → on x ≡ b → length (filter on xs) ≡ 0 → length (cond b (x ∷ filter on xs) (filter on xs)) ≡ 0
      by true e rest = absurd (h.0 (is_on apart c x ev ep et e))
      by false e rest = rest

-- the first of some messages of one edge and time is on it
record IsOn (v port : ℕ) (t : Timestamp) (c : Message) : Type 0 where
  vertex : c.vertex ≡ v
  port_is : c.port ≡ port
  time : c.time ≡ t

first_on : (v port : ℕ) (t : Timestamp) (recs : List Rec) (c : Message) → 0 < length recs → AllByRecursion (IsBeside c) (coming v port t recs) → IsOn v port t c
first_on v port t [] c some h = absurd (omega (arith, some))
first_on v port t (r ∷ rs) c some h = record { vertex = sym h.0.0; port_is = sym h.0.1; time = sym h.0.2 }

-- A TASK of a mailbox is full
module _ (parted : Parted) (some : HaveSome) (few : AreFew) (beside : AreBeside) (full : AreFull) (apart : IsAntisymmetric time_cmp) where
  nothing : Message
  nothing = record { vertex = 0; port = 0; time = record { epoch = 0; turns = [] }; rec = record { key = 0; val = pos 0 } }

  pub full_there : (v port : ℕ) (t : Timestamp) (recs : List Rec) (ms : List Message) (place : ℕ) → place < length ms → coming v port t recs ≡ task_at place ms
      → length recs ≡ min task_size (length (filter (on v port t) ms))
  full_there v port t recs ms place l its =
      let c = get_or ms place nothing in
      let found : slice_get ms place ≡ Some c = slice_get-get_or ms place nothing l in
      let long : length recs ≡ length (task_at place ms) = sym (length-map recs _) ∙ ap length its in
      let first = first_on v port t recs c (let one = some ms place l in omega (arith, one, long)) (subst (AllByRecursion (IsBeside c)) (sym its) (beside ms place c found)) in
      let mine = ap (λ xs. length (filter (on v port t) xs)) (sym its) ∙ all_on v port t recs in
      let all = sym (in_bag_too message_cmp (on v port t) (task_at place ms ++ left_at place ms)) ∙ (ap (λ xs. length (filter (on v port t) xs)) (parted ms place l) ∙ in_bag_too message_cmp (on v port t) ms) in
      let both = of_both message_cmp (on v port t) (task_at place ms) (left_at place ms) in
      let most = few ms place in
      by long mine all both most first (full ms place c found)
    where
      by : length recs ≡ length (task_at place ms) → length (filter (on v port t) (task_at place ms)) ≡ length recs
          → length (filter (on v port t) (task_at place ms ++ left_at place ms)) ≡ length (filter (on v port t) ms)
          → length (filter (on v port t) (task_at place ms ++ left_at place ms)) ≡ length (filter (on v port t) (task_at place ms)) + length (filter (on v port t) (left_at place ms))
          → length (task_at place ms) ≤ task_size → IsOn v port t (get_or ms place nothing)
          → (length (task_at place ms) ≡ task_size) ⊎ AllByRecursion (λ d. IsBeside (get_or ms place nothing) d → ⊥) (left_at place ms)
          → length recs ≡ min task_size (length (filter (on v port t) ms))
      by long mine all both most first (inl e) = omega (arith, long, mine, all, both, e)
      by long mine all both most first (inr none) =
          let left = none_on v port t apart (get_or ms place nothing) first.vertex first.port_is first.time (left_at place ms) none in
          omega (arith, long, mine, all, both, most, left)

-- A HALL from which a task is taken
module _ (answers : Answers) (parts : Parts) (inv : IsHall answers parts) (bags : BagLaws message_cmp) (sets : SetLaws notification_cmp) (apart : IsAntisymmetric time_cmp)
    (frontier : InAnyOrder) (lists : ListsInOrder (state_of parts)) (tasks : TasksInOrder (state_of parts)) (numbers : NumbersInOrder (state_of parts))
    (parted : Parted) (some : HaveSome) (few : AreFew) (beside : AreBeside) (full : AreFull) (s pick : ℕ) (l : s < length parts.shards.items) (free : is_out (state_of parts) s ≡ false) where
  abbrev S : HallState
  S = state_of parts

  abbrev here : Shard
  here = get_or parts.shards.items s empty_shard

  many : (p : Message → Bool) → length (filter (own (length parts.shards.items) s p) S.messages) ≡ length (filter p here.mailbox.messages)
  many p =
      let W = length parts.shards.items in
      let within : s < length (mails parts.shards.items) = let long = length-map parts.shards.items (λ x. x.mailbox.messages) in omega (arith, long, l) in
      let zero_too : 0 + s ≡ s = omega arith in
      let out = none_own W s p (with_tasks parts.out.items) (tasks_none answers parts inv bags sets apart frontier lists tasks numbers s parts.out.items tasks.there free) in
      let mine = subst (λ n. length (filter (own W n p) (flat (mails parts.shards.items))) ≡ length (filter p (get_or (mails parts.shards.items) s []))) zero_too
      (own_mail W p 0 (mails parts.shards.items) s within (mail_of W 0 parts.shards.items inv.shards)) in
      let all = in_bag_too message_cmp (own W s p) (in_mailboxes parts.shards.items ++ with_tasks parts.out.items) in
      let both = of_both message_cmp (own W s p) (in_mailboxes parts.shards.items) (with_tasks parts.out.items) in
      let flat_too = ap (λ ms. length (filter (own W s p) ms)) (flat_mails parts.shards.items) in
      let at = ap (λ ms. length (filter p ms)) (get_map (λ (x : Shard). x.mailbox.messages) parts.shards.items s empty_shard [] l) in
      omega (arith, all, both, out, flat_too, mine, at)

  is_full : (c : Candidate) (task : Task) → IsPicked parts.table here pick (Some c) → IsTaskFor parts s here c task → IsFull S s task
  is_full (candidates.Message place) task picked is =
      let port = is.content.0 in
      let recs = is.content.1 in
      subst (IsFullOf S s task) (sym is.content.2)
      (full_there parted some few beside full apart task.vertex port task.time recs here.mailbox.messages place picked.0 is.content.3 ∙ ap (min task_size) (sym (many (on task.vertex port task.time))))
  is_full (candidates.Notification n) task picked is =
      let found = some_of (items_at here.waiting n.vertex n.time) (key_there n here.waiting picked.1.0 picked.1.1 picked.1.3) in
      subst (IsFullOf S s task) (sym (is.content.2 found.0 found.1)) tt

  pub full_so : (new : Parts) (r : Result (Option Task) HallError) → IfOk r (IsPickTaken s pick parts new) → IfOk r (λ task. IfSome task (IsFull S s))
  full_so new (Err why) t = tt
  full_so new (Ok None) t = tt
  full_so new (Ok (Some task)) t = is_full t.0 task (t.1 empty_shard).0 (t.1 empty_shard).1
