-- A shard without one notification among the others, and what a fold leaves for its keys, key by key.
use Rattle.std.proofs.Common.{◌≡◌, ℕ, zero, suc, ◌+◌, ◌==◌, ◌<◌, ◌≤◌, Bool, true, false, ◌&&◌, ◌||◌, cond, true≢false, List, [], ◌∷◌, ◌++◌, map, flat_map, take, set, get_or, length, Option, Some, None, refl, ap, sym, ◌∙◌, arith}
use Rattle.std.specs.List.{AllByRecursion, Contains, enumerate_from, slice_get}
use Rattle.std.specs.Ordering.{is_eq}
use Rattle.std.proofs.lemmas.Bool.Decides.{nat_tests}
use Rattle.td_stamp.specs.declared.values.State.{State}
use Rattle.td_machine.specs.declared.records.StateLeft.{StateLeft}
use Rattle.td_stamp.specs.Bag.{set_of, has}
use Rattle.td_stamp.specs.BagLaws.{SetLaws}
use Rattle.td_stamp.specs.Time.{Timestamp}
use Rattle.td_machine.specs.declared.records.Notification.{Notification}
use Rattle.td_machine.specs.State.{HallState, Task, KeyItems, notification_cmp}
use Rattle.td_machine.specs.Steps.{asked_at}
use Rattle.td_shard.specs.declared.shard.Shard.{Shard}
use Rattle.td_shard.specs.Asked.{AskedList, without_items}
use Rattle.td_task.specs.Answered.{left_for}
use Rattle.td_core.specs.Parts.{asked_of_shard, asked_in}
use Rattle.td_core.specs.Posted.{mails, waits}
use Rattle.td_core.specs.Given.{waiting_without}
use Rattle.td_core.proofs.NotifyLists.{here, asked_is}
use Rattle.td_core.proofs.OutTasks.{of_one, same_number}

-- its mailbox is as it was
pub same_mails : (shards : List Shard) (i : ℕ) (s : Shard) (w : AskedList) → s ≡ get_or shards i s → mails (set shards i (record { mailbox = s.mailbox; waiting = w })) ≡ mails shards
same_mails [] i s w e = refl
same_mails (x ∷ xs) zero s w e = ap (λ (y : Shard). y.mailbox.messages ∷ mails xs) e
same_mails (x ∷ xs) (suc i) s w e = ap (λ l. x.mailbox.messages ∷ l) (same_mails xs i s w e)

is_number : (a b : ℕ) → a ≡ b → (a == b) ≡ true
is_number a b e = grind (arith, nat_tests, e)

other_number : (a b : ℕ) → a < b → (b == a) ≡ false
other_number a b l = grind (arith, nat_tests, l)

earlier_number : (a b : ℕ) → a < b → (a == b) ≡ false
earlier_number a b l = grind (arith, nat_tests, l)

module _ (task : Task) where
  abbrev without_it : AskedList → AskedList
  without_it asked = without_items asked task.vertex task.time

  others_wait : (n : ℕ) (shards : List Shard) → task.shard < n → map (waiting_without task) (enumerate_from n shards) ≡ waits shards
  others_wait n [] l = refl
  others_wait n (x ∷ xs) l = λ i. cond (other_number task.shard n l i) (without_it x.waiting) x.waiting ∷ others_wait (n + 1) xs (omega (arith, l)) i

  -- the notification is taken out of its own shard
  pub taken_out : (n : ℕ) (shards : List Shard) (i : ℕ) (s : Shard) (w : AskedList) → i < length shards → s ≡ get_or shards i s → n + i ≡ task.shard → w ≡ without_it s.waiting
      → waits (set shards i (record { mailbox = s.mailbox; waiting = w })) ≡ map (waiting_without task) (enumerate_from n shards)
  taken_out n [] i s w l e place is = absurd (omega (arith, l))
  taken_out n (x ∷ xs) zero s w l e place is =
      let here : (n == task.shard) ≡ true = is_number n task.shard (omega (arith, place)) in
      let new : w ≡ without_it x.waiting = is ∙ ap (λ (y : Shard). without_it y.waiting) e in
      ap (λ v. v ∷ waits xs) new
      ∙ sym (λ i. cond (here i) (without_it x.waiting) x.waiting ∷ others_wait (n + 1) xs (omega (arith, place)) i)
  taken_out n (x ∷ xs) (suc i) s w l e place is =
      let apart : (n == task.shard) ≡ false = earlier_number n task.shard (omega (arith, place)) in
      sym (λ j. cond (apart j) (without_it x.waiting) x.waiting ∷ sym (taken_out (n + 1) xs i s w (omega (arith, l)) e (omega (arith, place)) is) j)

-- what waits without it depends on what waited alone
pub same_without : (task : Task) (n : ℕ) (old new : List Shard) → waits new ≡ waits old → map (waiting_without task) (enumerate_from n new) ≡ map (waiting_without task) (enumerate_from n old)
same_without task n [] [] e = refl
same_without task n [] (t ∷ new) e = absurd (cc)
same_without task n (s ∷ old) [] e = absurd (cc)
same_without task n (s ∷ old) (t ∷ new) e =
    let same : t.waiting ≡ s.waiting = cc in
    let rest : waits new ≡ waits old = cc in
    λ i. cond (n == task.shard) (without_items (same i) task.vertex task.time) (same i) ∷ same_without task (n + 1) old new rest i

-- THE SHARD of a notification that is asked for is one of the shards
module _ (S : HallState) (s v : ℕ) (t : Timestamp) where
  abbrev its : Notification
  its = asked_at S s v t

  abbrev IsBelow : ℕ → Notification → Type 0
  IsBelow most a = is_eq (notification_cmp its a) ≡ true → s < most

  first_of : (x y : Bool) → (x && y) ≡ true → x ≡ true
  first_of true y e = refl
  first_of false y e = e

  asked_below : (n most : ℕ) → n < most → (w : AskedList) → AllByRecursion (IsBelow most) (map (asked_of_shard n) w)
  asked_below n most l [] = tt
  asked_below n most l (a ∷ w) =
      (λ e. let same : n ≡ s = same_number n s (first_of (n == s) (here v t a.0) (sym (asked_is v t S s n a) ∙ e)) in omega (arith, l, same), asked_below n most l w)

  both : (P : Notification → Type 0) (xs ys : List Notification) → AllByRecursion P xs → AllByRecursion P ys → AllByRecursion P (xs ++ ys)
  both P [] ys h k = k
  both P (x ∷ xs) ys h k = (h.0, both P xs ys h.1 k)

  all_below : (n most : ℕ) (shards : List Shard) → n + length shards ≤ most → AllByRecursion (IsBelow most) (flat_map asked_in (enumerate_from n shards))
  all_below n most [] l = tt
  all_below n most (x ∷ shards) l =
      both (IsBelow most) (map (asked_of_shard n) x.waiting) (flat_map asked_in (enumerate_from (n + 1) shards))
      (asked_below n most (omega (arith, l)) x.waiting) (all_below (n + 1) most shards (omega (arith, l)))

  found_below : (most : ℕ) (xs all : List Notification) → AllByRecursion (IsBelow most) all → AllByRecursion (Contains all) xs → has notification_cmp its xs ≡ true → s < most
  found_below most [] all h c e = absurd (true≢false (sym e))
  found_below most (x ∷ xs) all h c e = by (is_eq (notification_cmp its x)) refl e (λ f. found_below most xs all h c.1 f)
    where
      by : (b : Bool) → is_eq (notification_cmp its x) ≡ b → (b || has notification_cmp its xs) ≡ true → (has notification_cmp its xs ≡ true → s < most) → s < most
      by true same found later = of_one (IsBelow most) all x h c.0 same
      by false same found later = later found

  pub one_of_shards : SetLaws notification_cmp → (shards : List Shard) → has notification_cmp its (set_of notification_cmp (flat_map asked_in (enumerate_from 0 shards))) ≡ true → s < length shards
  one_of_shards laws shards e =
      let all = flat_map asked_in (enumerate_from 0 shards) in
      found_below (length shards) (set_of notification_cmp all) all (all_below 0 (length shards) shards (omega arith)) (laws.members all) e

-- WHAT IS LEFT for one more key
abbrev a_state : ℕ → ℕ → KeyItems → Option State → StateLeft
a_state epoch v k state = record { epoch = epoch; vertex = v; key = k.key; state = state }

pub none_left : (epoch v : ℕ) (keys : List KeyItems) → left_for epoch v keys [] ≡ []
none_left epoch v [] = refl
none_left epoch v (k ∷ keys) = refl

none_more : {X : Type 0} {x : X} → None ≡ Some x → ⊥
none_more e = cc

left_suc : (epoch v : ℕ) (keys : List KeyItems) (states : List (Option State)) (i : ℕ) (k : KeyItems) (d : Option State)
    → slice_get keys i ≡ Some k → i < length states
    → left_for epoch v keys (take (suc i) states) ≡ left_for epoch v keys (take i states) ++ a_state epoch v k (get_or states i d) ∷ []
left_suc epoch v [] states i k d e l = absurd (none_more e)
left_suc epoch v (x ∷ keys) [] i k d e l = absurd (omega (arith, l))
left_suc epoch v (x ∷ keys) (s ∷ states) zero k d e l =
    let is : x ≡ k = cc in
    λ i. a_state epoch v (is i) s ∷ none_left epoch v keys i
left_suc epoch v (x ∷ keys) (s ∷ states) (suc i) k d e l = ap (λ m. a_state epoch v x s ∷ m) (left_suc epoch v keys states i k d e (omega (arith, l)))

pub left_more : (epoch v : ℕ) (keys : List KeyItems) (states : List (Option State)) (i : ℕ) (k : KeyItems) (d : Option State) → slice_get keys i ≡ Some k → i < length states
    → left_for epoch v keys (take (i + 1) states) ≡ left_for epoch v keys (take i states) ++ a_state epoch v k (get_or states i d) ∷ []
left_more epoch v keys states i k d e l =
    let one : i + 1 ≡ suc i = omega arith in
    ap (λ n. left_for epoch v keys (take n states)) one ∙ left_suc epoch v keys states i k d e l
