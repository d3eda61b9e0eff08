-- The task that is taken is the one that the pick names.
use Rattle.std.proofs.Common.{◌≡◌, ◌⊎◌, inl, inr, ℕ, zero, suc, ◌+◌, ◌-◌, ◌%◌, ◌<◌, ◌==◌, Bool, true, false, cond, List, [], ◌∷◌, ◌++◌, map, filter, length, get_or, slice_get, Option, Some, None, is_some, refl, ap, sym, ◌∙◌, subst, arith, Contains, length-append, Result, Ok, Err, IfOk, IfSome}
use Rattle.std.specs.declared.cmp.Ordering.{Ordering}
use Rattle.std.specs.declared.cmp.Ordering.TheVariants.{Less, Equal, Greater}
use Rattle.std.specs.Ordering.{is_eq, ordering_reverse}
use Rattle.std.specs.FinMap.{IsAntisymmetric}
use Rattle.std.specs.BTreeMap.{is_at}
use Rattle.std.specs.List.{AllByRecursion, enumerate_from}
use Rattle.std.specs.List.Sorted.{IsStrictlySortedBy}
use Rattle.std.proofs.lemmas.Bool.Decides.{nat_tests}
use Rattle.std.proofs.lemmas.Cmp.{tied_itself}
use Rattle.std.proofs.lemmas.List.{length-map}
use Rattle.std.proofs.lemmas.List.Elements.{filter-append}
use Rattle.std.proofs.lemmas.Map.Keys.{sorted_head, sorted_tail}
use Rattle.td_stamp.specs.Bag.{bag_insert, bag_of}
use Rattle.td_stamp.specs.BagLaws.{BagLaws, SetLaws}
use Rattle.td_stamp.specs.Time.{time_cmp}
use Rattle.td_calls.specs.Answers.{Answers}
use Rattle.td_machine.specs.declared.records.Message.{Message}
use Rattle.td_machine.specs.InOrder.{ListsInOrder, TasksInOrder, NumbersInOrder}
use Rattle.td_machine.specs.State.{HallState, Task, message_cmp, notification_cmp, shard_of_key, is_out}
use Rattle.td_machine.specs.Steps.{is_asked}
use Rattle.td_progress.specs.Bag.{Active}
use Rattle.td_shard.specs.declared.waiting.Noted.{Noted}
use Rattle.td_shard.specs.declared.shard.Shard.{Shard}
use Rattle.td_shard.specs.Asked.{AskedList, noted_cmp, noted_at, items_at}
use Rattle.td_shard.specs.ProvedOrders.{noted_total}
use Rattle.td_core.specs.declared.error.HallError.{HallError}
use Rattle.td_core.specs.declared.hall.Parts.{Parts}
use Rattle.td_core.specs.declared.take.Candidate.{Candidate}
use Rattle.td_core.specs.declared.take.Candidate.TheVariants as candidates
use Rattle.td_core.specs.Parts.{state_of, IsHall, empty_shard, in_mailboxes, with_tasks}
use Rattle.td_core.specs.Posted.{mails}
use Rattle.td_core.specs.Picks.{IsAt, IsPick, AreOpen, messages_at}
use Rattle.td_core.specs.Taking.{IsReady, AreReady, IsPicked, IsTaskFor, IsPickTaken, asked_at}
use Rattle.td_core.proofs.ShardParts.{IsMail, mail_of}
use Rattle.td_core.proofs.TakeLists.{IsKeyOf, flat, flat_mails, get_map, not_before}
use Rattle.td_core.proofs.TakeSteps.{InAnyOrder, key_there, in_state, in_table, asked_there, tasks_none}
use Rattle.td_core.proofs.TakenHall.{some_of}
use Rattle.td_core.proofs.Waits.{noted_apart}

-- AMONG some notifications
abbrev pub Among : List Noted → Noted → Type 0
Among [] n = ⊥
Among (m ∷ ms) n = (m ≡ n) ⊎ Among ms n

pub among : (xs : List Noted) (n : Noted) → Contains xs n → Among xs n
among [] n (k, l, e) = absurd (omega (arith, l))
among (m ∷ ms) n (zero, l, e) = inl e
among (m ∷ ms) n (suc k, l, e) = inr (among ms n (k, omega (arith, l), e))

pub contained : (xs : List Noted) (n : Noted) → Among xs n → Contains xs n
contained [] n h = absurd h
contained (m ∷ ms) n (inl e) = (0, omega arith, e)
contained (m ∷ ms) n (inr h) = let rest = contained ms n h in (suc (rest.0), omega (arith, rest.1), rest.2)

-- what is asked for in a shard is among its notifications
module _ (apart : IsAntisymmetric time_cmp) where
  pub is_asked_for : (n : Noted) (es : AskedList) → is_some (items_at es n.vertex n.time) ≡ true → Among (map (λ w. w.0) es) n
  is_asked_for n [] e = absurd (cc)
  is_asked_for n (w ∷ es) e = by (is_at (noted_cmp n) w.0) refl e (is_asked_for n es)
    where
      tie : (o : Ordering) → is_eq o ≡ true → o ≡ Equal
      tie Less e = absurd (cc)
      tie Equal e = refl
      tie Greater e = absurd (cc)

      by : (b : Bool) → is_at (noted_cmp n) w.0 ≡ b → is_some (cond b (Some w.1) (items_at es n.vertex n.time)) ≡ true → (is_some (items_at es n.vertex n.time) ≡ true → Among (map (λ w. w.0) es) n)
          → Among (map (λ w. w.0) (w ∷ es)) n
      by true here some later = inl (sym (noted_apart apart n w.0 (tie (noted_cmp n w.0) here)))
      by false other some later = inr (later some)

  pub has_items : (n : Noted) (es : AskedList) → Among (map (λ w. w.0) es) n → is_some (items_at es n.vertex n.time) ≡ true
  has_items n [] h = absurd h
  has_items n (w ∷ es) (inl e) =
      let here : is_at (noted_cmp n) w.0 ≡ true = ap (λ m. is_at (noted_cmp n) m) e ∙ ap is_eq (tied_itself noted_total n) in
      ap (λ b. is_some (cond b (Some w.1) (items_at es n.vertex n.time))) here
  has_items n (w ∷ es) (inr h) = by (is_at (noted_cmp n) w.0) (has_items n es h)
    where
      by : (b : Bool) → is_some (items_at es n.vertex n.time) ≡ true → is_some (cond b (Some w.1) (items_at es n.vertex n.time)) ≡ true
      by true later = refl
      by false later = later

  -- THOSE IN THE FRONTIER, in order, are the ones that a walk over all of them finds
  module _ (active : Active) where
    below : (x n : Noted) (ms : List Noted) → AllByRecursion (λ y. noted_cmp x y ≡ Less) ms → Among ms n → noted_cmp x n ≡ Less
    below x n [] l h = absurd h
    below x n (m ∷ ms) l (inl e) = ap (noted_cmp x) (sym e) ∙ l.0
    below x n (m ∷ ms) l (inr h) = below x n ms l.1 h

    not_less : (n : Noted) → noted_cmp n n ≡ Less → ⊥
    not_less n e = let tied = tied_itself noted_total n in absurd (cc)

    back : (m n : Noted) → noted_cmp m n ≡ Less → noted_cmp n m ≡ Greater
    back m n e = noted_total.antisymm n m ∙ ap ordering_reverse e

    rest_of : (m n : Noted) (ms : List Noted) → Among (m ∷ ms) n → (m ≡ n → ⊥) → Among ms n
    rest_of m n ms (inl e) other = absurd (other e)
    rest_of m n ms (inr h) other = h

    -- each of these is asked for and in the frontier, and each that is, is among them
    abbrev AreThere : List Noted → List Noted → Type 0
    AreThere asked notes = (n : Noted) → Among notes n → Among asked n × IsReady active n

    abbrev AreAll : List Noted → List Noted → Type 0
    AreAll asked notes = (n : Noted) → Among asked n → IsReady active n → Among notes n

    pub walked : (asked notes : List Noted) → IsStrictlySortedBy noted_cmp asked → IsStrictlySortedBy noted_cmp notes → AreThere asked notes → AreAll asked notes → AreReady active asked notes
    walked [] [] a b f g = refl
    walked [] (m ∷ ms) a b f g = absurd (f m (inl refl)).0
    walked (n ∷ asked) [] a b f g = inl (g n (inl refl), walked asked [] (sorted_tail noted_cmp n asked a) b (λ x h. absurd h) (λ x h. g x (inr h)))
    walked (n ∷ asked) (m ∷ ms) a b f g = by (noted_cmp n m) refl (λ there all. walked asked ms (sorted_tail noted_cmp n asked a) (sorted_tail noted_cmp m ms b) there all) (λ there all. walked asked (m ∷ ms) (sorted_tail noted_cmp n asked a) b there all)
      where
        then_less : noted_cmp n m ≡ Less → Among (m ∷ ms) n → noted_cmp n n ≡ Less
        then_less e (inl same) = ap (noted_cmp n) (sym same) ∙ e
        then_less e (inr h) = noted_total.trans n m n e (below m n ms (sorted_head noted_cmp m ms b) h)

        not_greater : noted_cmp n m ≡ Greater → Among (n ∷ asked) m → ⊥
        not_greater e (inl same) = let tied = ap (noted_cmp n) (sym same) ∙ tied_itself noted_total n in absurd (cc)
        not_greater e (inr h) = let less = below n m asked (sorted_head noted_cmp n asked a) h in absurd (cc)

        by : (o : Ordering) → noted_cmp n m ≡ o → (AreThere asked ms → AreAll asked ms → AreReady active asked ms)
            → (AreThere asked (m ∷ ms) → AreAll asked (m ∷ ms) → AreReady active asked (m ∷ ms)) → AreReady active (n ∷ asked) (m ∷ ms)
        by Equal e both one =
            let same = noted_apart apart n m e in
            inr (
              subst (IsReady active) (sym same) (f m (inl refl)).1,
              (
                ms,
                ap (λ x. x ∷ ms) (sym same),
                both (λ x h. (rest_of n x asked (f x (inr h)).0 (λ is. not_less m (below m m ms (sorted_head noted_cmp m ms b) (subst (Among ms) (sym is ∙ same) h))), (f x (inr h)).1))
                    (λ x h is. rest_of m x ms (g x (inr h) is) (λ eq. not_less n (below n n asked (sorted_head noted_cmp n asked a) (subst (Among asked) (sym eq ∙ sym same) h)))),
              ),
            )
        by Less e both one = inl (
          (λ is. not_less n (then_less e (g n (inl refl) is))),
          one (λ x h. (rest_of n x asked (f x h).0 (λ eq. not_less n (then_less e (subst (Among (m ∷ ms)) (sym eq) h))), (f x h).1)) (λ x h is. g x (inr h) is),
        )
        by Greater e both one = absurd (not_greater e (f m (inl refl)).0)

-- one that is found at a place stands there
module _ (active : Active) where
  pub found_there : (before after ready notes : List Noted) (n : Noted) → AreReady active (before ++ n ∷ after) notes → AreReady active before ready → IsReady active n
      → (rest : List Noted) × (notes ≡ ready ++ n ∷ rest)
  found_there [] after ready notes n (inl h) none is = absurd (h.0 is)
  found_there [] after ready notes n (inr h) none is = (h.1.0, h.1.1 ∙ ap (λ l. l ++ n ∷ h.1.0) (sym none))
  found_there (m ∷ before) after ready notes n (inl h) (inl k) is = found_there before after ready notes n h.1 k.1 is
  found_there (m ∷ before) after ready notes n (inl h) (inr k) is = absurd (h.0 k.0)
  found_there (m ∷ before) after ready notes n (inr h) (inl k) is = absurd (k.0 h.0)
  found_there (m ∷ before) after ready notes n (inr h) (inr k) is =
      let one = found_there before after k.1.0 h.1.0 n h.1.2 k.1.2 is in
      (one.0, h.1.1 ∙ (ap (λ l. m ∷ l) one.1 ∙ ap (λ l. l ++ n ∷ one.0) (sym k.1.1)))

get_there : (ready rest : List Noted) (n : Noted) → slice_get (ready ++ n ∷ rest) (length ready) ≡ Some n
get_there [] rest n = refl
get_there (m ∷ ready) rest n = get_there ready rest n

-- HOW MANY MESSAGES of a shard there are
module _ {X : Type 0} (cmp : X → X → Ordering) (p : X → Bool) where
  one_or_none : (b : Bool) (x : X) (xs : List X) → length (cond b (x ∷ xs) xs) ≡ cond b 1 0 + length xs
  one_or_none true x xs = omega arith
  one_or_none false x xs = omega arith

  put_in : (x : X) (ys : List X) → length (filter p (bag_insert cmp x ys)) ≡ cond (p x) 1 0 + length (filter p ys)
  put_in x [] = one_or_none (p x) x []
  put_in x (y ∷ ys) = by (cmp x y) (put_in x ys)
    where
      first : length (filter p (x ∷ y ∷ ys)) ≡ cond (p x) 1 0 + length (filter p (y ∷ ys))
      first = one_or_none (p x) x (filter p (y ∷ ys))

      by : (o : Ordering) → length (filter p (bag_insert cmp x ys)) ≡ cond (p x) 1 0 + length (filter p ys)
          → length (filter p (elim o [ Greater ↦ y ∷ bag_insert cmp x ys | _ ↦ x ∷ y ∷ ys ])) ≡ cond (p x) 1 0 + length (filter p (y ∷ ys))
      by Less later = first
      by Equal later = first
      by Greater later =
          let more = one_or_none (p y) y (filter p (bag_insert cmp x ys)) in
          let less = one_or_none (p y) y (filter p ys) in
          omega (arith, more, less, later)

  pub in_bag_too : (xs : List X) → length (filter p (bag_of cmp xs)) ≡ length (filter p xs)
  in_bag_too [] = refl
  in_bag_too (x ∷ xs) = put_in x (bag_of cmp xs) ∙ (ap (λ n. cond (p x) 1 0 + n) (in_bag_too xs) ∙ sym (one_or_none (p x) x (filter p xs)))

  pub of_both : (xs ys : List X) → length (filter p (xs ++ ys)) ≡ length (filter p xs) + length (filter p ys)
  of_both xs ys = ap length (filter-append p xs ys) ∙ length-append (filter p xs) (filter p ys)

module _ (workers s : ℕ) where
  abbrev own : Message → Bool
  own c = shard_of_key workers c.rec.key == s

  all_own : (xs : List Message) → AllByRecursion (IsKeyOf workers s) xs → length (filter own xs) ≡ length xs
  all_own [] h = refl
  all_own (x ∷ xs) h =
      let here : own x ≡ true = same (shard_of_key workers x.rec.key) s h.0 in
      ap (λ b. length (cond b (x ∷ filter own xs) (filter own xs))) here ∙ ap suc (all_own xs h.1)
    where
      same : (a b : ℕ) → a ≡ b → (a == b) ≡ true
      same a b e = grind (arith, nat_tests)

  none_own : (xs : List Message) → AllByRecursion (λ c. IsKeyOf workers s c → ⊥) xs → length (filter own xs) ≡ 0
  none_own [] h = refl
  none_own (x ∷ xs) h =
      let other : own x ≡ false = differ (shard_of_key workers x.rec.key) s h.0 in
      ap (λ b. length (cond b (x ∷ filter own xs) (filter own xs))) other ∙ none_own xs h.1
    where
      differ : (a b : ℕ) → (a ≡ b → ⊥) → (a == b) ≡ false
      differ a b d = grind (arith, nat_tests)

pub others_mail : (workers k s : ℕ) (m : List Message) → (k ≡ s → ⊥) → AllByRecursion (IsKeyOf workers k) m → AllByRecursion (λ c. IsKeyOf workers s c → ⊥) m
others_mail workers k s [] d h = tt
others_mail workers k s (c ∷ m) d h = ((λ e. d (sym h.0 ∙ e)), others_mail workers k s m d h.1)

own_mail : (workers k : ℕ) (ms : List (List Message)) (i : ℕ) → i < length ms → AllByRecursion (IsMail workers) (enumerate_from k ms)
    → length (filter (own workers (k + i)) (flat ms)) ≡ length (get_or ms i [])
own_mail workers k [] i l h = absurd (omega (arith, l))
own_mail workers k (m ∷ ms) zero l h =
    let here : k ≡ k + 0 = omega arith in
    let mine = all_own workers (k + 0) m (subst (λ n. AllByRecursion (IsKeyOf workers n) m) here h.0) in
    let none = none_own workers (k + 0) (flat ms) (not_before workers (k + 1) (k + 0) ms (omega arith) h.1) in
    let both = of_both message_cmp (own workers (k + 0)) m (flat ms) in
    omega (arith, mine, none, both)
own_mail workers k (m ∷ ms) (suc i) l h =
    let there : k + 1 + i ≡ k + suc i = omega arith in
    let none = none_own workers (k + suc i) m (others_mail workers k (k + suc i) m (λ e. absurd (omega (arith, e))) h.0) in
    let rest = subst (λ n. length (filter (own workers n) (flat ms)) ≡ length (get_or ms i [])) there (own_mail workers (k + 1) ms i (omega (arith, l)) h.1) in
    let both = of_both message_cmp (own workers (k + suc i)) m (flat ms) in
    omega (arith, none, rest, both)

-- A HALL from which a task is taken
module _ (answers : Answers) (parts : Parts) (inv : IsHall answers parts) (bags : BagLaws message_cmp) (sets : SetLaws notification_cmp) (apart : IsAntisymmetric time_cmp)
    (frontier : InAnyOrder) (lists : ListsInOrder (state_of parts)) (tasks : TasksInOrder (state_of parts)) (numbers : NumbersInOrder (state_of parts))
    (s pick : ℕ) (l : s < length parts.shards.items) (free : is_out (state_of parts) s ≡ false) where
  abbrev S : HallState
  S = state_of parts

  abbrev here : Shard
  here = get_or parts.shards.items s empty_shard

  many : messages_at S s ≡ length here.mailbox.messages
  many =
      let W = length parts.shards.items in
      let within : s < length (mails parts.shards.items) = let long = length-map parts.shards.items (λ x. x.mailbox.messages) in omega (arith, long, l) in
      let zero_too : 0 + s ≡ s = omega arith in
      let out = none_own W s (with_tasks parts.out.items) (tasks_none answers parts inv bags sets apart frontier lists tasks numbers s parts.out.items tasks.there free) in
      let mine = subst (λ n. length (filter (own W n) (flat (mails parts.shards.items))) ≡ length (get_or (mails parts.shards.items) s [])) zero_too
      (own_mail W 0 (mails parts.shards.items) s within (mail_of W 0 parts.shards.items inv.shards)) in
      let all = in_bag_too message_cmp (own W s) (in_mailboxes parts.shards.items ++ with_tasks parts.out.items) in
      let both = of_both message_cmp (own W s) (in_mailboxes parts.shards.items) (with_tasks parts.out.items) in
      let flat_too = ap (λ ms. length (filter (own W s) ms)) (flat_mails parts.shards.items) in
      let at = ap length (get_map (λ (x : Shard). x.mailbox.messages) parts.shards.items s empty_shard [] l) in
      omega (arith, all, both, out, flat_too, mine, at)

  -- what is open is what a walk finds
  open_walked : IsStrictlySortedBy noted_cmp (asked_at here) → (notes : List Noted) → AreOpen S s notes → AreReady parts.table (asked_at here) notes
  open_walked once notes are = walked apart parts.table (asked_at here) notes once are.in_order
      (λ n h.
      let both = (are.each n).0 (contained notes n h) in
      (is_asked_for apart n here.waiting (sym (asked_is n) ∙ both.0), in_table answers parts inv bags sets apart frontier lists tasks numbers n both.1))
      (λ n h ready. among notes n ((are.each n).1 (asked_is n ∙ has_items apart n here.waiting h, in_state answers parts inv bags sets apart frontier lists tasks numbers n ready)))
    where
      asked_is : (n : Noted) → is_asked S s n.vertex n.time ≡ is_some (items_at here.waiting n.vertex n.time)
      asked_is n = asked_there answers parts inv bags sets apart frontier lists tasks numbers s n.vertex n.time empty_shard l

  -- THE TASK is the one that the pick names
  pub named : IsStrictlySortedBy noted_cmp (asked_at here) → (c : Candidate) (task : Task) → IsPicked parts.table here pick (Some c) → IsTaskFor parts s here c task → IsPick S s pick task
  named once (candidates.Message place) task picked is notes are =
      let under = picked.0 in
      let at = picked.1 notes (open_walked once notes are) (omega (arith, under)) in
      let total = ap (λ n. pick % (n + length notes)) many in
      subst (IsAt (messages_at S s) notes (pick % (messages_at S s + length notes)) task) (sym is.content.2) (omega (arith, total, at, under, many))
  named once (candidates.Notification n) task picked is notes are =
      let place = picked.0 in
      let ready = picked.1.2 in
      let one = found_there parts.table picked.1.0 picked.1.1 ready notes n (subst (λ a. AreReady parts.table a notes) picked.1.3 (open_walked once notes are)) picked.1.4 picked.1.6 in
      let long = ap length one.1 ∙ length-append ready (n ∷ one.0) in
      let at = picked.2 notes (open_walked once notes are) (omega (arith, long)) in
      let total = ap (λ k. pick % (k + length notes)) many in
      let found = some_of (items_at here.waiting n.vertex n.time) (key_there n here.waiting picked.1.0 picked.1.1 picked.1.3) in
      let length_is = picked.1.5 in
      let where_is : pick % (messages_at S s + length notes) - messages_at S s ≡ length ready = omega (arith, total, at, many, length_is) in
      let it : n ≡ noted_at task.vertex task.time = λ i. record { time = sym is.content.1 i; vertex = sym is.content.0 i } in
      subst (IsAt (messages_at S s) notes (pick % (messages_at S s + length notes)) task) (sym (is.content.2 found.0 found.1)) (
        omega (arith, total, at, many),
        ap (slice_get notes) where_is ∙ (ap (λ ns. slice_get ns (length ready)) one.1 ∙ (get_there ready one.0 n ∙ ap Some it)),
      )

  pub named_so : IsStrictlySortedBy noted_cmp (asked_at here) → (new : Parts) (r : Result (Option Task) HallError) → IfOk r (IsPickTaken s pick parts new) → IfOk r (λ task. IfSome task (IsPick S s pick))
  named_so once new (Err why) t = tt
  named_so once new (Ok None) t = tt
  named_so once new (Ok (Some task)) t = named once t.0 task (t.1 empty_shard).0 (t.1 empty_shard).1
