-- What waits in all shards when the records of a task came to its own.
use Rattle.std.proofs.Common.{◌≡◌, ℕ, ◌+◌, ◌==◌, ◌<◌, ◌≤◌, Bool, true, false, ◌&&◌, List, [], ◌∷◌, ◌++◌, map, flat_map, length, refl, ap, sym, ◌∙◌, subst, arith}
use Rattle.std.specs.List.{AllByRecursion, enumerate_from}
use Rattle.std.specs.List.Sorted.{IsStrictlySortedBy}
use Rattle.std.specs.Map.{keys_of}
use Rattle.std.specs.FinMap.{IsAntisymmetric}
use Rattle.std.proofs.lemmas.Bool.Decides.{nat_tests}
use Rattle.td_stamp.specs.declared.values.Rec.{Rec}
use Rattle.td_stamp.specs.declared.values.Arrival.{Arrival}
use Rattle.td_stamp.specs.Bag.{join, set_of, set_insert}
use Rattle.td_stamp.specs.BagLaws.{BagLaws, SetLaws}
use Rattle.td_stamp.specs.Groups.{arrival_of}
use Rattle.td_stamp.specs.Time.{time_cmp}
use Rattle.td_calls.specs.Callbacks.{is_notified}
use Rattle.td_machine.specs.declared.records.Message.{Message}
use Rattle.td_machine.specs.declared.records.Notification.{Notification}
use Rattle.td_machine.specs.State.{Task, message_cmp, notification_cmp, shard_of_key}
use Rattle.td_shard.specs.declared.waiting.Noted.{Noted}
use Rattle.td_shard.specs.declared.shard.Shard.{Shard}
use Rattle.td_shard.specs.Asked.{AskedList, noted_cmp, noted_at, with_items}
use Rattle.td_core.specs.Parts.{waiting_in, asked_in, asked_of_shard}
use Rattle.td_core.specs.Posted.{waits}
use Rattle.td_core.specs.Delivered.{waiting_by, waiting_with}
use Rattle.td_core.proofs.Waits.{waiting_all, as_messages, more_wait}
use Rattle.td_core.proofs.WaitsSorted.{sorted_with, all_with}
use Rattle.td_core.proofs.WaitsAsked.{asks, IsAskedFor, asked_for, after_others, before_others, asked_set}

-- what waits in shards, and what they ask for, is told by their lists alone
pub waiting_by_lists : (shards : List Shard) → flat_map waiting_in shards ≡ flat_map waiting_all (waits shards)
waiting_by_lists [] = refl
waiting_by_lists (s ∷ ss) = ap (λ l. waiting_in s ++ l) (waiting_by_lists ss)

abbrev pub asked_by : ℕ × AskedList → List Notification
asked_by p = map (asked_of_shard p.0) p.1

abbrev pub asked_all : ℕ → List AskedList → List Notification
asked_all k lists = flat_map asked_by (enumerate_from k lists)

pub asked_by_lists : (k : ℕ) (shards : List Shard) → flat_map asked_in (enumerate_from k shards) ≡ asked_all k (waits shards)
asked_by_lists k [] = refl
asked_by_lists k (s ∷ ss) = ap (λ l. asked_in (k, s) ++ l) (asked_by_lists (k + 1) ss)

-- what waits in a shard is of the shard, and stands in order
pub record IsWaiting (workers : ℕ) (p : ℕ × AskedList) : Type 0 where
  pub items : AllByRecursion (λ w. AllByRecursion (λ a. shard_of_key workers a.key ≡ p.0) w.1) p.1
  pub once : IsStrictlySortedBy noted_cmp (keys_of p.1)

and_false : (b : Bool) → (b && false) ≡ false
and_false true = refl
and_false false = refl

other_number : (a b : ℕ) → (a ≡ b → ⊥) → (a == b) ≡ false
other_number a b n = grind (arith, nat_tests)

module _ (task : Task) (port : ℕ) (recs : List Rec) where
  abbrev pub more : List Arrival
  more = map (arrival_of port) recs

  abbrev pub here : Noted
  here = noted_at task.vertex task.time

  abbrev pub then_waits : ℕ → List Shard → List AskedList
  then_waits k shards = map (waiting_with task port recs) (enumerate_from k shards)

  -- a shard to which they do not come
  unless : (p : ℕ × Shard) → (is_notified task.kind && p.0 == task.shard) ≡ false → waiting_with task port recs p ≡ p.1.waiting
  unless p e = ap (λ b. waiting_by b task port recs p.1.waiting) e

  pub same_waits : is_notified task.kind ≡ false → (k : ℕ) (shards : List Shard) → then_waits k shards ≡ waits shards
  same_waits e k [] = refl
  same_waits e k (s ∷ ss) =
      ap (λ w. w ∷ then_waits (k + 1) ss) (unless (k, s) (ap (λ b. b && k == task.shard) e)) ∙ ap (λ l. s.waiting ∷ l) (same_waits e (k + 1) ss)

  pub elsewhere : (k : ℕ) → (k ≡ task.shard → ⊥) → (s : Shard) → waiting_with task port recs (k, s) ≡ s.waiting
  elsewhere k other s = unless (k, s) (ap (λ b. is_notified task.kind && b) (other_number k task.shard other) ∙ and_false (is_notified task.kind))

  pub past_waits : (k : ℕ) (shards : List Shard) → task.shard < k → then_waits k shards ≡ waits shards
  past_waits k [] l = refl
  past_waits k (s ∷ ss) l =
      ap (λ w. w ∷ then_waits (k + 1) ss) (elsewhere k (λ e. absurd (omega (arith, e, l))) s) ∙ ap (λ l. s.waiting ∷ l) (past_waits (k + 1) ss (omega (arith, l)))

  module _ (noted : is_notified task.kind ≡ true) where
    pub in_its_own : (k : ℕ) → k ≡ task.shard → (s : Shard) → waiting_with task port recs (k, s) ≡ with_items s.waiting task.vertex task.time more
    in_its_own k e s =
        let mine : (k == task.shard) ≡ true = grind (arith, nat_tests) in
        ap (λ b. waiting_by (b && k == task.shard) task port recs s.waiting) noted ∙ ap (λ b. waiting_by b task port recs s.waiting) mine

    -- WHAT WAITS
    abbrev HaveMore : ℕ → List Shard → List Message → Type 0
    HaveMore k shards rest = join message_cmp (flat_map waiting_all (then_waits k shards)) rest ≡ join message_cmp (as_messages here more) (join message_cmp (flat_map waiting_all (waits shards)) rest)

    pub more_in_all : IsAntisymmetric time_cmp → BagLaws message_cmp → (k : ℕ) (shards : List Shard) (rest : List Message) → k ≤ task.shard → task.shard < k + length shards
        → HaveMore k shards rest
    more_in_all apart laws k [] rest from to = absurd (omega (arith, from, to))
    more_in_all apart laws k (s ∷ ss) rest from to = by (k == task.shard) refl (λ less. more_in_all apart laws (k + 1) ss rest (omega (arith, less)) (omega (arith, to)))
      where
        its_own : k ≡ task.shard
            → HaveMore k (s ∷ ss) rest
        its_own e =
            let others : List Message = flat_map waiting_all (waits ss) in
            (λ i. join message_cmp (waiting_all (in_its_own k e s i) ++ flat_map waiting_all (past_waits (k + 1) ss (omega (arith, e)) i)) rest)
            ∙ (laws.append (waiting_all (with_items s.waiting task.vertex task.time more)) others rest
            ∙ (more_wait apart laws here more s.waiting (join message_cmp others rest)
            ∙ ap (join message_cmp (as_messages here more)) (sym (laws.append (waiting_all s.waiting) others rest))))

        anothers : (k ≡ task.shard → ⊥) → (k < task.shard → HaveMore (k + 1) ss rest)
            → HaveMore k (s ∷ ss) rest
        anothers n later =
            let others : List Message = flat_map waiting_all (waits ss) in
            let less : k < task.shard = omega (arith, n, from) in
            ap (λ w. join message_cmp (waiting_all w ++ flat_map waiting_all (then_waits (k + 1) ss)) rest) (elsewhere k n s)
            ∙ (laws.append (waiting_all s.waiting) (flat_map waiting_all (then_waits (k + 1) ss)) rest
            ∙ (ap (join message_cmp (waiting_all s.waiting)) (later less)
            ∙ (laws.swaps (waiting_all s.waiting) (as_messages here more) (join message_cmp others rest)
            ∙ ap (join message_cmp (as_messages here more)) (sym (laws.append (waiting_all s.waiting) others rest)))))

        by : (b : Bool) → (k == task.shard) ≡ b → (k < task.shard → HaveMore (k + 1) ss rest)
            → HaveMore k (s ∷ ss) rest
        by true e later = its_own (grind (arith, nat_tests))
        by false e later = anothers (λ same. absurd (grind (arith, nat_tests))) later

    -- WHAT IS ASKED FOR
    abbrev AskForIt : ℕ → List Shard → Type 0
    AskForIt k shards = IsAskedFor (asks task.shard task.vertex task.time) (asked_all k (waits shards)) (asked_all k (then_waits k shards))

    asked_in_all : (k : ℕ) (shards : List Shard) → k ≤ task.shard → task.shard < k + length shards
        → AskForIt k shards
    asked_in_all k [] from to = absurd (omega (arith, from, to))
    asked_in_all k (s ∷ ss) from to = by (k == task.shard) refl (λ less. asked_in_all (k + 1) ss (omega (arith, less)) (omega (arith, to)))
      where
        its_own : k ≡ task.shard → AskForIt k (s ∷ ss)
        its_own e =
            let others : List Notification = asked_all (k + 1) (waits ss) in
            let one : IsAskedFor (asks task.shard task.vertex task.time) (map (asked_of_shard k) s.waiting) (map (asked_of_shard k) (with_items s.waiting task.vertex task.time more)) =
            subst (λ n. IsAskedFor (asks task.shard task.vertex task.time) (map (asked_of_shard n) s.waiting) (map (asked_of_shard n) (with_items s.waiting task.vertex task.time more))) (sym e)
            (asked_for task.shard task.vertex task.time more s.waiting) in
            subst (λ lists. IsAskedFor (asks task.shard task.vertex task.time) (asked_all k (waits (s ∷ ss))) (asked_all k lists))
            (sym (λ i. in_its_own k e s i ∷ past_waits (k + 1) ss (omega (arith, e)) i))
            (before_others (asks task.shard task.vertex task.time) others (map (asked_of_shard k) s.waiting) (map (asked_of_shard k) (with_items s.waiting task.vertex task.time more)) one)

        anothers : (k ≡ task.shard → ⊥) → (k < task.shard → AskForIt (k + 1) ss) → AskForIt k (s ∷ ss)
        anothers n later =
            let less : k < task.shard = omega (arith, n, from) in
            subst (λ w. IsAskedFor (asks task.shard task.vertex task.time) (asked_all k (waits (s ∷ ss))) (asked_all k (w ∷ then_waits (k + 1) ss))) (sym (elsewhere k n s))
            (after_others (asks task.shard task.vertex task.time) (map (asked_of_shard k) s.waiting) (asked_all (k + 1) (waits ss)) (asked_all (k + 1) (then_waits (k + 1) ss))
            (later less))

        by : (b : Bool) → (k == task.shard) ≡ b → (k < task.shard → AskForIt (k + 1) ss) → AskForIt k (s ∷ ss)
        by true e later = its_own (grind (arith, nat_tests))
        by false e later = anothers (λ same. absurd (grind (arith, nat_tests))) later

    pub asked_then : SetLaws notification_cmp → (shards : List Shard) → task.shard < length shards
        → set_of notification_cmp (asked_all 0 (then_waits 0 shards)) ≡ set_insert notification_cmp (asks task.shard task.vertex task.time) (set_of notification_cmp (asked_all 0 (waits shards)))
    asked_then laws shards within =
        asked_set laws (asks task.shard task.vertex task.time) (asked_all 0 (waits shards)) (asked_all 0 (then_waits 0 shards)) (asked_in_all 0 shards (omega arith) (omega (arith, within)))

  -- ALL OF THEM stand in order still
  pub still_waiting : (workers : ℕ) → AllByRecursion (λ a. shard_of_key workers a.key ≡ task.shard) more → (k : ℕ) (shards : List Shard)
      → AllByRecursion (IsWaiting workers) (enumerate_from k (waits shards)) → AllByRecursion (IsWaiting workers) (enumerate_from k (then_waits k shards))
  still_waiting workers of_shard k [] h = tt
  still_waiting workers of_shard k (s ∷ ss) h = (by (k == task.shard) refl, still_waiting workers of_shard (k + 1) ss h.1)
    where
      come : (b : Bool) → (k == task.shard) ≡ true → IsWaiting workers (k, waiting_by (b && k == task.shard) task port recs s.waiting)
      come false e = h.0
      come true e = subst (λ c. IsWaiting workers (k, waiting_by c task port recs s.waiting)) (sym e) (record {
        items = all_with here more (λ a. shard_of_key workers a.key ≡ k) (subst (λ n. AllByRecursion (λ a. shard_of_key workers a.key ≡ n) more) (let same : task.shard ≡ k = grind (arith, nat_tests) in same) of_shard)
            s.waiting h.0.items;
        once = sorted_with here more s.waiting h.0.once;
      })

      by : (b : Bool) → (k == task.shard) ≡ b → IsWaiting workers (k, waiting_with task port recs (k, s))
      by true e = come (is_notified task.kind) e
      by false e = subst (λ w. IsWaiting workers (k, w)) (sym (elsewhere k (λ same. absurd (grind (arith, nat_tests))) s)) h.0
