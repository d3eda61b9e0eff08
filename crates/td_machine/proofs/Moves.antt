-- How the active pointstamps change with each step.
use Rattle.std.proofs.Common.{◌≡◌, ℕ, ◌+◌, ◌-◌, ◌<◌, List, [], ◌∷◌, ◌++◌, length, map, filter, count_by, cond, refl, ap, sym, ◌∙◌, subst, Bool, true, false, not, ◌||◌, ◌&&◌, ◌==◌, arith}
use Rattle.std.specs.Prelude.{Option, Some, None}
use Rattle.std.proofs.lemmas.List.Sums.{sum_by-cons, sum_by-append}
use Rattle.std.proofs.lemmas.Cmp.{tied_itself}
use Rattle.std.specs.List.{AllByRecursion}
use Rattle.std.specs.declared.cmp.Ordering.{Ordering}
use Rattle.std.specs.declared.cmp.Ordering.TheVariants.{Less, Equal, Greater}
use Rattle.std.specs.Ordering.{is_eq}
use Rattle.td_stamp.specs.declared.values.Rec.{Rec}
use Rattle.td_stamp.specs.declared.values.Entry.{Entry}
use Rattle.td_stamp.specs.declared.values.Arrival.{Arrival}
use Rattle.td_stamp.specs.Groups.{arrival_of}
use Rattle.td_stamp.specs.Time.{Timestamp}
use Rattle.td_stamp.specs.Bag.{bag_insert, set_insert, set_has, join, has}
use Rattle.td_plan.specs.declared.vertex.Kind.{Kind}
use Rattle.td_plan.specs.declared.vertex.Kind.TheVariants.{Input, Map, Distinct, Group, Fold, Enter, Feedback, Leave, Output}
use Rattle.td_calls.specs.Answers.{Answers}
use Rattle.td_calls.specs.Callbacks.{is_notified}
use Rattle.td_reach.specs.declared.stamp.Stamp.{Stamp}
use Rattle.td_machine.specs.declared.records.Message.{Message}
use Rattle.td_machine.specs.declared.records.Stamped.{Stamped}
use Rattle.td_machine.specs.declared.records.Notification.{Notification}
use Rattle.td_machine.specs.State.{HallState, Task, Content, KeyItems, message_cmp, notification_cmp, shard_of_key, asked_of}
use Rattle.td_machine.specs.State.Content.{messages, notification}
use Rattle.td_machine.specs.Active.{inputs_of, stamp_of_message, stamp_of_asked, stamp_of_input, stamps_of_inputs, has_passed, unpassed}
use Rattle.td_machine.specs.Steps.{Event, Answer, Step, Takes, Gives, IsContent, ends, with_batch, release_by, cut_by, cut_at_by, posts, stamped, entered, with_asked, waiting, coming, asked_at, is_asked, notified_sends, effect, is_given}
use Rattle.td_machine.specs.Steps.Event.{release, taking, give, collect, cut, cut_at, close}
use Rattle.td_machine.specs.Steps.Takes.{is_busy, has_none, is_spent, takes}
use Rattle.td_machine.specs.Steps.Gives.{gives, is_stranger}
use Rattle.td_machine.specs.Reached.{IsReached}
use Rattle.td_machine.specs.AtOnce.{added_at_once, at_once}
use Rattle.td_machine.specs.InOrder.{StillThere}
use Rattle.td_machine.specs.Moves.{Moves, stamps_of, newly_asked, come_given, gone_given, come_released, come_by, gone_by, StampsMove}
use Rattle.td_machine.proofs.Orders.{notification_total, notification_apart}
use Rattle.td_machine.proofs.Lists.{all_weaken, filter_yes, filter_no, filter_all}
use Rattle.td_machine.proofs.Bags.{insert_past, insert_before_less, insert_before_equal, set_insert_past, set_insert_less, set_insert_equal, set_has_less, set_has_equal, set_has_past}
use Rattle.td_machine.proofs.AtOnce.{delivered_at_once}
use Rattle.td_machine.proofs.Played.{at_index}
use Rattle.td_machine.proofs.InOrder.{Strict, ordered_of, tasks_in_order}
use Rattle.td_machine.specs.Below.{Below}

-- COUNTS of what elements are taken for
module _ {X : Type 0} (of : X → Stamp) (test : Stamp → Bool) where
  abbrev pub many : List X → ℕ
  many xs = count_by test (map of xs)

  one_more : (x : X) (xs : List X) → many (x ∷ xs) ≡ cond (test (of x)) 1 0 + many xs
  one_more x xs = sum_by-cons (λ p. cond (test p) 1 0) (of x) (map of xs)

  module _ (cmp : X → X → Ordering) where
    more_inserted : (x : X) (ys : List X) → many (bag_insert cmp x ys) ≡ cond (test (of x)) 1 0 + many ys
    more_inserted x [] = one_more x []
    more_inserted x (y ∷ ys) = by (cmp x y) refl (more_inserted x ys)
      where
        by : (o : Ordering) → cmp x y ≡ o → many (bag_insert cmp x ys) ≡ cond (test (of x)) 1 0 + many ys → many (bag_insert cmp x (y ∷ ys)) ≡ cond (test (of x)) 1 0 + many (y ∷ ys)
        by Less e rest = ap many (insert_before_less cmp x y ys e) ∙ one_more x (y ∷ ys)
        by Equal e rest = ap many (insert_before_equal cmp x y ys e) ∙ one_more x (y ∷ ys)
        by Greater e rest = let a = one_more y (bag_insert cmp x ys) in let b = one_more y ys in ap many (insert_past cmp x y ys e) ∙ omega (arith, a, b, rest)

    pub many_joined : (xs ys : List X) → many (join cmp xs ys) ≡ many xs + many ys
    many_joined [] ys = omega arith
    many_joined (x ∷ xs) ys = let a = more_inserted x (join cmp xs ys) in let b = one_more x xs in let c = many_joined xs ys in omega (arith, a, b, c)

-- of lists after one another
counted : (test : Stamp → Bool) (ps qs : List Stamp) → count_by test (ps ++ qs) ≡ count_by test ps + count_by test qs
counted test ps qs = sum_by-append (λ p. cond (test p) 1 0) ps qs

three_counted : (test : Stamp → Bool) (ps qs rs : List Stamp) → count_by test (ps ++ (qs ++ rs)) ≡ count_by test ps + (count_by test qs + count_by test rs)
three_counted test ps qs rs = counted test ps (qs ++ rs) ∙ ap (λ n. count_by test ps + n) (counted test qs rs)

four_counted : (test : Stamp → Bool) (new ps qs rs : List Stamp) → count_by test (new ++ (ps ++ (qs ++ rs))) ≡ count_by test new + (count_by test ps + (count_by test qs + count_by test rs))
four_counted test new ps qs rs = counted test new (ps ++ (qs ++ rs)) ∙ ap (λ n. count_by test new + n) (three_counted test ps qs rs)

-- SETS OF NOTIFICATIONS: those below all have none of them
below_none : (a : Notification) (ys : List Notification) → AllByRecursion (λ y. notification_cmp a y ≡ Less) ys → has notification_cmp a ys ≡ false
below_none a [] h = refl
below_none a (y ∷ ys) h = λ i. is_eq (h.0 i) || below_none a ys h.1 i

is_below : (a y : Notification) (ys : List Notification) → notification_cmp a y ≡ Less → Strict notification_cmp (y ∷ ys) → AllByRecursion (λ z. notification_cmp a z ≡ Less) (y ∷ ys)
is_below a y ys e h = (e, all_weaken (λ z. notification_cmp y z ≡ Less) (λ z. notification_cmp a z ≡ Less) (λ z l. notification_total.trans a y z e l) ys h.0)

-- what is in a set
found : (a : Notification) (ys : List Notification) → Strict notification_cmp ys → set_has notification_cmp a ys ≡ has notification_cmp a ys
found a [] h = refl
found a (y ∷ ys) h = by (notification_cmp a y) refl (found a ys h.1)
  where
    by : (o : Ordering) → notification_cmp a y ≡ o → set_has notification_cmp a ys ≡ has notification_cmp a ys → set_has notification_cmp a (y ∷ ys) ≡ has notification_cmp a (y ∷ ys)
    by Less e rest = set_has_less notification_cmp a y ys e ∙ sym (below_none a (y ∷ ys) (is_below a y ys e h))
    by Equal e rest = set_has_equal notification_cmp a y ys e ∙ (λ i. is_eq (sym e i) || has notification_cmp a ys)
    by Greater e rest = set_has_past notification_cmp a y ys e ∙ rest ∙ (λ i. is_eq (sym e i) || has notification_cmp a ys)

-- one that is put in twice
put_twice : (a : Notification) (ys : List Notification) → set_insert notification_cmp a (set_insert notification_cmp a ys) ≡ set_insert notification_cmp a ys
put_twice a [] = set_insert_equal notification_cmp a a [] (tied_itself notification_total a)
put_twice a (y ∷ ys) = by (notification_cmp a y) refl (put_twice a ys)
  where
    by : (o : Ordering) → notification_cmp a y ≡ o → set_insert notification_cmp a (set_insert notification_cmp a ys) ≡ set_insert notification_cmp a ys
        → set_insert notification_cmp a (set_insert notification_cmp a (y ∷ ys)) ≡ set_insert notification_cmp a (y ∷ ys)
    by Less e rest = ap (set_insert notification_cmp a) (set_insert_less notification_cmp a y ys e) ∙ set_insert_equal notification_cmp a a (y ∷ ys) (tied_itself notification_total a)
        ∙ sym (set_insert_less notification_cmp a y ys e)
    by Equal e rest = ap (set_insert notification_cmp a) (set_insert_equal notification_cmp a y ys e)
    by Greater e rest =
        ap (set_insert notification_cmp a) (set_insert_past notification_cmp a y ys e) ∙ set_insert_past notification_cmp a y (set_insert notification_cmp a ys) e ∙ ap (λ l. y ∷ l) rest
        ∙ sym (set_insert_past notification_cmp a y ys e)

module _ (test : Stamp → Bool) where
  abbrev notes : List Notification → ℕ
  notes xs = many stamp_of_asked test xs

  -- one that is taken out of a set
  taken_out : (a : Notification) (ys : List Notification) → Strict notification_cmp ys → has notification_cmp a ys ≡ true
      → notes ys ≡ cond (test (stamp_of_asked a)) 1 0 + notes (filter (λ b. not (is_eq (notification_cmp a b))) ys)
  taken_out a [] h there = cc
  taken_out a (y ∷ ys) h there = by (notification_cmp a y) refl there (taken_out a ys h.1)
    where
      by : (o : Ordering) → notification_cmp a y ≡ o → (is_eq o || has notification_cmp a ys) ≡ true
          → (has notification_cmp a ys ≡ true → notes ys ≡ cond (test (stamp_of_asked a)) 1 0 + notes (filter (λ b. not (is_eq (notification_cmp a b))) ys))
          → notes (y ∷ ys) ≡ cond (test (stamp_of_asked a)) 1 0 + notes (filter (λ b. not (is_eq (notification_cmp a b))) (y ∷ ys))
      by Less e k rest = let no : true ≡ false = sym k ∙ below_none a ys (is_below a y ys e h).1 in cc
      by Equal e k rest =
          let same : a ≡ y = notification_apart a y e in
          let all : AllByRecursion (λ b. not (is_eq (notification_cmp a b)) ≡ true) ys =
          all_weaken (λ z. notification_cmp y z ≡ Less) (λ b. not (is_eq (notification_cmp a b)) ≡ true) (λ z l. ap (λ o. not (is_eq o)) (ap (λ x. notification_cmp x z) same ∙ l)) ys h.0 in
          let gone : filter (λ b. not (is_eq (notification_cmp a b))) (y ∷ ys) ≡ ys =
          filter_no (λ b. not (is_eq (notification_cmp a b))) y ys (ap (λ o. not (is_eq o)) e) ∙ filter_all (λ b. not (is_eq (notification_cmp a b))) ys all in
          one_more stamp_of_asked test y ys ∙ (λ i. cond (test (stamp_of_asked (sym same i))) 1 0 + notes (sym gone i))
      by Greater e k rest =
          let r = rest k in
          let a1 = one_more stamp_of_asked test y ys in
          let kept = filter (λ b. not (is_eq (notification_cmp a b))) ys in
          let b1 = one_more stamp_of_asked test y kept in
          let same = ap notes (filter_yes (λ b. not (is_eq (notification_cmp a b))) y ys (ap (λ o. not (is_eq o)) e)) in
          omega (arith, r, a1, b1, same)

  -- one that is put into a set
  put_in : (below : Below) (a : Notification) (ys : List Notification) → Strict notification_cmp ys → (b : Bool) → has notification_cmp a ys ≡ b
      → notes (set_insert notification_cmp a ys) ≡ cond b 0 (cond (test (stamp_of_asked a)) 1 0) + notes ys
  put_in below a ys h true e = ap notes (below.notifications.there a ys (found a ys h ∙ e)) ∙ omega arith
  put_in below a ys h false e = ap notes (below.notifications.new a ys (found a ys h ∙ e)) ∙ more_inserted stamp_of_asked test notification_cmp a ys

-- THE NOTIFICATION of a task's shard, for which each of its records asks
module _ (S : HallState) (s v port : ℕ) (t : Timestamp) where
  abbrev asks : Arrival → Notification
  asks a = asked_of S.workers (waiting v t a)

  abbrev OfShard : List Rec → Type 0
  OfShard recs = AllByRecursion (λ r. shard_of_key S.workers r.key ≡ s) recs

  asks_same : (r : Rec) → shard_of_key S.workers r.key ≡ s → asks (arrival_of port r) ≡ asked_at S s v t
  asks_same r h = λ i. record { shard = h i; vertex = v; time = t }

  asked_once : (r : Rec) (recs : List Rec) → OfShard (r ∷ recs) → with_asked (map asks (map (arrival_of port) (r ∷ recs))) S.asked ≡ set_insert notification_cmp (asked_at S s v t) S.asked
  asked_once r [] h = ap (λ a. set_insert notification_cmp a S.asked) (asks_same r h.0)
  asked_once r (q ∷ recs) h = (λ i. set_insert notification_cmp (asks_same r h.0 i) (asked_once q recs h.1 i)) ∙ put_twice (asked_at S s v t) S.asked

  pub some_asked : (recs : List Rec) → 0 < length recs → OfShard recs → with_asked (map asks (map (arrival_of port) recs)) S.asked ≡ set_insert notification_cmp (asked_at S s v t) S.asked
  some_asked [] l h = absurd (omega (arith, l))
  some_asked (r ∷ recs) l h = asked_once r recs h

-- what waits of a task's records
waits : (answers : Answers) (seen : List Stamped) (kind : Kind) (v port : ℕ) (t : Timestamp) (recs : List Rec)
    → (added_at_once answers seen kind v port t recs).buffered ≡ cond (is_notified kind) (map (arrival_of port) recs) []
waits answers seen Input v port t recs = refl
waits answers seen (Map code) v port t recs = refl
waits answers seen Distinct v port t recs = refl
waits answers seen (Group code) v port t recs = refl
waits answers seen (Fold code) v port t recs = refl
waits answers seen Enter v port t recs = refl
waits answers seen Feedback v port t recs = refl
waits answers seen Leave v port t recs = refl
waits answers seen Output v port t recs = refl

module _ (below : Below) (answers : Answers) (S : HallState) where
  abbrev Went : HallState → Event → Answer → Type 0
  Went after event answer = Moves S after (come_by answers S event answer) (gone_by S event answer)

  abbrev inputs_many : (Stamp → Bool) → ℕ
  inputs_many test = count_by test (stamps_of_inputs S.plan S.next S.closed)

  -- A TASK OF RECORDS
  module _ (task : Task) (port : ℕ) (recs : List Rec) (set : Strict notification_cmp S.asked)
      (some : 0 < length recs) (of_shard : AllByRecursion (λ r. shard_of_key S.workers r.key ≡ task.shard) recs) (others : List Message)
      (here : S.messages ≡ join message_cmp (coming task.vertex port task.time recs) others) where
    abbrev now : HallState
    now = at_once answers S task.kind task.vertex port task.time recs others

    abbrev sent : List Message
    sent = posts S.plan (stamped task.vertex task.time (added_at_once answers S.seen task.kind task.vertex port task.time recs).sent)

    notes_now : (test : Stamp → Bool) → notes test now.asked ≡ notes test (newly_asked S task) + notes test S.asked
    notes_now test = by (is_notified task.kind) refl (is_asked S task.shard task.vertex task.time) refl
      where
        asked_is : (b : Bool) → is_notified task.kind ≡ b → now.asked ≡ with_asked (map (asks S task.shard task.vertex port task.time) (cond b (map (arrival_of port) recs) [])) S.asked
        asked_is b e = ap (λ l. with_asked (map (asks S task.shard task.vertex port task.time) l) S.asked)
            (waits answers S.seen task.kind task.vertex port task.time recs ∙ ap (λ b. cond b (map (arrival_of port) recs) []) e)

        newly_is : (b d : Bool) → is_notified task.kind ≡ b → is_asked S task.shard task.vertex task.time ≡ d
            → newly_asked S task ≡ elim (b && not d) [ true ↦ asked_at S task.shard task.vertex task.time ∷ [] | false ↦ [] ]
        newly_is b d e f = λ i. elim (e i && not (f i)) [ true ↦ asked_at S task.shard task.vertex task.time ∷ [] | false ↦ [] ]

        by : (b : Bool) → is_notified task.kind ≡ b → (d : Bool) → is_asked S task.shard task.vertex task.time ≡ d → notes test now.asked ≡ notes test (newly_asked S task) + notes test S.asked
        by false e d f =
            let n : notes test (newly_asked S task) ≡ 0 = ap (notes test) (newly_is false d e f) in
            let m : notes test now.asked ≡ notes test S.asked = ap (notes test) (asked_is false e) in
            omega (arith, n, m)
        by true e true f =
            let n : notes test (newly_asked S task) ≡ 0 = ap (notes test) (newly_is true true e f) in
            let m = ap (notes test) (asked_is true e ∙ some_asked S task.shard task.vertex port task.time recs some of_shard)
            ∙ put_in test below (asked_at S task.shard task.vertex task.time) S.asked set true f in
            omega (arith, n, m)
        by true e false f =
            let n = ap (notes test) (newly_is true false e f) ∙ one_more stamp_of_asked test (asked_at S task.shard task.vertex task.time) [] in
            let m = ap (notes test) (asked_is true e ∙ some_asked S task.shard task.vertex port task.time recs some of_shard)
            ∙ put_in test below (asked_at S task.shard task.vertex task.time) S.asked set false f in
            omega (arith, n, m)

    records_move : Moves S (is_given now task) (come_given answers S task (messages port recs)) (gone_given S task (messages port recs))
    records_move test =
        let f = stamp_of_message S.plan in
        let a = four_counted test (stamps_of S.plan sent ++ map stamp_of_asked (newly_asked S task)) (map f S.messages) (map stamp_of_asked S.asked) (stamps_of_inputs S.plan S.next S.closed) in
        let b = counted test (stamps_of S.plan sent) (map stamp_of_asked (newly_asked S task)) in
        let c = ap (many f test) here ∙ many_joined f test message_cmp (coming task.vertex port task.time recs) others in
        let d = four_counted test (stamps_of S.plan (coming task.vertex port task.time recs)) (map f now.messages) (map stamp_of_asked now.asked) (stamps_of_inputs S.plan S.next S.closed) in
        let e = many_joined f test message_cmp sent others in
        let n = notes_now test in
        a ∙ omega (arith, b, c, e, n) ∙ sym d

  -- A NOTIFICATION
  note_moves : (task : Task) (items : List KeyItems) → Strict notification_cmp S.asked → is_asked S task.shard task.vertex task.time ≡ true
      → Moves S (is_given (effect answers S task (notification items)) task) (come_given answers S task (notification items)) (gone_given S task (notification items))
  note_moves task items set asked test =
      let f = stamp_of_message S.plan in
      let it = asked_at S task.shard task.vertex task.time in
      let sent : List Message = posts S.plan (stamped task.vertex task.time (notified_sends answers task.kind items)) in
      let left : List Notification = filter (λ b. not (is_eq (notification_cmp it b))) S.asked in
      let a = four_counted test (stamps_of S.plan sent) (map f S.messages) (map stamp_of_asked S.asked) (stamps_of_inputs S.plan S.next S.closed) in
      let b = taken_out test it S.asked set asked in
      let c = four_counted test (map stamp_of_asked (it ∷ [])) (map f (join message_cmp sent S.messages)) (map stamp_of_asked left) (stamps_of_inputs S.plan S.next S.closed) in
      let d = many_joined f test message_cmp sent S.messages in
      let e = one_more stamp_of_asked test it [] in
      a ∙ omega (arith, b, d, e) ∙ sym c

  -- A BATCH
  batch_moves : (batch : List Entry) → S.closed ≡ false → Moves S (with_batch S batch) (come_released S batch) (map (stamp_of_input S.next) (inputs_of S.plan))
  batch_moves batch unclosed test =
      let f = stamp_of_message S.plan in
      let sent : List Message = posts S.plan (map (entered S.next) batch) in
      let later : List Stamp = map (stamp_of_input (S.next + 1)) (inputs_of S.plan) in
      let before : List Stamp = map (stamp_of_input S.next) (inputs_of S.plan) in
      let a = four_counted test (stamps_of S.plan sent ++ later) (map f S.messages) (map stamp_of_asked S.asked) (stamps_of_inputs S.plan S.next S.closed) in
      let b = counted test (stamps_of S.plan sent) later in
      let c = four_counted test before (map f (join message_cmp sent S.messages)) (map stamp_of_asked S.asked) (stamps_of_inputs S.plan (S.next + 1) S.closed) in
      let d = many_joined f test message_cmp sent S.messages in
      let e : inputs_many test ≡ count_by test before = ap (λ b. count_by test (stamps_of_inputs S.plan S.next b)) unclosed in
      let g : count_by test (stamps_of_inputs S.plan (S.next + 1) S.closed) ≡ count_by test later = ap (λ b. count_by test (stamps_of_inputs S.plan (S.next + 1) b)) unclosed in
      a ∙ omega (arith, b, d, e, g) ∙ sym c

  inputs_close : Moves S (record S { closed = true }) [] (stamps_of_inputs S.plan S.next S.closed)
  inputs_close test =
      let f = stamp_of_message S.plan in
      let a = three_counted test (map f S.messages) (map stamp_of_asked S.asked) (stamps_of_inputs S.plan S.next S.closed) in
      let b = four_counted test (stamps_of_inputs S.plan S.next S.closed) (map f S.messages) (map stamp_of_asked S.asked) [] in
      a ∙ omega arith ∙ sym b

  given_move : (task : Task) (content : Content) → Strict notification_cmp S.asked → IsContent S task.shard task.vertex task.time content
      → Moves S (is_given (effect answers S task content) task) (come_given answers S task content) (gone_given S task content)
  given_move task (messages port recs) set c =
      subst (λ X. Moves S (is_given X task) (come_given answers S task (messages port recs)) (gone_given S task (messages port recs)))
      (sym (delivered_at_once below answers S task.kind task.vertex port task.time recs c.3.0 c.3.1)) (records_move task port recs set c.0 c.2 c.3.0 c.3.1)
  given_move task (notification items) set c = note_moves task items set c.0

  releases : (batch : List Entry) (b d : Bool) → S.closed ≡ b → (let p : Answer × HallState = release_by S b d batch in Went p.1 (release batch) p.0)
  releases batch true d e = λ test. refl
  releases batch false true e = λ test. refl
  releases batch false false e = batch_moves batch e

  cuts : (o : Option ℕ) (last : ℕ) → (let p : Answer × HallState = cut_by S o last in Went p.1 cut p.0)
  cuts (Some e) last = λ test. refl
  cuts None last = λ test. refl

  cuts_at : (b : Bool) (e : ℕ) → (let p : Answer × HallState = cut_at_by S b e in Went p.1 (cut_at e) p.0)
  cuts_at true e = λ test. refl
  cuts_at false e = λ test. refl

  takes_move : (s : ℕ) (answer : Answer) (after : HallState) → Takes S s answer after → Went after (taking s) answer
  takes_move s _ _ (is_busy e) = λ test. refl
  takes_move s _ _ (has_none e n) = λ test. refl
  takes_move s _ _ (is_spent e task may l) = λ test. refl
  takes_move s _ _ (takes e task may l) = λ test. refl

  gives_move : (r : IsReached answers S) (task : Task) (answer : Answer) (after : HallState) → Gives answers S task answer after → Went after (give task) answer
  gives_move r task _ _ (gives out) =
      let there = at_index below (StillThere S) S.out out.0 task (tasks_in_order below answers S r).there out.1 out.2 in
      given_move task task.content (ordered_of below answers S r).asked there.2
  gives_move r task _ _ (is_stranger n) = λ test. refl

  moves : (event : Event) (answer : Answer) (after : HallState) → IsReached answers S → Step answers S event answer after → Went after event answer
  moves (release batch) answer after r h = subst (λ (p : Answer × HallState). Went p.1 (release batch) p.0) h.1 (releases batch S.closed (S.next == ends) refl)
  moves (taking s) answer after r h = takes_move s answer after h
  moves (give task) answer after r h = gives_move r task answer after h
  moves collect answer after r h = subst (λ (p : Answer × HallState). Went p.1 collect p.0) h (λ test. refl)
  moves cut answer after r h = subst (λ (p : Answer × HallState). Went p.1 cut p.0) h (cuts (unpassed S) (S.next - 1))
  moves (cut_at e) answer after r h = subst (λ (p : Answer × HallState). Went p.1 (cut_at e) p.0) h.2 (cuts_at (has_passed S e) e)
  moves close answer after r h = subst (λ (p : Answer × HallState). Went p.1 close p.0) h inputs_close

pub stamps_move : (below : Below) (answers : Answers) → StampsMove answers
stamps_move below answers S after event answer r step = moves below answers S event answer after r step
