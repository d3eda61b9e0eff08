-- What has its answer at a vertex that groups, by the shards of the keys.
use Rattle.std.proofs.Common.{◌≡◌, ℕ, List, ◌∷◌, map, flat_map, filter, not, refl, ap, sym, ◌∙◌, Bool, true, false, ◌||◌, ◌&&◌}
use Rattle.std.specs.declared.cmp.Ordering.{Ordering}
use Rattle.std.specs.declared.cmp.Ordering.TheVariants.{Less, Equal, Greater}
use Rattle.std.specs.Ordering.{is_eq, ordering_reverse}
use Rattle.td_stamp.specs.declared.values.Item.{Item}
use Rattle.td_stamp.specs.declared.values.Arrival.{Arrival}
use Rattle.td_stamp.specs.Time.{Timestamp}
use Rattle.td_stamp.specs.Bag.{join, bag_of, has}
use Rattle.td_stamp.specs.BagLaws.{BagLaws}
use Rattle.td_stamp.specs.Groups.{groups}
use Rattle.td_plan.specs.Lines.{Line}
use Rattle.td_calls.specs.Callbacks.{is_notified}
use Rattle.td_machine.specs.declared.records.Message.{Message}
use Rattle.td_machine.specs.declared.records.Notification.{Notification}
use Rattle.td_machine.specs.State.{message_cmp, notification_cmp, is_there, arrival, asked_of, shard_of_key}
use Rattle.td_machine.specs.Active.{kind_of}
use Rattle.td_machine.proofs.History.{has_answer, came_at}
use Rattle.td_machine.proofs.Orders.{notification_total, notification_apart, there_is, there_itself, tied}
use Rattle.td_machine.proofs.Lists.{filter_filter, filter_alike, filter_map, all_everywhere}
use Rattle.td_machine.proofs.Splits.{groups_split, groups_of_came}
use Rattle.td_machine.proofs.Bags.{filter-bag_of}
use Rattle.td_machine.specs.Below.{Below}

module _ (below : Below) where
  reverse_eq : (o : Ordering) → is_eq (ordering_reverse o) ≡ is_eq o
  reverse_eq Less = refl
  reverse_eq Equal = refl
  reverse_eq Greater = refl

  pub eq_swap : (x y : Notification) → is_eq (notification_cmp x y) ≡ is_eq (notification_cmp y x)
  eq_swap x y = ap is_eq (notification_total.antisymm x y) ∙ reverse_eq (notification_cmp y x)

  and_no : (b : Bool) → (b && false) ≡ false
  and_no true = refl
  and_no false = refl

  and_yes : (b : Bool) → (b && true) ≡ b
  and_yes true = refl
  and_yes false = refl

  -- lists at a vertex and time are alike where their tests are alike there
  pub came_alike : (v : ℕ) (t : Timestamp) (p q : Message → Bool) → ((c : Message) → is_there v t c.vertex c.time ≡ true → p c ≡ q c) → (cs : List Message) → came_at (filter p cs) v t ≡ came_at (filter q cs) v t
  came_alike v t p q same cs =
      let there : Message → Bool = λ c. is_there v t c.vertex c.time in
      ap (map arrival) (filter_filter there p cs ∙ filter_alike (λ c. p c && there c) (λ c. q c && there c) cs (all_everywhere (λ c. (p c && there c) ≡ (q c && there c)) (λ c. by c (there c) refl) cs) ∙ sym (filter_filter there q cs))
    where
      by : (c : Message) (b : Bool) → is_there v t c.vertex c.time ≡ b → (p c && is_there v t c.vertex c.time) ≡ (q c && is_there v t c.vertex c.time)
      by c true e = λ i. same c e i && is_there v t c.vertex c.time
      by c false e = ap (λ b. p c && b) e ∙ and_no (p c) ∙ sym (ap (λ b. q c && b) e ∙ and_no (q c))

  -- by keys
  pub came_keyed : (v : ℕ) (t : Timestamp) (p : Message → Bool) (q : ℕ → Bool) → ((c : Message) → is_there v t c.vertex c.time ≡ true → p c ≡ q c.rec.key) → (cs : List Message)
      → came_at (filter p cs) v t ≡ filter (λ b. q b.key) (came_at cs v t)
  came_keyed v t p q same cs =
      let there : Message → Bool = λ c. is_there v t c.vertex c.time in
      came_alike v t p (λ c. q c.rec.key) same cs
      ∙ ap (map arrival) (filter_filter there (λ c. q c.rec.key) cs ∙ filter_alike (λ c. q c.rec.key && there c) (λ c. there c && q c.rec.key) cs (all_everywhere (λ c. (q c.rec.key && there c) ≡ (there c && q c.rec.key)) (λ c. swap (q c.rec.key) (there c)) cs)
      ∙ sym (filter_filter (λ c. q c.rec.key) there cs)) ∙ sym (filter_map (λ (b : Arrival). q b.key) arrival (filter there cs))
    where
      swap : (a b : Bool) → (a && b) ≡ (b && a)
      swap true b = sym (and_yes b)
      swap false b = sym (and_no b)

  module _ (plan : List Line) (workers : ℕ) (notified : List Notification) (s v : ℕ) (t : Timestamp) (groups_here : is_notified (kind_of plan v) ≡ true) (new : has notification_cmp (record { shard = s; vertex = v; time = t }) notified ≡ false) where
    abbrev pub it : Notification
    it = record { shard = s; vertex = v; time = t }

    -- what is asked for a key
    abbrev pub for_key : ℕ → Notification
    for_key k = record { shard = shard_of_key workers k; vertex = v; time = t }

    abbrev was : ℕ → Bool
    was k = has notification_cmp (for_key k) notified

    abbrev pub is_now : ℕ → Bool
    is_now k = is_eq (notification_cmp (for_key k) it)

    abbrev ready : Message → Bool
    ready = has_answer plan workers notified

    abbrev ready_now : Message → Bool
    ready_now = has_answer plan workers (it ∷ notified)

    now_was : (k : ℕ) → is_now k ≡ true → was k ≡ false
    now_was k e = ap (λ a. has notification_cmp a notified) (notification_apart (for_key k) it (tied (notification_cmp (for_key k) it) e)) ∙ new

    ready_key : (c : Message) → is_there v t c.vertex c.time ≡ true → ready c ≡ was c.rec.key
    ready_key c e =
        let w = there_is v c.vertex t c.time e in
        (λ i. not (is_notified (kind_of plan (w.0 i))) || has notification_cmp (record { shard = shard_of_key workers c.rec.key; vertex = w.0 i; time = w.1 i }) notified) ∙ ap (λ b. not b || was c.rec.key) groups_here

    ready_now_key : (c : Message) → is_there v t c.vertex c.time ≡ true → ready_now c ≡ (is_now c.rec.key || was c.rec.key)
    ready_now_key c e =
        let w = there_is v c.vertex t c.time e in
        (λ i. not (is_notified (kind_of plan (w.0 i))) || has notification_cmp (record { shard = shard_of_key workers c.rec.key; vertex = w.0 i; time = w.1 i }) (it ∷ notified)) ∙ ap (λ b. not b || has notification_cmp (for_key c.rec.key) (it ∷ notified)) groups_here

    -- elsewhere it is as it was
    pub came_other : (w : ℕ) (u : Timestamp) → is_there w u v t ≡ false → (cs : List Message) → came_at (filter ready_now cs) w u ≡ came_at (filter ready cs) w u
    came_other w u n cs = came_alike w u ready_now ready same cs
      where
        by : (c : Message) → is_there w u c.vertex c.time ≡ true → (o : Ordering) → notification_cmp (asked_of workers c) it ≡ o → is_eq (notification_cmp (asked_of workers c) it) ≡ false
        by c e Less f = ap is_eq f
        by c e Greater f = ap is_eq f
        by c e Equal f =
            let p = notification_apart (asked_of workers c) it f in
            let no : true ≡ false = sym e ∙ (λ i. is_there w u (p i).vertex (p i).time) ∙ n in cc

        same : (c : Message) → is_there w u c.vertex c.time ≡ true → ready_now c ≡ ready c
        same c e = ap (λ b. not (is_notified (kind_of plan c.vertex)) || (b || has notification_cmp (asked_of workers c) notified)) (by c e (notification_cmp (asked_of workers c) it) refl)

    module _ (cs : List Message) where
      abbrev pub all : List Arrival
      all = came_at cs v t

      abbrev pub mine : List Arrival
      mine = filter (λ b. is_now b.key) all

      now_all : came_at (filter ready_now cs) v t ≡ filter (λ b. is_now b.key || was b.key) all
      now_all = came_keyed v t ready_now (λ k. is_now k || was k) ready_now_key cs

      was_all : came_at (filter ready cs) v t ≡ filter (λ b. was b.key) all
      was_all = came_keyed v t ready was ready_key cs

      first_mine : (k : ℕ) → ((is_now k || was k) && is_now k) ≡ is_now k
      first_mine k = by (is_now k)
        where
          by : (b : Bool) → ((b || was k) && b) ≡ b
          by true = refl
          by false = and_no (was k)

      then_others : (k : ℕ) → ((is_now k || was k) && not (is_now k)) ≡ was k
      then_others k = by (is_now k) refl
        where
          by : (b : Bool) → is_now k ≡ b → ((is_now k || was k) && not (is_now k)) ≡ was k
          by true e = (λ i. (e i || was k) && not (e i)) ∙ sym (now_was k e)
          by false e = (λ i. (e i || was k) && not (e i)) ∙ and_yes (was k)

      -- WHAT IS ANSWERED NOW is what was, and the groups of the shard
      pub answered_split : {Y : Type 0} (cmp : Y → Y → Ordering) (bags : BagLaws cmp) (f : ℕ × List Item → List Y)
          → bag_of cmp (flat_map f (groups (came_at (filter ready_now cs) v t))) ≡ join cmp (bag_of cmp (flat_map f (groups mine))) (bag_of cmp (flat_map f (groups (came_at (filter ready cs) v t))))
      answered_split cmp bags f =
          ap (λ l. bag_of cmp (flat_map f (groups l))) now_all
          ∙ groups_split below cmp bags f is_now (λ k. not (is_now k)) (λ k. refl) (filter (λ b. is_now b.key || was b.key) all)
          ∙ (λ i. join cmp (bag_of cmp (flat_map f (groups (first i)))) (bag_of cmp (flat_map f (groups (others i)))))
        where
          first : filter (λ b. is_now b.key) (filter (λ b. is_now b.key || was b.key) all) ≡ mine
          first = filter_filter (λ (b : Arrival). is_now b.key) (λ b. is_now b.key || was b.key) all
              ∙ filter_alike (λ (b : Arrival). (is_now b.key || was b.key) && is_now b.key) (λ b. is_now b.key) all (all_everywhere (λ (b : Arrival). ((is_now b.key || was b.key) && is_now b.key) ≡ is_now b.key) (λ b. first_mine b.key) all)

          others : filter (λ b. not (is_now b.key)) (filter (λ b. is_now b.key || was b.key) all) ≡ came_at (filter ready cs) v t
          others = filter_filter (λ (b : Arrival). not (is_now b.key)) (λ b. is_now b.key || was b.key) all
              ∙ filter_alike (λ (b : Arrival). (is_now b.key || was b.key) && not (is_now b.key)) (λ b. was b.key) all (all_everywhere (λ (b : Arrival). ((is_now b.key || was b.key) && not (is_now b.key)) ≡ was b.key) (λ b. then_others b.key) all)
              ∙ sym was_all

      -- the items of the notification
      pub waiting_groups : groups (map arrival (filter (λ c. is_eq (notification_cmp it (asked_of workers c))) (bag_of message_cmp (filter (λ c. not (ready c)) cs)))) ≡ groups mine
      waiting_groups =
          let is_for : Message → Bool = λ c. is_eq (notification_cmp it (asked_of workers c)) in
          let no : Message → Bool = λ c. not (ready c) in
          ap (λ l. groups (map arrival l)) (filter-bag_of message_cmp below.messages is_for (filter no cs)) ∙ groups_of_came below (filter is_for (filter no cs))
          ∙ ap (λ l. groups (map arrival l)) (filter_filter is_for no cs ∙ filter_alike (λ c. no c && is_for c) (λ c. is_there v t c.vertex c.time && is_now c.rec.key) cs (all_everywhere (λ c. (no c && is_for c) ≡ (is_there v t c.vertex c.time && is_now c.rec.key)) (λ c. each c (is_there v t c.vertex c.time) refl) cs)
          ∙ sym (filter_filter (λ c. is_now c.rec.key) (λ c. is_there v t c.vertex c.time) cs)) ∙ ap groups (sym (filter_map (λ (b : Arrival). is_now b.key) arrival (filter (λ c. is_there v t c.vertex c.time) cs)))
        where
          elsewhere : (c : Message) → is_there v t c.vertex c.time ≡ false → (o : Ordering) → notification_cmp it (asked_of workers c) ≡ o → is_eq (notification_cmp it (asked_of workers c)) ≡ false
          elsewhere c e Less f = ap is_eq f
          elsewhere c e Greater f = ap is_eq f
          elsewhere c e Equal f = let p = notification_apart it (asked_of workers c) f in let no : true ≡ false = sym (there_itself v t) ∙ (λ i. is_there v t (p i).vertex (p i).time) ∙ e in cc

          for_it : (c : Message) → is_there v t c.vertex c.time ≡ true → is_eq (notification_cmp it (asked_of workers c)) ≡ is_now c.rec.key
          for_it c e =
              let w = there_is v c.vertex t c.time e in
              eq_swap it (asked_of workers c) ∙ (λ i. is_eq (notification_cmp (record { shard = shard_of_key workers c.rec.key; vertex = w.0 i; time = w.1 i }) it))

          here : (c : Message) → is_there v t c.vertex c.time ≡ true → (b : Bool) → is_now c.rec.key ≡ b → (not (ready c) && is_eq (notification_cmp it (asked_of workers c))) ≡ is_now c.rec.key
          here c e true f = (λ i. not ((ready_key c e ∙ now_was c.rec.key f) i) && (for_it c e ∙ f) i) ∙ sym f
          here c e false f = (λ i. not (ready c) && (for_it c e ∙ f) i) ∙ and_no (not (ready c)) ∙ sym f

          each : (c : Message) → (b : Bool) → is_there v t c.vertex c.time ≡ b → (not (ready c) && is_eq (notification_cmp it (asked_of workers c))) ≡ (is_there v t c.vertex c.time && is_now c.rec.key)
          each c true e = here c e (is_now c.rec.key) refl ∙ sym (ap (λ b. b && is_now c.rec.key) e)
          each c false e = (λ i. not (ready c) && elsewhere c e (notification_cmp it (asked_of workers c)) refl i) ∙ and_no (not (ready c)) ∙ sym (ap (λ b. b && is_now c.rec.key) e)
