-- A notification, by what waits for it in its shard.
use Rattle.std.proofs.Common.{◌≡◌, ℕ, List, [], ◌∷◌, map, filter, cond, refl, ap, sym, ◌∙◌, Bool, true, false, not, ◌&&◌, ◌==◌}
use Rattle.std.proofs.lemmas.Bool.{eqb-true}
use Rattle.std.proofs.lemmas.Cmp.{tied_itself}
use Rattle.std.specs.List.{AllByRecursion}
use Rattle.std.specs.declared.cmp.Ordering.{Ordering}
use Rattle.std.specs.declared.cmp.Ordering.TheVariants.{Less, Equal, Greater}
use Rattle.std.specs.Ordering.{is_eq}
use Rattle.std.specs.Cmp.{IsTotalOrder}
use Rattle.std.specs.FinMap.{IsAntisymmetric}
use Rattle.td_stamp.specs.declared.values.Arrival.{Arrival}
use Rattle.td_stamp.specs.Orders.{arrival_cmp}
use Rattle.td_stamp.specs.Bag.{join, bag_of, set_insert, set_of, IsBag}
use Rattle.td_stamp.specs.Groups.{groups}
use Rattle.td_stamp.specs.Time.{Timestamp}
use Rattle.td_machine.specs.declared.records.Message.{Message}
use Rattle.td_machine.specs.declared.records.Notification.{Notification}
use Rattle.td_machine.specs.State.{HallState, message_cmp, notification_cmp, shard_of_key, is_there, arrival, asked_of}
use Rattle.td_machine.specs.Steps.{asked_at, is_for, with_state_of, waiting}
use Rattle.td_machine.specs.Waits.{WaitsByPlace, WhatWaits, AskedPassing}
use Rattle.td_machine.proofs.Bags.{filter-join, mapped_bag, set_insert_past, set_insert_less, set_insert_equal}
use Rattle.td_machine.proofs.InOrder.{Strict, strict_set_insert}
use Rattle.td_machine.proofs.Lists.{filter_yes, filter_no, filter_all, filter_none, all_weaken, all_map, all_filter}
use Rattle.td_machine.proofs.Orders.{notification_total, notification_apart, tied, there_is, there_itself, and_true}
use Rattle.td_machine.proofs.Plain.{eqb-same}
use Rattle.td_machine.specs.Below.{Below}

-- FILTERS OF SETS
module _ {X : Type 0} (cmp : X → X → Ordering) (total : IsTotalOrder cmp) (apart : IsAntisymmetric cmp) (p : X → Bool) where
  put_first : (x : X) (zs : List X) → AllByRecursion (λ z. cmp x z ≡ Less) zs → set_insert cmp x zs ≡ x ∷ zs
  put_first x [] h = refl
  put_first x (z ∷ zs) h = set_insert_less cmp x z zs h.0

  passing_put : (x : X) (ys : List X) → Strict cmp ys → (b : Bool) → p x ≡ b → filter p (set_insert cmp x ys) ≡ cond b (set_insert cmp x (filter p ys)) (filter p ys)
  passing_put x [] h true e = filter_yes p x [] e
  passing_put x [] h false e = filter_no p x [] e
  passing_put x (y ∷ ys) h b e = by (cmp x y) refl b e (passing_put x ys h.1)
    where
      first : cmp x y ≡ Less → AllByRecursion (λ z. cmp x z ≡ Less) (y ∷ ys)
      first l = (l, all_weaken (λ z. cmp y z ≡ Less) (λ z. cmp x z ≡ Less) (λ z m. total.trans x y z l m) ys h.0)

      past : (c : Bool) → p y ≡ c → (b : Bool) → cmp x y ≡ Greater → filter p (set_insert cmp x ys) ≡ cond b (set_insert cmp x (filter p ys)) (filter p ys)
          → filter p (set_insert cmp x (y ∷ ys)) ≡ cond b (set_insert cmp x (filter p (y ∷ ys))) (filter p (y ∷ ys))
      past true f true g rest =
          ap (filter p) (set_insert_past cmp x y ys g) ∙ filter_yes p y (set_insert cmp x ys) f ∙ ap (λ l. y ∷ l) rest ∙ sym (set_insert_past cmp x y (filter p ys) g)
          ∙ ap (set_insert cmp x) (sym (filter_yes p y ys f))
      past true f false g rest = ap (filter p) (set_insert_past cmp x y ys g) ∙ filter_yes p y (set_insert cmp x ys) f ∙ ap (λ l. y ∷ l) rest ∙ sym (filter_yes p y ys f)
      past false f b g rest =
          ap (filter p) (set_insert_past cmp x y ys g) ∙ filter_no p y (set_insert cmp x ys) f ∙ rest ∙ (λ i. cond b (set_insert cmp x (sym (filter_no p y ys f) i)) (sym (filter_no p y ys f) i))

      by : (o : Ordering) → cmp x y ≡ o → (b : Bool) → p x ≡ b → ((b : Bool) → p x ≡ b → filter p (set_insert cmp x ys) ≡ cond b (set_insert cmp x (filter p ys)) (filter p ys))
          → filter p (set_insert cmp x (y ∷ ys)) ≡ cond b (set_insert cmp x (filter p (y ∷ ys))) (filter p (y ∷ ys))
      by Less g true e rest =
          ap (filter p) (set_insert_less cmp x y ys g) ∙ filter_yes p x (y ∷ ys) e
          ∙ sym (put_first x (filter p (y ∷ ys))
          (all_weaken (λ z. (cmp x z ≡ Less) × (p z ≡ true)) (λ z. cmp x z ≡ Less) (λ z k. k.0) (filter p (y ∷ ys)) (all_filter (λ z. cmp x z ≡ Less) p (y ∷ ys) (first g))))
      by Less g false e rest = ap (filter p) (set_insert_less cmp x y ys g) ∙ filter_no p x (y ∷ ys) e
      by Equal g true e rest =
          let f : p y ≡ true = ap p (sym (apart x y g)) ∙ e in
          ap (filter p) (set_insert_equal cmp x y ys g) ∙ filter_yes p y ys f ∙ sym (set_insert_equal cmp x y (filter p ys) g) ∙ ap (set_insert cmp x) (sym (filter_yes p y ys f))
      by Equal g false e rest = ap (filter p) (set_insert_equal cmp x y ys g)
      by Greater g b e rest = past (p y) refl b g (rest b e)

  strict_set : (xs : List X) → Strict cmp (set_of cmp xs)
  strict_set [] = tt
  strict_set (x ∷ xs) = strict_set_insert cmp total x (set_of cmp xs) (strict_set xs)

  passing_set : (xs : List X) → filter p (set_of cmp xs) ≡ set_of cmp (filter p xs)
  passing_set [] = refl
  passing_set (x ∷ xs) = by (p x) refl (passing_set xs)
    where
      by : (b : Bool) → p x ≡ b → filter p (set_of cmp xs) ≡ set_of cmp (filter p xs) → filter p (set_of cmp (x ∷ xs)) ≡ set_of cmp (filter p (x ∷ xs))
      by true e rest = passing_put x (set_of cmp xs) (strict_set xs) true e ∙ ap (set_insert cmp x) rest ∙ ap (set_of cmp) (sym (filter_yes p x xs e))
      by false e rest = passing_put x (set_of cmp xs) (strict_set xs) false e ∙ rest ∙ ap (set_of cmp) (sym (filter_no p x xs e))

pub asked_passing : AskedPassing
asked_passing p xs = passing_set notification_cmp notification_total notification_apart p xs

module _ (below : Below) where
  -- WHAT WAITS
  pub waits_by_place : WaitsByPlace
  waits_by_place S s v t c = by (is_for S (asked_at S s v t) c) refl (shard_of_key S.workers c.rec.key == s && is_there v t c.vertex c.time) refl
    where
      it : Notification
      it = record { shard = s; vertex = v; time = t }

      same : it ≡ asked_of S.workers c → (shard_of_key S.workers c.rec.key == s && is_there v t c.vertex c.time) ≡ true
      same e =
          let a : s ≡ shard_of_key S.workers c.rec.key = ap (λ (n : Notification). n.shard) e in
          let b : v ≡ c.vertex = ap (λ (n : Notification). n.vertex) e in
          let d : t ≡ c.time = ap (λ (n : Notification). n.time) e in
          (λ i. (sym a i == s) && is_there v t (sym b i) (sym d i)) ∙ (λ i. eqb-same below s i && there_itself v t i)

      back : (shard_of_key S.workers c.rec.key == s && is_there v t c.vertex c.time) ≡ true → is_for S (asked_at S s v t) c ≡ true
      back e =
          let both = and_true (shard_of_key S.workers c.rec.key == s) (is_there v t c.vertex c.time) e in
          let there = there_is v c.vertex t c.time both.1 in
          let n : asked_of S.workers c ≡ it = λ i. record { shard = eqb-true (shard_of_key S.workers c.rec.key) s both.0 i; vertex = there.0 i; time = there.1 i } in
          ap (λ x. is_eq (notification_cmp (asked_at S s v t) x)) n ∙ ap is_eq (tied_itself notification_total it)

      by : (a : Bool) → is_for S (asked_at S s v t) c ≡ a → (b : Bool) → (shard_of_key S.workers c.rec.key == s && is_there v t c.vertex c.time) ≡ b
          → is_for S (asked_at S s v t) c ≡ (shard_of_key S.workers c.rec.key == s && is_there v t c.vertex c.time)
      by true e b f = e ∙ sym (same (notification_apart (asked_at S s v t) (asked_of S.workers c) (tied (notification_cmp (asked_at S s v t) (asked_of S.workers c)) e)))
      by false e true f = back f ∙ sym f
      by false e false f = e ∙ sym f

  module _ (S : HallState) (s v : ℕ) (t : Timestamp) (items : List Arrival) (others : List Message)
      (here : S.buffered ≡ join message_cmp (map (waiting v t) items) others) (bag : IsBag message_cmp others)
      (of_shard : AllByRecursion (λ a. shard_of_key S.workers a.key ≡ s) items) (not_for : AllByRecursion (λ c. is_for S (asked_at S s v t) c ≡ false) others) where
    abbrev waits : Message → Bool
    waits = is_for S (asked_at S s v t)

    each_waits : AllByRecursion (λ c. waits c ≡ true) (map (waiting v t) items)
    each_waits =
        all_map (λ c. waits c ≡ true) (waiting v t) items
        (all_weaken (λ a. shard_of_key S.workers a.key ≡ s) (λ a. waits (waiting v t a) ≡ true)
        (λ a e. ap (λ n. is_eq (notification_cmp (asked_at S s v t) (record { shard = n; vertex = v; time = t }))) e ∙ ap is_eq (tied_itself notification_total (asked_at S s v t))) items of_shard)

    arrivals_back : (xs : List Arrival) → map arrival (map (waiting v t) xs) ≡ xs
    arrivals_back [] = refl
    arrivals_back (a ∷ xs) = ap (λ l. a ∷ l) (arrivals_back xs)

    those_waiting : filter waits S.buffered ≡ bag_of message_cmp (map (waiting v t) items)
    those_waiting =
        ap (filter waits) here ∙ filter-join message_cmp below.messages waits (map (waiting v t) items) others bag
        ∙ (λ i. join message_cmp (filter_all waits (map (waiting v t) items) each_waits i) (filter_none waits others not_for i))

    their_groups : groups (map arrival (filter waits S.buffered)) ≡ groups items
    their_groups =
        ap (λ l. groups (map arrival l)) those_waiting ∙ sym (below.groups_of_bag (map arrival (bag_of message_cmp (map (waiting v t) items))))
        ∙ ap groups (mapped_bag message_cmp arrival_cmp below.arrivals arrival (map (waiting v t) items) ∙ ap (bag_of arrival_cmp) (arrivals_back items)) ∙ below.groups_of_bag items

    are_left : filter (λ c. not (waits c)) S.buffered ≡ others
    are_left =
        ap (filter (λ c. not (waits c))) here ∙ filter-join message_cmp below.messages (λ c. not (waits c)) (map (waiting v t) items) others bag
        ∙ (λ i. join message_cmp
        (filter_none (λ c. not (waits c)) (map (waiting v t) items) (all_weaken (λ c. waits c ≡ true) (λ c. not (waits c) ≡ false) (λ c e. ap not e) (map (waiting v t) items) each_waits) i)
        (filter_all (λ c. not (waits c)) others (all_weaken (λ c. waits c ≡ false) (λ c. not (waits c) ≡ true) (λ c e. ap not e) others not_for) i))

  pub what_waits : WhatWaits
  what_waits S s v t items others here bag of_shard not_for =
      (ap (map (with_state_of S v t)) (their_groups S s v t items others here bag of_shard not_for), are_left S s v t items others here bag of_shard not_for)
