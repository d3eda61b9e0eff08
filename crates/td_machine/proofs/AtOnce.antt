-- A task's records, one after another, are answered as they are all at once.
use Rattle.std.proofs.Common.{◌≡◌, ℕ, List, [], ◌∷◌, ◌++◌, map, filter, flat_map, refl, ap, sym, ◌∙◌, Bool, true, false, ◌||◌, ◌==◌}
use Rattle.std.proofs.lemmas.List.{map-append}
use Rattle.std.proofs.lemmas.Grind.{flat_map-append}
use Rattle.std.specs.declared.cmp.Ordering.{Ordering}
use Rattle.std.specs.declared.cmp.Ordering.TheVariants.{Less, Equal, Greater}
use Rattle.std.specs.Ordering.{is_eq}
use Rattle.td_stamp.specs.declared.values.Rec.{Rec}
use Rattle.td_stamp.specs.declared.values.Arrival.{Arrival}
use Rattle.td_stamp.specs.Orders.{rec_cmp}
use Rattle.td_stamp.specs.Time.{Timestamp}
use Rattle.td_stamp.specs.Bag.{bag_insert, set_insert, join, has}
use Rattle.td_stamp.specs.BagLaws.{BagLaws}
use Rattle.td_plan.specs.declared.vertex.Kind.{Kind}
use Rattle.td_plan.specs.declared.vertex.Kind.TheVariants.{Input, Map, Distinct, Group, Fold, Enter, Feedback, Leave, Output}
use Rattle.td_plan.specs.Lines.{Line}
use Rattle.td_calls.specs.Answers.{Answers}
use Rattle.td_calls.specs.Callbacks.{Added, only_sent}
use Rattle.td_machine.specs.declared.records.Message.{Message}
use Rattle.td_machine.specs.declared.records.Stamped.{Stamped}
use Rattle.td_machine.specs.declared.records.Notification.{Notification}
use Rattle.td_machine.specs.State.{HallState, message_cmp, stamped_cmp, notification_cmp, shard_of_key, asked_of, local_at}
use Rattle.td_machine.specs.Steps.{posts, posted, stamped, coming, comes_out, with_asked, waiting, called, delivered, all_delivered}
use Rattle.td_machine.specs.AtOnce.{FreshByMembers, FreshOfShard, stamped_at, fresh, added_at_once, with_all, at_once, DeliveredAtOnce}
use Rattle.td_machine.proofs.Bags.{join-append, join-swap, has-bag_insert}
use Rattle.td_machine.proofs.Lists.{all_weaken, filter_yes, filter_no}
use Rattle.td_machine.proofs.Orders.{stamped_apart}
use Rattle.td_machine.proofs.Plain.{eqb-same}
use Rattle.td_machine.proofs.Told.{removed, seen_there}
use Rattle.td_machine.specs.Below.{Below}

-- JOINS in two parts
module _ {X : Type 0} {cmp : X → X → Ordering} (bags : BagLaws cmp) where
  parts_joined : (xs ys zs : List X) → join cmp ys (join cmp xs zs) ≡ join cmp (xs ++ ys) zs
  parts_joined xs ys zs = join-swap cmp bags ys xs zs ∙ sym (join-append cmp bags xs ys zs)

  pub maps_joined : {A : Type 0} (f : A → X) (xs ys : List A) (zs : List X) → join cmp (map f ys) (join cmp (map f xs) zs) ≡ join cmp (map f (xs ++ ys)) zs
  maps_joined f xs ys zs = parts_joined (map f xs) (map f ys) zs ∙ ap (λ l. join cmp l zs) (sym (map-append f xs ys))

-- two parts of what is added
abbrev both : Added → Added → Added
both a b = record { seen = a.seen ++ b.seen; buffered = a.buffered ++ b.buffered; sent = a.sent ++ b.sent }

nothing_added : (answers : Answers) (seen : List Stamped) (kind : Kind) (v port : ℕ) (t : Timestamp) → added_at_once answers seen kind v port t [] ≡ only_sent []
nothing_added answers seen Input v port t = refl
nothing_added answers seen (Map code) v port t = refl
nothing_added answers seen Distinct v port t = refl
nothing_added answers seen (Group code) v port t = refl
nothing_added answers seen (Fold code) v port t = refl
nothing_added answers seen Enter v port t = refl
nothing_added answers seen Feedback v port t = refl
nothing_added answers seen Leave v port t = refl
nothing_added answers seen Output v port t = refl

module _ (below : Below) where
  asked_swap : (a : Notification) (xs zs : List Notification) → set_insert notification_cmp a (with_asked xs zs) ≡ with_asked xs (set_insert notification_cmp a zs)
  asked_swap a [] zs = refl
  asked_swap a (x ∷ xs) zs = below.notifications.swaps a x (with_asked xs zs) ∙ ap (set_insert notification_cmp x) (asked_swap a xs zs)

  asked_joined : (xs ys zs : List Notification) → with_asked ys (with_asked xs zs) ≡ with_asked (xs ++ ys) zs
  asked_joined [] ys zs = refl
  asked_joined (x ∷ xs) ys zs = sym (asked_swap x ys (with_asked xs zs)) ∙ ap (set_insert notification_cmp x) (asked_joined xs ys zs)

  posts_joined : (plan : List Line) (v : ℕ) (t : Timestamp) (xs ys : List Rec) (zs : List Message)
      → join message_cmp (posts plan (stamped v t ys)) (join message_cmp (posts plan (stamped v t xs)) zs) ≡ join message_cmp (posts plan (stamped v t (xs ++ ys))) zs
  posts_joined plan v t xs ys zs =
      parts_joined below.messages (posts plan (stamped v t xs)) (posts plan (stamped v t ys)) zs
      ∙ ap (λ l. join message_cmp l zs) (sym (flat_map-append (posted plan) (stamped v t xs) (stamped v t ys)) ∙ ap (posts plan) (sym (map-append (stamped_at v t) xs ys)))

  module _ (answers : Answers) (v port : ℕ) (t : Timestamp) where
    abbrev comes : Rec → Message
    comes r = record { vertex = v; port = port; time = t; rec = r }

    -- THE FIRST RECORD adds its part, and the others the rest
    abbrev IsSplit : HallState → Kind → Rec → List Rec → Type 0
    IsSplit S kind r recs =
        added_at_once answers S.seen kind v port t (r ∷ recs)
        ≡ both (called answers S kind (comes r)) (added_at_once answers (delivered answers S kind (comes r)).seen kind v port t recs)

    distinct_split : (S : HallState) (r : Rec) (recs : List Rec) → IsSplit S Distinct r recs
    distinct_split S r recs = by (has stamped_cmp (stamped_at v t r) S.seen) refl
      where
        by : (b : Bool) → has stamped_cmp (stamped_at v t r) S.seen ≡ b → IsSplit S Distinct r recs
        by true e = let h : has rec_cmp r (local_at S v t).seen ≡ true = seen_there below v t r S.seen ∙ e in rw (e, h, fresh) refl
        by false e = let h : has rec_cmp r (local_at S v t).seen ≡ false = seen_there below v t r S.seen ∙ e in rw (e, h, fresh) refl

    split : (S : HallState) (kind : Kind) (r : Rec) (recs : List Rec) → IsSplit S kind r recs
    split S Input r recs = refl
    split S (Map code) r recs = refl
    split S Distinct r recs = distinct_split S r recs
    split S (Group code) r recs = refl
    split S (Fold code) r recs = refl
    split S Enter r recs = refl
    split S Feedback r recs = refl
    split S Leave r recs = refl
    split S Output r recs = refl

    -- what the others add, to the state after the first
    then_others : (S : HallState) (kind : Kind) (r : Rec) (recs : List Rec) (others : List Message) (more : Added)
        → (let first : Added = called answers S kind (comes r) in
        with_all (delivered answers S kind (comes r)) kind v port t recs (join message_cmp (posts S.plan (stamped v t first.sent)) others) more
        ≡ with_all S kind v port t (r ∷ recs) others (both first more))
    then_others S kind r recs others more =
        let first : Added = called answers S kind (comes r) in
        let ask : Arrival → Notification = λ a. asked_of S.workers (waiting v t a) in
        λ i. record S {
          messages = posts_joined S.plan v t first.sent more.sent others i;
          buffered = maps_joined below.messages (waiting v t) first.buffered more.buffered S.buffered i;
          seen = maps_joined below.stamped (stamped_at v t) first.seen more.seen S.seen i;
          asked = (asked_joined (map ask first.buffered) (map ask more.buffered) S.asked ∙ ap (λ l. with_asked l S.asked) (sym (map-append ask first.buffered more.buffered))) i;
          outputs = parts_joined below.outputs_at (comes_out kind (comes r)) (flat_map (comes_out kind) (coming v port t recs)) S.outputs i;
        }

    pub all_at_once : (S : HallState) (kind : Kind) (recs : List Rec) (others : List Message) → S.messages ≡ join message_cmp (coming v port t recs) others
        → all_delivered answers kind S (coming v port t recs) ≡ at_once answers S kind v port t recs others
    all_at_once S kind [] others here =
        (λ i. let X : HallState = record S { messages = here i } in X) ∙ ap (with_all S kind v port t [] others) (sym (nothing_added answers S.seen kind v port t))
    all_at_once S kind (r ∷ recs) others here =
        let first : Added = called answers S kind (comes r) in
        let now : HallState = delivered answers S kind (comes r) in
        let sent : List Message = posts S.plan (stamped v t first.sent) in
        let here_now : now.messages ≡ join message_cmp (coming v port t recs) (join message_cmp sent others) =
        ap (join message_cmp sent) (removed below (comes r) S.messages (join message_cmp (coming v port t recs) others) here)
        ∙ join-swap message_cmp below.messages sent (coming v port t recs) others in
        all_at_once now kind recs (join message_cmp sent others) here_now
        ∙ then_others S kind r recs others (added_at_once answers now.seen kind v port t recs)
        ∙ ap (with_all S kind v port t (r ∷ recs) others) (sym (split S kind r recs))

  pub delivered_at_once : (answers : Answers) → DeliveredAtOnce answers
  delivered_at_once answers S kind v port t recs others here = all_at_once answers v port t S kind recs others here

  -- WHAT IS NEW
  pub fresh_by_members : FreshByMembers
  fresh_by_members seen other v t [] h = refl
  fresh_by_members seen other v t (r ∷ recs) h =
      by (has stamped_cmp (stamped_at v t r) seen) refl (fresh_by_members seen other v t recs h.1)
      (fresh_by_members (bag_insert stamped_cmp (stamped_at v t r) seen) (bag_insert stamped_cmp (stamped_at v t r) other) v t recs
      (all_weaken (λ q. has stamped_cmp (stamped_at v t q) seen ≡ has stamped_cmp (stamped_at v t q) other)
      (λ q. has stamped_cmp (stamped_at v t q) (bag_insert stamped_cmp (stamped_at v t r) seen) ≡ has stamped_cmp (stamped_at v t q) (bag_insert stamped_cmp (stamped_at v t r) other)) more recs h.1))
    where
      more : (q : Rec) → has stamped_cmp (stamped_at v t q) seen ≡ has stamped_cmp (stamped_at v t q) other
          → has stamped_cmp (stamped_at v t q) (bag_insert stamped_cmp (stamped_at v t r) seen) ≡ has stamped_cmp (stamped_at v t q) (bag_insert stamped_cmp (stamped_at v t r) other)
      more q e =
          has-bag_insert stamped_cmp below.stamped (stamped_at v t q) (stamped_at v t r) seen ∙ ap (λ b. is_eq (stamped_cmp (stamped_at v t q) (stamped_at v t r)) || b) e
          ∙ sym (has-bag_insert stamped_cmp below.stamped (stamped_at v t q) (stamped_at v t r) other)

      by : (b : Bool) → has stamped_cmp (stamped_at v t r) seen ≡ b → fresh seen v t recs ≡ fresh other v t recs
          → fresh (bag_insert stamped_cmp (stamped_at v t r) seen) v t recs ≡ fresh (bag_insert stamped_cmp (stamped_at v t r) other) v t recs
          → fresh seen v t (r ∷ recs) ≡ fresh other v t (r ∷ recs)
      by true e same rest = let f : has stamped_cmp (stamped_at v t r) other ≡ true = sym h.0 ∙ e in rw (e, f, fresh) same
      by false e same rest = let f : has stamped_cmp (stamped_at v t r) other ≡ false = sym h.0 ∙ e in rw (e, f, fresh) (ap (λ l. r ∷ l) rest)

  -- one that passes a test is found among those that pass it
  found_passing : (p : Stamped → Bool) (x : Stamped) → p x ≡ true → (xs : List Stamped) → has stamped_cmp x (filter p xs) ≡ has stamped_cmp x xs
  found_passing p x passes [] = refl
  found_passing p x passes (y ∷ ys) = by (p y) refl (found_passing p x passes ys)
    where
      other : p y ≡ false → (o : Ordering) → stamped_cmp x y ≡ o → is_eq (stamped_cmp x y) ≡ false
      other e Less f = ap is_eq f
      other e Greater f = ap is_eq f
      other e Equal f = let no : true ≡ false = sym passes ∙ ap p (stamped_apart x y f) ∙ e in cc

      by : (b : Bool) → p y ≡ b → has stamped_cmp x (filter p ys) ≡ has stamped_cmp x ys → has stamped_cmp x (filter p (y ∷ ys)) ≡ has stamped_cmp x (y ∷ ys)
      by true e rest = ap (has stamped_cmp x) (filter_yes p y ys e) ∙ ap (λ b. is_eq (stamped_cmp x y) || b) rest
      by false e rest = ap (has stamped_cmp x) (filter_no p y ys e) ∙ rest ∙ (λ i. sym (other e (stamped_cmp x y) refl) i || has stamped_cmp x ys)

  pub fresh_of_shard : FreshOfShard
  fresh_of_shard workers s seen v t recs h =
      let mine : Stamped → Bool = λ x. shard_of_key workers x.rec.key == s in
      fresh_by_members (filter mine seen) seen v t recs
      (all_weaken (λ r. shard_of_key workers r.key ≡ s) (λ r. has stamped_cmp (stamped_at v t r) (filter mine seen) ≡ has stamped_cmp (stamped_at v t r) seen)
      (λ r e. found_passing mine (stamped_at v t r) (ap (λ n. n == s) e ∙ eqb-same below s) seen) recs h)
