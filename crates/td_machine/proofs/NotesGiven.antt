-- Where every released epoch has passed, as many notifications were given as there are shards at groups and folds at which
-- records arrive by the batch meaning.
use Rattle.std.proofs.Common.{◌≡◌, ℕ, suc, ◌<◌, ◌≤◌, ◌==◌, Bool, true, false, not, ◌||◌, ◌&&◌, List, [], ◌∷◌, map, flat_map, filter, length, refl, ap, sym, ◌∙◌, subst, arith, sum_by}
use Rattle.std.specs.Prelude.{if◌then◌else◌}
use Rattle.std.specs.List.{AllByRecursion, list_any}
use Rattle.std.specs.Ordering.{is_eq}
use Rattle.std.specs.declared.cmp.Ordering.{Ordering}
use Rattle.std.specs.declared.cmp.Ordering.TheVariants.{Less, Equal, Greater}
use Rattle.std.proofs.lemmas.Cmp.{tied_itself}
use Rattle.std.proofs.lemmas.Bool.{eqb-true}
use Rattle.td_stamp.specs.declared.values.Arrival.{Arrival}
use Rattle.td_stamp.specs.Orders.{arrival_cmp}
use Rattle.td_stamp.specs.Time.{Timestamp}
use Rattle.td_stamp.specs.Bag.{bag_insert, bag_of, has}
use Rattle.td_plan.specs.Lines.{Line}
use Rattle.td_plan.specs.Blocks.{vertices}
use Rattle.td_plan.specs.Tree.{Nodes, size, tree_of, placed_in, IsNumbered}
use Rattle.td_plan.specs.Placed.{IsPlacedTree}
use Rattle.td_calls.specs.Answers.{Answers}
use Rattle.td_calls.specs.Callbacks.{is_notified}
use Rattle.td_batch.specs.Meaning.{EpochInput}
use Rattle.td_batch.specs.Flow.{numbers_from}
use Rattle.td_batch.specs.BagAt.{bag_at}
use Rattle.td_machine.specs.declared.records.Message.{Message}
use Rattle.td_machine.specs.declared.records.Notification.{Notification}
use Rattle.td_machine.specs.State.{HallState, notification_cmp, is_there, arrival, asked_of, shard_of_key}
use Rattle.td_machine.specs.Active.{kind_of, has_passed}
use Rattle.td_machine.proofs.History.{Origin, History, Invariant, IsTime, AreOnce, has_answer, asking, epoch_from, came_at}
use Rattle.td_machine.proofs.PlanFacts.{PlanFacts}
use Rattle.td_machine.proofs.Flows.{AreLaid}
use Rattle.td_machine.specs.Work.{shards_of, epoch_notes, Notes}
use Rattle.td_machine.proofs.Orders.{notification_total, notification_apart, there_is, there_itself}
use Rattle.td_machine.proofs.Lists.{all_map, all_weaken, all_both, all_everywhere, all_filter, filter_yes, filter_no, filter_none, filter_filter}
use Rattle.td_machine.proofs.Asking.{or_yes}
use Rattle.td_machine.proofs.Times.{came_here, came_elsewhere}
use Rattle.td_machine.proofs.Delivered.{all_has}
use Rattle.td_machine.proofs.Plain.{passed_all, eqb-same}
use Rattle.td_machine.proofs.Passed.{waiting_later}
use Rattle.td_machine.proofs.Sums.{sum_map, sum_flat, sum_alike, count, count_sum, one_if, by_keys, one_of, not_true}
use Rattle.td_machine.proofs.Places.{Place, places, comes_at, is_place, IsKind, places_kind}
use Rattle.td_machine.proofs.ByPlaces.{notes_at, notes_by_places}
use Rattle.td_machine.proofs.RecordsGiven.{one_key, came_alike, over_epochs, arrived_small}
use Rattle.td_machine.specs.Below.{Below}

module _ (below : Below) where
  -- what a bag has
  any_insert : (q : Arrival → Bool) (x : Arrival) (ys : List Arrival) → list_any q (bag_insert arrival_cmp x ys) ≡ (q x || list_any q ys)
  any_insert q x [] = refl
  any_insert q x (y ∷ ys) = by (arrival_cmp x y) refl (any_insert q x ys)
    where
      swap : (a b c : Bool) → (a || (b || c)) ≡ (b || (a || c))
      swap true true c = refl
      swap true false c = refl
      swap false b c = refl

      by : (o : Ordering) → arrival_cmp x y ≡ o → list_any q (bag_insert arrival_cmp x ys) ≡ (q x || list_any q ys) → list_any q (bag_insert arrival_cmp x (y ∷ ys)) ≡ (q x || list_any q (y ∷ ys))
      by Less e rest = rw (e, bag_insert) refl
      by Equal e rest = rw (e, bag_insert) refl
      by Greater e rest = (let gone : bag_insert arrival_cmp x (y ∷ ys) ≡ y ∷ bag_insert arrival_cmp x ys = rw (e, bag_insert) refl in ap (list_any q) gone) ∙ ap (λ b. q y || b) rest ∙ swap (q y) (q x) (list_any q ys)

  any_bag : (q : Arrival → Bool) (xs : List Arrival) → list_any q (bag_of arrival_cmp xs) ≡ list_any q xs
  any_bag q [] = refl
  any_bag q (x ∷ xs) = any_insert q x (bag_of arrival_cmp xs) ∙ ap (λ b. q x || b) (any_bag q xs)

  -- of a list in which each stands once, one passes at most
  once_count : (q : Notification → Bool) (it : Notification) → q it ≡ true → ((a : Notification) → q a ≡ true → a ≡ it) → (xs : List Notification) → AreOnce xs → count q xs ≡ one_if (has notification_cmp it xs)
  once_count q it is only [] h = refl
  once_count q it is only (x ∷ xs) h = by (notification_cmp it x) refl (once_count q it is only xs h.1)
    where
      other : is_eq (notification_cmp it x) ≡ false → count q xs ≡ one_if (has notification_cmp it xs) → count q (x ∷ xs) ≡ one_if (has notification_cmp it (x ∷ xs))
      other e rest =
          let off : q x ≡ false = not_true (q x) (λ f. let same = only x f in let no : true ≡ false = sym (ap is_eq (tied_itself notification_total it)) ∙ (λ i. is_eq (notification_cmp it (sym same i))) ∙ e in cc) in
          ap length (filter_no q x xs off) ∙ rest ∙ ap (λ b. one_if (b || has notification_cmp it xs)) (sym e)

      by : (o : Ordering) → notification_cmp it x ≡ o → count q xs ≡ one_if (has notification_cmp it xs) → count q (x ∷ xs) ≡ one_if (has notification_cmp it (x ∷ xs))
      by Less e rest = other (ap is_eq e) rest
      by Greater e rest = other (ap is_eq e) rest
      by Equal e rest =
          let same : it ≡ x = notification_apart it x e in
          let on : q x ≡ true = ap q (sym same) ∙ is in
          let none : has notification_cmp it xs ≡ false = ap (λ a. has notification_cmp a xs) same ∙ h.0 in
          ap length (filter_yes q x xs on) ∙ ap suc (rest ∙ ap one_if none) ∙ ap (λ o. one_if (is_eq o || has notification_cmp it xs)) (sym e)

  -- A RECORD THAT CAME stands among what came to its vertex at its time
  module _ (workers : ℕ) where
    abbrev in_shard : ℕ → Arrival → Bool
    in_shard s a = shard_of_key workers a.key == s

    abbrev CameThere : List Message → Notification → Type 0
    CameThere cs a = list_any (in_shard a.shard) (came_at cs a.vertex a.time) ≡ true

    came_there : (cs : List Message) → AllByRecursion (λ c. CameThere cs (asked_of workers c)) cs
    came_there [] = tt
    came_there (c ∷ cs) = (here, all_weaken (λ d. CameThere cs (asked_of workers d)) (λ d. CameThere (c ∷ cs) (asked_of workers d)) (λ d h. later d h (is_there d.vertex d.time c.vertex c.time) refl) cs (came_there cs))
      where
        here : CameThere (c ∷ cs) (asked_of workers c)
        here =
            let s : ℕ = shard_of_key workers c.rec.key in
            ap (list_any (in_shard s)) (came_here c.vertex c.time c cs (there_itself c.vertex c.time)) ∙ ap (λ b. b || list_any (in_shard s) (came_at cs c.vertex c.time)) (eqb-same below s)

        later : (d : Message) → CameThere cs (asked_of workers d) → (b : Bool) → is_there d.vertex d.time c.vertex c.time ≡ b → CameThere (c ∷ cs) (asked_of workers d)
        later d h true e =
            let s : ℕ = shard_of_key workers d.rec.key in
            ap (list_any (in_shard s)) (came_here d.vertex d.time c cs e) ∙ ap (λ b. in_shard s (arrival c) || b) h ∙ or_yes (in_shard s (arrival c))
        later d h false e = ap (list_any (in_shard (shard_of_key workers d.rec.key))) (came_elsewhere d.vertex d.time c cs e) ∙ h

    -- what is known of each notification that was asked, by the records that ask
    pub all_known : (plan : List Line) (Q : Notification → Type 0) (cs : List Message) → AllByRecursion (λ c. is_notified (kind_of plan c.vertex) ≡ true → Q (asked_of workers c)) cs → (a : Notification) → has notification_cmp a (asking plan workers cs) ≡ true → Q a
    all_known plan Q cs h a asked =
        let groups_here : Message → Bool = λ c. is_notified (kind_of plan c.vertex) in
        all_has below Q a (asking plan workers cs) (all_map Q (asked_of workers) (filter groups_here cs) (all_weaken (λ c. (groups_here c ≡ true → Q (asked_of workers c)) × (groups_here c ≡ true)) (λ c. Q (asked_of workers c)) (λ c k. k.0 k.1) (filter groups_here cs)
        (all_filter (λ c. groups_here c ≡ true → Q (asked_of workers c)) groups_here cs h))) asked

    pub asked_came : (plan : List Line) (cs : List Message) (a : Notification) → has notification_cmp a (asking plan workers cs) ≡ true → CameThere cs a
    asked_came plan cs a asked = all_known plan (CameThere cs) cs (all_weaken (λ c. CameThere cs (asked_of workers c)) (λ c. is_notified (kind_of plan c.vertex) ≡ true → CameThere cs (asked_of workers c)) (λ c h g. h) cs (came_there cs)) a asked

  -- where nothing waits of a time, a shard was notified at which a record came
  module _ (plan : List Line) (workers s v : ℕ) (t : Timestamp) (groups_it : is_notified (kind_of plan v) ≡ true) (notified : List Notification) where
    abbrev it : Notification
    it = record { shard = s; vertex = v; time = t }

    -- it has its answer, or is later
    abbrev NotWaiting : Message → Type 0
    NotWaiting c = not (has_answer plan workers notified c) ≡ true → t.epoch < c.time.epoch

    answered_now : (c : Message) → NotWaiting c → t.epoch ≡ c.time.epoch → (b d : Bool) → is_notified (kind_of plan c.vertex) ≡ b → has notification_cmp (asked_of workers c) notified ≡ d → b ≡ true → has notification_cmp (asked_of workers c) notified ≡ true
    answered_now c h same b true e f g = f
    answered_now c h same false false e f g = absurd (cc)
    answered_now c h same true false e f g =
        let none : not (has_answer plan workers notified c) ≡ true = λ i. not (not (e i) || f i) in
        let late = h none in
        absurd (omega (arith, late, same))

    pub any_given : (cs : List Message) → AllByRecursion NotWaiting cs → list_any (λ (a : Arrival). shard_of_key workers a.key == s) (came_at cs v t) ≡ true → has notification_cmp it notified ≡ true
    any_given [] h e = absurd (cc)
    any_given (c ∷ cs) h e = by (is_there v t c.vertex c.time) refl (any_given cs h.1)
      where
        Any : List Message → Type 0
        Any l = list_any (λ (a : Arrival). shard_of_key workers a.key == s) (came_at l v t) ≡ true

        here : c.vertex ≡ v → c.time ≡ t → (b : Bool) → (shard_of_key workers c.rec.key == s) ≡ b → (b || list_any (λ (a : Arrival). shard_of_key workers a.key == s) (came_at cs v t)) ≡ true
            → (Any cs → has notification_cmp it notified ≡ true) → has notification_cmp it notified ≡ true
        here p q false f k rest = rest k
        here p q true f k rest =
            let same : asked_of workers c ≡ it = λ i. record { shard = eqb-true (shard_of_key workers c.rec.key) s f i; vertex = p i; time = q i } in
            ap (λ a. has notification_cmp a notified) (sym same) ∙ answered_now c h.0 (sym (ap (λ (u : Timestamp). u.epoch) q)) (is_notified (kind_of plan c.vertex)) (has notification_cmp (asked_of workers c) notified) refl refl (ap (λ n. is_notified (kind_of plan n)) p ∙ groups_it)

        by : (b : Bool) → is_there v t c.vertex c.time ≡ b → (Any cs → has notification_cmp it notified ≡ true) → has notification_cmp it notified ≡ true
        by true f rest =
            let p = there_is v c.vertex t c.time f in
            here p.0 p.1 (shard_of_key workers c.rec.key == s) refl (sym (ap (list_any (λ (a : Arrival). shard_of_key workers a.key == s)) (came_here v t c cs f)) ∙ e) rest
        by false f rest = rest (sym (ap (list_any (λ (a : Arrival). shard_of_key workers a.key == s)) (came_elsewhere v t c cs f)) ∙ e)

  module _ (answers : Answers) (origin : Origin) (S : HallState) (H : History) (facts : PlanFacts S.plan) (numbered : IsNumbered 0 (tree_of S.plan)) (laid : AreLaid S.plan [] (tree_of S.plan)) (placed : IsPlacedTree (tree_of S.plan))
      (all : placed_in [] 0 (tree_of S.plan) ≡ vertices S.plan) (inv : Invariant answers origin S H) (passed : (e : ℕ) → origin.first ≤ e → e < S.next → has_passed S e ≡ true) where
    abbrev nodes : Nodes
    nodes = tree_of S.plan

    abbrev spots : List Place
    spots = places [] nodes

    abbrev released : List ℕ
    released = numbers_from origin.first (length origin.batches)

    -- NOTIFICATIONS by vertex and time
    abbrev by_key : ℕ × Place → Notification → Bool
    by_key k a = is_place S.plan k.0 a.vertex a.time k.1

    abbrev Known : Notification → Type 0
    Known a = (a.vertex < size nodes) × (a.shard < S.workers) × (is_notified (kind_of S.plan a.vertex) ≡ true)

    known : AllByRecursion Known H.notified
    known = all_weaken (λ a. has notification_cmp a (asking S.plan S.workers H.arrived) ≡ true) Known
        (λ a h. all_known S.workers S.plan Known H.arrived (all_weaken (λ (c : Message). c.vertex < size nodes) (λ c. is_notified (kind_of S.plan c.vertex) ≡ true → Known (asked_of S.workers c)) (λ c l g. (l, (let w = inv.stands.workers in omega (arith, w)), g)) H.arrived (arrived_small below answers origin S H facts numbered laid placed all inv passed)) a h)
        H.notified inv.running.notified_asked

    by_keys_all : length H.notified ≡ sum_by (λ e. sum_by (λ p. count (by_key (e, p)) H.notified) spots) released
    by_keys_all =
        by_keys by_key (flat_map (λ e. map (λ p. (e, p)) spots) released) H.notified
        (all_weaken (λ a. Known a × IsTime origin S.next S.plan a.vertex a.time) (λ a. count (λ k. by_key k a) (flat_map (λ e. map (λ p. (e, p)) spots) released) ≡ 1) (λ a h. one_key below answers origin S H facts numbered laid placed all inv passed a.vertex a.time h.0.0 h.1) H.notified
        (all_both Known (λ a. IsTime origin S.next S.plan a.vertex a.time) H.notified known inv.running.notified_times))
        ∙ sum_flat (λ k. count (by_key k) H.notified) (λ e. map (λ p. (e, p)) spots) released
        ∙ sum_alike (λ e. sum_by (λ k. count (by_key k) H.notified) (map (λ p. (e, p)) spots)) (λ e. sum_by (λ p. count (by_key (e, p)) H.notified) spots) released
        (all_everywhere (λ e. sum_by (λ k. count (by_key k) H.notified) (map (λ p. (e, p)) spots) ≡ sum_by (λ p. count (by_key (e, p)) H.notified) spots) (λ e. sum_map (λ k. count (by_key k) H.notified) (λ p. (e, p)) spots) released)

    -- at one vertex and time, by shard
    module _ (e : ℕ) (low : origin.first ≤ e) (high : e < S.next) (p : Place) (kind : kind_of S.plan p.0.number ≡ p.0.kind) (bags : bag_of arrival_cmp (came_at H.arrived p.0.number (record { epoch = e; turns = p.1 })) ≡ bag_of arrival_cmp (comes_at (bag_at (epoch_from answers origin H.left e) nodes) p)) where
      abbrev v : ℕ
      v = p.0.number

      abbrev t : Timestamp
      t = record { epoch = e; turns = p.1 }

      abbrev comes : List Arrival
      comes = comes_at (bag_at (epoch_from answers origin H.left e) nodes) p

      abbrev there : Notification → Bool
      there a = is_there v t a.vertex a.time

      -- whether one arrives at a shard by the batch meaning
      abbrev arrives : ℕ → Bool
      arrives s = list_any (λ a. shard_of_key S.workers a.key == s) comes

      same_any : (s : ℕ) → list_any (λ a. shard_of_key S.workers a.key == s) (came_at H.arrived v t) ≡ arrives s
      same_any s = sym (any_bag (λ a. shard_of_key S.workers a.key == s) (came_at H.arrived v t)) ∙ ap (list_any (λ a. shard_of_key S.workers a.key == s)) bags ∙ any_bag (λ a. shard_of_key S.workers a.key == s) comes

      given_where : is_notified (kind_of S.plan v) ≡ true → (s : ℕ) → has notification_cmp (record { shard = s; vertex = v; time = t }) H.notified ≡ arrives s
      given_where g s = by (has notification_cmp (record { shard = s; vertex = v; time = t }) H.notified) refl (arrives s) refl
        where
          by : (b : Bool) → has notification_cmp (record { shard = s; vertex = v; time = t }) H.notified ≡ b → (d : Bool) → arrives s ≡ d → has notification_cmp (record { shard = s; vertex = v; time = t }) H.notified ≡ arrives s
          by true h true f = h ∙ sym f
          by false h false f = h ∙ sym f
          by true h false f =
              let asked = all_has below (λ a. has notification_cmp a (asking S.plan S.workers H.arrived) ≡ true) (record { shard = s; vertex = v; time = t }) H.notified inv.running.notified_asked h in
              let no : true ≡ false = sym (asked_came S.workers S.plan H.arrived (record { shard = s; vertex = v; time = t }) asked) ∙ same_any s ∙ f in absurd (cc)
          by false h true f =
              let yes_there = any_given S.plan S.workers s v t g H.notified H.arrived (waiting_later below answers origin S H inv.running e (passed_all below answers origin S H e (passed e low high))) (same_any s ∙ f) in
              let no : true ≡ false = sym yes_there ∙ h in absurd (cc)

      and_parts : (a b : Bool) → (a && b) ≡ true → (a ≡ true) × (b ≡ true)
      and_parts true b h = (refl, h)
      and_parts false b h = absurd (cc)

      by_shard : is_notified (kind_of S.plan v) ≡ true → (s : ℕ) → count (λ (a : Notification). a.shard == s) (filter there H.notified) ≡ one_if (arrives s)
      by_shard g s =
          ap length (filter_filter (λ (a : Notification). a.shard == s) there H.notified)
          ∙ once_count (λ a. there a && (a.shard == s)) (record { shard = s; vertex = v; time = t }) (λ i. there_itself v t i && (eqb-same below) s i)
          (λ a h. let k = and_parts (there a) (a.shard == s) h in let w = there_is v a.vertex t a.time k.0 in λ i. record { shard = eqb-true a.shard s k.1 i; vertex = w.0 i; time = w.1 i }) H.notified inv.running.notified_once
          ∙ ap one_if (given_where g s)

      shard_once : (n : ℕ) → n < S.workers → count (λ s. n == s) (numbers_from 0 S.workers) ≡ 1
      shard_once n l = count_list n (numbers_from 0 S.workers) ∙ one_of (λ s. s ∷ []) (λ s. n == s) n (λ j other. ap length (filter_no (λ s. n == s) j [] (not_true (n == j) (λ h. other (sym (eqb-true n j h)))))) 0 S.workers (ap length (filter_yes (λ s. n == s) n [] (eqb-same below n))) (omega arith) (omega (arith, l))
        where
          count_list : (n : ℕ) (xs : List ℕ) → count (λ s. n == s) xs ≡ count (λ s. n == s) (flat_map (λ s. s ∷ []) xs)
          count_list n xs = ap (count (λ s. n == s)) (sym (flat_same xs))
            where
              flat_same : (xs : List ℕ) → flat_map (λ (s : ℕ). s ∷ []) xs ≡ xs
              flat_same [] = refl
              flat_same (x ∷ xs) = ap (λ l. x ∷ l) (flat_same xs)

      from_filter : (xs : List Notification) → AllByRecursion Known xs → AllByRecursion Known (filter there xs)
      from_filter [] h = tt
      from_filter (x ∷ xs) h = by (there x) refl (from_filter xs h.1)
        where
          by : (b : Bool) → there x ≡ b → AllByRecursion Known (filter there xs) → AllByRecursion Known (filter there (x ∷ xs))
          by true f rest = subst (AllByRecursion Known) (sym (filter_yes there x xs f)) (h.0, rest)
          by false f rest = subst (AllByRecursion Known) (sym (filter_no there x xs f)) rest

      grouped : is_notified (kind_of S.plan v) ≡ true → count there H.notified ≡ length (shards_of S.workers comes)
      grouped g =
          by_keys (λ s (a : Notification). a.shard == s) (numbers_from 0 S.workers) (filter there H.notified) (all_weaken Known (λ a. count (λ s. a.shard == s) (numbers_from 0 S.workers) ≡ 1) (λ a k. shard_once a.shard k.1) (filter there H.notified) (from_filter H.notified known))
          ∙ sum_alike (λ s. count (λ (a : Notification). a.shard == s) (filter there H.notified)) (λ s. one_if (arrives s)) (numbers_from 0 S.workers) (all_everywhere (λ s. count (λ (a : Notification). a.shard == s) (filter there H.notified) ≡ one_if (arrives s)) (by_shard g) (numbers_from 0 S.workers))
          ∙ sym (count_sum arrives (numbers_from 0 S.workers))

      other_kind : is_notified (kind_of S.plan v) ≡ false → count there H.notified ≡ 0
      other_kind g = ap length (filter_none there H.notified (all_weaken Known (λ a. there a ≡ false) (λ a k. not_true (there a) (λ h. absurd (let w = there_is v a.vertex t a.time h in let no : true ≡ false = sym k.2 ∙ ap (λ n. is_notified (kind_of S.plan n)) w.0 ∙ g in cc))) H.notified known))

      pub notes_here : count there H.notified ≡ notes_at S.workers (bag_at (epoch_from answers origin H.left e) nodes) p
      notes_here = by (is_notified p.0.kind) refl
        where
          by : (b : Bool) → is_notified p.0.kind ≡ b → count there H.notified ≡ (if is_notified p.0.kind then length (shards_of S.workers comes) else 0)
          by true g = grouped (ap is_notified kind ∙ g) ∙ ap (λ (b : Bool). if b then length (shards_of S.workers comes) else 0) (sym g)
          by false g = other_kind (ap is_notified kind ∙ g) ∙ ap (λ (b : Bool). if b then length (shards_of S.workers comes) else 0) (sym g)

    abbrev epoch_at : ℕ → EpochInput
    epoch_at e = epoch_from answers origin H.left e

    -- NOTES OF AN EPOCH: as many were given as the batch meaning has
    epoch_work : (e : ℕ) → origin.first ≤ e → e < S.next → sum_by (λ p. count (by_key (e, p)) H.notified) spots ≡ epoch_notes S.workers S.plan (epoch_at e)
    epoch_work e low high =
        let Bags : Place → Type 0 = λ p. bag_of arrival_cmp (came_at H.arrived p.0.number (record { epoch = e; turns = p.1 })) ≡ bag_of arrival_cmp (comes_at (bag_at (epoch_at e) nodes) p) in
        sum_alike (λ p. count (by_key (e, p)) H.notified) (notes_at S.workers (bag_at (epoch_at e) nodes)) spots
        (all_weaken (λ p. IsKind S.plan p × Bags p) (λ p. count (by_key (e, p)) H.notified ≡ notes_at S.workers (bag_at (epoch_at e) nodes) p) (λ p h. notes_here e low high p h.0 h.1) spots
        (all_both (IsKind S.plan) Bags spots (places_kind S.plan nodes [] laid) (came_alike below answers origin S H facts numbered laid placed all inv passed e low high)))
        ∙ notes_by_places S.plan all (epoch_at e) S.workers

    -- NOTES: as many were given as the batch meaning has
    pub notes_are : length H.notified ≡ Notes S.workers answers S.plan origin.states origin.batches
    notes_are = by_keys_all ∙ over_epochs below answers origin S H facts numbered laid placed all inv passed (λ e. sum_by (λ p. count (by_key (e, p)) H.notified) spots) (epoch_notes S.workers S.plan) epoch_work
