-- A cut keeps the invariant.
use Rattle.std.proofs.Common.{◌≡◌, ℕ, ◌+◌, ◌-◌, ◌<◌, ◌≤◌, List, [], ◌∷◌, ◌++◌, map, filter, drop, refl, ap, sym, ◌∙◌, Bool, true, false, ◌&&◌, ◌||◌, arith, suc, zero}
use Rattle.std.specs.Prelude.{nat_lt, nat_le}
use Rattle.std.specs.List.{AllByRecursion}
use Rattle.std.proofs.lemmas.Bool.{lt-ltb, ltb-true, ltb-false, le-leb, lt-leb}
use Rattle.std.proofs.Math.Seq.{drop-nil}
use Rattle.std.specs.declared.cmp.Ordering.{Ordering}
use Rattle.std.specs.declared.cmp.Ordering.TheVariants.{Less, Equal, Greater}
use Rattle.std.specs.Ordering.{nat_cmp, ordering_then, is_eq, is_gt, MatchOrdering}
use Rattle.std.proofs.lemmas.Cmp.{ranked}
use Rattle.td_stamp.specs.States.{StateList, state_of}
use Rattle.td_stamp.specs.Bag.{has}
use Rattle.td_stamp.specs.Groups.{groups}
use Rattle.td_stamp.specs.Rises.{Rises}
use Rattle.td_reach.specs.declared.stamp.Stamp.{Stamp}
use Rattle.td_batch.specs.Meaning.{with_kept}
use Rattle.td_calls.specs.Answers.{Answers}
use Rattle.td_machine.specs.declared.records.Stamped.{Stamped}
use Rattle.td_machine.specs.declared.records.StateLeft.{StateLeft}
use Rattle.td_machine.specs.declared.records.Notification.{Notification}
use Rattle.td_machine.specs.State.{HallState, Task, Content, KeyItems, stamped_cmp, left_cmp, shard_of_key, with_left, states_at, arrival}
use Rattle.td_machine.specs.State.Content.{messages, notification}
use Rattle.td_machine.specs.Active.{kind_of, active, has_passed}
use Rattle.td_machine.specs.Steps.{cut_to, asked_at, is_for}
use Rattle.td_machine.proofs.History.{Origin, History, IsTold, StandsOut, recs_in, Invariant}
use Rattle.td_machine.proofs.Orders.{stamped_apart}
use Rattle.td_machine.proofs.Lists.{all_weaken, all_both, filter_filter, filter_alike, filter_yes, filter_no, filter_all, filter_none, all_everywhere}
use Rattle.td_machine.proofs.Delivered.{from_active, all_has}
use Rattle.td_machine.proofs.Plain.{passed_all, newer}
use Rattle.td_machine.proofs.Bags.{Rises-from_IsBag}
use Rattle.td_machine.specs.Below.{Below}

module _ (below : Below) where
  abbrev upto : ℕ → StateLeft → Bool
  upto e = λ k. nat_le k.epoch e

  abbrev past : ℕ → StateLeft → Bool
  past e = λ k. nat_lt e k.epoch

  -- what stands later is of no earlier epoch
  later_epoch : (x y : StateLeft) → is_gt (left_cmp x y) ≡ false → x.epoch ≤ y.epoch
  later_epoch x y e = by (nat_cmp x.epoch y.epoch) _ e (ranked x.epoch y.epoch (nat_cmp x.epoch y.epoch) refl)
    where
      by : (o more : Ordering) → is_gt (ordering_then o more) ≡ false → MatchOrdering o (x.epoch < y.epoch) (x.epoch ≡ y.epoch) (y.epoch < x.epoch) → x.epoch ≤ y.epoch
      by Less more g m = omega (arith, m)
      by Equal more g m = omega (arith, m)
      by Greater more g m = cc

  -- states after one epoch and then those up to a later one, in a list in the order of epochs
  pub upto_in_two : (b e : ℕ) → b ≤ e → (xs : List StateLeft) → Rises left_cmp xs → filter (upto e) xs ≡ filter (upto b) xs ++ filter (upto e) (filter (past b) xs)
  upto_in_two b e l [] r = refl
  upto_in_two b e l (x ∷ xs) r = by (nat_lt b x.epoch) refl (upto_in_two b e l xs r.1)
    where
      by : (c : Bool) → nat_lt b x.epoch ≡ c → filter (upto e) xs ≡ filter (upto b) xs ++ filter (upto e) (filter (past b) xs) → filter (upto e) (x ∷ xs) ≡ filter (upto b) (x ∷ xs) ++ filter (upto e) (filter (past b) (x ∷ xs))
      by false f rest =
          let low : x.epoch ≤ b = ltb-false b x.epoch f in
          filter_yes (upto e) x xs (le-leb x.epoch e (omega (arith, low, l))) ∙ ap (λ l. x ∷ l) rest
          ∙ (λ i. sym (filter_yes (upto b) x xs (le-leb x.epoch b low)) i ++ filter (upto e) (sym (filter_no (past b) x xs f) i))
      by true f rest =
          let high : b < x.epoch = ltb-true b x.epoch f in
          let all : AllByRecursion (λ (y : StateLeft). b < y.epoch) (x ∷ xs) = (high, all_weaken (λ y. is_gt (left_cmp x y) ≡ false) (λ (y : StateLeft). b < y.epoch) (λ y g. omega (arith, high, later_epoch x y g)) xs r.0) in
          (λ i. sym (filter_none (upto b) (x ∷ xs) (all_weaken (λ (y : StateLeft). b < y.epoch) (λ y. upto b y ≡ false) (λ y h. lt-leb y.epoch b h) (x ∷ xs) all)) i
          ++ filter (upto e) (sym (filter_all (past b) (x ∷ xs) (all_weaken (λ (y : StateLeft). b < y.epoch) (λ y. past b y ≡ true) (λ y h. lt-ltb b y.epoch h) (x ∷ xs) all)) i))

  -- what is of a later epoch is found among what is let stand
  found_past : (e : ℕ) (x : Stamped) (xs : List Stamped) → e < x.time.epoch → has stamped_cmp x (filter (λ y. nat_lt e y.time.epoch) xs) ≡ has stamped_cmp x xs
  found_past e x [] l = refl
  found_past e x (y ∷ ys) l = by (stamped_cmp x y) refl (nat_lt e y.time.epoch) refl (found_past e x ys l)
    where
      gone : nat_lt e y.time.epoch ≡ false → (o : Ordering) → stamped_cmp x y ≡ o → is_eq o ≡ false
      gone g Less f = refl
      gone g Greater f = refl
      gone g Equal f = absurd (let kept : nat_lt e y.time.epoch ≡ true = ap (λ (z : Stamped). nat_lt e z.time.epoch) (sym (stamped_apart x y f)) ∙ lt-ltb e x.time.epoch l in cc)

      by : (o : Ordering) → stamped_cmp x y ≡ o → (b : Bool) → nat_lt e y.time.epoch ≡ b → has stamped_cmp x (filter (λ y. nat_lt e y.time.epoch) ys) ≡ has stamped_cmp x ys
          → has stamped_cmp x (filter (λ y. nat_lt e y.time.epoch) (y ∷ ys)) ≡ has stamped_cmp x (y ∷ ys)
      by o f true g rest = ap (has stamped_cmp x) (filter_yes (λ y. nat_lt e y.time.epoch) y ys g) ∙ ap (λ b. is_eq (stamped_cmp x y) || b) rest
      by o f false g rest = ap (has stamped_cmp x) (filter_no (λ y. nat_lt e y.time.epoch) y ys g) ∙ rest ∙ (λ i. sym (gone g (stamped_cmp x y) refl) i || has stamped_cmp x ys)

  pub left_app : (xs ys : List StateLeft) (states : StateList) → with_left states (xs ++ ys) ≡ with_left (with_left states xs) ys
  left_app [] ys states = refl
  left_app (x ∷ xs) ys states = left_app xs ys (with_kept states x.vertex x.key x.state)

  -- the states after an epoch, from those after an earlier one
  pub states_in_two : (b e : ℕ) → b ≤ e → (states : StateList) (xs : List StateLeft) → Rises left_cmp xs → with_left (with_left states (filter (upto b) xs)) (filter (upto e) (filter (past b) xs)) ≡ with_left states (filter (upto e) xs)
  states_in_two b e l states xs r = sym (left_app (filter (upto b) xs) (filter (upto e) (filter (past b) xs)) states) ∙ ap (with_left states) (sym (upto_in_two b e l xs r))

  drop_twice : {X : Type 0} (m n : ℕ) (xs : List X) → drop n (drop m xs) ≡ drop (m + n) xs
  drop_twice zero n xs = let e : n ≡ 0 + n = omega arith in ap (λ k. drop k xs) e
  drop_twice (suc m) n [] = drop-nil n ∙ sym (drop-nil (suc m + n))
  drop_twice (suc m) n (x ∷ xs) = let e : suc (m + n) ≡ suc m + n = omega arith in drop_twice m n xs ∙ ap (λ k. drop k (x ∷ xs)) e

  module _ (answers : Answers) (origin : Origin) (S : HallState) (H : History) (e : ℕ) (low : S.base ≤ e) (high : e < S.next) (passed : has_passed S e ≡ true) (inv : Invariant answers origin S H) where
    abbrev told : IsTold origin S H
    told = inv.running.told

    rises : Rises left_cmp H.left
    rises = Rises-from_IsBag left_cmp below.left H.left told.left_bag

    -- the states after an epoch since the base, by the history
    pub states_told : (d : ℕ) → S.base ≤ d → states_at S d ≡ with_left origin.states (filter (upto d) H.left)
    states_told d l = (λ i. with_left (told.base_states i) (filter (upto d) (told.left i))) ∙ states_in_two S.base d l origin.states H.left rises

    left_after : filter (past e) S.left ≡ filter (past e) H.left
    left_after = ap (filter (past e)) told.left ∙ filter_filter (past e) (past S.base) H.left
        ∙ filter_alike (λ k. past S.base k && past e k) (past e) H.left (all_everywhere (λ k. (past S.base k && past e k) ≡ past e k) (λ k. newer below answers origin S H S.base e k.epoch low) H.left)

    states_same : (d : ℕ) → e ≤ d → states_at (cut_to S e) d ≡ states_at S d
    states_same d l = (λ i. with_left (states_told e low i) (filter (upto d) (left_after i))) ∙ states_in_two e d l origin.states H.left rises ∙ sym (states_told d (omega (arith, low, l)))

    is_later : AllByRecursion (λ (p : Stamp). e < p.time.epoch) (active S)
    is_later = passed_all below answers origin S H e passed

    still_there : (task : Task) (content : Content) → StandsOut S task content → StandsOut (cut_to S e) task content
    still_there task (messages port recs) h = h
    still_there task (notification items) h =
        let here : e < task.time.epoch = all_has below (λ (a : Notification). e < a.time.epoch) (asked_at S task.shard task.vertex task.time) S.asked (from_active below S (λ (p : Stamp). e < p.time.epoch) is_later).1 h.0 in (
          h.0,
          h.1,
          h.2 ∙ (λ i. map (λ g. let k : KeyItems = record { key = g.0; items = g.1; state = state_of (sym (states_same (task.time.epoch - 1) (omega (arith, here))) i) task.vertex g.0 } in k)
              (groups (map arrival (filter (is_for S (asked_at S task.shard task.vertex task.time)) S.buffered)))),
        )

    pub cut_keeps : Invariant answers origin (cut_to S e) H
    cut_keeps =
        let answered = inv.running.answered in
        record {
          stands = record {
            plan = inv.stands.plan;
            workers = inv.stands.workers;
            next = inv.stands.next;
            first = inv.stands.first;
            states = inv.stands.states;
            base = (omega (arith, low, inv.stands.base.0), high);
            collected = inv.stands.collected;
            batches = ap (drop (e - S.base)) inv.stands.batches ∙ drop_twice (S.base + 1 - origin.first) (e - S.base) origin.batches ∙ (let same : S.base + 1 - origin.first + (e - S.base) ≡ e + 1 - origin.first = omega (arith, low, inv.stands.base.0) in ap (λ n. drop n origin.batches) same);
          };
          running = record {
            told = record { balance = told.balance; buffered = told.buffered; asked = told.asked; seen = λ x l. found_past e x S.seen l ∙ told.seen x (omega (arith, low, l)); outputs = told.outputs; left_bag = told.left_bag; left = left_after; base_states = states_told e low };
            answered = record { sent_times = answered.sent_times; message_times = answered.message_times; arrived_times = answered.arrived_times; sent = answered.sent; left = answered.left; folds_left = answered.folds_left };
            on_edges = inv.running.on_edges;
            messages_bag = inv.running.messages_bag;
            later = all_both _ _ (active S) is_later (all_weaken (λ (p : Stamp). (S.base < p.time.epoch) × (S.collected < p.time.epoch)) (λ p. S.collected < p.time.epoch) (λ p k. k.1) (active S) inv.running.later);
            settled = inv.running.settled;
            notified_times = inv.running.notified_times;
            notified_once = inv.running.notified_once;
            notified_asked = inv.running.notified_asked;
          };
          tasks = record {
            stand = all_weaken (λ task. (task.kind ≡ kind_of S.plan task.vertex) × AllByRecursion (λ r. shard_of_key S.workers r.key ≡ task.shard) (recs_in task.content) × StandsOut S task task.content)
                (λ task. (task.kind ≡ kind_of S.plan task.vertex) × AllByRecursion (λ r. shard_of_key S.workers r.key ≡ task.shard) (recs_in task.content) × StandsOut (cut_to S e) task task.content)
                (λ task h. (h.0, h.1, still_there task task.content h.2)) S.out inv.tasks.stand;
            once = inv.tasks.once;
          };
        }
