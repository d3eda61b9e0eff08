-- Taking, closing and collecting keep the invariant.
use Rattle.std.proofs.Common.{◌≡◌, ℕ, ◌+◌, ◌-◌, ◌<◌, ◌≤◌, ◌⊎◌, inl, inr, List, [], ◌∷◌, filter, flat_map, length, refl, ap, sym, ◌∙◌, subst, Bool, true, false, ◌||◌, ◌&&◌, arith, rules, suc, zero}
use Rattle.std.specs.Prelude.{nat_lt, ◌==◌}
use Rattle.std.specs.List.{AllByRecursion, list_all, list_any}
use Rattle.std.proofs.lemmas.Bool.{lt-ltb, ltb-true}
use Rattle.std.specs.declared.cmp.Ordering.{Ordering}
use Rattle.std.specs.declared.cmp.Ordering.TheVariants.{Less, Equal, Greater}
use Rattle.td_stamp.specs.Bag.{bag_insert, bag_of}
use Rattle.td_batch.specs.Flow.{numbers_from}
use Rattle.td_reach.specs.declared.stamp.Stamp.{Stamp}
use Rattle.td_calls.specs.Answers.{Answers}
use Rattle.td_machine.specs.declared.records.OutputAt.{OutputAt}
use Rattle.td_machine.specs.State.{HallState, Task, Content, task_cmp, output_at_cmp, shard_of_key, is_out}
use Rattle.td_machine.specs.State.Content.{messages, notification}
use Rattle.td_machine.specs.Active.{kind_of, active, IsFree, stamp_of_asked, has_passed}
use Rattle.td_machine.specs.Steps.{MayTake, IsContent, with_task, collected_to, to_collect, comes_out}
use Rattle.td_machine.proofs.History.{Origin, History, Stands, OneAShard, StandsOut, recs_in, Invariant}
use Rattle.td_machine.proofs.Lists.{all_weaken, all_both, filter_filter, filter_alike, all_everywhere, filter_yes, filter_no}
use Rattle.td_machine.proofs.Delivered.{from_active, to_active}
use Rattle.td_machine.proofs.Bags.{filter-bag_of}
use Rattle.td_machine.specs.Below.{Below}

module _ (below : Below) where
  pub eqb-same : (n : ℕ) → (n == n) ≡ true
  eqb-same n = search rules

  -- TAKE
  all_task : (P : Task → Type 0) (x : Task) (ys : List Task) → P x → AllByRecursion P ys → AllByRecursion P (bag_insert task_cmp x ys)
  all_task P x [] h k = (h, tt)
  all_task P x (y ∷ ys) h k = by (task_cmp x y) refl (all_task P x ys h k.1)
    where
      by : (r : Ordering) → task_cmp x y ≡ r → AllByRecursion P (bag_insert task_cmp x ys) → AllByRecursion P (bag_insert task_cmp x (y ∷ ys))
      by Less e rest = rw (e, bag_insert) (h, k)
      by Equal e rest = rw (e, bag_insert) (h, k)
      by Greater e rest = rw (e, bag_insert) (k.0, rest)

  pub one_more : (x : Task) (ys : List Task) → AllByRecursion (λ (other : Task). other.shard ≡ x.shard → ⊥) ys → OneAShard ys → OneAShard (bag_insert task_cmp x ys)
  one_more x [] h k = (tt, tt)
  one_more x (y ∷ ys) h k = by (task_cmp x y) refl (one_more x ys h.1 k.1)
    where
      first : AllByRecursion (λ (other : Task). x.shard ≡ other.shard → ⊥) (y ∷ ys)
      first = all_weaken (λ (other : Task). other.shard ≡ x.shard → ⊥) (λ other. x.shard ≡ other.shard → ⊥) (λ other n e. n (sym e)) (y ∷ ys) h

      by : (r : Ordering) → task_cmp x y ≡ r → OneAShard (bag_insert task_cmp x ys) → OneAShard (bag_insert task_cmp x (y ∷ ys))
      by Less e rest = rw (e, bag_insert) (first, k)
      by Equal e rest = rw (e, bag_insert) (first, k)
      by Greater e rest = rw (e, bag_insert) (all_task (λ (other : Task). y.shard ≡ other.shard → ⊥) x ys h.0 k.0, rest)

  pub free_shard : (s : ℕ) (xs : List Task) → list_any (λ (t : Task). t.shard == s) xs ≡ false → AllByRecursion (λ (t : Task). t.shard ≡ s → ⊥) xs
  free_shard s [] e = tt
  free_shard s (x ∷ xs) e = by (x.shard == s) refl e (free_shard s xs)
    where
      by : (b : Bool) → (x.shard == s) ≡ b → (b || list_any (λ (t : Task). t.shard == s) xs) ≡ false → (list_any (λ (t : Task). t.shard == s) xs ≡ false → AllByRecursion (λ (t : Task). t.shard ≡ s → ⊥) xs) → AllByRecursion (λ (t : Task). t.shard ≡ s → ⊥) (x ∷ xs)
      by true f g rest = cc
      by false f g rest = ((λ same. let no : true ≡ false = sym (eqb-same s) ∙ ap (λ n. n == s) (sym same) ∙ f in cc), rest g)

  content_stands : (S : HallState) (task : Task) (content : Content) → IsContent S task.shard task.vertex task.time content → AllByRecursion (λ r. shard_of_key S.workers r.key ≡ task.shard) (recs_in content) × StandsOut S task content
  content_stands S task (messages port recs) h = (h.2, h.3)
  content_stands S task (notification items) h = (tt, (h.0, h.1.is_free, h.2))

  module _ (answers : Answers) (origin : Origin) (S : HallState) (H : History) where
    pub taken_keeps : (s : ℕ) (task : Task) → is_out S s ≡ false → MayTake S s task → Invariant answers origin S H → Invariant answers origin (with_task S task) H
    taken_keeps s task free may inv =
        let told = inv.running.told in
        let answered = inv.running.answered in
        let content : IsContent S task.shard task.vertex task.time task.content = subst (λ n. IsContent S n task.vertex task.time task.content) (sym may.shard) may.content in
        record {
          stands = record { plan = inv.stands.plan; workers = inv.stands.workers; next = inv.stands.next; first = inv.stands.first; states = inv.stands.states; base = inv.stands.base; collected = inv.stands.collected; batches = inv.stands.batches };
          running = record {
            told = record { balance = told.balance; buffered = told.buffered; asked = told.asked; seen = told.seen; outputs = told.outputs; left_bag = told.left_bag; left = told.left; base_states = told.base_states };
            answered = record { sent_times = answered.sent_times; message_times = answered.message_times; arrived_times = answered.arrived_times; sent = answered.sent; left = answered.left; folds_left = answered.folds_left };
            on_edges = inv.running.on_edges;
            messages_bag = inv.running.messages_bag;
            later = inv.running.later;
            settled = inv.running.settled;
            notified_times = inv.running.notified_times;
            notified_once = inv.running.notified_once;
            notified_asked = inv.running.notified_asked;
          };
          tasks = record {
            stand = all_task (λ task. (task.kind ≡ kind_of S.plan task.vertex) × AllByRecursion (λ r. shard_of_key S.workers r.key ≡ task.shard) (recs_in task.content) × StandsOut S task task.content) task S.out
                (let c = content_stands S task task.content content in (may.kind, c.0, c.1)) inv.tasks.stand;
            once = one_more task S.out (all_weaken (λ (t : Task). t.shard ≡ s → ⊥) (λ t. t.shard ≡ task.shard → ⊥) (λ t n e. n (e ∙ may.shard)) S.out (free_shard s S.out free)) inv.tasks.once;
          };
        }

    -- CLOSE
    fewer : (P : Stamp → Type 0) → AllByRecursion P (active S) → AllByRecursion P (active (record S { closed = true }))
    fewer P h = let a = from_active below S P h in to_active below (record S { closed = true }) P (a.0, a.1, tt)

    still_out : (task : Task) (content : Content) → StandsOut S task content → StandsOut (record S { closed = true }) task content
    still_out task (messages port recs) h = h
    still_out task (notification items) h = (h.0, fewer _ h.1, h.2)

    pub closed_keeps : Invariant answers origin S H → Invariant answers origin (record S { closed = true }) H
    closed_keeps inv =
        let told = inv.running.told in
        let answered = inv.running.answered in
        let after : HallState = record S { closed = true } in
        record {
          stands = record { plan = inv.stands.plan; workers = inv.stands.workers; next = inv.stands.next; first = inv.stands.first; states = inv.stands.states; base = inv.stands.base; collected = inv.stands.collected; batches = inv.stands.batches };
          running = record {
            told = record { balance = told.balance; buffered = told.buffered; asked = told.asked; seen = told.seen; outputs = told.outputs; left_bag = told.left_bag; left = told.left; base_states = told.base_states };
            answered = record { sent_times = answered.sent_times; message_times = answered.message_times; arrived_times = answered.arrived_times; sent = answered.sent; left = answered.left; folds_left = answered.folds_left };
            on_edges = inv.running.on_edges;
            messages_bag = inv.running.messages_bag;
            later = fewer _ inv.running.later;
            settled = all_weaken (λ a. IsFree S (stamp_of_asked a)) (λ a. IsFree after (stamp_of_asked a)) (λ a f. fewer _ f) H.notified inv.running.settled;
            notified_times = inv.running.notified_times;
            notified_once = inv.running.notified_once;
            notified_asked = inv.running.notified_asked;
          };
          tasks = record {
            stand = all_weaken (λ task. (task.kind ≡ kind_of S.plan task.vertex) × AllByRecursion (λ r. shard_of_key S.workers r.key ≡ task.shard) (recs_in task.content) × StandsOut S task task.content)
                (λ task. (task.kind ≡ kind_of S.plan task.vertex) × AllByRecursion (λ r. shard_of_key S.workers r.key ≡ task.shard) (recs_in task.content) × StandsOut after task task.content)
                (λ task h. (h.0, h.1, still_out task task.content h.2)) S.out inv.tasks.stand;
            once = inv.tasks.once;
          };
        }

    -- COLLECT
    pub all_true : {X : Type 0} (p : X → Bool) (xs : List X) → list_all p xs ≡ true → AllByRecursion (λ x. p x ≡ true) xs
    all_true p [] e = tt
    all_true p (x ∷ xs) e = by (p x) refl e (all_true p xs)
      where
        by : (b : Bool) → p x ≡ b → (b && list_all p xs) ≡ true → (list_all p xs ≡ true → AllByRecursion (λ x. p x ≡ true) xs) → AllByRecursion (λ x. p x ≡ true) (x ∷ xs)
        by true f g rest = (f, rest g)
        by false f g rest = cc

    pub are_true : {X : Type 0} (p : X → Bool) (xs : List X) → AllByRecursion (λ x. p x ≡ true) xs → list_all p xs ≡ true
    are_true p [] h = refl
    are_true p (x ∷ xs) h = λ i. h.0 i && are_true p xs h.1 i

    pub passed_all : (e : ℕ) → has_passed S e ≡ true → AllByRecursion (λ (p : Stamp). e < p.time.epoch) (active S)
    passed_all e h = all_weaken (λ (p : Stamp). nat_lt e p.time.epoch ≡ true) (λ p. e < p.time.epoch) (λ p k. ltb-true e p.time.epoch k) (active S) (all_true (λ (p : Stamp). nat_lt e p.time.epoch) (active S) h)

    pub passed_from : (e : ℕ) → AllByRecursion (λ (p : Stamp). e < p.time.epoch) (active S) → has_passed S e ≡ true
    passed_from e h = are_true (λ (p : Stamp). nat_lt e p.time.epoch) (active S) (all_weaken (λ (p : Stamp). e < p.time.epoch) (λ p. nat_lt e p.time.epoch ≡ true) (λ p k. lt-ltb e p.time.epoch k) (active S) h)

    pub passed_before : (d e : ℕ) → d ≤ e → has_passed S e ≡ true → has_passed S d ≡ true
    passed_before d e l h = passed_from d (all_weaken (λ (p : Stamp). e < p.time.epoch) (λ p. d < p.time.epoch) (λ p k. omega (arith, l, k)) (active S) (passed_all e h))

  -- how many numbers from k on pass a test that those below pass as well: as many as the last of them tells
  pub none_from : (p : ℕ → Bool) (down : (i : ℕ) → p (suc i) ≡ true → p i ≡ true) (k n : ℕ) → p k ≡ false → length (filter p (numbers_from k n)) ≡ 0
  none_from p down k zero e = refl
  none_from p down k (suc n) e = ap length (filter_no p k (numbers_from (suc k) n) e) ∙ none_from p down (suc k) n (by (p (suc k)) refl)
    where
      by : (b : Bool) → p (suc k) ≡ b → p (suc k) ≡ false
      by false f = f
      by true f = let no : true ≡ false = sym (down k f) ∙ e in cc

  abbrev Counted : (ℕ → Bool) → ℕ → ℕ → ℕ → Type 0
  Counted p k n m = (m ≤ n) × ((m ≡ 0) ⊎ (p (k + m - 1) ≡ true))

  counted : (p : ℕ → Bool) (down : (i : ℕ) → p (suc i) ≡ true → p i ≡ true) (k n : ℕ) → Counted p k n (length (filter p (numbers_from k n)))
  counted p down k zero = (omega arith, inl refl)
  counted p down k (suc n) = by (p k) refl (counted p down (suc k) n)
    where
      more : p k ≡ true → (m : ℕ) → Counted p (suc k) n m → Counted p k (suc n) (suc m)
      more e m (l, inl z) = (omega (arith, l), inr (let same : k ≡ k + suc m - 1 = omega (arith, z) in ap p (sym same) ∙ e))
      more e m (l, inr q) = (omega (arith, l), inr (let same : suc k + m - 1 ≡ k + suc m - 1 = omega arith in ap p (sym same) ∙ q))

      by : (b : Bool) → p k ≡ b → Counted p (suc k) n (length (filter p (numbers_from (suc k) n))) → Counted p k (suc n) (length (filter p (numbers_from k (suc n))))
      by true e rest = subst (Counted p k (suc n)) (ap length (sym (filter_yes p k (numbers_from (suc k) n) e))) (more e (length (filter p (numbers_from (suc k) n))) rest)
      by false e rest = let z = none_from p down k (suc n) e in subst (Counted p k (suc n)) (sym z) (omega arith, inl refl)

  module _ (answers : Answers) (origin : Origin) (S : HallState) (H : History) where
    abbrev last : ℕ
    last = S.collected + length (to_collect S)

    pub down : (i : ℕ) → has_passed S (suc i) ≡ true → has_passed S i ≡ true
    down i = passed_before answers origin S H i (suc i) (omega arith)

    pub collected_passed : Stands origin S → AllByRecursion (λ (p : Stamp). (S.base < p.time.epoch) × (S.collected < p.time.epoch)) (active S)
        → (S.collected + length (to_collect S) < S.next) × AllByRecursion (λ (p : Stamp). S.collected + length (to_collect S) < p.time.epoch) (active S)
    collected_passed stands later = by (counted (has_passed S) down (S.collected + 1) (S.next - (S.collected + 1)))
      where
        by : Counted (has_passed S) (S.collected + 1) (S.next - (S.collected + 1)) (length (to_collect S)) → (S.collected + length (to_collect S) < S.next) × AllByRecursion (λ (p : Stamp). S.collected + length (to_collect S) < p.time.epoch) (active S)
        by (l, inl z) =
            (omega (arith, l, stands.collected.1), all_weaken (λ (p : Stamp). (S.base < p.time.epoch) × (S.collected < p.time.epoch)) (λ p. S.collected + length (to_collect S) < p.time.epoch) (λ p k. omega (arith, z, k.1)) (active S) later)
        by (l, inr q) = (
          omega (arith, l, stands.collected.1),
          all_weaken (λ (p : Stamp). S.collected + 1 + length (to_collect S) - 1 < p.time.epoch) (λ p. S.collected + length (to_collect S) < p.time.epoch) (λ p k. omega (arith, k)) (active S) (passed_all answers origin S H (S.collected + 1 + length (to_collect S) - 1) q),
        )

    pub newer : (c d e : ℕ) → c ≤ d → (nat_lt c e && nat_lt d e) ≡ nat_lt d e
    newer c d e l = by (nat_lt d e) refl
      where
        by : (b : Bool) → nat_lt d e ≡ b → (nat_lt c e && b) ≡ b
        by true f = ap (λ b. b && true) (lt-ltb c e (omega (arith, l, ltb-true d e f)))
        by false f = and_no (nat_lt c e)
          where
            and_no : (b : Bool) → (b && false) ≡ false
            and_no true = refl
            and_no false = refl

    still_there : (task : Task) (content : Content) → StandsOut S task content → StandsOut (collected_to S (S.collected + length (to_collect S))) task content
    still_there task (messages port recs) h = h
    still_there task (notification items) h = h

    pub collected_keeps : Invariant answers origin S H → Invariant answers origin (collected_to S (S.collected + length (to_collect S))) H
    collected_keeps inv =
        let told = inv.running.told in
        let answered = inv.running.answered in
        let done = collected_passed inv.stands inv.running.later in
        let all : List OutputAt = flat_map (λ c. comes_out (kind_of S.plan c.vertex) c) H.arrived in
        let is_new : OutputAt → Bool = λ o. nat_lt S.collected o.epoch in
        let is_newer : OutputAt → Bool = λ o. nat_lt (S.collected + length (to_collect S)) o.epoch in
        record {
          stands = record { plan = inv.stands.plan; workers = inv.stands.workers; next = inv.stands.next; first = inv.stands.first; states = inv.stands.states; base = inv.stands.base; collected = (omega (arith, inv.stands.collected.0), done.0); batches = inv.stands.batches };
          running = record {
            told = record {
              balance = told.balance;
              buffered = told.buffered;
              asked = told.asked;
              seen = told.seen;
              outputs = ap (filter is_newer) told.outputs ∙ filter-bag_of output_at_cmp below.outputs_at is_newer (filter is_new all) ∙ ap (bag_of output_at_cmp) (filter_filter is_newer is_new all
                  ∙ filter_alike (λ o. is_new o && is_newer o) is_newer all (all_everywhere (λ o. (is_new o && is_newer o) ≡ is_newer o) (λ o. newer S.collected (S.collected + length (to_collect S)) o.epoch (omega arith)) all));
              left_bag = told.left_bag;
              left = told.left;
              base_states = told.base_states;
            };
            answered = record { sent_times = answered.sent_times; message_times = answered.message_times; arrived_times = answered.arrived_times; sent = answered.sent; left = answered.left; folds_left = answered.folds_left };
            on_edges = inv.running.on_edges;
            messages_bag = inv.running.messages_bag;
            later = all_both _ _ (active S) (all_weaken (λ (p : Stamp). (S.base < p.time.epoch) × (S.collected < p.time.epoch)) (λ p. S.base < p.time.epoch) (λ p k. k.0) (active S) inv.running.later) done.1;
            settled = inv.running.settled;
            notified_times = inv.running.notified_times;
            notified_once = inv.running.notified_once;
            notified_asked = inv.running.notified_asked;
          };
          tasks = record {
            stand = all_weaken (λ task. (task.kind ≡ kind_of S.plan task.vertex) × AllByRecursion (λ r. shard_of_key S.workers r.key ≡ task.shard) (recs_in task.content) × StandsOut S task task.content)
                (λ task. (task.kind ≡ kind_of S.plan task.vertex) × AllByRecursion (λ r. shard_of_key S.workers r.key ≡ task.shard) (recs_in task.content) × StandsOut (collected_to S (S.collected + length (to_collect S))) task task.content)
                (λ task h. (h.0, h.1, still_there task task.content h.2)) S.out inv.tasks.stand;
            once = inv.tasks.once;
          };
        }
