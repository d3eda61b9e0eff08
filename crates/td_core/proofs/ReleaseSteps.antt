-- A batch that is released takes the machine's step.
use Rattle.std.proofs.Common.{◌≡◌, ℕ, ◌+◌, ◌<◌, ◌≤◌, ◌==◌, true, false, List, [], ◌∷◌, ◌++◌, map, flat_map, length, Result, Ok, Err, OnErr, refl, ap, sym, ◌∙◌, subst, arith}
use Rattle.std.specs.Prelude.{Some}
use Rattle.std.specs.List.{AllByRecursion, slice_get}
use Rattle.std.specs.declared.collections.VecDeque.{VecDeque}
use Rattle.std.specs.declared.alloc.Global.{Global}
use Rattle.std.proofs.lemmas.Bool.Decides.{nat_tests}
use Rattle.td_stamp.specs.declared.values.Entry.{Entry}
use Rattle.td_stamp.specs.Orders.{entry_cmp}
use Rattle.td_stamp.specs.Rises.{Rises}
use Rattle.td_stamp.specs.Bag.{bag_of, set_of}
use Rattle.td_stamp.specs.BagLaws.{BagLaws}
use Rattle.td_plan.specs.Lines.{Line}
use Rattle.td_plan.specs.Blocks.{PlacedVertex, vertices}
use Rattle.td_plan.specs.Faults.{IsPlan}
use Rattle.td_calls.specs.Answers.{Answers}
use Rattle.td_reach.specs.declared.stamp.Stamp.{Stamp}
use Rattle.td_reach.specs.Paths.{IsOf}
use Rattle.td_progress.specs.Bag.{occurrences, is_stamp, IsSameBag, input_stamp}
use Rattle.td_machine.specs.State.{HallState, message_cmp, notification_cmp}
use Rattle.td_machine.specs.Active.{active, inputs_of}
use Rattle.td_machine.specs.Steps.{accepts, entered, posts, release_step, release_by, with_batch, ends}
use Rattle.td_machine.specs.Steps.Event.{release}
use Rattle.td_machine.specs.Steps.Answer.{has_released}
use Rattle.td_machine.specs.Moves.{stamps_of, come_released, StampsMove}
use Rattle.td_machine.specs.ByEdge.{StampsByEdge}
use Rattle.td_machine.specs.Reached.{IsReached}
use Rattle.td_machine.specs.Sends.{SentOfPlan, ComeOfPlan}
use Rattle.td_core.specs.declared.hall.Parts.{Parts}
use Rattle.td_core.specs.Parts.{state_of, IsHall, with_tasks}
use Rattle.td_core.specs.Posted.{occurring}
use Rattle.td_core.specs.Released.{loads_in, messages_of, changes_of, IsIn, IsAsBefore}
use Rattle.td_core.specs.Routes.{IsRoutes}
use Rattle.td_core.proofs.BatchParts.{inputs_are}
use Rattle.td_core.proofs.CloseSteps.{CountsAppend, enough}
use Rattle.td_core.proofs.CollectSteps.{ReachedByStep}
use Rattle.td_core.proofs.PostSteps.{roomier_same, posted_bag, roomier_bag, posted_shards, roomier_shards, same_buffered, same_asked, as_many_waits}
use Rattle.td_core.proofs.ReleaseParts.{batch_posts, batch_changes, changes_fit}

-- THE STEP of a hall that is open, and has numbers left
not_at_end : (n end : ℕ) → n < end → (n == end) ≡ false
not_at_end n end l = grind (arith, nat_tests, l)

pub released_step : (S : HallState) (batch : List Entry) → S.closed ≡ false → S.next < ends → release_step S batch ≡ (has_released S.next, with_batch S batch)
released_step S batch running below = λ i. release_by S (running i) (not_at_end S.next ends below i) batch

-- what was not brought in
pub untouched : (parts : Parts) → IsAsBefore parts parts
untouched parts = record { fields = refl; roomier = roomier_same parts.shards.items; plan = refl; stamps = λ p. refl; batches = refl }

pub on_err : {A E : Type 0} {P : Type 0} (r : Result A E) → P → OnErr r P
on_err (Ok x) h = tt
on_err (Err e) h = h

-- halves of lists of which something holds
second : {X : Type 0} (P : X → Type 0) (xs ys : List X) → AllByRecursion P (xs ++ ys) → AllByRecursion P ys
second P [] ys h = h
second P (x ∷ xs) ys h = second P xs ys h.1

before_map : {X Y : Type 0} (P : Y → Type 0) (f : X → Y) (xs : List X) → AllByRecursion P (map f xs) → AllByRecursion (λ x. P (f x)) xs
before_map P f [] h = tt
before_map P f (x ∷ xs) h = (h.0, before_map P f xs h.1)

-- BROUGHT IN
module _ (answers : Answers) (parts : Parts) (batch : List Entry) (inv : IsHall answers parts) (accepted : accepts parts.table.plan batch ≡ true) (running : parts.closed ≡ false) (below : parts.next < ends)
    (numbered : (v : ℕ) (p : PlacedVertex) → slice_get (vertices parts.table.plan) v ≡ Some p → p.vertex.number ≡ v) where
  abbrev plan : List Line
  plan = parts.table.plan

  -- the pointstamps that change are of the plan
  pub changes_are_of_plan : SentOfPlan → ComeOfPlan answers → IsPlan plan → AllByRecursion (λ r. IsOf plan r.stamp) (flat_map (changes_of parts.routes parts.next) (loads_in (inputs_of plan) batch))
  changes_are_of_plan sent come lawful =
      let coming = come (state_of parts) (with_batch (state_of parts) batch) (release batch) (has_released parts.next) inv.reached (accepted, released_step (state_of parts) batch running below) in
      let own : AllByRecursion (λ i. IsOf plan (input_stamp (parts.next + 1) i)) (inputs_of plan) =
      before_map (IsOf plan) (input_stamp (parts.next + 1)) (inputs_of plan)
      (second (IsOf plan) (stamps_of plan (posts plan (map (entered parts.next) batch))) (map (input_stamp (parts.next + 1)) (inputs_of plan)) coming) in
      changes_fit plan parts.routes inv.routes parts.next batch sent lawful (inputs_of plan) (inputs_are plan numbered) own

  module _ (append : CountsAppend) where
    -- the inputs are there to be taken off when others have come
    pub still_enough : (more now : List Stamp) → IsSameBag now (more ++ parts.table.stamps) → (p : Stamp) → occurrences p (map (input_stamp parts.next) parts.inputs.items) ≤ occurrences p now
    still_enough more now is p =
        let there = enough append parts running inv.counted inv.inputs p in
        let two = append p more parts.table.stamps in
        let all = is p in
        omega (arith, there, two, all)

    -- what is active then
    pub stamps_then : (up : Rises entry_cmp batch) → StampsByEdge → (now then : List Stamp)
        → IsSameBag now (occurring (flat_map (changes_of parts.routes parts.next) (loads_in (inputs_of plan) batch)) ++ parts.table.stamps)
        → IsSameBag now (map (input_stamp parts.next) parts.inputs.items ++ then)
        → IsSameBag (come_released (state_of parts) batch ++ parts.table.stamps) (map (input_stamp parts.next) parts.inputs.items ++ then)
    stamps_then up by_edge now then added off p =
        let changes = flat_map (changes_of parts.routes parts.next) (loads_in (inputs_of plan) batch) in
        let same = batch_changes plan numbered parts.routes inv.routes parts.next batch up accepted append by_edge p in
        let one = append p (come_released (state_of parts) batch) parts.table.stamps in
        let two = append p (occurring changes) parts.table.stamps in
        let up_to = added p in
        let down_to = off p in
        omega (arith, same, one, two, up_to, down_to)

    pub posts_then : (up : Rises entry_cmp batch) → flat_map (messages_of parts.routes parts.next) (loads_in (inputs_of plan) batch) ≡ posts plan (map (entered parts.next) batch)
    posts_then up = batch_posts plan numbered parts.routes inv.routes parts.next batch up accepted

-- RELEASED: the batch stands in its place
module _ (answers : Answers) (laws : BagLaws message_cmp) (append : CountsAppend) (steps : ReachedByStep answers) (moves : StampsMove answers) (parts new : Parts) (batch : List Entry) (pushed : VecDeque (List Entry) Global)
    (inv : IsHall answers parts) (accepted : accepts parts.table.plan batch ≡ true) (running : parts.closed ≡ false) (below : parts.next < ends) (some : 1 ≤ length parts.shards.items)
    (is : IsIn batch parts new) (last : pushed.items ≡ new.batches.items ++ batch ∷ []) where
  abbrev fields : Parts
  fields = record parts { table = new.table; shards = new.shards; batches = pushed; next = parts.next + 1 }

  many : length new.shards.items ≡ length parts.shards.items
  many = as_many_waits parts.shards.items new.shards.items is.posted.waiting

  state_then : state_of fields ≡ with_batch (state_of parts) batch
  state_then = λ i. record (state_of fields) {
    plan = is.plan i;
    workers = many i;
    batches = (last ∙ ap (λ l. l ++ batch ∷ []) is.batches) i;
    messages = posted_bag laws (posts parts.table.plan (map (entered parts.next) batch)) parts.shards.items new.shards.items some is.posted (with_tasks parts.out.items) i;
    buffered = bag_of message_cmp (same_buffered parts.shards.items new.shards.items is.posted.waiting i);
    asked = set_of notification_cmp (same_asked 0 parts.shards.items new.shards.items is.posted.waiting i);
  }

  stepped : release_step (state_of parts) batch ≡ (has_released parts.next, state_of fields)
  stepped = released_step (state_of parts) batch running below ∙ (λ i. (has_released parts.next, sym state_then i))

  counted_then : IsSameBag new.table.stamps (active (state_of fields))
  counted_then p =
      let S = state_of parts in
      let now = state_of fields in
      let moved = moves S now (release batch) (has_released parts.next) inv.reached (accepted, stepped) (is_stamp p) in
      let come = append p (come_released S batch) (active S) in
      let gone = append p (map (input_stamp parts.next) (inputs_of parts.table.plan)) (active now) in
      let had = append p (come_released S batch) parts.table.stamps in
      let has = append p (map (input_stamp parts.next) parts.inputs.items) new.table.stamps in
      let same = ap (λ l. occurrences p (map (input_stamp parts.next) l)) inv.inputs in
      let were = inv.counted p in
      let table = is.stamps p in
      omega (arith, moved, come, gone, had, has, same, were, table)

  hall_then : IsHall answers fields
  hall_then = record {
    reached = steps (state_of parts) (state_of fields) (release batch) (has_released parts.next) inv.reached (accepted, stepped);
    counted = counted_then;
    inputs = inv.inputs ∙ ap inputs_of (sym is.plan);
    shards = posted_shards (posts parts.table.plan (map (entered parts.next) batch)) parts.shards.items new.shards.items is.posted inv.shards;
    few = let few = inv.few in let all = many in omega (arith, few, all);
    next = let end = below in omega (arith, end);
    routes = subst (λ p. IsRoutes p parts.routes) (sym is.plan) inv.routes;
  }

  fields_are : record new { batches = pushed } ≡ fields
  fields_are = ap (λ (f : Parts). let g : Parts = record f { batches = pushed } in g) is.fields

  pub released_hall : IsHall answers (record new { batches = pushed })
  released_hall = subst (IsHall answers) (sym fields_are) hall_then

  pub released_so : release_step (state_of parts) batch ≡ (has_released parts.next, state_of (record new { batches = pushed }))
  released_so = stepped ∙ (λ i. (has_released parts.next, state_of (sym fields_are i)))

-- NOT RELEASED: the state is as it was
module _ (answers : Answers) (laws : BagLaws message_cmp) (parts new : Parts) (inv : IsHall answers parts) (some : 1 ≤ length parts.shards.items) (is : IsAsBefore parts new) where
  abbrev same_parts : Parts
  same_parts = record parts { table = new.table; shards = new.shards; batches = new.batches }

  as_many : length new.shards.items ≡ length parts.shards.items
  as_many = as_many_waits parts.shards.items new.shards.items is.roomier.waiting

  same_state : state_of same_parts ≡ state_of parts
  same_state = λ i. record (state_of same_parts) {
    plan = is.plan i;
    workers = as_many i;
    batches = is.batches i;
    messages = roomier_bag laws parts.shards.items new.shards.items some is.roomier (with_tasks parts.out.items) i;
    buffered = bag_of message_cmp (same_buffered parts.shards.items new.shards.items is.roomier.waiting i);
    asked = set_of notification_cmp (same_asked 0 parts.shards.items new.shards.items is.roomier.waiting i);
  }

  pub as_before_state : state_of new ≡ state_of parts
  as_before_state = ap state_of is.fields ∙ same_state

  same_hall : IsHall answers same_parts
  same_hall = record {
    reached = subst (IsReached answers) (sym same_state) inv.reached;
    counted = subst (λ S. IsSameBag new.table.stamps (active S)) (sym same_state) (λ p. is.stamps p ∙ inv.counted p);
    inputs = inv.inputs ∙ ap inputs_of (sym is.plan);
    shards = roomier_shards parts.shards.items new.shards.items is.roomier inv.shards;
    few = let few = inv.few in let all = as_many in omega (arith, few, all);
    next = inv.next;
    routes = subst (λ p. IsRoutes p parts.routes) (sym is.plan) inv.routes;
  }

  pub as_before_hall : IsHall answers new
  as_before_hall = subst (IsHall answers) (sym is.fields) same_hall
