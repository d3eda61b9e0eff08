-- A hall that is opened: in its shards nothing waits, and the inputs alone are active.
use Rattle.std.proofs.Common.{◌≡◌, ℕ, zero, suc, ◌+◌, ◌-◌, ◌≤◌, false, List, [], ◌∷◌, ◌++◌, map, flat_map, length, replicate, refl, ap, sym, ◌∙◌, subst, arith}
use Rattle.std.specs.List.{AllByRecursion, enumerate_from}
use Rattle.std.specs.List.Sorted.{IsStrictlySortedBy}
use Rattle.std.proofs.lemmas.List.{length-replicate}
use Rattle.td_stamp.specs.Bag.{bag_of, set_of}
use Rattle.td_stamp.specs.States.{StateList}
use Rattle.td_plan.specs.Lines.{Line}
use Rattle.td_calls.specs.Answers.{Answers}
use Rattle.td_reach.specs.Paths.{IsOf}
use Rattle.td_progress.specs.Bag.{IsSameBag, input_stamp}
use Rattle.td_machine.specs.State.{message_cmp, notification_cmp}
use Rattle.td_machine.specs.Active.{active, inputs_of}
use Rattle.td_machine.specs.Steps.{opened, ends}
use Rattle.td_machine.specs.Reached.{IsReached}
use Rattle.td_core.specs.declared.hall.Parts.{Parts}
use Rattle.td_core.specs.Routes.{IsRoutes}
use Rattle.td_core.specs.Parts.{state_of, IsHall, IsShard, empty_shard, in_mailboxes, with_tasks, waiting_in, asked_in}

-- EMPTY SHARDS, so many of them
no_mail : (n : ℕ) → in_mailboxes (replicate n empty_shard) ≡ []
no_mail zero = refl
no_mail (suc n) = no_mail n

none_waits : (n : ℕ) → flat_map waiting_in (replicate n empty_shard) ≡ []
none_waits zero = refl
none_waits (suc n) = none_waits n

none_asked : (k n : ℕ) → flat_map asked_in (enumerate_from k (replicate n empty_shard)) ≡ []
none_asked k zero = refl
none_asked k (suc n) = none_asked (k + 1) n

empty_are : (workers k n : ℕ) → AllByRecursion (IsShard workers) (enumerate_from k (replicate n empty_shard))
unfolding IsStrictlySortedBy
empty_are workers k zero = tt
empty_are workers k (suc n) = (record { messages = tt; items = tt; once = tt }, empty_are workers (k + 1) n)

-- what is true of the parts of a hall that is opened
pub record IsOpened (plan : List Line) (base : StateList) (first workers : ℕ) (parts : Parts) : Type 0 where
  pub plan_is : parts.table.plan ≡ plan
  pub stamps : IsSameBag parts.table.stamps (map (input_stamp first) (inputs_of plan))
  pub inputs : parts.inputs.items ≡ inputs_of plan
  pub base_is : parts.base ≡ first - 1
  pub states : parts.states ≡ base
  pub batches : parts.batches.items ≡ []
  pub next : parts.next ≡ first
  pub closed : parts.closed ≡ false
  pub shards : parts.shards.items ≡ replicate workers empty_shard
  pub seen : parts.seen ≡ []
  pub versions : parts.versions ≡ []
  pub out : parts.out.items ≡ []
  pub outputs : parts.outputs ≡ []
  pub collected : parts.collected ≡ first - 1
  pub taken : parts.taken ≡ 0
  pub given : parts.given ≡ 0
  pub routes : IsRoutes plan parts.routes

module _ (plan : List Line) (base : StateList) (first workers : ℕ) (parts : Parts) (o : IsOpened plan base first workers parts) where
  many : length parts.shards.items ≡ workers
  many = ap length o.shards ∙ length-replicate workers empty_shard

  no_messages : bag_of message_cmp (in_mailboxes parts.shards.items ++ with_tasks parts.out.items) ≡ []
  no_messages = (λ i. bag_of message_cmp (in_mailboxes (o.shards i) ++ with_tasks (o.out i))) ∙ ap (λ l. bag_of message_cmp (l ++ [])) (no_mail workers)

  none_buffered : bag_of message_cmp (flat_map waiting_in parts.shards.items) ≡ []
  none_buffered = ap (λ xs. bag_of message_cmp (flat_map waiting_in xs)) o.shards ∙ ap (bag_of message_cmp) (none_waits workers)

  no_asked : set_of notification_cmp (flat_map asked_in (enumerate_from 0 parts.shards.items)) ≡ []
  no_asked = ap (λ xs. set_of notification_cmp (flat_map asked_in (enumerate_from 0 xs))) o.shards ∙ ap (set_of notification_cmp) (none_asked 0 workers)

  pub opened_state : state_of parts ≡ opened plan base first workers
  opened_state = λ i. record {
    plan = o.plan_is i;
    workers = many i;
    base = o.base_is i;
    base_states = o.states i;
    batches = o.batches i;
    next = o.next i;
    closed = o.closed i;
    messages = no_messages i;
    buffered = none_buffered i;
    seen = o.seen i;
    left = o.versions i;
    asked = no_asked i;
    out = o.out i;
    outputs = o.outputs i;
    collected = o.collected i;
    taken = o.taken i;
    given = o.given i;
  }

  pub opened_hall : (answers : Answers) → IsReached answers (opened plan base first workers) → workers ≤ 16 → first ≤ ends → IsHall answers parts
  opened_hall answers reached few numbers = record {
    reached = subst (IsReached answers) (sym opened_state) reached;
    counted = subst (IsSameBag parts.table.stamps) (sym (ap active opened_state)) o.stamps;
    inputs = o.inputs ∙ sym (ap inputs_of o.plan_is);
    shards = subst (λ xs. AllByRecursion (IsShard (length xs)) (enumerate_from 0 xs)) (sym o.shards) (empty_are (length (replicate workers empty_shard)) 0 workers);
    few = let m = many in omega (arith, m, few);
    next = subst (λ n. n ≤ ends) (sym o.next) numbers;
    routes = subst (λ p. IsRoutes p parts.routes) (sym o.plan_is) o.routes;
  }

-- the inputs of a hall that is opened are of its plan
from_map : {X Y : Type 0} (P : Y → Type 0) (f : X → Y) (xs : List X) → AllByRecursion P (map f xs) → AllByRecursion (λ x. P (f x)) xs
from_map P f [] h = tt
from_map P f (x ∷ xs) h = (h.0, from_map P f xs h.1)

pub inputs_fit : (plan reach : List Line) (inputs : List ℕ) (base : StateList) (first workers : ℕ) → reach ≡ plan → inputs ≡ inputs_of plan
    → AllByRecursion (IsOf plan) (active (opened plan base first workers)) → AllByRecursion (λ v. IsOf reach (input_stamp first v)) inputs
inputs_fit plan reach inputs base first workers r e h =
    subst (λ p. AllByRecursion (λ v. IsOf p (input_stamp first v)) inputs) (sym r) (subst (AllByRecursion (λ v. IsOf plan (input_stamp first v))) (sym e) (from_map (IsOf plan) (input_stamp first) (inputs_of plan) h))
