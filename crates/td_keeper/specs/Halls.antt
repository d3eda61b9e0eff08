-- A keeper and a hall.
use Rattle.std.specs.Prelude.{◌≡◌, ◌⊎◌, ◌≤◌, ℕ, ◌+◌, ◌-◌, max, min, true, false, List, [], ◌∷◌, ◌++◌, length, take, drop, Option, Some, None}
use Rattle.td_stamp.specs.declared.values.Entry.{Entry}
use Rattle.td_stamp.specs.declared.epoch_out.EpochOut.{EpochOut}
use Rattle.td_stamp.specs.States.{StateList}
use Rattle.td_plan.specs.Tree.{tree_of}
use Rattle.td_calls.specs.Answers.{Answers}
use Rattle.td_batch.specs.Meaning.{run, states_after, numbered}
use Rattle.td_machine.specs.State.{HallState}
use Rattle.td_machine.specs.Active.{unpassed, has_passed}
use Rattle.td_machine.specs.Steps.{release_step, collect_step, cut_at_by}
use Rattle.td_machine.specs.Sound.{outs_by}
use Rattle.td_store.specs.standing.Standing.{last_epoch, batches_of}
use Rattle.td_keeper.specs.Keeping.{Keeping, since_base, words_at, published}

-- some batches are a beginning of others
abbrev pub Begin : List (List Entry) → List (List Entry) → Type 0
Begin some all = (rest : List (List Entry)) × (all ≡ some ++ rest)

module _ {D : Type 0} (k : Keeping D) where
  -- A HALL OF THIS KEEPER'S: its plan, its base and the last epoch that was collected are the keeper's, and its batches are a
  -- beginning of the keeper's since that base
  pub record IsOwn (S : HallState) : Type 0 where
    pub plan : S.plan ≡ k.plan
    pub base : S.base ≡ k.base
    pub base_states : S.base_states ≡ k.base_states
    pub collected : S.collected ≡ k.collected
    pub batches : Begin S.batches (since_base k)

  -- it stays one, whatever else was released into it, collected of it or cut; no task was taken, given or lost, and it is no more closed
  pub record StaysOwn (S T : HallState) : Type 0 where
    pub own : IsOwn T
    pub closed : T.closed ≡ S.closed
    pub workers : T.workers ≡ S.workers
    pub out : T.out ≡ S.out

  -- IT IS DONE: it has all batches of the keeper's since the base, and each of their epochs has passed
  pub record IsDone (S : HallState) : Type 0 where
    pub all : S.batches ≡ since_base k
    pub passed : unpassed S ≡ None

  -- the batches that such a hall lacks
  abbrev pub lacking : HallState → List (List Entry)
  lacking S = drop (length S.batches) (since_base k)

  -- the outputs that the batch meaning of what the keeper stands for has after an epoch, up to another, each once and in order
  abbrev pub meant_outs : Answers → ℕ → ℕ → List EpochOut
  meant_outs answers from to = numbered (from + 1) (take (to - from) (drop (from - k.standing.epoch) (run answers (tree_of k.plan) k.standing.states (batches_of k.standing.submitted)).outs))

  -- the states that the batch meaning of what the keeper stands for has after its last epoch
  abbrev pub last_states : Answers → StateList
  last_states answers = states_after answers (tree_of k.plan) k.standing.states (batches_of k.standing.submitted) (last_epoch k.standing - k.standing.epoch)

  -- a hall in which that epoch was not released, or has not passed
  abbrev pub LacksLast : HallState → Type 0
  LacksLast S = (S.next ≤ last_epoch k.standing) ⊎ (has_passed S (last_epoch k.standing) ≡ false)

  -- the keeper after all that a hall collects was brought into the queue
  abbrev pub with_collected : HallState → Keeping D
  with_collected S = record k {
    collected = (collect_step S).1.collected;
    queue = k.queue ++ outs_by (collect_step S).0;
    watch = published k.watch (words_at k.standing (collect_step S).1.collected);
  }

  -- with a cut of a hall as its base, which waits to be written
  abbrev pub with_cut : HallState → Keeping D
  with_cut S = record k { base = S.base; base_states = S.base_states; waiting = true }

-- a hall after these batches were released into it, one after another
abbrev pub with_released : HallState → List (List Entry) → HallState
with_released S [] = S
with_released S (batch ∷ more) = with_released (release_step S batch).1 more

-- a hall after it collected
abbrev pub collected_hall : HallState → HallState
collected_hall S = (collect_step S).1

-- the last released epoch up to which all have passed
abbrev pub before_unpassed : ℕ → Option ℕ → ℕ
before_unpassed next None = next - 1
before_unpassed next (Some e) = e - 1

abbrev pub last_passed : HallState → ℕ
last_passed S = before_unpassed S.next (unpassed S)

-- WHERE A HALL IS CUT: there, or up to a given epoch; and never before its base
abbrev pub place_between : ℕ → ℕ → Option ℕ → ℕ
place_between base last None = last
place_between base last (Some most) = max base (min most last)

abbrev pub cut_place : Option ℕ → HallState → ℕ
cut_place most S = place_between S.base (last_passed S) most

-- a hall after it was cut there
abbrev pub cut_hall_up_to : Option ℕ → HallState → HallState
cut_hall_up_to most S = (cut_at_by S (has_passed S (cut_place most S)) (cut_place most S)).1

abbrev pub cut_hall : HallState → HallState
cut_hall S = cut_hall_up_to None S

-- A KEEPER WITH A HALL OF ITS OWN
pub record KeeperAndHall (D : Type 0) : Type 0 where
  pub keeping : Keeping D
  pub hall : HallState

-- AN ENGINE'S HALL: the keeper's own, open, with one shard, and no task of it is out
pub record IsAtHome {D : Type 0} (k : Keeping D) (S : HallState) : Type 0 where
  pub own : IsOwn k S
  pub not_closed : S.closed ≡ false
  pub alone : S.workers ≡ 1
  pub none_out : S.out ≡ []
