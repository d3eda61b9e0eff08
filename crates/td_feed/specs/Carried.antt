-- What the calls of a feed leave of a keeper, seen from the keeper before them.
use Rattle.std.specs.Prelude.{◌≡◌, ◌⊎◌, ℕ, ◌+◌, ◌≤◌, Bool, true, false, List, [], ◌∷◌, ◌++◌, length, take, Some}
use Rattle.td_plan.specs.Lines.{Line}
use Rattle.td_calls.specs.Answers.{Answers}
use Rattle.td_disk.specs.Disk.{DiskView}
use Rattle.td_journal.specs.declared.payload.Submitted.{Submitted}
use Rattle.td_journal.specs.Numbers.{greatest}
use Rattle.td_store.specs.group.Groups.{may_follow}
use Rattle.td_store.specs.standing.Standing.{last_epoch, last_request, submission}
use Rattle.td_store.specs.standing.Stops.{Stands}
use Rattle.td_store.specs.standing.Advanced.{states_by}
use Rattle.td_keeper.specs.Keeping.{Keeping}
use Rattle.td_keeper.specs.declared.command.Command.{Command}
use Rattle.td_keeper.specs.declared.command.Command.TheVariants.{Submit, SubmitAs, SubmitAll, WriteCut, CloseFree}
use Rattle.td_keeper.specs.declared.command.Reply.{Reply}
use Rattle.td_keeper.specs.declared.command.Reply.TheVariants.{Refused, RefusedAll}
use Rattle.td_keeper.specs.declared.submit_all.GroupError.TheVariants.{Repeated}
use Rattle.td_orders.specs.Orders.{new_after}
use Rattle.td_feed.specs.Fed.{TellsHistory}

-- a keeper's standing stands for a history
abbrev pub StandsFor : {D : Type 0} → Answers → Keeping D → List Submitted → Type 0
StandsFor answers k history = Stands (states_by answers k.plan) k.standing history

-- THE KEEPER GOES ON with these batches: the device did not fail, what stood for a history stands for it and them, and the
-- last epoch and the greatest request number are raised by theirs
pub record Carries {D : Type 0} (answers : Answers) (old new : Keeping D) (x : List Submitted) : Type 0 where
  pub plan : new.plan ≡ old.plan
  pub whole : new.broken ≡ false
  pub told : last_epoch new.standing ≡ last_epoch old.standing + length x
  pub last : last_request new.standing ≡ greatest (last_request old.standing) x
  pub stands : (history : List Submitted) → StandsFor answers old history → StandsFor answers new (history ++ x)

-- an image tells a history with the first n of more batches, or with k more of them
abbrev pub TellsSome : Answers → List Line → List Submitted → List Submitted → ℕ → ℕ → List ℕ → Type 0
TellsSome answers plan history more n k image = TellsHistory answers plan (history ++ take n more) image ⊎ ((n + k ≤ length more) × TellsHistory answers plan (history ++ take (n + k) more) image)

-- THE DEVICE FAILED, with the first n of more batches submitted, while k more perhaps were: each image tells so many
abbrev pub Stopped : {D : Type 0} → (D → DiskView) → Answers → Keeping D → Keeping D → List Submitted → ℕ → ℕ → Type 0
Stopped view answers old new more n k = (history : List Submitted) → StandsFor answers old history
    → (view new.device).lawful → (c : List ℕ) → (view new.device).state.images c → TellsSome answers old.plan history more n k c

-- WHAT A REFUSAL LEAVES, where more batches were to be submitted: some of them were, or with these the whole group that came next
pub record Leaves {D : Type 0} (view : D → DiskView) (answers : Answers) (old new : Keeping D) (more : List Submitted) : Type 0 where
  pub count : ℕ
  pub group : ℕ
  pub few : count ≤ length more
  pub left : Carries answers old new (take count more) ⊎ Stopped view answers old new more count group

-- what a command would submit
abbrev pub batch_in : Command → List Submitted
batch_in (Submit batch) = submission 0 batch ∷ []
batch_in (SubmitAs request batch) = submission request batch ∷ []
batch_in (SubmitAll group) = group
batch_in _ = []

-- what is new of it to a keeper
abbrev pub new_to : {D : Type 0} → Keeping D → List Submitted → List Submitted
new_to k x = new_after (last_request k.standing) x

-- whether a reply is a refusal
abbrev pub is_refused : Reply → Bool
is_refused (Refused error batch) = true
is_refused (RefusedAll error group) = true
is_refused _ = false

-- whether a command writes nothing to the disk
abbrev pub is_resting : Command → Bool
is_resting (Submit batch) = false
is_resting (SubmitAs request batch) = false
is_resting (SubmitAll group) = false
is_resting WriteCut = false
is_resting (CloseFree most) = false
is_resting _ = true

-- a command submits no group, or one whose request numbers may come after a keeper's
abbrev pub IsRising : {D : Type 0} → Keeping D → Command → Type 0
IsRising k (SubmitAll group) = may_follow (Some (last_request k.standing)) group ≡ true
IsRising k _ = Unit {0}

-- whether a reply says that a request number of a group is repeated
abbrev pub is_repeated : Reply → Bool
is_repeated (RefusedAll Repeated group) = true
is_repeated _ = false
