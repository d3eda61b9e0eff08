-- The laws of the crates below, as they are handed in.
use Rattle.std.proofs.Common.{◌≡◌, ℕ, ◌≤◌, true, false, List, [], ◌++◌}
use Rattle.std.specs.Prelude.{Result, Ok}
use Rattle.td_stamp.specs.States.{StateList, AreStates}
use Rattle.td_plan.specs.Lines.{Line}
use Rattle.td_plan.specs.Tree.{Nodes}
use Rattle.td_calls.specs.Answers.{Answers}
use Rattle.td_batch.specs.Meaning.{run}
use Rattle.td_machine.specs.State.{HallState}
use Rattle.td_machine.specs.Steps.{Event, Answer, Plays}
use Rattle.td_machine.specs.Sound.{Confluence, NeverStuck, batches_of}
use Rattle.td_disk.specs.Disk.{DiskView, DiskState}
use Rattle.td_head.specs.declared.head.Head.{Head}
use Rattle.td_slots.specs.Slot.{are_states}
use Rattle.td_journal.specs.declared.payload.Submitted.{Submitted}
use Rattle.td_store.specs.declared.standing.error.KeeperError.{KeeperError}
use Rattle.td_store.specs.standing.Standing.{Standing, with_more, nothing_told}
use Rattle.td_store.specs.standing.Stops.{Begins, Advance, Stands}
use Rattle.td_store.specs.standing.Told.{Told}
use Rattle.td_store.specs.standing.Tells.{Tells}
use Rattle.td_keeper.specs.declared.command.Command.{Command}
use Rattle.td_keeper.specs.declared.command.Reply.{Reply}
use Rattle.td_keeper.specs.Keeping.{Keeping, IsKeeping}
use Rattle.td_keeper.specs.Driven.{submitted_by, handed_out, HandsOn, Advances, Driven}
use Rattle.td_keeper.specs.Acknowledged.{Acknowledges}
use Rattle.td_theorem.proofs.Broken.{RestLaw}
use Rattle.td_theorem.proofs.Numbers.{OneMore, Joined}
use Rattle.td_theorem.proofs.Histories.{StatesJoin, OutsJoin}

-- OF A DISK: what is read may be left, an image of now is one since any earlier moment, and since now there is no other
pub record OfDisks {D : Type 0} (view : D → DiskView) : Type 0 where
  pub reads_image : (d : D) → (view d).lawful → (view d).state.images (view d).state.bytes
  pub counts_now : (d : D) (t : ℕ) (c : List ℕ) → (view d).lawful → t ≤ (view d).state.moment → (view d).state.images c → (view d).state.since t c
  pub only_now : (d : D) (c : List ℕ) → (view d).lawful → (view d).state.since (view d).state.moment c → (view d).state.images c

-- OF KEEPERS
pub record OfKeepers {D : Type 0} (view : D → DiskView) (answers : Answers) : Type 0 where
  pub rest : RestLaw view answers
  pub acknowledges : (commands : List Command) (replies : List Reply) (old new : Keeping D) → IsKeeping old answers
      → Driven view answers commands replies old new → Acknowledges answers commands replies old new
  pub advances : (commands : List Command) (replies : List Reply) (old new : Keeping D) → IsKeeping old answers → (view old.device).lawful → old.broken ≡ false
      → Driven view answers commands replies old new → Advances view answers old new (submitted_by commands replies)
  pub hands : (commands : List Command) (replies : List Reply) (old new : Keeping D) → IsKeeping old answers
      → Driven view answers commands replies old new → HandsOn answers old new (submitted_by commands replies) (handed_out replies)

-- OF STANDINGS, and of what images tell
pub record OfStandings (answers : Answers) : Type 0 where
  pub first : (nodes : Nodes) → Stands (λ b x. (run answers nodes b x).states) nothing_told []
  pub each : (nodes : Nodes) (s t : Standing) (history submitted : List Submitted)
      → Stands (λ b x. (run answers nodes b x).states) s history
      → Advance (λ b x. (run answers nodes b x).states) (with_more s submitted) t
      → (told : List Submitted) × Begins told (history ++ submitted) × Stands (λ b x. (run answers nodes b x).states) t told
  pub not_yet : (nodes : Nodes) (s : Standing) (x : List Submitted) → Advance (λ b y. (run answers nodes b y).states) (with_more s x) s
  pub together : (plan : List Line) (head : Head) (side : ℕ) (s : Standing) (image : List ℕ) → Tells plan head side s image → Told plan image (Ok s)
  pub apart : (plan : List Line) (s : Standing) (image : List ℕ) → Told plan image (Ok s) → (head : Head) × (side : ℕ) × Tells plan head side s image
  pub one_answer : (plan : List Line) (image : List ℕ) (a b : Result Standing KeeperError) → Told plan image a → Told plan image b → a ≡ b
  pub one_more : OneMore
  pub joined : Joined
  pub in_order : (folds : List ℕ) (states : StateList) → are_states folds states ≡ true → AreStates states

-- OF RUNS AND PLAYS
pub record OfPlays (answers : Answers) : Type 0 where
  pub states_join : StatesJoin answers
  pub outs_join : OutsJoin answers
  pub joined : (S T U : HallState) (events more : List Event) (replies others : List Answer)
      → Plays answers S events replies T → Plays answers T more others U → Plays answers S (events ++ more) (replies ++ others) U
  pub released : (S T : HallState) (events more : List Event) (replies others : List Answer)
      → Plays answers S events replies T → batches_of (events ++ more) (replies ++ others) ≡ batches_of events replies ++ batches_of more others
  pub confluence : Confluence answers
  pub never_stuck : NeverStuck answers
