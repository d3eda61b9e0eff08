-- The steps of a feed under way: what comes of each call, and when a cut is due that no order asks for.
use Rattle.std.specs.Prelude.{◌≡◌, ◌⊎◌, ◌↔◌, ℕ, ◌≤◌, Bool, true, false, List, [], length, Option, Some, None, Result, Ok, Err, IfErr}
use Rattle.td_calls.specs.Answers.{Answers}
use Rattle.td_disk.specs.Disk.{DiskView}
use Rattle.td_machine.specs.State.{HallState}
use Rattle.td_journal.specs.declared.payload.Submitted.{Submitted as AnySubmitted}
use Rattle.td_store.specs.declared.standing.error.KeeperError.{KeeperError}
use Rattle.td_keeper.specs.declared.command.Command.{Command}
use Rattle.td_keeper.specs.declared.command.Reply.{Reply}
use Rattle.td_keeper.specs.Keeping.{Keeping, IsKeeping, with_checkpoint}
use Rattle.td_keeper.specs.Calls.{HoldsStanding}
use Rattle.td_keeper.specs.Halls.{IsDone}
use Rattle.td_keeper.specs.Driven.{may_write, Obeys}
use Rattle.td_console.specs.declared.faults.Fault.{Fault}
use Rattle.td_console.specs.Refusals.{keeper_fault}
use Rattle.td_orders.specs.declared.source.Asked.{Asked}
use Rattle.td_orders.specs.Scripts.{asked_for, notes_for}
use Rattle.td_feed.specs.declared.under_way.Pace.{Pace}
use Rattle.td_feed.specs.declared.under_way.Pace.TheVariants.{AtEnd, Live}
use Rattle.td_feed.specs.Carried.{new_to, is_refused, is_repeated, is_resting, IsRising, Carries}
use Rattle.td_feed.specs.Caused.{is_of_keeper, IsOfWriter}
use Rattle.td_feed.specs.Copied.{Copied}
use Rattle.td_feed.specs.Fed.{HasRoom}
use Rattle.td_feed.specs.Held.{SameBase, KeepsTo, MovesBase}
use Rattle.td_feed.specs.Said.{fault_in, IsAllOut}
use Rattle.td_feed.specs.Session.{KeepsDisk, Feeds, FeedsCopying, IsObeyed, IsNotObeyed}

-- what a keeper answers, as a feed does
abbrev pub faulted : {T : Type 0} → Result T KeeperError → Result (Unit {0}) Fault
faulted (Ok answer) = Ok tt
faulted (Err error) = Err (keeper_fault error)

-- a reply, as a feed answers it
abbrev pub outcome_if : Bool → Fault → Result (Unit {0}) Fault
outcome_if true fault = Err fault
outcome_if false fault = Ok tt

abbrev pub outcome_of : Reply → Result (Unit {0}) Fault
outcome_of reply = outcome_if (is_refused reply) (fault_in reply)

module _ {D : Type 0} (view : D → DiskView) (answers : Answers) where
  -- WHAT IS KNOWN of each keeper: its memory is right, and a lawful disk of it holds what it stands for
  pub record IsKnown (k : Keeping D) : Type 0 where
    pub kept : IsKeeping k answers
    pub holds : HoldsStanding view answers k

  -- WHAT COMES OF ONE COMMAND, by its reply
  pub record Comes (command : Command) (reply : Reply) (old new : Keeping D) : Type 0 where
    pub disk : KeepsDisk view (outcome_of reply) old.device new.device
    pub obeyed : is_refused reply ≡ false → IsObeyed view answers command reply old new
    pub refused : is_refused reply ≡ true → IsNotObeyed view answers (fault_in reply) command old new
    pub new_one : is_repeated reply ≡ false
    -- one that writes nothing, whatever the reply is
    pub rests : is_resting command ≡ true → Carries answers old new []
    pub stands : is_resting command ≡ true → new.standing ≡ old.standing
    pub base : MovesBase command old new

  -- of each command that a keeper may be told, and of each reply
  abbrev pub EachComes : Type 0
  EachComes = (command : Command) (reply : Reply) (old new : Keeping D) → IsKnown old → IsKnown new → Obeys view answers command reply old new
      → old.broken ≡ false → IsRising old command
      → (view new.device).capacity ≡ (view old.device).capacity → ((view old.device).lawful ↔ (view new.device).lawful)
      → Comes command reply old new

  -- of each that does not write to the disk
  abbrev pub EachRests : Type 0
  EachRests = (command : Command) (reply : Reply) (old new : Keeping D) → may_write command ≡ false → IsKnown old → IsKnown new → Obeys view answers command reply old new
      → old.broken ≡ false → Comes command reply old new

  -- NOTHING IS WRITTEN by a call but to the disk, nor submitted
  pub record IsQuiet (result : Result (Unit {0}) Fault) (old new : Keeping D) : Type 0 where
    pub disk : KeepsDisk view result old.device new.device
    pub fed : (marks : Bool) (held : Option (List ℕ)) → Feeds view answers marks result held held old new []
    pub fault : IfErr result (λ f. is_of_keeper f ≡ true)

-- WHAT THE DISK HAS STAYS, and how far it is kept
pub record Stays {D : Type 0} (answers : Answers) (old new : Keeping D) : Type 0 where
  pub rests : Carries answers old new []
  pub stands : new.standing ≡ old.standing
  pub base : SameBase old new

-- A HALL OF ITS OWN IS SETTLED: all its epochs have passed, and all outputs went out
pub record IsSettled {D : Type 0} (k : Keeping D) (S : HallState) : Type 0 where
  pub all_out : IsAllOut k
  pub done : IsDone k S

-- THE CUT THAT WAITED IS THE CHECKPOINT of a keeper that was right
pub record IsCheckpointed {D : Type 0} (answers : Answers) (old new : Keeping D) : Type 0 where
  pub kept : IsKeeping old answers
  pub new_is : new ≡ with_checkpoint old new.device

-- what was seen is kept, where outputs are held
abbrev pub KeepsSeen : Option ℕ → ℕ → Type 0
KeepsSeen None kept = ⊥
KeepsSeen (Some seen) kept = seen ≤ kept

-- A CUT WAS WRITTEN just now: no epoch stands on the journal, or all that was seen is kept
abbrev pub HasCut : {D : Type 0} → Option ℕ → Keeping D → Type 0
HasCut seen k = (length k.standing.submitted ≡ 0) ⊎ KeepsSeen seen k.standing.epoch

-- NO CUT IS DUE: it was written; or the journal has room for an epoch, and has fewer of them than there may stand up to a cut
abbrev pub IsInTime : {D : Type 0} → Option ℕ → Option ℕ → Keeping D → Type 0
IsInTime every seen k = HasCut seen k ⊎ HasRoom every k.head.shape.n k.standing

-- nor at this pace
abbrev pub KeepsPace : {D : Type 0} → Pace → Option ℕ → Keeping D → Type 0
KeepsPace AtEnd seen k = Unit {0}
KeepsPace (Live every hold) seen k = IsInTime every seen k

module _ {D W : Type 0} (view : D → DiskView) (answers : Answers) (marks : Bool) (has : W → ℕ → Type 0) where
  -- A STEP: these are submitted, and the lines of the keeper's replies are written. Nothing is kept beyond what was seen
  pub record Steps (seen : Option ℕ) (result : Result (Unit {0}) Fault) (before after : Option (List ℕ)) (old new : Keeping D) (x : List AnySubmitted) : Type 0 where
    pub disk : KeepsDisk view result old.device new.device
    pub fed : Feeds view answers marks result before after old new x
    pub held : KeepsTo seen old new
    pub fault : IfErr result (IsOfWriter has)

  -- WHAT IS ASKED FOR IS DONE, copies too
  pub record Does {E : Type 0} (new_view : E → DiskView) (seen : Option ℕ) (result : Result (Unit {0}) Fault) (before after : Option (List ℕ)) (had has_then : Option (List (Copied E))) (old new : Keeping D) (asked : Asked) : Type 0 where
    pub disk : KeepsDisk view result old.device new.device
    pub fed : FeedsCopying view answers marks new_view result before after had has_then old new (new_to old (asked_for asked)) (notes_for asked)
    pub held : KeepsTo seen old new
    pub fault : IfErr result (IsOfWriter has)
