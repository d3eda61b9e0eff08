-- A life of a disk: keepers stand on it, one after another, and each finds what the one before it left.
use Rattle.std.specs.Prelude.{◌≡◌, ℕ, List, [], ◌∷◌, ◌++◌, Option, Ok}
use Rattle.td_stamp.specs.declared.epoch_out.EpochOut.{EpochOut}
use Rattle.td_plan.specs.Lines.{Line}
use Rattle.td_calls.specs.Answers.{Answers}
use Rattle.td_disk.specs.Disk.{DiskView, DiskState}
use Rattle.td_gate.specs.CrashSafe.{CrashSafe, Unchanged}
use Rattle.td_watch.specs.View.{View}
use Rattle.td_journal.specs.declared.payload.Submitted.{Submitted}
use Rattle.td_store.specs.standing.Standing.{Standing}
use Rattle.td_store.specs.standing.Told.{Told}
use Rattle.td_store.specs.standing.Tells.{Keeps}
use Rattle.td_store.specs.standing.Advanced.{HeldWhere}
use Rattle.td_keeper.specs.declared.command.Command.{Command}
use Rattle.td_keeper.specs.declared.command.Reply.{Reply}
use Rattle.td_keeper.specs.Keeping.{Keeping, IsKeeping, IsFreshlyOpened}
use Rattle.td_keeper.specs.Driven.{submitted_by, handed_out, Obeys}
use Rattle.td_keeper.specs.Acknowledged.{Epoch, acknowledged_by}

-- A STINT: a keeper is found on a disk, told commands, and stands so after its replies; it is told more, and a crash leaves this image.
pub record Stint (D : Type 0) : Type 0 where
  pub disk : D
  pub found : Keeping D
  pub commands : List Command
  pub replies : List Reply
  pub stood : Keeping D
  pub more : List Command
  pub unseen : List Reply
  pub ended : Keeping D
  pub left : List ℕ

-- of its parts
abbrev pub stint_of : {D : Type 0} → D → Keeping D → List Command → List Reply → Keeping D → List Command → List Reply → Keeping D → List ℕ → Stint D
stint_of disk found commands replies stood more unseen ended left = record {
  disk = disk;
  found = found;
  commands = commands;
  replies = replies;
  stood = stood;
  more = more;
  unseen = unseen;
  ended = ended;
  left = left;
}

-- what it submitted, also by those commands whose replies nobody may have seen
abbrev pub submitted_in_stint : {D : Type 0} → Stint D → List Submitted
submitted_in_stint s = submitted_by s.commands s.replies ++ submitted_by s.more s.unseen

-- what was acknowledged in some stints, one after another: each batch with its epoch, as it was replied
abbrev pub acknowledged_in_life : {D : Type 0} → List (Stint D) → List Epoch
acknowledged_in_life [] = []
acknowledged_in_life (s ∷ more) = acknowledged_by s.commands s.replies ++ acknowledged_in_life more

-- and what was handed out
abbrev pub handed_in_life : {D : Type 0} → List (Stint D) → List EpochOut
handed_in_life [] = []
handed_in_life (s ∷ more) = handed_out s.replies ++ handed_in_life more

-- A DISK TELLS WHAT AN IMAGE TELLS: it has those bytes, or it is a copy, or its head was raised.
abbrev pub TellsAs : List Line → List ℕ → DiskState → Type 0
TellsAs plan image state = (c : List ℕ) (s : Standing) → state.images c → Told plan image (Ok s) → Told plan c (Ok s)

module _ {D : Type 0} (view : D → DiskView) (answers : Answers) where
  -- COMMANDS ARE OBEYED, one after another, each as its reply says. Before each of them, and after the last, another watch may be attached, or
  -- none: nothing else changes between them, and a keeper's memory is right.
  abbrev pub Obeyed : List Command → List Reply → Keeping D → Keeping D → Type 0
  Obeyed [] [] old new = (watch : Option View) × (new ≡ record old { watch = watch })
  Obeyed [] (reply ∷ replies) old new = ⊥
  Obeyed (command ∷ commands) [] old new = ⊥
  Obeyed (command ∷ commands) (reply ∷ replies) old new =
      (watch : Option View) × (mid : Keeping D) × IsKeeping mid answers × Obeys view answers command reply (record old { watch = watch }) mid
      × Obeyed commands replies mid new

module _ {D : Type 0} (view : D → DiskView) (answers : Answers) (plan : List Line) where
  -- WHAT MAKES A STINT: the keeper is found as recovery answers it, does as each reply says, and is stopped at any moment after.
  pub record IsStint (s : Stint D) : Type 0 where
    -- found: nothing was written, the disk keeps what the keeper stands for, and nothing is known beside it
    pub unwritten : CrashSafe Unchanged (view s.disk).state (view s.found.device).state
    pub lawful : (view s.found.device).lawful
    pub for_plan : s.found.plan ≡ plan
    pub keeps : Keeps plan s.found.head s.found.side s.found.standing (view s.found.device).state
    pub fresh : IsFreshlyOpened s.found
    pub kept : IsKeeping s.found answers
    -- told commands, each with its reply; the disk then holds what the keeper stands for, as that of each keeper does
    pub obeyed : Obeyed view answers s.commands s.replies s.found s.stood
    pub held : HeldWhere s.stood.broken answers s.stood.plan s.stood.head s.stood.side s.stood.standing (view s.stood.device).state
    -- stopped before more commands, in the middle of them, of a write too, or after them: what they come to, and what is left
    pub stopped : Obeyed view answers s.more s.unseen s.stood s.ended
    pub crashed : (view s.ended.device).state.since (view s.stood.device).state.moment s.left

  -- A LIFE from one image to another: stints, one after another, each on a disk that tells what the last one left.
  abbrev pub Life : List ℕ → List (Stint D) → List ℕ → Type 0
  Life from [] to = to ≡ from
  Life from (s ∷ more) to = TellsAs plan from (view s.disk).state × IsStint s × Life s.left more to

  -- A RUN IS A STINT: commands that were given on a disk, with their replies, and the keeper that stood then. Whatever is given more, and
  -- whatever a crash leaves since, that makes a stint of it.
  abbrev pub IsRun : D → List Command → List Reply → Keeping D → Type 0
  IsRun disk commands replies stood = (found : Keeping D) × ((more : List Command) (unseen : List Reply) (ended : Keeping D) (left : List ℕ)
      → Obeyed view answers more unseen stood ended → (view ended.device).state.since (view stood.device).state.moment left
      → IsStint (stint_of disk found commands replies stood more unseen ended left))
