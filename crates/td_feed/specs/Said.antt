-- What a feed writes: the lines of what its keeper replied, and notes.
use Rattle.std.proofs.Common.{inl, inr}
use Rattle.std.specs.Prelude.{◌≡◌, ◌⊎◌, ℕ, zero, suc, ◌-◌, Bool, true, false, List, [], ◌∷◌, ◌++◌, codes, All, Option, Some, None, IfSome, Result, Ok, Err, OnOk}
use Rattle.std.specs.Fmt.{decimal}
use Rattle.std.specs.Io.KnownBytes.{Appends}
use Rattle.td_stamp.specs.declared.epoch_out.EpochOut.{EpochOut}
use Rattle.td_plan.specs.Lines.{Line as PlanLine}
use Rattle.td_calls.specs.Answers.{Answers}
use Rattle.td_disk.specs.Disk.{DiskView, Rises, IsDurable}
use Rattle.td_gate.specs.CrashSafe.{CrashSafe, Unchanged}
use Rattle.td_journal.specs.declared.payload.Submitted.{Submitted as AnySubmitted}
use Rattle.td_watch.specs.View.{View}
use Rattle.td_store.specs.declared.standing.error.KeeperError.{KeeperError}
use Rattle.td_store.specs.declared.standing.error.KeeperError.TheVariants.{Device, TooManyRecords, Epochs, Foreign}
use Rattle.td_store.specs.standing.Read.{Refused as Refusal}
use Rattle.td_store.specs.standing.Told.{Told}
use Rattle.td_store.specs.standing.Tells.{Keeps}
use Rattle.td_store.specs.standing.Standing.{Standing, last_epoch, last_request}
use Rattle.td_store.specs.standing.Advanced.{HeldWhere}
use Rattle.td_store.specs.standing.Stops.{Begins}
use Rattle.td_keeper.specs.declared.command.Command.{Command}
use Rattle.td_keeper.specs.declared.command.Reply.{Reply}
use Rattle.td_keeper.specs.declared.command.Reply.TheVariants.{Submitted, SubmittedAs, SubmittedAll, Out, Answered, Written, Refused, RefusedAll}
use Rattle.td_keeper.specs.declared.submit_all.GroupError.TheVariants.{Keeper}
use Rattle.td_keeper.specs.declared.command.Command.TheVariants.{SubmitAs, Answer}
use Rattle.td_keeper.specs.declared.receipt.Receipt.TheVariants.{New, Already}
use Rattle.td_keeper.specs.Keeping.{Keeping, IsKeeping, IsFreshlyOpened}
use Rattle.td_keeper.specs.Driven.{submitted_by, AcknowledgesUpTo, Driven}
use Rattle.td_orders.specs.declared.note.Note.{Note}
use Rattle.td_questions.specs.declared.question.Wanted.{Wanted as Of}
use Rattle.td_questions.specs.Lines.{answer_lines}
use Rattle.td_orders.specs.Noted.{Aside, ComeOf, copied_in, note_line}
use Rattle.td_orders.specs.Noted.Aside.{to_say, to_answer, to_copy}
use Rattle.td_head.specs.Layout.{Sizes}
use Rattle.td_feed.specs.Carried.{new_to, is_refused}
use Rattle.td_report.specs.Shown.{IsRefusedAs}
use Rattle.td_console.specs.Answer.{output_text}
use Rattle.td_console.specs.declared.faults.Fault.{Fault}
use Rattle.td_console.specs.declared.faults.Fault.TheVariants.{Memory, Output, Keeper as AsKeeper}
use Rattle.td_console.specs.Refusals.{keeper_fault}

-- `ack E`, `again Q` and `cut E`
abbrev pub ack_line : ℕ → List ℕ
ack_line epoch = codes "ack " ++ decimal epoch ++ 10 ∷ []

-- `ack E` of n epochs from one on
abbrev pub ack_lines : ℕ → ℕ → List ℕ
ack_lines epoch zero = []
ack_lines epoch (suc n) = ack_line epoch ++ ack_lines (suc epoch) n

abbrev pub again_line : ℕ → List ℕ
again_line request = codes "again " ++ decimal request ++ 10 ∷ []

abbrev pub cut_line : ℕ → List ℕ
cut_line epoch = codes "cut " ++ decimal epoch ++ 10 ∷ []

-- `done E`, the mark of an epoch whose output lines are all written
abbrev pub done_line : ℕ → List ℕ
done_line epoch = codes "done " ++ decimal epoch ++ 10 ∷ []

-- `full E`, where the journal is full up to this epoch and nothing more was seen
abbrev pub full_line : ℕ → List ℕ
full_line epoch = codes "full " ++ decimal epoch ++ 10 ∷ []

-- `copied NEW E`, and `not copied NEW: WHAT`
abbrev pub copied_line : List ℕ → ℕ → List ℕ
copied_line name epoch = codes "copied " ++ name ++ 32 ∷ decimal epoch ++ 10 ∷ []

abbrev pub not_copied_line : List ℕ → List ℕ → List ℕ
not_copied_line name why = codes "not copied " ++ (name ++ (codes ": " ++ (why ++ 10 ∷ [])))

-- THE LINES OF AN EPOCH that is handed out: its outputs, and its mark after them, where epochs are marked
abbrev pub out_lines : Bool → EpochOut → List ℕ
out_lines true out = output_text (out ∷ []) ++ done_line out.epoch
out_lines false out = output_text (out ∷ [])

-- the request number of a command, 0 for none
abbrev pub request_in : Command → ℕ
request_in (SubmitAs request batch) = request
request_in _ = 0

-- THE LINES OF A REPLY to a command with this request number: that an epoch is on the disk, or was there already; the outputs of
-- one that is handed out, and its mark where epochs are marked; that a cut is on the disk
abbrev pub line_of : Bool → ℕ → Reply → List ℕ
line_of marks request (Submitted epoch) = ack_line epoch
line_of marks request (SubmittedAs (New epoch)) = ack_line epoch
line_of marks request (SubmittedAs (Already last)) = again_line request
line_of marks request (SubmittedAll first end) = ack_lines first (end - first)
line_of marks request (Out (Some out)) = out_lines marks out
line_of marks request (Written (Some epoch)) = cut_line epoch
line_of marks request _ = []

-- THE LINES OF AN ANSWER to what is wanted of a fold
abbrev pub answer_text : ℕ → Of → Reply → List ℕ
answer_text vertex wanted (Answered epoch entries) = answer_lines epoch vertex wanted entries
answer_text vertex wanted _ = []

-- WHAT IS SAID: the lines of a reply to a command, a note, that the journal is full up to an epoch, the answer to what is wanted of a fold,
-- that a copy of this name and shape was made up to an epoch, or why it was not
pub data Saying : Type 0 where
  replied : Command → Reply → Saying
  aside : Note → Saying
  full : ℕ → Saying
  answered : ℕ → Of → Reply → Saying
  copied : List ℕ → Sizes → ℕ → Saying
  not_copied : List ℕ → Sizes → List ℕ → Saying

-- the commands of what is said, the replies, and the notes with the answers and the copies
abbrev pub commands_in : List Saying → List Command
commands_in [] = []
commands_in (replied command reply ∷ more) = command ∷ commands_in more
commands_in (aside note ∷ more) = commands_in more
commands_in (full epoch ∷ more) = commands_in more
commands_in (answered vertex wanted reply ∷ more) = Answer vertex wanted ∷ commands_in more
commands_in (copied name shape epoch ∷ more) = commands_in more
commands_in (not_copied name shape why ∷ more) = commands_in more

abbrev pub replies_in : List Saying → List Reply
replies_in [] = []
replies_in (replied command reply ∷ more) = reply ∷ replies_in more
replies_in (aside note ∷ more) = replies_in more
replies_in (full epoch ∷ more) = replies_in more
replies_in (answered vertex wanted reply ∷ more) = reply ∷ replies_in more
replies_in (copied name shape epoch ∷ more) = replies_in more
replies_in (not_copied name shape why ∷ more) = replies_in more

abbrev pub notes_among : List Saying → List Aside
notes_among [] = []
notes_among (replied command reply ∷ more) = notes_among more
notes_among (aside note ∷ more) = to_say note ∷ notes_among more
notes_among (full epoch ∷ more) = notes_among more
notes_among (answered vertex wanted reply ∷ more) = to_answer vertex wanted ∷ notes_among more
notes_among (copied name shape epoch ∷ more) = to_copy name shape (Some epoch) ∷ notes_among more
notes_among (not_copied name shape why ∷ more) = to_copy name shape None ∷ notes_among more

-- the lines of it, one after another
abbrev pub lines_of : Bool → List Saying → List ℕ
lines_of marks [] = []
lines_of marks (replied command reply ∷ more) = line_of marks (request_in command) reply ++ lines_of marks more
lines_of marks (aside note ∷ more) = note_line note ++ lines_of marks more
lines_of marks (full epoch ∷ more) = full_line epoch ++ lines_of marks more
lines_of marks (answered vertex wanted reply ∷ more) = answer_text vertex wanted reply ++ lines_of marks more
lines_of marks (copied name shape epoch ∷ more) = copied_line name epoch ++ lines_of marks more
lines_of marks (not_copied name shape why ∷ more) = not_copied_line name why ++ lines_of marks more

-- ALL OUTPUTS of a keeper's epochs were handed out
pub record IsAllOut {D : Type 0} (k : Keeping D) : Type 0 where
  pub collected : k.collected ≡ last_epoch k.standing
  pub none_left : k.queue ≡ []

-- the fault for a refusal
abbrev pub fault_in : Reply → Fault
fault_in (Refused error back) = keeper_fault error
fault_in (RefusedAll (Keeper error) back) = keeper_fault error
fault_in _ = Memory

-- a reply is this refusal
abbrev pub IsRefusal : KeeperError → Reply → Type 0
IsRefusal error (Refused e back) = e ≡ error
IsRefusal error (RefusedAll (Keeper e) back) = e ≡ error
IsRefusal error _ = ⊥

-- among some replies
abbrev pub IsAmong : KeeperError → List Reply → Type 0
IsAmong error [] = ⊥
IsAmong error (reply ∷ replies) = IsRefusal error reply ⊎ IsAmong error replies

-- a refusal in a keeper's words that may be none of its replies: of a line that is one record too many, of a checkpoint that is the last
-- there can be, and of a worker that finds another's task
abbrev pub IsNoReply : KeeperError → Type 0
IsNoReply error = (error ≡ TooManyRecords) ⊎ ((error ≡ Epochs) ⊎ (error ≡ Foreign))

-- A KEEPER'S REFUSAL THAT IS TOLD is one of its replies
abbrev pub IsOfReplies : Fault → List Reply → Type 0
IsOfReplies fault replies = (error : KeeperError) → fault ≡ AsKeeper error → IsNoReply error ⊎ IsAmong error replies

-- WHAT AN INPUT ASKS FOR of a disk with this last epoch and this greatest request number: epochs; notes, answers and copies; and of a stream that refuses
-- epochs how many records one may have
pub record Wanted : Type 0 where
  pub epochs : ℕ → ℕ → List AnySubmitted
  pub notes : ℕ → ℕ → List Aside
  pub limit : Option ℕ

-- epochs alone, whatever the disk has
abbrev pub epochs_alone : List AnySubmitted → Wanted
epochs_alone x = record { epochs = λ told last. x; notes = λ told last. []; limit = None }

module _ {D : Type 0} (view : D → DiskView) (answers : Answers) (marks : Bool) where
  -- A KEEPER WAS TOLD WHAT SUBMITS THESE, and the lines of its replies were appended to what a writer holds, and these notes, answers and
  -- copies beside them, all of them, in order
  pub record Says (before after : Option (List ℕ)) (old new : Keeping D) (x : List AnySubmitted) (notes : List Aside) : Type 0 where
    pub sayings : List Saying
    pub driven : Driven view answers (commands_in sayings) (replies_in sayings) old new
    pub submitted : submitted_by (commands_in sayings) (replies_in sayings) ≡ x
    pub noted : notes_among sayings ≡ notes
    pub said : Appends before after (lines_of marks sayings)

  -- or a beginning of them: what was submitted begins these, no line is written before its reply, and the notes are the first of these; and where
  -- a keeper's refusal ended it, that is one of the replies
  pub record SaysSome (fault : Fault) (before after : Option (List ℕ)) (old new : Keeping D) (x : List AnySubmitted) (notes : List Aside) : Type 0 where
    pub sayings : List Saying
    pub driven : Driven view answers (commands_in sayings) (replies_in sayings) old new
    pub submitted : Begins (submitted_by (commands_in sayings) (replies_in sayings)) x
    pub later : List Aside
    pub noted : notes_among sayings ++ later ≡ notes
    pub text : List ℕ
    pub unsaid : List ℕ
    pub lines : lines_of marks sayings ≡ text ++ unsaid
    pub said : Appends before after text
    pub cause : IsOfReplies fault (replies_in sayings)

  -- or nothing is known of the writer, which failed
  pub record SaysUnheard (old new : Keeping D) (x : List AnySubmitted) : Type 0 where
    pub commands : List Command
    pub replies : List Reply
    pub driven : Driven view answers commands replies old new
    pub submitted : Begins (submitted_by commands replies) x

  -- all of them after Ok, and a beginning at a refusal
  abbrev pub SaysBy : Result (Unit {0}) Fault → Option (List ℕ) → Option (List ℕ) → Keeping D → Keeping D → List AnySubmitted → List Aside → Type 0
  SaysBy (Ok done) before after old new x notes = Says before after old new x notes
  SaysBy (Err fault) before after old new x notes = ((fault ≡ Output) × SaysUnheard old new x) ⊎ SaysSome fault before after old new x notes

  -- A FEED OF A DISK: its keeper is what the disk tells, perhaps with a watch attached, and what was written are the lines of what
  -- that keeper replied; it was told what submits those of these that are new to it; and the disk that is left holds what the keeper
  -- stands for in the end, image by image. Of a keeper that worked alone, with a hall of its own, all outputs went out by an Ok. Where
  -- epochs are refused, one may have as many records as the disk's cells
  pub record SaysFrom (result : Result (Unit {0}) Fault) (plan : List PlanLine) (alone : Bool) (disk left : D) (before after : Option (List ℕ)) (wanted : Wanted) : Type 0 where
    pub keeper : Keeping D
    pub fresh : IsFreshlyOpened keeper
    pub plan_is : keeper.plan ≡ plan
    pub told : (view disk).lawful → Told plan (view keeper.device).state.bytes (Ok keeper.standing)
    pub watch : Option View
    pub kept : IsKeeping (record keeper { watch = watch }) answers
    pub lawful : (view disk).lawful → (view keeper.device).lawful
    pub unwritten : (view disk).lawful → CrashSafe Unchanged (view disk).state (view keeper.device).state
    pub found : (view disk).lawful → Keeps plan keeper.head keeper.side keeper.standing (view keeper.device).state
    pub ended : Keeping D
    pub left_is : left ≡ ended.device
    pub lawful_left : (view disk).lawful → (view left).lawful
    pub holds : (view left).lawful → HeldWhere ended.broken answers ended.plan ended.head ended.side ended.standing (view left).state
    pub limit : IfSome wanted.limit (λ most. most ≡ keeper.head.shape.m)
    pub notes : List Aside
    pub came : ComeOf (wanted.notes (last_epoch keeper.standing) (last_request keeper.standing)) notes
    pub said : SaysBy result before after (record keeper { watch = watch }) ended
        (new_to keeper (wanted.epochs (last_epoch keeper.standing) (last_request keeper.standing))) notes
    pub all_out : alone ≡ true → OnOk result (IsAllOut ended)

  -- OR NO KEEPER WAS FOUND on it: the disk tells this refusal, or a call of it or memory failed; and nothing was written, there or to a writer
  pub record IsUntouched (fault : Fault) (plan : List PlanLine) (disk left : D) (before after : Option (List ℕ)) : Type 0 where
    pub refused : (fault ≡ Memory) ⊎ (((fault ≡ AsKeeper Device) × Rises (view disk).failures (view left).failures)
        ⊎ IsRefusedAs fault (λ error. (view disk).lawful → IsDurable (view left).state × Told plan (view left).state.bytes (Refusal error)))
    pub unwritten : (view disk).lawful → CrashSafe Unchanged (view disk).state (view left).state
    pub said : after ≡ before

  abbrev pub SaysFed : Result (Unit {0}) Fault → List PlanLine → Bool → D → D → Option (List ℕ) → Option (List ℕ) → Wanted → Type 0
  SaysFed (Ok done) plan alone disk left before after wanted = SaysFrom (Ok done) plan alone disk left before after wanted
  SaysFed (Err fault) plan alone disk left before after wanted = IsUntouched fault plan disk left before after ⊎ SaysFrom (Err fault) plan alone disk left before after wanted

  -- the copies of which its lines say that they were made
  abbrev pub copies_said : (result : Result (Unit {0}) Fault) (plan : List PlanLine) (alone : Bool) (disk left : D) (before after : Option (List ℕ)) (wanted : Wanted)
      → SaysFed result plan alone disk left before after wanted → List (List ℕ × ℕ)
  copies_said (Ok done) plan alone disk left before after wanted from = copied_in from.notes
  copies_said (Err fault) plan alone disk left before after wanted (inl untouched) = []
  copies_said (Err fault) plan alone disk left before after wanted (inr from) = copied_in from.notes

module _ {D : Type 0} (view : D → DiskView) (answers : Answers) where
  -- ONE COMMAND that the keeper refused, with this fault
  pub record Refuses (fault : Fault) (command : Command) (old new : Keeping D) : Type 0 where
    pub reply : Reply
    pub refused : is_refused reply ≡ true
    pub fault_is : fault ≡ fault_in reply
    pub driven : Driven view answers (command ∷ []) (reply ∷ []) old new

-- AN IMAGE TELLS EACH EPOCH that some replies acknowledge
pub record TellsAcknowledged (plan : List PlanLine) (replies : List Reply) (image : List ℕ) : Type 0 where
  pub standing : Standing
  pub told : Told plan image (Ok standing)
  pub acknowledged : All (AcknowledgesUpTo (last_epoch standing)) replies
