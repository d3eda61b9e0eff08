-- What a call does with a disk, with a keeper at work and with a writer, by its answer.
use Rattle.std.specs.Prelude.{◌≡◌, ◌⊎◌, ℕ, Bool, false, true, List, [], ◌∷◌, ◌++◌, length, All, Option, Some, None, Result, Ok, OnOk, OnErr, IsErr}
use Rattle.td_plan.specs.Lines.{Line as PlanLine}
use Rattle.td_plan.specs.Blocks.{vertices}
use Rattle.td_calls.specs.Answers.{Answers}
use Rattle.td_calls.specs.declared.error.CallsError.{CallsError}
use Rattle.td_calls.specs.Fits.{first_lack}
use Rattle.td_calls.specs.Stored.{Codes}
use Rattle.td_watch.specs.View.{View}
use Rattle.td_head.specs.declared.head.Head.{Head}
use Rattle.td_disk.specs.Disk.{DiskView, DiskState}
use Rattle.td_journal.specs.declared.payload.Submitted.{Submitted as AnySubmitted}
use Rattle.td_journal.specs.Numbers.{greatest}
use Rattle.td_store.specs.declared.standing.error.KeeperError.TheVariants.{Device}
use Rattle.td_store.specs.standing.Standing.{Standing, last_epoch, last_request}
use Rattle.td_store.specs.standing.Told.{Told}
use Rattle.td_store.specs.standing.Tells.{Keeps}
use Rattle.td_store.specs.standing.Stops.{Begins}
use Rattle.td_keeper.specs.declared.command.Command.{Command}
use Rattle.td_keeper.specs.declared.command.Reply.{Reply}
use Rattle.td_disk.specs.Calls.{KeepsDevice}
use Rattle.td_keeper.specs.Keeping.{Keeping, EachKeepsTo, EverKeepsTo, IsSameWatch, HasPublished, words_at}
use Rattle.td_keeper.specs.Driven.{submitted_in, Obeys, Driven}
use Rattle.td_console.specs.declared.faults.Fault.{Fault}
use Rattle.td_console.specs.declared.faults.Fault.TheVariants.{Keeper}
use Rattle.td_feed.specs.declared.session.StreamOptions.{StreamOptions}
use Rattle.td_orders.specs.Noted.{Aside, ComeOf, copied_in}
use Rattle.td_orders.specs.Orders.{submissions, notes_in, new_after}
use Rattle.td_orders.specs.Scripts.{Script, script_of}
use Rattle.td_orders.specs.Placed.{placed}
use Rattle.td_feed.specs.Fed.{EachTellsHistory, EachTellsSome, TellsOnward, IsCutInTime}
use Rattle.td_feed.specs.declared.under_way.Pace.{Pace}
use Rattle.td_feed.specs.declared.under_way.Pace.TheVariants.{Live}
use Rattle.td_feed.specs.Held.{TellsSeen, first_seen, seen_after}
use Rattle.td_feed.specs.Carried.{batch_in, new_to, is_refused, Carries, Leaves}
use Rattle.td_feed.specs.Copied.{Copied, with_copies, labels, IsCopyOf, MakesCopies}
use Rattle.td_feed.specs.Said.{Wanted, SaysBy, SaysFed, copies_said, Refuses}

-- the first vertex of a plan whose closure is lacking
abbrev pub lack_of : Codes → List PlanLine → Option CallsError
lack_of stored plan = first_lack stored (vertices plan)

-- how many records an epoch may have, where a stream refuses epochs
abbrev pub limit_of : Bool → ℕ → Option ℕ
limit_of true records = Some records
limit_of false records = None

-- what a script asks for, of a stream that refuses epochs or not
abbrev pub wanted_by : Bool → Option ℕ → Script → Wanted
wanted_by refuse limit script = record {
  epochs = λ told last. submissions (placed refuse told last script).orders;
  notes = λ told last. notes_in (placed refuse told last script).orders;
  limit = limit;
}

-- the script of a stream's input, by its options, where an epoch of the disk has at most so many records
abbrev pub script_by : StreamOptions → ℕ → List PlanLine → List ℕ → Script
script_by how records plan input = script_of how.placing how.hold how.questions how.copies (limit_of how.refuse records) plan input

-- that script at the disk of a keeper
abbrev pub asked_at : {D : Type 0} → StreamOptions → List PlanLine → Keeping D → List ℕ → Script
asked_at how plan k input = placed how.refuse (last_epoch k.standing) (last_request k.standing) (script_by how k.head.shape.m plan input)

-- at which pace a stream goes
abbrev pub pace_of : StreamOptions → Pace
pace_of how = Live how.cut_every how.hold

-- and what it asks for
abbrev pub wanted_of : StreamOptions → ℕ → List PlanLine → List ℕ → Wanted
wanted_of how records plan input = wanted_by how.refuse (limit_of how.refuse records) (script_by how records plan input)

-- THE DISK IS KEPT: it is as large as it was, and as lawful; and its device is told to have failed exactly where it did
abbrev pub KeepsDisk : {D T : Type 0} → (D → DiskView) → Result T Fault → D → D → Type 0
KeepsDisk view result old new = KeepsDevice view (Keeper Device) result old new

module _ {D : Type 0} (view : D → DiskView) (answers : Answers) where
  -- ONE COMMAND WAS OBEYED: the reply is no refusal, and the keeper goes on with what it submitted
  pub record IsObeyed (command : Command) (reply : Reply) (old new : Keeping D) : Type 0 where
    pub obeyed : Obeys view answers command reply old new
    pub driven : Driven view answers (command ∷ []) (reply ∷ []) old new
    pub done : is_refused reply ≡ false
    pub carried : Carries answers old new (submitted_in command reply)

  -- or it was refused
  pub record IsNotObeyed (fault : Fault) (command : Command) (old new : Keeping D) : Type 0 where
    pub refused : Refuses view answers fault command old new
    pub left : Leaves view answers old new (new_to old (batch_in command))
    pub submitted : Begins (submitted_in command refused.reply) (new_to old (batch_in command))

module _ {D : Type 0} (view : D → DiskView) (answers : Answers) (marks : Bool) where
  -- THESE ARE FED, and these noted, answered or copied: after Ok the keeper goes on with all of them, after a refusal with some; and what was
  -- written are the lines of its replies, the notes, the answers, and those of the copies
  pub record FeedsNoting (result : Result (Unit {0}) Fault) (before after : Option (List ℕ)) (old new : Keeping D) (x : List AnySubmitted) (notes : List Aside) : Type 0 where
    pub carried : OnOk result (Carries answers old new x)
    pub left : OnErr result (Leaves view answers old new x)
    pub said : SaysBy view answers marks result before after old new x notes

  -- with no note and no answer
  abbrev pub Feeds : Result (Unit {0}) Fault → Option (List ℕ) → Option (List ℕ) → Keeping D → Keeping D → List AnySubmitted → Type 0
  Feeds result before after old new x = FeedsNoting result before after old new x []

  -- A DISK IS FED, of an input that asks for these
  pub record FeedsDisk (result : Result (Unit {0}) Fault) (plan : List PlanLine) (alone : Bool) (disk left : D) (before after : Option (List ℕ)) (wanted : Wanted) : Type 0 where
    -- one that stood for a history, whatever a crash had left of it, stands after Ok for that and each of these that is new: has no
    -- request number, or one that is above all before
    pub fed : OnOk result ((view disk).lawful → (history : List AnySubmitted) → EachTellsHistory answers plan history (view disk).state
        → EachTellsHistory answers plan (history ++ new_after (greatest 0 history) (wanted.epochs (length history) (greatest 0 history))) (view left).state)
    -- at any answer it stands for that and a beginning of them: some number of them, or with these the whole group that came next
    pub safe : (view disk).lawful → (history : List AnySubmitted) → EachTellsHistory answers plan history (view disk).state
        → EachTellsSome answers plan history (new_after (greatest 0 history) (wanted.epochs (length history) (greatest 0 history))) (view left).state
    -- AND AT EACH MOMENT meanwhile, in the middle of a write too, whatever a crash left tells that history and a beginning of them
    pub ever : (view disk).lawful → (history : List AnySubmitted) → EachTellsHistory answers plan history (view disk).state
        → (c : List ℕ) → (view left).state.since (view disk).state.moment c
        → TellsOnward answers plan history (new_after (greatest 0 history) (wanted.epochs (length history) (greatest 0 history))) c
    -- what is written are the lines of what the keeper of the disk replied, and the notes, one after another: all of them after Ok, and
    -- a beginning of them at a refusal, where the writer did not fail
    pub said : SaysFed view answers marks result plan alone disk left before after wanted

  -- A DISK IS FED AS THE INPUT COMES: what its script asks for, where epochs have places or not; Ok is answered only to one without a fault,
  -- and a gap is one, unless epochs are refused. Of a stream that refuses epochs, one may have so many records
  pub record StreamsDisk (how : StreamOptions) (result : Result (Unit {0}) Fault) (plan : List PlanLine) (alone : Bool) (disk left : D) (before after : Option (List ℕ)) (input : List ℕ) : Type 0 where
    pub records : ℕ
    pub sound : OnOk result ((script_by how records plan input).fault ≡ None)
    pub no_gap : OnOk result ((view disk).lawful → (history : List AnySubmitted) → EachTellsHistory answers plan history (view disk).state
        → (placed how.refuse (length history) (greatest 0 history) (script_by how records plan input)).fault ≡ None)
    pub fed : FeedsDisk result plan alone disk left before after (wanted_of how records plan input)
    -- by one worker, where no outputs are held, no cut is due after Ok: none stands on the journal, or it has room, and fewer than `cut_every`
    pub in_time : alone ≡ true → how.hold ≡ false → OnOk result ((view disk).lawful → IsCutInTime plan how.cut_every (view left).state)
    -- where outputs are held, nothing is kept beyond the last epoch that the input says was seen, whatever a crash leaves: so each later
    -- stream writes again the outputs of every epoch after it
    pub held : how.hold ≡ true → (view disk).lawful → (kept : ℕ) → EachKeepsTo plan kept (view disk).state
        → EachKeepsTo plan (seen_after kept (script_by how records plan input).orders) (view left).state
    -- nor whatever a crash left at any moment of the stream, in the middle of a write too
    pub ever_held : how.hold ≡ true → (view disk).lawful → (kept : ℕ) → EachKeepsTo plan kept (view disk).state
        → EverKeepsTo plan (seen_after kept (script_by how records plan input).orders) (view disk).state.moment (view left).state

-- A WATCH TELLS how far a disk has come: its last epoch, some epoch that was collected, and the one that it keeps
pub record TellsWatch (plan : List PlanLine) (state : DiskState) (watch : Option View) : Type 0 where
  pub head : Head
  pub side : ℕ
  pub standing : Standing
  pub keeps : Keeps plan head side standing state
  pub collected : ℕ
  pub published : HasPublished watch (words_at standing collected)

module _ {D : Type 0} (view : D → DiskView) where
  -- A WATCH THAT IS GIVEN STAYS ATTACHED, and comes back; and after Ok it tells how far the disk has come
  pub record Watches (result : Result (Unit {0}) Fault) (plan : List PlanLine) (disk left : D) (given back : Option View) : Type 0 where
    pub same : IsSameWatch given back
    pub told : OnOk result ((view disk).lawful → TellsWatch plan (view left).state back)

  -- THE HOST IS TOLD WHAT WAS SEEN, where outputs are held: at first the epoch that the disk keeps, and then that of each line that was
  -- taken, after Ok of all
  pub record SeesDisk (how : StreamOptions) (result : Result (Unit {0}) Fault) (plan : List PlanLine) (disk : D) (before after : Option ℕ) (input : List ℕ) : Type 0 where
    pub records : ℕ
    pub standing : Standing
    pub told : (view disk).lawful → (c : List ℕ) × (view disk).state.images c × Told plan c (Ok standing)
    pub seen : TellsSeen result (first_seen how.hold standing.epoch)
        (placed how.refuse (last_epoch standing) (last_request standing) (script_by how records plan input)).orders before after

  -- or no keeper was found on the disk, and it is told nothing
  abbrev pub SeesOrNot : StreamOptions → Result (Unit {0}) Fault → List PlanLine → D → Option ℕ → Option ℕ → List ℕ → Type 0
  SeesOrNot how result plan disk before after input =
      (IsErr result × (after ≡ before)) ⊎ SeesDisk how result plan disk before after input

  -- WHAT STANDS AROUND A STREAM is told: its host what was seen, and the watch how far the disk has come
  pub record TellsAround (how : StreamOptions) (result : Result (Unit {0}) Fault) (plan : List PlanLine) (disk left : D) (before after : Option ℕ) (given back : Option View) (input : List ℕ) : Type 0 where
    pub seen : SeesOrNot how result plan disk before after input
    pub watch : Watches result plan disk left given back

module _ {D E : Type 0} (view : D → DiskView) (answers : Answers) (marks : Bool) (new_view : E → DiskView) where
  -- THESE ARE FED, and what is asked for beside them is done: the lines say which copies were made, and these are kept
  pub record FeedsCopying (result : Result (Unit {0}) Fault) (before after : Option (List ℕ)) (had has : Option (List (Copied E))) (old new : Keeping D) (x : List AnySubmitted) (asked : List Aside) : Type 0 where
    pub done : List Aside
    pub came : ComeOf asked done
    pub fed : FeedsNoting view answers marks result before after old new x done
    pub copied : MakesCopies view new_view answers (copied_in done) had has old x

  -- A SCRIPT IS FED, those of its batches that are new to the keeper, and what it asks for beside is done; and Ok is answered only to one
  -- without a fault
  pub record FeedsScript (result : Result (Unit {0}) Fault) (before after : Option (List ℕ)) (had has : Option (List (Copied E))) (old new : Keeping D) (script : Script) : Type 0 where
    pub sound : OnOk result (script.fault ≡ None)
    pub fed : FeedsCopying result before after had has old new (new_to old (submissions script.orders)) (notes_in script.orders)

  -- COPIES OF A DISK WERE MADE, those of which the lines say so, and are kept: each is of the history for which the disk stood, with what is
  -- new of what the input asks for
  pub record CopiesDisk (plan : List PlanLine) (said : List (List ℕ × ℕ)) (had has : Option (List (Copied E))) (disk : D) (wanted : Wanted) : Type 0 where
    pub made : List (Copied E)
    pub kept : has ≡ with_copies had made
    pub labelled : labels made ≡ said
    pub each : (view disk).lawful → (history : List AnySubmitted) → EachTellsHistory answers plan history (view disk).state
        → All (IsCopyOf new_view answers plan (history ++ new_after (greatest 0 history) (wanted.epochs (length history) (greatest 0 history)))) made

  -- AND COPIED, where it asks for that
  pub record StreamsCopying (how : StreamOptions) (result : Result (Unit {0}) Fault) (plan : List PlanLine) (alone : Bool) (disk left : D) (before after : Option (List ℕ)) (had has : Option (List (Copied E))) (input : List ℕ) : Type 0 where
    pub streams : StreamsDisk view answers marks how result plan alone disk left before after input
    pub copied : CopiesDisk plan (copies_said view answers marks result plan alone disk left before after
        (wanted_of how streams.records plan input) streams.fed.said) had has disk
        (wanted_of how streams.records plan input)
