-- What a keeper does beside workers: the hall under their lock is any hall at each command.
use Rattle.std.specs.Prelude.{◌≡◌, ◌⊎◌, ℕ, ◌+◌, ◌-◌, ◌≤◌, Bool, true, false, ◌||◌, List, [], ◌∷◌, ◌++◌, length, take, drop, Option, Some, None, Result, Ok, Err}
use Rattle.std.specs.Prelude.{if◌then◌else◌}
use Rattle.td_stamp.specs.declared.values.Entry.{Entry}
use Rattle.td_stamp.specs.declared.epoch_out.EpochOut.{EpochOut}
use Rattle.td_stamp.specs.States.{StateList}
use Rattle.td_plan.specs.Tree.{tree_of}
use Rattle.td_calls.specs.Answers.{Answers}
use Rattle.td_batch.specs.Meaning.{run, states_after, numbered}
use Rattle.td_machine.specs.State.{HallState}
use Rattle.td_machine.specs.Active.{unpassed}
use Rattle.td_machine.specs.Steps.{collect_step}
use Rattle.td_machine.specs.Reached.{IsReached}
use Rattle.td_machine.specs.Sound.{outs_by}
use Rattle.td_disk.specs.Disk.{DiskView, DiskState, Rises}
use Rattle.td_gate.specs.CrashSafe.{CrashSafe, Unchanged}
use Rattle.td_questions.specs.declared.question.Wanted.{Wanted}
use Rattle.td_questions.specs.Asked.{answer_to}
use Rattle.td_store.specs.declared.standing.error.KeeperError.{KeeperError}
use Rattle.td_store.specs.declared.standing.error.KeeperError.TheVariants.{Foreign, NotPassed, TooManyKeys, Broken, Device, Memory, OldVersion}
use Rattle.td_journal.specs.declared.payload.Submitted.{Submitted as AnySubmitted}
use Rattle.td_store.specs.standing.Standing.{last_epoch, batches_of, submission}
use Rattle.td_store.specs.standing.Advanced.{AdvancesSince, SinceAdvance}
use Rattle.td_keeper.specs.declared.receipt.Receipt.{Receipt}
use Rattle.td_keeper.specs.declared.receipt.Receipt.TheVariants.{New}
use Rattle.td_keeper.specs.declared.command.Command.{Command}
use Rattle.td_keeper.specs.declared.command.Command.TheVariants.{Submit, SubmitAs, SubmitAll, Release, Settle, Collect, NextOut, Cut, CutUpTo, Answer, WriteCut, CloseFree}
use Rattle.td_keeper.specs.declared.command.Reply.{Reply}
use Rattle.td_keeper.specs.declared.command.Reply.TheVariants.{Submitted, SubmittedAs, SubmittedAll, Released, Settled, Collected, Out, CutTaken, Answered, Written, Closed, Refused, RefusedAll}
use Rattle.td_keeper.specs.declared.submit_all.GroupError.{GroupError}
use Rattle.td_keeper.specs.declared.submit_all.GroupError.TheVariants.{Repeated, Keeper}
use Rattle.td_keeper.specs.Keeping.{Keeping, IsKeeping, KeepsSince, IsSameWatch, HasPublished, words_of, since_base}
use Rattle.td_keeper.specs.Refused.{is_new, submit_refusal, submit_as_refusal, group_refusal, write_refusal, close_refusal, cut_refusal}
use Rattle.td_keeper.specs.Received.{received_in}
use Rattle.td_keeper.specs.Calls.{IsSubmitted, IsAnswered, IsAllSubmitted, IsWritten, IsClosed}
use Rattle.td_keeper.specs.Grouped.{AllOrNone}
use Rattle.td_keeper.specs.Halls.{IsOwn, lacking, with_released, with_collected, with_cut, collected_hall, cut_hall_up_to, cut_place, meant_outs, last_states, LacksLast}

-- the replies of the calls that write, by what each of them answers; of a group up to an end
abbrev pub submitted : Result ℕ (KeeperError × List Entry) → Reply
submitted (Ok e) = Submitted e
submitted (Err back) = Refused back.0 (Some back.1)

abbrev pub submitted_as : Result Receipt (KeeperError × List Entry) → Reply
submitted_as (Ok receipt) = SubmittedAs receipt
submitted_as (Err back) = Refused back.0 (Some back.1)

abbrev pub submitted_all : ℕ → Result ℕ (GroupError × List AnySubmitted) → Reply
submitted_all end (Ok first) = SubmittedAll first end
submitted_all end (Err back) = RefusedAll back.0 back.1

abbrev pub written : Result (Option ℕ) KeeperError → Reply
written (Ok w) = Written w
written (Err error) = Refused error None

abbrev pub closed : Result (Unit {0}) KeeperError → Reply
closed (Ok done) = Closed
closed (Err error) = Refused error None

-- the replies of the calls that work on a hall
abbrev pub released : Result ℕ KeeperError → Reply
released (Ok n) = Released n
released (Err error) = Refused error None

abbrev pub settled : Result (Unit {0}) KeeperError → Reply
settled (Ok done) = Settled
settled (Err error) = Refused error None

abbrev pub collected : Result ℕ KeeperError → Reply
collected (Ok n) = Collected n
collected (Err error) = Refused error None

abbrev pub cut : Result ℕ KeeperError → Reply
cut (Ok e) = CutTaken e
cut (Err error) = Refused error None

abbrev pub answered : Result (ℕ × StateList) KeeperError → Reply
answered (Ok a) = Answered a.0 a.1
answered (Err error) = Refused error None

-- the command to cut, up to an epoch if one is given
abbrev pub cutting : Option ℕ → Command
cutting None = Cut
cutting (Some most) = CutUpTo most

-- whether the device failed
abbrev pub is_device : KeeperError → Bool
is_device Device = true
is_device _ = false

-- or in a submit of a group
abbrev pub is_of_device : GroupError → Bool
is_of_device Repeated = false
is_of_device (Keeper error) = is_device error

-- whether a reply says so, and whether one of some does
abbrev pub is_failed : Reply → Bool
is_failed (Refused error back) = is_device error
is_failed (RefusedAll error back) = is_of_device error
is_failed _ = false

abbrev pub some_failed : List Reply → Bool
some_failed [] = false
some_failed (reply ∷ replies) = is_failed reply || some_failed replies

-- whether a command may write to the disk
abbrev pub may_write : Command → Bool
may_write (Submit batch) = true
may_write (SubmitAs request batch) = true
may_write (SubmitAll group) = true
may_write WriteCut = true
may_write (CloseFree most) = true
may_write _ = false

-- whether the keeper needs a hall to obey it
abbrev pub needs_hall : Command → Bool
needs_hall Release = true
needs_hall Settle = true
needs_hall Collect = true
needs_hall Cut = true
needs_hall (CutUpTo epoch) = true
needs_hall (Answer vertex wanted) = true
needs_hall _ = false

-- WHAT A COMMAND SUBMITTED, by its reply: its batch or its group, where it was acknowledged, or where the device failed in it; not
-- a request that was there already
abbrev pub submitted_in : Command → Reply → List AnySubmitted
submitted_in (Submit batch) (Submitted epoch) = submission 0 batch ∷ []
submitted_in (Submit batch) (Refused error back) = if is_device error then submission 0 batch ∷ [] else []
submitted_in (SubmitAs request batch) (SubmittedAs receipt) = received_in request batch receipt
submitted_in (SubmitAs request batch) (Refused error back) = if is_device error then submission request batch ∷ [] else []
submitted_in (SubmitAll group) (SubmittedAll first end) = group
submitted_in (SubmitAll group) (RefusedAll error back) = if is_of_device error then group else []
submitted_in _ _ = []

-- and what commands did, in order
abbrev pub submitted_by : List Command → List Reply → List AnySubmitted
submitted_by [] replies = []
submitted_by (command ∷ commands) [] = []
submitted_by (command ∷ commands) (reply ∷ replies) = submitted_in command reply ++ submitted_by commands replies

-- WHAT A REPLY HANDED OUT, and what replies did, in order
abbrev pub handed_in : Reply → List EpochOut
handed_in (Out (Some out)) = out ∷ []
handed_in _ = []

abbrev pub handed_out : List Reply → List EpochOut
handed_out [] = []
handed_out (reply ∷ replies) = handed_in reply ++ handed_out replies

-- the outputs that the batch meaning has after what was collected, up to an epoch, of what a keeper stands for and more batches
abbrev pub outs_beyond : {D : Type 0} → Keeping D → Answers → List AnySubmitted → ℕ → List EpochOut
outs_beyond k answers x to = numbered (k.collected + 1) (take (to - k.collected) (drop (k.collected - k.standing.epoch) (run answers (tree_of k.plan) k.standing.states (batches_of (k.standing.submitted ++ x))).outs))

-- THE OUTPUTS HANDED OUT, followed by the queue left, are the queue found, followed by those of the epochs collected since, each
-- once, by the batch meaning of what the keeper stood for and what was submitted
pub record HandsOn {D : Type 0} (answers : Answers) (old new : Keeping D) (x : List AnySubmitted) (handed : List EpochOut) : Type 0 where
  pub on : old.collected ≤ new.collected
  pub within : new.collected ≤ last_epoch old.standing + length x
  pub outs : handed ++ new.queue ≡ old.queue ++ outs_beyond old answers x new.collected

module _ {D : Type 0} (view : D → DiskView) (answers : Answers) where
  -- time goes on, and each image since a moment up to the start was one by then, or the disk tells an advance in it of the
  -- standing with what was submitted, which holds every epoch of the standing
  pub record Advances (old new : Keeping D) (x : List AnySubmitted) : Type 0 where
    pub lawful : (view new.device).lawful
    pub later : (view old.device).state.moment ≤ (view new.device).state.moment
    pub since : old.broken ≡ false → AdvancesSince answers old.plan old.standing x (last_epoch old.standing) (view old.device).state (view new.device).state

  -- A COMMAND THAT MAY WRITE, with this reply: the count of failures never falls, and stays where the device did not fail; and so
  -- the images, where the disk is lawful; and nothing is kept beyond the base
  pub record MayWrite (reply : Reply) (old new : Keeping D) (x : List AnySubmitted) : Type 0 where
    pub counted : (view old.device).failures ≤ (view new.device).failures
    pub stays : is_failed reply ≡ false → (view new.device).failures ≡ (view old.device).failures
    pub advances : (view old.device).lawful → Advances old new x
    pub short : (view old.device).lawful → KeepsSince old.plan old.base (view old.device).state (view new.device).state

  -- nothing was written: what a crash may leave, it might have left before
  abbrev pub Unwritten : Keeping D → Keeping D → Type 0
  Unwritten old new = (view old.device).lawful → CrashSafe Unchanged (view old.device).state (view new.device).state

  -- THE DEVICE FAILED: the keeper is broken, and the count of failures rose
  pub record Fails (old new : Keeping D) : Type 0 where
    pub broken : new.broken ≡ true
    pub risen : Rises (view old.device).failures (view new.device).failures

  -- TO SUBMIT: the batch is acknowledged (`IsSubmitted`); or it comes back, by the first cause of these or for want of memory or of the device,
  -- and what was kept in memory is as it was
  pub record IsNotSubmitted (refusal : Option KeeperError) (batch : List Entry) (error : KeeperError) (back : Option (List Entry)) (old new : Keeping D) : Type 0 where
    pub batch_back : back ≡ Some batch
    pub cause : (refusal ≡ Some error) ⊎ ((refusal ≡ None) × ((error ≡ Memory) ⊎ (error ≡ Device)))
    pub unchanged : (new ≡ old) ⊎ ((error ≡ Memory) × (new ≡ record old { device = new.device })) ⊎ ((error ≡ Device) × (new ≡ record old { device = new.device; broken = true }))
    pub memory : error ≡ Memory → Unwritten old new
    pub device : error ≡ Device → Fails old new

  abbrev pub Submits : List Entry → Reply → Keeping D → Keeping D → Type 0
  Submits batch (Submitted epoch) old new = IsSubmitted batch epoch old new
  Submits batch (Refused error back) old new = IsNotSubmitted (submit_refusal old batch) batch error back old new
  Submits batch _ old new = ⊥

  -- TO SUBMIT UNDER A REQUEST NUMBER: it is answered (`IsAnswered`); or it is refused, one that is not new for two causes alone
  pub record IsNotAnswered (request : ℕ) (batch : List Entry) (error : KeeperError) (back : Option (List Entry)) (old new : Keeping D) : Type 0 where
    pub refused : IsNotSubmitted (submit_as_refusal old request batch) batch error back old new
    pub repeated : is_new old.standing request ≡ false → (error ≡ Broken) ⊎ (error ≡ OldVersion)

  abbrev pub SubmitsAs : ℕ → List Entry → Reply → Keeping D → Keeping D → Type 0
  SubmitsAs request batch (SubmittedAs receipt) old new = IsAnswered request batch receipt old new
  SubmitsAs request batch (Refused error back) old new = IsNotAnswered request batch error back old new
  SubmitsAs request batch _ old new = ⊥

  -- TO SUBMIT A GROUP: all of it is acknowledged (`IsAllSubmitted`); or it comes back, by the first cause of these or for want of memory or of
  -- the device, and what was kept in memory is as it was
  pub record IsNoneSubmitted (group : List AnySubmitted) (error : GroupError) (back : List AnySubmitted) (old new : Keeping D) : Type 0 where
    pub group_back : back ≡ group
    pub cause : (group_refusal old group ≡ Some error) ⊎ ((group_refusal old group ≡ None) × ((error ≡ Keeper Memory) ⊎ (error ≡ Keeper Device)))
    pub unchanged : (new ≡ old) ⊎ ((error ≡ Keeper Memory) × (new ≡ record old { device = new.device })) ⊎ ((error ≡ Keeper Device) × (new ≡ record old { device = new.device; broken = true }))
    pub memory : error ≡ Keeper Memory → Unwritten old new
    pub device : error ≡ Keeper Device → Fails old new
    pub images : (view old.device).lawful → old.broken ≡ false → AllOrNone old.plan old.standing group (view old.device).state.moment (view new.device).state

  abbrev pub SubmitsAll : List AnySubmitted → Reply → Keeping D → Keeping D → Type 0
  SubmitsAll group (SubmittedAll first end) old new = IsAllSubmitted group first end old new
  SubmitsAll group (RefusedAll error back) old new = IsNoneSubmitted group error back old new
  SubmitsAll group _ old new = ⊥

  -- A HALL UNDER THE LOCK, one to which plays lead, was found so, and the keeper is as it was
  pub record Finds (found : HallState → Type 0) (old new : Keeping D) : Type 0 where
    pub hall : HallState
    pub reached : IsReached answers hall
    pub is : found hall
    pub same : new ≡ old

  -- TO RELEASE: a hall of this keeper's had all its batches since the base after it; refused is one that is not, or is closed
  abbrev pub IsReleased : Keeping D → ℕ → HallState → Type 0
  IsReleased k n S = IsOwn k S × (S.closed ≡ false) × (n ≡ length (lacking k S)) × ((with_released S (lacking k S)).batches ≡ since_base k)

  abbrev pub Releases : Reply → Keeping D → Keeping D → Type 0
  Releases (Released n) old new = Finds (IsReleased old n) old new
  Releases (Refused error back) old new = (back ≡ None)
      × (((error ≡ Foreign) × Finds (λ S. IsOwn old S → S.closed ≡ false → ⊥) old new) ⊎ ((error ≡ Memory) × Finds (λ S. IsOwn old S × (S.closed ≡ false)) old new))
  Releases _ old new = ⊥

  -- TO SETTLE: every released epoch has passed in the hall, or this is the first that has not
  abbrev pub Settles : Reply → Keeping D → Keeping D → Type 0
  Settles Settled old new = Finds (λ S. unpassed S ≡ None) old new
  Settles (Refused error back) old new = (back ≡ None) × ((e : ℕ) × (error ≡ NotPassed e) × Finds (λ S. unpassed S ≡ Some e) old new)
  Settles _ old new = ⊥

  -- WHAT A HALL OF THIS KEEPER'S HAD is in the queue, and is the batch meaning's
  pub record BringsIn (old : Keeping D) (S : HallState) : Type 0 where
    pub reached : IsReached answers S
    pub own : IsOwn old S
    pub outs : outs_by (collect_step S).0 ≡ meant_outs old answers old.collected (collect_step S).1.collected

  -- TO COLLECT
  pub record IsCollected (n : ℕ) (old new : Keeping D) : Type 0 where
    pub hall : HallState
    pub brings : BringsIn old hall
    pub count : n ≡ length (outs_by (collect_step hall).0)
    pub collected : new ≡ with_collected old hall

  abbrev pub Collects : Reply → Keeping D → Keeping D → Type 0
  Collects (Collected n) old new = IsCollected n old new
  Collects (Refused error back) old new = (back ≡ None)
      × (((error ≡ Foreign) × Finds (λ S. IsOwn old S → ⊥) old new) ⊎ ((error ≡ Memory) × Finds (IsOwn old) old new))
  Collects _ old new = ⊥

  -- TO HAND OUT the first of the queue
  abbrev pub HandsOut : Reply → Keeping D → Keeping D → Type 0
  HandsOut (Out None) old new = (old.queue ≡ []) × (new ≡ old)
  HandsOut (Out (Some out)) old new = (old.queue ≡ out ∷ new.queue) × (new ≡ record old { queue = new.queue })
  HandsOut _ old new = ⊥

  -- TO CUT, up to an epoch if one is given: the cut of a hall of this keeper's, with the batch meaning's states, is the base and waits
  pub record IsCut (most : Option ℕ) (e : ℕ) (old new : Keeping D) : Type 0 where
    pub hall : HallState
    pub brings : BringsIn old hall
    pub accepted : cut_refusal old hall ≡ None
    pub place : e ≡ cut_place most hall
    pub base : new.base ≡ e
    pub cut : new ≡ with_cut (with_collected old hall) (cut_hall_up_to most (collected_hall hall))
    pub states : new.base_states ≡ states_after answers (tree_of old.plan) old.standing.states (batches_of old.standing.submitted) (e - old.standing.epoch)

  -- or what it had was collected, and it is not cut
  pub record IsNotCut (error : KeeperError) (old new : Keeping D) : Type 0 where
    pub hall : HallState
    pub brings : BringsIn old hall
    pub cause : (cut_refusal old hall ≡ Some error) ⊎ (error ≡ Memory)
    pub collected : new ≡ with_collected old hall

  abbrev pub Cuts : Option ℕ → Reply → Keeping D → Keeping D → Type 0
  Cuts most (CutTaken e) old new = IsCut most e old new
  Cuts most (Refused error back) old new = (back ≡ None)
      × (((error ≡ Foreign) × Finds (λ S. IsOwn old S → ⊥) old new) ⊎ ((error ≡ Memory) × Finds (IsOwn old) old new) ⊎ IsNotCut error old new)
  Cuts most _ old new = ⊥

  -- TO ANSWER what is wanted of a fold: the entries are exactly those that answer it, of the states that the batch meaning has after the
  -- last epoch, and the keeper is as it was
  pub record IsAnswer (vertex : ℕ) (wanted : Wanted) (epoch : ℕ) (entries : StateList) (old new : Keeping D) : Type 0 where
    pub last : epoch ≡ last_epoch old.standing
    pub answer : entries ≡ answer_to vertex wanted (last_states old answers)
    pub same : new ≡ old

  abbrev pub Asks : ℕ → Wanted → Reply → Keeping D → Keeping D → Type 0
  Asks vertex wanted (Answered epoch entries) old new = IsAnswer vertex wanted epoch entries old new
  Asks vertex wanted (Refused error back) old new = (back ≡ None)
      × (((error ≡ Foreign) × Finds (λ S. IsOwn old S → ⊥) old new) ⊎ ((error ≡ Memory) × Finds (IsOwn old) old new)
      ⊎ ((e : ℕ) × (error ≡ NotPassed e) × Finds (λ S. IsOwn old S × LacksLast old S) old new))
  Asks vertex wanted _ old new = ⊥

  -- TO WRITE THE CUT that waits: it is the checkpoint (`IsWritten`); or it is refused, and waits still where memory ran out
  pub record IsNotWritten (error : KeeperError) (back : Option (List Entry)) (old new : Keeping D) : Type 0 where
    pub no_batch : back ≡ None
    pub cause : (write_refusal old ≡ Some error) ⊎ ((write_refusal old ≡ None) × ((error ≡ Memory) ⊎ (error ≡ Device)))
    pub unchanged : ((error ≡ TooManyKeys) × (new ≡ record old { waiting = false })) ⊎ ((error ≡ Device) × (new ≡ record old { device = new.device; broken = true; waiting = false })) ⊎ (new ≡ old)
    pub device : error ≡ Device → Fails old new

  abbrev pub Writes : Reply → Keeping D → Keeping D → Type 0
  Writes (Written written) old new = IsWritten written old new
  Writes (Refused error back) old new = IsNotWritten error back old new
  Writes _ old new = ⊥

  -- TO CLOSE CELLS that no epoch uses: they are (`IsClosed`); or it is refused
  pub record IsNotClosed (error : KeeperError) (back : Option (List Entry)) (old new : Keeping D) : Type 0 where
    pub no_batch : back ≡ None
    pub cause : (close_refusal old ≡ Some error) ⊎ ((close_refusal old ≡ None) × (error ≡ Device))
    pub unchanged : (new ≡ old) ⊎ ((error ≡ Device) × (new ≡ record old { device = new.device; broken = true }))
    pub device : error ≡ Device → Fails old new

  abbrev pub ClosesFree : ℕ → Reply → Keeping D → Keeping D → Type 0
  ClosesFree most Closed old new = IsClosed view most old new
  ClosesFree most (Refused error back) old new = IsNotClosed error back old new
  ClosesFree most _ old new = ⊥

  -- ONE COMMAND, with its reply; and the images since an earlier moment, where it writes
  abbrev pub Obeys : Command → Reply → Keeping D → Keeping D → Type 0
  Obeys (Submit batch) reply old new = Submits batch reply old new × MayWrite reply old new (submitted_in (Submit batch) reply)
  Obeys (SubmitAs request batch) reply old new = SubmitsAs request batch reply old new × MayWrite reply old new (submitted_in (SubmitAs request batch) reply)
  Obeys (SubmitAll group) reply old new = SubmitsAll group reply old new × MayWrite reply old new (submitted_in (SubmitAll group) reply)
  Obeys Release reply old new = Releases reply old new
  Obeys Settle reply old new = Settles reply old new
  Obeys Collect reply old new = Collects reply old new
  Obeys NextOut reply old new = HandsOut reply old new
  Obeys Cut reply old new = Cuts None reply old new
  Obeys (CutUpTo epoch) reply old new = Cuts (Some epoch) reply old new
  Obeys (Answer vertex wanted) reply old new = Asks vertex wanted reply old new
  Obeys WriteCut reply old new = Writes reply old new × MayWrite reply old new []
  Obeys (CloseFree most) reply old new = ClosesFree most reply old new × MayWrite reply old new []

  -- COMMANDS, one after another, with their replies; between them stands a keeper whose memory is right
  abbrev pub Driven : List Command → List Reply → Keeping D → Keeping D → Type 0
  Driven [] [] old new = new ≡ old
  Driven [] (reply ∷ replies) old new = ⊥
  Driven (command ∷ commands) [] old new = ⊥
  Driven (command ∷ commands) (reply ∷ replies) old new = (mid : Keeping D) × IsKeeping mid answers × Obeys command reply old mid × Driven commands replies mid new

  -- A KEEPER IS DRIVEN by these commands, with these replies
  pub record Drives (commands : List Command) (replies : List Reply) (old new : Keeping D) : Type 0 where
    pub driven : Driven commands replies old new
    -- the device failed in one of them exactly where a reply says so: then the keeper is broken, and the count of failures rose; else the
    -- keeper is as whole as it was, and the count stays
    pub fails : some_failed replies ≡ true → Fails old new
    pub whole : some_failed replies ≡ false → (new.broken ≡ old.broken) × ((view new.device).failures ≡ (view old.device).failures)
    -- the outputs handed out, followed by the queue left, are the queue found, followed by those that the batch meaning has of the epochs
    -- collected since, each once
    pub outputs : HandsOn answers old new (submitted_by commands replies) (handed_out replies)
    -- in each image since the start, and since an earlier moment, the disk tells an advance of the standing with all that was submitted, which
    -- holds every epoch of the standing
    pub images : (view old.device).lawful → old.broken ≡ false
        → SinceAdvance answers old.plan old.standing (submitted_by commands replies) (last_epoch old.standing) (view old.device).state.moment (view new.device).state
    pub further : (view old.device).lawful → old.broken ≡ false → Advances old new (submitted_by commands replies)

  -- ONE COMMAND AND ITS REPLY, of a keeper whose memory is right. The device failed in it exactly where the reply says so. In each image
  -- since its start, and since an earlier moment, the disk tells an advance of the standing with what it submitted
  pub record IsTold (command : Command) (reply : Reply) (old new : Keeping D) : Type 0 where
    pub kept : IsKeeping old answers
    pub obeyed : Obeys command reply old new
    pub driven : Driven (command ∷ []) (reply ∷ []) old new
    pub counted : (view old.device).failures ≤ (view new.device).failures
    pub fails : is_failed reply ≡ true → Fails old new
    pub whole : is_failed reply ≡ false → (new.broken ≡ old.broken) × ((view new.device).failures ≡ (view old.device).failures)
    pub further : (view old.device).lawful → old.broken ≡ false → Advances old new (submitted_in command reply)
    pub images : (view old.device).lawful → old.broken ≡ false
        → SinceAdvance answers old.plan old.standing (submitted_in command reply) (last_epoch old.standing) (view old.device).state.moment (view new.device).state

-- A REPLY ACKNOWLEDGES no epoch beyond the n-th
abbrev pub AcknowledgesUpTo : ℕ → Reply → Type 0
AcknowledgesUpTo n (Submitted epoch) = epoch ≤ n
AcknowledgesUpTo n (SubmittedAs (New epoch)) = epoch ≤ n
AcknowledgesUpTo n (SubmittedAll first end) = end ≤ n + 1
AcknowledgesUpTo n _ = Unit {0}

-- WHAT A COMMAND THAT DOES NOT WRITE leaves as it was
pub record Rests {D : Type 0} (old new : Keeping D) : Type 0 where
  pub device : new.device ≡ old.device
  pub plan : new.plan ≡ old.plan
  pub standing : new.standing ≡ old.standing
  pub broken : new.broken ≡ old.broken

-- A WRITER THAT IS ATTACHED STAYS SO; and what it published last is how far the keeper has come, where it was so before
pub record Publishes {D : Type 0} (old new : Keeping D) : Type 0 where
  pub same : IsSameWatch old.watch new.watch
  pub words : HasPublished old.watch (words_of old) → HasPublished new.watch (words_of new)
