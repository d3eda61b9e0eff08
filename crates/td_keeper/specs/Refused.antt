-- Where a keeper refuses a call, the device and memory aside.
use Rattle.std.specs.Prelude.{ℕ, ◌+◌, ◌-◌, ◌^◌, ◌==◌, ◌&&◌, Bool, true, false, nat_lt, nat_le, not, List, length, Option, Some, None, if◌then◌else◌}
use Rattle.std.specs.List.{list_all, list_any}
use Rattle.td_stamp.specs.declared.values.Entry.{Entry}
use Rattle.td_machine.specs.State.{HallState}
use Rattle.td_machine.specs.Active.{unpassed}
use Rattle.td_machine.specs.Steps.{accepts}
use Rattle.td_slots.specs.declared.error.SlotsError.{SlotsError}
use Rattle.td_slots.specs.declared.error.SlotsError.TheVariants.{Memory as OutOfMemory}
use Rattle.td_store.specs.declared.standing.error.KeeperError.{KeeperError}
use Rattle.td_store.specs.declared.standing.error.KeeperError.TheVariants.{Broken, NoSuchInput, TooManyRecords, Epochs, Full, NotPassed, CutWaiting, TooManyKeys, OldVersion, LastGeneration}
use Rattle.td_plan.specs.Lines.{Line}
use Rattle.td_journal.specs.Numbers.{may_come}
use Rattle.td_journal.specs.declared.payload.Submitted.{Submitted}
use Rattle.td_store.specs.group.Groups.{may_follow}
use Rattle.td_store.specs.standing.Standing.{Standing, last_epoch, last_request}
use Rattle.td_keeper.specs.declared.submit_all.GroupError.{GroupError}
use Rattle.td_keeper.specs.declared.submit_all.GroupError.TheVariants.{Repeated, Keeper}
use Rattle.td_keeper.specs.Keeping.{Keeping}

-- whether a cut waits on after its write was refused so
abbrev pub waits_after : SlotsError → Bool
waits_after OutOfMemory = true
waits_after _ = false

-- whether a request is new to a standing: it has no number, or one above all before
abbrev pub is_new : Standing → ℕ → Bool
is_new s request = may_come (Some (last_request s)) request

-- whether one of a group has a request number
abbrev pub has_number : List Submitted → Bool
has_number group = list_any (λ x. not (x.request == 0)) group

-- whether a plan accepts each batch of a group
abbrev pub all_accepted : List Line → List Submitted → Bool
all_accepted plan group = list_all (λ x. accepts plan x.batch) group

-- whether each has at most m records
abbrev pub all_few : ℕ → List Submitted → Bool
all_few m group = list_all (λ x. nat_le (length x.batch) m) group

module _ {D : Type 0} (k : Keeping D) where
  -- A SUBMIT: the first of these that holds
  abbrev pub submit_refusal : List Entry → Option KeeperError
  submit_refusal batch =
      if k.broken then Some Broken
      else (if not (accepts k.plan batch) then Some NoSuchInput
      else (if nat_lt k.head.shape.m (length batch) then Some TooManyRecords
      else (if nat_le (2 ^ 63) (last_epoch k.standing + 1) then Some Epochs
      else (if nat_le k.head.shape.n (length k.standing.submitted) then Some Full
      else None))))

  -- every request number
  abbrev pub request_refusal : Option KeeperError
  request_refusal =
      if k.broken then Some Broken
      else (if nat_lt k.head.version 2 then Some OldVersion
      else None)

  abbrev pub unless_refused : Option KeeperError → Option KeeperError → Option KeeperError
  unless_refused (Some e) other = Some e
  unless_refused None other = other

  -- A SUBMIT UNDER A REQUEST NUMBER: the first of these; one that is not new is refused by nothing more
  abbrev pub submit_as_refusal : ℕ → List Entry → Option KeeperError
  submit_as_refusal request batch =
      unless_refused request_refusal (if is_new k.standing request then submit_refusal batch else None)

  -- A GROUP: the first of these that holds
  abbrev pub group_refusal : List Submitted → Option GroupError
  group_refusal group =
      if k.broken then Some (Keeper Broken)
      else (if has_number group && nat_lt k.head.version 2 then Some (Keeper OldVersion)
      else (if not (may_follow (Some (last_request k.standing)) group) then Some Repeated
      else (if not (all_accepted k.plan group) then Some (Keeper NoSuchInput)
      else (if not (all_few k.head.shape.m group) then Some (Keeper TooManyRecords)
      else (if nat_le (2 ^ 63) (last_epoch k.standing + length group) then Some (Keeper Epochs)
      else (if nat_lt k.head.shape.n (length k.standing.submitted + length group) then Some (Keeper Full)
      else None))))))

  -- AN UPGRADE
  abbrev pub upgrade_refusal : Option KeeperError
  upgrade_refusal =
      if k.broken then Some Broken
      else (if nat_le 2 k.head.version then None
      else (if k.head.generation == 2 ^ 64 - 1 then Some LastGeneration
      else None))

  -- A CUT THAT IS WRITTEN
  abbrev pub write_refusal : Option KeeperError
  write_refusal =
      if k.broken then Some Broken
      else (if not k.waiting then None
      else (if nat_lt k.head.shape.k (length k.base_states) then Some TooManyKeys
      else None))

  -- FREE CELLS THAT ARE CLOSED
  abbrev pub close_refusal : Option KeeperError
  close_refusal = if k.broken then Some Broken else None

  -- A CUT of a hall of this keeper's: an epoch was released after the base, and the first of these has not passed; or a cut waits
  abbrev pub first_unpassed : ℕ → Option ℕ → Option KeeperError
  first_unpassed base None = None
  first_unpassed base (Some e) = if nat_le e (base + 1) then Some (NotPassed e) else None

  abbrev pub or_waiting : Option KeeperError → Option KeeperError
  or_waiting (Some e) = Some e
  or_waiting None = if k.waiting then Some CutWaiting else None

  abbrev pub cut_refusal : HallState → Option KeeperError
  cut_refusal S = or_waiting (first_unpassed S.base (unpassed S))
