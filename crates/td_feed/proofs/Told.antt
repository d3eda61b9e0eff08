-- What one command leaves of a keeper.
use Rattle.std.proofs.Common.{◌≡◌, ◌⊎◌, ⊎_elim, inr, ℕ, ◌+◌, ◌^◌, Bool, true, false, ◌&&◌, not, nat_le, nat_lt, List, [], ◌∷◌, ◌++◌, length, refl, sym, ap, ◌∙◌, subst, arith}
use Rattle.std.specs.Prelude.{Option, Some, None, if◌then◌else◌}
use Rattle.td_stamp.specs.declared.values.Entry.{Entry}
use Rattle.td_calls.specs.Answers.{Answers}
use Rattle.td_disk.specs.Disk.{DiskView}
use Rattle.td_journal.specs.declared.payload.Submitted.{Submitted as AnySubmitted}
use Rattle.td_store.specs.standing.Standing.{last_epoch, last_request, submission}
use Rattle.td_store.specs.standing.Advanced.{SinceAdvance}
use Rattle.td_store.specs.standing.Stops.{Begins}
use Rattle.td_store.specs.declared.standing.error.KeeperError.{KeeperError}
use Rattle.td_store.specs.declared.standing.error.KeeperError.TheVariants as error
use Rattle.td_keeper.specs.declared.submit_all.GroupError.{GroupError}
use Rattle.td_keeper.specs.declared.submit_all.GroupError.TheVariants.{Repeated, Keeper}
use Rattle.td_keeper.specs.declared.command.Command.{Command}
use Rattle.td_keeper.specs.declared.command.Command.TheVariants.{Submit, SubmitAs, SubmitAll, Release, Settle, Collect, NextOut, Cut, CutUpTo, Answer, WriteCut, CloseFree}
use Rattle.td_keeper.specs.declared.command.Reply.{Reply}
use Rattle.td_keeper.specs.declared.command.Reply.TheVariants.{Submitted, SubmittedAs, SubmittedAll, Released, Settled, Collected, Out, CutTaken, Answered, Written, Closed, Refused, RefusedAll}
use Rattle.td_keeper.specs.declared.receipt.Receipt.{Receipt}
use Rattle.td_keeper.specs.declared.receipt.Receipt.TheVariants.{New, Already}
use Rattle.td_keeper.specs.Received.{IsReceived, received_in}
use Rattle.td_store.specs.group.Groups.{may_follow}
use Rattle.td_keeper.specs.Refused.{is_new, has_number, all_accepted, all_few}
use Rattle.td_keeper.specs.Keeping.{Keeping, IsKeeping}
use Rattle.td_keeper.specs.Driven.{submitted_in, is_device, is_of_device, may_write, Obeys, Rests}
use Rattle.td_feed.specs.Carried.{Carries, Stopped, Leaves, batch_in, new_to, is_refused, is_repeated, is_resting, IsRising}
use Rattle.td_orders.specs.OrderProofs.{new_one, old_one, all_new}
use Rattle.td_feed.proofs.Lines.{begins_all}
use Rattle.td_feed.proofs.Carrying.{Stands-on, Cuts-on, unmoved, submitted, grouped, checkpointed, leaves_none, stopped_one, stopped_none, stopped_all}

-- a reply that is none
pub none_refused : (r : Reply) → ((e : KeeperError) (b : Option (List Entry)) → r ≡ Refused e b → ⊥) → ((e : GroupError) (b : List AnySubmitted) → r ≡ RefusedAll e b → ⊥) → is_refused r ≡ false
none_refused (Refused e b) none none_of_group = absurd (none e b refl)
none_refused (RefusedAll e b) none none_of_group = absurd (none_of_group e b refl)
none_refused (Submitted n) none none_of_group = refl
none_refused (SubmittedAs n) none none_of_group = refl
none_refused (SubmittedAll n m) none none_of_group = refl
none_refused (Released n) none none_of_group = refl
none_refused Settled none none_of_group = refl
none_refused (Collected n) none none_of_group = refl
none_refused (Out o) none none_of_group = refl
none_refused (CutTaken n) none none_of_group = refl
none_refused (Written w) none none_of_group = refl
none_refused (Answered m ys) none none_of_group = refl
none_refused Closed none none_of_group = refl

-- a group whose numbers rise is not refused as one that repeats some
abbrev choose : (a b c d e f g : Bool) → Option GroupError
choose a b c d e f g =
    if a then Some (Keeper error.Broken) else (if b then Some (Keeper error.OldVersion) else (if not c then Some Repeated
    else (if d then Some (Keeper error.NoSuchInput) else (if e then Some (Keeper error.TooManyRecords) else (if f then Some (Keeper error.Epochs) else (if g then Some (Keeper error.Full) else None))))))

abbrev is_there : Option GroupError → Bool
is_there None = false
is_there (Some e) = true

never : (a b c d e f g : Bool) → c ≡ true → choose a b c d e f g ≡ Some Repeated → ⊥
never true b c d e f g rises is = absurd cc
never false true c d e f g rises is = absurd cc
never false false false d e f g rises is = absurd (let no : false ≡ true = rises in cc)
never false false true true e f g rises is = absurd cc
never false false true false true f g rises is = absurd cc
never false false true false false true g rises is = absurd cc
never false false true false false false true rises is = absurd cc
never false false true false false false false rises is = absurd (let no : false ≡ true = ap is_there is in cc)

-- the law, as it is handed in: a command that does not write leaves a keeper's disk, and what it stands for
abbrev pub Others-rest : {D : Type 0} → (D → DiskView) → Answers → Type 0
Others-rest {D} view answers = (command : Command) (reply : Reply) (old new : Keeping D) → may_write command ≡ false
    → Obeys view answers command reply old new → Rests old new

module _ {D : Type 0} (view : D → DiskView) (answers : Answers) where
  -- a receipt, and what is new
  received_is : (request : ℕ) (batch : List Entry) (receipt : Receipt) (old new : Keeping D) → IsReceived request batch receipt old new → received_in request batch receipt ≡ new_to old (submission request batch ∷ [])
  received_is request batch (New epoch) old new r = sym (new_one (last_request old.standing) (submission request batch) r.0)
  received_is request batch (Already last) old new r = sym (old_one (last_request old.standing) (submission request batch) r.0)

  -- what a command that was not refused submitted
  pub submitted_is : (c : Command) (r : Reply) (old new : Keeping D) → Obeys view answers c r old new → is_refused r ≡ false → IsRising old c → submitted_in c r ≡ new_to old (batch_in c)
  submitted_is (Submit batch) (Submitted n) old new obeys done rises = refl
  submitted_is (Submit batch) (Refused e b) old new obeys done rises = absurd (let no : true ≡ false = done in cc)
  submitted_is (SubmitAll group) (SubmittedAll n m) old new obeys done rises = sym (all_new (last_request old.standing) group rises)
  submitted_is (SubmitAll group) (Submitted n) old new obeys done rises = absurd obeys.0
  submitted_is (SubmitAll group) (SubmittedAs n) old new obeys done rises = absurd obeys.0
  submitted_is (SubmitAll group) (Released n) old new obeys done rises = absurd obeys.0
  submitted_is (SubmitAll group) Settled old new obeys done rises = absurd obeys.0
  submitted_is (SubmitAll group) (Collected n) old new obeys done rises = absurd obeys.0
  submitted_is (SubmitAll group) (Out o) old new obeys done rises = absurd obeys.0
  submitted_is (SubmitAll group) (CutTaken n) old new obeys done rises = absurd obeys.0
  submitted_is (SubmitAll group) (Written w) old new obeys done rises = absurd obeys.0
  submitted_is (SubmitAll group) (Answered m ys) old new obeys done rises = absurd obeys.0
  submitted_is (SubmitAll group) Closed old new obeys done rises = absurd obeys.0
  submitted_is (SubmitAll group) (Refused e b) old new obeys done rises = absurd obeys.0
  submitted_is (SubmitAll group) (RefusedAll e xs) old new obeys done rises = absurd (let no : true ≡ false = done in cc)
  submitted_is (SubmitAs request batch) (SubmittedAs receipt) old new obeys done rises = received_is request batch receipt old new obeys.0.received
  submitted_is (SubmitAs request batch) (Refused e b) old new obeys done rises = absurd (let no : true ≡ false = done in cc)
  submitted_is (SubmitAs request batch) (Submitted n) old new obeys done rises = absurd obeys.0
  submitted_is (SubmitAs request batch) (SubmittedAll n m) old new obeys done rises = absurd obeys.0
  submitted_is (SubmitAs request batch) (RefusedAll e xs) old new obeys done rises = absurd obeys.0
  submitted_is (SubmitAs request batch) (Released n) old new obeys done rises = absurd obeys.0
  submitted_is (SubmitAs request batch) Settled old new obeys done rises = absurd obeys.0
  submitted_is (SubmitAs request batch) (Collected n) old new obeys done rises = absurd obeys.0
  submitted_is (SubmitAs request batch) (Out o) old new obeys done rises = absurd obeys.0
  submitted_is (SubmitAs request batch) (CutTaken n) old new obeys done rises = absurd obeys.0
  submitted_is (SubmitAs request batch) (Written w) old new obeys done rises = absurd obeys.0
  submitted_is (SubmitAs request batch) (Answered m ys) old new obeys done rises = absurd obeys.0
  submitted_is (SubmitAs request batch) Closed old new obeys done rises = absurd obeys.0
  submitted_is (Submit batch) (SubmittedAs n) old new obeys done rises = absurd obeys.0
  submitted_is (Submit batch) (SubmittedAll n m) old new obeys done rises = absurd obeys.0
  submitted_is (Submit batch) (RefusedAll e xs) old new obeys done rises = absurd obeys.0
  submitted_is (Submit batch) (Released n) old new obeys done rises = absurd obeys.0
  submitted_is (Submit batch) Settled old new obeys done rises = absurd obeys.0
  submitted_is (Submit batch) (Collected n) old new obeys done rises = absurd obeys.0
  submitted_is (Submit batch) (Out o) old new obeys done rises = absurd obeys.0
  submitted_is (Submit batch) (CutTaken n) old new obeys done rises = absurd obeys.0
  submitted_is (Submit batch) (Written w) old new obeys done rises = absurd obeys.0
  submitted_is (Submit batch) (Answered m ys) old new obeys done rises = absurd obeys.0
  submitted_is (Submit batch) Closed old new obeys done rises = absurd obeys.0
  submitted_is Release r old new obeys done rises = refl
  submitted_is Settle r old new obeys done rises = refl
  submitted_is Collect r old new obeys done rises = refl
  submitted_is NextOut r old new obeys done rises = refl
  submitted_is Cut r old new obeys done rises = refl
  submitted_is (Answer v w) r old new obeys done rises = refl
  submitted_is (CutUpTo m) r old new obeys done rises = refl
  submitted_is WriteCut r old new obeys done rises = refl
  submitted_is (CloseFree most) r old new obeys done rises = refl

  rests_carry : (old new : Keeping D) → Rests old new → old.broken ≡ false → Carries answers old new []
  rests_carry old new rests whole = unmoved answers old new rests.plan rests.standing (rests.broken ∙ whole)

  -- A COMMAND THAT WRITES NOTHING, whatever its reply is
  pub rest : Others-rest view answers → (c : Command) (r : Reply) (old new : Keeping D) → Obeys view answers c r old new → old.broken ≡ false → is_resting c ≡ true → Carries answers old new []
  rest others (Submit batch) r old new obeys whole is = absurd (let no : false ≡ true = is in cc)
  rest others (SubmitAs request batch) r old new obeys whole is = absurd (let no : false ≡ true = is in cc)
  rest others (SubmitAll group) r old new obeys whole is = absurd (let no : false ≡ true = is in cc)
  rest others Release r old new obeys whole is = rests_carry old new (others Release r old new refl obeys) whole
  rest others Settle r old new obeys whole is = rests_carry old new (others Settle r old new refl obeys) whole
  rest others Collect r old new obeys whole is = rests_carry old new (others Collect r old new refl obeys) whole
  rest others NextOut r old new obeys whole is = rests_carry old new (others NextOut r old new refl obeys) whole
  rest others Cut r old new obeys whole is = rests_carry old new (others Cut r old new refl obeys) whole
  rest others (Answer v w) r old new obeys whole is = rests_carry old new (others (Answer v w) r old new refl obeys) whole
  rest others (CutUpTo m) r old new obeys whole is = rests_carry old new (others (CutUpTo m) r old new refl obeys) whole
  rest others WriteCut r old new obeys whole is = absurd (let no : false ≡ true = is in cc)
  rest others (CloseFree most) r old new obeys whole is = absurd (let no : false ≡ true = is in cc)

  -- one that does not write submits no group
  pub rises_none : (k : Keeping D) (c : Command) → may_write c ≡ false → IsRising k c
  rises_none k (Submit batch) is = tt
  rises_none k (SubmitAs request batch) is = tt
  rises_none k (SubmitAll group) is = absurd (let no : true ≡ false = is in cc)
  rises_none k Release is = tt
  rises_none k Settle is = tt
  rises_none k Collect is = tt
  rises_none k NextOut is = tt
  rises_none k Cut is = tt
  rises_none k (Answer v w) is = tt
  rises_none k (CutUpTo m) is = tt
  rises_none k WriteCut is = tt
  rises_none k (CloseFree most) is = tt

  -- what it stands for stays
  pub rests_stand : Others-rest view answers → (c : Command) (r : Reply) (old new : Keeping D) → Obeys view answers c r old new → is_resting c ≡ true → new.standing ≡ old.standing
  rests_stand others (Submit batch) r old new obeys is = absurd (let no : false ≡ true = is in cc)
  rests_stand others (SubmitAs request batch) r old new obeys is = absurd (let no : false ≡ true = is in cc)
  rests_stand others (SubmitAll group) r old new obeys is = absurd (let no : false ≡ true = is in cc)
  rests_stand others Release r old new obeys is = (others Release r old new refl obeys).standing
  rests_stand others Settle r old new obeys is = (others Settle r old new refl obeys).standing
  rests_stand others Collect r old new obeys is = (others Collect r old new refl obeys).standing
  rests_stand others NextOut r old new obeys is = (others NextOut r old new refl obeys).standing
  rests_stand others Cut r old new obeys is = (others Cut r old new refl obeys).standing
  rests_stand others (Answer v w) r old new obeys is = (others (Answer v w) r old new refl obeys).standing
  rests_stand others (CutUpTo m) r old new obeys is = (others (CutUpTo m) r old new refl obeys).standing
  rests_stand others WriteCut r old new obeys is = absurd (let no : false ≡ true = is in cc)
  rests_stand others (CloseFree most) r old new obeys is = absurd (let no : false ≡ true = is in cc)

  carry_received : (request : ℕ) (batch : List Entry) (receipt : Receipt) (old new : Keeping D) → IsReceived request batch receipt old new → old.broken ≡ false → Carries answers old new (received_in request batch receipt)
  carry_received request batch (New epoch) old new r whole = submitted answers old new new.device (submission request batch ∷ []) whole r.2
  carry_received request batch (Already last) old new r whole = unmoved answers old new (ap (λ (k : Keeping D). k.plan) r.2) (ap (λ (k : Keeping D). k.standing) r.2) (ap (λ (k : Keeping D). k.broken) r.2 ∙ whole)

  -- A COMMAND THAT WAS NOT REFUSED: the keeper goes on with what it submitted
  pub carry : Others-rest view answers → Stands-on answers → Cuts-on answers → (c : Command) (r : Reply) (old new : Keeping D) → IsKeeping old answers → Obeys view answers c r old new
      → old.broken ≡ false → is_refused r ≡ false → Carries answers old new (submitted_in c r)
  carry others stands_on cuts_on (Submit batch) (Submitted n) old new kept obeys whole done = submitted answers old new new.device (submission 0 batch ∷ []) whole obeys.0.submitted
  carry others stands_on cuts_on (Submit batch) (Refused e b) old new kept obeys whole done = absurd (let no : true ≡ false = done in cc)
  carry others stands_on cuts_on (SubmitAll group) (SubmittedAll n m) old new kept obeys whole done = grouped answers old new group whole obeys.0.submitted
  carry others stands_on cuts_on (SubmitAll group) (Submitted n) old new kept obeys whole done = absurd obeys.0
  carry others stands_on cuts_on (SubmitAll group) (SubmittedAs n) old new kept obeys whole done = absurd obeys.0
  carry others stands_on cuts_on (SubmitAll group) (Released n) old new kept obeys whole done = absurd obeys.0
  carry others stands_on cuts_on (SubmitAll group) Settled old new kept obeys whole done = absurd obeys.0
  carry others stands_on cuts_on (SubmitAll group) (Collected n) old new kept obeys whole done = absurd obeys.0
  carry others stands_on cuts_on (SubmitAll group) (Out o) old new kept obeys whole done = absurd obeys.0
  carry others stands_on cuts_on (SubmitAll group) (CutTaken n) old new kept obeys whole done = absurd obeys.0
  carry others stands_on cuts_on (SubmitAll group) (Written w) old new kept obeys whole done = absurd obeys.0
  carry others stands_on cuts_on (SubmitAll group) (Answered m ys) old new kept obeys whole done = absurd obeys.0
  carry others stands_on cuts_on (SubmitAll group) Closed old new kept obeys whole done = absurd obeys.0
  carry others stands_on cuts_on (SubmitAll group) (Refused e b) old new kept obeys whole done = absurd obeys.0
  carry others stands_on cuts_on (SubmitAll group) (RefusedAll e xs) old new kept obeys whole done = absurd (let no : true ≡ false = done in cc)
  carry others stands_on cuts_on (SubmitAs request batch) (SubmittedAs receipt) old new kept obeys whole done = carry_received request batch receipt old new obeys.0.received whole
  carry others stands_on cuts_on (SubmitAs request batch) (Refused e b) old new kept obeys whole done = absurd (let no : true ≡ false = done in cc)
  carry others stands_on cuts_on (SubmitAs request batch) (Submitted n) old new kept obeys whole done = absurd obeys.0
  carry others stands_on cuts_on (SubmitAs request batch) (SubmittedAll n m) old new kept obeys whole done = absurd obeys.0
  carry others stands_on cuts_on (SubmitAs request batch) (RefusedAll e xs) old new kept obeys whole done = absurd obeys.0
  carry others stands_on cuts_on (SubmitAs request batch) (Released n) old new kept obeys whole done = absurd obeys.0
  carry others stands_on cuts_on (SubmitAs request batch) Settled old new kept obeys whole done = absurd obeys.0
  carry others stands_on cuts_on (SubmitAs request batch) (Collected n) old new kept obeys whole done = absurd obeys.0
  carry others stands_on cuts_on (SubmitAs request batch) (Out o) old new kept obeys whole done = absurd obeys.0
  carry others stands_on cuts_on (SubmitAs request batch) (CutTaken n) old new kept obeys whole done = absurd obeys.0
  carry others stands_on cuts_on (SubmitAs request batch) (Written w) old new kept obeys whole done = absurd obeys.0
  carry others stands_on cuts_on (SubmitAs request batch) (Answered m ys) old new kept obeys whole done = absurd obeys.0
  carry others stands_on cuts_on (SubmitAs request batch) Closed old new kept obeys whole done = absurd obeys.0
  carry others stands_on cuts_on (Submit batch) (SubmittedAs n) old new kept obeys whole done = absurd obeys.0
  carry others stands_on cuts_on (Submit batch) (SubmittedAll n m) old new kept obeys whole done = absurd obeys.0
  carry others stands_on cuts_on (Submit batch) (RefusedAll e xs) old new kept obeys whole done = absurd obeys.0
  carry others stands_on cuts_on (Submit batch) (Released n) old new kept obeys whole done = absurd obeys.0
  carry others stands_on cuts_on (Submit batch) Settled old new kept obeys whole done = absurd obeys.0
  carry others stands_on cuts_on (Submit batch) (Collected n) old new kept obeys whole done = absurd obeys.0
  carry others stands_on cuts_on (Submit batch) (Out o) old new kept obeys whole done = absurd obeys.0
  carry others stands_on cuts_on (Submit batch) (CutTaken n) old new kept obeys whole done = absurd obeys.0
  carry others stands_on cuts_on (Submit batch) (Written w) old new kept obeys whole done = absurd obeys.0
  carry others stands_on cuts_on (Submit batch) (Answered m ys) old new kept obeys whole done = absurd obeys.0
  carry others stands_on cuts_on (Submit batch) Closed old new kept obeys whole done = absurd obeys.0
  carry others stands_on cuts_on Release r old new kept obeys whole done = rests_carry old new (others Release r old new refl obeys) whole
  carry others stands_on cuts_on Settle r old new kept obeys whole done = rests_carry old new (others Settle r old new refl obeys) whole
  carry others stands_on cuts_on Collect r old new kept obeys whole done = rests_carry old new (others Collect r old new refl obeys) whole
  carry others stands_on cuts_on NextOut r old new kept obeys whole done = rests_carry old new (others NextOut r old new refl obeys) whole
  carry others stands_on cuts_on Cut r old new kept obeys whole done = rests_carry old new (others Cut r old new refl obeys) whole
  carry others stands_on cuts_on (Answer v w) r old new kept obeys whole done = rests_carry old new (others (Answer v w) r old new refl obeys) whole
  carry others stands_on cuts_on (CutUpTo m) r old new kept obeys whole done = rests_carry old new (others (CutUpTo m) r old new refl obeys) whole
  carry others stands_on cuts_on WriteCut (Written w) old new kept obeys whole done =
      ⊎_elim
      (λ none. unmoved answers old new (ap (λ (k : Keeping D). k.plan) none.2) (ap (λ (k : Keeping D). k.standing) none.2) (ap (λ (k : Keeping D). k.broken) none.2 ∙ whole))
      (λ written. checkpointed answers stands_on cuts_on old new new.device whole kept written.1)
      obeys.0.cut
  carry others stands_on cuts_on WriteCut (Refused e b) old new kept obeys whole done = absurd (let no : true ≡ false = done in cc)
  carry others stands_on cuts_on WriteCut (SubmittedAs n) old new kept obeys whole done = absurd obeys.0
  carry others stands_on cuts_on WriteCut (SubmittedAll n m) old new kept obeys whole done = absurd obeys.0
  carry others stands_on cuts_on WriteCut (RefusedAll e xs) old new kept obeys whole done = absurd obeys.0
  carry others stands_on cuts_on WriteCut (Submitted n) old new kept obeys whole done = absurd obeys.0
  carry others stands_on cuts_on WriteCut (Released n) old new kept obeys whole done = absurd obeys.0
  carry others stands_on cuts_on WriteCut Settled old new kept obeys whole done = absurd obeys.0
  carry others stands_on cuts_on WriteCut (Collected n) old new kept obeys whole done = absurd obeys.0
  carry others stands_on cuts_on WriteCut (Out o) old new kept obeys whole done = absurd obeys.0
  carry others stands_on cuts_on WriteCut (CutTaken n) old new kept obeys whole done = absurd obeys.0
  carry others stands_on cuts_on WriteCut (Answered m ys) old new kept obeys whole done = absurd obeys.0
  carry others stands_on cuts_on WriteCut Closed old new kept obeys whole done = absurd obeys.0
  carry others stands_on cuts_on (CloseFree most) Closed old new kept obeys whole done =
      let same = obeys.0.same in unmoved answers old new (ap (λ (k : Keeping D). k.plan) same) (ap (λ (k : Keeping D). k.standing) same) (ap (λ (k : Keeping D). k.broken) same ∙ whole)
  carry others stands_on cuts_on (CloseFree most) (Refused e b) old new kept obeys whole done = absurd (let no : true ≡ false = done in cc)
  carry others stands_on cuts_on (CloseFree most) (Submitted n) old new kept obeys whole done = absurd obeys.0
  carry others stands_on cuts_on (CloseFree most) (SubmittedAs n) old new kept obeys whole done = absurd obeys.0
  carry others stands_on cuts_on (CloseFree most) (SubmittedAll n m) old new kept obeys whole done = absurd obeys.0
  carry others stands_on cuts_on (CloseFree most) (RefusedAll e xs) old new kept obeys whole done = absurd obeys.0
  carry others stands_on cuts_on (CloseFree most) (Released n) old new kept obeys whole done = absurd obeys.0
  carry others stands_on cuts_on (CloseFree most) Settled old new kept obeys whole done = absurd obeys.0
  carry others stands_on cuts_on (CloseFree most) (Collected n) old new kept obeys whole done = absurd obeys.0
  carry others stands_on cuts_on (CloseFree most) (Out o) old new kept obeys whole done = absurd obeys.0
  carry others stands_on cuts_on (CloseFree most) (CutTaken n) old new kept obeys whole done = absurd obeys.0
  carry others stands_on cuts_on (CloseFree most) (Answered m ys) old new kept obeys whole done = absurd obeys.0
  carry others stands_on cuts_on (CloseFree most) (Written w) old new kept obeys whole done = absurd obeys.0

module _ {D : Type 0} (view : D → DiskView) (answers : Answers) (stands_on : Stands-on answers) (old new : Keeping D) (whole : old.broken ≡ false)
    (before : (view new.device).lawful → (view old.device).lawful)
    (counts : (view new.device).lawful → (c : List ℕ) → (view new.device).state.images c → (view new.device).state.since (view old.device).state.moment c) where
  none_left : (more : List AnySubmitted) (other : Keeping D) → new ≡ other → other.plan ≡ old.plan → other.standing ≡ old.standing → other.broken ≡ false → Leaves view answers old new more
  none_left more other is plan standing same =
      leaves_none view answers old new more
      (unmoved answers old new (ap (λ (k : Keeping D). k.plan) is ∙ plan) (ap (λ (k : Keeping D). k.standing) is ∙ standing) (ap (λ (k : Keeping D). k.broken) is ∙ same))

  rests_left : (more : List AnySubmitted) → Rests old new → Leaves view answers old new more
  rests_left more rests = leaves_none view answers old new more (rests_carry view answers old new rests whole)

  -- A COMMAND THAT WAS REFUSED: nothing was submitted; or the device failed, and its batch stands on the disk or not
  pub refused : Others-rest view answers → (c : Command) (e : KeeperError) (b : _) → Obeys view answers c (Refused e b) old new
      → ((view old.device).lawful → SinceAdvance answers old.plan old.standing (submitted_in c (Refused e b)) (last_epoch old.standing) (view old.device).state.moment (view new.device).state)
      → Leaves view answers old new (new_to old (batch_in c))
  refused others (Submit batch) e b obeys since =
      ⊎_elim
      (λ is. none_left (submission 0 batch ∷ []) old is refl refl whole)
      (λ other. ⊎_elim
      (λ memory. none_left (submission 0 batch ∷ []) (record old { device = new.device }) memory.1 refl refl whole)
      (λ device. record {
        count = 0;
        group = 1;
        few = omega arith;
        left = inr (stopped_one view answers stands_on old new before counts (submission 0 batch)
            (λ lawful.
            subst (λ (f : KeeperError). SinceAdvance answers old.plan old.standing (submitted_in (Submit batch) (Refused f b)) (last_epoch old.standing) (view old.device).state.moment (view new.device).state) device.0
            (since lawful)));
      })
      other)
      obeys.0.unchanged
  refused others (SubmitAs request batch) e b obeys since =
      ⊎_elim
      (λ is. none_left more old is refl refl whole)
      (λ other. ⊎_elim
      (λ memory. none_left more (record old { device = new.device }) memory.1 refl refl whole)
      (λ device. record { count = 0; group = 1; few = omega arith; left = inr (failed device.0 (is_new old.standing request) refl) })
      other)
      obeys.0.refused.unchanged
    where
      s : AnySubmitted
      s = submission request batch

      more : List AnySubmitted
      more = new_to old (s ∷ [])

      never : e ≡ error.Device → (e ≡ error.Broken) ⊎ (e ≡ error.OldVersion) → ⊥
      never device why = ⊎_elim (λ broken. (let no : error.Device ≡ error.Broken = sym device ∙ broken in absurd cc)) (λ version. (let no : error.Device ≡ error.OldVersion = sym device ∙ version in absurd cc)) why

      failed : e ≡ error.Device → (t : Bool) → is_new old.standing request ≡ t → Stopped view answers old new more 0 1
      failed device true is =
          subst (λ (l : List AnySubmitted). Stopped view answers old new l 0 1) (sym (new_one (last_request old.standing) s is))
          (stopped_one view answers stands_on old new before counts s
          (λ lawful.
          subst (λ (f : KeeperError). SinceAdvance answers old.plan old.standing (submitted_in (SubmitAs request batch) (Refused f b)) (last_epoch old.standing) (view old.device).state.moment (view new.device).state) device
          (since lawful)))
      failed device false is = absurd (never device (obeys.0.repeated is))
  refused others (SubmitAll group) e b obeys since = absurd obeys.0
  refused others Release e b obeys since = rests_left [] (others Release (Refused e b) old new refl obeys)
  refused others Settle e b obeys since = rests_left [] (others Settle (Refused e b) old new refl obeys)
  refused others Collect e b obeys since = rests_left [] (others Collect (Refused e b) old new refl obeys)
  refused others NextOut e b obeys since = rests_left [] (others NextOut (Refused e b) old new refl obeys)
  refused others Cut e b obeys since = rests_left [] (others Cut (Refused e b) old new refl obeys)
  refused others (Answer v w) e b obeys since = rests_left [] (others (Answer v w) (Refused e b) old new refl obeys)
  refused others (CutUpTo m) e b obeys since = rests_left [] (others (CutUpTo m) (Refused e b) old new refl obeys)
  refused others WriteCut e b obeys since =
      ⊎_elim
      (λ many. none_left [] (record old { waiting = false }) many.1 refl refl whole)
      (λ other. ⊎_elim
      (λ device. record {
        count = 0;
        group = 0;
        few = omega arith;
        left = inr (stopped_none view answers stands_on old new before counts since);
      })
      (λ is. none_left [] old is refl refl whole)
      other)
      obeys.0.unchanged
  refused others (CloseFree most) e b obeys since =
      ⊎_elim
      (λ is. none_left [] old is refl refl whole)
      (λ device. record {
        count = 0;
        group = 0;
        few = omega arith;
        left = inr (stopped_none view answers stands_on old new before counts since);
      })
      obeys.0.unchanged

  -- a group stands on the disk whole, or not at all
  none_of_group : (c : Command) (e : GroupError) (b : List AnySubmitted) → Obeys view answers c (RefusedAll e b) old new → IsRising old c
      → Leaves view answers old new (new_to old (batch_in c))
  none_of_group (SubmitAll group) e b obeys rises =
      ⊎_elim
      (λ is. none_left more old is refl refl whole)
      (λ other. ⊎_elim
      (λ memory. none_left more (record old { device = new.device }) memory.1 refl refl whole)
      (λ device. record {
        count = 0;
        group = length group;
        few = omega arith;
        left = inr (subst (λ (l : List AnySubmitted). Stopped view answers old new l 0 (length group)) (sym (all_new (last_request old.standing) group rises))
            (stopped_all view answers old new before counts group (λ lawful. obeys.0.images lawful whole)));
      })
      other)
      obeys.0.unchanged
    where
      more : List AnySubmitted
      more = new_to old group
  none_of_group (Submit batch) e b obeys rises = absurd obeys.0
  none_of_group (SubmitAs request batch) e b obeys rises = absurd obeys.0
  none_of_group Release e b obeys rises = absurd obeys
  none_of_group Settle e b obeys rises = absurd obeys
  none_of_group Collect e b obeys rises = absurd obeys
  none_of_group NextOut e b obeys rises = absurd obeys
  none_of_group Cut e b obeys rises = absurd obeys
  none_of_group (Answer v w) e b obeys rises = absurd obeys
  none_of_group (CutUpTo m) e b obeys rises = absurd obeys
  none_of_group WriteCut e b obeys rises = absurd obeys.0
  none_of_group (CloseFree most) e b obeys rises = absurd obeys.0

  -- ANY REFUSAL
  pub refused_any : Others-rest view answers → (c : Command) (r : Reply) → is_refused r ≡ true → Obeys view answers c r old new → IsRising old c
      → ((view old.device).lawful → SinceAdvance answers old.plan old.standing (submitted_in c r) (last_epoch old.standing) (view old.device).state.moment (view new.device).state)
      → Leaves view answers old new (new_to old (batch_in c))
  refused_any others c (Refused e b) is obeys rises since = refused others c e b obeys since
  refused_any others c (RefusedAll e b) is obeys rises since = none_of_group c e b obeys rises
  refused_any others c (Submitted n) is obeys rises since = absurd (let no : false ≡ true = is in cc)
  refused_any others c (SubmittedAs n) is obeys rises since = absurd (let no : false ≡ true = is in cc)
  refused_any others c (SubmittedAll n m) is obeys rises since = absurd (let no : false ≡ true = is in cc)
  refused_any others c (Released n) is obeys rises since = absurd (let no : false ≡ true = is in cc)
  refused_any others c Settled is obeys rises since = absurd (let no : false ≡ true = is in cc)
  refused_any others c (Collected n) is obeys rises since = absurd (let no : false ≡ true = is in cc)
  refused_any others c (Out o) is obeys rises since = absurd (let no : false ≡ true = is in cc)
  refused_any others c (CutTaken n) is obeys rises since = absurd (let no : false ≡ true = is in cc)
  refused_any others c (Written w) is obeys rises since = absurd (let no : false ≡ true = is in cc)
  refused_any others c (Answered m ys) is obeys rises since = absurd (let no : false ≡ true = is in cc)
  refused_any others c Closed is obeys rises since = absurd (let no : false ≡ true = is in cc)

module _ {D : Type 0} (view : D → DiskView) (answers : Answers) where
  repeats : (c : Command) (b : List AnySubmitted) (old new : Keeping D) → Obeys view answers c (RefusedAll Repeated b) old new → IsRising old c → ⊥
  repeats (SubmitAll group) b old new obeys rises =
      ⊎_elim
      (λ refused. never old.broken (has_number group && nat_lt old.head.version 2) (may_follow (Some (last_request old.standing)) group) (not (all_accepted old.plan group)) (not (all_few old.head.shape.m group))
      (nat_le (2 ^ 63) (last_epoch old.standing + length group)) (nat_lt old.head.shape.n (length old.standing.submitted + length group)) rises refused)
      (λ other. ⊎_elim (λ memory. absurd (let no : Repeated ≡ Keeper error.Memory = memory in cc)) (λ device. absurd (let no : Repeated ≡ Keeper error.Device = device in cc)) other.1)
      obeys.0.cause
  repeats (Submit batch) b old new obeys rises = obeys.0
  repeats (SubmitAs request batch) b old new obeys rises = obeys.0
  repeats Release b old new obeys rises = obeys
  repeats Settle b old new obeys rises = obeys
  repeats Collect b old new obeys rises = obeys
  repeats NextOut b old new obeys rises = obeys
  repeats Cut b old new obeys rises = obeys
  repeats (Answer v w) b old new obeys rises = obeys
  repeats (CutUpTo m) b old new obeys rises = obeys
  repeats WriteCut b old new obeys rises = obeys.0
  repeats (CloseFree most) b old new obeys rises = obeys.0

  -- A GROUP WHOSE NUMBERS RISE is not refused as one that repeats some
  pub not_repeated : (c : Command) (r : Reply) (old new : Keeping D) → Obeys view answers c r old new → IsRising old c → is_repeated r ≡ false
  not_repeated c (RefusedAll Repeated b) old new obeys rises = absurd (repeats c b old new obeys rises)
  not_repeated c (RefusedAll (Keeper e) b) old new obeys rises = refl
  not_repeated c (Refused e b) old new obeys rises = refl
  not_repeated c (Submitted n) old new obeys rises = refl
  not_repeated c (SubmittedAs n) old new obeys rises = refl
  not_repeated c (SubmittedAll n m) old new obeys rises = refl
  not_repeated c (Released n) old new obeys rises = refl
  not_repeated c Settled old new obeys rises = refl
  not_repeated c (Collected n) old new obeys rises = refl
  not_repeated c (Out o) old new obeys rises = refl
  not_repeated c (CutTaken n) old new obeys rises = refl
  not_repeated c (Written w) old new obeys rises = refl
  not_repeated c (Answered m ys) old new obeys rises = refl
  not_repeated c Closed old new obeys rises = refl

-- the device's refusal
device_is : (e : KeeperError) → is_device e ≡ true → e ≡ error.Device
device_is error.Device is = refl
device_is e is = absurd (let no : false ≡ true = is in cc)

-- these, or none of them
these_if : (b : Bool) (x : List AnySubmitted) → Begins (if b then x else []) x
these_if true x = begins_all x x refl
these_if false x = (x, refl)

module _ {D : Type 0} (view : D → DiskView) (answers : Answers) where
  -- a request that was refused, of which nothing was submitted, or its batch, where the device failed
  request_begins : (request : ℕ) (batch : List Entry) (e : KeeperError) (b : Option (List Entry)) (old new : Keeping D) → Obeys view answers (SubmitAs request batch) (Refused e b) old new
      → Begins (submitted_in (SubmitAs request batch) (Refused e b)) (new_to old (submission request batch ∷ []))
  request_begins request batch e b old new obeys = by (is_device e) (is_new old.standing request) refl refl
    where
      s : AnySubmitted
      s = submission request batch

      never : e ≡ error.Device → (e ≡ error.Broken) ⊎ (e ≡ error.OldVersion) → ⊥
      never device why = ⊎_elim (λ broken. (let no : error.Device ≡ error.Broken = sym device ∙ broken in absurd cc)) (λ version. (let no : error.Device ≡ error.OldVersion = sym device ∙ version in absurd cc)) why

      by : (failed new_one_is : Bool) → is_device e ≡ failed → is_new old.standing request ≡ new_one_is → Begins (submitted_in (SubmitAs request batch) (Refused e b)) (new_to old (s ∷ []))
      by false new_is none is = (new_to old (s ∷ []), ap (λ (c : Bool). (if c then s ∷ [] else []) ++ new_to old (s ∷ [])) (sym none))
      by true true device is =
          begins_all (submitted_in (SubmitAs request batch) (Refused e b)) (new_to old (s ∷ [])) (ap (λ (c : Bool). if c then s ∷ [] else []) device ∙ sym (new_one (last_request old.standing) s is))
      by true false device is = absurd (never (device_is e device) (obeys.0.repeated is))

  -- WHAT A REFUSED COMMAND SUBMITTED begins what it would submit
  pub refused_begins : (c : Command) (r : Reply) (old new : Keeping D) → is_refused r ≡ true → Obeys view answers c r old new → IsRising old c → Begins (submitted_in c r) (new_to old (batch_in c))
  refused_begins (Submit batch) (Refused e b) old new is obeys rises = these_if (is_device e) (submission 0 batch ∷ [])
  refused_begins (Submit batch) (RefusedAll e xs) old new is obeys rises = absurd obeys.0
  refused_begins (Submit batch) r old new is obeys rises = absurd (let no : false ≡ true = is in cc)
  refused_begins (SubmitAs request batch) (Refused e b) old new is obeys rises = request_begins request batch e b old new obeys
  refused_begins (SubmitAs request batch) (RefusedAll e xs) old new is obeys rises = absurd obeys.0
  refused_begins (SubmitAs request batch) r old new is obeys rises = absurd (let no : false ≡ true = is in cc)
  refused_begins (SubmitAll group) (RefusedAll e xs) old new is obeys rises =
      subst (λ (l : List AnySubmitted). Begins (submitted_in (SubmitAll group) (RefusedAll e xs)) l) (sym (all_new (last_request old.standing) group rises)) (these_if (is_of_device e) group)
  refused_begins (SubmitAll group) (Refused e b) old new is obeys rises = absurd obeys.0
  refused_begins (SubmitAll group) r old new is obeys rises = absurd (let no : false ≡ true = is in cc)
  refused_begins c r old new is obeys rises = ([], refl)
