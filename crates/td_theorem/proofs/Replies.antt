-- What one command and its reply come to: the numbers of what it submitted are new, and all of it is acknowledged, or the device failed.
use Rattle.std.proofs.Common.{◌≡◌, ◌⊎◌, inl, inr, ⊎_elim, ℕ, suc, ◌+◌, ◌^◌, Bool, true, false, List, [], ◌∷◌, length, refl, sym, ap, ◌∙◌}
use Rattle.std.specs.Prelude.{Option, Some, None, ◌&&◌, not, nat_lt, nat_le, if◌then◌else◌}
use Rattle.td_stamp.specs.declared.values.Entry.{Entry}
use Rattle.td_calls.specs.Answers.{Answers}
use Rattle.td_disk.specs.Disk.{DiskView, DiskState}
use Rattle.td_journal.specs.Numbers.{may_come}
use Rattle.td_journal.specs.declared.payload.Submitted.{Submitted as AnySubmitted}
use Rattle.td_store.specs.group.Groups.{may_follow}
use Rattle.td_store.specs.standing.Standing.{last_epoch, last_request, submission}
use Rattle.td_store.specs.declared.standing.error.KeeperError.{KeeperError}
use Rattle.td_store.specs.declared.standing.error.KeeperError.TheVariants as error
use Rattle.td_keeper.specs.declared.submit_all.GroupError.{GroupError}
use Rattle.td_keeper.specs.declared.submit_all.GroupError.TheVariants.{Repeated, Keeper}
use Rattle.td_keeper.specs.declared.command.Command.{Command}
use Rattle.td_keeper.specs.declared.command.Command.TheVariants.{Submit, SubmitAs, SubmitAll}
use Rattle.td_keeper.specs.declared.command.Reply.{Reply}
use Rattle.td_keeper.specs.declared.command.Reply.TheVariants.{Submitted, SubmittedAs, SubmittedAll, Refused, RefusedAll}
use Rattle.td_keeper.specs.declared.receipt.Receipt.{Receipt}
use Rattle.td_keeper.specs.declared.receipt.Receipt.TheVariants.{New, Already}
use Rattle.td_keeper.specs.Keeping.{Keeping}
use Rattle.td_keeper.specs.Refused.{is_new, has_number, all_accepted, all_few, group_refusal}
use Rattle.td_keeper.specs.Received.{IsReceived}
use Rattle.td_keeper.specs.Driven.{is_device, is_of_device, submitted_in, Submits, SubmitsAs, SubmitsAll, Obeys}
use Rattle.td_keeper.specs.Acknowledged.{epochs_from, acknowledged_in}

-- whether the device failed, both ways
is_device_is : (e : KeeperError) → is_device e ≡ true → e ≡ error.Device
is_device_is error.Device is = refl
is_device_is other is = absurd (cc)

is_of_device_is : (e : GroupError) → is_of_device e ≡ true → e ≡ Keeper error.Device
is_of_device_is Repeated is = absurd (cc)
is_of_device_is (Keeper e) is = ap (λ (f : KeeperError). Keeper f) (is_device_is e is)

-- batches as epochs are as many
pub length_epochs : (n : ℕ) (xs : List AnySubmitted) → length (epochs_from n xs) ≡ length xs
length_epochs n [] = refl
length_epochs n (x ∷ xs) = ap suc (length_epochs (n + 1) xs)

-- one number may follow where it may come
one_follows : (floor : Option ℕ) (request : ℕ) (batch : List Entry) → may_come floor request ≡ true → may_follow floor (submission request batch ∷ []) ≡ true
one_follows floor request batch may = ap (λ (b : Bool). b && true) may

-- a refusal that is none, or that of the device
is_device_or_none : (e : GroupError) → (◌≡◌ {A = Option GroupError} (Some e) None) ⊎ (◌≡◌ {A = Option GroupError} (Some e) (Some (Keeper error.Device))) → e ≡ Keeper error.Device
is_device_or_none e said = ⊎_elim (λ none. absurd (cc)) (λ same. cc) said

-- what a group is refused as, the first that holds; the numbers of one that is not may follow
abbrev first_refusal : Bool → Bool → Bool → Option GroupError → Option GroupError
first_refusal broken old_version follows other = if broken then Some (Keeper error.Broken) else (if old_version then Some (Keeper error.OldVersion) else (if not follows then Some Repeated else other))

not_repeated : (broken old_version follows : Bool) (other : Option GroupError)
    → (first_refusal broken old_version follows other ≡ None) ⊎ (first_refusal broken old_version follows other ≡ Some (Keeper error.Device)) → follows ≡ true
not_repeated true o f other said = absurd (let wrong : Keeper error.Broken ≡ Keeper error.Device = is_device_or_none (Keeper error.Broken) said in cc)
not_repeated false true f other said = absurd (let wrong : Keeper error.OldVersion ≡ Keeper error.Device = is_device_or_none (Keeper error.OldVersion) said in cc)
not_repeated false false false other said = absurd (let wrong : Repeated ≡ Keeper error.Device = is_device_or_none Repeated said in cc)
not_repeated false false true other said = refl

-- so the numbers of one may follow
group_follows : {D : Type 0} (k : Keeping D) (group : List AnySubmitted) → (group_refusal k group ≡ None) ⊎ (group_refusal k group ≡ Some (Keeper error.Device))
    → may_follow (Some (last_request k.standing)) group ≡ true
group_follows k group said =
    not_repeated k.broken (has_number group && nat_lt k.head.version 2) (may_follow (Some (last_request k.standing)) group)
    (if not (all_accepted k.plan group) then Some (Keeper error.NoSuchInput)
    else (if not (all_few k.head.shape.m group) then Some (Keeper error.TooManyRecords)
    else (if nat_le (2 ^ 63) (last_epoch k.standing + length group) then Some (Keeper error.Epochs)
    else (if nat_lt k.head.shape.n (length k.standing.submitted + length group) then Some (Keeper error.Full)
    else None)))) said

-- ONE COMMAND AND ITS REPLY
pub record Answered {D : Type 0} (command : Command) (reply : Reply) (old new : Keeping D) : Type 0 where
  pub fresh : may_follow (Some (last_request old.standing)) (submitted_in command reply) ≡ true
  pub all : (new.broken ≡ true) ⊎ (length (acknowledged_in command reply) ≡ length (submitted_in command reply))

-- what was submitted where a call was refused: nothing, or the device failed
perhaps : {D : Type 0} (x : List AnySubmitted) (e : KeeperError) (old new : Keeping D) → (e ≡ error.Device → may_follow (Some (last_request old.standing)) x ≡ true) → (e ≡ error.Device → new.broken ≡ true)
    → (may_follow (Some (last_request old.standing)) (if is_device e then x else []) ≡ true) × ((new.broken ≡ true) ⊎ (0 ≡ length (if is_device e then x else [])))
perhaps x e old new fresh broke = by (is_device e) refl
  where
    by : (b : Bool) → is_device e ≡ b → (may_follow (Some (last_request old.standing)) (if b then x else []) ≡ true) × ((new.broken ≡ true) ⊎ (0 ≡ length (if b then x else [])))
    by true is = (fresh (is_device_is e is), inl (broke (is_device_is e is)))
    by false is = (refl, inr refl)

perhaps_all : {D : Type 0} (x : List AnySubmitted) (e : GroupError) (old new : Keeping D) → (e ≡ Keeper error.Device → may_follow (Some (last_request old.standing)) x ≡ true)
    → (e ≡ Keeper error.Device → new.broken ≡ true)
    → (may_follow (Some (last_request old.standing)) (if is_of_device e then x else []) ≡ true) × ((new.broken ≡ true) ⊎ (0 ≡ length (if is_of_device e then x else [])))
perhaps_all x e old new fresh broke = by (is_of_device e) refl
  where
    by : (b : Bool) → is_of_device e ≡ b → (may_follow (Some (last_request old.standing)) (if b then x else []) ≡ true) × ((new.broken ≡ true) ⊎ (0 ≡ length (if b then x else [])))
    by true is = (fresh (is_of_device_is e is), inl (broke (is_of_device_is e is)))
    by false is = (refl, inr refl)

module _ {D : Type 0} (view : D → DiskView) (answers : Answers) where
  submits : (batch : List Entry) (reply : Reply) (old new : Keeping D) → Submits view answers batch reply old new → Answered (Submit batch) reply old new
  submits batch (Submitted n) old new r = record { fresh = refl; all = inr refl }
  submits batch (Refused e back) old new r =
      let p = perhaps (submission 0 batch ∷ []) e old new (λ is. refl) (λ is. (r.device is).broken) in
      record { fresh = p.0; all = p.1 }
  submits batch other old new r = absurd r

  receives : (request : ℕ) (batch : List Entry) (receipt : Receipt) (old new : Keeping D) → IsReceived request batch receipt old new → Answered (SubmitAs request batch) (SubmittedAs receipt) old new
  receives request batch (New n) old new r = record { fresh = one_follows (Some (last_request old.standing)) request batch r.0; all = inr refl }
  receives request batch (Already n) old new r = record { fresh = refl; all = inr refl }

  submits_as : (request : ℕ) (batch : List Entry) (reply : Reply) (old new : Keeping D) → SubmitsAs view answers request batch reply old new → Answered (SubmitAs request batch) reply old new
  submits_as request batch (SubmittedAs receipt) old new r = receives request batch receipt old new r.received
  submits_as request batch (Refused e back) old new r =
      let p = perhaps (submission request batch ∷ []) e old new (by (is_new old.standing request) refl) (λ is. (r.refused.device is).broken) in
      record { fresh = p.0; all = p.1 }
    where
      by : (b : Bool) → is_new old.standing request ≡ b → e ≡ error.Device → may_follow (Some (last_request old.standing)) (submission request batch ∷ []) ≡ true
      by true is device = one_follows (Some (last_request old.standing)) request batch is
      by false is device = absurd (⊎_elim
          (λ broken. absurd (let no : error.Broken ≡ error.Device = sym broken ∙ device in cc))
          (λ version. absurd (let no : error.OldVersion ≡ error.Device = sym version ∙ device in cc))
          (r.repeated is))
  submits_as request batch other old new r = absurd r

  submits_all : (group : List AnySubmitted) (reply : Reply) (old new : Keeping D) → SubmitsAll view answers group reply old new → Answered (SubmitAll group) reply old new
  submits_all group (SubmittedAll first end) old new r = record { fresh = group_follows old group (inl r.accepted); all = inr (length_epochs first group) }
  submits_all group (RefusedAll e back) old new r =
      let p = perhaps_all group e old new fresh (λ is. (r.device is).broken) in
      record { fresh = p.0; all = p.1 }
    where
      fresh : e ≡ Keeper error.Device → may_follow (Some (last_request old.standing)) group ≡ true
      fresh device = group_follows old group (⊎_elim (λ is. inr (is ∙ ap (λ (f : GroupError). Some f) device)) (λ none. inl none.0) r.cause)
  submits_all group other old new r = absurd r

  pub answered : (command : Command) (reply : Reply) (old new : Keeping D) → Obeys view answers command reply old new → Answered command reply old new
  answered (Submit batch) reply old new obeys = submits batch reply old new obeys.0
  answered (SubmitAs request batch) reply old new obeys = submits_as request batch reply old new obeys.0
  answered (SubmitAll group) reply old new obeys = submits_all group reply old new obeys.0
  answered other reply old new obeys = record { fresh = refl; all = inr refl }
