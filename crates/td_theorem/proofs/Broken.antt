-- A keeper whose device failed writes nothing, whatever it is told.
use Rattle.std.proofs.Common.{◌≡◌, ◌⊎◌, ⊎_elim, ℕ, Bool, true, false, List, [], ◌∷◌, ◌++◌, refl, sym, ap, ◌∙◌}
use Rattle.std.specs.Prelude.{Option, Some, None, if◌then◌else◌}
use Rattle.td_stamp.specs.declared.values.Entry.{Entry}
use Rattle.td_calls.specs.Answers.{Answers}
use Rattle.td_disk.specs.Disk.{DiskView, DiskState}
use Rattle.td_journal.specs.declared.payload.Submitted.{Submitted as AnySubmitted}
use Rattle.td_store.specs.standing.Standing.{submission}
use Rattle.td_store.specs.declared.standing.error.KeeperError.{KeeperError}
use Rattle.td_store.specs.declared.standing.error.KeeperError.TheVariants as error
use Rattle.td_keeper.specs.declared.submit_all.GroupError.{GroupError}
use Rattle.td_keeper.specs.declared.submit_all.GroupError.TheVariants.{Keeper}
use Rattle.td_keeper.specs.declared.command.Command.{Command}
use Rattle.td_keeper.specs.declared.command.Command.TheVariants.{Submit, SubmitAs, SubmitAll, Release, Settle, Collect, NextOut, Cut, CutUpTo, Answer, WriteCut, CloseFree}
use Rattle.td_keeper.specs.declared.command.Reply.{Reply}
use Rattle.td_keeper.specs.declared.command.Reply.TheVariants.{Submitted, SubmittedAs, SubmittedAll, Written, Closed, Refused, RefusedAll}
use Rattle.td_keeper.specs.Keeping.{Keeping}
use Rattle.td_keeper.specs.Refused.{submit_refusal, submit_as_refusal, group_refusal, write_refusal, close_refusal}
use Rattle.td_keeper.specs.Driven.{is_device, is_of_device, may_write, submitted_in, submitted_by, IsNotSubmitted, Submits, SubmitsAs, SubmitsAll, Writes, ClosesFree, Obeys, Driven, Rests}

-- the law of commands that do not write, as it is handed in
abbrev pub RestLaw : {D : Type 0} → (D → DiskView) → Answers → Type 0
RestLaw {D = D} view answers = (command : Command) (reply : Reply) (old new : Keeping D) → may_write command ≡ false
    → Obeys view answers command reply old new → Rests old new

-- what such a keeper refuses all that may write as
submit_broken : {D : Type 0} (k : Keeping D) (batch : List Entry) → k.broken ≡ true → submit_refusal k batch ≡ Some error.Broken
submit_broken k batch is = ap (λ (b : Bool). submit_refusal (record k { broken = b }) batch) is

submit_as_broken : {D : Type 0} (k : Keeping D) (request : ℕ) (batch : List Entry) → k.broken ≡ true → submit_as_refusal k request batch ≡ Some error.Broken
submit_as_broken k request batch is = ap (λ (b : Bool). submit_as_refusal (record k { broken = b }) request batch) is

group_broken : {D : Type 0} (k : Keeping D) (group : List AnySubmitted) → k.broken ≡ true → group_refusal k group ≡ Some (Keeper error.Broken)
group_broken k group is = ap (λ (b : Bool). group_refusal (record k { broken = b }) group) is

write_broken : {D : Type 0} (k : Keeping D) → k.broken ≡ true → write_refusal k ≡ Some error.Broken
write_broken k is = ap (λ (b : Bool). write_refusal (record k { broken = b })) is

close_broken : {D : Type 0} (k : Keeping D) → k.broken ≡ true → close_refusal k ≡ Some error.Broken
close_broken k is = ap (λ (b : Bool). close_refusal (record k { broken = b })) is

-- so the refusal is that
is_broken : {E : Type 0} (o : Option E) (b e : E) (P : Type 0) → o ≡ Some b → (o ≡ Some e) ⊎ ((o ≡ None) × P) → e ≡ b
is_broken o b e P broken said =
    ⊎_elim
    (λ is. let same : Some e ≡ Some b = sym is ∙ broken in cc)
    (λ none. absurd (let no : None ≡ Some b = sym none.0 ∙ broken in cc))
    said

none_is_broken : {E : Type 0} (o : Option E) (b : E) → o ≡ Some b → o ≡ None → ⊥
none_is_broken o b broken none = let no : None ≡ Some b = sym none ∙ broken in absurd (cc)

-- it writes nothing, and stays as it is
record StaysBroken {D : Type 0} (old new : Keeping D) : Type 0 where
  device : new.device ≡ old.device
  broken : new.broken ≡ true

same : {D : Type 0} (old new : Keeping D) → new ≡ old → old.broken ≡ true → StaysBroken old new
same old new is broken = record { device = ap (λ k. k.device) is; broken = ap (λ k. k.broken) is ∙ broken }

module _ {D : Type 0} (view : D → DiskView) (answers : Answers) (rest : RestLaw view answers) where
  rests : (command : Command) (reply : Reply) (old new : Keeping D) → may_write command ≡ false → Obeys view answers command reply old new → old.broken ≡ true → StaysBroken old new
  rests command reply old new quiet obeys is =
      let r = rest command reply old new quiet obeys in
      record { device = r.device; broken = r.broken ∙ is }

  refused : (refusal : Option KeeperError) (x : List AnySubmitted) (batch : List Entry) (e : KeeperError) (back : Option (List Entry)) (old new : Keeping D)
      → refusal ≡ Some error.Broken → IsNotSubmitted view answers refusal batch e back old new → old.broken ≡ true
      → StaysBroken old new × ((if is_device e then x else []) ≡ [])
  refused refusal x batch e back old new broken r is =
      let named : e ≡ error.Broken = is_broken refusal error.Broken e ((e ≡ error.Memory) ⊎ (e ≡ error.Device)) broken r.cause in
      let none : (if is_device e then x else []) ≡ [] = ap (λ (f : KeeperError). if is_device f then x else []) named in (
        ⊎_elim (λ old_is. same old new old_is is)
            (λ other. ⊎_elim (λ memory. absurd (let no : error.Broken ≡ error.Memory = sym named ∙ memory.0 in cc)) (λ device. absurd (let no : error.Broken ≡ error.Device = sym named ∙ device.0 in cc)) other) r.unchanged,
        none,
      )

  submits : (batch : List Entry) (reply : Reply) (old new : Keeping D) → Submits view answers batch reply old new → old.broken ≡ true
      → StaysBroken old new × (submitted_in (Submit batch) reply ≡ [])
  submits batch (Submitted n) old new r is = absurd (none_is_broken (submit_refusal old batch) error.Broken (submit_broken old batch is) r.accepted)
  submits batch (Refused e back) old new r is = refused (submit_refusal old batch) (submission 0 batch ∷ []) batch e back old new (submit_broken old batch is) r is
  submits batch other old new r is = absurd r

  submits_as : (request : ℕ) (batch : List Entry) (reply : Reply) (old new : Keeping D) → SubmitsAs view answers request batch reply old new → old.broken ≡ true
      → StaysBroken old new × (submitted_in (SubmitAs request batch) reply ≡ [])
  submits_as request batch (SubmittedAs n) old new r is = absurd (none_is_broken (submit_as_refusal old request batch) error.Broken (submit_as_broken old request batch is) r.accepted)
  submits_as request batch (Refused e back) old new r is =
      refused (submit_as_refusal old request batch) (submission request batch ∷ []) batch e back old new (submit_as_broken old request batch is) r.refused is
  submits_as request batch other old new r is = absurd r

  submits_all : (group : List AnySubmitted) (reply : Reply) (old new : Keeping D) → SubmitsAll view answers group reply old new → old.broken ≡ true
      → StaysBroken old new × (submitted_in (SubmitAll group) reply ≡ [])
  submits_all group (SubmittedAll n m) old new r is = absurd (none_is_broken (group_refusal old group) (Keeper error.Broken) (group_broken old group is) r.accepted)
  submits_all group (RefusedAll e back) old new r is =
      let named : e ≡ Keeper error.Broken = is_broken (group_refusal old group) (Keeper error.Broken) e ((e ≡ Keeper error.Memory) ⊎ (e ≡ Keeper error.Device)) (group_broken old group is) r.cause in
      let none : (if is_of_device e then group else []) ≡ [] = ap (λ (f : GroupError). if is_of_device f then group else []) named in (
        ⊎_elim (λ old_is. same old new old_is is)
            (λ other. ⊎_elim (λ memory. absurd (let no : Keeper error.Broken ≡ Keeper error.Memory = sym named ∙ memory.0 in cc)) (λ device. absurd (let no : Keeper error.Broken ≡ Keeper error.Device = sym named ∙ device.0 in cc)) other) r.unchanged,
        none,
      )
  submits_all group other old new r is = absurd r

  writes : (reply : Reply) (old new : Keeping D) → Writes view answers reply old new → old.broken ≡ true → StaysBroken old new
  writes (Written w) old new r is = absurd (none_is_broken (write_refusal old) error.Broken (write_broken old is) r.accepted)
  writes (Refused e back) old new r is =
      let named : e ≡ error.Broken = is_broken (write_refusal old) error.Broken e ((e ≡ error.Memory) ⊎ (e ≡ error.Device)) (write_broken old is) r.cause in
      ⊎_elim (λ many. absurd (let no : error.Broken ≡ error.TooManyKeys = sym named ∙ many.0 in cc))
      (λ other. ⊎_elim (λ failed. absurd (let no : error.Broken ≡ error.Device = sym named ∙ failed.0 in cc)) (λ old_is. same old new old_is is) other) r.unchanged
  writes other old new r is = absurd r

  closes : (most : ℕ) (reply : Reply) (old new : Keeping D) → ClosesFree view answers most reply old new → old.broken ≡ true → StaysBroken old new
  closes most Closed old new r is = absurd (none_is_broken (close_refusal old) error.Broken (close_broken old is) r.accepted)
  closes most (Refused e back) old new r is =
      let named : e ≡ error.Broken = is_broken (close_refusal old) error.Broken e (e ≡ error.Device) (close_broken old is) r.cause in
      ⊎_elim (λ old_is. same old new old_is is) (λ failed. absurd (let no : error.Broken ≡ error.Device = sym named ∙ failed.0 in cc)) r.unchanged
  closes most other old new r is = absurd r

  one : (command : Command) (reply : Reply) (old new : Keeping D) → Obeys view answers command reply old new → old.broken ≡ true
      → StaysBroken old new × (submitted_in command reply ≡ [])
  one (Submit batch) reply old new obeys is = submits batch reply old new obeys.0 is
  one (SubmitAs request batch) reply old new obeys is = submits_as request batch reply old new obeys.0 is
  one (SubmitAll group) reply old new obeys is = submits_all group reply old new obeys.0 is
  one Release reply old new obeys is = (rests Release reply old new refl obeys is, refl)
  one Settle reply old new obeys is = (rests Settle reply old new refl obeys is, refl)
  one Collect reply old new obeys is = (rests Collect reply old new refl obeys is, refl)
  one NextOut reply old new obeys is = (rests NextOut reply old new refl obeys is, refl)
  one Cut reply old new obeys is = (rests Cut reply old new refl obeys is, refl)
  one (Answer v w) reply old new obeys is = (rests (Answer v w) reply old new refl obeys is, refl)
  one (CutUpTo e) reply old new obeys is = (rests (CutUpTo e) reply old new refl obeys is, refl)
  one WriteCut reply old new obeys is = (writes reply old new obeys.0 is, refl)
  one (CloseFree most) reply old new obeys is = (closes most reply old new obeys.0 is, refl)

  -- A BROKEN KEEPER: its device is as it was, nothing is submitted, and it stays broken
  pub broken_stays : (commands : List Command) (replies : List Reply) (old new : Keeping D) → Driven view answers commands replies old new → old.broken ≡ true
      → (new.device ≡ old.device) × (submitted_by commands replies ≡ []) × (new.broken ≡ true)
  broken_stays [] [] old new e is = (ap (λ k. k.device) e, refl, ap (λ k. k.broken) e ∙ is)
  broken_stays [] (r ∷ rs) old new none is = absurd none
  broken_stays (c ∷ cs) [] old new none is = absurd none
  broken_stays (c ∷ cs) (r ∷ rs) old new driven is =
      let first = one c r old driven.0 driven.2 is in
      let more = broken_stays cs rs driven.0 new driven.3 first.0.broken in
      (more.0 ∙ first.0.device, ap (λ (l : List AnySubmitted). l ++ submitted_by cs rs) first.1 ∙ more.1, more.2)
