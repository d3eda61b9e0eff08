-- What the calls that write come to, in the words of a command and its reply; and a hall that was the keeper's own is so after each.
use Rattle.std.proofs.Common.{◌≡◌, ◌+◌, ◌∙◌, ◌⊎◌, List, [], ◌∷◌, true, false, true≢false, sym, ap, subst, ⊎_elim, inl, inr, refl, Some, None, Ok, Err}
use Rattle.std.specs.Prelude.{Option, ℕ, Result, IfOk, IfErr, OnOk}
use Rattle.td_stamp.specs.declared.values.Entry.{Entry}
use Rattle.td_calls.specs.Answers.{Answers}
use Rattle.td_disk.specs.Disk.{DiskView}
use Rattle.td_disk.specs.Calls.{KeepsDevice}
use Rattle.td_machine.specs.State.{HallState}
use Rattle.td_journal.specs.declared.payload.Submitted.{Submitted as AnySubmitted}
use Rattle.td_store.specs.standing.Standing.{last_epoch, submission}
use Rattle.td_store.specs.standing.Advanced.{AdvancesSince}
use Rattle.td_store.specs.declared.standing.error.KeeperError.{KeeperError}
use Rattle.td_store.specs.declared.standing.error.KeeperError.TheVariants as error
use Rattle.td_keeper.specs.declared.command.Command.TheVariants.{Submit, SubmitAs, SubmitAll, WriteCut, CloseFree}
use Rattle.td_keeper.specs.declared.command.Reply.TheVariants.{Submitted, SubmittedAll, Written, Closed, Refused, RefusedAll}
use Rattle.td_keeper.specs.declared.submit_all.GroupError.{GroupError}
use Rattle.td_keeper.specs.declared.submit_all.GroupError.TheVariants.{Keeper as ByKeeper}
use Rattle.td_keeper.specs.declared.receipt.Receipt.{Receipt}
use Rattle.td_keeper.specs.Keeping.{Keeping, IsKeeping}
use Rattle.td_keeper.specs.Halls.{IsOwn}
use Rattle.td_keeper.specs.Refused.{is_new, submit_refusal, submit_as_refusal, group_refusal}
use Rattle.td_keeper.specs.Calls.{IsSubmitted, IsAnswered, IsAllSubmitted, IsRefused, IsWritten, IsUnwritten, IsClosed, IsUnclosed, LeavesAtCrash, LeavesAllOrNone, outcome}
use Rattle.td_keeper.specs.Driven.{is_device, is_of_device, Obeys, submitted, submitted_as, submitted_all, written, closed}
use Rattle.td_keeper.proofs.Driving.{refused_in, none_in, received_since}
use Rattle.td_keeper.proofs.Leaving.{refused_by, writes_done, writes_refused}
use Rattle.td_keeper.proofs.Owning.{own_more, own_group, own_aside, own_refused, own_received}
use Rattle.td_keeper.proofs.Knowing.{own_if_written, own_if_unwritten}

-- that the device failed is said by the reply
failed_said : (e : KeeperError) → e ≡ error.Device → is_device e ≡ false → ⊥
failed_said e failed quiet = let both : true ≡ false = sym (ap is_device failed) ∙ quiet in absurd (true≢false both)

all_failed_said : (e : GroupError) → e ≡ ByKeeper error.Device → is_of_device e ≡ false → ⊥
all_failed_said e failed quiet = let both : true ≡ false = sym (ap is_of_device failed) ∙ quiet in absurd (true≢false both)

module _ {D : Type 0} (view : D → DiskView) (answers : Answers) (old new : Keeping D) where
  -- what a crash leaves since an earlier moment, of what may have been submitted
  abbrev Since : List AnySubmitted → Type 0
  Since x = AdvancesSince answers old.plan old.standing x (last_epoch old.standing) (view old.device).state (view new.device).state

  -- A BATCH
  pub submit_obeys : (batch : List Entry) (r : Result ℕ (KeeperError × List Entry)) → IfOk r (λ epoch. IsSubmitted batch epoch old new)
      → IfErr r (λ e. IsRefused view answers error.Memory error.Device (submit_refusal old batch) e.0 old new) → IfErr r (λ e. e.1 ≡ batch)
      → LeavesAtCrash view answers (submission 0 batch ∷ []) old new → KeepsDevice view error.Device (outcome r) old.device new.device
      → Obeys view answers (Submit batch) (submitted r) old new
  submit_obeys batch (Ok epoch) done refused back crash device = (done, writes_done (Submitted epoch) old new (submission 0 batch ∷ []) device crash)
  submit_obeys batch (Err e) done refused back crash device = (
    record {
      batch_back = ap Some back;
      cause = refused.cause;
      unchanged = refused.unchanged;
      memory = refused.unwritten;
      device = λ failed. record { broken = refused.broken failed; risen = device.counts.rises (ap (refused_by ℕ) failed) };
    },
    writes_refused {T = ℕ} {answers = answers} (Refused e.0 (Some e.1)) old new (submission 0 batch ∷ []) _ e.0 (failed_said e.0) device crash
        (λ lawful whole. refused_in Since (submission 0 batch ∷ []) e.0 ((crash lawful).further whole) (⊎_elim inl (λ none. inr (none lawful whole)) refused.nothing)),
  )

  -- UNDER A REQUEST NUMBER
  pub submit_as_obeys : (request : ℕ) (batch : List Entry) (r : Result Receipt (KeeperError × List Entry)) → IfOk r (λ receipt. IsAnswered request batch receipt old new)
      → IfErr r (λ e. IsRefused view answers error.Memory error.Device (submit_as_refusal old request batch) e.0 old new)
      → (is_new old.standing request ≡ false → IfErr r (λ e. (e.0 ≡ error.Broken) ⊎ (e.0 ≡ error.OldVersion))) → IfErr r (λ e. e.1 ≡ batch)
      → LeavesAtCrash view answers (submission request batch ∷ []) old new → KeepsDevice view error.Device (outcome r) old.device new.device
      → Obeys view answers (SubmitAs request batch) (submitted_as r) old new
  submit_as_obeys request batch (Ok receipt) done refused repeated back crash device = (
    done,
    record {
      counted = device.counts.later;
      stays = λ quiet. ⊎_elim (λ failed. absurd (let never : Ok receipt ≡ Err error.Device = failed in cc)) (λ same. same) device.counts.stays;
      advances = λ lawful. record {
        lawful = device.lawful.0 lawful;
        later = (crash lawful).later;
        since = λ whole. received_since view answers request batch receipt old new done.received ((crash lawful).further whole);
      };
      short = λ lawful. (crash lawful).short;
    },
  )
  submit_as_obeys request batch (Err e) done refused repeated back crash device = (
    record {
      refused = record {
        batch_back = ap Some back;
        cause = refused.cause;
        unchanged = refused.unchanged;
        memory = refused.unwritten;
        device = λ failed. record { broken = refused.broken failed; risen = device.counts.rises (ap (refused_by Receipt) failed) };
      };
      repeated = repeated;
    },
    writes_refused {T = Receipt} {answers = answers} (Refused e.0 (Some e.1)) old new (submission request batch ∷ []) _ e.0 (failed_said e.0) device crash
        (λ lawful whole. refused_in Since (submission request batch ∷ []) e.0 ((crash lawful).further whole) (⊎_elim inl (λ none. inr (none lawful whole)) refused.nothing)),
  )

  -- A GROUP
  pub submit_all_obeys : (group : List AnySubmitted) (r : Result ℕ (GroupError × List AnySubmitted)) (end : ℕ) → end ≡ last_epoch new.standing + 1
      → IfOk r (λ first. IsAllSubmitted group first (last_epoch new.standing + 1) old new)
      → IfErr r (λ e. IsRefused view answers (ByKeeper error.Memory) (ByKeeper error.Device) (group_refusal old group) e.0 old new) → IfErr r (λ e. e.1 ≡ group)
      → LeavesAllOrNone view group old new → LeavesAtCrash view answers group old new → KeepsDevice view (ByKeeper error.Device) (outcome r) old.device new.device
      → Obeys view answers (SubmitAll group) (submitted_all end r) old new
  submit_all_obeys group (Ok first) end is done refused back images crash device =
      (record { accepted = done.accepted; submitted = done.submitted; first_is = done.first_is; end_is = is }, writes_done (SubmittedAll first end) old new group device crash)
  submit_all_obeys group (Err e) end is done refused back images crash device = (
    record {
      group_back = back;
      cause = refused.cause;
      unchanged = refused.unchanged;
      memory = refused.unwritten;
      device = λ failed. record { broken = refused.broken failed; risen = device.counts.rises (ap (refused_by ℕ) failed) };
      images = images;
    },
    writes_refused {T = ℕ} {answers = answers} (RefusedAll e.0 e.1) old new group _ e.0 (all_failed_said e.0) device crash
        (λ lawful whole. none_in Since group e.0 ((crash lawful).further whole) (⊎_elim inl (λ none. inr (none lawful whole)) refused.nothing)),
  )

  -- A CUT THAT WAITS
  pub write_obeys : (r : Result (Option ℕ) KeeperError) → IfOk r (λ w. IsWritten w old new) → IfErr r (λ e. IsUnwritten e old new) → LeavesAtCrash view answers [] old new
      → KeepsDevice view error.Device r old.device new.device → Obeys view answers WriteCut (written r) old new
  write_obeys (Ok w) done refused crash device = (done, writes_done (Written w) old new [] device crash)
  write_obeys (Err e) done refused crash device = (
    record {
      no_batch = refl;
      cause = refused.cause;
      unchanged = ⊎_elim (λ many. inl (many, refused.too_many many)) (λ other. ⊎_elim (λ failed. inr (inl (failed, refused.broken failed))) (λ same. inr (inr same)) other) refused.unchanged;
      device = λ failed. record { broken = ap (λ (k : Keeping D). k.broken) (refused.broken failed); risen = device.counts.rises (ap (refused_by (Option ℕ)) failed) };
    },
    writes_refused {T = Option ℕ} {answers = answers} (Refused e None) old new [] [] e (failed_said e) device crash (λ lawful. (crash lawful).further),
  )

  -- CELLS THAT NO EPOCH USES
  pub close_obeys : (most : ℕ) (r : Result (Unit {0}) KeeperError) → OnOk r (IsClosed view most old new) → IfErr r (λ e. IsUnclosed e old new) → LeavesAtCrash view answers [] old new
      → KeepsDevice view error.Device r old.device new.device → Obeys view answers (CloseFree most) (closed r) old new
  close_obeys most (Ok done) is refused crash device = (is, writes_done Closed old new [] device crash)
  close_obeys most (Err e) is refused crash device = (
    record {
      no_batch = refl;
      cause = refused.cause;
      unchanged = refused.unchanged;
      device = λ failed. record { broken = ap (λ (k : Keeping D). k.broken) (refused.broken failed); risen = device.counts.rises (ap (refused_by (Unit {0})) failed) };
    },
    writes_refused {T = Unit {0}} {answers = answers} (Refused e None) old new [] [] e (failed_said e) device crash (λ lawful. (crash lawful).further),
  )

-- A HALL THAT WAS THE KEEPER'S OWN is so after each of them
module _ {D : Type 0} (view : D → DiskView) (answers : Answers) (old new : Keeping D) (kept : IsKeeping old answers) (S : HallState) (own : IsOwn old S) where
  pub submit_owns : (batch : List Entry) (r : Result ℕ (KeeperError × List Entry)) → IfOk r (λ epoch. IsSubmitted batch epoch old new)
      → IfErr r (λ e. IsRefused view answers error.Memory error.Device (submit_refusal old batch) e.0 old new) → IsOwn new S
  submit_owns batch (Ok epoch) done refused = subst (λ (q : Keeping D). IsOwn q S) (sym done.submitted) (own_more old S own answers kept new.device (submission 0 batch ∷ []))
  submit_owns batch (Err e) done refused = own_refused old S own new new.device _ _ refused.unchanged

  pub submit_as_owns : (request : ℕ) (batch : List Entry) (r : Result Receipt (KeeperError × List Entry)) → IfOk r (λ receipt. IsAnswered request batch receipt old new)
      → IfErr r (λ e. IsRefused view answers error.Memory error.Device (submit_as_refusal old request batch) e.0 old new) → IsOwn new S
  submit_as_owns request batch (Ok receipt) done refused = own_received old S own answers kept request batch receipt new done.received
  submit_as_owns request batch (Err e) done refused = own_refused old S own new new.device _ _ refused.unchanged

  pub submit_all_owns : (group : List AnySubmitted) (r : Result ℕ (GroupError × List AnySubmitted)) (end : ℕ) → IfOk r (λ first. IsAllSubmitted group first end old new)
      → IfErr r (λ e. IsRefused view answers (ByKeeper error.Memory) (ByKeeper error.Device) (group_refusal old group) e.0 old new) → IsOwn new S
  submit_all_owns group (Ok first) end done refused = subst (λ (q : Keeping D). IsOwn q S) (sym done.submitted) (own_group old S own answers kept new.device group)
  submit_all_owns group (Err e) end done refused = own_refused old S own new new.device _ _ refused.unchanged

  pub write_owns : (r : Result (Option ℕ) KeeperError) → IfOk r (λ w. IsWritten w old new) → IfErr r (λ e. IsUnwritten e old new) → IsOwn new S
  write_owns (Ok w) done refused = own_if_written old new S own answers kept w done
  write_owns (Err e) done refused = own_if_unwritten old new S own e refused

  pub close_owns : (most : ℕ) (r : Result (Unit {0}) KeeperError) → OnOk r (IsClosed view most old new) → IfErr r (λ e. IsUnclosed e old new) → IsOwn new S
  close_owns most (Ok done) is refused = subst (λ (q : Keeping D). IsOwn q S) (sym is.same) (own_aside old S own new.device old.broken old.waiting)
  close_owns most (Err e) is refused =
      ⊎_elim (λ same. subst (λ (q : Keeping D). IsOwn q S) (sym same) own) (λ failed. subst (λ (q : Keeping D). IsOwn q S) (sym failed.1) (own_aside old S own new.device true old.waiting)) refused.unchanged
