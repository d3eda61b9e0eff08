-- What a call of a keeper comes to, of what is known of its parts.
use Rattle.std.proofs.Common.{◌≡◌, ◌⊎◌, ◌↔◌, ⊎_elim, ℕ, ◌≤◌, false, List, inl, inr, refl, ap, arith}
use Rattle.std.specs.Prelude.{Option, None, Some, Result, Ok, Err, OnOk, IfErr}
use Rattle.td_calls.specs.Answers.{Answers}
use Rattle.td_disk.specs.Disk.{DiskView, DiskState, Rises}
use Rattle.td_gate.specs.CrashSafe.{CrashSafe, Unchanged}
use Rattle.td_journal.specs.declared.payload.Submitted.{Submitted}
use Rattle.td_store.specs.standing.Standing.{last_epoch}
use Rattle.td_store.specs.standing.Advanced.{AdvancesSince, HeldWhere}
use Rattle.td_disk.specs.Calls.{KeepsDevice}
use Rattle.td_keeper.specs.Calls.{CrashLeaves, IsRefused, outcome}
use Rattle.td_keeper.specs.Driven.{MayWrite, is_failed}
use Rattle.td_keeper.specs.declared.command.Reply.{Reply}
use Rattle.td_keeper.specs.Keeping.{Keeping, KeepsSince}
use Rattle.td_keeper.proofs.Since.{Together, NotYet, by_further}

-- ---- what a crash leaves

module _ {D : Type 0} (view : D → DiskView) (only : (d : D) (c : List ℕ) → (view d).lawful → (view d).state.since (view d).state.moment c → (view d).state.images c)
    (answers : Answers) (together : Together) (not_yet : NotYet answers) {k z : Keeping D} (is : k ≡ z)
    (held : (view k.device).lawful → HeldWhere k.broken answers k.plan k.head k.side k.standing (view k.device).state) (x : List Submitted) (old : (view z.device).lawful) where
  -- of what is known of the images since an earlier moment
  pub leaves : (new : DiskState) → (view z.device).state.moment ≤ new.moment → (z.broken ≡ false → AdvancesSince answers z.plan z.standing x (last_epoch z.standing) (view z.device).state new)
      → KeepsSince z.plan z.base (view z.device).state new → CrashLeaves answers x z (view z.device).state new
  leaves new later further short = record {
    later = later;
    images = λ whole. by_further view only answers together not_yet is held x new old whole (further whole);
    further = further;
    short = short;
  }

  -- where nothing was written
  pub leaves_as_it_was : CrashLeaves answers x z (view z.device).state (view z.device).state
  leaves_as_it_was = leaves (view z.device).state (omega arith) (λ whole t i le left. inl left) (λ t i le left. inl left)

-- ---- a refusal

module _ {D E : Type 0} (view : D → DiskView) (only : (d : D) (c : List ℕ) → (view d).lawful → (view d).state.since (view d).state.moment c → (view d).state.images c)
    (answers : Answers) (memory device : E) (k : Keeping D) where
  nothing_written : (view k.device).lawful → CrashSafe Unchanged (view k.device).state (view k.device).state
  nothing_written old = record { later = omega arith; each = λ c left. (c, only k.device c old left, refl); before = λ t c le left. inl left }

  -- that left the keeper as it was
  pub refused_as_it_was : (refusal : Option E) (error : E) → (refusal ≡ Some error) ⊎ ((refusal ≡ None) × ((error ≡ memory) ⊎ (error ≡ device))) → (error ≡ device → ⊥)
      → IsRefused view answers memory device refusal error k k
  refused_as_it_was refusal error cause never = record {
    cause = cause;
    unchanged = inl refl;
    broken = λ is. absurd (never is);
    unwritten = λ is. nothing_written;
    nothing = inr (λ old whole t i le left. inl left);
  }

-- ---- the device

error_or : {T E : Type 0} → E → Result T E → E
error_or none (Ok answer) = none
error_or none (Err error) = error

abbrev pub refused_by : (T : Type 0) {E : Type 0} → E → Result T E
refused_by T e = Err e

pub same_error : {T E : Type 0} (d e : E) → refused_by T e ≡ refused_by T d → e ≡ d
unfolding error_or
same_error d e is = ap (error_or d) is

-- it was not called
pub device_same : {D T E : Type 0} (view : D → DiskView) (device : E) (result : Result T E) (d : D) → (result ≡ Err device → ⊥)
    → KeepsDevice view device result d d
device_same view device result d never = record {
  size = refl;
  lawful = (λ l. l, λ l. l);
  counts = record { later = omega arith; rises = λ is. absurd (never is); stays = inr refl };
}

module _ {D T E B : Type 0} (view : D → DiskView) (device : E) (old new : D) where
  -- by the clauses of the disk alone
  pub device_kept : (result : Result T (E × B)) → (view new).capacity ≡ (view old).capacity → ((view old).lawful ↔ (view new).lawful) → (view old).failures ≤ (view new).failures
      → OnOk result ((view new).failures ≡ (view old).failures) → IfErr result (λ e. e.0 ≡ device → Rises (view old).failures (view new).failures)
      → IfErr result (λ e. (e.0 ≡ device) ⊎ ((view new).failures ≡ (view old).failures)) → KeepsDevice view device (outcome result) old new
  device_kept (Ok answer) size lawful counted stays rises back = record {
    size = size;
    lawful = lawful;
    counts = record { later = counted; rises = λ is. absurd (let never : Ok answer ≡ Err device = is in cc); stays = inr stays };
  }
  device_kept (Err e) size lawful counted stays rises back = record {
    size = size;
    lawful = lawful;
    counts = record { later = counted; rises = λ is. rises (same_error device e.0 is); stays = either back };
  }
    where
      either : (e.0 ≡ device) ⊎ ((view new).failures ≡ (view old).failures) → (refused_by T e.0 ≡ refused_by T device) ⊎ ((view new).failures ≡ (view old).failures)
      either (inl is) = inl (ap (refused_by T) is)
      either (inr same) = inr same

-- ---- a command that may write

module _ {D T E : Type 0} {view : D → DiskView} {answers : Answers} {device : E} (reply : Reply) (old new : Keeping D) where
  -- it was done
  pub writes_done : {answer : T} (x : List Submitted) → KeepsDevice view device (Ok answer) old.device new.device
      → ((view old.device).lawful → CrashLeaves answers x old (view old.device).state (view new.device).state) → MayWrite view answers reply old new x
  writes_done {answer = answer} x kept crash = record {
    counted = kept.counts.later;
    stays = λ quiet. ⊎_elim (λ failed. absurd (let never : Ok answer ≡ Err device = failed in cc)) (λ same. same) kept.counts.stays;
    advances = λ lawful. let leaves = crash lawful in record { lawful = kept.lawful.0 lawful; later = leaves.later; since = leaves.further };
    short = λ lawful. (crash lawful).short;
  }

  -- it was refused: of what the command asked for, this was perhaps submitted
  pub writes_refused : (x y : List Submitted) (error : E) → (error ≡ device → is_failed reply ≡ false → ⊥) → KeepsDevice view device (refused_by T error) old.device new.device
      → ((view old.device).lawful → CrashLeaves answers x old (view old.device).state (view new.device).state)
      → ((view old.device).lawful → old.broken ≡ false → AdvancesSince answers old.plan old.standing y (last_epoch old.standing) (view old.device).state (view new.device).state)
      → MayWrite view answers reply old new y
  writes_refused x y error said kept crash since = record {
    counted = kept.counts.later;
    stays = λ quiet. ⊎_elim (λ failed. absurd (said (same_error device error failed) quiet)) (λ same. same) kept.counts.stays;
    advances = λ lawful. record { lawful = kept.lawful.0 lawful; later = (crash lawful).later; since = since lawful };
    short = λ lawful. (crash lawful).short;
  }
