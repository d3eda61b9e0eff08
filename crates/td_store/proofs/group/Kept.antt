-- What a disk keeps, and what may stand in cells.
use Rattle.std.proofs.Common.{◌≡◌, ℕ, ◌<◌, ◌^◌, List, [], ◌∷◌, Result, Ok, Err, sym, subst}
use Rattle.std.specs.Prelude.{OnOk}
use Rattle.td_plan.specs.Lines.{Line}
use Rattle.td_disk.specs.Disk.{DiskState, IsDurable}
use Rattle.td_head.specs.declared.head.Head.{Head}
use Rattle.td_journal.specs.declared.payload.Submitted.{Submitted}
use Rattle.td_journal.specs.declared.error.JournalError.{JournalError as AnyError}
use Rattle.td_store.specs.standing.Standing.{Standing}
use Rattle.td_store.specs.standing.Tells.{Tells, EachTells, Keeps}
use Rattle.td_store.specs.group.Groups.{AllFew, AllFit, AreBatches, AreCellBatches}

pub each_keeps : (plan : List Line) (head : Head) (side : ℕ) (s : Standing) (state : DiskState) → Keeps plan head side s state → EachTells plan head side s state
each_keeps plan head side s state keeps c image = subst (Tells plan head side s) (sym (keeps.durable c image)) keeps.tells

-- the same is read, and a crash leaves it still
pub keeps_after : (plan : List Line) (head : Head) (side : ℕ) (s : Standing) (old new : DiskState) → Keeps plan head side s old → IsDurable new → new.bytes ≡ old.bytes → Keeps plan head side s new
keeps_after plan head side s old new keeps durable same = record { durable = durable; tells = subst (Tells plan head side s) (sym same) keeps.tells }

pub cell_batches : (inputs : List ℕ) (m : ℕ) (xs : List Submitted) → m < 2 ^ 32 → AllFew m xs → AreBatches inputs xs → AllFit xs → AreCellBatches inputs m xs
cell_batches inputs m [] room few are fit = tt
cell_batches inputs m (x ∷ xs) room few are fit = (
  record { few = few.0; room = room; lawful = are.0; fits = fit.0.0; request = fit.0.1 },
  cell_batches inputs m xs room few.1 are.1 fit.1,
)

abbrev pub as_err : AnyError → Result (Unit {0}) AnyError
as_err e = Err e

-- after Ok, a step more
pub at_ok : {T E : Type 0} (r : Result T E) (P Q : Type 0) → (P → Q) → OnOk r P → OnOk r Q
at_ok (Ok x) P Q step p = step p
at_ok (Err e) P Q step p = tt

pub at_ok_both : {T E : Type 0} (r : Result T E) (P Q R : Type 0) → (P → Q → R) → OnOk r P → OnOk r Q → OnOk r R
at_ok_both (Ok x) P Q R step p q = step p q
at_ok_both (Err e) P Q R step p q = tt
