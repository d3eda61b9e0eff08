use Rattle.std.proofs.Common.{◌≡◌, inl, inr, ⊎_elim, ℕ, List, sym, ap, subst, Result, Err}
use Rattle.std.specs.Prelude.{IfErr, IsErrAnd, Some, None}
use Rattle.std.proofs.lemmas.Result.{err_from_is_err_and}
use Rattle.td_plan.specs.Lines.{Line}
use Rattle.td_disk.specs.Disk.{DiskState}
use Rattle.td_head.specs.declared.head.Head.{Head}
use Rattle.td_store.specs.declared.standing.error.KeeperError.{KeeperError}
use Rattle.td_store.specs.standing.Standing.{Standing}
use Rattle.td_store.specs.standing.Told.{Told, inputs_of, ring_of, floor_of}
use Rattle.td_store.specs.standing.Tells.{Tells, Keeps, first_head}
use Rattle.td_store.specs.standing.Read.{standing_of, Stood}
use Rattle.td_store.specs.copy.Copied.{IsRising, EachTold}
use Rattle.td_store.specs.copy.Until.{told_until}
use Rattle.td_store.specs.copy.Refusals.{IsNotPut}
use Rattle.td_store.proofs.copy.Rising.{rise_from}
use Rattle.td_store.proofs.copy.Shorter.{stands_after, rising_until, until_first, room_next}
use Rattle.td_store.proofs.copy.disk.copy.Goals as goal

-- a refusal that is given on as the caller's own
given_on : {T X : Type 0} {Gives Says : X → Type 0} (r : Result T X) → IsErrAnd r Gives → ((x : X) → Gives x → Says x) → IfErr r Says
given_on {T} {X} {Gives} {Says} r is says =
    let p = err_from_is_err_and r is in
    subst (λ (o : Result T X). IfErr o Says) (sym p.1) (says p.0 p.2)

-- what is kept is told by each image
each_told : (plan : List Line) (head : Head) (side : ℕ) (s : Standing) (state : DiskState)
    → ((image : List ℕ) → Tells plan head side s image → Told plan image (Stood s)) → Keeps plan head side s state → EachTold plan s state
each_told plan head side s state told keeps = λ image left. subst (λ (i : List ℕ). Told plan i (Stood s)) (sym (keeps.durable image left)) (told state.bytes keeps.tells)

pub check_room-requires : goal.check_room-requires
check_room-requires g c = record {
  small = (stands_after c.args.plan.now c.args.until c.in-Ok.read.1 c.keep_until.new.told c.in_ok-keep_until.ensures.rest c.in_ok-keep_until.ensures.kept c.in-Ok.ensures.may_stand).small;
}

pub write_told-requires : goal.write_told-requires
write_told-requires g c = stands_after c.args.plan.now c.args.until c.in-Ok.read.1 c.keep_until.new.told c.in_ok-keep_until.ensures.rest c.in_ok-keep_until.ensures.kept c.in-Ok.ensures.may_stand

pub returns-clause-copied : goal.returns-clause-copied
returns-clause-copied g c lawful lawful_new =
    let old = c.recover_device.new.device in
    let new = c.write_told.new.device in
    let plan = c.args.plan.now in
    let until = c.args.until in
    let read = c.in-Ok.read.1 in
    let left = c.keep_until.new.told in
    let s = standing_of read in
    let kept : standing_of left ≡ told_until until s = c.in_ok-keep_until.ensures.kept in
    let keeps : Keeps plan read.head read.checkpoint.slot s (g.D.Disk.view old).state = c.in-Ok.ensures.kept lawful in
    let rising : IsRising s = rise_from read.head.version s.last s.submitted
    (c.told_numbers_rise.ensures (inputs_of plan) (ring_of read.head.shape s.epoch) (g.D.Disk.view old).state.bytes (floor_of read.head.version s.last) s.epoch s.submitted keeps.tells.submitted) in
    let rising_left : IsRising (standing_of left) = subst IsRising (sym kept) (rising_until c.numbers.ensures.one_more until s rising) in
    let copied : Keeps plan (first_head c.args.shape) 0 (told_until until s) (g.E.Disk.view new).state =
    subst (λ (z : Standing). Keeps plan (first_head c.args.shape) 0 z (g.E.Disk.view new).state) kept
    (c.in_ok-write_told.ensures.copied (c.in_ok-write_told.ensures.device.lawful.1 lawful_new) rising_left) in
    let first : EachTold plan s (g.D.Disk.view old).state = each_told plan read.head read.checkpoint.slot s (g.D.Disk.view old).state
    (λ image tells. c.told_in_parts.ensures.together plan read.head read.checkpoint.slot s image tells) keeps in
    (s, first, room_next until c.args.shape s (standing_of left) None c.in_ok-keep_until.ensures.told kept c.in_ok-check_room.ensures.room, copied)

pub returns-in-Err-clause-refused : goal.returns-in-Err-clause-refused
returns-in-Err-clause-refused g c =
    inl (c.in-Err.error, c.from.ensures, ⊎_elim (λ failed. inl (failed, c.in-Err.ensures.device.counts.rises (ap (λ (e : KeeperError). Err e) failed))) (λ other. inr other) c.in-Err.ensures.refused)

pub returns-in_err-keep_until-clause-refused : goal.returns-in_err-keep_until-clause-refused
returns-in_err-keep_until-clause-refused g c =
    let old = (g.D.Disk.view c.recover_device.new.device).state in
    let read = c.in-Ok.read.1 in
    let s = standing_of read in
    given_on c.from_residual.result c.from_residual.ensures.1
    (λ x gives. inr (
      s,
      (λ lawful. each_told c.args.plan.now read.head read.checkpoint.slot s old
          (λ image tells. c.told_in_parts.ensures.together c.args.plan.now read.head read.checkpoint.slot s image tells) (c.in-Ok.ensures.kept lawful)),
      inl (c.in_err-keep_until.field-0.0, gives, until_first c.args.until c.args.shape s c.in_err-keep_until.field-0.0 c.in_err-keep_until.ensures.refused.0),
    ))

pub returns-in_err-check_room-clause-refused : goal.returns-in_err-check_room-clause-refused
returns-in_err-check_room-clause-refused g c =
    let old = (g.D.Disk.view c.recover_device.new.device).state in
    let read = c.in-Ok.read.1 in
    let s = standing_of read in
    given_on c.from_residual-in_err-check_room.result c.from_residual-in_err-check_room.ensures.1
    (λ x gives. inr (
      s,
      (λ lawful. each_told c.args.plan.now read.head read.checkpoint.slot s old
          (λ image tells. c.told_in_parts.ensures.together c.args.plan.now read.head read.checkpoint.slot s image tells) (c.in-Ok.ensures.kept lawful)),
      inl (c.in_err-check_room.field-0.0, gives, room_next c.args.until c.args.shape s (standing_of c.keep_until.new.told) (Some c.in_err-check_room.field-0.0) c.in_ok-keep_until.ensures.told c.in_ok-keep_until.ensures.kept c.in_err-check_room.ensures.refused),
    ))

pub returns-in_err-new-clause-refused : goal.returns-in_err-new-clause-refused
returns-in_err-new-clause-refused g c =
    let old = (g.D.Disk.view c.recover_device.new.device).state in
    let read = c.in-Ok.read.1 in
    let s = standing_of read in
    given_on c.from_residual-in_err-new.result c.from_residual-in_err-new.ensures.1
    (λ x same. inr (
      s,
      (λ lawful. each_told c.args.plan.now read.head read.checkpoint.slot s old
          (λ image tells. c.told_in_parts.ensures.together c.args.plan.now read.head read.checkpoint.slot s image tells) (c.in-Ok.ensures.kept lawful)),
      inr (room_next c.args.until c.args.shape s (standing_of c.keep_until.new.told) None c.in_ok-keep_until.ensures.told c.in_ok-keep_until.ensures.kept c.in_ok-check_room.ensures.room, inl (subst (λ y. g.F.FnOnce.post c.args.make tt (Err y)) (sym same) c.in_err-new.ensures)),
    ))

pub returns-in_err-write_told-clause-refused : goal.returns-in_err-write_told-clause-refused
returns-in_err-write_told-clause-refused g c =
    let old = (g.D.Disk.view c.recover_device.new.device).state in
    let read = c.in-Ok.read.1 in
    let s = standing_of read in
    given_on c.from_residual-in_err-write_told.result c.from_residual-in_err-write_told.ensures.1
    (λ x gives. inr (
      s,
      (λ lawful. each_told c.args.plan.now read.head read.checkpoint.slot s old
          (λ image tells. c.told_in_parts.ensures.together c.args.plan.now read.head read.checkpoint.slot s image tells) (c.in-Ok.ensures.kept lawful)),
      inr (
        room_next c.args.until c.args.shape s (standing_of c.keep_until.new.told) None c.in_ok-keep_until.ensures.told c.in_ok-keep_until.ensures.kept c.in_ok-check_room.ensures.room,
        inr (
          c.in_ok-new.new,
          c.write_told.new.device,
          c.in_ok-new.ensures,
          (
            c.in_err-write_told.field-0.0,
            gives,
            subst (λ (z : Standing). IsNotPut g.E.Disk.view c.args.shape z c.in_ok-new.new c.write_told.new.device c.in_err-write_told.field-0.0)
                c.in_ok-keep_until.ensures.kept c.in_err-write_told.ensures.refused,
          ),
        ),
      ),
    ))
