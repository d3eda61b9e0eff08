use Rattle.std.proofs.Common.{◌++◌, [], ◌∷◌, ◌<◌, length, ◌∙◌, ap, sym, subst, arith}
use Rattle.std.proofs.lemmas.Result.{err_from_is_err_and}
use Rattle.td_machine.specs.Steps.{Takes}
use Rattle.td_machine.specs.Steps.Answer.{has_taken}
use Rattle.td_core.specs.Parts.{state_of}
use Rattle.td_core.specs.Taking.{IsTakenIf, IsTaken}
use Rattle.td_core.specs.Drained.{IsWhy}
use Rattle.td_core.proofs.GiveSteps.{untouched_hall}
use Rattle.td_core.proofs.PostSteps.{as_many_mails}
use Rattle.td_core.proofs.Advance.{with_room, room_state, room_hall, room_back, same_state, none_taken, why, of_its_kind, is_turn, last_take}
use Rattle.td_core.proofs.drain.advance.Goals as goal

pub returns-in_err-make_room_back-clause-hall : goal.returns-in_err-make_room_back-clause-hall
returns-in_err-make_room_back-clause-hall g c = room_hall c.args.parts.now c.make_room_back.new.shards c.make_room_back.ensures.same g.L.Law.answers c.requires.hall

pub returns-in_err-make_room_back-clause-err : goal.returns-in_err-make_room_back-clause-err
returns-in_err-make_room_back-clause-err g c =
    let p = err_from_is_err_and c.from_residual.result c.from_residual.ensures.1 in
    rw p.1 (room_state c.args.parts.now c.make_room_back.new.shards c.make_room_back.ensures.same)

pub take_task-requires : goal.take_task-requires
take_task-requires g c = record { hall = room_hall c.args.parts.now c.make_room_back.new.shards c.make_room_back.ensures.same g.L.Law.answers c.requires.hall }

pub returns-in_err-task-clause-err : goal.returns-in_err-task-clause-err
returns-in_err-task-clause-err g c =
    let p = err_from_is_err_and c.from_residual-in_err-task.result c.from_residual-in_err-task.ensures.1 in
    rw p.1 (same_state (with_room c.args.parts.now c.make_room_back.new.shards c.make_room_back.ensures.same) c.take_task.new.parts c.in_err-task.ensures.err ∙ room_state c.args.parts.now c.make_room_back.new.shards c.make_room_back.ensures.same)

pub returns-in_err-task-clause-refused : goal.returns-in_err-task-clause-refused
returns-in_err-task-clause-refused g c =
    let p = err_from_is_err_and c.from_residual-in_err-task.result c.from_residual-in_err-task.ensures.1 in
    let parts = with_room c.args.parts.now c.make_room_back.new.shards c.make_room_back.ensures.same in
    let many = as_many_mails c.args.parts.now.shards.items c.make_room_back.new.shards.items c.make_room_back.ensures.same.mails in
    let here = c.requires.within in
    let within : c.args.shard < length c.make_room_back.new.shards.items = omega (arith, many, here) in
    rw (p.1, p.2) (subst (λ S. IsWhy S c.in_err-task.field-0.0) (sym (same_state parts c.take_task.new.parts c.in_err-task.ensures.err)) (why (state_of parts) c.args.shard c.in_err-task.field-0.0 c.requires.none_out within c.in_err-task.ensures.refused))

pub returns-in_default-clause-turn : goal.returns-in_default-clause-turn
returns-in_default-clause-turn g c =
    none_taken (with_room c.args.parts.now c.make_room_back.new.shards c.make_room_back.ensures.same) c.take_task.new.parts (state_of c.args.parts.now) c.args.shard c.in_ok-task.field-0
    (room_state c.args.parts.now c.make_room_back.new.shards c.make_room_back.ensures.same) c.in_default.is c.in_ok-task.ensures.taken

pub run_and_give-requires-clause-kind : goal.run_and_give-requires-clause-kind
run_and_give-requires-clause-kind g c =
    let parts = with_room c.args.parts.now c.make_room_back.new.shards c.make_room_back.ensures.same in
    of_its_kind parts c.take_task.new.parts c.args.shard c.in-Some.task
    (subst (λ o. Takes (state_of parts) c.args.shard (has_taken o) (state_of c.take_task.new.parts)) c.in-Some.is c.in_ok-task.ensures.taken)

pub returns-in-Ok-clause-turn : goal.returns-in-Ok-clause-turn
returns-in-Ok-clause-turn g c =
    let parts = with_room c.args.parts.now c.make_room_back.new.shards c.make_room_back.ensures.same in
    let is : IsTaken parts c.take_task.new.parts c.in-Some.task = subst (IsTakenIf parts c.take_task.new.parts) c.in-Some.is c.in_ok-task.ensures.fields in
    is_turn g.L.Law.answers c.args.parts.now parts c.take_task.new.parts c.run_and_give.new.parts c.args.shard c.in-Some.task c.delivery-delivered.result
    (room_state c.args.parts.now c.make_room_back.new.shards c.make_room_back.ensures.same)
    (subst (λ o. Takes (state_of parts) c.args.shard (has_taken o) (state_of c.take_task.new.parts)) c.in-Some.is c.in_ok-task.ensures.taken)
    (is.out ∙ ap (λ l. l ++ c.in-Some.task ∷ []) c.requires.none_out) c.in-Ok.ensures.state c.delivery-delivered.ensures.messages c.delivery-delivered.ensures.notes

pub put_back-requires-clause-hall : goal.put_back-requires-clause-hall
put_back-requires-clause-hall g c = untouched_hall c.take_task.new.parts c.run_and_give.new.parts c.in-Err.ensures.err g.L.Law.answers c.take_task.ensures.hall

pub put_back-requires-clause-room : goal.put_back-requires-clause-room
put_back-requires-clause-room g c =
    let many = as_many_mails c.args.parts.now.shards.items c.make_room_back.new.shards.items c.make_room_back.ensures.same.mails in
    let here = c.requires.within in
    let within : c.args.shard < length c.make_room_back.new.shards.items = omega (arith, many, here) in
    let parts = with_room c.args.parts.now c.make_room_back.new.shards c.make_room_back.ensures.same in
    let is : IsTaken parts c.take_task.new.parts c.in-Some.task = subst (IsTakenIf parts c.take_task.new.parts) c.in-Some.is c.in_ok-task.ensures.fields in
    room_back c.make_room_back.new.shards.items c.take_task.new.parts.shards.items c.run_and_give.new.parts.shards.items c.args.shard within
    c.in_ok-make_room_back.ensures.room is.room c.in-Err.ensures.err.shards

pub returns-in-Err-clause-hall : goal.returns-in-Err-clause-hall
returns-in-Err-clause-hall g c =
    let parts = with_room c.args.parts.now c.make_room_back.new.shards c.make_room_back.ensures.same in
    c.put_back.ensures.hall (state_of c.args.parts.now) c.in-Some.task
    (last_take g.L.Law.answers c.args.parts.now parts c.take_task.new.parts c.run_and_give.new.parts c.args.shard c.in-Some.task c.requires.hall
    (room_state c.args.parts.now c.make_room_back.new.shards c.make_room_back.ensures.same)
    (subst (λ o. Takes (state_of parts) c.args.shard (has_taken o) (state_of c.take_task.new.parts)) c.in-Some.is c.in_ok-task.ensures.taken) c.in-Err.ensures.err)

pub returns-in-Err-clause-err : goal.returns-in-Err-clause-err
returns-in-Err-clause-err g c =
    let parts = with_room c.args.parts.now c.make_room_back.new.shards c.make_room_back.ensures.same in
    c.put_back.ensures.back (state_of c.args.parts.now) c.in-Some.task
    (last_take g.L.Law.answers c.args.parts.now parts c.take_task.new.parts c.run_and_give.new.parts c.args.shard c.in-Some.task c.requires.hall
    (room_state c.args.parts.now c.make_room_back.new.shards c.make_room_back.ensures.same)
    (subst (λ o. Takes (state_of parts) c.args.shard (has_taken o) (state_of c.take_task.new.parts)) c.in-Some.is c.in_ok-task.ensures.taken) c.in-Err.ensures.err)
