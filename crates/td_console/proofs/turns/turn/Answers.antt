use Rattle.std.proofs.Common.{ap, ◌∙◌, inl, subst}
use Rattle.td_machine.specs.Steps.{Takes}
use Rattle.td_machine.specs.Steps.Answer.{has_taken}
use Rattle.td_task.specs.Refusals.{refusal}
use Rattle.td_console.proofs.Turning.{took, out_alone, out_there, lacks_none, give_refused}
use Rattle.td_console.proofs.turns.turn.Goals as goal

pub task_fault-requires : goal.task_fault-requires
task_fault-requires g c =
    let task = c.in-Ok-Some.task in
    let taken = took c.args.hall.now c.take.new.self c.args.shard task (subst (λ o. Takes c.args.hall.now c.args.shard (has_taken o) c.take.new.self) c.in-Ok-Some.field-0-is c.in-Ok-Some.ensures.taken) in
    let lacks = lacks_none (g.C.Closures.stored c.args.calls.now) c.args.hall.now.plan task.kind task.vertex c.requires.fits taken.may.kind in
    c.in-Err-run.ensures.refused ∙ ap (refusal task.vertex) lacks

pub hall_fault-requires-in-Err-give : goal.hall_fault-requires-in-Err-give
hall_fault-requires-in-Err-give g c =
    let task = c.in-Ok-Some.task in
    let taken = took c.args.hall.now c.take.new.self c.args.shard task (subst (λ o. Takes c.args.hall.now c.args.shard (has_taken o) c.take.new.self) c.in-Ok-Some.field-0-is c.in-Ok-Some.ensures.taken) in
    let there = out_there c.take.new.self.out task c.in-Ok.done (out_alone c.args.hall.now c.take.new.self c.args.shard task taken c.requires.none_out) c.in-Ok.ensures.done in
    inl (give_refused g.L.Law.answers c.take.new.self c.take.new.self c.in-Ok.done c.in-Err-give.error there c.in-Err-give.ensures.refused)
