use Rattle.std.proofs.Common.{◌==◌, refl, ap, sym, ◌∙◌, arith, inr}
use Rattle.td_machine.specs.Steps.Takes.{is_busy, has_none}
use Rattle.td_machine.specs.Steps.Refusal.{busy}
use Rattle.std.specs.List.{list_any}
use Rattle.td_core.proofs.TakeSteps.{none_beyond, are_asked}
use Rattle.td_core.specs.Parts.{empty_shard}
use Rattle.td_core.proofs.PickNamed.{named_so}
use Rattle.td_core.proofs.FullTasks.{full_so}
use Rattle.td_core.proofs.TakenHall.{answered, still_hall, refused_so, memory_last}
use Rattle.td_core.proofs.take.take_task.Goals as goal

pub returns-then-is_busy-clause-refused : goal.returns-then-is_busy-clause-refused
returns-then-is_busy-clause-refused g c =
    let parts = c.args.parts.now in
    inr (busy, refl, is_busy (sym (c.is_busy.ensures ∙ ap (λ l. list_any (λ t. t.shard == c.args.shard) l) c.as_slice.ensures.value) ∙ c.if-is_busy.true))

pub returns-then-from-len-clause-taken : goal.returns-then-from-len-clause-taken
returns-then-from-len-clause-taken g c =
    let parts = c.args.parts.now in
    let free = sym (c.is_busy.ensures ∙ ap (λ l. list_any (λ t. t.shard == c.args.shard) l) c.as_slice.ensures.value) ∙ c.if-is_busy.false in
    has_none free (none_beyond g.L.Law.answers parts c.requires.hall c.known.ensures.bags_of_states.messages c.known.ensures.bags_of_states.notifications c.known.ensures.time_list_order.told_apart c.known.ensures.in_any_order.frontier
    (c.known.ensures.reached_in_order.lists _ c.requires.hall.reached) (c.known.ensures.reached_in_order.tasks _ c.requires.hall.reached) (c.known.ensures.reached_in_order.numbers _ c.requires.hall.reached)
    c.known.ensures.none_left.task c.args.shard free (omega (arith, c.if-from-len.true, c.from.ensures, c.len.ensures)))

pub take_there-requires-clause-numbers : goal.take_there-requires-clause-numbers
take_there-requires-clause-numbers g c = (c.known.ensures.reached_in_order.numbers _ c.requires.hall.reached).taken

pub take_there-requires-clause-asked : goal.take_there-requires-clause-asked
take_there-requires-clause-asked g c d =
    are_asked g.L.Law.answers c.args.parts.now c.requires.hall c.known.ensures.bags_of_states.messages c.known.ensures.bags_of_states.notifications c.known.ensures.time_list_order.told_apart c.known.ensures.in_any_order.frontier
    (c.known.ensures.reached_in_order.lists _ c.requires.hall.reached) (c.known.ensures.reached_in_order.tasks _ c.requires.hall.reached) (c.known.ensures.reached_in_order.numbers _ c.requires.hall.reached)
    c.known.ensures.counted.contains (c.known.ensures.asked_where_notified _ c.requires.hall.reached) (c.known.ensures.active_of_plan _ c.requires.hall.reached) c.args.shard d (omega (arith, c.if-from-len.false, c.from.ensures, c.len.ensures))

pub returns-clause-taken : goal.returns-clause-taken
returns-clause-taken g c = answered g.L.Law.answers c.args.parts.now c.requires.hall c.known.ensures.bags_of_states.messages c.known.ensures.bags_of_states.notifications c.known.ensures.time_list_order.told_apart c.known.ensures.in_any_order.frontier
    (c.known.ensures.reached_in_order.lists _ c.requires.hall.reached) (c.known.ensures.reached_in_order.tasks _ c.requires.hall.reached) (c.known.ensures.reached_in_order.numbers _ c.requires.hall.reached)
    c.known.ensures.tasks.parted c.known.ensures.tasks.some c.known.ensures.tasks.few c.known.ensures.tasks.beside c.known.ensures.what_waits.place c.known.ensures.what_waits.items c.known.ensures.none_left.task c.known.ensures.reached.step c.args.shard c.args.pick
    (omega (arith, c.if-from-len.false, c.from.ensures, c.len.ensures)) (sym (c.is_busy.ensures ∙ ap (λ l. list_any (λ t. t.shard == c.args.shard) l) c.as_slice.ensures.value) ∙ c.if-is_busy.false)
    c.take_there.new.parts c.take_there.result c.take_there.ensures.taken

pub returns-clause-refused : goal.returns-clause-refused
returns-clause-refused g c = refused_so g.L.Law.answers c.args.parts.now c.requires.hall c.known.ensures.bags_of_states.messages c.known.ensures.bags_of_states.notifications c.known.ensures.time_list_order.told_apart c.known.ensures.in_any_order.frontier
    (c.known.ensures.reached_in_order.lists _ c.requires.hall.reached) (c.known.ensures.reached_in_order.tasks _ c.requires.hall.reached) (c.known.ensures.reached_in_order.numbers _ c.requires.hall.reached)
    c.known.ensures.tasks.parted c.known.ensures.tasks.some c.known.ensures.tasks.few c.known.ensures.tasks.beside c.known.ensures.what_waits.place c.known.ensures.what_waits.items c.known.ensures.none_left.task c.known.ensures.reached.step c.args.shard c.args.pick
    (omega (arith, c.if-from-len.false, c.from.ensures, c.len.ensures)) (sym (c.is_busy.ensures ∙ ap (λ l. list_any (λ t. t.shard == c.args.shard) l) c.as_slice.ensures.value) ∙ c.if-is_busy.false)
    c.take_there.result c.take_there.ensures.refused

pub returns-clause-memory_last : goal.returns-clause-memory_last
returns-clause-memory_last g c = memory_last g.L.Law.answers c.args.parts.now c.requires.hall c.known.ensures.bags_of_states.messages c.known.ensures.bags_of_states.notifications c.known.ensures.time_list_order.told_apart c.known.ensures.in_any_order.frontier
    (c.known.ensures.reached_in_order.lists _ c.requires.hall.reached) (c.known.ensures.reached_in_order.tasks _ c.requires.hall.reached) (c.known.ensures.reached_in_order.numbers _ c.requires.hall.reached)
    c.known.ensures.tasks.parted c.known.ensures.tasks.some c.known.ensures.tasks.few c.known.ensures.tasks.beside c.known.ensures.what_waits.place c.known.ensures.what_waits.items c.known.ensures.none_left.task c.known.ensures.reached.step c.args.shard c.args.pick
    (omega (arith, c.if-from-len.false, c.from.ensures, c.len.ensures)) (sym (c.is_busy.ensures ∙ ap (λ l. list_any (λ t. t.shard == c.args.shard) l) c.as_slice.ensures.value) ∙ c.if-is_busy.false)
    c.take_there.result c.take_there.ensures.refused

pub returns-clause-picked : goal.returns-clause-picked
returns-clause-picked g c =
    named_so g.L.Law.answers c.args.parts.now c.requires.hall c.known.ensures.bags_of_states.messages c.known.ensures.bags_of_states.notifications c.known.ensures.time_list_order.told_apart c.known.ensures.in_any_order.frontier
    (c.known.ensures.reached_in_order.lists _ c.requires.hall.reached) (c.known.ensures.reached_in_order.tasks _ c.requires.hall.reached) (c.known.ensures.reached_in_order.numbers _ c.requires.hall.reached)
    c.args.shard c.args.pick (omega (arith, c.if-from-len.false, c.from.ensures, c.len.ensures)) (sym (c.is_busy.ensures ∙ ap (λ l. list_any (λ t. t.shard == c.args.shard) l) c.as_slice.ensures.value) ∙ c.if-is_busy.false)
    (are_asked g.L.Law.answers c.args.parts.now c.requires.hall c.known.ensures.bags_of_states.messages c.known.ensures.bags_of_states.notifications c.known.ensures.time_list_order.told_apart c.known.ensures.in_any_order.frontier
    (c.known.ensures.reached_in_order.lists _ c.requires.hall.reached) (c.known.ensures.reached_in_order.tasks _ c.requires.hall.reached) (c.known.ensures.reached_in_order.numbers _ c.requires.hall.reached)
    c.known.ensures.counted.contains (c.known.ensures.asked_where_notified _ c.requires.hall.reached) (c.known.ensures.active_of_plan _ c.requires.hall.reached) c.args.shard empty_shard (omega (arith, c.if-from-len.false, c.from.ensures, c.len.ensures))).once
    c.take_there.new.parts c.take_there.result c.take_there.ensures.taken

pub returns-clause-full : goal.returns-clause-full
returns-clause-full g c =
    full_so g.L.Law.answers c.args.parts.now c.requires.hall c.known.ensures.bags_of_states.messages c.known.ensures.bags_of_states.notifications c.known.ensures.time_list_order.told_apart c.known.ensures.in_any_order.frontier
    (c.known.ensures.reached_in_order.lists _ c.requires.hall.reached) (c.known.ensures.reached_in_order.tasks _ c.requires.hall.reached) (c.known.ensures.reached_in_order.numbers _ c.requires.hall.reached)
    c.known.ensures.tasks.parted c.known.ensures.tasks.some c.known.ensures.tasks.few c.known.ensures.tasks.beside c.known.ensures.tasks.full c.args.shard c.args.pick
    (omega (arith, c.if-from-len.false, c.from.ensures, c.len.ensures)) (sym (c.is_busy.ensures ∙ ap (λ l. list_any (λ t. t.shard == c.args.shard) l) c.as_slice.ensures.value) ∙ c.if-is_busy.false)
    c.take_there.new.parts c.take_there.result c.take_there.ensures.taken

pub returns-clause-hall : goal.returns-clause-hall
returns-clause-hall g c = still_hall g.L.Law.answers c.args.parts.now c.requires.hall c.known.ensures.bags_of_states.messages c.known.ensures.bags_of_states.notifications c.known.ensures.time_list_order.told_apart c.known.ensures.in_any_order.frontier
    (c.known.ensures.reached_in_order.lists _ c.requires.hall.reached) (c.known.ensures.reached_in_order.tasks _ c.requires.hall.reached) (c.known.ensures.reached_in_order.numbers _ c.requires.hall.reached)
    c.known.ensures.tasks.parted c.known.ensures.tasks.some c.known.ensures.tasks.few c.known.ensures.tasks.beside c.known.ensures.what_waits.place c.known.ensures.what_waits.items c.known.ensures.none_left.task c.known.ensures.reached.step c.args.shard c.args.pick
    (omega (arith, c.if-from-len.false, c.from.ensures, c.len.ensures)) (sym (c.is_busy.ensures ∙ ap (λ l. list_any (λ t. t.shard == c.args.shard) l) c.as_slice.ensures.value) ∙ c.if-is_busy.false)
    c.take_there.new.parts c.take_there.result c.take_there.ensures.taken c.take_there.ensures.err
