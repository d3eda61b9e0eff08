use Rattle.std.proofs.Common.{◌≤◌, sym, subst}
use Rattle.td_reach.specs.declared.stamp.Stamp.{Stamp}
use Rattle.td_progress.specs.Bag.{occurrences}
use Rattle.td_machine.specs.InOrder.{OneAShard}
use Rattle.td_machine.specs.Moves.{gone_given}
use Rattle.td_machine.specs.State.{Task}
use Rattle.td_core.specs.Parts.{state_of}
use Rattle.td_core.specs.Given.{IsEnded}
use Rattle.td_core.proofs.DeliverSteps.{DeliverLaws}
use Rattle.td_core.proofs.GiveTask.{out_still, more_given, enough, stepped, kept}
use Rattle.td_core.proofs.GiveSteps.{among}
use Rattle.td_core.proofs.NotifySteps.{NotifyLaws}
use Rattle.td_core.proofs.drain.give_task.Goals as goal

pub answer-requires-clause-out : goal.answer-requires-clause-out
answer-requires-clause-out g c = among c.args.parts.now.out.items c.args.place c.args.done.now c.requires.there

pub end-requires-clause-one_a_shard : goal.end-requires-clause-one_a_shard
end-requires-clause-one_a_shard g c =
    let laws : DeliverLaws g.L.Law.answers = record {
      messages = c.known.ensures.bags_of_states.messages;
      notifications = c.known.ensures.bags_of_states.notifications;
      times = c.known.ensures.time_list_order.told_apart;
      at_once = c.known.ensures.delivered_at_once;
      outputs = c.known.ensures.in_parts.outputs;
      asks = c.known.ensures.in_parts.asked;
      tasks = c.known.ensures.reached_in_order.tasks;
      numbers = c.known.ensures.reached_in_order.numbers;
      step = c.known.ensures.reached.step;
      moves = c.known.ensures.stamps_move;
      append = c.known.ensures.counted.append;
    } in
    let waits : NotifyLaws = record { messages = c.known.ensures.bags_of_states.messages; place = c.known.ensures.what_waits.place; asked = c.known.ensures.what_waits.asked } in
    let out = among c.args.parts.now.out.items c.args.place c.args.done.now c.requires.there in
    subst (λ v. OneAShard v.items)
    (sym (out_still g.L.Law.answers laws waits c.args.parts.now c.answer.new.parts c.args.done.now out c.requires.hall c.in_ok-answer.ensures.ok)) (c.known.ensures.reached_in_order.tasks _ c.requires.hall.reached).one_a_shard

pub end-requires-clause-active : goal.end-requires-clause-active
end-requires-clause-active g c =
    let laws : DeliverLaws g.L.Law.answers = record {
      messages = c.known.ensures.bags_of_states.messages;
      notifications = c.known.ensures.bags_of_states.notifications;
      times = c.known.ensures.time_list_order.told_apart;
      at_once = c.known.ensures.delivered_at_once;
      outputs = c.known.ensures.in_parts.outputs;
      asks = c.known.ensures.in_parts.asked;
      tasks = c.known.ensures.reached_in_order.tasks;
      numbers = c.known.ensures.reached_in_order.numbers;
      step = c.known.ensures.reached.step;
      moves = c.known.ensures.stamps_move;
      append = c.known.ensures.counted.append;
    } in
    let waits : NotifyLaws = record { messages = c.known.ensures.bags_of_states.messages; place = c.known.ensures.what_waits.place; asked = c.known.ensures.what_waits.asked } in
    let out = among c.args.parts.now.out.items c.args.place c.args.done.now c.requires.there in
    subst (λ (t : Task). (p : Stamp) → occurrences p (gone_given (state_of c.answer.new.parts) t t.content) ≤ occurrences p c.answer.new.parts.table.stamps) (sym c.task.ensures)
    (enough g.L.Law.answers laws waits c.args.parts.now c.answer.new.parts c.args.done.now out c.requires.hall c.in_ok-answer.ensures.ok)

pub end-requires-clause-given : goal.end-requires-clause-given
end-requires-clause-given g c =
    let laws : DeliverLaws g.L.Law.answers = record {
      messages = c.known.ensures.bags_of_states.messages;
      notifications = c.known.ensures.bags_of_states.notifications;
      times = c.known.ensures.time_list_order.told_apart;
      at_once = c.known.ensures.delivered_at_once;
      outputs = c.known.ensures.in_parts.outputs;
      asks = c.known.ensures.in_parts.asked;
      tasks = c.known.ensures.reached_in_order.tasks;
      numbers = c.known.ensures.reached_in_order.numbers;
      step = c.known.ensures.reached.step;
      moves = c.known.ensures.stamps_move;
      append = c.known.ensures.counted.append;
    } in
    let waits : NotifyLaws = record { messages = c.known.ensures.bags_of_states.messages; place = c.known.ensures.what_waits.place; asked = c.known.ensures.what_waits.asked } in
    let out = among c.args.parts.now.out.items c.args.place c.args.done.now c.requires.there in
    more_given g.L.Law.answers laws waits c.args.parts.now c.answer.new.parts c.args.done.now out c.requires.hall c.in_ok-answer.ensures.ok

pub returns-clause-state : goal.returns-clause-state
returns-clause-state g c =
    let laws : DeliverLaws g.L.Law.answers = record {
      messages = c.known.ensures.bags_of_states.messages;
      notifications = c.known.ensures.bags_of_states.notifications;
      times = c.known.ensures.time_list_order.told_apart;
      at_once = c.known.ensures.delivered_at_once;
      outputs = c.known.ensures.in_parts.outputs;
      asks = c.known.ensures.in_parts.asked;
      tasks = c.known.ensures.reached_in_order.tasks;
      numbers = c.known.ensures.reached_in_order.numbers;
      step = c.known.ensures.reached.step;
      moves = c.known.ensures.stamps_move;
      append = c.known.ensures.counted.append;
    } in
    let waits : NotifyLaws = record { messages = c.known.ensures.bags_of_states.messages; place = c.known.ensures.what_waits.place; asked = c.known.ensures.what_waits.asked } in
    let out = among c.args.parts.now.out.items c.args.place c.args.done.now c.requires.there in
    stepped g.L.Law.answers laws waits c.args.parts.now c.answer.new.parts c.args.done.now out c.requires.hall c.in_ok-answer.ensures.ok
    c.end.new.parts (subst (λ (t : Task). IsEnded t c.answer.new.parts c.end.new.parts) c.task.ensures c.end.ensures)

pub returns-clause-hall : goal.returns-clause-hall
returns-clause-hall g c =
    let laws : DeliverLaws g.L.Law.answers = record {
      messages = c.known.ensures.bags_of_states.messages;
      notifications = c.known.ensures.bags_of_states.notifications;
      times = c.known.ensures.time_list_order.told_apart;
      at_once = c.known.ensures.delivered_at_once;
      outputs = c.known.ensures.in_parts.outputs;
      asks = c.known.ensures.in_parts.asked;
      tasks = c.known.ensures.reached_in_order.tasks;
      numbers = c.known.ensures.reached_in_order.numbers;
      step = c.known.ensures.reached.step;
      moves = c.known.ensures.stamps_move;
      append = c.known.ensures.counted.append;
    } in
    let waits : NotifyLaws = record { messages = c.known.ensures.bags_of_states.messages; place = c.known.ensures.what_waits.place; asked = c.known.ensures.what_waits.asked } in
    let out = among c.args.parts.now.out.items c.args.place c.args.done.now c.requires.there in
    kept g.L.Law.answers laws waits c.args.parts.now c.answer.new.parts c.args.done.now out c.requires.hall c.in_ok-answer.ensures.ok
    c.end.new.parts (subst (λ (t : Task). IsEnded t c.answer.new.parts c.end.new.parts) c.task.ensures c.end.ensures)
