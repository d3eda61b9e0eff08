use Rattle.std.proofs.Common.{arith}
use Rattle.td_core.proofs.TakenHall.{some_out, some_taken, is_back, hall_back}
use Rattle.td_core.proofs.take.put_back.Goals as goal

pub returns-in_default-clause-back : goal.returns-in_default-clause-back
returns-in_default-clause-back g c S task last =
    let some = some_out g.L.Law.answers c.args.parts.now c.requires.hall c.bags_of_states.ensures.messages (c.reached_in_order.ensures.numbers _ c.requires.hall.reached) c.reached_in_order.ensures.tasks c.args.shard c.requires.within S task last in
    absurd (c.in_default.not-Some _ (c.pop.ensures.value task (omega (arith, some, c.args.parts.now.out.ok))))

pub returns-in_default-clause-hall : goal.returns-in_default-clause-hall
returns-in_default-clause-hall g c S task last =
    let some = some_out g.L.Law.answers c.args.parts.now c.requires.hall c.bags_of_states.ensures.messages (c.reached_in_order.ensures.numbers _ c.requires.hall.reached) c.reached_in_order.ensures.tasks c.args.shard c.requires.within S task last in
    absurd (c.in_default.not-Some _ (c.pop.ensures.value task (omega (arith, some, c.args.parts.now.out.ok))))

pub overflow_sub-parts : goal.overflow_sub-parts
overflow_sub-parts g c = some_taken g.L.Law.answers c.args.parts.now c.requires.hall c.bags_of_states.ensures.messages (c.reached_in_order.ensures.numbers _ c.requires.hall.reached) c.reached_in_order.ensures.tasks c.args.shard c.requires.within
    c.pop.new.self.items c.in-Some.task c.in-Some.ensures.items

pub returns-clause-back : goal.returns-clause-back
returns-clause-back g c S task last = is_back g.L.Law.answers c.args.parts.now c.requires.hall c.bags_of_states.ensures.messages (c.reached_in_order.ensures.numbers _ c.requires.hall.reached) c.reached_in_order.ensures.tasks c.args.shard c.requires.within
    (record c.args.parts.now { shards = c.post_back.new.shards; out = c.pop.new.self }) c.in-Some.task c.in-Some.ensures.items c.post_back.ensures.mails c.post_back.ensures.waiting S task last

pub returns-clause-hall : goal.returns-clause-hall
returns-clause-hall g c S task last = hall_back g.L.Law.answers c.args.parts.now c.requires.hall c.bags_of_states.ensures.messages (c.reached_in_order.ensures.numbers _ c.requires.hall.reached) c.reached_in_order.ensures.tasks c.args.shard c.requires.within
    (record c.args.parts.now { shards = c.post_back.new.shards; out = c.pop.new.self }) c.in-Some.task c.in-Some.ensures.items c.post_back.ensures.mails c.post_back.ensures.waiting S task last
