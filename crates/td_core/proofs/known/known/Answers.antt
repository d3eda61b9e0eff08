use Rattle.td_core.proofs.known.known.Goals as goal

pub returns : goal.returns
returns g c = record {
  reached = record { opened = c.reached.ensures.opened; step = c.reached.ensures.step; sound = c.reached.ensures.sound };
  reached_in_order = record { lists = c.reached_in_order.ensures.lists; tasks = c.reached_in_order.ensures.tasks; numbers = c.reached_in_order.ensures.numbers };
  active_of_plan = c.active_of_plan.ensures;
  asked_where_notified = c.asked_where_notified.ensures;
  bags_of_states = record { messages = c.bags_of_states.ensures.messages; stamped = c.bags_of_states.ensures.stamped; left = c.bags_of_states.ensures.left; outputs = c.bags_of_states.ensures.outputs; notifications = c.bags_of_states.ensures.notifications };
  none_left = record { task = c.none_left.ensures.task; epoch = c.none_left.ensures.epoch };
  what_waits = record { place = c.what_waits.ensures.place; items = c.what_waits.ensures.items; asked = c.what_waits.ensures.asked };
  in_parts = record { posts = c.in_parts.ensures.posts; stamps = c.in_parts.ensures.stamps; batch = c.in_parts.ensures.batch; batch_stamps = c.in_parts.ensures.batch_stamps; own_stamps = c.in_parts.ensures.own_stamps; outputs = c.in_parts.ensures.outputs; asked = c.in_parts.ensures.asked };
  stamps_move = c.stamps_move.ensures;
  delivered_at_once = c.delivered_at_once.ensures;
  sends_of_plan = c.sends_of_plan.ensures;
  turns_of_plan = c.turns_of_plan.ensures;
  sent_of_plan = c.sent_of_plan.ensures;
  come_of_plan = c.come_of_plan.ensures;
  plays_join = record { joined = c.plays_join.ensures.joined; released = c.plays_join.ensures.released; given = c.plays_join.ensures.given };
  never_stuck = c.never_stuck.ensures;
  exact_work_drained = c.exact_work_drained.ensures;
  look_ups = record { vertices = c.look_ups.ensures.vertices; edges = c.look_ups.ensures.edges };
  a_map_sends = c.a_map_sends.ensures;
  a_notification_sends = c.a_notification_sends.ensures;
  a_notification_leaves = c.a_notification_leaves.ensures;
  counts = record { answers = c.counts.ensures.answers; states = c.counts.ensures.states };
  counted = record { same = c.counted.ensures.same; append = c.counted.ensures.append; contains = c.counted.ensures.contains };
  in_any_order = record { frontier = c.in_any_order.ensures.frontier; passed = c.in_any_order.ensures.passed };
  tasks = record { parted = c.tasks.ensures.parted; picked = c.tasks.ensures.picked; some = c.tasks.ensures.some; few = c.tasks.ensures.few; beside = c.tasks.ensures.beside; full = c.tasks.ensures.full };
  time_list_order = record { total = c.time_list_order.ensures.total; told_apart = c.time_list_order.ensures.told_apart; keeps = c.time_list_order.ensures.keeps };
}
