use Rattle.std.proofs.Common.{length, ap, arith}
use Rattle.td_shard.specs.Order.{in_order}
use Rattle.td_shard.proofs.Together.{none_numbered}
use Rattle.td_shard.proofs.mailbox.Mailbox.remove.Goals as goal

pub invariant_of-self : goal.invariant_of-self
invariant_of-self c =
    let was = c.self.invariant in
    let taken = c.take_task.ensures in
    let now = c.let_go.ensures in
    let same = ap (λ xs. length (in_order xs)) now.messages in
    record {
      linked = now.linked;
      lasts = now.lasts;
      front = now.front;
      len = omega (arith, was.len, taken.count, same);
      lasts_room = omega (arith, was.lasts_room, now.spare, now.runs, taken.runs);
      counted = omega (arith, was.counted, taken.count, same, now.room, taken.room);
      numbers = none_numbered c.let_go.new.runs.parts now.front (omega (arith, was.len, taken.count, same, c.if-self-eq0.true));
      next = omega (arith, was.next, now.room, taken.room);
    }

pub invariant_of-self-else-self-eq0 : goal.invariant_of-self-else-self-eq0
invariant_of-self-else-self-eq0 c =
    let was = c.self.invariant in
    let taken = c.take_task.ensures in
    let now = c.let_go.ensures in
    let same = ap (λ xs. length (in_order xs)) now.messages in
    record {
      linked = now.linked;
      lasts = now.lasts;
      front = now.front;
      len = omega (arith, was.len, taken.count, same);
      lasts_room = omega (arith, was.lasts_room, now.spare, now.runs, taken.runs);
      counted = omega (arith, was.counted, taken.count, same, now.room, taken.room);
      numbers = now.numbered c.self.inside.next taken.numbered;
      next = omega (arith, was.next, now.room, taken.room);
    }
