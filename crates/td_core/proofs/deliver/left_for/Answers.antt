use Rattle.std.proofs.Common.{◌++◌, [], ◌∷◌, None, get_or, ap, sym, ◌∙◌, arith}
use Rattle.td_task.specs.KeyAts.{key_items}
use Rattle.td_core.proofs.NotifyShards.{none_left, left_more}
use Rattle.td_core.proofs.deliver.left_for.Goals as goal

pub loop-index-init : goal.loop-index-init
loop-index-init c = record {
  left = c.in_ok-left.ensures.items ∙ sym (none_left c.args.task.now.time.epoch c.args.task.now.vertex c.args.items.now);
  room = omega (arith, c.in_ok-left.ensures.len, c.in_ok-left.ensures.capacity);
}

pub loop-index-preserved : goal.loop-index-preserved
loop-index-preserved c =
    let inv = c.loop-index.invariant in
    let task = c.args.task.now in
    let epoch = c.epoch.ensures ∙ ap (λ t. t.epoch) c.time.ensures in
    let at = c.loop-index.index in
    record {
      left = c.push_reserved.ensures.items
          ∙ ((λ i. inv.left i ++ record { epoch = epoch i; vertex = c.vertex.ensures i; key = c.at.result.key; state = get_or c.args.states.now at None } ∷ [])
          ∙ sym (left_more task.time.epoch task.vertex c.args.items.now c.args.states.now at (key_items c.at.result) None (sym c.at.ensures) c.loop-index-test.true));
      room = omega (arith, inv.room, c.push_reserved.ensures.len, c.push_reserved.ensures.capacity, c.loop-index-test.true);
    }
