use Rattle.std.proofs.Common.{None, sym, ap, ◌∙◌, subst}
use Rattle.td_core.specs.Taking.{earlier}
use Rattle.td_core.proofs.NextReady.{IsFirstSoFar, none_seen, one_seen, all_seen}
use Rattle.td_core.proofs.take.next_ready.Goals as goal

pub loop-stamp-init : goal.loop-stamp-init
loop-stamp-init c =
    subst (λ ps. IsFirstSoFar c.args.table.now c.args.waiting.now ps c.args.after.now None) (sym c.into_iter-stamp-iterator.ensures.into_iter_gives)
    (none_seen c.args.table.now c.args.waiting.now c.time_list_order.ensures.told_apart c.frontier-stamp-items.result c.args.after.now c.frontier-stamp-items.ensures.each)

pub loop-stamp-preserved : goal.loop-stamp-preserved
loop-stamp-preserved c =
    subst (IsFirstSoFar c.args.table.now c.args.waiting.now c.next.new.self c.args.after.now) (sym (c.earlier-first.ensures ∙ ap (earlier c.loop-stamp.first c.args.after.now) c.asked_of.ensures))
    (one_seen c.args.table.now c.args.waiting.now c.loop-stamp.stamp-iterator c.next.new.self c.in-Some.stamp c.args.after.now c.loop-stamp.first c.in-Some.ensures.steps c.loop-stamp.invariant)

pub returns : goal.returns
returns c = all_seen c.args.table.now c.args.waiting.now c.loop-stamp.stamp-iterator c.args.after.now c.loop-stamp.first c.in-None.ensures.steps.0 c.loop-stamp.invariant
