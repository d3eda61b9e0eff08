use Rattle.std.proofs.Common.{◌++◌, ◌∙◌, ap}
use Rattle.std.proofs.lemmas.List.{take_all}
use Rattle.td_progress.specs.Bag.{occurrences}
use Rattle.td_core.specs.Posted.{occurring}
use Rattle.td_core.proofs.Changes.{next_off, are_there}
use Rattle.td_core.proofs.post.take_off_all.Goals as goal

pub take_off_many-requires : goal.take_off_many-requires
take_off_many-requires c =
    are_there c.counted.ensures.append (λ p. (c.counted.ensures.same p p).1 (λ i. p)) c.args.changes.now c.loop-change.change-index c.change-item.result c.loop-change-test.true c.change-item.is
    c.args.table.now.stamps c.loop-change.table.stamps c.requires c.loop-change.invariant.stamps

pub loop-change-preserved : goal.loop-change-preserved
loop-change-preserved c = record {
  plan = c.take_off_many.ensures.plan ∙ c.loop-change.invariant.plan;
  stamps = next_off c.counted.ensures.append c.args.changes.now c.loop-change.change-index c.change-item.result c.loop-change-test.true c.change-item.is c.args.table.now.stamps c.loop-change.table.stamps c.take_off_many.new.self.stamps
      c.loop-change.invariant.stamps c.take_off_many.ensures.stamps;
}

pub returns-clause-stamps : goal.returns-clause-stamps
returns-clause-stamps c p =
    c.loop-change.invariant.stamps p
    ∙ ap (λ changes. occurrences p (occurring changes ++ c.loop-change.table.stamps)) (take_all c.loop-change.change-index c.args.changes.now c.loop-change-test.false)
