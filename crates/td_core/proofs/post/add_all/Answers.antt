use Rattle.std.proofs.Common.{◌≤◌, ◌++◌, ◌∙◌, take, ap, sym, subst}
use Rattle.std.proofs.lemmas.List.{take_all}
use Rattle.td_progress.specs.Bag.{occurrences}
use Rattle.td_core.specs.Posted.{occurring}
use Rattle.td_core.proofs.Changes.{next_on, can_go, as_before}
use Rattle.td_core.proofs.post.add_all.Goals as goal

pub take_off_all-requires : goal.take_off_all-requires
take_off_all-requires c p =
    subst (λ t. occurrences p (occurring (take c.loop-count.count c.args.changes.now)) ≤ occurrences p t.stamps) (sym c.in-Err.ensures.err)
    (can_go c.counted.ensures.append (take c.loop-count.count c.args.changes.now) c.args.table.now.stamps c.loop-count.table.stamps c.loop-count.invariant.stamps p)

pub returns-in-Err-clause-err : goal.returns-in-Err-clause-err
returns-in-Err-clause-err c =
    as_before c.counted.ensures.append (take c.loop-count.count c.args.changes.now) c.args.table.now.stamps c.loop-count.table.stamps c.take_off_all.new.table.stamps c.loop-count.invariant.stamps
    (λ p. ap (λ t. occurrences p t.stamps) (sym c.in-Err.ensures.err) ∙ c.take_off_all.ensures.stamps p)

pub loop-count-preserved : goal.loop-count-preserved
loop-count-preserved c = record {
  plan = c.add_one.ensures.plan ∙ c.loop-count.invariant.plan;
  stamps = next_on c.counted.ensures.append c.args.changes.now c.loop-count.count c.index-changes-count.result c.loop-count-test.true c.index-changes-count.is c.args.table.now.stamps c.loop-count.table.stamps
      c.add_one.new.table.stamps c.loop-count.invariant.stamps c.in_default.ensures.ok;
}

pub returns-clause-ok : goal.returns-clause-ok
returns-clause-ok c p =
    c.loop-count.invariant.stamps p
    ∙ ap (λ changes. occurrences p (occurring changes ++ c.args.table.now.stamps)) (take_all c.loop-count.count c.args.changes.now c.loop-count-test.false)
