use Rattle.std.proofs.Common.{sym, ap, ◌∙◌, not, reverse}
use Rattle.td_plan.specs.Blocks.{is_source_on}
use Rattle.td_plan.proofs.Listed.{passed_more, failed_at, passed_whole}
use Rattle.td_plan.proofs.scope.Scope.reads_elsewhere.Goals as goal

pub loop-source-preserved : goal.loop-source-preserved
loop-source-preserved c =
    passed_more (is_source_on (reverse c.args.block.now) c.args.self.now.vertices) c.args.sources.now c.loop-source.source-index 0 c.loop-source-test.true c.loop-source.invariant
    (sym c.is_source_on.ensures ∙ c.if-not-is_source_on.false)

pub returns-then-not-is_source_on : goal.returns-then-not-is_source_on
returns-then-not-is_source_on c =
    ap not (sym (failed_at (is_source_on (reverse c.args.block.now) c.args.self.now.vertices) c.args.sources.now c.loop-source.source-index 0 c.loop-source-test.true (sym c.is_source_on.ensures ∙ c.if-not-is_source_on.true)))

pub returns : goal.returns
returns c =
    ap not (sym (passed_whole (is_source_on (reverse c.args.block.now) c.args.self.now.vertices) c.args.sources.now c.loop-source.source-index c.loop-source-test.false c.loop-source.invariant))
