use Rattle.std.proofs.Common.{◌++◌, map, ap, ◌∙◌, arith}
use Rattle.std.specs.List.{enumerate_from}
use Rattle.td_plan.specs.Blocks.{edges_to}
use Rattle.td_plan.proofs.Edges.{edge_from, edges_after, edges_all}
use Rattle.td_plan.proofs.vertex.Vertex.add_edges.Goals as goal

pub loop-source-preserved : goal.loop-source-preserved
loop-source-preserved c =
    (edges_after _ _ _ c.self.inside.number c.as_slice-source-items.result.now c.loop-source.source-index c.loop-source.port c.loop-source-test.true c.loop-source.invariant.1 c.loop-source.invariant.0 c.in_ok-push.ensures.items, omega arith, c.as_slice-source-items.ensures.fits)

pub returns : goal.returns
returns c =
    edges_all c.args.edges.now.items c.loop-source.edges.items c.self.inside.number c.as_slice-source-items.result.now c.loop-source.source-index c.loop-source-test.false c.loop-source.invariant.0
    ∙ ap (λ xs. c.args.edges.now.items ++ map (edge_from c.self.inside.number) (enumerate_from 0 xs)) c.as_slice-source-items.ensures.value
    ∙ ap (λ p. c.args.edges.now.items ++ edges_to p) c.self.view_is
