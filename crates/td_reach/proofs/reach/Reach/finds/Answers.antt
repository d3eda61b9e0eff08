use Rattle.std.proofs.Common.{sym, ◌∙◌}
use Rattle.td_reach.proofs.Leading.{first_within, last_within}
use Rattle.td_reach.proofs.reach.Reach.finds.Goals as goal

pub least-requires-clause-from : goal.least-requires-clause-from
least-requires-clause-from c =
    first_within c.args.self.now c.first_vertex-first.ensures.lawful c.args.from c.in-Some-Some.first c.requires.from (sym c.first_vertex-first.ensures.value ∙ c.in-Some-Some.is-0)

pub least-requires-clause-to : goal.least-requires-clause-to
least-requires-clause-to c =
    last_within c.args.self.now c.first_vertex-first.ensures.lawful c.args.to c.in-Some-Some.last c.requires.to (sym c.last_vertex.ensures ∙ c.in-Some-Some.is-1)
