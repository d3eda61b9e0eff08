use Rattle.std.proofs.Common.{sym, ◌∙◌}
use Rattle.td_shard.proofs.Search.{base_first, front_waits}
use Rattle.td_shard.proofs.take.first_of.Goals as goal

pub returns-then-number-base-clause-waits : goal.returns-then-number-base-clause-waits
returns-then-number-base-clause-waits c d = front_waits c.args.runs.now.parts d c.requires.some c.requires.front

pub returns-then-number-base-clause-first : goal.returns-then-number-base-clause-first
returns-then-number-base-clause-first c d r = base_first c.args.runs.now.parts d r c.requires.some c.requires.grouped (sym (c.number.ensures d r) ∙ (c.if-number-base.true ∙ c.base.ensures d))
