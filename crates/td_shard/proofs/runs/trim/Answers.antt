use Rattle.std.proofs.Common.{ap, ◌∙◌}
use Rattle.td_shard.specs.Runs.{taken_of}
use Rattle.td_shard.proofs.Trimmed.{Trimmed, trimmed_so}
use Rattle.td_shard.proofs.runs.trim.Goals as goal
use Rattle.td_shard.proofs.runs.trim.Goals.{After-first_number}

its : (c : After-first_number) → Trimmed c.args.start.now c.args.recs.now.len c.first_number.result c.pop_rows.new.rows.len c.args.runs.now.items c.args.recs.now.items c.pop_rows.new.rows.items
its c =
    let old = c.args.recs.now in
    let new = c.pop_rows.new.rows in
    trimmed_so c.args.start.now old.len c.first_number.result new.len c.taken_rows-count.result c.args.runs.now.items old.items new.items old.ok.0 new.ok.0 c.requires
    (c.taken_rows-count.ensures.count ∙ ap (λ n. taken_of c.args.start.now n c.args.runs.now.items) c.len.ensures) c.first_number.ensures c.pop_rows.ensures.items

pub returns-clause-begins : goal.returns-clause-begins
returns-clause-begins c = (its c).begins

pub returns-clause-ordered : goal.returns-clause-ordered
returns-clause-ordered c = (its c).ordered

pub returns-clause-parts : goal.returns-clause-parts
returns-clause-parts c = (its c).parts

pub returns-clause-fewer : goal.returns-clause-fewer
returns-clause-fewer c = (its c).fewer

pub returns-clause-numbers : goal.returns-clause-numbers
returns-clause-numbers c = (its c).numbers
