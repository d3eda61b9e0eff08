use Rattle.td_plan.proofs.Unique.{read_ok, read_refused}
use Rattle.td_plan.proofs.reader.read_draft.Goals as goal

pub returns-clause-ok : goal.returns-clause-ok
returns-clause-ok c = read_ok c.args.text.now (λ draft. draft.lines) c.read_both.result c.read_both.ensures.ok

pub returns-clause-refused : goal.returns-clause-refused
returns-clause-refused c = read_refused c.args.text.now c.read_both.result c.read_both.ensures.refused
