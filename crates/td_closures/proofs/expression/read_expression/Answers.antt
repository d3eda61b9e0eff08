use Rattle.td_closures.proofs.Grammar.{ok, refused}
use Rattle.td_closures.proofs.expression.read_expression.Goals as goal

pub returns-clause-ok : goal.returns-clause-ok
returns-clause-ok c = ok c.args.tokens.now c.run.result c.run.ensures

pub returns-clause-refused : goal.returns-clause-refused
returns-clause-refused c = refused c.args.tokens.now c.run.result c.run.ensures
