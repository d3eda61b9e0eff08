use Rattle.td_plan.specs.Text.{words}
use Rattle.td_plan.proofs.Readings.{written_form}
use Rattle.td_plan.proofs.line.read_line.Goals as goal

pub returns-clause-form : goal.returns-clause-form
returns-clause-form c = written_form (words c.args.line.now) c.read_words.result c.read_words.ensures.ok
