use Rattle.td_plan.specs.Text.{text_lines}
use Rattle.td_console.proofs.Answered.{batches_are, faultless, fault_is}
use Rattle.td_console.proofs.Accepted.{accepted}
use Rattle.td_console.proofs.epochs.read_batches.Goals as goal

pub returns-clause-ok : goal.returns-clause-ok
returns-clause-ok c = batches_are (λ v. v.items) c.args.plan.now c.args.first (text_lines c.args.text.now) c.read_each.result c.read_each.ensures.ok

pub returns-clause-faultless : goal.returns-clause-faultless
returns-clause-faultless c = faultless (λ v. v.items) c.args.plan.now c.args.first (text_lines c.args.text.now) c.read_each.result c.read_each.ensures.ok

pub returns-clause-accepted : goal.returns-clause-accepted
returns-clause-accepted c = accepted (λ v. v.items) c.args.plan.now c.args.first (text_lines c.args.text.now) c.read_each.result c.read_each.ensures.ok

pub returns-clause-err : goal.returns-clause-err
returns-clause-err c = fault_is (λ v. v.items) c.args.plan.now c.args.first (text_lines c.args.text.now) c.read_each.result c.read_each.ensures.err
