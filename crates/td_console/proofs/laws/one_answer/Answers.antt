use Rattle.td_console.proofs.OneAnswer.{some_answer, same_answer}
use Rattle.td_console.proofs.laws.one_answer.Goals as goal

pub returns-clause-some : goal.returns-clause-some
returns-clause-some c = λ stored input. some_answer (record { either = c.one_answer.ensures.either; not_both = c.one_answer.ensures.not_both; one_plan = c.one_answer.ensures.one_plan; one_refusal = c.one_answer.ensures.one_refusal }) stored input

pub returns-clause-no_other : goal.returns-clause-no_other
returns-clause-no_other c = λ stored input. same_answer (record { either = c.one_answer.ensures.either; not_both = c.one_answer.ensures.not_both; one_plan = c.one_answer.ensures.one_plan; one_refusal = c.one_answer.ensures.one_refusal }) stored input
