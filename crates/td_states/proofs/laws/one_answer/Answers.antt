use Rattle.td_plan.specs.Text.{text_lines}
use Rattle.td_store.specs.standing.Told.{folds_of}
use Rattle.td_states.proofs.Once.{spelled_once}
use Rattle.td_states.proofs.OneAnswer.{text_no_fault}
use Rattle.td_states.proofs.laws.one_answer.Goals as goal

pub returns-clause-once : goal.returns-clause-once
returns-clause-once c plan renames text at other one two = spelled_once (folds_of plan) renames (text_lines text) at other one two

pub returns-clause-no_fault : goal.returns-clause-no_fault
returns-clause-no_fault c plan renames text at n fault is why = text_no_fault (folds_of plan) renames (text_lines text) at n fault is why
