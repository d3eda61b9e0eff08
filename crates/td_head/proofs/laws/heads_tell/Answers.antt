use Rattle.td_head.proofs.Raised.{head_version}
use Rattle.td_head.proofs.Same.{same_told, same_text, limits, one_answer}
use Rattle.td_head.proofs.laws.heads_tell.Goals as goal

pub returns-clause-head : goal.returns-clause-head
returns-clause-head c = same_told

pub returns-clause-text : goal.returns-clause-text
returns-clause-text c = same_text

pub returns-clause-limits : goal.returns-clause-limits
returns-clause-limits c = limits

pub returns-clause-version : goal.returns-clause-version
returns-clause-version c = head_version

pub returns-clause-one : goal.returns-clause-one
returns-clause-one c = one_answer
