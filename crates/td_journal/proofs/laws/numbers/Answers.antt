use Rattle.td_journal.proofs.Rising.{rise_last, greatest_joined, greatest_at_least, greatest_of_each}
use Rattle.td_journal.proofs.laws.numbers.Goals as goal

pub returns-clause-one_more : goal.returns-clause-one_more
returns-clause-one_more c = rise_last

pub returns-clause-joined : goal.returns-clause-joined
returns-clause-joined c = greatest_joined

pub returns-clause-at_least : goal.returns-clause-at_least
returns-clause-at_least c = greatest_at_least

pub returns-clause-each : goal.returns-clause-each
returns-clause-each c = greatest_of_each
