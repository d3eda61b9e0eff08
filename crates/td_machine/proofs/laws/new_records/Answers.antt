use Rattle.td_machine.proofs.AtOnce.{fresh_by_members, fresh_of_shard}
use Rattle.td_machine.proofs.laws.new_records.Goals as goal

pub returns-clause-members : goal.returns-clause-members
returns-clause-members c = fresh_by_members c.laws_below.ensures

pub returns-clause-shard : goal.returns-clause-shard
returns-clause-shard c = fresh_of_shard c.laws_below.ensures
