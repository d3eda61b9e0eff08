use Rattle.std.proofs.Common.{rules}
use Rattle.td_keeper.proofs.keeper.Keeper.recover.Goals as goal

pub invariant_of-result : goal.invariant_of-result
invariant_of-result g c = (
  search rules,
  record {
    which = search rules;
    batches = search rules;
    few = search rules;
    small = search rules;
    states = search rules;
    from_checkpoint = search rules;
    released = search rules;
    base_states = search rules;
    collected = search rules;
    done = search rules;
    watched = search rules;
  },
  search rules,
  search rules,
  λ lawful. tt,
)

pub returns-in-Ok-clause-fresh : goal.returns-in-Ok-clause-fresh
returns-in-Ok-clause-fresh g c = search rules
