use Rattle.std.proofs.Common.{sym, ap, ◌∙◌}
use Rattle.td_shard.specs.After.{states_after, entries_at}
use Rattle.td_shard.proofs.EntriesAt.{first_found, none_found}
use Rattle.td_shard.proofs.after.StatesAfterIteratorIterator.next.Goals as goal

pub returns-in-Some-found-clause-steps : goal.returns-in-Some-found-clause-steps
returns-in-Some-found-clause-steps c =
    let s = c.loop-place.self-inside in
    let all = states_after s.epoch s.base.now s.versions.now in
    sym c.self.view_is
    ∙ (sym c.loop-place.invariant
    ∙ (ap (entries_at all) c.in-Some.ensures ∙ first_found all c.in-Some.place c.take_first.new.self c.in-Some-found.state (sym c.state_at-found.ensures ∙ c.in-Some-found.is)))

pub loop-place-preserved : goal.loop-place-preserved
loop-place-preserved c =
    let s = c.loop-place.self-inside in
    let all = states_after s.epoch s.base.now s.versions.now in
    sym (none_found all c.in-Some.place c.take_first.new.self (sym c.state_at-found.ensures ∙ c.in_default-found.is)) ∙ (sym (ap (entries_at all) c.in-Some.ensures) ∙ c.loop-place.invariant)
