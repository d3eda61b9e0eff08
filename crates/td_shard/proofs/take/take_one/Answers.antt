use Rattle.std.proofs.Common.{arith, length, get_or, List, ap, ◌∙◌}
use Rattle.td_shard.specs.Runs.{Part, Parts, changed_at, without_front, with_first}
use Rattle.td_shard.proofs.OneRun.{taken_one, some_there}
use Rattle.td_shard.proofs.TakenUp.{length-changed_at}
use Rattle.td_shard.proofs.take.take_one.Goals as goal

pub advance-requires-clause-place : goal.advance-requires-clause-place
advance-requires-clause-place c =
    let long = ap (λ (v : Parts). length v.parts) c.bring_to_front.ensures in
    omega (arith, c.requires.place, long, length-changed_at (with_first c.args.offset) c.args.place c.args.runs.now.parts)

pub advance-requires-clause-count : goal.advance-requires-clause-count
advance-requires-clause-count c d =
    let same = ap (λ (v : Parts). length (get_or v.parts c.args.place d).recs) c.bring_to_front.ensures in
    omega (arith, same, some_there c.args.offset c.args.place c.args.runs.now.parts d c.requires.place c.requires.offset)

pub returns : goal.returns
returns c =
    let old = c.args.runs.now in
    let i = c.args.place in
    c.advance.ensures
    ∙ (ap (λ (v : Parts). record v { parts = changed_at (without_front 1) i v.parts }) c.bring_to_front.ensures
    ∙ ap (λ (l : List Part). record old { parts = l }) (taken_one c.args.offset i old.parts c.requires.place c.requires.offset))
