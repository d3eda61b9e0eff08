use Rattle.std.proofs.Common.{arith, ◌-◌, length, get_or, List, refl, ap, ◌∙◌}
use Rattle.td_shard.specs.Runs.{Part, Parts, without_front}
use Rattle.td_shard.proofs.OneRun.{capped}
use Rattle.td_shard.proofs.TakenUp.{length-changed_at, changed_at-ahead}
use Rattle.td_shard.proofs.take.take_run.Goals as goal

pub ahead-requires : goal.ahead-requires
ahead-requires c =
    let long = ap (λ (v : Parts). length v.parts) c.advance.ensures in
    omega (arith, c.requires.within, long, length-changed_at (without_front c.min-many.result) c.args.place c.args.runs.now.parts)

pub returns-clause-parts : goal.returns-clause-parts
returns-clause-parts c =
    let old = c.args.runs.now in
    c.advance.ensures ∙ ap (λ (l : List Part). record old { parts = l }) (capped (64 - c.args.count.now) c.waiting.result c.min-many.result c.args.place old.parts c.requires.within c.waiting.ensures.count c.min-many.ensures)

pub returns-clause-ahead : goal.returns-clause-ahead
returns-clause-ahead c d =
    c.ahead.ensures d ∙ (ap (λ (v : Parts). (get_or v.parts c.args.place d).ahead) c.advance.ensures
    ∙ changed_at-ahead (without_front c.min-many.result) (λ p. refl) c.args.place c.args.place c.args.runs.now.parts d)
