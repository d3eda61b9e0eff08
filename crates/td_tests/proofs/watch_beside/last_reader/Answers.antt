use Rattle.std.proofs.Common.{◌≡◌}
use Rattle.std.proofs.lemmas.List.Elements.{All-pop}
use Rattle.td_tests.proofs.watch_beside.last_reader.Goals as goal

pub returns : goal.returns
returns c =
    let both = All-pop (λ r. r ≡ c.args._writer.now) _ _ _ c.pop.ensures.items c.requires in
    record { rest = both.0; last = both.1 }
