use Rattle.std.proofs.Common.{Bool, sym, ap, ◌∙◌}
use Rattle.std.proofs.lemmas.Bool.Decides.{same_from_decides}
use Rattle.td_store.specs.standing.Told.{told}
use Rattle.td_store.proofs.standing.Crash.{told_by, parts_of}
use Rattle.td_store.proofs.standing.laws.told_in_parts.Goals as goal

pub returns-clause-together : goal.returns-clause-together
returns-clause-together c = told_by

pub returns-clause-apart : goal.returns-clause-apart
returns-clause-apart c = parts_of

pub returns-clause-one_answer : goal.returns-clause-one_answer
returns-clause-one_answer c plan image a b one other =
    let same = same_from_decides one.canonical other.canonical one.text other.text in
    sym one.is ∙ ap (λ (t : Bool). told t plan image) same ∙ other.is
