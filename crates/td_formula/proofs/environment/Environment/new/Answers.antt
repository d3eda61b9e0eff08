use Rattle.std.proofs.Common.{pos}
use Rattle.std.proofs.lemmas.List.{get_or-replicate}
use Rattle.td_formula.specs.Environments.{named}
use Rattle.td_formula.specs.Names.{place, no_names}
use Rattle.td_formula.proofs.Names.{place_within}
use Rattle.td_formula.proofs.environment.Environment.new.Goals as goal

pub returns : goal.returns
unfolding named no_names
returns c = λ i x. get_or-replicate 18 (place x) (pos 0) (pos 0) (place_within x) i
