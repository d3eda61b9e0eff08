use Rattle.std.proofs.Common.{[], refl}
use Rattle.td_batch.specs.Meaning.{run}
use Rattle.td_store.proofs.standing.Composes.{stands_again}
use Rattle.td_store.proofs.standing.laws.advance_stands.Goals as goal

pub returns-clause-first : goal.returns-clause-first
returns-clause-first g c nodes = record { before = []; epochs = refl; states = refl; last = refl; whole = refl }

pub returns-clause-each : goal.returns-clause-each
returns-clause-each g c nodes = stands_again (λ b x. (run g.L.Law.answers nodes b x).states) (λ s x y. c.run_joins.ensures.states nodes s x y)
