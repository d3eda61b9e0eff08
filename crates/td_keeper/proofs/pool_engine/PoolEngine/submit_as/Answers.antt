use Rattle.std.proofs.Common.{subst}
use Rattle.td_keeper.specs.declared.command.Command.TheVariants.{SubmitAs}
use Rattle.td_keeper.specs.Keeping.{Keeping}
use Rattle.td_keeper.specs.Driven.{Obeys, submitted_as}
use Rattle.td_keeper.proofs.Knowing.{known_goes_on}
use Rattle.td_keeper.proofs.Obeying.{submit_as_obeys, submit_as_owns}
use Rattle.td_keeper.proofs.pool_engine.PoolEngine.submit_as.Goals as goal

pub returns-clause-submitted : goal.returns-clause-submitted
returns-clause-submitted g c =
    let old : Keeping g.row.D.Denot = c.self.inside.keeper in
    let new = c.submit_as.new.self in
    let e = c.submit_as.ensures in
    subst (λ (k : Keeping g.row.D.Denot). Obeys g.D.Disk.view g.L.Law.answers (SubmitAs c.args.request c.args.batch) (submitted_as c.submit_as.result) k new) c.self.view_is (submit_as_obeys g.D.Disk.view g.L.Law.answers old new c.args.request c.args.batch c.submit_as.result e.answered e.refused e.repeated e.back e.crash e.device)

pub invariant_of-self : goal.invariant_of-self
invariant_of-self g c =
    let old = c.self.inside.keeper in
    let new = c.submit_as.new.self in
    let e = c.submit_as.ensures in
    known_goes_on old new c.self.inside.known (λ S own. submit_as_owns g.D.Disk.view g.L.Law.answers old new c.each_is_kept.ensures S own c.args.request c.args.batch c.submit_as.result e.answered e.refused) c.self.invariant
