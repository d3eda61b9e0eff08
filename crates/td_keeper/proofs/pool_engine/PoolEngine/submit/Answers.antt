use Rattle.std.proofs.Common.{subst}
use Rattle.td_keeper.specs.declared.command.Command.TheVariants.{Submit}
use Rattle.td_keeper.specs.Keeping.{Keeping}
use Rattle.td_keeper.specs.Driven.{Obeys, submitted}
use Rattle.td_keeper.proofs.Knowing.{known_goes_on}
use Rattle.td_keeper.proofs.Obeying.{submit_obeys, submit_owns}
use Rattle.td_keeper.proofs.pool_engine.PoolEngine.submit.Goals as goal

pub returns-clause-submitted : goal.returns-clause-submitted
returns-clause-submitted g c =
    let old : Keeping g.row.D.Denot = c.self.inside.keeper in
    let new = c.submit.new.self in
    let e = c.submit.ensures in
    subst (λ (k : Keeping g.row.D.Denot). Obeys g.D.Disk.view g.L.Law.answers (Submit c.args.batch) (submitted c.submit.result) k new) c.self.view_is (submit_obeys g.D.Disk.view g.L.Law.answers old new c.args.batch c.submit.result e.submitted e.refused e.back e.crash e.device)

pub invariant_of-self : goal.invariant_of-self
invariant_of-self g c =
    let old = c.self.inside.keeper in
    let new = c.submit.new.self in
    let e = c.submit.ensures in
    known_goes_on old new c.self.inside.known (λ S own. submit_owns g.D.Disk.view g.L.Law.answers old new c.each_is_kept.ensures S own c.args.batch c.submit.result e.submitted e.refused) c.self.invariant
