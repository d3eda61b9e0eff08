use Rattle.std.proofs.Common.{subst}
use Rattle.td_keeper.specs.declared.command.Command.TheVariants.{CloseFree}
use Rattle.td_keeper.specs.Keeping.{Keeping}
use Rattle.td_keeper.specs.Driven.{Obeys, closed}
use Rattle.td_keeper.proofs.Knowing.{known_goes_on}
use Rattle.td_keeper.proofs.Obeying.{close_obeys, close_owns}
use Rattle.td_keeper.proofs.pool_engine.PoolEngine.close_free.Goals as goal

pub returns-clause-closed : goal.returns-clause-closed
returns-clause-closed g c =
    let old : Keeping g.row.D.Denot = c.self.inside.keeper in
    let new = c.close_free.new.self in
    let e = c.close_free.ensures in
    subst (λ (k : Keeping g.row.D.Denot). Obeys g.D.Disk.view g.L.Law.answers (CloseFree c.args.most) (closed c.close_free.result) k new) c.self.view_is (close_obeys g.D.Disk.view g.L.Law.answers old new c.args.most c.close_free.result e.closed e.refused e.crash e.device)

pub invariant_of-self : goal.invariant_of-self
invariant_of-self g c =
    let old = c.self.inside.keeper in
    let new = c.close_free.new.self in
    let e = c.close_free.ensures in
    known_goes_on old new c.self.inside.known (λ S own. close_owns g.D.Disk.view g.L.Law.answers old new c.each_is_kept.ensures S own c.args.most c.close_free.result e.closed e.refused) c.self.invariant
