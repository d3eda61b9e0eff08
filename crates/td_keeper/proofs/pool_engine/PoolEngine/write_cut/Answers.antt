use Rattle.std.proofs.Common.{subst}
use Rattle.td_keeper.specs.declared.command.Command.TheVariants.{WriteCut}
use Rattle.td_keeper.specs.Keeping.{Keeping}
use Rattle.td_keeper.specs.Driven.{Obeys, written}
use Rattle.td_keeper.proofs.Knowing.{known_goes_on}
use Rattle.td_keeper.proofs.Obeying.{write_obeys, write_owns}
use Rattle.td_keeper.proofs.pool_engine.PoolEngine.write_cut.Goals as goal

pub returns-clause-written : goal.returns-clause-written
returns-clause-written g c =
    let old : Keeping g.row.D.Denot = c.self.inside.keeper in
    let new = c.write_cut.new.self in
    let e = c.write_cut.ensures in
    subst (λ (k : Keeping g.row.D.Denot). Obeys g.D.Disk.view g.L.Law.answers (WriteCut) (written c.write_cut.result) k new) c.self.view_is (write_obeys g.D.Disk.view g.L.Law.answers old new c.write_cut.result e.written e.refused e.crash e.device)

pub invariant_of-self : goal.invariant_of-self
invariant_of-self g c =
    let old = c.self.inside.keeper in
    let new = c.write_cut.new.self in
    let e = c.write_cut.ensures in
    known_goes_on old new c.self.inside.known (λ S own. write_owns g.D.Disk.view g.L.Law.answers old new c.each_is_kept.ensures S own c.write_cut.result e.written e.refused) c.self.invariant
