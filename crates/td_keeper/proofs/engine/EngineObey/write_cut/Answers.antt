use Rattle.std.proofs.Common.{sym, ap, ◌∙◌, subst}
use Rattle.td_plan.specs.Blocks.{vertices}
use Rattle.td_calls.specs.Fits.{first_lack}
use Rattle.td_keeper.specs.declared.command.Command.TheVariants.{WriteCut}
use Rattle.td_keeper.specs.Keeping.{Keeping}
use Rattle.td_keeper.specs.Halls.{IsOwn, KeeperAndHall}
use Rattle.td_keeper.specs.Driven.{Obeys, written}
use Rattle.td_keeper.proofs.Obeying.{write_obeys, write_owns}
use Rattle.td_keeper.proofs.Owning.{own_home}
use Rattle.td_keeper.proofs.engine.EngineObey.write_cut.Goals as goal

pub returns-clause-written : goal.returns-clause-written
returns-clause-written g c =
    let old : Keeping g.row.D.Denot = c.self.inside.keeper in
    let new = c.write_cut.new.self in
    let e = c.write_cut.ensures in
    subst (λ (k : KeeperAndHall g.row.D.Denot). Obeys g.D.Disk.view g.L.Law.answers (WriteCut) (written c.write_cut.result) k.keeping new) c.self.view_is (write_obeys g.D.Disk.view g.L.Law.answers old new c.write_cut.result e.written e.refused e.crash e.device)

pub invariant_of-self : goal.invariant_of-self
invariant_of-self g c =
    let S = c.self.inside.hall in
    let old = c.self.inside.keeper in
    let new = c.write_cut.new.self in
    let e = c.write_cut.ensures in
    let home = c.self.invariant.0 in
    let own : IsOwn new S = write_owns g.D.Disk.view g.L.Law.answers old new c.each_is_kept.ensures S home.own c.write_cut.result e.written e.refused in (
      own_home old new S home own,
      ap (λ plan. first_lack (g.C.Closures.stored c.self.inside.calls.now) (vertices plan)) (sym own.plan ∙ home.own.plan)
          ∙ c.self.invariant.1,
    )
