use Rattle.std.proofs.Common.{sym, ap, ◌∙◌, subst}
use Rattle.td_plan.specs.Blocks.{vertices}
use Rattle.td_calls.specs.Fits.{first_lack}
use Rattle.td_keeper.specs.declared.command.Command.TheVariants.{CloseFree}
use Rattle.td_keeper.specs.Keeping.{Keeping}
use Rattle.td_keeper.specs.Halls.{IsOwn, KeeperAndHall}
use Rattle.td_keeper.specs.Driven.{Obeys, closed}
use Rattle.td_keeper.proofs.Obeying.{close_obeys, close_owns}
use Rattle.td_keeper.proofs.Owning.{own_home}
use Rattle.td_keeper.proofs.engine.EngineObey.close_free.Goals as goal

pub returns-clause-closed : goal.returns-clause-closed
returns-clause-closed g c =
    let old : Keeping g.row.D.Denot = c.self.inside.keeper in
    let new = c.close_free.new.self in
    let e = c.close_free.ensures in
    subst (λ (k : KeeperAndHall g.row.D.Denot). Obeys g.D.Disk.view g.L.Law.answers (CloseFree c.args.most) (closed c.close_free.result) k.keeping new) c.self.view_is (close_obeys g.D.Disk.view g.L.Law.answers old new c.args.most c.close_free.result e.closed e.refused e.crash e.device)

pub invariant_of-self : goal.invariant_of-self
invariant_of-self g c =
    let S = c.self.inside.hall in
    let old = c.self.inside.keeper in
    let new = c.close_free.new.self in
    let e = c.close_free.ensures in
    let home = c.self.invariant.0 in
    let own : IsOwn new S = close_owns g.D.Disk.view g.L.Law.answers old new c.each_is_kept.ensures S home.own c.args.most c.close_free.result e.closed e.refused in (
      own_home old new S home own,
      ap (λ plan. first_lack (g.C.Closures.stored c.self.inside.calls.now) (vertices plan)) (sym own.plan ∙ home.own.plan)
          ∙ c.self.invariant.1,
    )
