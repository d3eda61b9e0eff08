use Rattle.std.proofs.Common.{sym, ap, ◌∙◌, subst}
use Rattle.td_plan.specs.Blocks.{vertices}
use Rattle.td_calls.specs.Fits.{first_lack}
use Rattle.td_keeper.specs.declared.command.Command.TheVariants.{SubmitAs}
use Rattle.td_keeper.specs.Keeping.{Keeping}
use Rattle.td_keeper.specs.Halls.{IsOwn, KeeperAndHall}
use Rattle.td_keeper.specs.Driven.{Obeys, submitted_as}
use Rattle.td_keeper.proofs.Obeying.{submit_as_obeys, submit_as_owns}
use Rattle.td_keeper.proofs.Owning.{own_home}
use Rattle.td_keeper.proofs.engine.EngineObey.submit_as.Goals as goal

pub returns-clause-submitted : goal.returns-clause-submitted
returns-clause-submitted g c =
    let old : Keeping g.row.D.Denot = c.self.inside.keeper in
    let new = c.submit_as.new.self in
    let e = c.submit_as.ensures in
    subst (λ (k : KeeperAndHall g.row.D.Denot). Obeys g.D.Disk.view g.L.Law.answers (SubmitAs c.args.request c.args.batch) (submitted_as c.submit_as.result) k.keeping new) c.self.view_is (submit_as_obeys g.D.Disk.view g.L.Law.answers old new c.args.request c.args.batch c.submit_as.result e.answered e.refused e.repeated e.back e.crash e.device)

pub invariant_of-self : goal.invariant_of-self
invariant_of-self g c =
    let S = c.self.inside.hall in
    let old = c.self.inside.keeper in
    let new = c.submit_as.new.self in
    let e = c.submit_as.ensures in
    let home = c.self.invariant.0 in
    let own : IsOwn new S = submit_as_owns g.D.Disk.view g.L.Law.answers old new c.each_is_kept.ensures S home.own c.args.request c.args.batch c.submit_as.result e.answered e.refused in (
      own_home old new S home own,
      ap (λ plan. first_lack (g.C.Closures.stored c.self.inside.calls.now) (vertices plan)) (sym own.plan ∙ home.own.plan)
          ∙ c.self.invariant.1,
    )
