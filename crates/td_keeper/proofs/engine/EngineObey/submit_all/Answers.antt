use Rattle.std.proofs.Common.{◌+◌, refl, sym, ap, ◌∙◌, subst}
use Rattle.td_plan.specs.Blocks.{vertices}
use Rattle.td_calls.specs.Fits.{first_lack}
use Rattle.td_store.specs.standing.Standing.{last_epoch}
use Rattle.td_keeper.specs.declared.command.Command.TheVariants.{SubmitAll}
use Rattle.td_keeper.specs.Keeping.{Keeping}
use Rattle.td_keeper.specs.Halls.{IsOwn, KeeperAndHall}
use Rattle.td_keeper.specs.Driven.{Obeys, submitted_all}
use Rattle.td_keeper.proofs.Obeying.{submit_all_obeys, submit_all_owns}
use Rattle.td_keeper.proofs.Owning.{own_home}
use Rattle.td_keeper.proofs.engine.EngineObey.submit_all.Goals as goal

pub returns-clause-submitted : goal.returns-clause-submitted
returns-clause-submitted g c =
    let old : Keeping g.row.D.Denot = c.self.inside.keeper in
    let new = c.submit_all.new.self in
    let e = c.submit_all.ensures in
    subst (λ (k : KeeperAndHall g.row.D.Denot). Obeys g.D.Disk.view g.L.Law.answers (SubmitAll c.args.group) (submitted_all (last_epoch new.standing + 1) c.submit_all.result) k.keeping new) c.self.view_is (submit_all_obeys g.D.Disk.view g.L.Law.answers old new c.args.group c.submit_all.result (last_epoch new.standing + 1) refl e.submitted e.refused e.back e.all_or_none e.crash e.device)

pub invariant_of-self : goal.invariant_of-self
invariant_of-self g c =
    let S = c.self.inside.hall in
    let old = c.self.inside.keeper in
    let new = c.submit_all.new.self in
    let e = c.submit_all.ensures in
    let home = c.self.invariant.0 in
    let own : IsOwn new S = submit_all_owns g.D.Disk.view g.L.Law.answers old new c.each_is_kept.ensures S home.own c.args.group c.submit_all.result (last_epoch new.standing + 1) e.submitted e.refused in (
      own_home old new S home own,
      ap (λ plan. first_lack (g.C.Closures.stored c.self.inside.calls.now) (vertices plan)) (sym own.plan ∙ home.own.plan)
          ∙ c.self.invariant.1,
    )
