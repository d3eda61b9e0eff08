use Rattle.std.proofs.Common.{subst}
use Rattle.td_keeper.specs.Keeping.{Keeping, IsKeeping}
use Rattle.td_keeper.specs.Halls.{last_passed}
use Rattle.td_keeper.proofs.Collecting.{meant_up_to, collected_up_to, is_last}
use Rattle.td_keeper.proofs.keeper.Keeper.collects_what_is_meant.Goals as goal

pub returns-clause-outs : goal.returns-clause-outs
returns-clause-outs g c =
    let keeping = subst (λ (q : Keeping g.row.D.Denot). IsKeeping q g.L.Law.answers) c.self.view_is c.self.invariant.1 in
    meant_up_to g.L.Law.answers c.run_joins.ensures.states c.run_joins.ensures.outs c.args.self.now keeping (g.H.AnyHall.state c.args.hall.now) c.requires c.each_is_sound.ensures.sound

pub returns-clause-far : goal.returns-clause-far
returns-clause-far g c =
    let keeping = subst (λ (q : Keeping g.row.D.Denot). IsKeeping q g.L.Law.answers) c.self.view_is c.self.invariant.1 in
    let passed = c.base_has_passed.ensures (g.H.AnyHall.state c.args.hall.now) c.each_is_sound.ensures.reached in
    collected_up_to g.L.Law.answers c.run_joins.ensures.states c.run_joins.ensures.outs c.args.self.now keeping (g.H.AnyHall.state c.args.hall.now) c.requires c.each_is_sound.ensures.sound (last_passed (g.H.AnyHall.state c.args.hall.now))
    (is_last g.L.Law.answers c.run_joins.ensures.states c.run_joins.ensures.outs c.args.self.now keeping (g.H.AnyHall.state c.args.hall.now) c.requires c.each_is_sound.ensures.sound passed)
