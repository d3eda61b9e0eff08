use Rattle.std.proofs.Common.{[], ◌∷◌}
use Rattle.td_store.specs.standing.Standing.{submission}
use Rattle.td_keeper.proofs.Leaving.{leaves_as_it_was}
use Rattle.td_keeper.proofs.keeper.Keeper.submit_as.Goals as goal

pub returns-in-Some-clause-crash : goal.returns-in-Some-clause-crash
returns-in-Some-clause-crash g c old =
    leaves_as_it_was g.D.Disk.view g.met.D.Disk.only_now g.L.Law.answers c.told_in_parts.ensures.together c.standings_advance.ensures.not_yet c.self.view_is c.self.invariant.2
    (submission c.args.request c.args.batch ∷ []) old

pub returns-then-not-is_new-clause-crash : goal.returns-then-not-is_new-clause-crash
returns-then-not-is_new-clause-crash g c old =
    leaves_as_it_was g.D.Disk.view g.met.D.Disk.only_now g.L.Law.answers c.told_in_parts.ensures.together c.standings_advance.ensures.not_yet c.self.view_is c.self.invariant.2
    (submission c.args.request c.args.batch ∷ []) old
