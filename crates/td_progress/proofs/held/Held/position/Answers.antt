use Rattle.std.proofs.Common.{sym, ap, subst}
use Rattle.std.specs.Map.{keys_of}
use Rattle.td_reach.specs.Paths.{IsOf}
use Rattle.td_progress.specs.Held.{class_of, IsLaidOut}
use Rattle.td_progress.proofs.HeldCounts.{other_epoch}
use Rattle.td_progress.proofs.HeldSteps.{same_position}
use Rattle.td_progress.proofs.held.Held.position.Goals as goal

pub position-requires-clause-class : goal.position-requires-clause-class
position-requires-clause-class c = subst (IsOf c.args.ways.now) (sym c.class_of.ensures) (other_epoch c.args.ways.now c.args.stamp.now 0 c.requires.of_plan)

pub position-requires-clause-zeroth : goal.position-requires-clause-zeroth
position-requires-clause-zeroth c = ap (λ s. s.time.epoch) c.class_of.ensures

pub position-requires-clause-laid : goal.position-requires-clause-laid
position-requires-clause-laid c = subst (λ ks. IsLaidOut c.args.ways.now (keys_of ks)) (sym c.self.view_is) c.requires.kept.laid

pub returns : goal.returns
returns c =
    same_position (class_of c.args.stamp.now) c.class_of.result c.args.self.now c.self.inside.chains.entries c.position.result (sym c.class_of.ensures) (sym c.self.view_is) c.position.ensures
