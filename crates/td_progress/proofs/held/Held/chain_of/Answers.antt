use Rattle.std.proofs.Common.{◌∙◌, sym, ap, subst}
use Rattle.std.specs.List.{IsDistinct}
use Rattle.std.specs.Map.{keys_of}
use Rattle.td_reach.specs.Paths.{IsOf}
use Rattle.td_progress.specs.Bag.{is_stamp}
use Rattle.td_progress.specs.Held.{chain_at, IsLaidOut}
use Rattle.td_progress.proofs.HeldCounts.{other_epoch}
use Rattle.td_progress.proofs.HeldSteps.{gaps_found}
use Rattle.td_progress.proofs.held.Held.chain_of.Goals as goal

pub position-index-requires-clause-class : goal.position-index-requires-clause-class
position-index-requires-clause-class c = subst (IsOf c.args.ways.now) (sym c.class_of-class.ensures) (other_epoch c.args.ways.now c.args.stamp.now 0 c.requires.of_plan)

pub position-index-requires-clause-zeroth : goal.position-index-requires-clause-zeroth
position-index-requires-clause-zeroth c = ap (λ s. s.time.epoch) c.class_of-class.ensures

pub position-index-requires-clause-laid : goal.position-index-requires-clause-laid
position-index-requires-clause-laid c = subst (λ ks. IsLaidOut c.args.ways.now (keys_of ks)) (sym c.self.view_is) c.requires.kept.laid

pub returns-clause-is : goal.returns-clause-is
returns-clause-is c =
    let es = c.self.inside.chains.entries in
    let once = subst (λ ks. IsDistinct is_stamp (keys_of ks)) (sym c.self.view_is) c.requires.kept.once in
    c.chain_in.ensures ∙ gaps_found c.class_of-class.result es c.position-index.result once c.position-index.ensures ∙ (λ i. chain_at (c.class_of-class.ensures i) (c.self.view_is i))
