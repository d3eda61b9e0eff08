use Rattle.std.proofs.Common.{subst, arith}
use Rattle.td_keeper.specs.Keeping.{Keeping, IsKeeping}
use Rattle.td_keeper.proofs.keeper.Keeper.place_of_cut.Goals as goal

pub overflow_add-base : goal.overflow_add-base
overflow_add-base g c =
    let keeping = subst (λ (q : Keeping g.row.D.Denot). IsKeeping q g.L.Law.answers) c.self.view_is c.self.invariant.1 in
    omega (arith, keeping.released, keeping.small, c.base-base.ensures.epoch)
