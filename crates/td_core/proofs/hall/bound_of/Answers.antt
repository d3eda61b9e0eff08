use Rattle.std.proofs.Common.{◌≡◌, ◌-◌, Some, length, subst}
use Rattle.std.specs.List.{slice_get}
use Rattle.td_core.proofs.RouteLists.{innermost_bound}
use Rattle.td_core.proofs.hall.bound_of.Goals as goal

pub returns-in-Some : goal.returns-in-Some
returns-in-Some c =
    let x = c.in-Some.innermost.now in
    innermost_bound c.args.vertex.now.loops x (subst (λ l. Some x ≡ slice_get l (length l - 1)) c.loops.ensures c.in-Some.ensures.value)
