use Rattle.std.proofs.Common.{◌-◌, arith}
use Rattle.td_core.proofs.take.picked.Goals as goal

pub returns-in-Some : goal.returns-in-Some
returns-in-Some c =
    (c.place_of-place.result - c.len-messages.result, c.in-Some.ensures, λ ready are some. let at = c.place_of-place.ensures ready are some in omega (arith, at, c.if-place-messages.false, c.len-messages.ensures))
