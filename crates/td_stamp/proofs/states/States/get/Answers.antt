use Rattle.std.proofs.Common.{ℕ, sym, ap, ◌∙◌}
use Rattle.std.specs.HashMap as hash
use Rattle.td_stamp.specs.States.{same_place, state_of}
use Rattle.td_stamp.proofs.Placed.{looked_up}
use Rattle.td_stamp.proofs.states.States.get.Goals as goal

-- src/states.rt:60:5
pub returns : goal.returns
returns c =
    let place : ℕ × ℕ = (c.args.vertex, c.args.key) in
    c.copied.ensures ∙ c.get.ensures.value
    ∙ sym (ap (λ s. state_of s c.args.vertex c.args.key) (sym c.self.view_is) ∙ looked_up (hash.get same_place c.self.inside.kept) place c.self.inside.order.keys (c.self.invariant.1 place))
