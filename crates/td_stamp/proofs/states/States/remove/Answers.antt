use Rattle.std.proofs.Common.{◌≡◌, ℕ, refl, sym, ap, ◌∙◌, Bool, true, false, cond}
use Rattle.std.specs.Prelude.{Option, None, is_some}
use Rattle.std.specs.HashMap as hash
use Rattle.td_stamp.specs.declared.values.State.{State}
use Rattle.td_stamp.specs.States.{same_place, state_of, without_state}
use Rattle.td_stamp.proofs.Placed.{looked_up, taken_away}
use Rattle.td_stamp.specs.ProvedOrders.{places_tied}
use Rattle.td_stamp.proofs.states.States.remove.Goals as goal

-- a place that is taken away is no place at which there is a state
gone : (b d : Bool) (s : Option State) (held : Bool) → b ≡ d → held ≡ is_some s → cond b false held ≡ is_some (cond d None s)
gone true true s held e h = refl
gone false false s held e h = h
gone true false s held e h = cc
gone false true s held e h = cc

pub invariant_of-self : goal.invariant_of-self
invariant_of-self c = (
  c.remove.ensures.ordered,
  λ q.
      let place : ℕ × ℕ = (c.args.vertex, c.args.key) in
      c.remove.ensures.updates.0 q
      ∙ gone _ (same_place place q) (hash.get same_place c.self.inside.kept q) _ (places_tied place q) (c.self.invariant.1 q)
      ∙ ap is_some (sym (c.remove-2.ensures.updates.0 q)),
)

pub returns-clause-removed : goal.returns-clause-removed
returns-clause-removed c =
    let place : ℕ × ℕ = (c.args.vertex, c.args.key) in
    c.remove-2.ensures.value
    ∙ sym (ap (λ s. state_of s c.args.vertex c.args.key) (sym c.self.view_is) ∙ looked_up (hash.get same_place c.self.inside.kept) place c.self.inside.order.keys (c.self.invariant.1 place))

pub returns-clause-rest : goal.returns-clause-rest
returns-clause-rest c =
    let place : ℕ × ℕ = (c.args.vertex, c.args.key) in
    rw (c.remove.ensures.keys) (
    sym (taken_away (hash.get same_place c.self.inside.kept) (hash.get same_place c.remove-2.new.self) place c.remove-2.ensures.updates.0 c.self.inside.order.keys c.self.invariant.0)
    ∙ ap (λ s. without_state s c.args.vertex c.args.key) c.self.view_is)
