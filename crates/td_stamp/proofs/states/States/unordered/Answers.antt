use Rattle.std.proofs.Common.{◌≡◌, ℕ, ap, sym, ◌∙◌, subst, get_or}
use Rattle.std.specs.Prelude.{Option, Some}
use Rattle.std.specs.HashMap as hash
use Rattle.std.specs.List.{All}
use Rattle.std.specs.Map.{keys_of}
use Rattle.td_stamp.specs.declared.values.State.{State}
use Rattle.td_stamp.specs.Bag.{set_of}
use Rattle.td_stamp.specs.Orders.{state_key_cmp}
use Rattle.td_stamp.specs.States.{StateList, same_place, state_of}
use Rattle.td_stamp.proofs.Placed.{looked_up, places_listed}
use Rattle.td_stamp.proofs.Unordered.{places_of_all}
use Rattle.td_stamp.proofs.states.States.unordered.Goals as goal

pub returns-clause-found : goal.returns-clause-found
returns-clause-found c =
    let find : ℕ × ℕ → Option State = hash.get same_place c.self.inside.kept in
    let entries : StateList = c.self.inside.kept.entries in
    subst (All (λ e. state_of c.args.self.now e.0.0 e.0.1 ≡ Some e.1)) (sym c.iter.ensures.rest)
    (λ k d within.
    let p : ℕ × ℕ = (get_or entries k d).0 in
    sym (ap (λ s. state_of s p.0 p.1) c.self.view_is) ∙ (looked_up find p c.self.inside.order.keys (c.self.invariant.1 p) ∙ c.iter.ensures.found k d within))

pub returns-clause-all : goal.returns-clause-all
returns-clause-all c =
    let find : ℕ × ℕ → Option State = hash.get same_place c.self.inside.kept in
    let places = c.self.inside.order.keys in
    ap (λ es. set_of state_key_cmp (keys_of es)) c.iter.ensures.rest
    ∙ (places_of_all places c.self.inside.kept.entries c.iter-in_order.ensures.ordered c.self.invariant.1
    ∙ (sym (places_listed places find) ∙ ap keys_of c.self.view_is))
