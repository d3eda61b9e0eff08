use Rattle.std.proofs.Common.{◌≡◌, ℕ, sym, ap, ◌∙◌, true, false, cond}
use Rattle.std.specs.Prelude.{Option, is_some}
use Rattle.std.specs.HashMap as hash
use Rattle.td_stamp.specs.declared.values.State.{State}
use Rattle.td_stamp.specs.States.{same_place, state_of, with_state}
use Rattle.td_stamp.specs.ProvedOrders.{places_tied}
use Rattle.td_stamp.proofs.Placed.{still, place_is, looked_up, set_where_kept}
use Rattle.td_stamp.proofs.states.States.replace.Goals as goal

pub invariant_of-self : goal.invariant_of-self
invariant_of-self c =
    let place : ℕ × ℕ = (c.args.vertex, c.args.key) in
    let find : ℕ × ℕ → Option State = hash.get same_place c.self.inside.kept in
    let had : is_some (find place) ≡ true = sym c.contains_key.ensures ∙ c.if-contains_key.true in (
      c.self.invariant.0,
      λ q.
          still _ (same_place place q) (find q) c.args.state _ (places_tied place q) (c.self.invariant.1 q) (λ h. ap (λ r. is_some (find r)) (sym (place_is place q h)) ∙ had)
          ∙ ap is_some (sym (c.in-Ok.ensures.updates.0 q)),
    )

pub returns-in-Ok : goal.returns-in-Ok
returns-in-Ok c =
    let place : ℕ × ℕ = (c.args.vertex, c.args.key) in
    let states = c.args.self.now in
    let find : ℕ × ℕ → Option State = hash.get same_place c.self.inside.kept in
    let had : is_some (find place) ≡ true = sym c.contains_key.ensures ∙ c.if-contains_key.true in
    let there : is_some (state_of states c.args.vertex c.args.key) ≡ true =
    ap is_some (ap (λ s. state_of s c.args.vertex c.args.key) (sym c.self.view_is) ∙ looked_up find place c.self.inside.order.keys (c.self.invariant.1 place)) ∙ had in
    sym (set_where_kept find (hash.get same_place c.insert.new.self) place c.args.state c.in-Ok.ensures.updates.0 c.self.inside.order.keys c.self.invariant.0 (c.self.invariant.1 place ∙ had))
    ∙ ap (λ s. with_state s c.args.vertex c.args.key c.args.state) c.self.view_is
    ∙ sym (ap (λ b. cond b (with_state states c.args.vertex c.args.key c.args.state) states) there)

pub returns-else-contains_key : goal.returns-else-contains_key
returns-else-contains_key c =
    let place : ℕ × ℕ = (c.args.vertex, c.args.key) in
    let states = c.args.self.now in
    let find : ℕ × ℕ → Option State = hash.get same_place c.self.inside.kept in
    let none : is_some (state_of states c.args.vertex c.args.key) ≡ false =
    ap is_some (ap (λ s. state_of s c.args.vertex c.args.key) (sym c.self.view_is) ∙ looked_up find place c.self.inside.order.keys (c.self.invariant.1 place))
    ∙ (sym c.contains_key.ensures ∙ c.if-contains_key.false) in
    sym (ap (λ b. cond b (with_state states c.args.vertex c.args.key c.args.state) states) none)
