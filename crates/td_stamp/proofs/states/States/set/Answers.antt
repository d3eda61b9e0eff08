use Rattle.std.proofs.Common.{◌≡◌, ℕ, refl, sym, ap, ◌∙◌, subst, Bool, true, false, cond}
use Rattle.std.specs.Prelude.{Option, Some, None, is_some}
use Rattle.std.specs.HashMap as hash
use Rattle.std.specs.List.{list_any}
use Rattle.std.specs.BTreeMap.{is_at}
use Rattle.td_stamp.specs.declared.values.State.{State}
use Rattle.td_stamp.specs.Orders.{state_key_cmp}
use Rattle.td_stamp.specs.ProvedOrders.{places_tied}
use Rattle.td_stamp.specs.States.{AreStates, same_place, state_of, with_state, listed}
use Rattle.td_stamp.proofs.Placed.{still, place_is, looked_up, in_order, set_where_kept, set_where_none, listed_alike}
use Rattle.td_stamp.proofs.states.States.set.Goals as goal

-- a place where a state is put is one at which there is a state
added : (b d : Bool) (s : Option State) (x : State) (held : Bool) → b ≡ d → held ≡ is_some s → cond b true held ≡ is_some (cond d (Some x) s)
added true true s x held e h = refl
added false false s x held e h = h
added true false s x held e h = cc
added false true s x held e h = cc

-- a state is put and taken away again, where there was none
back : (d : Bool) (s : Option State) (x : State) → (d ≡ true → s ≡ None) → cond d None (cond d (Some x) s) ≡ s
back true s x f = sym (f refl)
back false s x f = refl

-- whether there was one
was_there : (s old : Option State) → old ≡ s → is_some old ≡ true → is_some s ≡ true
was_there s old e h = ap is_some (sym e) ∙ h

none_if : (s : Option State) → is_some s ≡ false → s ≡ None
none_if None h = refl
none_if (Some x) h = cc

pub invariant_of-self-then-is_some : goal.invariant_of-self-then-is_some
invariant_of-self-then-is_some c =
    let place : ℕ × ℕ = (c.args.vertex, c.args.key) in
    let find : ℕ × ℕ → Option State = hash.get same_place c.self.inside.kept in
    let had : is_some (find place) ≡ true = was_there (find place) c.in_ok-before.before c.in_ok-before.ensures.old (sym c.is_some.ensures ∙ c.if-is_some.true) in (
      c.self.invariant.0,
      λ q.
          still _ (same_place place q) (find q) c.args.state _ (places_tied place q) (c.self.invariant.1 q) (λ h. ap (λ r. is_some (find r)) (sym (place_is place q h)) ∙ had)
          ∙ ap is_some (sym (c.in_ok-before.ensures.updates.0 q)),
    )

pub returns-then-is_some-clause-ok : goal.returns-then-is_some-clause-ok
returns-then-is_some-clause-ok c =
    let place : ℕ × ℕ = (c.args.vertex, c.args.key) in
    let find : ℕ × ℕ → Option State = hash.get same_place c.self.inside.kept in
    let had : is_some (find place) ≡ true = was_there (find place) c.in_ok-before.before c.in_ok-before.ensures.old (sym c.is_some.ensures ∙ c.if-is_some.true) in
    sym (set_where_kept find (hash.get same_place c.insert.new.self) place c.args.state c.in_ok-before.ensures.updates.0 c.self.inside.order.keys c.self.invariant.0 (c.self.invariant.1 place ∙ had))
    ∙ ap (λ s. with_state s c.args.vertex c.args.key c.args.state) c.self.view_is

-- after a refusal the same states are found
restored : (c : goal.After-into) (q : ℕ × ℕ) → hash.get same_place c.remove.new.self q ≡ hash.get same_place c.self.inside.kept q
restored c q =
    let place : ℕ × ℕ = (c.args.vertex, c.args.key) in
    let find : ℕ × ℕ → Option State = hash.get same_place c.self.inside.kept in
    let missing : find place ≡ None = none_if (find place) (sym (c.self.invariant.1 place) ∙ c.in-Err.ensures.absent) in
    c.remove.ensures.updates.0 q ∙ ap (λ s. cond (same_place place q) None s) (c.in_ok-before.ensures.updates.0 q)
    ∙ back (same_place place q) (find q) c.args.state (λ h. ap find (sym (place_is place q h)) ∙ missing)

pub invariant_of-self-in-Err : goal.invariant_of-self-in-Err
invariant_of-self-in-Err c =
    (c.insert-2.ensures.ordered, λ q. ap (λ ks. list_any (is_at (state_key_cmp q)) ks) c.in-Err.ensures.err ∙ c.self.invariant.1 q ∙ ap is_some (sym (restored c q)))

pub returns-in-Err-clause-err : goal.returns-in-Err-clause-err
returns-in-Err-clause-err c =
    ap (λ ks. listed ks (hash.get same_place c.remove.new.self)) c.in-Err.ensures.err
    ∙ listed_alike c.self.inside.order.keys (hash.get same_place c.self.inside.kept) (hash.get same_place c.remove.new.self) (restored c) ∙ c.self.view_is

pub invariant_of-self-in_default : goal.invariant_of-self-in_default
invariant_of-self-in_default c =
    let place : ℕ × ℕ = (c.args.vertex, c.args.key) in (
      c.insert-2.ensures.ordered,
      λ q.
          c.in_default.ensures.updates.0 q ∙ added _ (same_place place q) (hash.get same_place c.self.inside.kept q) c.args.state _ (places_tied place q) (c.self.invariant.1 q)
          ∙ ap is_some (sym (c.in_ok-before.ensures.updates.0 q)),
    )

pub returns-clause-ok : goal.returns-clause-ok
returns-clause-ok c =
    let place : ℕ × ℕ = (c.args.vertex, c.args.key) in
    let after : ℕ × ℕ → Option State = hash.get same_place c.insert.new.self in
    let none : is_some (hash.get same_place c.self.inside.kept place) ≡ false = ap is_some (sym c.in_ok-before.ensures.old) ∙ sym c.is_some.ensures ∙ c.if-is_some.false in
    ap (λ ks. listed ks after) c.in_default.ensures.keys
    ∙ sym (set_where_none (hash.get same_place c.self.inside.kept) after place c.args.state c.in_ok-before.ensures.updates.0 c.self.inside.order.keys (c.self.invariant.1 place ∙ none))
    ∙ ap (λ s. with_state s c.args.vertex c.args.key c.args.state) c.self.view_is

-- what was found at the place
pub returns-then-is_some-clause-before : goal.returns-then-is_some-clause-before
returns-then-is_some-clause-before c =
    let place : ℕ × ℕ = (c.args.vertex, c.args.key) in
    c.in_ok-before.ensures.old
    ∙ sym (ap (λ s. state_of s c.args.vertex c.args.key) (sym c.self.view_is) ∙ looked_up (hash.get same_place c.self.inside.kept) place c.self.inside.order.keys (c.self.invariant.1 place))

pub returns-clause-before : goal.returns-clause-before
returns-clause-before c =
    let place : ℕ × ℕ = (c.args.vertex, c.args.key) in
    c.in_ok-before.ensures.old
    ∙ sym (ap (λ s. state_of s c.args.vertex c.args.key) (sym c.self.view_is) ∙ looked_up (hash.get same_place c.self.inside.kept) place c.self.inside.order.keys (c.self.invariant.1 place))

-- the states stand in order
pub returns-in_err-before-clause-ordered : goal.returns-in_err-before-clause-ordered
returns-in_err-before-clause-ordered c = subst AreStates c.self.view_is (in_order c.self.inside.order.keys (hash.get same_place c.self.inside.kept) c.self.invariant.0)

pub returns-then-is_some-clause-ordered : goal.returns-then-is_some-clause-ordered
returns-then-is_some-clause-ordered c = subst AreStates c.self.view_is (in_order c.self.inside.order.keys (hash.get same_place c.self.inside.kept) c.self.invariant.0)

pub returns-in-Err-clause-ordered : goal.returns-in-Err-clause-ordered
returns-in-Err-clause-ordered c = subst AreStates c.self.view_is (in_order c.self.inside.order.keys (hash.get same_place c.self.inside.kept) c.self.invariant.0)

pub returns-clause-ordered : goal.returns-clause-ordered
returns-clause-ordered c = subst AreStates c.self.view_is (in_order c.self.inside.order.keys (hash.get same_place c.self.inside.kept) c.self.invariant.0)
