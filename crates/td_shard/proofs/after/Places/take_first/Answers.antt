use Rattle.std.proofs.Common.{◌≡◌, ◌∷◌, ◌++◌, drop, [], sym, ◌∙◌, subst}
use Rattle.std.specs.Prelude.{MatchOption}
use Rattle.td_stamp.specs.Bag.{set_of}
use Rattle.td_stamp.specs.Orders.{state_key_cmp}
use Rattle.td_stamp.specs.ProvedOrders.{state_key_total, state_key_apart}
use Rattle.td_shard.proofs.TwoLists.{Takes, sorted_rest, base_alone, base_less, base_same, left_less, left_alone}
use Rattle.td_shard.proofs.after.Places.take_first.Goals as goal

pub invariant_of-self : goal.invariant_of-self
invariant_of-self c = (sorted_rest state_key_cmp state_key_total state_key_apart c.place_laws.ensures c.self.inside.base c.next.result c.next.new.self c.self.invariant.0 c.next.ensures.steps, c.self.invariant.1)

pub invariant_of-self-in-Equal : goal.invariant_of-self-in-Equal
invariant_of-self-in-Equal c = (
  sorted_rest state_key_cmp state_key_total state_key_apart c.place_laws.ensures c.self.inside.base c.next-in-Equal-2.result c.next-in-Equal-2.new.self c.self.invariant.0 c.next-in-Equal-2.ensures.steps,
  sorted_rest state_key_cmp state_key_total state_key_apart c.place_laws.ensures c.self.inside.left c.next-in-Equal.result c.next-in-Equal.new.self c.self.invariant.1 c.next-in-Equal.ensures.steps,
)

pub invariant_of-self-in-Greater : goal.invariant_of-self-in-Greater
invariant_of-self-in-Greater c = (c.self.invariant.0, sorted_rest state_key_cmp state_key_total state_key_apart c.place_laws.ensures c.self.inside.left c.next-in-Greater.result c.next-in-Greater.new.self c.self.invariant.1 c.next-in-Greater.ensures.steps)

pub invariant_of-self-in-Some-None : goal.invariant_of-self-in-Some-None
invariant_of-self-in-Some-None c = (sorted_rest state_key_cmp state_key_total state_key_apart c.place_laws.ensures c.self.inside.base c.next-in-Some-None.result c.next-in-Some-None.new.self c.self.invariant.0 c.next-in-Some-None.ensures.steps, c.self.invariant.1)

pub invariant_of-self-in-None-default : goal.invariant_of-self-in-None-default
invariant_of-self-in-None-default c = (c.self.invariant.0, sorted_rest state_key_cmp state_key_total state_key_apart c.place_laws.ensures c.self.inside.left c.next-in-None-default.result c.next-in-None-default.new.self c.self.invariant.1 c.next-in-None-default.ensures.steps)

pub returns-in-Less : goal.returns-in-Less
returns-in-Less c =
    subst (λ l. Takes state_key_cmp state_key_total state_key_apart c.place_laws.ensures l c.next.result (set_of state_key_cmp (c.next.new.self ++ c.self.inside.left))) c.self.view_is
    (base_less state_key_cmp state_key_total state_key_apart c.place_laws.ensures c.self.inside.base c.self.inside.left c.self.invariant.0 c.self.invariant.1
    c.in-Some-Some.base (drop 1 c.self.inside.base) c.in-Some-Some.ensures c.next.result c.next.new.self c.next.ensures.steps
    c.in-Some-Some.left (drop 1 c.self.inside.left) c.in-Some-Some.ensures' (sym c.cmp.ensures ∙ c.in-Less.is))

pub returns-in-Equal : goal.returns-in-Equal
returns-in-Equal c =
    subst (λ l. Takes state_key_cmp state_key_total state_key_apart c.place_laws.ensures l c.next-in-Equal-2.result (set_of state_key_cmp (c.next-in-Equal-2.new.self ++ c.next-in-Equal.new.self))) c.self.view_is
    (base_same state_key_cmp state_key_total state_key_apart c.place_laws.ensures c.self.inside.base c.self.inside.left c.self.invariant.0 c.self.invariant.1
    c.in-Some-Some.base (drop 1 c.self.inside.base) c.in-Some-Some.ensures c.next-in-Equal-2.result c.next-in-Equal-2.new.self c.next-in-Equal-2.ensures.steps
    c.in-Some-Some.left (drop 1 c.self.inside.left) c.in-Some-Some.ensures' (sym c.cmp.ensures ∙ c.in-Equal.is)
    c.next-in-Equal.result c.next-in-Equal.new.self c.next-in-Equal.ensures.steps)

pub returns-in-Greater : goal.returns-in-Greater
returns-in-Greater c =
    subst (λ l. Takes state_key_cmp state_key_total state_key_apart c.place_laws.ensures l c.next-in-Greater.result (set_of state_key_cmp (c.self.inside.base ++ c.next-in-Greater.new.self))) c.self.view_is
    (left_less state_key_cmp state_key_total state_key_apart c.place_laws.ensures c.self.inside.base c.self.inside.left c.self.invariant.0 c.self.invariant.1
    c.in-Some-Some.base (drop 1 c.self.inside.base) c.in-Some-Some.ensures c.in-Some-Some.left (drop 1 c.self.inside.left) c.in-Some-Some.ensures' (sym c.cmp.ensures ∙ c.in-Greater.is)
    c.next-in-Greater.result c.next-in-Greater.new.self c.next-in-Greater.ensures.steps)

pub returns-in-Some-None : goal.returns-in-Some-None
returns-in-Some-None c =
    subst (λ l. Takes state_key_cmp state_key_total state_key_apart c.place_laws.ensures l c.next-in-Some-None.result (set_of state_key_cmp (c.next-in-Some-None.new.self ++ c.self.inside.left))) c.self.view_is
    (base_alone state_key_cmp state_key_total state_key_apart c.place_laws.ensures c.self.inside.base c.self.inside.left c.self.invariant.0 c.self.invariant.1
    c.in-Some-None.field-0-0 (drop 1 c.self.inside.base) c.in-Some-None.ensures c.next-in-Some-None.result c.next-in-Some-None.new.self c.next-in-Some-None.ensures.steps c.in-Some-None.ensures')

pub returns-in-None-default : goal.returns-in-None-default
returns-in-None-default c =
    subst (λ l. Takes state_key_cmp state_key_total state_key_apart c.place_laws.ensures l c.next-in-None-default.result (set_of state_key_cmp (c.self.inside.base ++ c.next-in-None-default.new.self))) c.self.view_is
    (left_alone state_key_cmp state_key_total state_key_apart c.place_laws.ensures c.self.inside.base c.self.inside.left c.self.invariant.0 c.self.invariant.1
    (subst (λ r. MatchOption r (c.self.inside.base ≡ []) (λ p. c.self.inside.base ≡ p ∷ drop 1 c.self.inside.base)) c.in-None-default.is-0 c.first.ensures)
    c.next-in-None-default.result c.next-in-None-default.new.self c.next-in-None-default.ensures.steps)
