use Rattle.std.proofs.Common.{ℕ, ◌≡◌, ◌++◌, ◌∷◌, ap, sym, ◌∙◌, subst, cond, rules}
use Rattle.std.specs.Prelude.{Some, is_some}
use Rattle.std.specs.BTreeSet as sorted
use Rattle.std.specs.HashMap as hash
use Rattle.std.specs.Map.{lookup, keys_of}
use Rattle.std.proofs.lemmas.Iterator.{YieldsList-from_slice, YieldsList-from_map_by}
use Rattle.std.proofs.lemmas.Iterator.Adapters.{fact_from_collect}
use Rattle.std.proofs.lemmas.Result.{IfOk-at_ok}
use Rattle.td_stamp.specs.Orders.{state_key_cmp}
use Rattle.td_stamp.specs.ProvedOrders.{state_key_total, state_key_apart}
use Rattle.td_stamp.specs.States.{AreStates, listed, same_place}
use Rattle.td_stamp.proofs.Listed.{all_listed, listed_at_item}
use Rattle.td_stamp.proofs.Placed.{is_there, relisted}
use Rattle.td_stamp.proofs.FoundBehind.{found_behind}
use Rattle.td_stamp.proofs.SameSets.{same_members}
use Rattle.td_stamp.proofs.Unordered.{has_any, told}
use Rattle.td_stamp.proofs.ordered.OrderedStates.to_states.Goals as goal

pub loop-place-init : goal.loop-place-init
loop-place-init c q = ap (lookup _) (c.in_ok-kept.ensures.empty)

pub loop-place-preserved : goal.loop-place-preserved
loop-place-preserved c q =
    let before = c.loop-place.yielded in
    let p = c.in-Some.place in
    let s = c.in-Some.state in
    let rest = c.next.new.self in
    let whole : c.args.self.now ≡ before ++ (p, s) ∷ rest =
    listed_at_item c.args.self.now before c.into_iter-place-iterator.result c.loop-place.place-iterator rest c.next.result (p, s)
    (c.into_iter-place-iterator.ensures.into_iter_gives ∙ c.list-place-items.ensures.all) c.loop-place.yielded_by c.in-Some.ensures.steps in
    c.in_ok-insert.ensures.updates.0 q
    ∙ (ap (cond _ (Some s)) (c.loop-place.invariant q)
    ∙ found_behind q p s before rest (subst AreStates whole c.list-place-items.ensures.ordered))

-- at the end: the places are those of all states
made : (c : goal.In-None) → sorted.IsFromIterResult state_key_cmp (keys_of c.args.self.now) c.in_ok-order.order
made c =
    IfOk-at_ok _ c.in_ok-order.was
    (fact_from_collect (λ xs n. sorted.IsFromIterResult state_key_cmp xs n) _ c.collect.ensures.ran
    (YieldsList-from_map_by _ (λ x. x) (λ e. e.0) (YieldsList-from_slice c.args.self.now cc) c.map.ensures.closure (λ x r q k. search rules)))

-- and each is found
found : (c : goal.In-None) (q : ℕ × ℕ) → hash.get same_place c.loop-place.kept q ≡ lookup (is_there q) c.args.self.now
found c q =
    c.loop-place.invariant q
    ∙ ap (lookup (is_there q))
    (all_listed c.args.self.now c.loop-place.yielded c.into_iter-place-iterator.result c.loop-place.place-iterator (c.into_iter-place-iterator.ensures.into_iter_gives ∙ c.list-place-items.ensures.all)
    c.loop-place.yielded_by c.in-None.ensures.steps.0)

pub invariant_of-result : goal.invariant_of-result
invariant_of-result c = ((made c).1, λ q. (made c).0 q ∙ (sym (has_any q (keys_of c.args.self.now)) ∙ (told q c.args.self.now ∙ ap is_some (sym (found c q)))))

pub returns : goal.returns
returns c =
    let places = same_members state_key_cmp state_key_total state_key_apart c.in_ok-order.order.keys (keys_of c.args.self.now) (made c).1 c.list-place-items.ensures.ordered
    (λ q. has_any q c.in_ok-order.order.keys ∙ ((made c).0 q ∙ sym (has_any q (keys_of c.args.self.now)))) in
    ap (λ ps. listed ps (hash.get same_place c.loop-place.kept)) places ∙ relisted c.args.self.now (hash.get same_place c.loop-place.kept) c.list-place-items.ensures.ordered (found c)
