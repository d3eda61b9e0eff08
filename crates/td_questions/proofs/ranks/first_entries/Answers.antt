use Rattle.std.proofs.Common.{◌≡◌, ◌==◌, true, [], Result, Ok, Err, IfOk, Vec, Global, sym, ap, ◌∙◌, arith}
use Rattle.std.proofs.lemmas.List.Elements.{recursion_from_All}
use Rattle.std.proofs.lemmas.Bool.Decides.{nat_tests}
use Rattle.td_stamp.specs.Bag.{set_insert}
use Rattle.td_stamp.specs.States.{StateList}
use Rattle.td_stamp.specs.declared.error.StampError.{StampError}
use Rattle.td_questions.specs.Asked.{Entry, at_most}
use Rattle.td_questions.specs.Ranks.{ranked_cmp}
use Rattle.td_questions.proofs.Weights.{in_all, put_one, entries_are}
use Rattle.td_questions.proofs.Unordered.{Found, same_in_all}
use Rattle.td_questions.proofs.ranks.first_entries.Goals as goal

pub loop-place-preserved-in-Continue-1 : goal.loop-place-preserved-in-Continue-1
loop-place-preserved-in-Continue-1 c =
    let keys = c.loop-place.first.keys in
    let e : Entry = (c.in-Some.place, c.in-Some.state) in
    let here : (e.0.0 == c.args.vertex) ≡ true = grind (arith, nat_tests) in
    record {
      so_far = put_one c.args.order c.args.count c.args.vertex e c.next.new.self keys c.keep_first.new.first.keys here
          (c.in_ok-keep_first.ensures.kept ∙ ap (λ r. at_most c.args.count (set_insert ranked_cmp r keys)) c.of.ensures)
          ∙ (ap (λ l. in_all c.args.order c.args.count c.args.vertex l keys) (sym c.in-Some.ensures.steps) ∙ c.loop-place.invariant.so_far);
      few = c.in_ok-keep_first.ensures.few;
    }

carried : (xs ys : StateList) → xs ≡ ys → (r : Result (Vec Entry Global) StampError) → IfOk r (λ v. v.items ≡ xs) → IfOk r (λ v. v.items ≡ ys)
carried xs ys is (Ok v) h = h ∙ is
carried xs ys is (Err why) h = tt

pub returns : goal.returns
returns c =
    let keys = c.loop-place.first.keys in
    let lying = c.unordered-place-items.result in
    let states = c.args.states.now in
    let laws = c.rank_laws.ensures in
    carried _ _
    (entries_are c.args.order c.args.count c.args.vertex laws states keys c.loop-place.invariant.few
    (ap (λ l. in_all c.args.order c.args.count c.args.vertex l keys) (sym c.in-None.ensures.steps.0)
    ∙ (c.loop-place.invariant.so_far
    ∙ (ap (λ l. in_all c.args.order c.args.count c.args.vertex l []) c.into_iter-place-iterator.ensures.into_iter_gives
    ∙ same_in_all c.args.order c.args.vertex states c.args.count laws c.unordered-place-items.ensures.ordered lying
    (recursion_from_All (Found states) lying c.unordered-place-items.ensures.found) c.unordered-place-items.ensures.all))))
    c.entries_of.result c.entries_of.ensures
