use Rattle.std.proofs.Common.{◌≡◌, ◌++◌, List, [], ◌∷◌, map, refl, sym, ap, ◌∙◌, arith}
use Rattle.std.proofs.lemmas.List.{append_assoc, append-nil, length-append}
use Rattle.std.proofs.lemmas.Iterator.Consumers.{YieldsList-turn, YieldsList-end}
use Rattle.std.proofs.lemmas.Iterator.Adapters.{YieldsList-from_vec}
use Rattle.td_keeper.proofs.collect.append.Goals as goal

same_map : {X : Type 0} (xs : List X) → map (λ (x : X). x) xs ≡ xs
same_map [] = refl
same_map (x ∷ xs) = ap (λ l. x ∷ l) (same_map xs)

pub loop-each-init : goal.loop-each-init
loop-each-init g c = record { items = sym (append-nil c.args.queue.now.items); room = omega (arith, c.requires) }

pub push_back_reserved-requires : goal.push_back_reserved-requires
push_back_reserved-requires g c =
    let given = c.into_iter-each-iterator.ensures.into_iter_gives in
    let turn = YieldsList-turn (YieldsList-from_vec c.args.next.items given.0 (given.1 ∙ c.args.next.ok.0)) c.loop-each.yielded c.loop-each.each-iterator c.loop-each.yielded_by c.next.result c.next.new.self c.in-Some.each c.in-Some.is c.next.ensures.steps in
    omega (arith, turn.0, c.loop-each.invariant.room)

pub loop-each-preserved : goal.loop-each-preserved
loop-each-preserved g c =
    let given = c.into_iter-each-iterator.ensures.into_iter_gives in
    let turn = YieldsList-turn (YieldsList-from_vec c.args.next.items given.0 (given.1 ∙ c.args.next.ok.0)) c.loop-each.yielded c.loop-each.each-iterator c.loop-each.yielded_by c.next.result c.next.new.self c.in-Some.each c.in-Some.is c.next.ensures.steps in
    let more = length-append c.loop-each.yielded (c.in-Some.each ∷ []) in
    record {
      items = c.push_back_reserved.ensures.items ∙ (ap (λ l. l ++ c.in-Some.each ∷ []) c.loop-each.invariant.items ∙ append_assoc c.args.queue.now.items c.loop-each.yielded (c.in-Some.each ∷ []));
      room = omega (arith, turn.0, more, c.loop-each.invariant.room, c.push_back_reserved.ensures.len, c.push_back_reserved.ensures.capacity);
    }

pub returns : goal.returns
returns g c =
    let given = c.into_iter-each-iterator.ensures.into_iter_gives in
    let end = YieldsList-end (YieldsList-from_vec c.args.next.items given.0 (given.1 ∙ c.args.next.ok.0)) c.loop-each.yielded c.loop-each.each-iterator c.loop-each.yielded_by c.next.result c.next.new.self c.in-None.is c.next.ensures.steps in
    c.loop-each.invariant.items ∙ ap (λ l. c.args.queue.now.items ++ l) (sym (same_map c.loop-each.yielded) ∙ end.0)
