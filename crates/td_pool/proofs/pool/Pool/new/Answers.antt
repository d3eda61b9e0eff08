use Rattle.std.proofs.Common.{◌≡◌, ◌≤◌, ◌+◌, ◌∙◌, ◌∷◌, [], subst, sym, ap, refl, arith, length, map, sum, ◌++◌, length-append, rules, true, All}
use Rattle.std.proofs.lemmas.List.{map-append}
use Rattle.std.proofs.lemmas.List.Elements.{All-append}
use Rattle.crossbeam_utils.specs.Padded.{padded_value}
use Rattle.td_batch.specs.Flow.{numbers_from}
use Rattle.td_pool.specs.Hands.{is_empty}
use Rattle.td_pool.proofs.Counted.{next_number}
use Rattle.td_pool.proofs.Ledger.{one_more, at_new}
use Rattle.td_pool.proofs.pool.Pool.new.Goals as goal

pub loop-shard-preserved : goal.loop-shard-preserved
loop-shard-preserved g c = record {
  parts = omega (arith, c.split_off-share.ensures.parts_left, c.loop-shard.invariant.parts);
  amount = omega (arith, c.split_off-share.ensures.amount_left, c.loop-shard.invariant.amount);
  total = omega (arith, c.count_takes.ensures.total, c.loop-shard.invariant.total);
  strays = ap (λ l. sum (map (λ s. s.strays) l) + 0) c.push_reserved.ensures.items
      ∙ one_more (λ s. s.strays) c.loop-shard.seats.items c.new.result c.loop-shard.strays _ c.new.ensures.strays c.loop-shard.invariant.strays;
  first = λ _. refl;
  seats = ap length c.push_reserved.ensures.items ∙ (length-append c.loop-shard.seats.items (c.new.result ∷ []) ∙ ap (λ n. n + 1) c.loop-shard.invariant.seats);
  numbers = ap (map (λ s. s.shard)) c.push_reserved.ensures.items ∙ (map-append (λ s. s.shard) c.loop-shard.seats.items (c.new.result ∷ [])
      ∙ ((λ i. c.loop-shard.invariant.numbers i ++ c.new.ensures.shard i ∷ []) ∙ sym (next_number c.loop-shard.shard)));
  room = omega (arith, c.push_reserved.ensures.capacity, c.loop-shard.invariant.room);
  free = subst (All (λ s. (is_empty s.hand ≡ true) × (padded_value s.gives ≡ 0))) (sym c.push_reserved.ensures.items) (All-append (λ s. (is_empty s.hand ≡ true) × (padded_value s.gives ≡ 0)) c.loop-shard.seats.items (c.new.result ∷ []) c.loop-shard.invariant.free (search rules));
}

pub returns-clause-shards : goal.returns-clause-shards
returns-clause-shards g c =
    let last : c.loop-shard.shard ≡ g.K.Crew.shards = search rules in
    c.loop-shard.invariant.numbers ∙ ap (numbers_from 0) last

pub new-requires-2-clause-counted : goal.new-requires-2-clause-counted
new-requires-2-clause-counted g c =
    let some : 1 ≤ c.loop-shard.shard = search rules in
    let none : c.loop-shard.strays ≡ 0 = c.loop-shard.invariant.first some in
    at_new g.K.Crew.start c.loop-shard.book.total c.how_many_out-strays.result c.args.hall c.requires.hall.1
    (search rules) (omega (arith, c.loop-shard.invariant.total, none))
