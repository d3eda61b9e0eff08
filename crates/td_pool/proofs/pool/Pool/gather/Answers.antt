use Rattle.std.proofs.Common.{◌≡◌, ◌==◌, ◌&&◌, true, map, sum, length, ap, sym, ◌∙◌}
use Rattle.std.specs.List.{list_all}
use Rattle.std.proofs.lemmas.List.{map-id}
use Rattle.std.proofs.lemmas.Iterator.Consumers.{YieldsList-end}
use Rattle.std.proofs.lemmas.Iterator.Adapters.{YieldsList-from_vec}
use Rattle.crossbeam_utils.specs.Padded.{padded_value}
use Rattle.td_pool.specs.Hands.{is_empty}
use Rattle.td_pool.proofs.Counted.{as_many, and_all}
use Rattle.td_pool.proofs.Ledger.{all_given, few_out, gathered}
use Rattle.td_pool.proofs.pool.Pool.gather.Goals as goal

pub returns-clause-gives : goal.returns-clause-gives
returns-clause-gives g c =
    let given = c.into_iter-seat-iterator.ensures.into_iter_gives in
    let end = YieldsList-end (YieldsList-from_vec c.args.seats.items given.0 (given.1 ∙ c.args.seats.ok.0)) c.loop-seat.yielded c.loop-seat.seat-iterator c.loop-seat.yielded_by c.next.result c.next.new.self c.in-None.is c.next.ensures.steps in
    let all : c.loop-seat.yielded ≡ c.args.seats.items = sym (map-id c.loop-seat.yielded) ∙ end.0 in
    let shown = sym c.are_all.ensures ∙ c.if-not-are_all.false in
    let many : length c.as_slice.result.now ≡ c.args.self.shards = as_many (length c.as_slice.result.now) c.args.self.shards _ shown in
    let free : list_all (λ s. is_empty s.hand) c.args.seats.items ≡ true = ap (list_all (λ s. is_empty s.hand)) (sym c.as_slice.ensures.value) ∙ and_all (length c.as_slice.result.now) c.args.self.shards _ shown in
    let parts : c.loop-seat.all.parts ≡ g.K.Ledger.parts = c.loop-seat.invariant.parts ∙ (ap length all ∙ (ap length (sym c.as_slice.ensures.value) ∙ (many ∙ (c.args.self.shards_is ∙ sym c.requires)))) in
    let whole = c.audit.ensures.whole parts in
    let amounts : sum (map (λ s. s.share.amount) c.args.seats.items) ≡ c.into_parts-hall.result.1.total = ap (λ l. sum (map (λ s. s.share.amount) l)) (sym all) ∙ (sym c.loop-seat.invariant.amount ∙ whole) in
    let total = gathered (λ s. s.share.amount) (λ s. padded_value s.gives) (λ s. s.strays) (λ s. is_empty s.hand) (λ s. s.counted) c.args.seats.items free in
    all_given g.K.Crew.start c.into_parts-hall.result.1.total (length c.into_parts-hall.result.0.out) (sum (map (λ s. padded_value s.gives) c.args.seats.items)) (sum (map (λ s. s.strays) c.args.seats.items))
    c.into_parts-hall.result.0 c.into_parts-hall.ensures.counted (c.reached_in_order.ensures.numbers c.into_parts-hall.result.0 c.each_is_sound.ensures.reached).given
    (c.reached_in_order.ensures.numbers c.into_parts-hall.result.0 c.each_is_sound.ensures.reached).taken (sym total ∙ amounts)

pub returns-clause-out : goal.returns-clause-out
returns-clause-out g c =
    let given = c.into_iter-seat-iterator.ensures.into_iter_gives in
    let end = YieldsList-end (YieldsList-from_vec c.args.seats.items given.0 (given.1 ∙ c.args.seats.ok.0)) c.loop-seat.yielded c.loop-seat.seat-iterator c.loop-seat.yielded_by c.next.result c.next.new.self c.in-None.is c.next.ensures.steps in
    let all : c.loop-seat.yielded ≡ c.args.seats.items = sym (map-id c.loop-seat.yielded) ∙ end.0 in
    let shown = sym c.are_all.ensures ∙ c.if-not-are_all.false in
    let many : length c.as_slice.result.now ≡ c.args.self.shards = as_many (length c.as_slice.result.now) c.args.self.shards _ shown in
    let free : list_all (λ s. is_empty s.hand) c.args.seats.items ≡ true = ap (list_all (λ s. is_empty s.hand)) (sym c.as_slice.ensures.value) ∙ and_all (length c.as_slice.result.now) c.args.self.shards _ shown in
    let parts : c.loop-seat.all.parts ≡ g.K.Ledger.parts = c.loop-seat.invariant.parts ∙ (ap length all ∙ (ap length (sym c.as_slice.ensures.value) ∙ (many ∙ (c.args.self.shards_is ∙ sym c.requires)))) in
    let whole = c.audit.ensures.whole parts in
    let amounts : sum (map (λ s. s.share.amount) c.args.seats.items) ≡ c.into_parts-hall.result.1.total = ap (λ l. sum (map (λ s. s.share.amount) l)) (sym all) ∙ (sym c.loop-seat.invariant.amount ∙ whole) in
    let total = gathered (λ s. s.share.amount) (λ s. padded_value s.gives) (λ s. s.strays) (λ s. is_empty s.hand) (λ s. s.counted) c.args.seats.items free in
    few_out g.K.Crew.start c.into_parts-hall.result.1.total (length c.into_parts-hall.result.0.out) (sum (map (λ s. padded_value s.gives) c.args.seats.items)) (sum (map (λ s. s.strays) c.args.seats.items))
    c.into_parts-hall.result.0 c.into_parts-hall.ensures.counted (c.reached_in_order.ensures.numbers c.into_parts-hall.result.0 c.each_is_sound.ensures.reached).given
    (c.reached_in_order.ensures.numbers c.into_parts-hall.result.0 c.each_is_sound.ensures.reached).taken (sym total ∙ amounts)

pub returns-clause-exact : goal.returns-clause-exact
returns-clause-exact g c =
    sym (sym c.are_all.ensures ∙ c.if-not-are_all.false)
    ∙ ((λ i. (length (c.as_slice.ensures.value i) == c.args.self.shards_is i) && list_all (λ s. is_empty s.hand) (c.as_slice.ensures.value i)))

pub returns-then-not-are_all-clause-exact : goal.returns-then-not-are_all-clause-exact
returns-then-not-are_all-clause-exact g c =
    sym (sym c.are_all.ensures ∙ c.if-not-are_all.true)
    ∙ ((λ i. (length (c.as_slice.ensures.value i) == c.args.self.shards_is i) && list_all (λ s. is_empty s.hand) (c.as_slice.ensures.value i)))
