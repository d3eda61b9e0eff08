use Rattle.std.proofs.Common.{◌≡◌, ◌+◌, ◌-◌, ◌/◌, ◌<◌, get_or, sym, ap, arith}
use Rattle.td_shard.proofs.Search.{few_its, all_lower}
use Rattle.td_shard.proofs.Tasks.{own_ascends}
use Rattle.td_shard.proofs.take.below_in.Goals as goal

pub loop-low-preserved : goal.loop-low-preserved
loop-low-preserved c =
    let was = c.loop-low.invariant in
    let low = c.loop-low.low in
    let half = (c.loop-low.high - low) / 2 in
    let few : half < c.loop-low.high - low = omega (arith, c.loop-low-test.true) in
    record {
      ordered = omega arith;
      within = λ d. let within = was.within d in omega (arith, few, within);
      lower = was.lower;
      upper = λ d l e. let is = c.number.ensures d e in omega (arith, is, c.if-number.false);
    }

pub loop-low-preserved-then-number : goal.loop-low-preserved-then-number
loop-low-preserved-then-number c =
    let was = c.loop-low.invariant in
    let low = c.loop-low.low in
    let half = (c.loop-low.high - low) / 2 in
    let few : half < c.loop-low.high - low = omega (arith, c.loop-low-test.true) in
    let ps = c.args.runs.now.parts in
    record {
      ordered = omega (arith, few);
      within = was.within;
      lower = λ d.
          let p = get_or ps c.args.place d in
          let within = was.within d in
          all_lower c.args.number p.lane p.recs (low + half) (own_ascends ps c.args.place d c.requires.within c.requires.ascending) (omega (arith, few, within)) (λ e. let is = c.number.ensures d e in omega (arith, is, c.if-number.true));
      upper = was.upper;
    }

pub returns-clause-count : goal.returns-clause-count
returns-clause-count c d =
    let ps = c.args.runs.now.parts in
    let p = get_or ps c.args.place d in
    let was = c.loop-low.invariant in
    let same : c.loop-low.high ≡ c.loop-low.low = omega (arith, was.ordered, c.loop-low-test.false) in
    let within = was.within d in
    sym (few_its c.args.number p.lane p.recs c.loop-low.low (own_ascends ps c.args.place d c.requires.within c.requires.ascending) (was.lower d) (omega (arith, within, was.ordered))
    (λ l e. let upper = was.upper d (omega (arith, l, same)) e in let at = ap (λ i. (get_or p.recs i e).number) same in omega (arith, upper, at)))
