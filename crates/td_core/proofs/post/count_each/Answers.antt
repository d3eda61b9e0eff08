use Rattle.std.proofs.Common.{◌≡◌, ◌<◌, ◌+◌, ◌*◌, ◌%◌, length, get_or, set, pos, ap, ◌∙◌, arith}
use Rattle.std.proofs.lemmas.List.{length-set, drop_all}
use Rattle.td_core.specs.Posted.{count_of, only_in}
use Rattle.td_core.proofs.PostRuns.{count_next, count_after}
use Rattle.td_core.proofs.post.count_each.Goals as goal

pub loop-rec-preserved : goal.loop-rec-preserved
loop-rec-preserved c =
    let recs = c.args.recs.now in
    let edges = c.args.edges in
    let i = c.loop-rec.rec-index in
    let at = c.from-shard.result in
    let some = c.requires.some in
    let few = c.requires.few in
    let r = get_or recs i (record { key = 0; val = pos 0 }) in
    let place : at ≡ r.key % c.args.workers = c.from-shard.ensures ∙ c.shard.ensures in
    let within : at < length c.loop-rec.counts = omega (arith, place, some, few, c.loop-rec.invariant.many) in
    record {
      counts = λ s below.
          let was = c.loop-rec.invariant.counts s below in
          let next = count_next c.args.workers edges recs i (record { key = 0; val = pos 0 }) c.loop-rec-test.true s in
          let now = ap (λ m. get_or (set c.loop-rec.counts at m) s 0) c.in-Some.ensures.1 ∙ (count_after s at edges c.loop-rec.counts within ∙ ap (λ m. get_or c.loop-rec.counts s 0 + only_in m edges s) place) in
          omega (arith, was, next, now);
      many = length-set c.loop-rec.counts at c.in-Some.more ∙ c.loop-rec.invariant.many;
    }

pub returns-clause-counts : goal.returns-clause-counts
returns-clause-counts c s below =
    let was = c.loop-rec.invariant.counts s below in
    let none = ap (λ l. count_of c.args.workers l s * c.args.edges) (drop_all c.loop-rec.rec-index c.args.recs.now c.loop-rec-test.false) in
    let zero : 0 * c.args.edges ≡ 0 = omega arith in
    omega (arith, was, none, zero)
