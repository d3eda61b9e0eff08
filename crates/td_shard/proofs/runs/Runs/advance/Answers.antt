use Rattle.std.proofs.Common.{arith, ◌+◌, ◌∙◌, set, length, refl, subst}
use Rattle.td_shard.specs.Runs.{InOrder, BeginsAt, part, changed_at, without_front}
use Rattle.td_shard.proofs.Ordered.{order-set, changed, advanced}
use Rattle.td_shard.proofs.Placed.{placed, enough, viewed, as_changed}
use Rattle.td_shard.proofs.runs.Runs.advance.Goals as goal

pub overflow_add-run : goal.overflow_add-run
overflow_add-run c =
    let at = placed c.self.inside c.args.self.now c.args.place c.index_mut-run.result.now c.self.invariant c.self.view_is c.requires.place c.index_mut-run.ensures.value in
    let there = enough c.self.inside c.args.self.now c.args.place c.args.count c.index_mut-run.result.now at c.requires.count in
    omega (arith, there, at.fits, at.where_it.some, c.self.invariant.rec_numbers)

pub trim-requires : goal.trim-requires
trim-requires c =
    let at = placed c.self.inside c.args.self.now c.args.place c.index_mut-run.result.now c.self.invariant c.self.view_is c.requires.place c.index_mut-run.ensures.value in
    let there = enough c.self.inside c.args.self.now c.args.place c.args.count c.index_mut-run.result.now at c.requires.count in
    let m = c.self.inside in
    let r = c.index_mut-run.result.now in
    subst (λ n. InOrder m.start (set m.runs.items c.args.place (record r { at = r.at + c.args.count })) (m.start + n)) (let ok = m.recs.ok.0 in omega (arith, ok))
    (order-set m.start (m.start + length m.recs.items) m.runs.items c.args.place r (record r { at = r.at + c.args.count }) r at.within c.index_mut-run.ensures.value (omega arith) (omega (arith, there, at.where_it.some)) refl c.self.invariant.ordered)

pub returns : goal.returns
returns c =
    let at = placed c.self.inside c.args.self.now c.args.place c.index_mut-run.result.now c.self.invariant c.self.view_is c.requires.place c.index_mut-run.ensures.value in
    let there = enough c.self.inside c.args.self.now c.args.place c.args.count c.index_mut-run.result.now at c.requires.count in
    let m = c.self.inside in
    let r = c.index_mut-run.result.now in
    as_changed (viewed m) c.args.self.now (changed_at (without_front c.args.count) c.args.place) _ c.self.view_is
    (c.trim.ensures.parts ∙ changed (part m.start m.recs.items) (without_front c.args.count) m.runs.items c.args.place r (record r { at = r.at + c.args.count }) r at.within c.index_mut-run.ensures.value
    (advanced m.start m.start (m.start + length m.recs.items) c.args.count m.recs.items r (omega arith) at.where_it there))

pub invariant_of-self : goal.invariant_of-self
invariant_of-self c =
    let was = c.self.invariant in
    let m = c.self.inside in
    let now = c.trim.ensures in
    let rows = c.trim.new.recs in
    let r = c.index_mut-run.result.now in
    let runs = set m.runs.items c.args.place (record r { at = r.at + c.args.count }) in
    record {
      ordered = subst (λ n. InOrder c.trim.new.start runs (c.trim.new.start + n)) rows.ok.0 now.ordered;
      begins = subst (λ n. BeginsAt c.trim.new.start n runs) rows.ok.0 now.begins;
      runs_kept = was.runs_kept;
      recs_kept = omega (arith, was.recs_kept, now.fewer, now.capacity);
      numbers = was.numbers;
      rec_numbers = omega (arith, was.rec_numbers, now.numbers);
    }
