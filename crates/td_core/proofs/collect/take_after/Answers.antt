use Rattle.std.proofs.Common.{◌≡◌, ◌+◌, ◌-◌, ◌++◌, [], ◌∷◌, not, ◌==◌, filter, map, ap, sym, ◌∙◌, arith}
use Rattle.td_batch.specs.Flow.{numbers_from}
use Rattle.td_core.specs.Came.{out_of, came_at, later_than}
use Rattle.td_core.proofs.Taken.{none_taken, taken_now, left_now, left_then, out_next}
use Rattle.td_core.proofs.collect.take_after.Goals as goal

pub loop-epoch-init : goal.loop-epoch-init
loop-epoch-init c =
    let none : c.args.after - c.args.after ≡ 0 = omega arith in
    record {
      outs = c.in_ok-outs.ensures.items ∙ sym (ap (λ n. map (out_of c.args.outputs.now) (numbers_from (c.args.after + 1) n)) none);
      outputs = none_taken c.args.after c.args.outputs.now;
      room = omega (arith, c.in_ok-outs.ensures.len, c.in_ok-outs.ensures.capacity);
    }

pub loop-epoch-preserved : goal.loop-epoch-preserved
loop-epoch-preserved c =
    let old = c.args.outputs.now in
    let e = c.loop-epoch.epoch in
    let inv = c.loop-epoch.invariant in
    let from = c.loop-epoch.auto.epoch in
    let recs = c.take.ensures.recs ∙ (ap (came_at (e + 1)) inv.outputs ∙ taken_now c.args.after (e + 1) (omega (arith, from)) old) in
    let taken : c.take.result ≡ out_of old (e + 1) = λ i. record { epoch = c.take.ensures.epoch i; recs = recs i } in
    record {
      outs = c.push_reserved.ensures.items ∙ (ap (λ l. l ++ c.take.result ∷ []) inv.outs ∙ (ap (λ o. map (out_of old) (numbers_from (c.args.after + 1) (e - c.args.after)) ++ o ∷ []) taken
          ∙ sym (out_next old c.args.after e from)));
      outputs = c.take.ensures.left ∙ (ap (filter (λ o. not (o.epoch == e + 1))) inv.outputs ∙ left_now c.args.after (e + 1) (omega (arith, from)) old);
      room = omega (arith, inv.room, c.push_reserved.ensures.len, c.push_reserved.ensures.capacity, c.loop-epoch-test.true);
    }

pub returns-clause-ok : goal.returns-clause-ok
returns-clause-ok c = c.let_go.ensures ∙ (ap (later_than c.args.last) c.loop-epoch.invariant.outputs ∙ left_then c.args.after (c.loop-epoch.epoch + 1) c.args.last (omega (arith, c.loop-epoch.auto.epoch-end, c.requires)) c.args.outputs.now)
