use Rattle.std.proofs.Common.{◌≡◌, ℕ, ◌+◌, ◌++◌, ◌∷◌, [], List, length, length-append, ap, ◌∙◌}
use Rattle.td_stamp.specs.declared.values.Entry.{Entry}
use Rattle.td_stamp.specs.declared.values.Output.{Output}
use Rattle.td_plan.specs.Tree.{tree_of}
use Rattle.td_batch.specs.Meaning.{epoch_result}
use Rattle.td_batch.specs.Steps.Emitted.{input_of}
use Rattle.td_batch.proofs.MoreEpochs.{one_more}
use Rattle.td_batch.proofs.evaluator.evaluate.Goals as goal

pub loop-batch-preserved : goal.loop-batch-preserved
loop-batch-preserved g c =
    let answers = g.L.Law.answers in
    let nodes = tree_of c.args.plan.now in
    let batch : List Entry = c.batch-item.result in
    let i = c.loop-batch.batch-index in
    let kept = c.loop-batch.states in
    let out = c.in_ok-epoch.field-0 in
    let recs : List Output = out.recs in
    let at : c.number_after-epoch.result ≡ c.args.first + i = c.number_after-epoch.ensures ∙ ap (λ (n : ℕ). c.args.first + n) (ap length c.as_slice.ensures.value ∙ c.loop-batch.invariant.count_is) in
    let made = c.in_ok-epoch.ensures in
    let plan : c.in_ok-evaluator.evaluator ≡ c.args.plan.now = c.in_ok-evaluator.ensures in
    let more =
    one_more answers nodes c.args.first c.args.states.now c.args.batches.now i batch kept c.epoch.new.states c.loop-batch.outs.items recs c.loop-batch-test.true c.loop-batch.invariant.kept c.loop-batch.invariant.so_far
    (made.states ∙ (λ j. (epoch_result (input_of answers kept (c.batch-item.is j)) (tree_of (plan j))).states)) (made.out ∙ (λ j. (epoch_result (input_of answers kept (c.batch-item.is j)) (tree_of (plan j))).outs)) in
    record {
      count_is = ap length c.in_ok-push.ensures.items ∙ length-append c.loop-batch.outs.items (record { epoch = out.epoch; recs = recs } ∷ []) ∙ ap (λ n. n + 1) c.loop-batch.invariant.count_is;
      kept = more.0;
      so_far = c.in_ok-push.ensures.items ∙ ap (λ n. c.loop-batch.outs.items ++ record { epoch = n; recs = recs } ∷ []) (made.number ∙ at) ∙ more.1;
    }
