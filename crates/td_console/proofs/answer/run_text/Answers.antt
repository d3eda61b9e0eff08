use Rattle.std.proofs.Common.{◌≡◌, ◌++◌, ◌∷◌, [], List, ap, sym, ◌∙◌, arith, length-append}
use Rattle.std.specs.Prelude.{flat_map}
use Rattle.td_stamp.specs.declared.values.Entry.{Entry}
use Rattle.td_stamp.specs.declared.values.Output.{Output}
use Rattle.td_stamp.specs.States.{StateList}
use Rattle.td_plan.specs.Tree.{tree_of}
use Rattle.td_batch.specs.Meaning.{EpochInput, epoch_result, run, numbered}
use Rattle.td_console.specs.Answer.{output_line, output_text}
use Rattle.td_console.proofs.MoreEpochs.{lines-push}
use Rattle.td_console.proofs.answer.run_text.Goals as goal

pub loop-batch-preserved : goal.loop-batch-preserved
loop-batch-preserved g c =
    let answers = g.L.Law.answers in
    let nodes = tree_of c.args.plan.now in
    let yielded : List (List Entry) = c.loop-batch.yielded in
    let batch : List Entry = c.in-Some.batch in
    let before = run answers nodes [] yielded in
    let from : StateList → EpochInput = λ s. record { answers = answers; states = s; batch = batch } in
    let last : List Output = (epoch_result (from before.states) nodes).outs in
    let so_far = c.loop-batch.invariant in
    let made = c.in_ok-out.ensures in
    let plan : c.in_ok-evaluator.evaluator ≡ c.args.plan.now = c.in_ok-evaluator.ensures in
    let recs : List Output = c.in_ok-out.out.recs in
    let outs : recs ≡ last = made.out ∙ (λ i. (epoch_result (from (so_far.kept i)) (tree_of (plan i))).outs) in
    record {
      epoch_is = omega (arith, so_far.epoch_is, length-append yielded (batch ∷ []));
      kept = made.states ∙ (λ i. (epoch_result (from (so_far.kept i)) (tree_of (plan i))).states) ∙ sym (c.run_joins.ensures.states nodes [] yielded (batch ∷ []));
      printed =
          c.in_ok-print_epoch.ensures.ok ∙ (λ i. so_far.printed i ++ flat_map (output_line (made.number i)) (outs i))
          ∙ sym (lines-push answers nodes [] yielded last c.loop-batch.epoch so_far.epoch_is)
          ∙ ap (λ o. output_text (numbered 1 o)) (sym (c.run_joins.ensures.outs nodes [] yielded (batch ∷ [])));
    }
