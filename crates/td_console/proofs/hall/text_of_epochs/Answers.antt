use Rattle.std.proofs.Common.{refl, ◌≡◌, ◌⊎◌, ◌+◌, ◌++◌, ◌∷◌, [], List, None, IsTrue, true, ap, sym, ◌∙◌, subst, arith, length, length-append}
use Rattle.std.specs.Prelude.{flat_map}
use Rattle.std.specs.List.{list_all}
use Rattle.std.proofs.lemmas.List.Elements.{All-get_or}
use Rattle.std.proofs.lemmas.Iterator.Consumers.{YieldsList-turn}
use Rattle.std.proofs.lemmas.Iterator.Adapters.{YieldsList-from_vec}
use Rattle.td_stamp.specs.declared.values.Entry.{Entry}
use Rattle.td_stamp.specs.declared.values.Output.{Output}
use Rattle.td_stamp.specs.States.{StateList}
use Rattle.td_plan.specs.Blocks.{vertices}
use Rattle.td_plan.specs.Inputs.{is_input_of}
use Rattle.td_plan.specs.Tree.{tree_of}
use Rattle.td_calls.specs.Fits.{first_lack}
use Rattle.td_batch.specs.Meaning.{EpochInput, epoch_result, run, numbered}
use Rattle.td_machine.specs.Steps.{accepts}
use Rattle.td_console.specs.declared.faults.Fault.TheVariants.{Memory, Spent}
use Rattle.td_console.specs.Answer.{output_line, output_text}
use Rattle.td_console.proofs.MoreEpochs.{lines-push}
use Rattle.td_console.proofs.OneByOne.{handed_on}
use Rattle.td_console.proofs.hall.text_of_epochs.Goals as goal

pub loop-batch-init : goal.loop-batch-init
loop-batch-init g c = record {
  plan = refl;
  between = c.requires.between;
  next = c.requires.first;
  kept = c.requires.without_states;
  printed = c.new-text.ensures.bytes;
}

pub run_epoch-requires : goal.run_epoch-requires
run_epoch-requires g c =
    let same = c.in_ok-cut_if_due.ensures.ok in
    let plan = same.plan ∙ c.loop-batch.invariant.plan in
    let given = c.into_iter-batch-iterator.ensures.into_iter_gives in
    let turn = YieldsList-turn (YieldsList-from_vec c.args.batches.items given.0 (given.1 ∙ c.args.batches.ok.0)) c.loop-batch.yielded c.loop-batch.batch-iterator c.loop-batch.yielded_by c.next.result c.next.new.self c.in-Some.batch c.in-Some.is c.next.ensures.steps in
    let here = All-get_or (λ batch. IsTrue (list_all (λ e. is_input_of c.args.hall.now.plan e.input) batch)) c.args.batches.items (length c.loop-batch.yielded) c.in-Some.batch turn.0 c.requires.accepted in
    record {
      fits = subst (λ p. first_lack (g.C.Closures.stored c.args.calls.now) (vertices p) ≡ None) (sym plan) c.requires.fits;
      accepted = subst (λ p. accepts p c.in-Some.batch ≡ true) (sym plan) (subst (λ batch. accepts c.args.hall.now.plan batch ≡ true) (sym turn.1) here);
      below = omega (arith, same.next, c.loop-batch.invariant.next, turn.0, c.requires.few);
      between = same.between;
    }

pub loop-batch-preserved : goal.loop-batch-preserved
loop-batch-preserved g c =
    let answers = g.L.Law.answers in
    let nodes = tree_of c.args.hall.now.plan in
    let yielded : List (List Entry) = c.loop-batch.yielded in
    let batch : List Entry = c.in-Some.batch in
    let same = c.in_ok-cut_if_due.ensures.ok in
    let on = c.in_ok-run_epoch.ensures.ok in
    let plan = same.plan ∙ c.loop-batch.invariant.plan in
    let from : StateList → EpochInput = λ s. record { answers = answers; states = s; batch = batch } in
    let before = run answers nodes [] yielded in
    let kept = same.states ∙ c.loop-batch.invariant.kept in
    let last : List Output = (epoch_result (from before.states) nodes).outs in
    let next : c.cut_if_due.new.hall.next ≡ 1 + length yielded = same.next ∙ c.loop-batch.invariant.next in
    record {
      plan = on.plan ∙ plan;
      between = on.between;
      next = omega (arith, on.next, next, length-append yielded (batch ∷ []));
      kept = on.states ∙ (λ i. (epoch_result (from (kept i)) (tree_of (plan i))).states) ∙ sym (c.run_joins.ensures.states nodes [] yielded (batch ∷ []));
      printed =
          c.in_ok-run_epoch.ensures.text
          ∙ (λ i. c.loop-batch.invariant.printed i ++ flat_map (output_line c.cut_if_due.new.hall.next) (epoch_result (from (kept i)) (tree_of (plan i))).outs)
          ∙ sym (lines-push answers nodes [] yielded last c.cut_if_due.new.hall.next next)
          ∙ ap (λ o. output_text (numbered 1 o)) (sym (c.run_joins.ensures.outs nodes [] yielded (batch ∷ [])));
    }

pub returns-in_err-run_epoch-clause-err : goal.returns-in_err-run_epoch-clause-err
returns-in_err-run_epoch-clause-err g c =
    handed_on (λ f. (f ≡ Memory) ⊎ (f ≡ Spent)) c.in_err-run_epoch.field-0.0 c.from_residual-in_err-run_epoch.result c.from_residual-in_err-run_epoch.ensures.1 c.in_err-run_epoch.ensures.err
