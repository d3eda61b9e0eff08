use Rattle.std.proofs.Common.{◌≡◌, ◌∙◌, List, ap, sym, subst, fold}
use Rattle.td_stamp.specs.declared.values.Output.{Output}
use Rattle.td_stamp.specs.States.{StateList}
use Rattle.td_plan.specs.Lines.{Line}
use Rattle.td_plan.specs.Tree.{Nodes, tree_of}
use Rattle.td_plan.specs.Faults.{IsPlan}
use Rattle.td_batch.specs.declared.changes.Change.{Change}
use Rattle.td_batch.specs.Meaning.{EpochInput, epoch_result}
use Rattle.td_batch.specs.Changes.{epoch_changes, with_change, AgreeAt}
use Rattle.td_batch.specs.Steps.Emitted.{input_of}
use Rattle.td_c.specs.Rows.{batch_of, states_of}
use Rattle.td_c.proofs.changes.changed.Goals as goal

pub returns-clause-ok : goal.returns-clause-ok
returns-clause-ok g c =
    let plan : List Line = c.in_ok-plan.plan in
    let nodes : Nodes = tree_of plan in
    let given : StateList = states_of c.args.given.now in
    let epoch : EpochInput = input_of g.L.Law.answers given (batch_of c.args.records.now) in
    let changes : List Change = c.in_ok-made.made.changes.items in
    let outs : List Output = c.in_ok-made.made.outputs in
    let lawful : IsPlan plan = c.in_ok-plan.ensures.ok.spelled.lawful in
    let from : c.in_ok-states.states.entries ≡ given = c.in_ok-states.ensures.ok in
    let batch = c.in_ok-batch.ensures.ok in
    let by : c.in_ok-evaluator.evaluator ≡ plan = c.in_ok-evaluator.ensures in
    let changed : changes ≡ epoch_changes epoch nodes = c.in_ok-made.ensures.changes ∙ (λ i. epoch_changes (input_of g.L.Law.answers (from i) (batch i)) (tree_of (by i))) in
    let put : outs ≡ (epoch_result epoch nodes).outs = c.in_ok-made.ensures.outputs ∙ (λ i. (epoch_result (input_of g.L.Law.answers (from i) (batch i)) (tree_of (by i))).outs) in
    let agree : (all : StateList) → AgreeAt changes given all → AgreeAt (epoch_changes epoch nodes) given all = λ all. subst (λ cs. AgreeAt cs given all) changed in
    record {
      plan = plan;
      is_plan = c.in_ok-plan.ensures.ok;
      changes_are = changed;
      states_are = λ all h. ap (fold with_change all) changed ∙ sym (c.epochs_are_local.ensures.states plan epoch all lawful (agree all h));
      outputs_are = λ all h. put ∙ sym (c.epochs_are_local.ensures.outs plan epoch all lawful (agree all h));
    }
