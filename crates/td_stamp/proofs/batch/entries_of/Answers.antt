use Rattle.std.proofs.Common.{ap, sym, ◌∙◌, ◌++◌, ◌+◌, ◌<◌, ◌≤◌, subst}
use Rattle.std.specs.Prelude.{All}
use Rattle.td_stamp.specs.declared.values.Entry.{Entry}
use Rattle.td_stamp.specs.Batch.{records_for}
use Rattle.td_stamp.proofs.Batches.{inputs_rise, records-of_middle}
use Rattle.td_stamp.proofs.batch.entries_of.Goals as goal

pub split_at_input-requires : goal.split_at_input-requires
split_at_input-requires c = inputs_rise c.args.in_order.now c.requires

pub returns : goal.returns
returns c =
    let before = c.split_at_input.result.0.now in
    let own = c.split_at_input-2.result.0.now in
    let later = c.split_at_input-2.result.1.now in
    sym (ap (records_for c.args.input) (sym c.split_at_input.ensures.both ∙ ap (λ l. before ++ l) (sym c.split_at_input-2.ensures.both))
    ∙ records-of_middle c.args.input before own later
    (subst (λ n. All (λ (e : Entry). e.input < n) before) c.from.ensures c.split_at_input.ensures.before)
    (subst (λ n. All (λ (e : Entry). n + 1 ≤ e.input) later) c.from-2.ensures c.split_at_input-2.ensures.others))
