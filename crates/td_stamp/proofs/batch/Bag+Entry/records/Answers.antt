use Rattle.std.proofs.Common.{ap, sym, ◌∙◌, ◌++◌}
use Rattle.td_stamp.specs.Bag.{members}
use Rattle.td_stamp.specs.Batch.{records_for}
use Rattle.td_stamp.proofs.Batches.{records-IsBag, records-append}
use Rattle.td_stamp.proofs.batch.Bag+Entry.records.Goals as goal

pub returns-clause-all : goal.returns-clause-all
returns-clause-all c =
    let input = c.args.input in
    let counted = members c.parts-counts.result.1 in
    ap (records_for input) c.of.ensures ∙ records-append input c.entries_of.result.now counted ∙ ap (λ l. l ++ records_for input counted) c.entries_of.ensures
    ∙ sym (records-append input c.parts-counts.result.0.now counted) ∙ ap (records_for input) c.parts-counts.ensures.all

pub returns-clause-bag : goal.returns-clause-bag
returns-clause-bag c = returns-clause-all c ∙ sym (records-IsBag c.args.input c.args.self.now c.parts-counts.ensures.sorted)
