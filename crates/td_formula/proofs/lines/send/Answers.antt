use Rattle.std.proofs.Common.{ap, ◌∙◌}
use Rattle.std.specs.Prelude.{fold, option_to_list}
use Rattle.td_formula.specs.Environments.{named}
use Rattle.td_formula.specs.Closures.{record_of}
use Rattle.td_formula.specs.Room.{with_record}
use Rattle.td_formula.proofs.Steps.{one_sent}
use Rattle.td_formula.proofs.lines.send.Goals as goal

pub loop-line-preserved : goal.loop-line-preserved
loop-line-preserved c =
    one_sent c.args.room c.args.lines.now (named c.args.at.now) (c.args.out.now.few.items, c.args.out.now.lost) (c.loop-line.out.few.items, c.loop-line.out.lost)
    (c.add.new.self.few.items, c.add.new.self.lost) c.loop-line.line-index c.line-item.result c.loop-line-test.true
    c.loop-line.invariant
    (c.add.ensures ∙ ap (λ rec. fold (with_record c.args.room) (c.loop-line.out.few.items, c.loop-line.out.lost) (option_to_list rec)) (c.record.ensures ∙ ap (record_of (named c.args.at.now)) c.line-item.is))
