use Rattle.std.specs.Prelude.{string_bytes}
use Rattle.td_plan.proofs.Printing.{sources_push}
use Rattle.td_plan.proofs.printer.print_sources.Goals as goal

pub loop-source-preserved : goal.loop-source-preserved
loop-source-preserved c =
    sources_push (string_bytes c.args.text.now) (string_bytes c.loop-source.text) (string_bytes c.write.new.self) c.args.sources.now c.loop-source.source-index c.loop-source-test.true c.loop-source.invariant c.in_ok-write.ensures.bytes
