use Rattle.std.proofs.Common.{ap, ◌∙◌, ◌++◌}
use Rattle.std.specs.Prelude.{string_bytes, decimal}
use Rattle.td_plan.specs.Lines.{words_of_kind}
use Rattle.td_plan.specs.Steps.Printed.{spaced}
use Rattle.td_plan.proofs.Printing.{name_printed}
use Rattle.td_plan.proofs.printer.print_name.Goals as goal

pub returns-clause-ok : goal.returns-clause-ok
returns-clause-ok c =
    name_printed c.args.placed.now.vertex (string_bytes c.args.text.now) (string_bytes c.write.new.self) (string_bytes c.print_kind.new.text)
    (c.in_ok-write.ensures.bytes ∙ ap (λ n. string_bytes c.args.text.now ++ decimal n) c.number-number.ensures)
    (c.in_ok-print_kind.ensures.ok ∙ ap (λ k. string_bytes c.write.new.self ++ spaced (words_of_kind k)) c.kind.ensures)
