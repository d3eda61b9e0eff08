use Rattle.std.proofs.Common.{ap, ◌∙◌, ◌++◌, map, lit<}
use Rattle.std.specs.Prelude.{string_bytes, decimal}
use Rattle.td_plan.specs.Steps.Printed.{spaced}
use Rattle.td_plan.proofs.Printing.{vertex_printed}
use Rattle.td_plan.proofs.printer.print_vertex.Goals as goal

pub returns-clause-ok : goal.returns-clause-ok
returns-clause-ok c =
    vertex_printed c.args.placed.now.vertex (string_bytes c.args.text.now) (string_bytes c.print_name.new.text) (string_bytes c.print_sources.new.text) (string_bytes c.push.new.self)
    c.in_ok-print_name.ensures.ok
    (c.in_ok-print_sources.ensures.ok ∙ ap (λ s. string_bytes c.print_name.new.text ++ spaced (map decimal s)) c.sources.ensures)
    (c.in_ok-push.ensures.bytes ∙ ap (λ e. string_bytes c.print_sources.new.text ++ e) (c.in_ok-push.ensures.ascii (lit< tt)))
