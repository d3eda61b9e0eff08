use Rattle.std.proofs.Common.{ap, ◌∙◌, ◌++◌}
use Rattle.std.specs.Prelude.{string_bytes, codes}
use Rattle.td_plan.specs.declared.vertex.Kind.{Kind}
use Rattle.td_plan.specs.Lines.{text_of_line}
use Rattle.td_plan.specs.Lines.Line.{vertex}
use Rattle.td_picture.specs.Words.{told_between}
use Rattle.td_picture.specs.Listed.{comment_of}
use Rattle.td_picture.proofs.Pieces.{two}
use Rattle.td_picture.proofs.listing.list_vertex.Goals as goal

pub returns-clause-ok : goal.returns-clause-ok
returns-clause-ok c =
    let v = c.args.vertex.now.vertex in
    two (string_bytes c.args.text.now) (string_bytes c.print_between.new.text) (string_bytes c.print_vertex.new.text) (comment_of (vertex v)) (text_of_line (vertex v))
    (c.in_ok-print_between.ensures.ok ∙ ap (λ (k : Kind). string_bytes c.args.text.now ++ told_between (codes "# ") (codes "\n") k) c.kind.ensures)
    c.in_ok-print_vertex.ensures.ok
