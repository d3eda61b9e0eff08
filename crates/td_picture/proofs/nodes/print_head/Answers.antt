use Rattle.std.proofs.Common.{ap, ◌∙◌, ◌++◌, codes}
use Rattle.std.specs.Prelude.{string_bytes, decimal}
use Rattle.td_picture.specs.Words.{Text}
use Rattle.td_picture.specs.Drawn.{frame_of, frame_look, label_of}
use Rattle.td_picture.proofs.Pieces.{three}
use Rattle.td_picture.proofs.nodes.print_head.Goals as goal

pub returns-clause-ok : goal.returns-clause-ok
returns-clause-ok c =
    three (string_bytes c.args.text.now) (string_bytes c.write.new.self) (string_bytes c.push_str.new.self) (string_bytes c.write-2.new.self) (frame_of c.args.number) frame_look (label_of c.args.bound)
    c.in_ok-write.ensures.bytes c.in_ok-push_str.ensures.bytes
    (c.in_ok-write-2.ensures.bytes ∙ ap (λ (turns : Text). string_bytes c.push_str.new.self ++ (codes "label=\"loop, at most " ++ (decimal c.args.bound ++ (codes " " ++ (turns ++ codes "\";\n"))))) c.turns_of-turns.ensures)
