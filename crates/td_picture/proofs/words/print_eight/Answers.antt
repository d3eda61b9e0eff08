use Rattle.std.specs.Prelude.{string_bytes}
use Rattle.td_picture.proofs.Pieces.{two}
use Rattle.td_picture.proofs.words.print_eight.Goals as goal

pub returns-clause-ok : goal.returns-clause-ok
returns-clause-ok c = two (string_bytes c.args.text.now) (string_bytes c.push_str.new.self) (string_bytes c.write.new.self) _ _ c.in_ok-push_str.ensures.bytes c.in_ok-write.ensures.bytes
