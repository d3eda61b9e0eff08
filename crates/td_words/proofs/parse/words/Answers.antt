use Rattle.std.proofs.Common.{map}
use Rattle.std.specs.Prelude.{string_bytes}
use Rattle.td_words.proofs.Examples.{text_examples}
use Rattle.td_words.proofs.parse.words.Goals as goal

pub returns-in-Some-clause-examples : goal.returns-in-Some-clause-examples
returns-in-Some-clause-examples c = text_examples (map string_bytes c.args.given.now) c.in-Some.job c.in-Some.ensures.some
