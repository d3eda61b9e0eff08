use Rattle.std.proofs.Common.{rules}
use Rattle.td_console.proofs.streams.VecU8Sink.write_text.Goals as goal

pub returns-in-Ok-clause-bytes : goal.returns-in-Ok-clause-bytes
returns-in-Ok-clause-bytes c = search rules
