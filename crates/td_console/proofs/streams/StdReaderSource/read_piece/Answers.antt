use Rattle.std.proofs.Common.{rules}
use Rattle.td_console.proofs.streams.StdReaderSource.read_piece.Goals as goal

pub returns-clause-bytes : goal.returns-clause-bytes
returns-clause-bytes g c = search rules
