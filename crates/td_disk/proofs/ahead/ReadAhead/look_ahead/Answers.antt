use Rattle.std.proofs.Common.{rules}
use Rattle.td_disk.proofs.ahead.ReadAhead.look_ahead.Goals as goal

pub take_block-requires-clause-unwritten : goal.take_block-requires-clause-unwritten
take_block-requires-clause-unwritten g c = search rules
