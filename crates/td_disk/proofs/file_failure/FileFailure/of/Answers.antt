use Rattle.std.proofs.Common.{rules}
use Rattle.td_disk.proofs.file_failure.FileFailure.of.Goals as goal

pub returns-clause-call : goal.returns-clause-call
returns-clause-call c = search rules
