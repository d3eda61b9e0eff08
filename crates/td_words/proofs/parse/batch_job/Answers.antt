use Rattle.std.proofs.Common.{refl}
use Rattle.td_words.proofs.parse.batch_job.Goals as goal

pub returns : goal.returns
returns c = (refl, c.file_of-closures.ensures)
