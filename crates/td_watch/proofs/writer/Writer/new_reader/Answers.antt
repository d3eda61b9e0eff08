use Rattle.std.proofs.Common.{rules}
use Rattle.td_watch.proofs.Steps.{splits}
use Rattle.td_watch.proofs.writer.Writer.new_reader.Goals as goal

pub split_seat-split-requires : goal.split_seat-split-requires
split_seat-split-requires c = (
  search rules,
  search rules,
  splits _ _,
)
