use Rattle.std.proofs.Common.{refl}
use Rattle.clap.specs.Words.{found_of, rows_of}
use Rattle.td_words.proofs.Asked.{when_none}
use Rattle.td_words.proofs.Only.{only_feed}
use Rattle.td_words.proofs.parse.feed_job.Goals as goal

pub returns-in_err-disk-clause-none : goal.returns-in_err-disk-clause-none
returns-in_err-disk-clause-none c = when_none _ c.from_residual.ensures (λ job h. let only = only_feed (rows_of (found_of c.args.matches.now)) job h in c.in_err-disk.ensures.none only.0 only.1 only.4.0)

pub returns-in_err-workers-clause-none : goal.returns-in_err-workers-clause-none
returns-in_err-workers-clause-none c = when_none _ c.from_residual-in_err-workers.ensures (λ job h. let only = only_feed (rows_of (found_of c.args.matches.now)) job h in c.in_err-workers.ensures.none only.2 only.4.1)

pub returns-clause-some : goal.returns-clause-some
returns-clause-some c = (refl, (c.in_ok-disk.ensures.some, c.in_ok-workers.ensures.some))
