use Rattle.std.proofs.Common.{refl, codes}
use Rattle.clap.specs.Words.{found_of, rows_of}
use Rattle.td_words.proofs.Asked.{when_none, lacks}
use Rattle.td_words.proofs.Only.{only_sim}
use Rattle.td_words.proofs.parse.sim_job.Goals as goal

pub returns-in_err-workers-clause-none : goal.returns-in_err-workers-clause-none
returns-in_err-workers-clause-none c = when_none _ c.from_residual.ensures (λ job h. let only = only_sim (rows_of (found_of c.args.matches.now)) job h in c.in_err-workers.ensures.none only.0 only.2)

pub returns-in_err-picks-clause-none : goal.returns-in_err-picks-clause-none
returns-in_err-picks-clause-none c = when_none _ c.from_residual-in_err-picks.ensures (λ job h. let only = only_sim (rows_of (found_of c.args.matches.now)) job h in lacks (codes "picks") (rows_of (found_of c.args.matches.now)) _ c.in_err-picks.ensures.none only.3)

pub returns-clause-some : goal.returns-clause-some
returns-clause-some c = (refl, (c.in_ok-workers.ensures.some, c.in_ok-picks.ensures.some, c.file_of-closures.ensures))
