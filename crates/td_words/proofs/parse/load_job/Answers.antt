use Rattle.std.proofs.Common.{refl, codes}
use Rattle.clap.specs.Words.{found_of, rows_of}
use Rattle.td_words.proofs.Asked.{when_none, lacks}
use Rattle.td_words.proofs.Only.{only_load}
use Rattle.td_words.proofs.parse.load_job.Goals as goal

pub returns-in_err-new-clause-none : goal.returns-in_err-new-clause-none
returns-in_err-new-clause-none c = when_none _ c.from_residual.ensures (λ job h. let only = only_load (rows_of (found_of c.args.matches.now)) job h in lacks (codes "new") (rows_of (found_of c.args.matches.now)) _ c.in_err-new.ensures.none only.7.0)

pub returns-in_err-plan-clause-none : goal.returns-in_err-plan-clause-none
returns-in_err-plan-clause-none c = when_none _ c.from_residual-in_err-plan.ensures (λ job h. let only = only_load (rows_of (found_of c.args.matches.now)) job h in lacks (codes "plan") (rows_of (found_of c.args.matches.now)) _ c.in_err-plan.ensures.none only.7.1)

pub returns-in_err-m-clause-none : goal.returns-in_err-m-clause-none
returns-in_err-m-clause-none c = when_none _ c.from_residual-in_err-m.ensures (λ job h. let only = only_load (rows_of (found_of c.args.matches.now)) job h in c.in_err-m.ensures.none only.2 only.3 only.4 only.7.2)

pub returns-clause-some : goal.returns-clause-some
returns-clause-some c = (refl, (c.in_ok-new.ensures.some, c.in_ok-plan.ensures.some, c.in_ok-m.ensures.some, c.file_of-map.ensures, c.file_of-closures.ensures))
