use Rattle.std.proofs.Common.{refl, codes}
use Rattle.clap.specs.Words.{found_of, rows_of}
use Rattle.td_words.proofs.Asked.{when_none, lacks}
use Rattle.td_words.proofs.Only.{only_plan}
use Rattle.td_words.proofs.parse.plan_job.Goals as goal

pub returns-in_err-plan-clause-none : goal.returns-in_err-plan-clause-none
returns-in_err-plan-clause-none c = when_none _ c.from_residual.ensures (λ job h. let only = only_plan (rows_of (found_of c.args.matches.now)) job h in lacks (codes "plan") (rows_of (found_of c.args.matches.now)) _ c.in_err-plan.ensures.none only.3.0)

pub returns-in_err-dot-clause-none : goal.returns-in_err-dot-clause-none
returns-in_err-dot-clause-none c = when_none _ c.from_residual-in_err-dot.ensures (λ job h. let only = only_plan (rows_of (found_of c.args.matches.now)) job h in c.in_err-dot.ensures.none only.1 only.3.1)

pub returns-clause-some : goal.returns-clause-some
returns-clause-some c = (refl, (c.in_ok-plan.ensures.some, c.in_ok-dot.ensures.some, c.file_of-closures.ensures))
