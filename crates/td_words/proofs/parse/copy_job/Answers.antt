use Rattle.std.proofs.Common.{refl, codes}
use Rattle.clap.specs.Words.{found_of, rows_of}
use Rattle.td_words.proofs.Asked.{when_none, lacks}
use Rattle.td_words.proofs.Only.{only_copy}
use Rattle.td_words.proofs.parse.copy_job.Goals as goal

pub returns-in_err-disk-clause-none : goal.returns-in_err-disk-clause-none
returns-in_err-disk-clause-none c = when_none _ c.from_residual.ensures (λ job h. let only = only_copy (rows_of (found_of c.args.matches.now)) job h in c.in_err-disk.ensures.none only.0 only.1 only.8.0)

pub returns-in_err-new-clause-none : goal.returns-in_err-new-clause-none
returns-in_err-new-clause-none c = when_none _ c.from_residual-in_err-new.ensures (λ job h. let only = only_copy (rows_of (found_of c.args.matches.now)) job h in lacks (codes "new") (rows_of (found_of c.args.matches.now)) _ c.in_err-new.ensures.none only.8.1)

pub returns-in_err-m-clause-none : goal.returns-in_err-m-clause-none
returns-in_err-m-clause-none c = when_none _ c.from_residual-in_err-m.ensures (λ job h. let only = only_copy (rows_of (found_of c.args.matches.now)) job h in c.in_err-m.ensures.none only.3 only.4 only.5 only.8.2)

pub returns-in_err-until-clause-none : goal.returns-in_err-until-clause-none
returns-in_err-until-clause-none c = when_none _ c.from_residual-in_err-until.ensures (λ job h. let only = only_copy (rows_of (found_of c.args.matches.now)) job h in c.in_err-until.ensures.none only.6 only.8.3)

pub returns-clause-some : goal.returns-clause-some
returns-clause-some c = (refl, (c.in_ok-disk.ensures.some, c.in_ok-new.ensures.some, c.in_ok-m.ensures.some, c.in_ok-until.ensures.some))
