use Rattle.std.proofs.Common.{codes}
use Rattle.clap.specs.Words.{found_of, rows_of}
use Rattle.td_words.proofs.Asked.{when_none, lacks}
use Rattle.td_words.proofs.parse.files_of.Goals as goal

pub returns-in_err-disk-clause-none : goal.returns-in_err-disk-clause-none
returns-in_err-disk-clause-none c = when_none _ c.from_residual.ensures (λ disk plan has. lacks (codes "disk") (rows_of (found_of c.args.matches.now)) _ c.in_err-disk.ensures.none has.0)

pub returns-in_err-plan-clause-none : goal.returns-in_err-plan-clause-none
returns-in_err-plan-clause-none c = when_none _ c.from_residual-in_err-plan.ensures (λ disk plan has. lacks (codes "plan") (rows_of (found_of c.args.matches.now)) _ c.in_err-plan.ensures.none has.1)

pub returns-clause-some : goal.returns-clause-some
returns-clause-some c = (c.in_ok-disk.ensures.some, c.in_ok-plan.ensures.some)
