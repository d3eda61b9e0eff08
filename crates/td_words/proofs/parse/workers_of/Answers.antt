use Rattle.std.proofs.Common.{ℕ, List, Result, arith, codes}
use Rattle.std.specs.Str.Parse.{ParsesUnsigned, ExplainsUnsignedError, HasUnsignedDigitsIfOk}
use Rattle.std.specs.declared.num.ParseIntError.{ParseIntError}
use Rattle.clap.specs.Words.{found_of}
use Rattle.td_words.proofs.Asked.{number_read, no_number, none_there, refused_there, when_none}
use Rattle.td_words.proofs.parse.workers_of.Goals as goal

-- how a `u8` is read
abbrev Reads : List ℕ → Result ℕ ParseIntError → Type 0
Reads bs r = ParsesUnsigned 8 10 bs r × ExplainsUnsignedError 10 bs r × HasUnsignedDigitsIfOk bs r

pub returns-then-is_shard_count-clause-some : goal.returns-then-is_shard_count-clause-some
returns-then-is_shard_count-clause-some c =
    number_read 8 Reads (λ t x h. h.0) (found_of c.args.matches.now) (codes "workers") c.get_one.result c.get_one.ensures.none c.get_one.ensures.value 1 16 c.in_ok-workers.workers c.in_ok-workers.was (λ _. c.is_shard_count.ensures.0 c.if-is_shard_count.true)

pub returns-in_err-workers-clause-none : goal.returns-in_err-workers-clause-none
returns-in_err-workers-clause-none c =
    when_none _ c.from_residual.ensures
    (no_number 8 Reads (λ t x h. h.0) (found_of c.args.matches.now) (codes "workers") c.get_one.result c.get_one.ensures.none c.get_one.ensures.value 1 16 (omega arith) (λ w is low high. none_there c.get_one.result c.in_err-workers.was w is))

pub returns-else-is_shard_count-clause-none : goal.returns-else-is_shard_count-clause-none
returns-else-is_shard_count-clause-none c =
    no_number 8 Reads (λ t x h. h.0) (found_of c.args.matches.now) (codes "workers") c.get_one.result c.get_one.ensures.none c.get_one.ensures.value 1 16 (omega arith)
    (refused_there c.get_one.result c.in_ok-workers.workers c.is_shard_count.result 1 16 c.in_ok-workers.was c.is_shard_count.ensures.1 c.if-is_shard_count.false)
