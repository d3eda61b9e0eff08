use Rattle.std.proofs.Common.{◌≡◌, ℕ, List, Result, Ok, Some, ap, ◌∙◌, arith}
use Rattle.std.specs.Str.Parse.{ParsesUnsigned, ExplainsUnsignedError, HasUnsignedDigitsIfOk}
use Rattle.std.specs.declared.num.ParseIntError.{ParseIntError}
use Rattle.clap.specs.Words.{found_of}
use Rattle.td_words.proofs.Options.{option_read, none_read, no_option, some_there, refused_option}
use Rattle.td_words.proofs.parse.option_of.Goals as goal

-- how a `u64` is read
abbrev Reads : List ℕ → Result ℕ ParseIntError → Type 0
Reads bs r = ParsesUnsigned 64 10 bs r × ExplainsUnsignedError 10 bs r × HasUnsignedDigitsIfOk bs r

pub returns-in-Ok-None-clause-some : goal.returns-in-Ok-None-clause-some
returns-in-Ok-None-clause-some c =
    none_read 64 Reads (λ t x h. h.0) (found_of c.args.matches.now) c.args.id.now c.try_get_one.result c.try_get_one.ensures.none c.try_get_one.ensures.value c.args.least c.args.most (c.in-Ok-None.is ∙ ap Ok c.in-Ok-None.field-0-is)

pub returns-in-Ok-Some-clause-some : goal.returns-in-Ok-Some-clause-some
returns-in-Ok-Some-clause-some c =
    option_read 64 Reads (λ t x h. h.0) (found_of c.args.matches.now) c.args.id.now c.try_get_one.result c.try_get_one.ensures.none c.try_get_one.ensures.value c.args.least c.args.most c.in-Ok-Some.number (c.in-Ok-Some.is ∙ ap Ok c.in-Ok-Some.field-0-is) (c.lies_within.ensures.0 c.if-lies_within.true)

pub returns-in_default-clause-none : goal.returns-in_default-clause-none
returns-in_default-clause-none c =
    let was : c.try_get_one.result ≡ Ok (Some c.in-Ok-Some.number) = c.in-Ok-Some.is ∙ ap Ok c.in-Ok-Some.field-0-is in
    no_option 64 Reads (λ t x h. h.0) (found_of c.args.matches.now) c.args.id.now c.try_get_one.result c.try_get_one.ensures.none c.try_get_one.ensures.value c.args.least c.args.most (omega arith) (some_there c.try_get_one.result c.in-Ok-Some.number was)
    (refused_option c.try_get_one.result c.in-Ok-Some.number c.lies_within.result c.args.least c.args.most was c.lies_within.ensures.1 c.if-lies_within.false)

pub returns-in_default-2-clause-none : goal.returns-in_default-2-clause-none
returns-in_default-2-clause-none c =
    let was = c.in_default.is in
    no_option 64 Reads (λ t x h. h.0) (found_of c.args.matches.now) c.args.id.now c.try_get_one.result c.try_get_one.ensures.none c.try_get_one.ensures.value c.args.least c.args.most (omega arith) (λ e. cc) (λ n is low high. cc)
