use Rattle.std.proofs.Common.{◌≡◌, ℕ, List, Option, Some, None, Result, IfSome, IfNone, refl, arith}
use Rattle.std.specs.Str.Parse.{ParsesUnsigned, ExplainsUnsignedError, HasUnsignedDigitsIfOk}
use Rattle.std.specs.declared.num.ParseIntError.{ParseIntError}
use Rattle.clap.specs.Words.{found_of, rows_of}
use Rattle.td_words.specs.Command.{IsNumber}
use Rattle.td_words.proofs.Asked.{number_read, no_number}
use Rattle.td_words.proofs.parse.number_of.Goals as goal

-- how a `u32` is read
abbrev Reads : List ℕ → Result ℕ ParseIntError → Type 0
Reads bs r = ParsesUnsigned 32 10 bs r × ExplainsUnsignedError 10 bs r × HasUnsignedDigitsIfOk bs r

pub returns-clause-some : goal.returns-clause-some
returns-clause-some c = by c.get_one.result refl
  where
    by : (o : Option ℕ) → c.get_one.result ≡ o → IfSome o (IsNumber c.args.id.now 0 4294967295 (rows_of (found_of c.args.matches.now)))
    by None e = tt
    by (Some n) e = number_read 32 Reads (λ t x h. h.0) (found_of c.args.matches.now) c.args.id.now c.get_one.result c.get_one.ensures.none c.get_one.ensures.value 0 4294967295 n e (λ fits. (omega arith, omega arith))

pub returns-clause-none : goal.returns-clause-none
returns-clause-none c = by c.get_one.result refl
  where
    by : (o : Option ℕ) → c.get_one.result ≡ o → IfNone o ((number : ℕ) → IsNumber c.args.id.now 0 4294967295 (rows_of (found_of c.args.matches.now)) number → ⊥)
    by (Some n) e = tt
    by None e = no_number 32 Reads (λ t x h. h.0) (found_of c.args.matches.now) c.args.id.now c.get_one.result c.get_one.ensures.none c.get_one.ensures.value 0 4294967295 (omega arith) (λ n is low high. cc)
