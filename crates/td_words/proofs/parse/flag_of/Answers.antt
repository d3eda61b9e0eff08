use Rattle.std.proofs.Common.{◌≡◌, Bool, Option, Some, None, IfSome, IfNone, refl}
use Rattle.clap.specs.Words.{found_of, rows_of}
use Rattle.td_words.specs.Command.{IsFlag}
use Rattle.td_words.proofs.StreamAsked.{flag_read, no_flag}
use Rattle.td_words.proofs.parse.flag_of.Goals as goal

pub returns-clause-some : goal.returns-clause-some
returns-clause-some c = by c.get_one.result refl
  where
    by : (o : Option Bool) → c.get_one.result ≡ o → IfSome o (IsFlag c.args.id.now (rows_of (found_of c.args.matches.now)))
    by None e = tt
    by (Some told) e = flag_read _ (found_of c.args.matches.now) c.args.id.now c.get_one.result c.get_one.ensures.none c.get_one.ensures.value told e

pub returns-clause-none : goal.returns-clause-none
returns-clause-none c = by c.get_one.result refl
  where
    by : (o : Option Bool) → c.get_one.result ≡ o → IfNone o ((is_given : Bool) → IsFlag c.args.id.now (rows_of (found_of c.args.matches.now)) is_given → ⊥)
    by (Some told) e = tt
    by None e = no_flag _ (found_of c.args.matches.now) c.args.id.now c.get_one.result c.get_one.ensures.none c.get_one.ensures.value e
