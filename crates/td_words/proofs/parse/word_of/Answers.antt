use Rattle.std.proofs.Common.{◌≡◌, ◌∙◌, sym, Option, Some, None, IfSome, IfNone, option_map}
use Rattle.std.specs.Borrow.{Bor}
use Rattle.clap.specs.Words.{Text, found_of, first_of, first_value, rows_of}
use Rattle.clap.proofs.WalkLemmas.{first_value-rows}
use Rattle.td_words.proofs.parse.word_of.Goals as goal

pub returns-clause-some : goal.returns-clause-some
returns-clause-some c = by c.get_str.result c.get_str.ensures
  where
    by : (o : Option (Bor Text)) → option_map (λ s. s.now) o ≡ first_value (found_of c.args.matches.now) c.args.id.now → IfSome o (λ word. first_of c.args.id.now (rows_of (found_of c.args.matches.now)) ≡ Some word.now)
    by None e = tt
    by (Some word) e = sym (first_value-rows (found_of c.args.matches.now) c.args.id.now) ∙ sym e

pub returns-clause-none : goal.returns-clause-none
returns-clause-none c = by c.get_str.result c.get_str.ensures
  where
    by : (o : Option (Bor Text)) → option_map (λ s. s.now) o ≡ first_value (found_of c.args.matches.now) c.args.id.now → IfNone o (first_of c.args.id.now (rows_of (found_of c.args.matches.now)) ≡ None)
    by (Some word) e = tt
    by None e = sym (first_value-rows (found_of c.args.matches.now) c.args.id.now) ∙ sym e
