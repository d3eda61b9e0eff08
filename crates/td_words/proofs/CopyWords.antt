-- What clap computes of the words of `td copy`. It stands apart from the proof of `words`, since it takes long.
use Rattle.std.proofs.Common.{◌≡◌, refl, true, Some, codes, option_map}
use Rattle.clap.specs.Words.{takes, subcommand_of}
use Rattle.clap.proofs.OnLiterals.{clap_on_literals}
use Rattle.td_words.specs.Command.{td}
use Rattle.td_words.specs.Examples.{until_words}
use Rattle.td_words.proofs.CopyAsked.{copy_values, given_until}

pub until_is_taken : takes td until_words ≡ true
unfolding clap_on_literals
until_is_taken = refl

pub until_is_named : option_map (λ p. p.0) (subcommand_of td until_words) ≡ Some (codes "copy")
unfolding clap_on_literals
until_is_named = refl

pub until_has : option_map (λ p. copy_values p.1) (subcommand_of td until_words) ≡ Some given_until
unfolding clap_on_literals
until_has = refl
