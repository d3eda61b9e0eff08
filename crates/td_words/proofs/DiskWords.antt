-- What clap computes of the words of `td format` and `td feed`. It stands apart from the proof of `words`, since it takes long.
use Rattle.std.proofs.Common.{◌≡◌, refl, true, Some, codes, option_map}
use Rattle.clap.specs.Words.{takes, subcommand_of}
use Rattle.clap.proofs.OnLiterals.{clap_on_literals}
use Rattle.td_words.specs.Command.{td}
use Rattle.td_words.specs.Examples.{format_words, feed_words}
use Rattle.td_words.proofs.Asked.{format_values, given_format, feed_values, given_feed}

pub format_is_taken : takes td format_words ≡ true
unfolding clap_on_literals
format_is_taken = refl

pub format_is_named : option_map (λ p. p.0) (subcommand_of td format_words) ≡ Some (codes "format")
unfolding clap_on_literals
format_is_named = refl

pub format_has : option_map (λ p. format_values p.1) (subcommand_of td format_words) ≡ Some given_format
unfolding clap_on_literals
format_has = refl

pub feed_is_taken : takes td feed_words ≡ true
unfolding clap_on_literals
feed_is_taken = refl

pub feed_is_named : option_map (λ p. p.0) (subcommand_of td feed_words) ≡ Some (codes "feed")
unfolding clap_on_literals
feed_is_named = refl

-- with no number of shards, 1
pub feed_has : option_map (λ p. feed_values p.1) (subcommand_of td feed_words) ≡ Some given_feed
unfolding clap_on_literals
feed_has = refl
