-- What clap computes of the words of `td stream`. It stands apart from the proof of `words`, since it takes long.
use Rattle.std.proofs.Common.{◌≡◌, refl, true, false, Some, None, codes, option_map}
use Rattle.clap.specs.Words.{takes, subcommand_of}
use Rattle.clap.proofs.OnLiterals.{clap_on_literals}
use Rattle.td_words.specs.Command.{td}
use Rattle.td_words.specs.Examples.{stream_words, cutting_words, telling_words}
use Rattle.td_words.proofs.StreamAsked.{stream_values, given_stream}

pub stream_is_taken : takes td stream_words ≡ true
unfolding clap_on_literals
stream_is_taken = refl

pub stream_is_named : option_map (λ p. p.0) (subcommand_of td stream_words) ≡ Some (codes "stream")
unfolding clap_on_literals
stream_is_named = refl

-- with no number of shards, 1, with no numbers of epochs and deliveries, none, and with no flag, false
pub stream_has : option_map (λ p. stream_values p.1) (subcommand_of td stream_words) ≡ Some (given_stream None None false false false false false false false None None)
unfolding clap_on_literals
stream_has = refl

pub cutting_is_taken : takes td cutting_words ≡ true
unfolding clap_on_literals
cutting_is_taken = refl

pub cutting_is_named : option_map (λ p. p.0) (subcommand_of td cutting_words) ≡ Some (codes "stream")
unfolding clap_on_literals
cutting_is_named = refl

pub cutting_has : option_map (λ p. stream_values p.1) (subcommand_of td cutting_words) ≡ Some (given_stream (Some (codes "4")) (Some (codes "5")) false false false false false false false None None)
unfolding clap_on_literals
cutting_has = refl

pub telling_is_taken : takes td telling_words ≡ true
unfolding clap_on_literals
telling_is_taken = refl

pub telling_is_named : option_map (λ p. p.0) (subcommand_of td telling_words) ≡ Some (codes "stream")
unfolding clap_on_literals
telling_is_named = refl

pub telling_has : option_map (λ p. stream_values p.1) (subcommand_of td telling_words) ≡ Some (given_stream None None true true true true true true true (Some (codes "s")) (Some (codes "f")))
unfolding clap_on_literals
telling_has = refl
