-- What clap computes of the words `td batch` and `td run`, and of `td batch` with closures in text. It stands apart from the proof of `words`, since it takes long.
use Rattle.std.proofs.Common.{◌≡◌, refl, true, Some, None, codes, option_map}
use Rattle.clap.specs.Words.{is_simple, takes, subcommand_of, first_of}
use Rattle.clap.specs.Faults.{is_simple_and_free}
use Rattle.clap.proofs.OnLiterals.{clap_on_literals}
use Rattle.td_words.specs.Command.{td}
use Rattle.td_words.specs.Examples.{batch_words, written_words, run_words}
use Rattle.td_words.proofs.Asked.{run_values, given_run}

pub td_is_simple : is_simple td ≡ true
unfolding clap_on_literals
td_is_simple = refl

pub td_is_free : is_simple_and_free td ≡ true
unfolding clap_on_literals
td_is_free = refl

pub batch_is_taken : takes td batch_words ≡ true
unfolding clap_on_literals
batch_is_taken = refl

pub batch_is_named : option_map (λ p. p.0) (subcommand_of td batch_words) ≡ Some (codes "batch")
unfolding clap_on_literals
batch_is_named = refl

pub batch_has : option_map (λ p. first_of (codes "closures") p.1) (subcommand_of td batch_words) ≡ Some None
unfolding clap_on_literals
batch_has = refl

pub written_is_taken : takes td written_words ≡ true
unfolding clap_on_literals
written_is_taken = refl

pub written_is_named : option_map (λ p. p.0) (subcommand_of td written_words) ≡ Some (codes "batch")
unfolding clap_on_literals
written_is_named = refl

pub written_has : option_map (λ p. first_of (codes "closures") p.1) (subcommand_of td written_words) ≡ Some (Some (codes "c"))
unfolding clap_on_literals
written_has = refl

pub run_is_taken : takes td run_words ≡ true
unfolding clap_on_literals
run_is_taken = refl

pub run_is_named : option_map (λ p. p.0) (subcommand_of td run_words) ≡ Some (codes "run")
unfolding clap_on_literals
run_is_named = refl

-- with no number of shards, 1
pub run_has : option_map (λ p. run_values p.1) (subcommand_of td run_words) ≡ Some given_run
unfolding clap_on_literals
run_has = refl
