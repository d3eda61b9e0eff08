-- What clap says of a parse by a command that is `td`.
use Rattle.std.proofs.Common.{◌≡◌, ◌∙◌, ◌⊎◌, [], sym, ap, subst, List, Option, true}
use Rattle.clap.specs.Words.{App, Row, Text, is_simple, takes, subcommand_of}
use Rattle.clap.specs.Faults.{fault_of, is_simple_and_free}
use Rattle.clap.specs.Kinds.{IsAmong}
use Rattle.clap.specs.declared.error.kind.ErrorKind.{ErrorKind}
use Rattle.clap.specs.declared.error.kind.ErrorKind.TheVariants.{OutOfMemory}
use Rattle.td_words.specs.Command.{td}
use Rattle.td_words.proofs.BatchWords.{td_is_simple, td_is_free}

module _ (app : App) (is : app ≡ td) (given : List Text) where
  pub rows_met : (met : Option (Text × List Row)) → (is_simple app ≡ true → met ≡ subcommand_of app given) → met ≡ subcommand_of td given
  rows_met met at = at (ap is_simple is ∙ td_is_simple) ∙ ap (λ a. subcommand_of a given) is

  pub faultless : (is_simple_and_free app ≡ true → fault_of app given ≡ []) → fault_of td given ≡ []
  faultless at = ap (λ a. fault_of a given) (sym is) ∙ at (ap is_simple_and_free is ∙ td_is_free)

  pub fault_met : (kind : ErrorKind) → (is_simple_and_free app ≡ true → (kind ≡ OutOfMemory) ⊎ IsAmong kind (fault_of app given)) → (kind ≡ OutOfMemory) ⊎ IsAmong kind (fault_of td given)
  fault_met kind at = subst (λ a. (kind ≡ OutOfMemory) ⊎ IsAmong kind (fault_of a given)) is (at (ap is_simple_and_free is ∙ td_is_free))

  pub passes_by : (kind : ErrorKind) → (takes app given ≡ true → kind ≡ OutOfMemory) → takes td given ≡ true → kind ≡ OutOfMemory
  passes_by kind at taken = at (ap (λ a. takes a given) is ∙ taken)
