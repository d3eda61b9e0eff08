-- Kinds of jobs, in the words of private functions. No public contract cites this file.
use Rattle.std.specs.Prelude.{◌≡◌, List, true, false}
use Rattle.clap.specs.Words.{Row, Text}
use Rattle.td_words.specs.declared.job.Job.{Job}
use Rattle.td_words.specs.declared.job.Job.TheVariants.{Help, Version, Faults, Language}
use Rattle.td_words.specs.Command.{name_of, HasValues, asks_version, asks_faults, asks_language}

-- a job that prints a text
abbrev pub IsHelp : Job → Type 0
IsHelp (Help text) = Unit {0}
IsHelp _ = ⊥

-- a job that prints a text of the program, which the words ask for
abbrev pub IsTextAsked : List Text → Job → Type 0
IsTextAsked words Version = asks_version words ≡ true
IsTextAsked words Faults = (asks_version words ≡ false) × (asks_faults words ≡ true)
IsTextAsked words Language = (asks_version words ≡ false) × (asks_faults words ≡ false) × (asks_language words ≡ true)
IsTextAsked words _ = ⊥

-- a job of the subcommand of this name, with these values
abbrev pub IsOf : Text → List Row → Job → Type 0
IsOf name rows job = (name_of job ≡ name) × HasValues rows job
