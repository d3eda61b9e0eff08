-- What clap makes of the program's words, of which the first is the program's name.
use Rattle.std.specs.Prelude.{◌≡◌, ◌≢◌, ℕ, ◌≤◌, pos, List, [], ◌∷◌, ◌++◌, map, Option, Some, None, option_map, Bool, true, false, ◌&&◌, ◌||◌, not, IsTrue, codes}
use Rattle.std.specs.Borrow.{Bor}
use Rattle.std.specs.List.{fold}
use Rattle.std.specs.Str.{bytes_eq}
use Rattle.std.specs.Str.Parse.{IsNumeral, digits_value, without_leading_plus}
use Rattle.clap.specs.Words.{App, Row, Rule, Shape, Text, new_app, new_rule, with_rule, with_subcommand, subcommand_of, one_of, first_of}
use Rattle.clap.specs.Faults.{fault_of}
use Rattle.clap.specs.Kinds.{IsAmong}
use Rattle.clap.specs.declared.builder.value_parser.ValueParser.TheVariants as parser
use Rattle.clap.specs.declared.builder.action.ArgAction.TheVariants.{SetTrue}
use Rattle.clap.specs.declared.error.kind.ErrorKind.TheVariants.{DisplayHelp}
use Rattle.td_words.specs.declared.job.Job.{Job}
use Rattle.td_words.specs.declared.job.Job.TheVariants.{Batch, Run, Sim, Format, Feed, Show, Dump, Upgrade, Copy, States, Load, Stream, Plan, Help, Version, Faults, Language}

-- an argument with a value
abbrev pub valued_rule : Text → Rule
valued_rule id = record (new_rule id) { value_names = 1 }

-- a word that has to stand there
abbrev pub word_rule : Text → Rule
word_rule id = record (valued_rule id) { required = true }

-- a number that has to stand there, one that 32 bits hold
abbrev pub number_rule : Text → Rule
number_rule id = record (word_rule id) { parser = Some (parser.Unsigned 0 4294967295) }

-- an option with a text, as the name of a file, which may be left out
abbrev pub text_rule : Text → Rule
text_rule id = record (valued_rule id) { long = Some id }

-- an option with a number between these, which may be left out
abbrev pub option_rule : Text → ℕ → ℕ → Rule
option_rule id least most = record (text_rule id) { parser = Some (parser.Unsigned least most) }

-- `--workers W`, a number of 1 to 16, and 1 where it is not given
abbrev pub workers_rule : Rule
workers_rule = record (text_rule (codes "workers")) { parser = Some (parser.Signed (pos 1) (pos 16)); defaults = codes "1" ∷ [] }

-- `--picks LIST`, and `0` where it is not given
abbrev pub picks_rule : Rule
picks_rule = record (text_rule (codes "picks")) { defaults = codes "0" ∷ [] }

-- a flag, as `--progress`
abbrev pub flag_rule : Text → Rule
flag_rule id = record (new_rule id) { long = Some id; action = Some SetTrue }

-- `--closures FILE`
abbrev pub closures_rule : Rule
closures_rule = text_rule (codes "closures")

-- the words DISK and PLAN, and the numbers M, N and K
abbrev pub file_rules : List Rule
file_rules = word_rule (codes "disk") ∷ word_rule (codes "plan") ∷ []

abbrev pub shape_rules : List Rule
shape_rules = number_rule (codes "m") ∷ number_rule (codes "n") ∷ number_rule (codes "k") ∷ []

-- the flags of `stream`
abbrev pub stream_flag_rules : List Rule
stream_flag_rules = flag_rule (codes "progress") ∷ flag_rule (codes "marks") ∷ flag_rule (codes "refuse") ∷ flag_rule (codes "at") ∷ flag_rule (codes "hold") ∷ flag_rule (codes "room") ∷ flag_rule (codes "ask") ∷ []

-- a subcommand: its name, and the rules of its arguments in turn
abbrev pub Subcommand : Type 0
Subcommand = Text × List Rule

-- the subcommands, in the order in which help lists them
abbrev pub batch_to_sim : List Subcommand
batch_to_sim =
    (codes "batch", closures_rule ∷ [])
    ∷ (codes "run", workers_rule ∷ closures_rule ∷ [])
    ∷ (codes "sim", workers_rule ∷ picks_rule ∷ closures_rule ∷ [])
    ∷ []

abbrev pub format_to_upgrade : List Subcommand
format_to_upgrade =
    (codes "format", file_rules ++ shape_rules ++ closures_rule ∷ [])
    ∷ (codes "feed", file_rules ++ workers_rule ∷ [])
    ∷ (codes "show", file_rules ++ flag_rule (codes "live") ∷ [])
    ∷ (codes "dump", file_rules ++ flag_rule (codes "live") ∷ flag_rule (codes "at") ∷ [])
    ∷ (codes "upgrade", file_rules)
    ∷ []

abbrev pub copy_to_load : List Subcommand
copy_to_load =
    (codes "copy", file_rules ++ word_rule (codes "new") ∷ shape_rules ++ option_rule (codes "until") 0 9223372036854775807 ∷ [])
    ∷ (codes "states", file_rules)
    ∷ (codes "load", word_rule (codes "new") ∷ word_rule (codes "plan") ∷ shape_rules ++ text_rule (codes "map") ∷ closures_rule ∷ [])
    ∷ []

abbrev pub stream_and_plan : List Subcommand
stream_and_plan =
    (codes "stream", file_rules ++ workers_rule ∷ option_rule (codes "cut-every") 1 65536 ∷ option_rule (codes "most") 1 9223372036854775807 ∷ stream_flag_rules ++ text_rule (codes "status") ∷ text_rule (codes "copies") ∷ [])
    ∷ (codes "plan", word_rule (codes "plan") ∷ flag_rule (codes "dot") ∷ closures_rule ∷ [])
    ∷ []

-- a subcommand, as clap has it
abbrev pub leaf_shape : Subcommand → Shape
leaf_shape s = (fold with_rule (new_app s.0) s.1).top

-- `td`, which needs one of them
abbrev pub alone : App
alone = let named = new_app (codes "td") in record named { top = record named.top { subcommand_required = true } }

abbrev pub td : App
td = fold with_subcommand alone (map leaf_shape (batch_to_sim ++ format_to_upgrade ++ copy_to_load ++ stream_and_plan))

-- the words that ask for the program's name and version, `--version` or `-V`, and those that ask for the text on faults, `help faults`,
-- and for that on closures in text, `help closures`: clap has no part in these
abbrev pub asks_version : List Text → Bool
asks_version (name ∷ word ∷ []) = bytes_eq word (codes "--version") || bytes_eq word (codes "-V")
asks_version _ = false

abbrev pub asks_faults : List Text → Bool
asks_faults (name ∷ help ∷ about ∷ []) = bytes_eq help (codes "help") && bytes_eq about (codes "faults")
asks_faults _ = false

abbrev pub asks_language : List Text → Bool
asks_language (name ∷ help ∷ about ∷ []) = bytes_eq help (codes "help") && bytes_eq about (codes "closures")
asks_language _ = false

-- the number that a subcommand has at a name, where clap says so: in decimal, as Rust reads it, and between these
abbrev pub IsNumber : Text → ℕ → ℕ → List Row → ℕ → Type 0
IsNumber id least most rows number = (text : List ℕ) × (one_of id rows ≡ Some text)
    × IsNumeral 10 (without_leading_plus text) × (number ≡ digits_value 10 (without_leading_plus text)) × (least ≤ number) × (number ≤ most)

-- the number of shards, 1 to 16
abbrev pub IsWorkers : List Row → ℕ → Type 0
IsWorkers = IsNumber (codes "workers") 1 16

-- the number of an option, or none where it is left out
abbrev pub IsOption : Text → ℕ → ℕ → List Row → Option ℕ → Type 0
IsOption id least most rows (Some number) = IsNumber id least most rows number
IsOption id least most rows None = one_of id rows ≡ None

-- the number of epochs after which there is a cut, 1 to 65536, or none
abbrev pub IsCutEvery : List Row → Option ℕ → Type 0
IsCutEvery = IsOption (codes "cut-every") 1 65536

-- the last epoch that is copied, 0 to 2^63 - 1, or none
abbrev pub IsUntil : List Row → Option ℕ → Type 0
IsUntil = IsOption (codes "until") 0 9223372036854775807

-- the number of deliveries that an epoch may take, 1 to 2^63 - 1, or none
abbrev pub IsMost : List Row → Option ℕ → Type 0
IsMost = IsOption (codes "most") 1 9223372036854775807

-- whether a flag is given, which clap has as a text
abbrev pub flag_text : Bool → Text
flag_text true = codes "true"
flag_text false = codes "false"

abbrev pub IsFlag : Text → List Row → Bool → Type 0
IsFlag id rows is_given = one_of id rows ≡ Some (flag_text is_given)

-- the name of the file that an option has, or none where it is left out
abbrev pub IsFile : Text → List Row → Option (Bor Text) → Type 0
IsFile id rows file = first_of id rows ≡ option_map (λ f. f.now) file

-- the file with closures in text, or none
abbrev pub IsClosures : List Row → Option (Bor Text) → Type 0
IsClosures = IsFile (codes "closures")

-- the list of renamed vertices, or none
abbrev pub IsMap : List Row → Option (Bor Text) → Type 0
IsMap = IsFile (codes "map")

-- the name of a job's subcommand, and its values there
abbrev pub name_of : Job → Text
name_of (Batch closures) = codes "batch"
name_of (Run workers closures) = codes "run"
name_of (Sim workers picks closures) = codes "sim"
name_of (Format disk plan m n k closures) = codes "format"
name_of (Feed disk plan workers) = codes "feed"
name_of (Show disk plan live) = codes "show"
name_of (Dump disk plan live at) = codes "dump"
name_of (Upgrade disk plan) = codes "upgrade"
name_of (Copy disk plan new m n k until) = codes "copy"
name_of (States disk plan) = codes "states"
name_of (Load new plan m n k map closures) = codes "load"
name_of (Stream disk plan workers cut_every most progress marks refuse at hold room ask status copies) = codes "stream"
name_of (Plan plan dot closures) = codes "plan"
name_of (Help text) = codes "help"
name_of Version = codes "version"
name_of Faults = codes "faults"
name_of Language = codes "closures"

-- outputs are held only where epochs are marked
abbrev pub may_hold : Bool → Bool → Bool
may_hold marks hold = marks || not hold

-- the files DISK and PLAN, and the numbers M, N and K
abbrev pub HasFiles : List Row → Bor Text → Bor Text → Type 0
HasFiles rows disk plan = (first_of (codes "disk") rows ≡ Some disk.now) × (first_of (codes "plan") rows ≡ Some plan.now)

abbrev pub HasShape : List Row → ℕ → ℕ → ℕ → Type 0
HasShape rows m n k = IsNumber (codes "m") 0 4294967295 rows m × IsNumber (codes "n") 0 4294967295 rows n × IsNumber (codes "k") 0 4294967295 rows k

abbrev pub HasValues : List Row → Job → Type 0
HasValues rows (Batch closures) = IsClosures rows closures
HasValues rows (Run workers closures) = IsWorkers rows workers × IsClosures rows closures
HasValues rows (Sim workers picks closures) = IsWorkers rows workers × (first_of (codes "picks") rows ≡ Some picks.now) × IsClosures rows closures
HasValues rows (Format disk plan m n k closures) = HasFiles rows disk plan × HasShape rows m n k × IsClosures rows closures
HasValues rows (Feed disk plan workers) = HasFiles rows disk plan × IsWorkers rows workers
HasValues rows (Show disk plan live) = HasFiles rows disk plan × IsFlag (codes "live") rows live
HasValues rows (Dump disk plan live at) = HasFiles rows disk plan × IsFlag (codes "live") rows live × IsFlag (codes "at") rows at
HasValues rows (Upgrade disk plan) = HasFiles rows disk plan
HasValues rows (Copy disk plan new m n k until) = HasFiles rows disk plan × (first_of (codes "new") rows ≡ Some new.now) × HasShape rows m n k × IsUntil rows until
HasValues rows (States disk plan) = HasFiles rows disk plan
HasValues rows (Load new plan m n k map closures) = (first_of (codes "new") rows ≡ Some new.now) × (first_of (codes "plan") rows ≡ Some plan.now) × HasShape rows m n k × IsMap rows map × IsClosures rows closures
HasValues rows (Stream disk plan workers cut_every most progress marks refuse at hold room ask status copies) = HasFiles rows disk plan × IsWorkers rows workers × IsCutEvery rows cut_every × IsMost rows most
    × IsFlag (codes "progress") rows progress × IsFlag (codes "marks") rows marks × IsFlag (codes "refuse") rows refuse × IsFlag (codes "at") rows at × IsFlag (codes "hold") rows hold × IsFlag (codes "room") rows room × IsFlag (codes "ask") rows ask
    × IsFile (codes "status") rows status × IsFile (codes "copies") rows copies × (may_hold marks hold ≡ true)
HasValues rows (Plan plan dot closures) = (first_of (codes "plan") rows ≡ Some plan.now) × IsFlag (codes "dot") rows dot × IsClosures rows closures
HasValues rows (Help text) = ⊥
HasValues rows Version = ⊥
HasValues rows Faults = ⊥
HasValues rows Language = ⊥

-- the subcommand at which a parse arrived is the job's, and has its values
abbrev pub IsNamed : Option (Text × List Row) → Job → Type 0
IsNamed met job = (rows : List Row) × (met ≡ Some (name_of job, rows)) × HasValues rows job

-- clap takes the words, and they name the job; or they ask for help, for the version, or for a text of the program
abbrev pub IsAsked : List (List ℕ) → Job → Type 0
IsAsked words (Help text) = IsAmong DisplayHelp (fault_of td words)
IsAsked words Version = IsTrue (asks_version words)
IsAsked words Faults = IsTrue (asks_faults words)
IsAsked words Language = IsTrue (asks_language words)
IsAsked words job = (fault_of td words ≡ []) × IsNamed (subcommand_of td words) job

-- a number of shards is 1 to 16
abbrev pub HasWorkers : Job → Type 0
HasWorkers (Run workers closures) = (1 ≤ workers) × (workers ≤ 16)
HasWorkers (Sim workers picks closures) = (1 ≤ workers) × (workers ≤ 16)
HasWorkers (Feed disk plan workers) = (1 ≤ workers) × (workers ≤ 16)
HasWorkers (Stream disk plan workers cut_every most progress marks refuse at hold room ask status copies) = (1 ≤ workers) × (workers ≤ 16)
HasWorkers _ = Unit {0}

-- the words ask for no job, nor for help alone
abbrev pub IsNotTaken : List (List ℕ) → Type 0
IsNotTaken words = ((job : Job) → IsNamed (subcommand_of td words) job → fault_of td words ≡ [] → ⊥) × (fault_of td words ≢ DisplayHelp ∷ [])

-- nor for another text
abbrev pub IsRefused : List (List ℕ) → Type 0
IsRefused words = IsNotTaken words × (asks_version words ≡ false) × (asks_faults words ≡ false) × (asks_language words ≡ false)
