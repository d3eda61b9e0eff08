-- What the matches of a parse ask for.
use Rattle.std.proofs.Common.{◌≡◌, ◌≢◌, IsTrue, false, ◌⊎◌, inl, inr, ℕ, ◌<◌, ◌≤◌, ◌^◌, Bool, List, [], Option, Some, None, option_map, Result, Ok, Err, IfOk, IfErr, IfNone, refl, ap, ap₂, sym, ◌∙◌, subst, arith, codes, lit<}
use Rattle.std.specs.Borrow.{Bor}
use Rattle.std.specs.Str.Parse.{ParsesUnsigned, IsNumeral, digits_value, without_leading_plus}
use Rattle.clap.specs.declared.parser.matches.Found.{Found}
use Rattle.clap.specs.declared.error.kind.ErrorKind.{ErrorKind}
use Rattle.clap.specs.declared.error.kind.ErrorKind.TheVariants.{DisplayHelp, OutOfMemory}
use Rattle.clap.specs.Matches.{one_text, ReadsOne}
use Rattle.clap.specs.Words.{Row, Text, one_of, first_of, rows_of, subcommand_of}
use Rattle.clap.proofs.WalkLemmas.{one_text-rows}
use Rattle.clap.specs.Faults.{fault_of}
use Rattle.clap.specs.Kinds.{IsAmong}
use Rattle.td_words.specs.declared.job.Job.{Job}
use Rattle.td_words.specs.declared.job.Job.TheVariants.{Batch, Run, Sim, Format, Feed, Stream, Help, Version, Faults, Language}
use Rattle.td_words.specs.declared.job.WordsError.{WordsError}
use Rattle.td_words.specs.declared.job.WordsError.TheVariants.{Words, Memory}
use Rattle.td_words.specs.Jobs.{IsHelp, IsOf}
use Rattle.td_words.specs.Command.{td, IsNumber, IsClosures, HasShape, IsNamed, HasValues, HasWorkers, IsAsked, IsNotTaken, name_of}
use Rattle.td_words.specs.Examples.{IsBatch, IsFormat, IsFeed}
use Rattle.td_words.proofs.Only.{only_batch, only_feed, only_format, only_run}

-- a number, as it is read
module _ {E : Type 0} (bits : ℕ) (Reads : List ℕ → Result ℕ E → Type 0) (numbers : (t : List ℕ) (x : Result ℕ E) → Reads t x → ParsesUnsigned bits 10 t x) (f : Found) (id : Text) (r : Option ℕ)
    (none : one_text f id ≡ None → r ≡ None) (value : (t : List ℕ) → one_text f id ≡ Some t → ReadsOne Reads t r) (least most : ℕ) where
  pub number_read : (n : ℕ) → r ≡ Some n → (n < 2 ^ bits → (least ≤ n) × (n ≤ most)) → IsNumber id least most (rows_of f) n
  number_read n is within = by (one_text f id) refl
    where
      by : (o : Option (List ℕ)) → one_text f id ≡ o → IsNumber id least most (rows_of f) n
      by None e = let lacks = none e in absurd cc
      by (Some t) e =
          let h = numbers t (Ok n) (subst (ReadsOne Reads t) is (value t e)) in
          let lies = within (subst (λ d. d < 2 ^ bits) (sym h.1) h.0.1) in
          (t, sym (one_text-rows f id) ∙ e, h.0.0, h.1, lies.0, lies.1)

  pub no_number : most < 2 ^ bits → ((n : ℕ) → r ≡ Some n → least ≤ n → n ≤ most → ⊥) → (n : ℕ) → IsNumber id least most (rows_of f) n → ⊥
  no_number fits lacks n is = by r refl (value is.0 (one_text-rows f id ∙ is.1))
    where
      by : (o : Option ℕ) → r ≡ o → ReadsOne Reads is.0 o → ⊥
      by (Some v) e h =
          let read = numbers is.0 (Ok v) h in let same : v ≡ n = read.1 ∙ sym is.3 in
          lacks n (e ∙ ap Some same) is.4 is.5
      by None e h = let d = is.3 in let upper = is.5 in numbers is.0 (Err h.0) h.1 (is.2, omega (arith, d, upper, fits))

-- no number is read where there is none, nor where a test of the bounds refuses the one that is there
pub none_there : (r : Option ℕ) → r ≡ None → (n : ℕ) → r ≡ Some n → ⊥
none_there r is n other = cc

pub refused_there : (r : Option ℕ) (v : ℕ) (test : Bool) (least most : ℕ) → r ≡ Some v → ((least ≤ v) × (v ≤ most) → IsTrue test) → test ≡ false → (n : ℕ) → r ≡ Some n → least ≤ n → n ≤ most → ⊥
refused_there r v test least most is passes fails n other low high =
    let same : n ≡ v = cc in
    let passed = passes (subst (λ m. least ≤ m) same low, subst (λ m. m ≤ most) same high) in cc

-- where there is nothing
pub when_none : {A X : Type 0} (o : Option A) → o ≡ None → X → IfNone o X
when_none {A} {X} o e x = subst (λ o. IfNone o X) (sym e) x

-- the rows of a subcommand of a name
pub met_some : (o : Option (Text × List Row)) (name : Text) → option_map (λ p. p.0) o ≡ Some name → (rows : List Row) × (o ≡ Some (name, rows))
met_some None name e = cc
met_some (Some p) name e = let a : p.0 ≡ name = cc in (p.1, λ i. Some (a i, p.1))

-- a job that is named is one of the subcommand that is met
pub is_of : (met : Option (Text × List Row)) (name : Text) (rows : List Row) → met ≡ Some (name, rows) → (job : Job) → IsNamed met job → IsOf name rows job
is_of met name rows is job n =
    let e = sym n.1 ∙ is in
    let a : name_of job ≡ name = let f : Some (name_of job) ≡ Some name = ap (option_map (λ p. p.0)) e in cc in
    let b : n.0 ≡ rows = let f : Some n.0 ≡ Some rows = ap (option_map (λ p. p.1)) e in cc in
    (a, subst (λ l. HasValues l job) b n.2)

-- a parse that takes the words is refused for want of memory alone
pub only_memory : (r : Result Job WordsError) (kind : ErrorKind) → IfOk r (λ job. IsHelp job × (kind ≡ DisplayHelp)) → IfErr r (λ e. (e ≡ Memory) ⊎ ((e ≡ Words) × (kind ≢ DisplayHelp) × (kind ≢ OutOfMemory))) → kind ≡ OutOfMemory → r ≡ Err Memory
only_memory (Ok job) kind ok err e = let h = ok.1 in absurd cc
only_memory (Err error) kind ok err e = elim err [ inl memory ↦ ap Err memory | inr h ↦ absurd (h.2 e) ]

-- a value that is lacking
pub lacks : (id : Text) (rows : List Row) (text : Text) → first_of id rows ≡ None → first_of id rows ≡ Some text → ⊥
lacks id rows text none some = cc

-- a job that is named, where clap takes the words
pub asked_by : (words : List (List ℕ)) (job : Job) → fault_of td words ≡ [] → IsNamed (subcommand_of td words) job → IsAsked words job
asked_by words (Help text) e n = absurd n.2
asked_by words Version e n = absurd n.2
asked_by words Faults e n = absurd n.2
asked_by words Language e n = absurd n.2
asked_by words _ e n = (e, n)

pub has_workers : (met : Option (Text × List Row)) (job : Job) → IsNamed met job → HasWorkers job
has_workers met (Run w c) n = (n.2.0.4, n.2.0.5)
has_workers met (Sim w picks c) n = (n.2.0.4, n.2.0.5)
has_workers met (Feed disk plan w) n = (n.2.1.4, n.2.1.5)
has_workers met (Stream disk plan w cut_every most progress marks refuse at hold room ask status copies) n = (n.2.1.4, n.2.1.5)
has_workers met _ n = tt

-- help is asked for, where the parse failed with help
pub helped_by : (words : List (List ℕ)) (r : Result Job WordsError) (kind : ErrorKind) → IfOk r (λ job. IsHelp job × (kind ≡ DisplayHelp)) → (kind ≡ OutOfMemory) ⊎ IsAmong kind (fault_of td words) → IfOk r (IsAsked words)
helped_by words (Err error) kind ok among = tt
helped_by words (Ok job) kind ok among = by job ok among
  where
    by : (job : Job) → IsHelp job × (kind ≡ DisplayHelp) → (kind ≡ OutOfMemory) ⊎ IsAmong kind (fault_of td words) → IsAsked words job
    by (Help text) h (inl memory) = let e = h.1 in cc
    by (Help text) h (inr a) = subst (λ k. IsAmong k (fault_of td words)) h.1 a
    by _ h a = absurd h.0

pub help_has_workers : (r : Result Job WordsError) (kind : ErrorKind) → IfOk r (λ job. IsHelp job × (kind ≡ DisplayHelp)) → IfOk r HasWorkers
help_has_workers (Err error) kind ok = tt
help_has_workers (Ok (Help text)) kind ok = tt
help_has_workers (Ok _) kind ok = absurd ok.0

pub refused_by : (words : List (List ℕ)) (r : Result Job WordsError) (kind : ErrorKind) → IfErr r (λ e. (e ≡ Memory) ⊎ ((e ≡ Words) × (kind ≢ DisplayHelp) × (kind ≢ OutOfMemory)))
    → (kind ≡ OutOfMemory) ⊎ IsAmong kind (fault_of td words) → IfErr r (λ e. (e ≡ Memory) ⊎ ((e ≡ Words) × IsNotTaken words))
refused_by words (Ok job) kind err among = tt
refused_by words (Err error) kind (inl memory) among = inl memory
refused_by words (Err error) kind (inr h) (inl memory) = absurd (h.2 memory)
refused_by words (Err error) kind (inr h) (inr among) = inr (h.0, ((λ job n none. subst (IsAmong kind) none among), (λ only. by (subst (IsAmong kind) only among))))
  where
    by : (kind ≡ DisplayHelp) ⊎ ⊥ → ⊥
    by (inl e) = h.1 e
    by (inr lacks) = lacks

-- words that name no job
pub none_named : (words : List (List ℕ)) → ((job : Job) → IsNamed (subcommand_of td words) job → ⊥) → fault_of td words ≡ [] → IsNotTaken words
none_named words lacks e = ((λ job n f. lacks job n), (λ only. let k = sym e ∙ only in cc))

-- the job that is named by what clap met at given words
pub met_of : (met : Option (Text × List Row)) (name : Text) (job : Job) → IsNamed met job → option_map (λ p. p.0) met ≡ Some name → (rows : List Row) × (met ≡ Some (name, rows)) × IsOf name rows job
met_of met name job n at = let m = met_some met name at in (m.0, m.1, is_of met name m.0 m.1 job n)

-- a value of what was met
pub value_met : {X : Type 0} (value : List Row → X) (x : X) (met : Option (Text × List Row)) (name : Text) (rows : List Row) → met ≡ Some (name, rows) → option_map (λ p. value p.1) met ≡ Some x → value rows ≡ x
value_met {X} value x met name rows is at =
    let here : Some (value rows) ≡ Some x = sym (ap (option_map (λ p. value p.1)) is) ∙ at in cc

-- a number that is written so
pub written : (id : Text) (least most : ℕ) (rows : List Row) (text : List ℕ) (n : ℕ) → IsNumber id least most rows n → one_of id rows ≡ Some text → n ≡ digits_value 10 (without_leading_plus text)
written id least most rows text n h at =
    let same : h.0 ≡ text = let there = h.1 in cc in h.3 ∙ ap (λ t. digits_value 10 (without_leading_plus t)) same

-- the file of an option that is left out
no_file : (rows : List Row) (file : Option (Bor Text)) → IsClosures rows file → first_of (codes "closures") rows ≡ None → file ≡ None
no_file rows None h e = refl
no_file rows (Some f) h e = absurd (lacks (codes "closures") rows f.now e h)

pub named_batch : (met : Option (Text × List Row)) (job : Job) → IsNamed met job → option_map (λ p. p.0) met ≡ Some (codes "batch") → option_map (λ p. first_of (codes "closures") p.1) met ≡ Some None → job ≡ Batch None
named_batch met job n name value =
    let m = met_of met (codes "batch") job n name in
    let only = only_batch m.0 job m.2 in
    only.1 ∙ ap Batch (no_file m.0 only.0 only.2 (value_met (first_of (codes "closures")) None met (codes "batch") m.0 m.1 value))

pub batch_met : (met : Option (Text × List Row)) → option_map (λ p. p.0) met ≡ Some (codes "batch") → option_map (λ p. first_of (codes "closures") p.1) met ≡ Some None → IsNamed met (Batch None)
batch_met met e value = let m = met_some met (codes "batch") e in (m.0, m.1, value_met (first_of (codes "closures")) None met (codes "batch") m.0 m.1 value)

abbrev pub RunValues : Type 0
RunValues = Option Text × Option Text

abbrev pub run_values : List Row → RunValues
run_values rows = (one_of (codes "workers") rows, first_of (codes "closures") rows)

abbrev pub given_run : RunValues
given_run = (Some (codes "1"), None)

pub named_run : (met : Option (Text × List Row)) (job : Job) → IsNamed met job → option_map (λ p. p.0) met ≡ Some (codes "run") → option_map (λ p. run_values p.1) met ≡ Some given_run → job ≡ Run 1 None
named_run met job n name values =
    let m = met_of met (codes "run") job n name in
    let only = only_run m.0 job m.2 in
    let v = value_met run_values given_run met (codes "run") m.0 m.1 values in
    let one_shard : only.0 ≡ 1 = written (codes "workers") 1 16 m.0 (codes "1") only.0 only.3 (ap (λ (x : RunValues). x.0) v) in
    only.2 ∙ ap₂ Run one_shard (no_file m.0 only.1 only.4 (ap (λ (x : RunValues). x.1) v))

-- a number of one digit, which is there
abbrev pub OneDigit : ℕ → Text → ℕ → Type 0
OneDigit radix text number = IsNumeral radix (without_leading_plus text) × (number ≡ digits_value radix (without_leading_plus text))

pub one : OneDigit 10 (codes "1") 1
one = ((omega arith, (lit< tt, tt)), refl)

pub two : OneDigit 10 (codes "2") 2
two = ((omega arith, (lit< tt, tt)), refl)

pub three : OneDigit 10 (codes "3") 3
three = ((omega arith, (lit< tt, tt)), refl)

pub four : OneDigit 10 (codes "4") 4
four = ((omega arith, (lit< tt, tt)), refl)

pub five : OneDigit 10 (codes "5") 5
five = ((omega arith, (lit< tt, tt)), refl)

pub number_there : (id : Text) (least most : ℕ) (rows : List Row) (text : Text) (n : ℕ) → one_of id rows ≡ Some text → OneDigit 10 text n → least ≤ n → n ≤ most → IsNumber id least most rows n
number_there id least most rows text n at digit low high = (text, at, digit.0, digit.1, low, high)

pub run_met : (met : Option (Text × List Row)) → option_map (λ p. p.0) met ≡ Some (codes "run") → option_map (λ p. run_values p.1) met ≡ Some given_run → IsNamed met (Run 1 None)
run_met met name values =
    let m = met_some met (codes "run") name in
    let v = value_met run_values given_run met (codes "run") m.0 m.1 values in
    (m.0, m.1, (number_there (codes "workers") 1 16 m.0 (codes "1") 1 (ap (λ (x : RunValues). x.0) v) one (omega arith) (omega arith), ap (λ (x : RunValues). x.1) v))

-- some reference to a text
abbrev pub to : Text → Bor Text
to text = record { ref_ptr = (0, 0); now = text }

-- a batch with closures in text
pub written_met : (met : Option (Text × List Row)) → option_map (λ p. p.0) met ≡ Some (codes "batch") → option_map (λ p. first_of (codes "closures") p.1) met ≡ Some (Some (codes "c")) → IsNamed met (Batch (Some (to (codes "c"))))
written_met met e value = let m = met_some met (codes "batch") e in (m.0, m.1, value_met (first_of (codes "closures")) (Some (codes "c")) met (codes "batch") m.0 m.1 value)

pub named_written : (met : Option (Text × List Row)) (job : Job) → IsNamed met job → option_map (λ p. p.0) met ≡ Some (codes "batch") → option_map (λ p. first_of (codes "closures") p.1) met ≡ Some (Some (codes "c")) → IsBatch (Some (codes "c")) job
named_written met job n name value =
    let m = met_of met (codes "batch") job n name in
    let only = only_batch m.0 job m.2 in
    subst (IsBatch (Some (codes "c"))) (sym only.1) (sym only.2 ∙ value_met (first_of (codes "closures")) (Some (codes "c")) met (codes "batch") m.0 m.1 value)

abbrev pub FormatValues : Type 0
FormatValues = Option Text × Option Text × Option Text × Option Text × Option Text × Option Text

abbrev pub format_values : List Row → FormatValues
format_values rows = (first_of (codes "disk") rows, first_of (codes "plan") rows, one_of (codes "m") rows, one_of (codes "n") rows, one_of (codes "k") rows, first_of (codes "closures") rows)

abbrev pub given_format : FormatValues
given_format = (Some (codes "d"), Some (codes "p"), Some (codes "4"), Some (codes "2"), Some (codes "3"), None)

-- the shape that is written so
pub shape_there : (rows : List Row) → one_of (codes "m") rows ≡ Some (codes "4") → one_of (codes "n") rows ≡ Some (codes "2") → one_of (codes "k") rows ≡ Some (codes "3") → HasShape rows 4 2 3
shape_there rows m n k = (
  number_there (codes "m") 0 4294967295 rows (codes "4") 4 m four (omega arith) (omega arith),
  number_there (codes "n") 0 4294967295 rows (codes "2") 2 n two (omega arith) (omega arith),
  number_there (codes "k") 0 4294967295 rows (codes "3") 3 k three (omega arith) (omega arith),
)

pub format_met : (met : Option (Text × List Row)) → option_map (λ p. p.0) met ≡ Some (codes "format") → option_map (λ p. format_values p.1) met ≡ Some given_format → IsNamed met (Format (to (codes "d")) (to (codes "p")) 4 2 3 None)
format_met met name values =
    let m = met_some met (codes "format") name in
    let v = value_met format_values given_format met (codes "format") m.0 m.1 values in (
      m.0,
      m.1,
      (
        (ap (λ (x : FormatValues). x.0) v, ap (λ (x : FormatValues). x.1) v),
        shape_there m.0 (ap (λ (x : FormatValues). x.2) v) (ap (λ (x : FormatValues). x.3) v) (ap (λ (x : FormatValues). x.4) v),
        ap (λ (x : FormatValues). x.5) v,
      ),
    )

pub some_is : (a b : Text) (o : Option Text) → o ≡ Some a → o ≡ Some b → a ≡ b
some_is a b o e h = cc

pub named_format : (met : Option (Text × List Row)) (job : Job) → IsNamed met job → option_map (λ p. p.0) met ≡ Some (codes "format") → option_map (λ p. format_values p.1) met ≡ Some given_format → IsFormat (codes "d") (codes "p") 4 2 3 None job
named_format met job n name values =
    let m = met_of met (codes "format") job n name in
    let only = only_format m.0 job m.2 in
    let v = value_met format_values given_format met (codes "format") m.0 m.1 values in
    let has = only.7 in
    subst (IsFormat (codes "d") (codes "p") 4 2 3 None) (sym only.6) (
      some_is only.0.now (codes "d") (first_of (codes "disk") m.0) has.0.0 (ap (λ (x : FormatValues). x.0) v),
      some_is only.1.now (codes "p") (first_of (codes "plan") m.0) has.0.1 (ap (λ (x : FormatValues). x.1) v),
      written (codes "m") 0 4294967295 m.0 (codes "4") only.2 has.1.0 (ap (λ (x : FormatValues). x.2) v),
      written (codes "n") 0 4294967295 m.0 (codes "2") only.3 has.1.1 (ap (λ (x : FormatValues). x.3) v),
      written (codes "k") 0 4294967295 m.0 (codes "3") only.4 has.1.2 (ap (λ (x : FormatValues). x.4) v),
      sym has.2 ∙ ap (λ (x : FormatValues). x.5) v,
    )

abbrev pub FeedValues : Type 0
FeedValues = Option Text × Option Text × Option Text

abbrev pub feed_values : List Row → FeedValues
feed_values rows = (first_of (codes "disk") rows, first_of (codes "plan") rows, one_of (codes "workers") rows)

abbrev pub given_feed : FeedValues
given_feed = (Some (codes "d"), Some (codes "p"), Some (codes "1"))

pub feed_met : (met : Option (Text × List Row)) → option_map (λ p. p.0) met ≡ Some (codes "feed") → option_map (λ p. feed_values p.1) met ≡ Some given_feed → IsNamed met (Feed (to (codes "d")) (to (codes "p")) 1)
feed_met met name values =
    let m = met_some met (codes "feed") name in
    let v = value_met feed_values given_feed met (codes "feed") m.0 m.1 values in (
      m.0,
      m.1,
      (
        (ap (λ (x : FeedValues). x.0) v, ap (λ (x : FeedValues). x.1) v),
        number_there (codes "workers") 1 16 m.0 (codes "1") 1 (ap (λ (x : FeedValues). x.2) v) one (omega arith) (omega arith),
      ),
    )

pub named_feed : (met : Option (Text × List Row)) (job : Job) → IsNamed met job → option_map (λ p. p.0) met ≡ Some (codes "feed") → option_map (λ p. feed_values p.1) met ≡ Some given_feed → IsFeed (codes "d") (codes "p") 1 job
named_feed met job n name values =
    let m = met_of met (codes "feed") job n name in
    let only = only_feed m.0 job m.2 in
    let v = value_met feed_values given_feed met (codes "feed") m.0 m.1 values in
    let has = only.4 in
    subst (IsFeed (codes "d") (codes "p") 1) (sym only.3) (
      some_is only.0.now (codes "d") (first_of (codes "disk") m.0) has.0.0 (ap (λ (x : FeedValues). x.0) v),
      some_is only.1.now (codes "p") (first_of (codes "plan") m.0) has.0.1 (ap (λ (x : FeedValues). x.1) v),
      written (codes "workers") 1 16 m.0 (codes "1") only.2 has.1 (ap (λ (x : FeedValues). x.2) v),
    )
