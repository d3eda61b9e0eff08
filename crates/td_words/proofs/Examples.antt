-- What a parse gives for words that are written out.
use Rattle.std.proofs.Common.{◌≡◌, ◌∙◌, refl, ap, subst, List, Option, Some, None, Result, Ok, Err, Bool, true, false, codes}
use Rattle.clap.specs.Words.{Row, Text, takes, subcommand_of}
use Rattle.td_words.specs.declared.job.Job.{Job}
use Rattle.td_words.specs.declared.job.Job.TheVariants.{Batch, Run, Format, Feed, Copy, Stream, Version, Faults, Language}
use Rattle.td_words.specs.declared.job.WordsError.{WordsError}
use Rattle.td_words.specs.declared.job.WordsError.TheVariants.{Words, Memory}
use Rattle.td_words.specs.Command.{td, IsNamed, asks_version, asks_faults, asks_language}
use Rattle.td_words.specs.Examples.{Examples, Gives, IsBatch, IsFormat, IsFeed, IsCopy, IsStream, batch_words, run_words, written_words, format_words, feed_words, until_words, stream_words, cutting_words, telling_words}
use Rattle.td_words.specs.Jobs.{IsTextAsked}
use Rattle.td_words.proofs.Asked.{named_batch, named_written, named_run, named_format, named_feed, batch_met, written_met, run_met, format_met, feed_met, to}
use Rattle.td_words.proofs.BatchWords.{batch_is_taken, batch_is_named, batch_has, written_is_taken, written_is_named, written_has, run_is_taken, run_is_named, run_has}
use Rattle.td_words.proofs.DiskWords.{format_is_taken, format_is_named, format_has, feed_is_taken, feed_is_named, feed_has}
use Rattle.td_words.proofs.CopyAsked.{named_until, until_met}
use Rattle.td_words.proofs.CopyWords.{until_is_taken, until_is_named, until_has}
use Rattle.td_words.proofs.StreamAsked.{named_uncut, named_cutting, uncut_met, cutting_met}
use Rattle.td_words.proofs.StreamWords.{stream_is_taken, stream_is_named, stream_has, cutting_is_taken, cutting_is_named, cutting_has, telling_is_taken, telling_is_named, telling_has}

-- the job that is named, want of memory, or words that name none
abbrev pub IsParse : Option (Text × List Row) → Result Job WordsError → Type 0
IsParse met (Ok job) = IsNamed met job
IsParse met (Err Memory) = Unit {0}
IsParse met (Err Words) = (job : Job) → IsNamed met job → ⊥

-- words that are taken and name a job, and only jobs of a kind, give such a job
module _ (taken : List Text → Bool) (met : List Text → Option (Text × List Row)) (words : List Text) (is_taken : taken words ≡ true) (IsSuch : Job → Type 0)
    (job : Job) (named : IsNamed (met words) job) (only : (job : Job) → IsNamed (met words) job → IsSuch job) where
  given_so : (result : Result Job WordsError) → IsParse (met words) result → Gives result IsSuch
  given_so (Ok job) parse = (only job parse, tt)
  given_so (Err Memory) parse = (tt, refl)
  given_so (Err Words) parse = absurd (parse job named)

  example : (given : List Text) (result : Result Job WordsError) → (taken given ≡ true → IsParse (met given) result) → given ≡ words → Gives result IsSuch
  example given result parse e = given_so result (subst (λ w. IsParse (met w) result) e (parse (ap taken e ∙ is_taken)))

module _ (given : List Text) (result : Result Job WordsError) (parse : takes td given ≡ true → IsParse (subcommand_of td given) result) where
  of_batch : given ≡ batch_words → Gives result (λ job. job ≡ Batch None)
  of_batch = example (takes td) (subcommand_of td) batch_words batch_is_taken (λ job. job ≡ Batch None) (Batch None)
      (batch_met (subcommand_of td batch_words) batch_is_named batch_has)
      (λ job n. named_batch (subcommand_of td batch_words) job n batch_is_named batch_has) given result parse

  of_run : given ≡ run_words → Gives result (λ job. job ≡ Run 1 None)
  of_run = example (takes td) (subcommand_of td) run_words run_is_taken (λ job. job ≡ Run 1 None) (Run 1 None)
      (run_met (subcommand_of td run_words) run_is_named run_has)
      (λ job n. named_run (subcommand_of td run_words) job n run_is_named run_has) given result parse

  of_written : given ≡ written_words → Gives result (IsBatch (Some (codes "c")))
  of_written = example (takes td) (subcommand_of td) written_words written_is_taken (IsBatch (Some (codes "c"))) (Batch (Some (to (codes "c"))))
      (written_met (subcommand_of td written_words) written_is_named written_has)
      (λ job n. named_written (subcommand_of td written_words) job n written_is_named written_has) given result parse

  of_format : given ≡ format_words → Gives result (IsFormat (codes "d") (codes "p") 4 2 3 None)
  of_format = example (takes td) (subcommand_of td) format_words format_is_taken (IsFormat (codes "d") (codes "p") 4 2 3 None) (Format (to (codes "d")) (to (codes "p")) 4 2 3 None)
      (format_met (subcommand_of td format_words) format_is_named format_has)
      (λ job n. named_format (subcommand_of td format_words) job n format_is_named format_has) given result parse

  of_feed : given ≡ feed_words → Gives result (IsFeed (codes "d") (codes "p") 1)
  of_feed = example (takes td) (subcommand_of td) feed_words feed_is_taken (IsFeed (codes "d") (codes "p") 1) (Feed (to (codes "d")) (to (codes "p")) 1)
      (feed_met (subcommand_of td feed_words) feed_is_named feed_has)
      (λ job n. named_feed (subcommand_of td feed_words) job n feed_is_named feed_has) given result parse

  of_until : given ≡ until_words → Gives result (IsCopy (codes "d") (codes "p") (codes "e") 4 2 3 (Some 4))
  of_until = example (takes td) (subcommand_of td) until_words until_is_taken (IsCopy (codes "d") (codes "p") (codes "e") 4 2 3 (Some 4)) (Copy (to (codes "d")) (to (codes "p")) (to (codes "e")) 4 2 3 (Some 4))
      (until_met (subcommand_of td until_words) until_is_named until_has)
      (λ job n. named_until (subcommand_of td until_words) until_is_named until_has job n) given result parse

  of_stream : given ≡ stream_words → Gives result (IsStream (codes "d") (codes "p") 1 None None false false false false false false false None None)
  of_stream = example (takes td) (subcommand_of td) stream_words stream_is_taken (IsStream (codes "d") (codes "p") 1 None None false false false false false false false None None) (Stream (to (codes "d")) (to (codes "p")) 1 None None false false false false false false false None None)
      (uncut_met (subcommand_of td stream_words) stream_is_named false false false false false false false None None refl stream_has)
      (λ job n. named_uncut (subcommand_of td stream_words) stream_is_named false false false false false false false None None refl job n stream_has) given result parse

  of_cutting : given ≡ cutting_words → Gives result (IsStream (codes "d") (codes "p") 1 (Some 4) (Some 5) false false false false false false false None None)
  of_cutting = example (takes td) (subcommand_of td) cutting_words cutting_is_taken (IsStream (codes "d") (codes "p") 1 (Some 4) (Some 5) false false false false false false false None None) (Stream (to (codes "d")) (to (codes "p")) 1 (Some 4) (Some 5) false false false false false false false None None)
      (cutting_met (subcommand_of td cutting_words) cutting_is_named cutting_has)
      (λ job n. named_cutting (subcommand_of td cutting_words) cutting_is_named job n cutting_has) given result parse

  of_telling : given ≡ telling_words → Gives result (IsStream (codes "d") (codes "p") 1 None None true true true true true true true (Some (codes "s")) (Some (codes "f")))
  of_telling = example (takes td) (subcommand_of td) telling_words telling_is_taken (IsStream (codes "d") (codes "p") 1 None None true true true true true true true (Some (codes "s")) (Some (codes "f"))) (Stream (to (codes "d")) (to (codes "p")) 1 None None true true true true true true true (Some (to (codes "s"))) (Some (to (codes "f"))))
      (uncut_met (subcommand_of td telling_words) telling_is_named true true true true true true true (Some (codes "s")) (Some (codes "f")) refl telling_has)
      (λ job n. named_uncut (subcommand_of td telling_words) telling_is_named true true true true true true true (Some (codes "s")) (Some (codes "f")) refl job n telling_has) given result parse

pub examples : (given : List Text) (result : Result Job WordsError) → (takes td given ≡ true → IsParse (subcommand_of td given) result) → Examples given result
examples given result parse = record {
  batch = of_batch given result parse;
  run = of_run given result parse;
  written = of_written given result parse;
  format = of_format given result parse;
  feed = of_feed given result parse;
  until = of_until given result parse;
  stream = of_stream given result parse;
  cutting = of_cutting given result parse;
  telling = of_telling given result parse;
}

-- words that ask for a text are none of them
text_of : (words : List Text) → asks_version words ≡ false → asks_faults words ≡ false → asks_language words ≡ false → (job : Job) → IsTextAsked words job → ⊥
text_of words version faults language Version h = cc
text_of words version faults language Faults h = let is = h.1 in cc
text_of words version faults language Language h = let is = h.2 in cc
text_of words version faults language _ h = h

other : (words given : List Text) (job : Job) → IsTextAsked given job → (IsTextAsked words job → ⊥) → (IsSuch : Job → Type 0) → given ≡ words → Gives (Ok job) IsSuch
other words given job asked none IsSuch e = absurd (none (subst (λ w. IsTextAsked w job) e asked))

pub text_examples : (given : List Text) (job : Job) → IsTextAsked given job → Examples given (Ok job)
text_examples given job asked = record {
  batch = other batch_words given job asked (text_of batch_words refl refl refl job) (λ job. job ≡ Batch None);
  run = other run_words given job asked (text_of run_words refl refl refl job) (λ job. job ≡ Run 1 None);
  written = other written_words given job asked (text_of written_words refl refl refl job) (IsBatch (Some (codes "c")));
  format = other format_words given job asked (text_of format_words refl refl refl job) (IsFormat (codes "d") (codes "p") 4 2 3 None);
  feed = other feed_words given job asked (text_of feed_words refl refl refl job) (IsFeed (codes "d") (codes "p") 1);
  until = other until_words given job asked (text_of until_words refl refl refl job) (IsCopy (codes "d") (codes "p") (codes "e") 4 2 3 (Some 4));
  stream = other stream_words given job asked (text_of stream_words refl refl refl job) (IsStream (codes "d") (codes "p") 1 None None false false false false false false false None None);
  cutting = other cutting_words given job asked (text_of cutting_words refl refl refl job) (IsStream (codes "d") (codes "p") 1 (Some 4) (Some 5) false false false false false false false None None);
  telling = other telling_words given job asked (text_of telling_words refl refl refl job) (IsStream (codes "d") (codes "p") 1 None None true true true true true true true (Some (codes "s")) (Some (codes "f")));
}
