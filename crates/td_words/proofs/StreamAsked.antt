-- What the matches of `td stream` ask for.
use Rattle.std.proofs.Common.{◌≡◌, ℕ, Bool, true, false, List, Option, Some, None, option_map, Ok, refl, ap, sym, ◌∙◌, subst, arith, bytes_eq, codes}
use Rattle.std.specs.Borrow.{Bor}
use Rattle.std.specs.Str.Parse.{ParsesBool}
use Rattle.clap.specs.declared.parser.matches.Found.{Found}
use Rattle.clap.specs.Matches.{one_text, ReadsOne}
use Rattle.clap.specs.Words.{Row, Text, one_of, first_of, rows_of}
use Rattle.clap.proofs.WalkLemmas.{one_text-rows}
use Rattle.td_words.specs.declared.job.Job.{Job}
use Rattle.td_words.specs.declared.job.Job.TheVariants.{Stream}
use Rattle.td_words.specs.Jobs.{IsOf}
use Rattle.td_words.specs.Command.{IsNamed, HasValues, IsFlag, IsFile, flag_text, may_hold}
use Rattle.td_words.specs.Examples.{IsStream}
use Rattle.td_words.proofs.Asked.{met_some, met_of, value_met, written, one, four, five, number_there, some_is, to}
use Rattle.td_words.proofs.Only.{differs}
use Rattle.td_words.proofs.Options.{Gives, option_there, option_is}

-- a flag, as it is read
module _ (E : Type 0) (f : Found) (id : Text) (r : Option Bool) (none : one_text f id ≡ None → r ≡ None) (value : (t : List ℕ) → one_text f id ≡ Some t → ReadsOne (ParsesBool {E = E}) t r) where
  pub flag_read : (told : Bool) → r ≡ Some told → IsFlag id (rows_of f) told
  flag_read told is = by (one_text f id) refl
    where
      names : (told : Bool) (t : List ℕ) → ParsesBool {E = E} t (Ok told) → t ≡ flag_text told
      names true t h = h
      names false t h = h

      by : (o : Option (List ℕ)) → one_text f id ≡ o → IsFlag id (rows_of f) told
      by None e = let lacks = none e in absurd cc
      by (Some t) e = sym (one_text-rows f id) ∙ e ∙ ap Some (names told t (subst (ReadsOne (ParsesBool {E = E}) t) is (value t e)))

  pub no_flag : r ≡ None → (told : Bool) → IsFlag id (rows_of f) told → ⊥
  no_flag is told h = by told (subst (ReadsOne (ParsesBool {E = E}) (flag_text told)) is (value (flag_text told) (one_text-rows f id ∙ h)))
    where
      by : (told : Bool) → ReadsOne (ParsesBool {E = E}) (flag_text told) None → ⊥
      by true h = h.1.0 refl
      by false h = h.1.1 refl

-- one text is of one flag
pub same_flag : (a b : Bool) → flag_text a ≡ flag_text b → a ≡ b
same_flag true true e = refl
same_flag false false e = refl
same_flag true false e = let other = ap (bytes_eq (codes "true")) e in cc
same_flag false true e = let other = ap (bytes_eq (codes "true")) e in cc

-- what a job of the name is made of
abbrev pub StreamFields : Type 0
StreamFields = Bor Text × Bor Text × ℕ × Option ℕ × Option ℕ × Bool × Bool × Bool × Bool × Bool × Bool × Bool × Option (Bor Text) × Option (Bor Text)

abbrev pub stream_with : StreamFields → Job
stream_with f = Stream f.0 f.1 f.2 f.3 f.4 f.5 f.6 f.7 f.8 f.9 f.10 f.11 f.12 f.13

-- what holds of each job of the name by its values holds of a job that is named so
pub only_stream : (rows : List Row) (P : Job → Type 0) → ((f : StreamFields) → HasValues rows (stream_with f) → P (stream_with f)) → (job : Job) → IsOf (codes "stream") rows job → P job
only_stream rows P holds (Stream disk plan w every most told marks refuse at hold room ask status copies) h = holds (disk, plan, w, every, most, told, marks, refuse, at, hold, room, ask, status, copies) h.1
only_stream rows P holds _ h = absurd (differs (ap (bytes_eq (codes "stream")) h.0))

-- the values at given words
abbrev pub StreamValues : Type 0
StreamValues = Option Text × Option Text × Option Text × Option Text × Option Text × Option Text × Option Text × Option Text × Option Text × Option Text × Option Text × Option Text × Option Text × Option Text

abbrev pub stream_values : List Row → StreamValues
stream_values rows = (
  first_of (codes "disk") rows,
  first_of (codes "plan") rows,
  one_of (codes "workers") rows,
  one_of (codes "cut-every") rows,
  one_of (codes "most") rows,
  one_of (codes "progress") rows,
  one_of (codes "marks") rows,
  one_of (codes "refuse") rows,
  one_of (codes "at") rows,
  one_of (codes "hold") rows,
  one_of (codes "room") rows,
  one_of (codes "ask") rows,
  first_of (codes "status") rows,
  first_of (codes "copies") rows,
)

abbrev pub given_stream : Option Text → Option Text → Bool → Bool → Bool → Bool → Bool → Bool → Bool → Option Text → Option Text → StreamValues
given_stream every most told marks refuse at hold room ask status copies = (
  Some (codes "d"),
  Some (codes "p"),
  Some (codes "1"),
  every,
  most,
  Some (flag_text told),
  Some (flag_text marks),
  Some (flag_text refuse),
  Some (flag_text at),
  Some (flag_text hold),
  Some (flag_text room),
  Some (flag_text ask),
  status,
  copies,
)

-- the file of an option, as it is written
file_there : (id : Text) (rows : List Row) (text : Option Text) → first_of id rows ≡ text → IsFile id rows (option_map to text)
file_there id rows None e = e
file_there id rows (Some text) e = e

module _ (every_text most_text : Option Text) (every most : Option ℕ) (told marks refuse at hold room ask : Bool) (status copies : Option Text) (allowed : may_hold marks hold ≡ true)
    (gives_every : Gives 1 65536 every_text every) (gives_most : Gives 1 9223372036854775807 most_text most)
    (met : Option (Text × List Row)) (name : option_map (λ p. p.0) met ≡ Some (codes "stream")) (values : option_map (λ p. stream_values p.1) met ≡ Some (given_stream every_text most_text told marks refuse at hold room ask status copies)) where
  stream_met : IsNamed met (Stream (to (codes "d")) (to (codes "p")) 1 every most told marks refuse at hold room ask (option_map to status) (option_map to copies))
  stream_met =
      let m = met_some met (codes "stream") name in
      let v = value_met stream_values (given_stream every_text most_text told marks refuse at hold room ask status copies) met (codes "stream") m.0 m.1 values in (
        m.0,
        m.1,
        (
          (ap (λ (x : StreamValues). x.0) v, ap (λ (x : StreamValues). x.1) v),
          number_there (codes "workers") 1 16 m.0 (codes "1") 1 (ap (λ (x : StreamValues). x.2) v) one (omega arith) (omega arith),
          option_there (codes "cut-every") 1 65536 m.0 every_text every gives_every (ap (λ (x : StreamValues). x.3) v),
          option_there (codes "most") 1 9223372036854775807 m.0 most_text most gives_most (ap (λ (x : StreamValues). x.4) v),
          ap (λ (x : StreamValues). x.5) v,
          ap (λ (x : StreamValues). x.6) v,
          ap (λ (x : StreamValues). x.7) v,
          ap (λ (x : StreamValues). x.8) v,
          ap (λ (x : StreamValues). x.9) v,
          ap (λ (x : StreamValues). x.10) v,
          ap (λ (x : StreamValues). x.11) v,
          file_there (codes "status") m.0 status (ap (λ (x : StreamValues). x.12) v),
          file_there (codes "copies") m.0 copies (ap (λ (x : StreamValues). x.13) v),
          allowed,
        ),
      )

  named_stream : (job : Job) → IsNamed met job → IsStream (codes "d") (codes "p") 1 every most told marks refuse at hold room ask status copies job
  named_stream job n =
      let m = met_of met (codes "stream") job n name in
      let v = value_met stream_values (given_stream every_text most_text told marks refuse at hold room ask status copies) met (codes "stream") m.0 m.1 values in
      only_stream m.0 (IsStream (codes "d") (codes "p") 1 every most told marks refuse at hold room ask status copies) (λ f has. (
        some_is f.0.now (codes "d") (first_of (codes "disk") m.0) has.0.0 (ap (λ (x : StreamValues). x.0) v),
        some_is f.1.now (codes "p") (first_of (codes "plan") m.0) has.0.1 (ap (λ (x : StreamValues). x.1) v),
        written (codes "workers") 1 16 m.0 (codes "1") f.2 has.1 (ap (λ (x : StreamValues). x.2) v),
        option_is (codes "cut-every") 1 65536 m.0 every_text every gives_every (ap (λ (x : StreamValues). x.3) v) f.3 has.2,
        option_is (codes "most") 1 9223372036854775807 m.0 most_text most gives_most (ap (λ (x : StreamValues). x.4) v) f.4 has.3,
        same_flag f.5 told (some_is (flag_text f.5) (flag_text told) (one_of (codes "progress") m.0) has.4 (ap (λ (x : StreamValues). x.5) v)),
        same_flag f.6 marks (some_is (flag_text f.6) (flag_text marks) (one_of (codes "marks") m.0) has.5 (ap (λ (x : StreamValues). x.6) v)),
        same_flag f.7 refuse (some_is (flag_text f.7) (flag_text refuse) (one_of (codes "refuse") m.0) has.6 (ap (λ (x : StreamValues). x.7) v)),
        same_flag f.8 at (some_is (flag_text f.8) (flag_text at) (one_of (codes "at") m.0) has.7 (ap (λ (x : StreamValues). x.8) v)),
        same_flag f.9 hold (some_is (flag_text f.9) (flag_text hold) (one_of (codes "hold") m.0) has.8 (ap (λ (x : StreamValues). x.9) v)),
        same_flag f.10 room (some_is (flag_text f.10) (flag_text room) (one_of (codes "room") m.0) has.9 (ap (λ (x : StreamValues). x.10) v)),
        same_flag f.11 ask (some_is (flag_text f.11) (flag_text ask) (one_of (codes "ask") m.0) has.10 (ap (λ (x : StreamValues). x.11) v)),
        sym has.11 ∙ ap (λ (x : StreamValues). x.12) v,
        sym has.12 ∙ ap (λ (x : StreamValues). x.13) v,
      )) job m.2

module _ (met : Option (Text × List Row)) (name : option_map (λ p. p.0) met ≡ Some (codes "stream")) where
  pub uncut_met : (told marks refuse at hold room ask : Bool) (status copies : Option Text) → may_hold marks hold ≡ true → option_map (λ p. stream_values p.1) met ≡ Some (given_stream None None told marks refuse at hold room ask status copies)
      → IsNamed met (Stream (to (codes "d")) (to (codes "p")) 1 None None told marks refuse at hold room ask (option_map to status) (option_map to copies))
  uncut_met told marks refuse at hold room ask status copies allowed values = stream_met None None None None told marks refuse at hold room ask status copies allowed tt tt met name values

  pub named_uncut : (told marks refuse at hold room ask : Bool) (status copies : Option Text) → may_hold marks hold ≡ true → (job : Job) → IsNamed met job
      → option_map (λ p. stream_values p.1) met ≡ Some (given_stream None None told marks refuse at hold room ask status copies)
      → IsStream (codes "d") (codes "p") 1 None None told marks refuse at hold room ask status copies job
  named_uncut told marks refuse at hold room ask status copies allowed job n values = named_stream None None None None told marks refuse at hold room ask status copies allowed tt tt met name values job n

  pub cutting_met : option_map (λ p. stream_values p.1) met ≡ Some (given_stream (Some (codes "4")) (Some (codes "5")) false false false false false false false None None)
      → IsNamed met (Stream (to (codes "d")) (to (codes "p")) 1 (Some 4) (Some 5) false false false false false false false None None)
  cutting_met values = stream_met (Some (codes "4")) (Some (codes "5")) (Some 4) (Some 5) false false false false false false false None None refl (four, omega arith, omega arith) (five, omega arith, omega arith) met name values

  pub named_cutting : (job : Job) → IsNamed met job → option_map (λ p. stream_values p.1) met ≡ Some (given_stream (Some (codes "4")) (Some (codes "5")) false false false false false false false None None)
      → IsStream (codes "d") (codes "p") 1 (Some 4) (Some 5) false false false false false false false None None job
  named_cutting job n values = named_stream (Some (codes "4")) (Some (codes "5")) (Some 4) (Some 5) false false false false false false false None None refl (four, omega arith, omega arith) (five, omega arith, omega arith) met name values job n
