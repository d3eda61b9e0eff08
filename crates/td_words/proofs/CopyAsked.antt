-- What the matches of `td copy` ask for.
use Rattle.std.proofs.Common.{◌≡◌, List, Option, Some, option_map, ap, sym, subst, arith, codes}
use Rattle.clap.specs.Words.{Row, Text, one_of, first_of}
use Rattle.td_words.specs.declared.job.Job.{Job}
use Rattle.td_words.specs.declared.job.Job.TheVariants.{Copy}
use Rattle.td_words.specs.Command.{IsNamed}
use Rattle.td_words.specs.Examples.{IsCopy}
use Rattle.td_words.proofs.Asked.{met_some, met_of, value_met, written, four, shape_there, some_is, to}
use Rattle.td_words.proofs.Options.{option_there, option_is}
use Rattle.td_words.proofs.Only.{only_copy}

-- the values at given words
abbrev pub CopyValues : Type 0
CopyValues = Option Text × Option Text × Option Text × Option Text × Option Text × Option Text × Option Text

abbrev pub copy_values : List Row → CopyValues
copy_values rows = (
  first_of (codes "disk") rows,
  first_of (codes "plan") rows,
  first_of (codes "new") rows,
  one_of (codes "m") rows,
  one_of (codes "n") rows,
  one_of (codes "k") rows,
  one_of (codes "until") rows,
)

abbrev pub given_until : CopyValues
given_until = (Some (codes "d"), Some (codes "p"), Some (codes "e"), Some (codes "4"), Some (codes "2"), Some (codes "3"), Some (codes "4"))

module _ (met : Option (Text × List Row)) (name : option_map (λ p. p.0) met ≡ Some (codes "copy")) (values : option_map (λ p. copy_values p.1) met ≡ Some given_until) where
  pub until_met : IsNamed met (Copy (to (codes "d")) (to (codes "p")) (to (codes "e")) 4 2 3 (Some 4))
  until_met =
      let m = met_some met (codes "copy") name in
      let v = value_met copy_values given_until met (codes "copy") m.0 m.1 values in (
        m.0,
        m.1,
        (
          (ap (λ (x : CopyValues). x.0) v, ap (λ (x : CopyValues). x.1) v),
          ap (λ (x : CopyValues). x.2) v,
          shape_there m.0 (ap (λ (x : CopyValues). x.3) v) (ap (λ (x : CopyValues). x.4) v) (ap (λ (x : CopyValues). x.5) v),
          option_there (codes "until") 0 9223372036854775807 m.0 (Some (codes "4")) (Some 4) (four, omega arith, omega arith) (ap (λ (x : CopyValues). x.6) v),
        ),
      )

  pub named_until : (job : Job) → IsNamed met job → IsCopy (codes "d") (codes "p") (codes "e") 4 2 3 (Some 4) job
  named_until job n =
      let m = met_of met (codes "copy") job n name in
      let only = only_copy m.0 job m.2 in
      let v = value_met copy_values given_until met (codes "copy") m.0 m.1 values in
      let has = only.8 in
      subst (IsCopy (codes "d") (codes "p") (codes "e") 4 2 3 (Some 4)) (sym only.7) (
        some_is only.0.now (codes "d") (first_of (codes "disk") m.0) has.0.0 (ap (λ (x : CopyValues). x.0) v),
        some_is only.1.now (codes "p") (first_of (codes "plan") m.0) has.0.1 (ap (λ (x : CopyValues). x.1) v),
        some_is only.2.now (codes "e") (first_of (codes "new") m.0) has.1 (ap (λ (x : CopyValues). x.2) v),
        written (codes "m") 0 4294967295 m.0 (codes "4") only.3 has.2.0 (ap (λ (x : CopyValues). x.3) v),
        written (codes "n") 0 4294967295 m.0 (codes "2") only.4 has.2.1 (ap (λ (x : CopyValues). x.4) v),
        written (codes "k") 0 4294967295 m.0 (codes "3") only.5 has.2.2 (ap (λ (x : CopyValues). x.5) v),
        option_is (codes "until") 0 9223372036854775807 m.0 (Some (codes "4")) (Some 4) (four, omega arith, omega arith) (ap (λ (x : CopyValues). x.6) v) only.6 has.3,
      )
