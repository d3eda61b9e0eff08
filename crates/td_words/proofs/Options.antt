-- Numbers that may be left out, as they are read, and as they are given.
use Rattle.std.proofs.Common.{◌≡◌, ℕ, Bool, IsTrue, false, ◌<◌, ◌≤◌, ◌^◌, List, Option, Some, None, Result, Ok, Err, refl, ap, sym, ◌∙◌, subst}
use Rattle.std.specs.Str.Parse.{ParsesUnsigned}
use Rattle.clap.specs.declared.parser.matches.Found.{Found}
use Rattle.clap.specs.Matches.{one_text, ReadsOne, TriesOne}
use Rattle.clap.specs.Words.{Row, Text, one_of, rows_of}
use Rattle.clap.proofs.WalkLemmas.{one_text-rows}
use Rattle.td_words.specs.Command.{IsOption}
use Rattle.td_words.proofs.Asked.{number_read, no_number, refused_there, written, number_there, OneDigit}

-- the number that was read, if it was
abbrev read_of : {E : Type 0} → Result (Option ℕ) E → Option ℕ
read_of (Ok o) = o
read_of (Err e) = None

reads : {E : Type 0} (Reads : List ℕ → Result ℕ E → Type 0) (t : List ℕ) (r : Result (Option ℕ) E) → TriesOne Reads t r → ReadsOne Reads t (read_of r)
reads Reads t (Ok (Some n)) h = h
reads Reads t (Ok None) h = elim h [ ]
reads Reads t (Err e) h = (e, h)

module _ {E : Type 0} (bits : ℕ) (Reads : List ℕ → Result ℕ E → Type 0) (numbers : (t : List ℕ) (x : Result ℕ E) → Reads t x → ParsesUnsigned bits 10 t x) (f : Found) (id : Text) (r : Result (Option ℕ) E)
    (none : one_text f id ≡ None → r ≡ Ok None) (value : (t : List ℕ) → one_text f id ≡ Some t → TriesOne Reads t r) (least most : ℕ) where
  lies : (t : List ℕ) → one_text f id ≡ Some t → ReadsOne Reads t (read_of r)
  lies t e = reads Reads t r (value t e)

  pub option_read : (n : ℕ) → r ≡ Ok (Some n) → (least ≤ n) × (n ≤ most) → IsOption id least most (rows_of f) (Some n)
  option_read n is within = number_read bits Reads numbers f id (read_of r) (λ e. ap read_of (none e)) lies least most n (ap read_of is) (λ fits. within)

  pub none_read : r ≡ Ok None → IsOption id least most (rows_of f) None
  none_read is = by (one_text f id) refl
    where
      by : (o : Option (List ℕ)) → one_text f id ≡ o → IsOption id least most (rows_of f) None
      by None e = sym (one_text-rows f id) ∙ e
      by (Some t) e = absurd (subst (TriesOne Reads t) is (value t e))

  pub no_option : most < 2 ^ bits → (r ≡ Ok None → ⊥) → ((n : ℕ) → r ≡ Ok (Some n) → least ≤ n → n ≤ most → ⊥) → (number : Option ℕ) → IsOption id least most (rows_of f) number → ⊥
  no_option fits some lacks None h = some (none (one_text-rows f id ∙ h))
  no_option fits some lacks (Some n) h = no_number bits Reads numbers f id (read_of r) (λ e. ap read_of (none e)) lies least most fits (λ m e low high. lacks m (by r m e) low high) n h
    where
      by : (r : Result (Option ℕ) E) (m : ℕ) → read_of r ≡ Some m → r ≡ Ok (Some m)
      by (Ok o) m e = ap Ok e
      by (Err error) m e = cc

-- there is a number, and a test of the bounds refuses it
pub some_there : {E : Type 0} (r : Result (Option ℕ) E) (v : ℕ) → r ≡ Ok (Some v) → r ≡ Ok None → ⊥
some_there r v is other = cc

pub refused_option : {E : Type 0} (r : Result (Option ℕ) E) (v : ℕ) (test : Bool) (least most : ℕ) → r ≡ Ok (Some v) → ((least ≤ v) × (v ≤ most) → IsTrue test) → test ≡ false → (n : ℕ) → r ≡ Ok (Some n) → least ≤ n → n ≤ most → ⊥
refused_option r v test least most is passes fails n other = refused_there (read_of r) v test least most (ap read_of is) passes fails n (ap read_of other)

-- the number that an option is given: none, or one of one digit
abbrev pub Gives : ℕ → ℕ → Option Text → Option ℕ → Type 0
Gives least most None None = Unit {0}
Gives least most (Some text) (Some n) = OneDigit 10 text n × (least ≤ n) × (n ≤ most)
Gives least most _ _ = ⊥

pub option_there : (id : Text) (least most : ℕ) (rows : List Row) (text : Option Text) (number : Option ℕ) → Gives least most text number → one_of id rows ≡ text → IsOption id least most rows number
option_there id least most rows None None gives at = at
option_there id least most rows (Some text) (Some n) gives at = number_there id least most rows text n at gives.0 gives.1 gives.2
option_there id least most rows None (Some n) gives at = absurd gives
option_there id least most rows (Some text) None gives at = absurd gives

pub option_is : (id : Text) (least most : ℕ) (rows : List Row) (text : Option Text) (number : Option ℕ) → Gives least most text number → one_of id rows ≡ text → (o : Option ℕ) → IsOption id least most rows o → o ≡ number
option_is id least most rows None None gives at None h = refl
option_is id least most rows None None gives at (Some m) h = let there = h.1 in cc
option_is id least most rows (Some text) (Some n) gives at None h = cc
option_is id least most rows (Some text) (Some n) gives at (Some m) h = ap Some (written id least most rows text m h at ∙ sym gives.0.1)
option_is id least most rows None (Some n) gives at o h = absurd gives
option_is id least most rows (Some text) None gives at o h = absurd gives
