-- Plain data lines, which are read from their bytes in one pass: three numbers with one space between them.
use Rattle.std.specs.Prelude.{◌≡◌, ℕ, ℤ, ◌<◌, ◌^◌, Bool, true, ◌&&◌, nat_le, List, ◌∷◌, ◌++◌, Some, FitsSigned}
use Rattle.std.specs.Int.{w64}
use Rattle.std.specs.List.{list_all}
use Rattle.std.specs.Char.{is_ascii, is_ascii_digit}
use Rattle.td_stamp.specs.declared.values.Rec.{Rec}
use Rattle.td_plan.specs.Text.{text_lines, natural_of}
use Rattle.td_console.specs.declared.data_line.DataLine.TheVariants.{Record}
use Rattle.td_console.specs.Data.{data_line_of}
use Rattle.td_console.specs.Number.{integer_of}

-- A NUMBER AT THE FRONT of some bytes: its digits, and what comes after them
pub record IsFrontNumber (bytes : List ℕ) (most n : ℕ) (rest : List ℕ) : Type 0 where
  pub word : List ℕ
  pub cut : bytes ≡ word ++ rest
  pub digits : list_all is_ascii_digit word ≡ true
  pub written : natural_of word ≡ Some n
  pub small : n < 10 ^ most

-- a digit or a minus sign; `.` and `/`, which stand between them, too
abbrev pub is_sign_or_digit : ℕ → Bool
is_sign_or_digit b = nat_le 45 b && nat_le b 57

-- the same for a number that may have a minus sign
pub record IsFrontInteger (bytes : List ℕ) (z : ℤ) (rest : List ℕ) : Type 0 where
  pub word : List ℕ
  pub cut : bytes ≡ word ++ rest
  pub signs : list_all is_sign_or_digit word ≡ true
  pub written : integer_of word ≡ Some z
  pub fits : FitsSigned w64 z

-- A PLAIN LINE at the front of some bytes: the first line, which is ASCII and spells this record, and what comes after it
pub record IsPlain (bytes : List ℕ) (input : ℕ) (rec : Rec) (rest : List ℕ) : Type 0 where
  pub line : List ℕ
  pub cut : bytes ≡ line ++ 10 ∷ rest
  pub lines : text_lines bytes ≡ line ∷ text_lines rest
  pub ascii : list_all is_ascii line ≡ true
  pub says : data_line_of line ≡ Some (Record input rec)
