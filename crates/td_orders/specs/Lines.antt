-- The lines of an input, as they come.
use Rattle.std.specs.Prelude.{◌≡◌, ℕ, ◌+◌, ◌≤◌, ◌==◌, nat_lt, Bool, true, false, List, [], ◌∷◌, ◌++◌, length, take, drop, All, Option, Some, None}
use Rattle.std.specs.List.{list_any}
use Rattle.std.specs.Io.KnownBytes.{prepend_known}
use Rattle.td_console.specs.declared.faults.LineFault.TheVariants.{Syntax}
use Rattle.td_console.specs.declared.faults.Fault.{Fault}
use Rattle.td_console.specs.declared.faults.Fault.TheVariants.{Line}
use Rattle.td_plan.specs.Text.{text_lines}

-- what is left of an input, of which some bytes were read and are in no line yet
abbrev pub unread : Option (List ℕ) → List ℕ → Option (List ℕ)
unread rest bytes = prepend_known bytes rest

-- the first of some lines, or an empty one
abbrev pub first_of : List (List ℕ) → List ℕ
first_of [] = []
first_of (line ∷ lines) = line

-- the line that a text begins with, without its line feed
abbrev pub line_in : List ℕ → List ℕ
line_in text = first_of (text_lines text)

-- a line was taken from what is left, or there is none
abbrev pub TakesLine : Option (List ℕ) → Option (List ℕ) → Option (List ℕ) → Type 0
TakesLine None new taken = Unit {0}
TakesLine (Some old) None taken = ⊥
TakesLine (Some old) (Some new) (Some line) = text_lines old ≡ line ∷ text_lines new
TakesLine (Some old) (Some new) None = text_lines old ≡ []

-- whether some line of an input is longer than a line may be; where the input is not known it may be
abbrev pub is_overlong : List ℕ → Bool
is_overlong line = nat_lt 4096 (length line)

abbrev pub has_overlong : Option (List ℕ) → Bool
has_overlong None = true
has_overlong (Some input) = list_any is_overlong (text_lines input)

-- lines were taken, or none: what is too long then was so before
abbrev pub LosesLines : Option (List ℕ) → Option (List ℕ) → Type 0
LosesLines old new = has_overlong new ≡ true → has_overlong old ≡ true

-- A LINE'S FAULT is told where one is too long: it has no form
abbrev pub IsOverlong : Option (List ℕ) → Fault → Type 0
IsOverlong input (Line n fault) = (fault ≡ Syntax) × (has_overlong input ≡ true)
IsOverlong input fault = Unit {0}

-- the first line of some bytes has so many, its line feed too
pub record EndsLine (bytes : List ℕ) (end : ℕ) : Type 0 where
  pub line : List ℕ
  pub left : List ℕ
  pub lacks : All (λ b. (b == 10) ≡ false) line
  pub cut : bytes ≡ line ++ 10 ∷ left
  pub size : end ≡ length line + 1

-- A LINE WAS FOUND in front of the bytes that were read: it has so many, its line feed too, if it has one; or there is none
abbrev pub FindsLine : Option (List ℕ) → List ℕ → Option ℕ → Type 0
FindsLine rest bytes None = TakesLine (unread rest bytes) (unread rest bytes) None
FindsLine rest bytes (Some end) = (end ≤ length bytes) × TakesLine (unread rest bytes) (unread rest (drop end bytes)) (Some (line_in (take end bytes)))
