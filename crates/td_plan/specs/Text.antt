-- Lines, words and numbers of a text, which is a list of bytes.
use Rattle.std.specs.Prelude.{ℕ, ◌^◌, Bool, true, not, ◌&&◌, ◌||◌, ◌==◌, nat_lt, nat_le, if◌then◌else◌, List, [], ◌∷◌, length, filter, slice_index, Option, Some, None}
use Rattle.std.specs.List.{list_all, slice_split}
use Rattle.std.specs.Char.{is_ascii_digit}
use Rattle.std.specs.Str.Parse.{digits_value}

-- the parts between line feeds, where an empty last part is no line
abbrev pub without_empty_last : List (List ℕ) → List (List ℕ)
without_empty_last [] = []
without_empty_last ([] ∷ []) = []
without_empty_last (part ∷ parts) = part ∷ without_empty_last parts

-- the lines of a text
abbrev pub text_lines : List ℕ → List (List ℕ)
text_lines text = without_empty_last (slice_split (λ b. b == 10) text)

-- the words of a line, between spaces
abbrev pub words : List ℕ → List (List ℕ)
words line = filter (λ w. nat_lt 0 (length w)) (slice_split (λ b. b == 32) line)

-- an ASCII character that is no control character
abbrev pub is_printable : ℕ → Bool
is_printable b = nat_le 32 b && nat_le b 126

-- no word, or a first word that begins with `#`
abbrev pub is_comment : List (List ℕ) → Bool
is_comment [] = true
is_comment (word ∷ words) = slice_index word 0 == 35

-- a line that is passed over
abbrev pub is_passed_over : List ℕ → Bool
is_passed_over line = list_all is_printable line && is_comment (words line)

-- digits, of which the first is 0 only where it is the only one
abbrev pub is_numeral : List ℕ → Bool
is_numeral word = list_all is_ascii_digit word && (nat_lt 0 (length word) && (not (slice_index word 0 == 48) || (length word == 1)))

-- the number below 2 ^ 64 that a word writes
unfoldable pub natural_of : List ℕ → Option ℕ
natural_of word = if is_numeral word && nat_lt (digits_value 10 word) (2 ^ 64) then Some (digits_value 10 word) else None

-- a number of at most nine digits
abbrev pub has_nine_digits : ℕ → Bool
has_nine_digits n = nat_lt n 1000000000

-- the number of at most nine digits that a word writes
abbrev pub of_nine_digits : Option ℕ → Option ℕ
of_nine_digits None = None
of_nine_digits (Some n) = if has_nine_digits n then Some n else None

abbrev pub number_of : List ℕ → Option ℕ
number_of word = of_nine_digits (natural_of word)
