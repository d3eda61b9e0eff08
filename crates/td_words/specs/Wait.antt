-- Words that ask to wait for a disk that another process has locked: `td --wait SECONDS COMMAND ..`.
use Rattle.std.specs.Prelude.{◌≡◌, ℕ, ◌≤◌, List, [], ◌∷◌, drop, Bool, true, false, codes}
use Rattle.std.specs.Str.{bytes_eq}
use Rattle.std.specs.Str.Parse.{IsNumeral, digits_value, without_leading_plus}
use Rattle.clap.specs.Words.{Text}

-- whether they ask for that
abbrev pub asks_to_wait : List Text → Bool
asks_to_wait (name ∷ word ∷ more) = bytes_eq word (codes "--wait")
asks_to_wait _ = false

-- the words that are left, of which the first stands in the place of the program's name
abbrev pub words_left : {X : Type 0} → Bool → List X → List X
words_left true words = drop 2 words
words_left false words = words

-- a number of seconds that may be waited, as words begin with it
abbrev pub HasSeconds : List Text → ℕ → Type 0
HasSeconds (text ∷ more) seconds =
    IsNumeral 10 (without_leading_plus text) × (seconds ≡ digits_value 10 (without_leading_plus text)) × (1 ≤ seconds) × (seconds ≤ 86400)
HasSeconds [] seconds = ⊥

-- THE SECONDS: those with which the words that are left begin, or none
abbrev pub IsWait : Bool → List Text → ℕ → Type 0
IsWait true left seconds = HasSeconds left seconds
IsWait false left seconds = seconds ≡ 0
