-- The rule of a course in its logbook, and what the step that adds an entry says.
use Rattle.std.specs.Prelude.{ℕ, ◌≡◌, ◌==◌, true, List, [], ◌∷◌, ◌++◌, length, MatchBool}
use Rattle.logbook.specs.Pages.{Cell, Step, View, Book, Named}
use Rattle.td_machine.specs.State.{HallState}
use Rattle.td_machine.specs.Steps.{opened}

-- the first word is the length of the course. A book has two words, of which this one leaves the second at 0
abbrev pub IsKept : {E : Type 0} → List Cell → List E → Type 0
IsKept cells log = cells ≡ (length log, true) ∷ (0, true) ∷ []

-- the first word of a book
abbrev pub head_of : Book → Named
head_of b = record { tracked = true; key = 0; book = b }

-- the entry stands behind all that had been seen; or the number that was found is another
abbrev pub Adds : {E : Type 0} → Step E → View E ℕ → ℕ → View E ℕ → Type 0
Adds s v found w = MatchBool (found == s.old) (w.0 ≡ v.0 ++ s.ask ∷ []) (length w.0 ≡ found)

-- the last entry, or the one before them all
abbrev pub last_after : HallState → List HallState → HallState
last_after S [] = S
last_after S (T ∷ rest) = last_after T rest

-- the last entry; what an empty course has does not matter
abbrev pub last_of : List HallState → HallState
last_of log = last_after (opened [] [] 1 1) log
