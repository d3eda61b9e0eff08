-- An answer in lines.
use Rattle.std.specs.Prelude.{ℕ, List, [], ◌∷◌, ◌++◌, codes, flat_map}
use Rattle.std.specs.Fmt.{decimal, signed_decimal}
use Rattle.td_stamp.specs.States.{StateList}
use Rattle.td_questions.specs.declared.question.Wanted.{Wanted}
use Rattle.td_questions.specs.declared.question.Wanted.TheVariants.{Get}
use Rattle.td_questions.specs.Asked.{Entry}

-- `state E V KEY A B`
abbrev pub state_line : ℕ → Entry → List ℕ
state_line epoch ((vertex, key), state) =
    codes "state " ++ decimal epoch ++ 32 ∷ decimal vertex ++ 32 ∷ decimal key ++ 32 ∷ signed_decimal state.a ++ 32 ∷ signed_decimal state.b ++ 10 ∷ []

-- `none E V KEY`
abbrev pub none_line : ℕ → ℕ → ℕ → List ℕ
none_line epoch vertex key = codes "none " ++ decimal epoch ++ 32 ∷ decimal vertex ++ 32 ∷ decimal key ++ 10 ∷ []

-- `asked E`
abbrev pub asked_line : ℕ → List ℕ
asked_line epoch = codes "asked " ++ decimal epoch ++ 10 ∷ []

-- the lines of some entries; where a key was asked for that has no state, this is said
abbrev pub lines_of : ℕ → ℕ → Wanted → StateList → List ℕ
lines_of epoch vertex (Get key) [] = none_line epoch vertex key
lines_of epoch vertex wanted entries = flat_map (state_line epoch) entries

-- THE LINES OF AN ANSWER at an epoch, with the entries that answer
abbrev pub answer_lines : ℕ → ℕ → Wanted → StateList → List ℕ
answer_lines epoch vertex wanted entries = lines_of epoch vertex wanted entries ++ asked_line epoch
