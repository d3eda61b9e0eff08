-- What the words of a line ask.
use Rattle.std.specs.Prelude.{ℕ, Bool, nat_le, nat_eq, ◌&&◌, cond, if◌then◌else◌, List, [], ◌∷◌, codes, Option, Some, None, option_and_then}
use Rattle.std.specs.Str.{bytes_eq}
use Rattle.std.specs.List.{list_any}
use Rattle.td_plan.specs.Lines.{Line}
use Rattle.td_plan.specs.Text.{natural_of}
use Rattle.td_plan.specs.Blocks.{PlacedVertex, vertices}
use Rattle.td_plan.specs.Faults.{is_fold}
use Rattle.td_questions.specs.declared.question.Question.{Question}
use Rattle.td_questions.specs.declared.question.Wanted.{Wanted}
use Rattle.td_questions.specs.declared.question.Wanted.TheVariants.{Get, Range, Top, Least, Rank}

-- a percentile: 100 at most
abbrev pub percentile : ℕ → Option Wanted
percentile n = if nat_le n 100 then Some (Rank n) else None

-- what a word asks of one number
abbrev pub wanted_by : List ℕ → ℕ → Option Wanted
wanted_by word n =
    if bytes_eq word (codes "get") then Some (Get n)
    else (if bytes_eq word (codes "list") then Some (Range n None)
    else (if bytes_eq word (codes "top") then Some (Top n)
    else (if bytes_eq word (codes "least") then Some (Least n)
    else (if bytes_eq word (codes "rank") then percentile n else None))))

-- what is listed from a key on, so many of them
abbrev pub range_of : Option ℕ → Option ℕ → Option Wanted
range_of (Some from) (Some count) = Some (Range from (Some count))
range_of _ _ = None

-- what a word asks of a vertex, with the words that come after this
abbrev pub wanted_of : List ℕ → List (List ℕ) → Option Wanted
wanted_of word [] = if bytes_eq word (codes "list") then Some (Range 0 None) else None
wanted_of word (number ∷ []) = option_and_then (wanted_by word) (natural_of number)
wanted_of word (from ∷ count ∷ []) = if bytes_eq word (codes "list") then range_of (natural_of from) (natural_of count) else None
wanted_of word _ = None

abbrev pub asked_of : Option ℕ → Option Wanted → Option Question
asked_of (Some vertex) (Some wanted) = Some (record { vertex = vertex; wanted = wanted })
asked_of _ _ = None

-- WHAT WORDS ASK, if they have a form: `get V KEY`, `list V [FROM [COUNT]]`, `top V COUNT`, `least V COUNT` or `rank V P`
abbrev pub question_of : List (List ℕ) → Option Question
question_of (word ∷ vertex ∷ more) = asked_of (natural_of vertex) (wanted_of word more)
question_of _ = None

-- whether a fold of this number is among vertices
abbrev pub is_among : List PlacedVertex → ℕ → Bool
is_among vertices vertex = list_any (λ p. is_fold p.vertex.kind && nat_eq p.vertex.number vertex) vertices

-- the fold of a plan with this number, if it is one
abbrev pub fold_of : List Line → ℕ → Option ℕ
fold_of plan vertex = cond (is_among (vertices plan) vertex) (Some vertex) None
