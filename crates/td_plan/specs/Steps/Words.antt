-- How a line is read from its words, one by one.
use Rattle.std.specs.Prelude.{ℕ, nat_le, if◌then◌else◌, List, [], ◌∷◌, length, codes, Option, Some, None, option_map}
use Rattle.std.specs.Str.{bytes_eq}
use Rattle.td_plan.specs.declared.vertex.Kind.{Kind}
use Rattle.td_plan.specs.declared.vertex.Kind.TheVariants.{Input, Map, Distinct, Group, Fold, Enter, Feedback, Leave, Output}
use Rattle.td_plan.specs.Text.{words, is_passed_over, number_of}
use Rattle.td_plan.specs.Lines.{Line, has_arity}
use Rattle.td_plan.specs.Lines.Line.{vertex, loop, end}

-- the numbers that some words write, if each writes one
abbrev pub with_number : Option ℕ → Option (List ℕ) → Option (List ℕ)
with_number None numbers = None
with_number (Some n) numbers = option_map (λ ns. n ∷ ns) numbers

abbrev pub numbers_of : List (List ℕ) → Option (List ℕ)
numbers_of [] = Some []
numbers_of (word ∷ words) = with_number (number_of word) (numbers_of words)

-- a first word that is a code, and the words after it
abbrev pub with_rest : List (List ℕ) → Option ℕ → Option (ℕ × List (List ℕ))
with_rest rest None = None
with_rest rest (Some code) = if nat_le code 65535 then Some (code, rest) else None

abbrev pub code_of : List (List ℕ) → Option (ℕ × List (List ℕ))
code_of [] = None
code_of (word ∷ rest) = with_rest rest (number_of word)

-- the kind of this name, of those without a code
abbrev pub plain_kind : List ℕ → Option Kind
plain_kind name =
    if bytes_eq name (codes "input") then Some Input
    else (if bytes_eq name (codes "distinct") then Some Distinct
    else (if bytes_eq name (codes "enter") then Some Enter
    else (if bytes_eq name (codes "feedback") then Some Feedback
    else (if bytes_eq name (codes "leave") then Some Leave
    else (if bytes_eq name (codes "output") then Some Output else None)))))

-- and of those with one
abbrev pub coded_kind : List ℕ → ℕ → Option Kind
coded_kind name code =
    if bytes_eq name (codes "map") then Some (Map code)
    else (if bytes_eq name (codes "group") then Some (Group code)
    else (if bytes_eq name (codes "fold") then Some (Fold code) else None))

abbrev pub with_code : List ℕ → Option (ℕ × List (List ℕ)) → Option (Kind × List (List ℕ))
with_code name None = None
with_code name (Some p) = option_map (λ k. (k, p.1)) (coded_kind name p.0)

-- a kind, and the words after it
abbrev pub kind_by : List ℕ → List (List ℕ) → Option Kind → Option (Kind × List (List ℕ))
kind_by name rest None = with_code name (code_of rest)
kind_by name rest (Some kind) = Some (kind, rest)

abbrev pub kind_of : List (List ℕ) → Option (Kind × List (List ℕ))
kind_of [] = None
kind_of (name ∷ rest) = kind_by name rest (plain_kind name)

-- a vertex of this number and kind, if it has as many sources as the kind's form
abbrev pub with_sources : ℕ → Kind → Option (List ℕ) → Option Line
with_sources number kind None = None
with_sources number kind (Some sources) =
    if has_arity kind (length sources) then Some (vertex (record { number = number; kind = kind; sources = sources })) else None

abbrev pub with_kind : ℕ → Option (Kind × List (List ℕ)) → Option Line
with_kind number None = None
with_kind number (Some p) = with_sources number p.0 (numbers_of p.1)

abbrev pub vertex_of : Option ℕ → List (List ℕ) → Option Line
vertex_of None rest = None
vertex_of (Some number) rest = with_kind number (kind_of rest)

-- the head of a loop, from its bound, and the end of one, after which no word stands
abbrev pub head_of : List (List ℕ) → Option Line
head_of (word ∷ []) = option_map loop (number_of word)
head_of _ = None

abbrev pub end_of : List (List ℕ) → Option Line
end_of [] = Some end
end_of _ = None

-- a line, from its words
abbrev pub line_of : List (List ℕ) → Option Line
line_of [] = None
line_of (word ∷ rest) =
    if bytes_eq word (codes "loop") then head_of rest
    else (if bytes_eq word (codes "end") then end_of rest else vertex_of (number_of word) rest)

-- how a line of the text is read: as nothing, as a line that is passed over, or as a line of a plan
abbrev pub reading_of : List ℕ → Option (Option Line)
reading_of text = if is_passed_over text then Some None else option_map (λ line. Some line) (line_of (words text))
