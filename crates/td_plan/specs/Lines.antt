-- A plan is the list of its lines. A line stands in a scope (`Blocks`): the vertices so far with the loops round each, and the
-- loops that are open. Definitions have the innermost loop first, and the code hands out the outermost first. Two blocks differ
-- in the first numbers of their loops: two loops side by side share none, since a loop without a vertex is refused.
use Rattle.std.specs.Prelude.{ℕ, List, [], ◌∷◌, ◌++◌, map, codes, decimal, flat_map, Bool, true, ◌&&◌, ◌==◌, nat_lt, nat_le, length}
use Rattle.std.specs.List.{join_with_byte, list_all}
use Rattle.td_plan.specs.declared.vertex.Kind.{Kind}
use Rattle.td_plan.specs.declared.vertex.Kind.TheVariants.{Input, Map, Distinct, Group, Fold, Enter, Feedback, Leave, Output}
use Rattle.td_plan.specs.Text.{has_nine_digits}

-- A vertex: its number, what it does, and the numbers of its sources, by port
pub record Vertex : Type 0 where
  pub number : ℕ
  pub kind : Kind
  pub sources : List ℕ

-- A line: a vertex, the head of a loop with its bound, or the end of a loop
pub data Line : Type 0 where
  vertex : Vertex → Line
  loop : ℕ → Line
  end : Line

-- the words of a kind
abbrev pub words_of_kind : Kind → List (List ℕ)
words_of_kind Input = codes "input" ∷ []
words_of_kind (Map code) = codes "map" ∷ decimal code ∷ []
words_of_kind Distinct = codes "distinct" ∷ []
words_of_kind (Group code) = codes "group" ∷ decimal code ∷ []
words_of_kind (Fold code) = codes "fold" ∷ decimal code ∷ []
words_of_kind Enter = codes "enter" ∷ []
words_of_kind Feedback = codes "feedback" ∷ []
words_of_kind Leave = codes "leave" ∷ []
words_of_kind Output = codes "output" ∷ []

-- the words by which a line is written
abbrev pub words_of : Line → List (List ℕ)
words_of (vertex v) = decimal v.number ∷ words_of_kind v.kind ++ map decimal v.sources
words_of (loop bound) = codes "loop" ∷ decimal bound ∷ []
words_of end = codes "end" ∷ []

-- `N KIND CODE`: what a vertex is called
abbrev pub name_of : Vertex → List ℕ
name_of v = join_with_byte 32 (decimal v.number ∷ words_of_kind v.kind)

-- how many sources the form of a kind has: none, one, one or more, or any number
abbrev pub has_arity : Kind → ℕ → Bool
has_arity Input n = n == 0
has_arity (Map code) n = nat_lt 0 n
has_arity Distinct n = nat_lt 0 n
has_arity (Group code) n = nat_lt 0 n
has_arity (Fold code) n = nat_lt 0 n
has_arity Enter n = n == 1
has_arity Feedback n = true
has_arity Leave n = n == 1
has_arity Output n = nat_lt 0 n

-- a code is at most 65535
abbrev pub has_code : Kind → Bool
has_code (Map code) = nat_le code 65535
has_code (Group code) = nat_le code 65535
has_code (Fold code) = nat_le code 65535
has_code _ = true

-- a line of one of the forms
abbrev pub has_form : Line → Bool
has_form (vertex v) = has_nine_digits v.number && has_code v.kind && list_all has_nine_digits v.sources && has_arity v.kind (length v.sources)
has_form (loop bound) = has_nine_digits bound
has_form end = true

-- the canonical text of a line, and of a plan
abbrev pub text_of_line : Line → List ℕ
text_of_line line = join_with_byte 32 (words_of line) ++ 10 ∷ []

abbrev pub text_of : List Line → List ℕ
text_of plan = flat_map text_of_line plan
