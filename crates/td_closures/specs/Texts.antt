-- WHICH CLOSURES A TEXT SPELLS, and why it spells none.
use Rattle.std.specs.Prelude.{◌≡◌, ◌≤◌, ℕ, ◌+◌, Bool, true, false, nat_lt, if◌then◌else◌, List, [], ◌∷◌, ◌++◌, length, Result, Ok, Err}
use Rattle.td_plan.specs.Text.{text_lines}
use Rattle.td_closures.specs.declared.token.Token.{Token}
use Rattle.td_closures.specs.declared.token.Token.TheVariants as tokens
use Rattle.td_closures.specs.declared.fault.Wrong.{Wrong}
use Rattle.td_closures.specs.declared.fault.Wrong.TheVariants as wrongs
use Rattle.td_closures.specs.declared.fault.Fault.{Fault}
use Rattle.td_closures.specs.Lines.{Line, IsLine}
use Rattle.td_closures.specs.Reading.{and_then, line_of}
use Rattle.td_closures.specs.Drafts.{Said, Draft, no_draft, closures_of, with_line, tokens_in, is_long, after_words, nodes_in, after_nodes}

-- a line of no words
abbrev pub says_nothing : List Token → Bool
says_nothing (tokens.End ∷ []) = true
says_nothing ts = false

-- a line says nothing, or is spelled by its tokens and may stand there
pub record IsSaid (d : Draft) (ts : List Token) (f : Draft) : Type 0 where
  pub line : Line
  pub spelled : IsLine ts line
  pub few : nodes_in ts ≤ d.nodes
  pub stands : with_line (after_nodes d ts) line ≡ Ok f

abbrev pub AreSaidBy : Bool → Draft → List Token → Draft → Type 0
AreSaidBy true d ts f = f ≡ d
AreSaidBy false d ts f = IsSaid d ts f

abbrev pub AreSaid : Draft → List Token → Draft → Type 0
AreSaid d ts f = AreSaidBy (says_nothing ts) d ts f

-- what a line of the text adds to a draft
pub record Adds (d : Draft) (line : List ℕ) (f : Draft) : Type 0 where
  pub short : is_long d line ≡ false
  pub said : AreSaid (after_words d line) (tokens_in d line) f

-- what some lines add, one by one
abbrev pub Add : Draft → List (List ℕ) → Draft → Type 0
Add d [] e = d ≡ e
Add d (line ∷ lines) e = (f : Draft) × Adds d line f × Add f lines e

-- THE TEXT SPELLS THESE CLOSURES
pub record ClosuresText (text : List ℕ) (closures : List Said) : Type 0 where
  pub draft : Draft
  pub lines : Add no_draft (text_lines text) draft
  pub closures_are : closures ≡ closures_of draft

-- HOW A TEXT IS READ, line by line
abbrev pub with_said : Draft → List Token → Result Draft Wrong
with_said d ts = if nat_lt d.nodes (nodes_in ts) then Err wrongs.TooMany else and_then (line_of ts) (with_line (after_nodes d ts))

abbrev pub with_tokens : Draft → List Token → Result Draft Wrong
with_tokens d ts = if says_nothing ts then Ok d else with_said d ts

abbrev pub with_text : Draft → List ℕ → Result Draft Wrong
with_text d line = if is_long d line then Err wrongs.TooMany else with_tokens (after_words d line) (tokens_in d line)

abbrev pub at_line : ℕ → Result Draft Wrong → Result Draft Fault
at_line n (Ok f) = Ok f
at_line n (Err w) = Err (record { line = n; wrong = w })

abbrev pub lines_then : (Draft → Result Draft Fault) → Result Draft Fault → Result Draft Fault
lines_then more (Ok f) = more f
lines_then more (Err e) = Err e

abbrev pub lines_from : Draft → ℕ → List (List ℕ) → Result Draft Fault
lines_from d n [] = Ok d
lines_from d n (line ∷ lines) = lines_then (λ f. lines_from f (n + 1) lines) (at_line (n + 1) (with_text d line))

abbrev pub closures_then : Result Draft Fault → Result (List Said) Fault
closures_then (Ok d) = Ok (closures_of d)
closures_then (Err e) = Err e

abbrev pub answer_of : List ℕ → Result (List Said) Fault
answer_of text = closures_then (lines_from no_draft 0 (text_lines text))

-- THE FIRST LINE WITH A FAULT: the lines before it add up to a draft, to which it adds nothing, for this cause
pub record IsFirstFault (text : List ℕ) (fault : Fault) : Type 0 where
  pub front : List (List ℕ)
  pub line : List ℕ
  pub rest : List (List ℕ)
  pub splits : text_lines text ≡ front ++ line ∷ rest
  pub is_number : fault.line ≡ length front + 1
  pub before : Draft
  pub lines : Add no_draft front before
  pub adds_nothing : (f : Draft) → Adds before line f → ⊥
  pub cause : with_text before line ≡ Err fault.wrong
