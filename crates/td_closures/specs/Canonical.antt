-- THE CANONICAL TEXT OF CLOSURES: a line for each thing that a closure does, the fewest parentheses, and registers named r0 to r7.
use Rattle.std.specs.Prelude.{◌≤◌, ℕ, suc, pos, Bool, true, false, ◌&&◌, nat_lt, nat_le, if◌then◌else◌, List, [], ◌∷◌, ◌++◌, map, length, codes}
use Rattle.std.specs.Ordering.{int_eq}
use Rattle.std.specs.Fmt.{decimal, signed_decimal}
use Rattle.std.specs.List.{AllByRecursion}
use Rattle.td_formula.specs.declared.expression.Name.{Name}
use Rattle.td_formula.specs.declared.expression.Name.TheVariants as names
use Rattle.td_formula.specs.declared.expression.Sign.{Sign}
use Rattle.td_formula.specs.declared.expression.Sign.TheVariants as signs
use Rattle.td_formula.specs.declared.expression.Operator.{Operator}
use Rattle.td_formula.specs.declared.expression.Operator.TheVariants as operators
use Rattle.td_formula.specs.declared.closure.ClosureKind.{ClosureKind}
use Rattle.td_formula.specs.declared.closure.ClosureKind.TheVariants as kinds
use Rattle.td_plan.specs.Text.{text_lines}
use Rattle.td_closures.specs.Phrase.{Phrase, number, name, parens, prefix, infix', call, choice, operator_level, sign_level, level}
use Rattle.td_closures.specs.Lines.{Assigned, Paired, Line}
use Rattle.td_closures.specs.Lines.Line.{head, lets, item, each, send, keep}
use Rattle.td_closures.specs.Drafts.{Said}

-- THE FEWEST PARENTHESES. Where an expression must bind at least so tight, one that binds looser stands in parentheses
abbrev pub placed : ℕ → Phrase → Phrase
placed least p = if nat_lt (level p) least then parens p else p

-- an operator stands between two expressions, or begins a call
abbrev pub joined : Operator → Phrase → Phrase → Phrase
joined o p q = if nat_le (operator_level o) 8 then infix' o (placed (operator_level o) p) (placed (suc (operator_level o)) q) else call o p q

abbrev pub canonical : Phrase → Phrase
canonical (number n) = number n
canonical (name x) = name x
canonical (parens p) = canonical p
canonical (prefix s p) = prefix s (placed (sign_level s) (canonical p))
canonical (infix' o p q) = joined o (canonical p) (canonical q)
canonical (call o p q) = joined o (canonical p) (canonical q)
canonical (choice p q r) = choice (canonical p) (canonical q) (canonical r)

-- THE TEXT OF AN EXPRESSION. The word of a name: a register has its number
abbrev pub name_text : Name → List ℕ
name_text names.Key = codes "key"
name_text names.Val = codes "val"
name_text names.Port = codes "port"
name_text names.A = codes "a"
name_text names.B = codes "b"
name_text names.BeforeA = codes "before_a"
name_text names.BeforeB = codes "before_b"
name_text names.Known = codes "known"
name_text names.Items = codes "items"
name_text names.Lost = codes "lost"
name_text (names.Register r) = 114 ∷ decimal r

abbrev pub sign_text : Sign → List ℕ
sign_text signs.Not = codes "not "
sign_text signs.Negative = codes "-"
sign_text signs.Absolute = codes "abs "

abbrev pub operator_text : Operator → List ℕ
operator_text operators.Or = codes "or"
operator_text operators.And = codes "and"
operator_text operators.Equal = codes "="
operator_text operators.Unequal = codes "!="
operator_text operators.Less = codes "<"
operator_text operators.AtMost = codes "<="
operator_text operators.Greater = codes ">"
operator_text operators.AtLeast = codes ">="
operator_text operators.Plus = codes "+"
operator_text operators.Minus = codes "-"
operator_text operators.Times = codes "*"
operator_text operators.Quotient = codes "/"
operator_text operators.Remainder = codes "%"
operator_text operators.Least = codes "min"
operator_text operators.Most = codes "max"

abbrev pub phrase_text : Phrase → List ℕ
phrase_text (number n) = signed_decimal n
phrase_text (name x) = name_text x
phrase_text (parens p) = codes "(" ++ (phrase_text p ++ codes ")")
phrase_text (prefix s p) = sign_text s ++ phrase_text p
phrase_text (infix' o p q) = phrase_text p ++ (codes " " ++ (operator_text o ++ (codes " " ++ phrase_text q)))
phrase_text (call o p q) = operator_text o ++ (codes "(" ++ (phrase_text p ++ (codes ", " ++ (phrase_text q ++ codes ")"))))
phrase_text (choice p q r) = codes "if " ++ (phrase_text p ++ (codes " then " ++ (phrase_text q ++ (codes " else " ++ phrase_text r))))

-- a parenthesis, where an expression of this level must bind tighter than it does
abbrev pub parenthesis : ℕ → ℕ → ℕ → List ℕ
parenthesis tight least b = if nat_lt tight least then b ∷ [] else []

-- where an expression must bind at least so tight; and where anything may stand
abbrev pub placed_text : ℕ → Phrase → List ℕ
placed_text least e = phrase_text (placed least (canonical e))

abbrev pub expression_text : Phrase → List ℕ
expression_text e = phrase_text (canonical e)

-- THE TEXT OF A LINE. A condition that is 1 is left out
abbrev pub is_one : Phrase → Bool
is_one (number n) = int_eq n (pos 1)
is_one _ = false

abbrev pub when_text : Phrase → List ℕ
when_text w = if is_one w then [] else codes " when " ++ expression_text w

abbrev pub change_text : Assigned → List ℕ
change_text c = name_text c.name ++ (codes " = " ++ (expression_text c.value ++ when_text c.when))

abbrev pub changes_text : List Assigned → List ℕ
changes_text [] = []
changes_text (c ∷ []) = change_text c
changes_text (c ∷ d ∷ cs) = change_text c ++ (codes ", " ++ changes_text (d ∷ cs))

abbrev pub pair_text : Paired → List ℕ
pair_text p = expression_text p.first ++ (codes ", " ++ (expression_text p.second ++ when_text p.when))

abbrev pub kind_text : ClosureKind → List ℕ
kind_text kinds.Map = codes "map "
kind_text kinds.Group = codes "group "
kind_text kinds.Fold = codes "fold "

abbrev pub line_text : Line → List ℕ
line_text (head kind code) = kind_text kind ++ decimal code
line_text (lets cs) = codes "  let " ++ changes_text cs
line_text (item cs) = codes "  item " ++ changes_text cs
line_text (each p) = codes "  each " ++ pair_text p
line_text (send p) = codes "  send " ++ pair_text p
line_text (keep p) = codes "  keep " ++ pair_text p

-- each with its line feed
abbrev pub lines_text : List Line → List ℕ
lines_text [] = []
lines_text (l ∷ ls) = line_text l ++ (codes "\n" ++ lines_text ls)

-- THE LINES OF A CLOSURE, in one order. A state that stays as it is has none
abbrev pub is_a : Phrase → Bool
is_a (name names.A) = true
is_a _ = false

abbrev pub is_b : Phrase → Bool
is_b (name names.B) = true
is_b _ = false

abbrev pub is_unchanged : Paired → Bool
is_unchanged p = is_a p.first && (is_b p.second && is_one p.when)

abbrev pub keep_lines : Paired → List Line
keep_lines p = if is_unchanged p then [] else keep p ∷ []

abbrev pub let_line : Assigned → Line
let_line c = lets (c ∷ [])

abbrev pub item_line : Assigned → Line
item_line c = item (c ∷ [])

abbrev pub lines_of : Said → List Line
lines_of c = head c.kind c.code ∷ (map let_line c.lets ++ (map item_line c.changes ++ (map each c.each ++ (map send c.sends ++ keep_lines c.keep))))

abbrev pub closure_text : Said → List ℕ
closure_text c = lines_text (lines_of c)

-- THE CANONICAL TEXT OF CLOSURES
abbrev pub closures_text : List Said → List ℕ
closures_text [] = []
closures_text (c ∷ cs) = closure_text c ++ closures_text cs

-- the limits that a text may pass which is spelled otherwise: 4,096 bytes a line, and 1,048,577 in all
pub record FitsLimits (text : List ℕ) : Type 0 where
  pub lines : AllByRecursion (λ (line : List ℕ). length line ≤ 4096) (text_lines text)
  pub bytes : length text ≤ 1048577
