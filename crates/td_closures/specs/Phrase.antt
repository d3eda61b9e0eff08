-- THE GRAMMAR OF EXPRESSIONS. A phrase is an expression as it is written, with its parentheses.
use Rattle.std.specs.Prelude.{◌≡◌, ◌≤◌, ℕ, suc, ℤ, Bool, true, false, ◌&&◌, nat_lt, nat_le, max, List, [], ◌∷◌, ◌++◌}
use Rattle.td_formula.specs.declared.expression.Name.{Name}
use Rattle.td_formula.specs.declared.expression.Sign.{Sign}
use Rattle.td_formula.specs.declared.expression.Sign.TheVariants as signs
use Rattle.td_formula.specs.declared.expression.Operator.{Operator}
use Rattle.td_formula.specs.declared.expression.Operator.TheVariants as operators
use Rattle.td_formula.specs.declared.expression.Expression.{Expression, Number, Named, One', Two', If'}
use Rattle.td_closures.specs.declared.token.Token.{Token}
use Rattle.td_closures.specs.declared.token.Token.TheVariants as tokens

pub data Phrase : Type 0 where
  number : ℤ → Phrase
  name : Name → Phrase
  parens : Phrase → Phrase
  prefix : Sign → Phrase → Phrase
  infix' : Operator → Phrase → Phrase → Phrase
  call : Operator → Phrase → Phrase → Phrase
  choice : Phrase → Phrase → Phrase → Phrase

-- the sign before a phrase: `not`, `-` and `abs`
abbrev pub sign_token : Sign → Token
sign_token signs.Not = tokens.Prefix signs.Not
sign_token signs.Negative = tokens.Infix operators.Minus
sign_token signs.Absolute = tokens.Prefix signs.Absolute

-- the tokens by which a phrase is written
abbrev pub written : Phrase → List Token
written (number n) = tokens.Number n ∷ []
written (name x) = tokens.Named x ∷ []
written (parens p) = tokens.Open ∷ (written p ++ tokens.Close ∷ [])
written (prefix s p) = sign_token s ∷ written p
written (infix' o p q) = written p ++ tokens.Infix o ∷ written q
written (call o p q) = tokens.Call o ∷ tokens.Open ∷ (written p ++ tokens.Comma ∷ (written q ++ tokens.Close ∷ []))
written (choice p q r) = tokens.If ∷ (written p ++ tokens.Then ∷ (written q ++ tokens.Else ∷ written r))

-- how tight an operator binds, and a sign; `min` and `max` stand between no expressions
abbrev pub operator_level : Operator → ℕ
operator_level operators.Or = 1
operator_level operators.And = 2
operator_level operators.Equal = 4
operator_level operators.Unequal = 4
operator_level operators.Less = 4
operator_level operators.AtMost = 4
operator_level operators.Greater = 4
operator_level operators.AtLeast = 4
operator_level operators.Plus = 5
operator_level operators.Minus = 5
operator_level operators.Times = 6
operator_level operators.Quotient = 6
operator_level operators.Remainder = 6
operator_level operators.Least = 9
operator_level operators.Most = 9

abbrev pub sign_level : Sign → ℕ
sign_level signs.Not = 3
sign_level signs.Negative = 7
sign_level signs.Absolute = 8

-- and a phrase: `if` is the loosest
abbrev pub level : Phrase → ℕ
level (prefix s p) = sign_level s
level (infix' o p q) = operator_level o
level (choice p q r) = 0
level _ = 8

-- What binds looser stands in parentheses; of operators of one level the first binds first.
abbrev pub is_formed : Phrase → Bool
is_formed (number n) = true
is_formed (name x) = true
is_formed (parens p) = is_formed p
is_formed (prefix s p) = nat_le (sign_level s) (level p) && is_formed p
is_formed (infix' o p q) = nat_le (operator_level o) (level p) && (nat_lt (operator_level o) (level q) && (is_formed p && is_formed q))
is_formed (call o p q) = is_formed p && is_formed q
is_formed (choice p q r) = is_formed p && (is_formed q && is_formed r)

-- how deep it is nested: a chain of operators of one level is not
abbrev pub nested : Phrase → ℕ
nested (number n) = 0
nested (name x) = 0
nested (parens p) = suc (nested p)
nested (prefix s p) = suc (nested p)
nested (infix' o p q) = max (nested p) (suc (nested q))
nested (call o p q) = suc (max (nested p) (nested q))
nested (choice p q r) = suc (max (nested p) (max (nested q) (nested r)))

-- without its parentheses: what is left is what an expression is
abbrev pub bare : Phrase → Phrase
bare (number n) = number n
bare (name x) = name x
bare (parens p) = bare p
bare (prefix s p) = prefix s (bare p)
bare (infix' o p q) = infix' o (bare p) (bare q)
bare (call o p q) = infix' o (bare p) (bare q)
bare (choice p q r) = choice (bare p) (bare q) (bare r)

abbrev pub tree_of : Expression → Phrase
tree_of (Number n) = number n
tree_of (Named x) = name x
tree_of (One' o p e) = prefix o (tree_of e)
tree_of (Two' o p e q f) = infix' o (tree_of e) (tree_of f)
tree_of (If' p test q e r f) = choice (tree_of test) (tree_of e) (tree_of f)

-- the tokens that end an expression
abbrev pub is_end : Token → Bool
is_end tokens.Comma = true
is_end tokens.When = true
is_end tokens.End = true
is_end _ = false

-- THESE TOKENS SPELL THIS EXPRESSION
pub record Spells (ts : List Token) (tree : Phrase) : Type 0 where
  pub phrase : Phrase
  pub tokens_are : written phrase ≡ ts
  pub formed : is_formed phrase ≡ true
  pub shallow : nested phrase ≤ 64
  pub tree_is : bare phrase ≡ tree

-- these tokens begin with an expression, and the rest with a token that ends it
abbrev pub begins_with_end : List Token → Bool
begins_with_end [] = false
begins_with_end (t ∷ ts) = is_end t

pub record IsRead (ts : List Token) (tree : Phrase) (rest : List Token) : Type 0 where
  pub front : List Token
  pub spelled : Spells front tree
  pub splits : ts ≡ front ++ rest
  pub ends : begins_with_end rest ≡ true
